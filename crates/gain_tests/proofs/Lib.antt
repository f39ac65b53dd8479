mod GainTest
