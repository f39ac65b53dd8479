-- The limit on an axis's gain ('Weights into 65,536ths').
use Rattle.std.specs.Prelude.{◌*◌, leb}
use Rattle.refusals.specs.declared.Refusal.TheVariants as Refusal
use Rattle.refusals.specs.Refusal.{Test}
use Rattle.model.specs.Kernel.{Kernel, magnitude}

-- a gain of no more than 4: the sizes of the numerators add up to 4 divisors or less
unfoldable pub gain_test : Kernel → Test
gain_test K = (leb (magnitude K.taps) (4 * K.divisor), Refusal.Gain)
