-- `header_writer::HeadBuilder::push_number` ends: n / 10 is less than n. Assumes nothing.
use Rattle.header_writer.proofs.HeadBuilder.+push_number.Given as goal

abbrev pub decreases-push_number : goal.decreases-push_number
decreases-push_number l = l.n
