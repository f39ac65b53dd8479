-- `filter_answers::lent_tests` meets its contract: a refusal asks for nothing. Assumes nothing.
use Rattle.refusals.specs.Refusal.{verdict}
use Rattle.filter_answers.proofs.lent_tests.Goals as goal

pub returns-in-Err : goal.returns-in-Err
unfolding verdict
returns-in-Err c =
    rw c.in-Err.is
