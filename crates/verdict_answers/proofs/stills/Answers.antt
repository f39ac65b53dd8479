-- `verdict_answers::stills` meets its contract: no plane of a still that is read is large. Assumes nothing.
use native.Mathlib.Omega.{arith}
use mathlib.Core.Path.{sym}
use Rattle.filter_answers.proofs.FileAccepted.{shown}
use Rattle.verdict_answers.proofs.stills.Goals as goal

pub overflow_mul-first : goal.overflow_mul-first
overflow_mul-first c =
    record { fits = omega (arith, (shown c.args.raw.now (sym c.in_ok-first.ensures)).plane_small) }
