-- `movement_runs::run` meets its contract: two runs of the file call, and what they wrote counted. Assumes nothing.
use native.Mathlib.Omega.{arith}
use mathlib.Core.Path.{refl}
use Rattle.movement_runs.specs.RunsBoth.{run_on}
use Rattle.movement_runs.proofs.Runs.{same-lent, leaves}
use Rattle.movement_runs.proofs.run.Goals as goal

pub counted-requires : goal.counted-requires
counted-requires c =
    let p = c.requires in
    record { limit = p.limit; first = p.first; second = p.second; few = p.few; ends = p.ends; fits1 = omega (arith, p.fits1); fits2 = omega (arith, p.fits2) }

pub returns : goal.returns
returns c =
    let a = c.args in
    record {
      first = leaves (run_on a.recipe1.now a.still1.now a.work.now a.rows.now a.sums.now a.out1.now) c.filter_file.ensures refl;
      second = leaves (run_on a.recipe2.now a.still2.now a.work.now a.rows.now a.sums.now a.out2.now) c.filter_file-2.ensures (same-lent (omega arith) (omega arith) (omega arith));
      counted = c.counted.ensures;
    }
