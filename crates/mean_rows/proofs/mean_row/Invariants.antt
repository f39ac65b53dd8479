-- `mean_rows::mean_row` meets its contract: what is stored so far, then what was there. Assumes nothing.
use Rattle.std.proofs.Common.{◌+◌, ◌*◌, ◌/◌}
use Rattle.lists.proofs.Stored.{Stored}
use Rattle.mean_rows.specs.Corners.{corners}
use Rattle.mean_rows.proofs.mean_row.Given as goal

abbrev pub invariant-loop-u : goal.invariant-loop-u
invariant-loop-u l = Stored (λ i. (2 * corners l.upper l.lower l.across i + l.area) / (2 * l.area)) l.w l.initial.dst l.dst l.u
