-- `exact_weights::ratios_near` meets its contract: row by row, and the first row that is not near decides. Assumes nothing.
use Prim.Native.Nat.{ℕ}
use mathlib.Core.Path.{◌≡◌}
use mathlib.Core.List.{List}
use lib.ListN.{length}
use lib.IntN.{ℤ}
use Rattle.model.specs.Stage.{weighted}
use Rattle.model.specs.Exact.{numerator}
use Rattle.frame.specs.declared.Frame.{Frame}
use Rattle.frame.specs.Framed.{neighbours}
use Rattle.near_rows.proofs.RowLaws.{RowsNear}
use Rattle.whole_taps.specs.declared.Taps.{Taps}
use Rattle.whole_taps.specs.Whole.{kernel_is}
use Rattle.exact_weights.proofs.ratios_near.Given as goal

-- the numerator at column u, row v
abbrev pub at : Frame → Taps → Taps → List ℕ → ℕ → ℕ → ℤ
at frame across down plane u v = numerator (weighted (kernel_is across) (kernel_is down)) (neighbours frame plane u v)

abbrev pub invariant-loop-v : goal.invariant-loop-v
invariant-loop-v l = RowsNear l.c l.n l.w l.h l.channel l.received (at l.frame l.across.taps l.down.taps l.plane) l.v × (8224 ≡ length l.row) × (8224 ≡ length l.sums) × (8192 ≡ length l.wide)
