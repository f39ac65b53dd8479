-- `running_sums::put_lanes` meets its contract. Assumes nothing.
use Rattle.std.proofs.Common.{◌≡◌, ℕ, ◌+◌, ◌%◌, ◌^◌, get_or, refl, add-zero, arith, length-set}
use Rattle.lists.proofs.StoredAt.{stored}
use Rattle.running_sums.specs.Fours.{lane}
use Rattle.running_sums.proofs.Blocks.{four_stored}
use Rattle.running_sums.proofs.put_lanes.Goals as goal

pub bounds-sums-to-2 : goal.bounds-sums-to-2
bounds-sums-to-2 c =
    simp length-set (omega (arith, c.requires.1))

pub bounds-sums-to-3 : goal.bounds-sums-to-3
bounds-sums-to-3 c =
    simp length-set (omega (arith, c.requires.1))

pub bounds-sums-to-4 : goal.bounds-sums-to-4
bounds-sums-to-4 c =
    simp length-set (omega (arith, c.requires.1))

pub returns : goal.returns
unfolding stored lane
returns c =
    let a = c.args in
    let f : ℕ → ℕ = λ i. (get_or a.sums.now (a.from + i) 0 + lane a.t i) % 2 ^ 32 in
    let first : a.from + 0 ≡ a.from = add-zero a.from in
    four_stored f a.sums.now a.to _ _ _ _ c.requires.1 (rw first refl) refl refl refl
