-- `small_ranks::push_row` meets its contract: the part that is lent begins behind the rows that have moved. Assumes nothing.
use Prim.Native.Nat.{ℕ, ◌+◌, ◌-◌, ◌*◌, ◌<◌}
use native.Mathlib.Nat.{le_refl}
use native.Mathlib.Omega.{arith}
use mathlib.Core.Path.{◌≡◌, refl, ap, ◌∙◌}
use lib.ListN.{get_or}
use Rattle.lists.proofs.Tabulate.{filled_front}
use Rattle.small_ranks.proofs.Rows.{held_pushed}
use Rattle.small_ranks.proofs.push_row.Goals as goal

pub returns : goal.returns
returns c =
    let a = c.args in
    let stride = a.frame.width + 30 in
    let up : (i : ℕ) → i < a.last * stride → get_or c.copy_within.new.self i 0 ≡ get_or a.rows.now (stride + i) 0 = λ i b.
    let on : stride + (i - 0) ≡ stride + i = omega arith in
    c.copy_within.ensures.by_index.0 i 0 (omega arith) (omega (arith, b)) ∙ ap (λ (k : ℕ). get_or a.rows.now k 0) on in
    λ k. held_pushed a.frame _ a.y k a.last _ a.rows.now _ _ refl (omega (arith, c.requires.3, c.copy_within.ensures.len)) up (filled_front _ _ _ _ _ (le_refl _) (le_refl _) c.padded_row.ensures)
