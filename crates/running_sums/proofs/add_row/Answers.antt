-- `running_sums::add_row` meets its contract: the blocks of four, and what is left behind them. Assumes nothing.
use Rattle.std.proofs.Common.{◌≡◌, ℕ, ◌+◌, ◌-◌, ◌*◌, ◌/◌, ◌≤◌, ◌⊎◌, inl, inr, ⊎_elim, add_assoc, arith, length-drop}
use native.Mathlib.Nat.{mod-add-div}
use Rattle.lists.proofs.Part.{tail_mid}
use Rattle.lists.proofs.StoredAt.{stored}
use Rattle.running_sums.proofs.Blocks.{stored_twice, above_kept, sum_behind}
use Rattle.running_sums.proofs.add_row.Goals as goal

-- blocks end inside the row
few : (n : ℕ) → 4 * (n / 4) ≤ n
few n = omega (arith, mod-add-div n 4)

-- rows apart begin with parts apart, and end with parts apart
front-apart : {from to width n : ℕ} → n ≤ width → (to ≤ from) ⊎ (from + width ≤ to) → (to ≤ from) ⊎ (from + n ≤ to)
front-apart k h = ⊎_elim (λ a. inl a) (λ b. inr (omega (arith, b, k))) h

end-apart : {from to width n : ℕ} → n ≤ width → (to ≤ from) ⊎ (from + width ≤ to) → (to + n ≤ from + n) ⊎ (from + n + (width - n) ≤ to + n)
end-apart k h = ⊎_elim (λ a. inl (omega (arith, a))) (λ b. inr (omega (arith, b, k))) h

pub four_sums-requires : goal.four_sums-requires
four_sums-requires c =
    let a = c.args in
    let p = c.requires in
    (omega (arith, p.3, few a.width), omega (arith, p.4, few a.width))

pub add_blocks-total-requires : goal.add_blocks-total-requires
add_blocks-total-requires c =
    let a = c.args in
    let p = c.requires in
    let k = few a.width in
    (omega (arith, p.0, k), omega (arith, p.1, k), front-apart k p.2, omega (arith, p.3, k), omega (arith, p.4, k), c.four_sums.ensures)

pub add_rest-requires : goal.add_rest-requires
add_rest-requires c =
    let a = c.args in
    let p = c.requires in
    let k = few a.width in
    (omega (arith, p.0, k), omega (arith, p.1, k), rw (tail_mid (4 * (a.width / 4)) a.row.now, length-drop) (omega (arith, p.3)), end-apart k p.2)

pub returns : goal.returns
unfolding stored
returns c =
    let a = c.args in
    let p = c.requires in
    let k = few a.width in
    let n = 4 * (a.width / 4) in
    let d = a.sums.now in
    let e = c.add_blocks-total.ensures in
    let whole : n + (a.width - n) ≡ a.width = omega (arith, k) in
    rw whole at (stored_twice _ _ d _ _ a.to n (a.width - n) (omega (arith, p.1)) e.1 (rw (tail_mid n a.row.now) at c.add_rest.ensures) (λ i h.
    let place : a.from + n + i ≡ a.from + (n + i) = add_assoc a.from n i in
    rw (place, above_kept _ d _ a.from a.to a.width n (n + i) (omega (arith, p.1)) p.2 (omega arith) (omega (arith, h, k)) e.1) (sum_behind _ n i _ a.row.now e.0)))
