-- `near_rows::all_near` meets its contract: it stops at the first sample that is not near. Assumes nothing.
use Prim.Native.Nat.{ℕ, ◌*◌, ◌<◌}
use native.Mathlib.Omega.{arith}
use mathlib.Core.Path.{◌≡◌, refl, sym, ◌∙◌}
use mathlib.Core.Bool.{Bool, true, false}
use lib.ListN.{length, get_or}
use lib.IntN.{pos}
use borrow.Author.Rules.{rules}
use Rattle.std.proofs.Common.{tests}
use Rattle.std.specs.Bool.{MatchBool}
use Rattle.std.specs.List.{range_with_len, AllWithin, HoldsAt}
use Rattle.std.proofs.lemmas.List.FromFn.{get_or-range_with_len, length-range_with_len}
use Rattle.std.proofs.lemmas.Iterator.{cases_from_all, YieldsList-from_range}
use Rattle.near_rows.specs.Near.{near_clamped}
use Rattle.near_rows.specs.Everywhere.{everywhere}
use Rattle.near_rows.proofs.EverywhereLaws.{everywhere-all, everywhere_fails}
use Rattle.near_rows.proofs.all_near.Goals as goal

element : (n k : ℕ) → k < n → get_or (range_with_len 0 n) k 0 ≡ k
element n k b = get_or-range_with_len 0 n k 0 b ∙ omega arith

-- what is found of the numbers below n, one by one, is found of them all
tested : (n : ℕ) (p : ℕ → Bool) (r : Bool)
    → MatchBool r (AllWithin (λ u. p u ≡ true) (range_with_len 0 n) 0 (length (range_with_len 0 n))) ((k : ℕ) × (k < length (range_with_len 0 n)) × HoldsAt (λ u. p u ≡ false) (range_with_len 0 n) k)
    → r ≡ everywhere n p
tested n p true h = sym (everywhere-all p n (λ k b. rw (element n k b) at (h k 0 (omega arith) (rw (length-range_with_len 0 n) b))))
tested n p false h =
    let b : h.0 < n = rw (length-range_with_len 0 n) at h.1 in
    sym (everywhere_fails p n h.0 b (rw (element n h.0 b) at (h.2 0)))

pub returns : goal.returns
returns c =
    let a = c.args in
    let p = λ (u : ℕ). near_clamped a.c a.n (get_or a.received.now (u * a.step) 0) (get_or a.numerators.now u (pos 0)) in
    tested a.w p c.all.result
    (cases_from_all _ _ _ (λ u. p u ≡ true) (λ u. p u ≡ false) c.all.ensures.ran (YieldsList-from_range 0 a.w a.w refl (omega arith)) (λ x q k. search (rules, tests)) (λ x q k. search (rules, tests)))
