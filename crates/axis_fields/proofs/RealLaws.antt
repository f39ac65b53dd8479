-- The weights of a stage of reals, tested one by one. Assumes nothing.
use Prim.Native.Nat.{ℕ, suc, ◌+◌, ◌-◌, ◌*◌, ◌≤◌, ◌<◌}
use native.Mathlib.Omega.{arith}
use mathlib.Core.Path.{◌≡◌, ◌∙◌}
use mathlib.Core.Bool.{true, false, cond}
use mathlib.Core.List.{List}
use lib.ListN.{length, drop, length-drop}
use lib.Seq.{drop-drop}
use borrow.Author.Tests.{le-leb, lt-leb}
use Rattle.weights.specs.Bits.{accepted}
use Rattle.refusals.specs.declared.Refusal.TheVariants as Refusal
use Rattle.refusals.specs.Refusal.{Verdict, verdict}
use Rattle.std.specs.Prelude.{Ok, Err}
use Rattle.recipe_bytes.specs.Bytes.{bits, there}
use Rattle.recipe_bytes.proofs.ByteLaws.{bits-drop}
use Rattle.axis_fields.specs.AxisFields.{real_tests}

module _ (n i : ℕ) (part : List ℕ) where
  -- what is left to test, with the weight at i of n in front
  abbrev left : ℕ → Verdict
  left k = verdict (real_tests (n - k) (drop (4 * k) part))

  pub real_end : n ≤ i → left i ≡ Ok tt
  unfolding real_tests verdict
  real_end h = let e : n - i ≡ 0 = omega arith in rw e

  pub real_cut : i < n → length part < 4 * i + 4 → left i ≡ Err Refusal.Cut
  unfolding real_tests verdict there
  real_cut h l = let e : n - i ≡ suc (n - (i + 1)) = omega arith in rw (e, length-drop (4 * i) part, lt-leb 4 (length part - 4 * i) (omega arith))

  real_step : i < n → 4 * i + 4 ≤ length part → left i ≡ cond (accepted (bits part (4 * i))) (left (i + 1)) (Err Refusal.RealWeight)
  unfolding real_tests verdict there
  real_step h l =
      let e : n - i ≡ suc (n - (i + 1)) = omega arith in
      let f : 4 * i + 0 ≡ 4 * i = omega arith in
      let g : 4 * i + 4 ≡ 4 * (i + 1) = omega arith in
      rw (e, length-drop (4 * i) part, le-leb 4 (length part - 4 * i) (omega arith), bits-drop (4 * i) part 0, f, drop-drop 4 (4 * i) part, g)

  pub real_good : i < n → 4 * i + 4 ≤ length part → accepted (bits part (4 * i)) ≡ true → left i ≡ left (i + 1)
  real_good h l e = real_step h l ∙ rw e

  pub real_bad : i < n → 4 * i + 4 ≤ length part → accepted (bits part (4 * i)) ≡ false → left i ≡ Err Refusal.RealWeight
  real_bad h l e = real_step h l ∙ rw e
