-- EVERY BYTE AND EVERY LABEL BEHIND A CALL IS DETERMINED, and so is its answer: a contract of additions and removals leaves no choice. Assumes nothing.
use Prim.Native.Nat.{ℕ, zero, suc, ◌+◌, ◌*◌, ◌≤◌, ◌<◌, ◌/◌}
use native.Mathlib.Nat.{zero-mul, suc-mul, eq-or-lt_of_le}
use native.Mathlib.Omega.{arith}
use mathlib.Core.Path.{◌≡◌, sym, ap, ◌∙◌}
use mathlib.Core.Logic.{⊎_elim}
use mathlib.Core.List.{List, []}
use lib.ListN.{length, get_or, take, drop, take-append-drop, length-take}
use lib.Seq.{get_or-take, take-add, ext_get_or}
use Rattle.std.specs.Prelude.{Result, Ok, Err}
use Rattle.lists.proofs.Tabulate.{get_d_tabulate}
use Rattle.refusals.specs.declared.Refusal.{Refusal}
use Rattle.answers.specs.declared.Held.{Held}
use Rattle.background.specs.Background.{Member, member, Background, stills, samples}
use Rattle.background.specs.Change.{Outcome}
use Rattle.background.specs.Memory.{slot, member_in, background_in, Lies, Changes}

-- ---- lists that are equal part by part

-- in front and behind
front_and_behind : {A : Type 0} (n : ℕ) (xs ys : List A) → take n xs ≡ take n ys → drop n xs ≡ drop n ys → xs ≡ ys
front_and_behind n xs ys e f = sym (take-append-drop n xs) ∙ rw (e, f) (take-append-drop n ys)

-- slot by slot
slots_front : (size k : ℕ) (xs ys : List ℕ) → ((i : ℕ) → i < k → slot size i xs ≡ slot size i ys) → take (k * size) xs ≡ take (k * size) ys
unfolding slot
slots_front size zero xs ys h = rw zero-mul
slots_front size (suc k) xs ys h =
    rw (suc-mul, take-add (k * size) size xs, take-add (k * size) size ys, slots_front size k xs ys (λ i l. h i (omega arith)), h k (omega arith))

-- entry by entry, where those at 2·i and at 2·i + 1 are known for each i below k
module _ (k : ℕ) (xs ys : List ℕ) (even : (i : ℕ) → i < k → get_or xs (2 * i) 0 ≡ get_or ys (2 * i) 0) (odd : (i : ℕ) → i < k → get_or xs (2 * i + 1) 0 ≡ get_or ys (2 * i + 1) 0) where
  entries_front : (p : ℕ) → p < 2 * k → get_or xs p 0 ≡ get_or ys p 0
  entries_front p h =
      let below : 2 * (p / 2) ≤ p = omega arith in
      ⊎_elim
      (λ (e : 2 * (p / 2) ≡ p). rw e at (even (p / 2) (omega arith)))
      (λ (l : 2 * (p / 2) < p). let next : 2 * (p / 2) + 1 ≡ p = omega arith in rw next at (odd (p / 2) (omega arith)))
      (eq-or-lt_of_le below)

  labels_front : length xs ≡ length ys → take (2 * k) xs ≡ take (2 * k) ys
  labels_front e =
      ext_get_or 0 (take (2 * k) xs) (take (2 * k) ys) (simp (length-take, e))
      (λ p l. let b : p < 2 * k = omega (arith, l, length-take (2 * k) xs) in rw (get_or-take (2 * k) xs p 0 b, get_or-take (2 * k) ys p 0 b) (entries_front p b))

-- ---- two memories behind one call

-- the same bytes, the same labels and the same answer
pub record Agree (rasters₁ rasters₂ labels₁ labels₂ : List ℕ) (answer₁ answer₂ : Result Held Refusal) : Type 0 where
  pub rasters : rasters₁ ≡ rasters₂
  pub labels : labels₁ ≡ labels₂
  pub answer : answer₁ ≡ answer₂

module _ {b : Background} {rasters rasters₁ rasters₂ labels labels₁ labels₂ : List ℕ} (y₁ : Lies b rasters rasters₁ labels labels₁) (y₂ : Lies b rasters rasters₂ labels labels₂) where
  same-member : (i : ℕ) → i < stills b → member_in (samples b) rasters₁ labels₁ i ≡ member_in (samples b) rasters₂ labels₂ i
  unfolding background_in
  same-member i l =
      sym (get_d_tabulate (member_in (samples b) rasters₁ labels₁) (stills b) i (member 0 0 []) l)
      ∙ ap (λ (z : Background). get_or z.members i (member 0 0 [])) (y₁.held ∙ sym y₂.held)
      ∙ get_d_tabulate (member_in (samples b) rasters₂ labels₂) (stills b) i (member 0 0 []) l

  same_rasters : rasters₁ ≡ rasters₂
  unfolding member_in
  same_rasters =
      front_and_behind (stills b * samples b) rasters₁ rasters₂
      (slots_front (samples b) (stills b) rasters₁ rasters₂ (λ i l. ap (λ (m : Member). m.raster) (same-member i l)))
      (y₁.rasters-behind ∙ sym y₂.rasters-behind)

  same_labels : labels₁ ≡ labels₂
  unfolding member_in
  same_labels =
      front_and_behind (2 * stills b) labels₁ labels₂
      (labels_front (stills b) labels₁ labels₂ (λ i l. ap (λ (m : Member). m.number) (same-member i l)) (λ i l. ap (λ (m : Member). m.tolerance) (same-member i l))
      (y₁.labels_length ∙ sym y₂.labels_length))
      (y₁.labels_behind ∙ sym y₂.labels_behind)

-- THE CONTRACT LEAVES NO CHOICE, for any outcome and however long the memory is
pub determined : (o : Outcome) {rasters rasters₁ rasters₂ labels labels₁ labels₂ : List ℕ} {answer₁ answer₂ : Result Held Refusal}
    → Changes o rasters rasters₁ labels labels₁ answer₁ → Changes o rasters rasters₂ labels labels₂ answer₂
    → Agree rasters₁ rasters₂ labels₁ labels₂ answer₁ answer₂
determined (Err r) c d = record {
  rasters = c.left.0 ∙ sym d.left.0;
  labels = c.left.1 ∙ sym d.left.1;
  answer = c.answered ∙ sym d.answered;
}
determined (Ok b) c d = record {
  rasters = same_rasters c.left d.left;
  labels = same_labels c.left d.left;
  answer = c.answered ∙ sym d.answered;
}
