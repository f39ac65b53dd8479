-- What two runs that are not refused have shown. Assumes nothing.
use Prim.Native.Nat.{ℕ, ◌*◌, ◌≤◌}
use native.Mathlib.Omega.{arith}
use mathlib.Core.Path.{◌≡◌, refl, sym, ◌∙◌}
use mathlib.Core.Bool.{true, false, ◌&&◌, and-eq-true_iff}
use lib.Dec.{eqb}
use borrow.Author.Tests.{leb-true, eqb-true}
use Rattle.std.specs.Prelude.{Result, Ok, Err}
use Rattle.refusals.specs.declared.Refusal.{Refusal}
use Rattle.refusals.proofs.Passed.{AllPass, passed, passed_all, passed_whole, refused-whole, refused_tests, all_append}
use Rattle.answers.specs.declared.Filtered.{Filtered}
use Rattle.filter_answers.specs.Limits.{archive}
use Rattle.filter_answers.specs.FileAnswer.{lent_tests}
use Rattle.filter_answers.proofs.FileAccepted.{file_done}
use Rattle.movement.specs.Order.{in_order}
use Rattle.movement_answers.specs.Run.{Run, stages, asked, file_of}
use Rattle.movement_answers.specs.MovementAnswer.{movement_tests, motions_between, counts, movement_answer}
use Rattle.movement_answers.specs.declared.Pair.{Pair}
use Rattle.movement_answers.specs.Plan.{pair_of, plan_of}
use Rattle.movement_answers.proofs.Plans.{tolerance_is, length_is}

-- a picture of W by H and c channels, its tolerance T and the length n of its file
abbrev pub picture : ℕ → ℕ → ℕ → ℕ → ℕ → Result Filtered Refusal
picture W H c T n = Ok (record { width = W; height = H; channels = c; tolerance = T; len = n })

-- two pictures of one size, W by H of c channels, and room for both
pub record Shown (L : ℕ) (a b : Run) (p : Pair) : Type 0 where
  pub limit : L ≤ 255
  pub W : ℕ
  pub H : ℕ
  pub c : ℕ
  pub first : asked a ≡ picture W H c p.tolerance1 p.len
  pub second : asked b ≡ picture W H c p.tolerance2 p.len
  pub first_fits : file_of a ≡ picture W H c p.tolerance1 p.len
  pub second_fits : file_of b ≡ picture W H c p.tolerance2 p.len
  pub samples-are : p.samples ≡ W * H * c
  pub answer-is : movement_answer L a b ≡ Ok (counts (motions_between L a b) a b)

module _ (L : ℕ) (a b : Run) where
  -- all tests passed, of what the runs come to
  AllPassed : Result Filtered Refusal → Result Filtered Refusal → Type 0
  AllPassed x y = AllPass (in_order L x y (lent_tests (stages a) a.lent x) (lent_tests (stages b) b.lent y))

  by_pictures : (x y : Result Filtered Refusal) → asked a ≡ x → asked b ≡ y → AllPassed x y → movement_answer L a b ≡ Ok (counts (motions_between L a b) a b) → Shown L a b (pair_of a b)
  unfolding AllPassed in_order
  by_pictures (Err r) y e f h g = let t : false ≡ true = h.1.0 in let z : ◌≡◌ {A = ℕ} 0 1 = cc in absurd (omega arith)
  by_pictures (Ok p) (Err r) e f h g = let t : false ≡ true = h.1.0 in let z : ◌≡◌ {A = ℕ} 0 1 = cc in absurd (omega arith)
  by_pictures (Ok p) (Ok q) e f h g =
      let same = (and-eq-true_iff (eqb p.width q.width && eqb p.height q.height) (eqb p.channels q.channels)).0 h.1.0 in
      let sides = (and-eq-true_iff (eqb p.width q.width) (eqb p.height q.height)).0 same.0 in
      let lent = all_append (lent_tests (stages a) a.lent (Ok p)) (lent_tests (stages b) b.lent (Ok q)) h.1.1 in
      let ew : p.width ≡ q.width = eqb-true p.width q.width sides.0 in
      let eh : p.height ≡ q.height = eqb-true p.height q.height sides.1 in
      let ec : p.channels ≡ q.channels = eqb-true p.channels q.channels same.1 in
      let en : q.len ≡ p.len = sym (length_is b f) ∙ rw (← ew, ← eh, ← ec) (length_is a e) in
      let one : ◌≡◌ {A = Result Filtered Refusal} (Ok q) (picture p.width p.height p.channels q.tolerance p.len) = rw (ew, eh, ec, ← en) refl in
      let pair : pair_of a b ≡ record { samples = p.width * p.height * p.channels; len = p.len; tolerance1 = p.tolerance; tolerance2 = q.tolerance } = rw (e, tolerance_is a e, tolerance_is b f) in
      rw pair
      (record {
        limit = leb-true L 255 h.0;
        W = p.width;
        H = p.height;
        c = p.channels;
        first = e;
        second = f ∙ one;
        first_fits = file_done archive a.recipe a.still a.lent e (passed_all _ lent.0);
        second_fits = file_done archive b.recipe b.still b.lent f (passed_all _ lent.1) ∙ one;
        samples-are = refl;
        answer-is = g;
      })

  pub shown : {p : Pair} → Ok p ≡ plan_of L a b → Shown L a b p
  unfolding plan_of movement_tests movement_answer AllPassed
  shown {p} e =
      let h = passed Err (movement_tests L a b) (Ok (pair_of a b)) (Ok p) (λ n f. let z : ◌≡◌ {A = ℕ} 0 1 = cc in omega arith) (sym e) in
      let t = h.1 in
      let q : pair_of a b ≡ p = cc in
      rw (sym q) (by_pictures (asked a) (asked b) refl refl h.0 (passed_whole Err _ (movement_tests L a b) (passed_all _ h.0)))

  -- what is refused before is the answer's refusal
  pub plan_refuses : {r : Refusal} → Err r ≡ plan_of L a b → movement_answer L a b ≡ Err r
  unfolding plan_of movement_answer
  plan_refuses e =
      refused-whole Err _ (movement_tests L a b) (refused_tests Err (λ m k f. cc) (movement_tests L a b) (Ok (pair_of a b)) (λ k f. let z : ◌≡◌ {A = ℕ} 0 1 = cc in omega arith) (sym e))
