-- A recipe that was accepted, stage by stage: k of S stages lie before place `at`. Assumes nothing.
use Prim.Native.Nat.{ℕ, suc, ◌+◌, ◌-◌, ◌*◌, ◌≤◌, ◌<◌}
use native.Mathlib.Nat.{sub-zero}
use native.Mathlib.Omega.{arith}
use mathlib.Core.Path.{◌≡◌}
use mathlib.Core.List.{List, [], ◌∷◌}
use lib.ListN.{length, drop, length-drop}
use lib.Seq.{drop-drop}
use borrow.Author.Tests.{leb-true}
use Rattle.refusals.specs.Refusal.{verdict}
use Rattle.std.specs.Prelude.{Ok}
use Rattle.refusals.proofs.Passed.{AllPass, all_pass, all_append, passed_all, between}
use Rattle.recipe_bytes.specs.Bytes.{at, there}
use Rattle.recipe_stages.specs.StageBytes.{stage_tests, stage_length, stage_of}
use Rattle.recipe.specs.Recipe.{stages_tests, stages_of, recipe_tests}

-- `rest` is the bytes of the stages that are left, k of S being done
module _ (S k : ℕ) (rest : List ℕ) where
  module _ (h : k < S) where
    split : S - k ≡ suc (S - (k + 1))
    split = omega (arith, h)

    -- the next stage is one that passes, and so do those behind it
    pub rest_passes : AllPass (stages_tests (S - k) rest) → (verdict (stage_tests rest) ≡ Ok tt) × AllPass (stages_tests (S - (k + 1)) (drop (stage_length rest) rest))
    unfolding stages_tests
    rest_passes p = let q = all_append (stage_tests rest) _ (rw split at p) in (passed_all _ q.0, q.1)

    pub rest_stages : stages_of (S - k) rest ≡ stage_of rest ∷ stages_of (S - (k + 1)) (drop (stage_length rest) rest)
    unfolding stages_of
    rest_stages = rw split

  -- all are done
  pub rest_none : S ≤ k → stages_of (S - k) rest ≡ []
  unfolding stages_of
  rest_none h = let e : S - k ≡ 0 = omega (arith, h) in rw e

-- the stages that are left are accepted too
pub record Walk (b : List ℕ) (S k a : ℕ) : Type 0 where
  pub few : S ≤ 8
  pub done : k ≤ S
  pub inside : a ≤ length b
  pub near : a ≤ 1 + 8195 * k
  pub left : AllPass (stages_tests (S - k) (drop a b))

module _ (b : List ℕ) where
  pub walk_start : verdict (recipe_tests b) ≡ Ok tt → (1 ≤ length b) × Walk b (at b 0) 0 1
  unfolding recipe_tests there
  walk_start e =
      let g = all_pass (recipe_tests b) e in
      let c = between 1 (at b 0) 8 g.1.0 in
      let l = leb-true 1 (length b) g.0 in
      (l, record { few = c.1; done = omega arith; inside = l; near = omega arith; left = rw sub-zero g.1.1 })

  module _ {S k a : ℕ} (w : Walk b S k a) (h : k < S) where
    -- its place is a number that the code can hold
    pub walk_near : a ≤ 65537
    walk_near = omega (arith, w.near, w.few, h)

    -- the next is one that passes
    pub walk_tests : verdict (stage_tests (drop a b)) ≡ Ok tt
    walk_tests = (rest_passes S k (drop a b) h w.left).0

    pub walk_more : (n : ℕ) → n ≡ stage_length (drop a b) → n ≤ length (drop a b) → n ≤ 8195 → Walk b S (k + 1) (a + n)
    walk_more n e l m = record {
      few = w.few;
      done = omega (arith, h);
      inside = omega (arith, l, length-drop a b, w.inside);
      near = omega (arith, m, w.near);
      left = rw (e, ← drop-drop (stage_length (drop a b)) a b) (rest_passes S k (drop a b) h w.left).1;
    }

    pub walk_stages : (n : ℕ) → n ≡ stage_length (drop a b) → stages_of (S - k) (drop a b) ≡ stage_of (drop a b) ∷ stages_of (S - (k + 1)) (drop (a + n) b)
    walk_stages n e = rw (rest_stages S k (drop a b) h, e, drop-drop (stage_length (drop a b)) a b)

-- all are done
pub walk_end : (b : List ℕ) (S k a : ℕ) → S ≤ k → stages_of (S - k) (drop a b) ≡ []
walk_end b S k a h = rest_none S k (drop a b) h
