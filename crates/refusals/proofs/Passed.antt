-- An answer that is no refusal has passed every test; and tests that are run in parts. Assumes nothing.
use Prim.Native.Nat.{ℕ, ◌≤◌}
use mathlib.Core.Path.{◌≡◌, refl, sym, ap, ◌∙◌}
use mathlib.Core.Bool.{true, false, ◌&&◌, and-eq-true_iff}
use mathlib.Core.List.{List, [], ◌∷◌, ◌++◌, append-nil}
use native.Mathlib.Omega.{arith}
use lib.Dec.{leb}
use borrow.Author.Tests.{leb-true}
use Rattle.std.specs.Prelude.{Result, Ok, Err}
use Rattle.refusals.specs.declared.Refusal.{Refusal}
use Rattle.refusals.specs.Refusal.{Test, Verdict, tested, verdict, and_then}

abbrev pub AllPass : List Test → Type 0
AllPass [] = Unit {0}
AllPass (t ∷ ts) = (t.0 ≡ true) × AllPass ts

pub passed : {A : Type 0} (refuse : Refusal → A) (ts : List Test) (answer x : A) → ((n : Refusal) → refuse n ≡ x → ⊥) → tested refuse ts answer ≡ x → AllPass ts × (answer ≡ x)
passed refuse [] answer x never e = (tt, e)
passed refuse ((true, n) ∷ ts) answer x never e = let h = passed refuse ts answer x never e in ((refl, h.0), h.1)
passed refuse ((false, n) ∷ ts) answer x never e = absurd (never n e)

-- ---- tests in parts

module _ {A : Type 0} (refuse : Refusal → A) (ys : List Test) (answer : A) where
  -- a first part that passes leaves the rest
  pub passed_part : (xs : List Test) → verdict xs ≡ Ok tt → tested refuse (xs ++ ys) answer ≡ tested refuse ys answer
  unfolding verdict
  passed_part [] e = refl
  passed_part ((true, n) ∷ xs) e = passed_part xs e
  passed_part ((false, n) ∷ xs) e = let z : ◌≡◌ {A = ℕ} 0 1 = cc in absurd (omega arith)

  -- a first part that refuses decides
  pub refused-part : (xs : List Test) {n : Refusal} → verdict xs ≡ Err n → tested refuse (xs ++ ys) answer ≡ refuse n
  unfolding verdict
  refused-part [] e = let z : ◌≡◌ {A = ℕ} 0 1 = cc in absurd (omega arith)
  refused-part ((true, m) ∷ xs) e = refused-part xs e
  refused-part ((false, m) ∷ xs) {n} e = let d : m ≡ n = cc in ap refuse d

-- ---- answers by tests

module _ {A : Type 0} (refuse : Refusal → A) (answer : A) where
  -- tests that pass leave the answer
  pub passed_whole : (ts : List Test) → verdict ts ≡ Ok tt → tested refuse ts answer ≡ answer
  passed_whole ts e = ap (λ (l : List Test). tested refuse l answer) (sym (append-nil ts)) ∙ passed_part refuse [] answer ts e

  -- tests that refuse decide
  pub refused-whole : (ts : List Test) {n : Refusal} → verdict ts ≡ Err n → tested refuse ts answer ≡ refuse n
  refused-whole ts e = ap (λ (l : List Test). tested refuse l answer) (sym (append-nil ts)) ∙ refused-part refuse [] answer ts e

-- what leaves a refusal one may be done before the tests or behind them
pub tested_through : {A B : Type 0} (refuse : Refusal → A) (refuse' : Refusal → B) (f : A → B) → ((n : Refusal) → f (refuse n) ≡ refuse' n)
    → (ts : List Test) (answer : A) → f (tested refuse ts answer) ≡ tested refuse' ts (f answer)
tested_through refuse refuse' f kept [] answer = refl
tested_through refuse refuse' f kept ((true, n) ∷ ts) answer = tested_through refuse refuse' f kept ts answer
tested_through refuse refuse' f kept ((false, n) ∷ ts) answer = kept n

-- tests behind tests
pub tested_append : {A : Type 0} (refuse : Refusal → A) (xs ys : List Test) (answer : A) → tested refuse (xs ++ ys) answer ≡ tested refuse xs (tested refuse ys answer)
tested_append refuse [] ys answer = refl
tested_append refuse ((true, n) ∷ xs) ys answer = tested_append refuse xs ys answer
tested_append refuse ((false, n) ∷ xs) ys answer = refl

-- an answer that is a refusal was refused by the tests, where what the call gives is none
pub refused_tests : {A : Type 0} (refuse : Refusal → A) → ((m n : Refusal) → refuse m ≡ refuse n → m ≡ n) → (ts : List Test) (answer : A) {n : Refusal} → ((k : Refusal) → answer ≡ refuse k → ⊥)
    → tested refuse ts answer ≡ refuse n → verdict ts ≡ Err n
unfolding verdict
refused_tests refuse same [] answer never e = absurd (never _ e)
refused_tests refuse same ((true, m) ∷ ts) answer never e = refused_tests refuse same ts answer never e
refused_tests refuse same ((false, m) ∷ ts) answer {n} never e = ap Err (same m n e)

pub all_pass : (ts : List Test) → verdict ts ≡ Ok tt → AllPass ts
unfolding verdict
all_pass ts e = (passed Err ts (Ok tt) (Ok tt) (λ n (f : ◌≡◌ {A = Verdict} (Err n) (Ok tt)). let z : ◌≡◌ {A = ℕ} 0 1 = cc in omega arith) e).0

pub verdict_append : (xs ys : List Test) → verdict (xs ++ ys) ≡ and_then (verdict xs) (verdict ys)
unfolding verdict
verdict_append [] ys = refl
verdict_append ((true, n) ∷ xs) ys = verdict_append xs ys
verdict_append ((false, n) ∷ xs) ys = refl

pub all_append : (xs ys : List Test) → AllPass (xs ++ ys) → AllPass xs × AllPass ys
all_append [] ys h = (tt, h)
all_append (t ∷ xs) ys h = let r = all_append xs ys h.1 in ((h.0, r.0), r.1)

pub passed_all : (ts : List Test) → AllPass ts → verdict ts ≡ Ok tt
unfolding verdict
passed_all [] h = refl
passed_all ((true, n) ∷ ts) h = passed_all ts h.1
passed_all ((false, n) ∷ ts) h = let z : ◌≡◌ {A = ℕ} 0 1 = cc in absurd (omega arith)

-- a first part that refuses, or passes
pub refused_first : (xs ys : List Test) {n : Refusal} → verdict xs ≡ Err n → Err n ≡ verdict (xs ++ ys)
refused_first xs ys e = rw (verdict_append xs ys, e)

pub passed_first : (xs ys : List Test) → verdict xs ≡ Ok tt → verdict ys ≡ verdict (xs ++ ys)
passed_first xs ys e = rw (verdict_append xs ys, e)

-- ---- a test that n is from l to h

pub between : (l n h : ℕ) → (leb l n && leb n h) ≡ true → (l ≤ n) × (n ≤ h)
between l n h e = let p = (and-eq-true_iff (leb l n) (leb n h)).0 e in (leb-true l n p.0, leb-true n h p.1)

-- ---- answers that `?` hands on

module _ {A B : Type 0} (a : A) (ys : List Test) (answer : Result B Refusal) where
  -- where a first part refuses, the whole does
  pub refused_before : (xs : List Test) {r : Refusal} → tested Err xs (Ok a) ≡ Err r → tested Err (xs ++ ys) answer ≡ Err r
  refused_before [] e = let z : ◌≡◌ {A = ℕ} 0 1 = cc in absurd (omega arith)
  refused_before ((true, m) ∷ xs) e = refused_before xs e
  refused_before ((false, m) ∷ xs) {r} e = let d : m ≡ r = cc in ap Err d

  -- where it gives something, that is what it was to give, and the rest decides
  pub given_before : (xs : List Test) {v : A} → tested Err xs (Ok a) ≡ Ok v → (a ≡ v) × (tested Err (xs ++ ys) answer ≡ tested Err ys answer)
  given_before [] e = (cc, refl)
  given_before ((true, m) ∷ xs) e = given_before xs e
  given_before ((false, m) ∷ xs) e = let z : ◌≡◌ {A = ℕ} 0 1 = cc in absurd (omega arith)
