-- The rows that the taps so far reach. Assumes nothing.
use Prim.Native.Nat.{ℕ, ◌+◌, ◌≤◌, ◌<◌, min, max}
use native.Mathlib.Nat.{eq-or-lt_of_le, not-suc-le-zero}
use native.Mathlib.Omega.{arith}
use mathlib.Core.Path.{◌≡◌}
use mathlib.Core.Logic.{⊎_elim}
use mathlib.Core.List.{List}
use lib.ListN.{get_or}
use Rattle.tap_sums.specs.HeldSums.{Reaches}

pub reaches_none : (offsets : List ℕ) → Reaches offsets 0 15 15
reaches_none offsets = record { own = (omega arith, omega arith); near = omega arith; all = λ i h. absurd (not-suc-le-zero h) }

-- one tap more
pub reaches_more : (offsets : List ℕ) (k first last f l : ℕ) → Reaches offsets k first last → get_or offsets k 0 ≤ 30
    → f ≡ min first (get_or offsets k 0) → l ≡ max last (get_or offsets k 0) → Reaches offsets (k + 1) f l
reaches_more offsets k first last f l r h ef el = record {
  own = (omega (arith, r.own.0, ef), omega (arith, r.own.1, el));
  near = omega (arith, r.near, h, el);
  all = λ i b. ⊎_elim (λ e. here i e) (λ b'. before i b') (eq-or-lt_of_le {n = i} {m = k} (omega (arith, b)));
}
  where
    here : (i : ℕ) → i ≡ k → (f ≤ get_or offsets i 0) × (get_or offsets i 0 ≤ l)
    here i e = rw e (omega (arith, ef), omega (arith, el))

    before : (i : ℕ) → i < k → (f ≤ get_or offsets i 0) × (get_or offsets i 0 ≤ l)
    before i b = let a = r.all i b in (omega (arith, a.0, ef), omega (arith, a.1, el))
