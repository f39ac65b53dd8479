-- Sums by held taps, as sums by a list of taps. Assumes nothing.
use Prim.Native.Nat.{ℕ, zero, suc}
use native.Mathlib.Numerals.{add-one}
use native.Mathlib.Omega.{arith}
use mathlib.Core.Path.{◌≡◌, refl, sym, ap, ◌∙◌}
use mathlib.Core.List.{List, [], ◌∷◌, ◌++◌}
use lib.ListN.{get_or}
use lib.IntN.{ℤ, pos, ◌+ℤ◌, ◌*ℤ◌}
use Rattle.integers.proofs.Parts.{parts_ext, add_parts}
use Rattle.lists.specs.Tabulate.{tabulate}
use Rattle.lists.proofs.Tabulate.{tabulate_last}
use Rattle.model.specs.Kernel.{Tap, tap, weighted_sum}
use Rattle.stage_values.specs.Place.{offset_of}
use Rattle.tap_sums.specs.HeldSums.{held_tap, held_sum}

last_tap : (ts : List Tap) (t : Tap) (f : ℤ → ℤ) → weighted_sum (ts ++ (t ∷ [])) f ≡ weighted_sum ts f +ℤ t.weight *ℤ f t.offset
unfolding weighted_sum
last_tap [] t f = parts_ext _ _ (omega (arith, add_parts (t.weight *ℤ f t.offset) (pos 0), add_parts (pos 0) (t.weight *ℤ f t.offset)))
last_tap (s ∷ ts) t f =
    rw (last_tap ts t f)
    (parts_ext _ _ (omega (
      arith,
      add_parts (s.weight *ℤ f s.offset) (weighted_sum ts f +ℤ t.weight *ℤ f t.offset),
      add_parts (weighted_sum ts f) (t.weight *ℤ f t.offset),
      add_parts (s.weight *ℤ f s.offset) (weighted_sum ts f),
      add_parts (s.weight *ℤ f s.offset +ℤ weighted_sum ts f) (t.weight *ℤ f t.offset),
    )))

no_taps : (h : ℕ → Tap) (f : ℤ → ℤ) → weighted_sum (tabulate h 0) f ≡ pos 0
unfolding tabulate weighted_sum
no_taps h f = refl

pub held_list : (offsets : List ℕ) (weights : List ℤ) (f : ℤ → ℤ) (n : ℕ) → held_sum offsets weights n (λ o. f (offset_of o)) ≡ weighted_sum (tabulate (held_tap offsets weights) n) f
unfolding held_sum held_tap tap
held_list offsets weights f zero = sym (no_taps (held_tap offsets weights) f)
held_list offsets weights f (suc n) =
    let h = held_tap offsets weights in
    ap (λ (z : ℤ). z +ℤ get_or weights n (pos 0) *ℤ f (offset_of (get_or offsets n 0))) (held_list offsets weights f n)
    ∙ sym (last_tap (tabulate h n) (h n) f) ∙ ap (λ (ts : List Tap). weighted_sum ts f) (sym (rw add-one at (tabulate_last h n (h n) refl)))
