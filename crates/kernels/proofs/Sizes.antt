-- The size of held weights is that of the taps that have them, and so an axis that is ready is light. Assumes nothing.
use Rattle.std.proofs.Common.{◌≡◌, ℕ, zero, suc, ◌+◌, ◌≤◌, List, [], ◌∷◌, length, get_or, take, refl, sym, ap, ◌∙◌, add-one}
use Rattle.std.proofs.Math.IntN.{ℤ, pos, nat_abs}
use Rattle.std.specs.Prelude.{map}
use native.Mathlib.Omega.{arith}
use lib.ListN.{length-map, length-take}
use Rattle.integers.specs.Sum.{sum}
use Rattle.lists.specs.Tabulate.{tabulate}
use Rattle.lists.proofs.Tabulate.{tabulate-get_or}
use Rattle.lists.proofs.Sums.{map-tabulate, sum_more, sum-none}
use Rattle.model.specs.Kernel.{Tap, Kernel, magnitude}
use Rattle.model.specs.Apportion.{share, apportion}
use Rattle.model_laws.proofs.Bounds.{magnitude-apportion}
use Rattle.stage_values.specs.declared.Axis.{Axis}
use Rattle.stage_values.specs.Size.{held_size}
use Rattle.stage_values.specs.Light.{Light}
use Rattle.stage_values.specs.Ready.{Ready}
use Rattle.stage_values.proofs.ReadyLaws.{rounded_few}

pub sizes : (weights : List ℤ) (n : ℕ) → held_size weights n ≡ sum (tabulate (λ i. nat_abs (get_or weights i (pos 0))) n)
sizes weights zero = sym (sum-none _)
sizes weights (suc n) = ap (λ (k : ℕ). k + nat_abs (get_or weights n (pos 0))) (sizes weights n) ∙ sym (rw add-one at (sum_more (λ i. nat_abs (get_or weights i (pos 0))) n))

weights_of : (ts : List Tap) → map (λ t. nat_abs t.weight) ts ≡ map nat_abs (map (λ t. t.weight) ts)
weights_of [] = refl
weights_of (t ∷ ts) = ap (λ (l : List ℕ). nat_abs t.weight ∷ l) (weights_of ts)

pub size_is : (weights : List ℤ) (n : ℕ) (ts : List Tap) → n ≤ length weights → take n weights ≡ map (λ t. t.weight) ts → held_size weights n ≡ magnitude ts
unfolding magnitude
size_is weights n ts h e =
    sizes weights n ∙ ap sum (sym (map-tabulate nat_abs (λ i. get_or weights i (pos 0)) n) ∙ ap (map nat_abs) (tabulate-get_or weights (pos 0) n h ∙ e) ∙ sym (weights_of ts))

-- ---- an axis that is ready

module _ {K : Kernel} {a : Axis} (r : Ready K a) where
  enough : a.len ≤ length a.weights
  unfolding apportion
  enough =
      let e = ap length r.shares ∙ length-map (apportion K) (λ t. t.weight) ∙ length-map K.taps (share K) ∙ sym r.count in
      omega (arith, e, length-take a.len a.weights)

  -- the weights are of a gain of about 4 at most, by what each of them is rounded
  pub ready_light : Light a
  ready_light = record {
    few = r.few;
    near = r.near;
    size = rw (size_is a.weights a.len (apportion K) enough r.shares) (omega (arith, magnitude-apportion K r.divided, r.scaled-gain, r.limited, r.rounded, rounded_few r));
  }
