-- What the tests of sides and channels show. Assumes nothing.
use Prim.Native.Nat.{ℕ, ◌*◌, ◌≤◌}
use native.Mathlib.Nat.{mul-le-mul}
use native.Mathlib.Omega.{arith}
use mathlib.Core.Path.{◌≡◌}
use mathlib.Core.Bool.{true, ◌&&◌, and-eq-true_iff}
use mathlib.Core.Logic.{◌⊎◌, ⊎_elim}
use Rattle.picture_sizes.specs.PictureSize.{is_side, is_channels}

pub side-le : (n : ℕ) → is_side n ≡ true → (1 ≤ n) × (n ≤ 8192)
unfolding is_side
side-le n e = grind arith

pub sides_le : (w h : ℕ) → (is_side w && is_side h) ≡ true → ((1 ≤ w) × (w ≤ 8192)) × ((1 ≤ h) × (h ≤ 8192))
sides_le w h e = let s = (and-eq-true_iff (is_side w) (is_side h)).0 e in (side-le w s.0, side-le h s.1)

pub size_small : (w h c : ℕ) → w ≤ 8192 → h ≤ 8192 → c ≤ 3 → (w * h ≤ 67108864) × (w * h * c ≤ 201326592)
size_small w h c a b d = let e = mul-le-mul a b in (omega arith, mul-le-mul e d)

pub channels_cases : (c : ℕ) → is_channels c ≡ true → (c ≡ 1) ⊎ (c ≡ 3)
unfolding is_channels
channels_cases c e = grind arith

pub channels_few : (c : ℕ) → is_channels c ≡ true → c ≤ 3
channels_few c e = ⊎_elim (λ f. omega arith) (λ f. omega arith) (channels_cases c e)
