-- What room for the stills held shows: their numbers are small, so that no product overflows, and they lie inside the memory lent. Assumes nothing.
use Prim.Native.Nat.{ℕ, ◌*◌, ◌≤◌, ◌<◌}
use native.Mathlib.Nat.{mul-le-mul}
use native.Mathlib.Omega.{arith}
use mathlib.Core.Path.{◌≡◌, refl}
use mathlib.Core.Bool.{Bool, true, false, ◌&&◌, and-eq-true_iff}
use lib.Dec.{leb, ltb}
use borrow.Author.Tests.{ne_eqb, leb-true, ltb-true, ltb-false}
use Rattle.answers.specs.declared.Held.{Held}
use Rattle.background.specs.Room.{room_for, small_numbers, held_room}

pub record Small (h : Held) : Type 0 where
  pub count : h.count ≤ 65535
  pub plane : h.width * h.height ≤ 65535 * 65535
  pub raster : h.width * h.height * h.channels ≤ 65535 * 65535 * 65535
  pub all : h.count * (h.width * h.height * h.channels) ≤ 65535 * (65535 * 65535 * 65535)

pub small : (h : Held) → small_numbers h ≡ true → Small h
unfolding small_numbers
small h e =
    let a = (and-eq-true_iff (leb h.count 65535 && leb h.width 65535 && leb h.height 65535) (leb h.channels 65535)).0 e in
    let b = (and-eq-true_iff (leb h.count 65535 && leb h.width 65535) (leb h.height 65535)).0 a.0 in
    let c = (and-eq-true_iff (leb h.count 65535) (leb h.width 65535)).0 b.0 in
    let plane : h.width * h.height ≤ 65535 * 65535 = mul-le-mul (leb-true _ _ c.1) (leb-true _ _ b.1) in
    let raster : h.width * h.height * h.channels ≤ 65535 * 65535 * 65535 = mul-le-mul plane (leb-true _ _ a.1) in
    record { count = leb-true _ _ c.0; plane = plane; raster = raster; all = mul-le-mul (leb-true _ _ c.0) raster }

-- k stills lie inside
pub inside : (k size rasters labels : ℕ) → room_for k size rasters labels ≡ true → (k * size ≤ rasters) × (2 * k ≤ labels)
unfolding room_for
inside k size rasters labels e =
    let p = (and-eq-true_iff (leb (k * size) rasters) (leb (2 * k) labels)).0 e in
    (leb-true _ _ p.0, leb-true _ _ p.1)

pub record Lent (h : Held) (rasters labels : ℕ) : Type 0 where
  pub small-numbers : small_numbers h ≡ true
  pub few : h.count ≤ 65535
  pub rasters-inside : h.count * (h.width * h.height * h.channels) ≤ rasters
  pub labels-inside : 2 * h.count ≤ labels

pub held_lent : (h : Held) (rasters labels : ℕ) → held_room h rasters labels ≡ true → 0 < h.count → Lent h rasters labels
unfolding held_room
held_lent h rasters labels e n =
    let size = h.width * h.height * h.channels in
    let f : (small_numbers h && room_for h.count size rasters labels) ≡ true = rw (ne_eqb h.count 0 (λ z. omega (arith, z, n))) at e in
    let p = (and-eq-true_iff (small_numbers h) (room_for h.count size rasters labels)).0 f in
    let i = inside h.count size rasters labels p.1 in
    record { small-numbers = p.0; few = (small h p.0).count; rasters-inside = i.0; labels-inside = i.1 }

-- labels of stills that have their room can be read, also where there are none
pub labels_lent : (h : Held) (rasters labels : ℕ) → held_room h rasters labels ≡ true → 2 * h.count ≤ labels
labels_lent h rasters labels e = go (ltb 0 h.count) refl
  where
    go : (t : Bool) → ltb 0 h.count ≡ t → 2 * h.count ≤ labels
    go true l = (held_lent h rasters labels e (ltb-true 0 h.count l)).labels-inside
    go false l = omega (arith, ltb-false 0 h.count l)
