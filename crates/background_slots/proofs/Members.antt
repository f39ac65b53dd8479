-- Members in slots: writing over a slot changes the member in it, and no other. Assumes nothing.
use Prim.Native.Nat.{ℕ, ◌+◌, ◌*◌, ◌-◌, ◌≤◌, ◌<◌}
use native.Mathlib.Nat.{mul-le-mul_left}
use native.Mathlib.Omega.{arith}
use mathlib.Core.Path.{◌≡◌, refl, sym, ap, ◌∙◌}
use mathlib.Core.Bool.{Bool, true, false, cond}
use mathlib.Core.List.{List, ◌++◌, append_assoc}
use lib.ListN.{length, get_or, take, drop, set, length-set, length-append, length-drop, length-take, take-append-drop}
use lib.Seq.{length-take-le, take_at, drop_at, take-append-le, drop-append-le, drop-drop, take-add, get_or-set_same, get_or-set_other, set-get_or, drop-set-lt}
use lib.Dec.{ltb, eqb}
use borrow.Author.Tests.{ltb-true, ltb-false, eqb-true, eqb-false}
use Rattle.lists.proofs.Part.{drop_past}
use Rattle.background.specs.Background.{Member, member}
use Rattle.background.specs.Memory.{slot, member_in}
use Rattle.background_slots.specs.Slot.{with_raster, with_labels}

-- ---- rasters

-- a slot that ends inside a front is that front's
front_slot : (size j : ℕ) (p q : List ℕ) → j * size + size ≤ length p → slot size j (p ++ q) ≡ slot size j p
unfolding slot
front_slot size j p q h =
    rw (drop-append-le (j * size) p q (omega (arith, h))) (take-append-le size (drop (j * size) p) q (rw (length-drop (j * size) p) (omega (arith, h))))

module _ (size i : ℕ) (raster rasters : List ℕ) (h : i * size + size ≤ length rasters) (e : length raster ≡ size) where
  front : length (take (i * size) rasters) ≡ i * size
  front = length-take-le (i * size) rasters (omega (arith, h))

  -- the slot itself
  slot_here : slot size i (with_raster size i raster rasters) ≡ raster
  unfolding slot with_raster
  slot_here = rw (drop_at (take (i * size) rasters) (raster ++ drop (i * size + size) rasters) (i * size) front) (take_at raster (drop (i * size + size) rasters) size e)

  -- one before it
  slot-before : (j : ℕ) → j < i → slot size j (with_raster size i raster rasters) ≡ slot size j rasters
  unfolding with_raster
  slot-before j b =
      let inside : j * size + size ≤ length (take (i * size) rasters) = rw front (omega (arith, mul-le-mul_left size b)) in
      front_slot size j (take (i * size) rasters) (raster ++ drop (i * size + size) rasters) inside
      ∙ sym (front_slot size j (take (i * size) rasters) (drop (i * size) rasters) inside) ∙ ap (slot size j) (take-append-drop (i * size) rasters)

  -- all behind it
  pub drop_behind : (n : ℕ) → i * size + size ≤ n → drop n (with_raster size i raster rasters) ≡ drop n rasters
  unfolding with_raster
  drop_behind n b =
      rw (← append_assoc (take (i * size) rasters) raster (drop (i * size + size) rasters))
      (drop_past (take (i * size) rasters ++ raster) rasters (i * size + size) n (length-append (take (i * size) rasters) raster ∙ rw (front, e)) b)

  slot_behind : (j : ℕ) → i < j → slot size j (with_raster size i raster rasters) ≡ slot size j rasters
  unfolding slot
  slot_behind j b = ap (take size) (drop_behind (j * size) (omega (arith, mul-le-mul_left size b)))

  slot_elsewhere : (j : ℕ) → (j ≡ i → ⊥) → slot size j (with_raster size i raster rasters) ≡ slot size j rasters
  slot_elsewhere j n = go (ltb j i) refl
    where
      go : (t : Bool) → ltb j i ≡ t → slot size j (with_raster size i raster rasters) ≡ slot size j rasters
      go true l = slot-before j (ltb-true j i l)
      go false l = slot_behind j (omega (arith, ltb-false j i l, n))

  pub raster-length : length (with_raster size i raster rasters) ≡ length rasters
  unfolding with_raster
  raster-length = simp (length-append, length-drop) (rw (front, e) (omega (arith, h)))

-- a slot that is inside is full
pub slot-length : (size i : ℕ) (rasters : List ℕ) → i * size + size ≤ length rasters → length (slot size i rasters) ≡ size
unfolding slot
slot-length size i rasters h = length-take-le size (drop (i * size) rasters) (rw (length-drop (i * size) rasters) (omega (arith, h)))

-- a slot written over with what it holds
pub raster-same : (size i : ℕ) (rasters : List ℕ) → with_raster size i (slot size i rasters) rasters ≡ rasters
unfolding slot with_raster
raster-same size i rasters =
    rw (← append_assoc (take (i * size) rasters) (take size (drop (i * size) rasters)) (drop (i * size + size) rasters), ← take-add (i * size) size rasters) (take-append-drop (i * size + size) rasters)

-- ---- members

module _ (size i : ℕ) (raster rasters : List ℕ) (n T : ℕ) (labels : List ℕ) (h : i * size + size ≤ length rasters) (e : length raster ≡ size) (g : 2 * i + 2 ≤ length labels) where
  pub member_here : member_in size (with_raster size i raster rasters) (with_labels i n T labels) i ≡ member n T raster
  unfolding member_in slot with_labels
  member_here =
      rw (
        slot_here size i raster rasters h e,
        get_or-set_other (set labels (2 * i) n) (2 * i + 1) (2 * i) T 0 (λ f. omega (arith, f)),
        get_or-set_same labels (2 * i) n 0 (omega (arith, g)),
        get_or-set_same (set labels (2 * i) n) (2 * i + 1) T 0 (rw (length-set labels (2 * i) n) (omega (arith, g))),
      )

  pub member_elsewhere : (j : ℕ) → (j ≡ i → ⊥) → member_in size (with_raster size i raster rasters) (with_labels i n T labels) j ≡ member_in size rasters labels j
  unfolding member_in slot with_labels
  member_elsewhere j d =
      rw (
        slot_elsewhere size i raster rasters h e j d,
        get_or-set_other (set labels (2 * i) n) (2 * i + 1) (2 * j) T 0 (λ f. omega (arith, f)),
        get_or-set_other labels (2 * i) (2 * j) n 0 (λ f. d (omega (arith, f))),
        get_or-set_other (set labels (2 * i) n) (2 * i + 1) (2 * j + 1) T 0 (λ f. d (omega (arith, f))),
        get_or-set_other labels (2 * i) (2 * j + 1) n 0 (λ f. omega (arith, f)),
      )

-- ---- labels

module _ (i n T : ℕ) (labels : List ℕ) where
  pub labels_length : length (with_labels i n T labels) ≡ length labels
  unfolding with_labels
  labels_length = simp length-set

  pub labels_behind : (m : ℕ) → 2 * i + 2 ≤ m → drop m (with_labels i n T labels) ≡ drop m labels
  unfolding with_labels
  labels_behind m b = rw (drop-set-lt m (set labels (2 * i) n) (2 * i + 1) T (omega (arith, b)), drop-set-lt m labels (2 * i) n (omega (arith, b)))

-- labels written over with what they hold
pub labels_same : (i : ℕ) (labels : List ℕ) → with_labels i (get_or labels (2 * i) 0) (get_or labels (2 * i + 1) 0) labels ≡ labels
unfolding with_labels
labels_same i labels = rw (set-get_or labels (2 * i) 0, set-get_or labels (2 * i + 1) 0)
