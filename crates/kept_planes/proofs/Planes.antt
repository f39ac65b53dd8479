-- Two planes in one buffer: a copy behind the one that is written, which is written row by row. Assumes nothing.
use Prim.Native.Nat.{ℕ, ◌+◌, ◌-◌, ◌*◌, ◌≤◌, ◌<◌}
use native.Mathlib.Nat.{le_refl, le_trans, min-le_left, lt_of_not-le, zero-mul, mul-le-mul, mul-le-mul_right}
use native.Mathlib.Decide.{dec_le}
use native.Mathlib.Omega.{arith}
use mathlib.Core.Path.{◌≡◌, refl, sym, ◌∙◌}
use mathlib.Core.List.{List, ◌++◌, append-nil, append_assoc}
use lib.ListN.{length, get_or, take, drop, length-append, length-take, length-drop, get_or-eq_default, drop_of_length-le}
use lib.Seq.{length-take-le, get_or-take, get_or-drop, take_at, drop_at}
use Rattle.lists.specs.Tabulate.{tabulate, raster}
use Rattle.lists.proofs.Part.{drop_past}
use Rattle.lists.proofs.Raster.{row_fits, length-raster, rows_none, rows_more}
use Rattle.lists.proofs.Stored.{StoredRows}
use Rattle.model.specs.Sound.{Bytes}
use Rattle.frame.specs.declared.Frame.{Frame}
use Rattle.frame.specs.Framed.{Framed}
use Rattle.kept_planes.specs.HeldRow.{kept}

-- after a copy the plane behind is what the front plane was
pub behind_copied : (n : ℕ) (d l : List ℕ) → n ≤ length d → l ≡ take n d ++ take n d ++ drop (n + n) d → take n (drop n l) ≡ take n d
behind_copied n d l h e = rw (e, append_assoc, drop_at (take n d) _ n (length-take-le n d h), take_at (take n d) _ n (length-take-le n d h))

-- a plane behind bytes has bytes
pub kept_bytes : (n : ℕ) (work : List ℕ) → Bytes work → Bytes (take n (drop n work))
kept_bytes n work h i = go (dec_le n i)
  where
    go : Dec (n ≤ i) → get_or (take n (drop n work)) i 0 ≤ 255
    go (yes k) = rw (get_or-eq_default (take n (drop n work)) 0 {n = i} (le_trans (rw length-take (min-le_left n (length (drop n work)))) k)) (omega arith)
    go (no k) = rw (get_or-take n (drop n work) i 0 (lt_of_not-le k), get_or-drop n work i 0) (h (n + i))

-- no frame is large
pub plane_small : {f : Frame} {samples : List ℕ} → Framed f samples → f.height * f.width ≤ 67108864
plane_small h = mul-le-mul {n₂ = 8192} {m₂ = 8192} h.height.1 h.width.1

-- and rows of the plane in front leave it as it was
pub kept_same : (f : Frame) (g : ℕ → ℕ → ℕ) (d l : List ℕ) {at v : ℕ} → StoredRows g f.width f.height d l at v → kept f l ≡ kept f d
kept_same f g d l {at} {v} s =
    rw (s.front, drop_past (raster g f.width v) d at (f.height * f.width) (length-raster g f.width v ∙ sym s.place) (omega (arith, s.place, mul-le-mul_right f.width s.so_far)))

module _ (f : Frame) (g : ℕ → ℕ → ℕ) (rows behind : List ℕ) (e : rows ≡ raster g f.width f.height) where
  -- what a stage leaves in front, whatever is behind
  pub rows_written : take (f.height * f.width) (rows ++ behind) ≡ raster g f.width f.height
  rows_written = rw e (take_at (raster g f.width f.height) behind (f.height * f.width) (length-raster g f.width f.height))

  -- and behind: where it was lent the two parts of a buffer k, the plane that was kept there
  pub kept_behind : (k : List ℕ) → 2 * (f.height * f.width) ≤ length k → behind ≡ drop (f.height * f.width) k → kept f (rows ++ behind) ≡ kept f k
  kept_behind k h eb =
      let long : length (rows ++ behind) ≡ length k = rw (e, eb, length-append, length-raster, length-drop) (omega (arith, h)) in
      kept_same f g k (rows ++ behind) (record { so_far = le_refl f.height; place = refl; front = rw (e, eb) refl; long = long })

-- ---- a plane that is written row by row, over d

module _ {A : Type 0} (g : ℕ → ℕ → A) (w : ℕ) (d : List A) where
  -- no row yet
  pub plane_none : d ≡ raster g w 0 ++ drop (0 * w) d
  plane_none = rw zero-mul (rows_none g w d)

  module _ {h v : ℕ} (size : length d ≡ h * w) where
    -- one row more, written by a function that was lent the part that starts at the row
    pub plane_more : (l part : List A) → v < h → l ≡ raster g w v ++ drop (v * w) d
        → part ≡ tabulate (λ u. g u v) w ++ drop w (take (length l - v * w) (drop (v * w) l))
        → take (v * w) l ++ (part ++ drop (length l - v * w) (drop (v * w) l)) ≡ raster g w (v + 1) ++ drop ((v + 1) * w) d
    plane_more l part k el ep =
        let next : v * w + w ≡ (v + 1) * w = omega arith in
        rw next at (rows_more g w v (v * w) d l part refl (omega (arith, size, row_fits v h w k)) el ep)

    -- all rows
    pub plane_whole : {l : List A} → v ≤ h → h ≤ v → l ≡ raster g w v ++ drop (v * w) d → l ≡ raster g w h
    plane_whole a b e =
        let all : v ≡ h = omega (arith, a, b) in
        rw (drop_of_length-le d {i = h * w} (omega (arith, size)), append-nil) at (rw all at e)
