-- `weighted::weighted_stage` meets its contract: the row values that the taps down reach, then the levels. Assumes nothing.
use Prim.Native.Nat.{ℕ, ◌+◌, ◌*◌, ◌-◌, ◌≤◌}
use native.Mathlib.Nat.{mul-le-mul}
use native.Mathlib.Omega.{arith}
use mathlib.Core.Path.{◌≡◌, sym, ◌∙◌}
use mathlib.Core.List.{List, ◌++◌}
use Rattle.std.proofs.Common.{Fits, w8, rules}
use lib.ListN.{get_or, drop, take, length-append}
use lib.Seq.{take_at}
use lib.IntN.{ℤ}
use Rattle.frame.specs.Framed.{worked}
use Rattle.lists.specs.Tabulate.{raster}
use Rattle.lists.proofs.Raster.{raster_ext, length-raster}
use Rattle.frame.specs.Padded.{padded}
use Rattle.frame.proofs.Supplied.{padded-le}
use Rattle.weighted.proofs.Model.{level_model, made_small, made_level}
use Rattle.weighted.proofs.weighted_stage.Goals as goal

module _ (first last h w n : ℕ) where
  -- the rows made are at most those lent
  few-rows : last ≤ 30 → (h + 30) * w ≤ n → (h + (last - first)) * w ≤ n
  few-rows l k = omega (arith, mul-le-mul {m₁ = w} {m₂ = w} (fewer (last - first) (omega (arith, l))) (omega arith), k)
    where
      fewer : (d : ℕ) → d ≤ 30 → h + d ≤ h + 30
      fewer d e = omega (arith, e)

  small : last ≤ 30 → h ≤ 8192 → w ≤ 8192 → (h + (last - first)) * w ≤ 67354624
  small l a b = mul-le-mul {n₂ = 8222} {m₂ = 8192} (fewer (last - first) (omega (arith, l))) b
    where
      fewer : (d : ℕ) → d ≤ 30 → h + d ≤ 8222
      fewer d e = omega (arith, e, a)

-- the front of a buffer that rows were stored in
take-rows : (g : ℕ → ℕ → ℤ) (w n : ℕ) (d l : List ℤ) → l ≡ raster g w n ++ drop (n * w) d → take (n * w) l ≡ raster g w n
take-rows g w n d l e = rw e (take_at (raster g w n) (drop (n * w) d) (n * w) (length-raster g w n))

pub overflow_sub-count : goal.overflow_sub-count
overflow_sub-count c =
    omega (arith, c.reach_of-reach.ensures.own.0, c.reach_of-reach.ensures.own.1)

pub overflow_add-count : goal.overflow_add-count
overflow_add-count c =
    record { fits = omega (arith, c.reach_of-reach.ensures.near, c.requires.0.height.1) }

pub overflow_mul-count : goal.overflow_mul-count
overflow_mul-count c =
    let r = c.reach_of-reach.result in
    let f = c.args.frame in
    record { fits = omega (arith, small r.first r.last f.height f.width 0 c.reach_of-reach.ensures.near c.requires.0.height.1 c.requires.0.width.1) }

pub all_rows-requires : goal.all_rows-requires
all_rows-requires c =
    let f = c.args.frame in
    let p = c.requires in
    let r = c.reach_of-reach.result in
    let e = c.reach_of-reach.ensures in
    (p.0, e.own.0, omega (arith, e.near, p.0.height.1), few-rows r.first r.last f.height f.width _ e.near p.1)

pub slice_bounds-all_columns-end : goal.slice_bounds-all_columns-end
slice_bounds-all_columns-end c =
    rw c.all_rows.ensures (simp (length-append, length-raster) (omega arith))

pub slice_bounds-all_columns-end-2 : goal.slice_bounds-all_columns-end-2
slice_bounds-all_columns-end-2 c =
    rw (take-rows _ _ _ _ _ c.all_rows.ensures) (sym (length-raster _ _ _))

pub returns : goal.returns
unfolding worked
returns c =
    let a = c.args in
    let f = a.frame in
    let r = c.reach_of-reach.result in
    let t = take-rows _ _ _ _ _ c.all_rows.ensures in
    λ K L x y. c.all_columns.ensures ∙ raster_ext _ _ f.width f.height (λ u v bu bv. rw t
    (made_level a.across.taps a.down.taps f.width f.height r.first r.last (padded f a.plane.now) c.reach_of-reach.ensures u v bu bv
    ∙ level_model x y f a.plane.now u v))

pub all_columns-requires : goal.all_columns-requires
all_columns-requires c =
    let a = c.args in
    let f = a.frame in
    let p = c.requires in
    let r = c.reach_of-reach.result in
    let t = take-rows _ _ _ _ _ c.all_rows.ensures in (
      p.0.width.1,
      p.0.height.1,
      p.0.whole,
      c.reach_of-reach.ensures,
      rw t (length-raster _ _ _),
      rw t (made_small a.across.taps a.down.taps f.width f.height r.first r.last (padded f a.plane.now) a.across.light
          (λ x y. padded-le f a.plane.now x y (omega (arith, c.well_formed)) (λ i. let byte : Fits w8 (get_or a.plane.now i 0) = search rules depth 1 in omega arith))),
    )
