-- DEMAND 3: through all stages, every written sample lies within the tolerance of the exact one. By induction over the list of stages. Assumes nothing.
use Prim.Native.Nat.{ℕ, ◌+◌, ◌*◌, ◌≤◌, ◌<◌, min}
use native.Mathlib.Nat.{mul-le-mul_left, mul-pos}
use native.Mathlib.Omega.{arith}
use mathlib.Core.List.{List, [], ◌∷◌}
use mathlib.Core.Option.{Option, none, some}
use lib.ListN.{get_or}
use lib.Dec.{lit≤}
use lib.IntN.{ℤ, pos}
use Rattle.integers.specs.Divide.{clamp}
use Rattle.integers.proofs.Divide.{clamp-le}
use Rattle.integers.proofs.Near.{mul-min}
use Rattle.lists.specs.Tabulate.{raster}
use Rattle.lists.proofs.Pairs.{pairs_at, pairs_raster}
use Rattle.model.specs.Border.{Border}
use Rattle.model.specs.Plane.{Plane, Neighbourhood, plane_of, pick, around}
use Rattle.model.specs.Weighted.{weighted_result}
use Rattle.model.specs.Stage.{Work, weighted, box, rank, outline, Stage, result, stage_plane, written}
use Rattle.model.specs.Tolerance.{growth, after_stage, tolerance_from, tolerance}
use Rattle.model.specs.Exact.{denominator, numerator, exact_plane, exact_from, denominator_from, exact, exact_denominator}
use Rattle.model.specs.Within.{distance, Within}
use Rattle.model.specs.Sound.{SoundWork, Sound, Bytes}
use Rattle.model_laws.proofs.Weighted.{Close, weighted_close}
use Rattle.model_laws.proofs.Window.{area-pos}
use Rattle.model_laws.proofs.Box.{box-le, box_close}
use Rattle.model_laws.proofs.Rank.{rank-le, rank_close}
use Rattle.model_laws.proofs.Outline.{outline-le, outline_close}

-- ---- the frame rule supplies to two planes alike, whatever it is

pick_both : (R : ℕ → ℕ → Type 0) (b d : ℕ) (f x : Plane) → R b d → ((u v : ℕ) → R (f u v) (x u v)) → (a c : Option ℕ) → R (pick b f a c) (pick d x a c)
unfolding pick
pick_both R b d f x h k none c = h
pick_both R b d f x h k (some u) none = h
pick_both R b d f x h k (some u) (some v) = k u v

pub around_both : (R : ℕ → ℕ → Type 0) (border : Border) (b d W H : ℕ) (f x : Plane) → R b d → ((u v : ℕ) → R (f u v) (x u v)) → (u v : ℕ) (i j : ℤ)
    → R (around border b W H f u v i j) (around border d W H x u v i j)
unfolding around
around_both R border b d W H f x h k u v i j = pick_both R b d f x h k _ _

-- ---- one work on a neighbourhood

pub result-le : (w : Work) (f : Neighbourhood) → SoundWork w → ((i j : ℤ) → f i j ≤ 255) → result w f ≤ 255
unfolding result weighted_result
result-le (weighted across down) f o b = clamp-le 255 _
result-le (box r s) f o b = box-le r s f b
result-le (rank r s p) f o b = rank-le r s p o.0 o.1 f b
result-le outline f o b = outline-le f

denominator-pos : (w : Work) (N : ℕ) → SoundWork w → 0 < N → 0 < denominator N w
unfolding denominator
denominator-pos (weighted across down) N o h = mul-pos h (mul-pos o.0 o.1)
denominator-pos (box r s) N o h = mul-pos h (area-pos r s)
denominator-pos (rank r s p) N o h = h
denominator-pos outline N o h = h

-- the denominator of the exact chain is not 0, so that distances from it say something
pub exact-denominator-pos : (ts : List Stage) → Sound ts → 0 < exact_denominator ts
unfolding exact_denominator denominator_from
exact-denominator-pos ts o = from ts 1 o (omega arith)
  where
    from : (ts : List Stage) (N : ℕ) → Sound ts → 0 < N → 0 < denominator_from N ts
    from [] N o h = h
    from (t ∷ ts) N o h = from ts (denominator N t.work) o.2 (denominator-pos t.work N o.0 h)

result_close : (w : Work) (N T : ℕ) (f x : Neighbourhood) → SoundWork w → 0 < N → ((i j : ℤ) → f i j ≤ 255) → ((i j : ℤ) → Close T N (pos (f i j)) (pos (x i j)))
    → Close (growth w T) (denominator N w) (pos (result w f)) (pos (clamp (255 * denominator N w) (numerator w x)))
unfolding growth denominator result numerator
result_close (weighted across down) N T f x o hN b c = weighted_close across down N T o.0 o.1 f x b c
result_close (box r s) N T f x o hN b c = box_close r s N T f x b c
result_close (rank r s p) N T f x o hN b c = rank_close r s p N T hN o.0 o.1 f x b c
result_close outline N T f x o hN b c = outline_close N T f x c

-- a tolerance of 255 levels or more says nothing, so it can be cut there
cut : (most T N y x : ℕ) → 255 * 65536 ≤ most → y ≤ 255 → x ≤ 255 * N → Close T N (pos y) (pos x) → Close (min T most) N (pos y) (pos x)
cut most T N y x h hy hx c = omega (arith, c, mul-min N T most, mul-le-mul_left N hy, mul-le-mul_left N h)

-- ---- one stage on a plane

module _ (W H : ℕ) (t : Stage) (f : Plane) (o : SoundWork t.work) (hb : t.value ≤ 255) (b : (u v : ℕ) → f u v ≤ 255) where
  around-le : (u v : ℕ) (i j : ℤ) → around t.border t.value W H f u v i j ≤ 255
  around-le = around_both (λ y x. y ≤ 255) t.border t.value t.value W H f f hb b

  stage-le : (u v : ℕ) → stage_plane W H t f u v ≤ 255
  unfolding stage_plane
  stage-le u v = result-le t.work _ o (around-le u v)

  stage_close : (N T : ℕ) (x : Plane) → 0 < N → ((u v : ℕ) → Close T N (pos (f u v)) (pos (x u v))) → (u v : ℕ)
      → Close (after_stage T t) (denominator N t.work) (pos (stage_plane W H t f u v)) (pos (exact_plane W H N t x u v))
  unfolding after_stage stage_plane exact_plane
  stage_close N T x hN c u v =
      cut _ (growth t.work T) (denominator N t.work) _ _ (lit≤ tt) (stage-le u v) (clamp-le (255 * denominator N t.work) _)
      (result_close t.work N T _ _ o hN (around-le u v)
      (around_both (λ y z. Close T N (pos y) (pos z)) t.border t.value _ W H f x (omega arith) c u v))

-- ---- all stages

-- what holds of two planes everywhere holds of their rasters at every index
raster_both : (R : ℕ → ℕ → Type 0) → R 0 0 → (W H : ℕ) (f x : Plane) → ((u v : ℕ) → R (f u v) (x u v)) → (i : ℕ) → R (get_or (raster f W H) i 0) (get_or (raster x W H) i 0)
raster_both R z W H f x h = pairs_at {R = R} 0 0 z (pairs_raster f x W H h)

bytes_next : (W H : ℕ) (t : Stage) (s : List ℕ) → SoundWork t.work → t.value ≤ 255 → Bytes s → Bytes (raster (stage_plane W H t (plane_of W s)) W H)
unfolding plane_of
bytes_next W H t s o hb b = raster_both (λ y x. y ≤ 255) (omega arith) W H _ (plane_of W s) (stage-le W H t (plane_of W s) o hb (λ u v. b (v * W + u)))

pub written-le : (W H : ℕ) (ts : List Stage) (s : List ℕ) → Sound ts → Bytes s → Bytes (written W H ts s)
unfolding written
written-le W H [] s o b = b
written-le W H (t ∷ ts) s o b = written-le W H ts _ o.2 (bytes_next W H t s o.0 o.1 b)

chain_close : (W H : ℕ) (ts : List Stage) (N T : ℕ) (s x : List ℕ) → Sound ts → 0 < N → Bytes s → ((i : ℕ) → Close T N (pos (get_or s i 0)) (pos (get_or x i 0))) → (i : ℕ)
    → Close (tolerance_from T ts) (denominator_from N ts) (pos (get_or (written W H ts s) i 0)) (pos (get_or (exact_from W H N ts x) i 0))
unfolding tolerance_from denominator_from written exact_from plane_of
chain_close W H [] N T s x o hN b c = c
chain_close W H (t ∷ ts) N T s x o hN b c =
    chain_close W H ts (denominator N t.work) (after_stage T t) _ _ o.2 (denominator-pos t.work N o.0 hN) (bytes_next W H t s o.0 o.1 b)
    (raster_both (λ y z. Close (after_stage T t) (denominator N t.work) (pos y) (pos z)) (omega arith) W H _ _
    (stage_close W H t (plane_of W s) o.0 o.1 (λ u v. b (v * W + u)) N T (plane_of W x) hN (λ u v. c (v * W + u))))

within_of_close : (T N y x : ℕ) → Close T N (pos y) (pos x) → Within T N y x
unfolding Within distance
within_of_close T N y x c = omega (arith, c)

pub within_tolerance : (W H : ℕ) (ts : List Stage) (s : List ℕ) → Sound ts → Bytes s → (i : ℕ)
    → Within (tolerance ts) (exact_denominator ts) (get_or (written W H ts s) i 0) (get_or (exact W H ts s) i 0)
unfolding tolerance exact_denominator exact
within_tolerance W H ts s o b i = within_of_close _ _ _ _ (chain_close W H ts 1 0 s s o (omega arith) b (λ k. omega arith) i)
