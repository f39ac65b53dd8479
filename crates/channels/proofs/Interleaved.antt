-- Channels put into a raster one after the other make the interleaved raster.
-- Assumes nothing.
use Prim.Native.Nat.{ℕ, ◌+◌, ◌-◌, ◌*◌, ◌/◌, ◌%◌, ◌≤◌, ◌<◌}
use native.Mathlib.Nat.{mod-lt, mod-eq_of_lt, div-eq_of_lt, div-eq_of_lt-le, div-add-mod', div-lt_iff_lt-mul, mul-add-div_right, mul-add-mod_self_right}
use native.Mathlib.Omega.{arith}
use mathlib.Core.Path.{◌≡◌, refl, sym, ap, ◌∙◌}
use mathlib.Core.Bool.{Bool, true, false, cond, ◌&&◌}
use mathlib.Core.List.{List, ◌++◌}
use lib.ListN.{length, get_or, set, drop, length-append, length-drop, get_or-append, get_or-eq_default}
use lib.Seq.{get_or-set_same, get_or-set_other, get_or-append-add, get_or-drop, ext_get_or}
use lib.Dec.{eqb, ltb}
use borrow.Author.Tests.{ltb-true, ltb-false, eqb-true, eqb-false, lt-ltb, le-ltb}
use Rattle.lists.proofs.Tabulate.{fill_none, fill_more, length-tabulate, get_d_tabulate}
use Rattle.lists.proofs.Raster.{place_fits}
use Rattle.channels.specs.Channel.{channel, interleave, placed}

-- ---- channel c of the place i: what its index is by `channels`

module _ (channels i c : ℕ) (h : c < channels) where
  at_mod : (i * channels + c) % channels ≡ c
  at_mod = mul-add-mod_self_right i channels c ∙ mod-eq_of_lt h

  at_div : (i * channels + c) / channels ≡ i
  at_div = mul-add-div_right (omega arith) i c ∙ omega (arith, div-eq_of_lt h)

-- ---- one channel, stored from the front

-- l is `old` with the first i samples of src in channel c
abbrev pub Stored : ℕ → ℕ → List ℕ → List ℕ → ℕ → List ℕ → Type 0
Stored channels c src old i l = (k : ℕ) → get_or l k 0 ≡ cond (ltb k (i * channels) && eqb (k % channels) c) (get_or src (k / channels) 0) (get_or old k 0)

-- nothing stored yet
pub stored_none : (channels c : ℕ) (src old : List ℕ) → Stored channels c src old 0 old
stored_none channels c src old k = rw (le-ltb k (0 * channels) (omega arith))

-- the turn at the place i changes no other sample
other_place : (channels c i k : ℕ) → (k ≡ i * channels + c → ⊥)
    → (ltb k (i * channels) && eqb (k % channels) c) ≡ (ltb k ((i + 1) * channels) && eqb (k % channels) c)
other_place channels c i k h = go (ltb k (i * channels)) (ltb k ((i + 1) * channels)) (eqb (k % channels) c) refl refl refl
  where
    go : (s t u : Bool) → ltb k (i * channels) ≡ s → ltb k ((i + 1) * channels) ≡ t → eqb (k % channels) c ≡ u → (s && u) ≡ (t && u)
    go true true u a b e = refl
    go true false u a b e = absurd (omega (arith, ltb-true k (i * channels) a, ltb-false k ((i + 1) * channels) b))
    go false false u a b e = refl
    go false true false a b e = refl
    go false true true a b e =
        let q : k / channels ≡ i = div-eq_of_lt-le channels (ltb-false k (i * channels) a) (ltb-true k ((i + 1) * channels) b) in
        absurd (h (omega (arith, div-add-mod' k channels, ap (λ (n : ℕ). n * channels) q, eqb-true (k % channels) c e)))

-- the next sample
pub stored_more : (channels c i at : ℕ) (src old l : List ℕ) → c < channels → at ≡ i * channels + c → at < length l
    → Stored channels c src old i l → Stored channels c src old (i + 1) (set l at (get_or src i 0))
stored_more channels c i at src old l h w f s k = grind (arith, get_or-set_same, get_or-set_other, s k, other_place channels c i k, at_mod channels i c h, at_div channels i c h)

-- ---- all channels, one after the other

module _ (channels n : ℕ) (planes : ℕ → List ℕ) where
  pub length-interleave : length (interleave channels n planes) ≡ n * channels
  unfolding interleave
  length-interleave = length-tabulate _ (n * channels)

  -- the sample of channel c at the place i
  pub interleave-at : (i c : ℕ) → i < n → c < channels → get_or (interleave channels n planes) (i * channels + c) 0 ≡ get_or (planes c) i 0
  unfolding interleave
  interleave-at i c a b = get_d_tabulate _ (n * channels) (i * channels + c) 0 (place_fits c i channels n b a) ∙ rw (at_mod channels i c b, at_div channels i c b)

  -- no channel is there yet
  pub placed-none : (old : List ℕ) (k : ℕ) → get_or old k 0 ≡ placed channels n planes old 0 k
  unfolding placed
  placed-none old k = grind arith

  -- the next channel, whose samples are at the front of `plane`
  pub placed-more : (old : List ℕ) (c : ℕ) (before after plane : List ℕ)
      → ((k : ℕ) → get_or before k 0 ≡ placed channels n planes old c k)
      → Stored channels c plane before n after
      → ((i : ℕ) → i < n → get_or plane i 0 ≡ get_or (planes c) i 0)
      → 0 < channels
      → (k : ℕ) → get_or after k 0 ≡ placed channels n planes old (c + 1) k
  unfolding placed
  placed-more old c before after plane b s p h k =
      rw (s k, b k) (go (ltb k (n * channels)) (eqb (k % channels) c) (ltb (k % channels) c) (ltb (k % channels) (c + 1)) refl refl refl refl)
    where
      new : ℕ
      new = get_or (planes (k % channels)) (k / channels) 0

      go : (t u v w : Bool) → ltb k (n * channels) ≡ t → eqb (k % channels) c ≡ u → ltb (k % channels) c ≡ v → ltb (k % channels) (c + 1) ≡ w
          → cond (t && u) (get_or plane (k / channels) 0) (cond (t && v) new (get_or old k 0)) ≡ cond (t && w) new (get_or old k 0)
      go false u v w et eu ev ew = refl
      go true true v true et eu ev ew = rw (eqb-true (k % channels) c eu) (p (k / channels) ((div-lt_iff_lt-mul h).1 (ltb-true k (n * channels) et)))
      go true true v false et eu ev ew = absurd (omega (arith, eqb-true (k % channels) c eu, ltb-false (k % channels) (c + 1) ew))
      go true false true true et eu ev ew = refl
      go true false true false et eu ev ew = absurd (omega (arith, ltb-true (k % channels) c ev, ltb-false (k % channels) (c + 1) ew))
      go true false false true et eu ev ew = absurd (eqb-false (k % channels) c eu (omega (arith, ltb-false (k % channels) c ev, ltb-true (k % channels) (c + 1) ew)))
      go true false false false et eu ev ew = refl

  -- all channels are there
  pub placed-all : (old after : List ℕ) → length after ≡ length old → n * channels ≤ length old → 0 < channels
      → ((k : ℕ) → get_or after k 0 ≡ placed channels n planes old channels k)
      → after ≡ interleave channels n planes ++ drop (n * channels) old
  unfolding placed interleave
  placed-all old after e f h s = ext_get_or 0 after whole (e ∙ sym size) (λ k _. s k ∙ go k (ltb k m) refl)
    where
      m : ℕ
      m = n * channels

      front : List ℕ
      front = interleave channels n planes

      whole : List ℕ
      whole = front ++ drop m old

      size : length whole ≡ length old
      size = simp (length-append, length-interleave, length-drop) (omega arith)

      go : (k : ℕ) (t : Bool) → ltb k m ≡ t → placed channels n planes old channels k ≡ get_or whole k 0
      go k true a =
          let l : k < m = ltb-true k m a in
          rw (a, lt-ltb (k % channels) channels (mod-lt k h)) (sym (get_or-append front (drop m old) 0 k (rw length-interleave l) ∙ get_d_tabulate _ m k 0 l))
      go k false a =
          let l : k ≡ m + (k - m) = omega (arith, ltb-false k m a) in
          rw a (ap (λ (j : ℕ). get_or old j 0) l ∙ sym (get_or-drop m old (k - m) 0) ∙ sym (get_or-append-add front (drop m old) (k - m) 0) ∙ ap (λ (j : ℕ). get_or whole j 0) (omega (arith, length-interleave, l)))

-- ---- one channel of a raster

module _ (channels n : ℕ) (raster : List ℕ) (c : ℕ) where
  pub channel-length : length (channel channels n raster c) ≡ n
  unfolding channel
  channel-length = length-tabulate _ n

  -- a channel of bytes has bytes
  pub channel_bytes : ((i : ℕ) → get_or raster i 0 < 256) → (i : ℕ) → get_or (channel channels n raster c) i 0 < 256
  unfolding channel
  channel_bytes b i = grind (arith, get_d_tabulate, get_or-eq_default, length-tabulate)

-- what the loops rest on
pub ruleset taking = (fill_none, fill_more, place_fits)

pub ruleset putting = (stored_none, stored_more, place_fits)
