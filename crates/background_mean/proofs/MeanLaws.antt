-- The mean and its answer on what lent memory holds. Assumes nothing.
use Prim.Native.Nat.{ℕ, ◌+◌, ◌*◌, ◌≤◌, ◌<◌, min}
use native.Mathlib.Omega.{arith}
use mathlib.Core.Path.{◌≡◌, refl, sym, ap, ◌∙◌}
use mathlib.Core.Bool.{Bool, true, false, cond}
use mathlib.Core.List.{List, [], ◌∷◌, ◌++◌}
use lib.ListN.{get_or, take, drop}
use lib.Seq.{get_or-take, get_or-drop}
use lib.Dec.{leb, eqb}
use borrow.Author.Tests.{eqb-false, leb-true}
use Rattle.integers.specs.Divide.{nearest}
use Rattle.lists.specs.Tabulate.{tabulate}
use Rattle.lists.proofs.Sums.{map-tabulate}
use Rattle.lists.proofs.Tabulate.{length-tabulate, tabulate_ext}
use Rattle.model.specs.Outline.{largest}
use Rattle.std.specs.Prelude.{Option, None, Some, Result, Ok, Err}
use Rattle.refusals.specs.declared.Refusal.{Refusal}
use Rattle.refusals.specs.declared.Refusal.TheVariants as Refusal
use Rattle.refusals.specs.Refusal.{tested}
use Rattle.refusals.proofs.Passed.{passed}
use Rattle.answers.specs.declared.Held.{Held}
use Rattle.answers.specs.declared.Mean.{Mean}
use Rattle.background.specs.Background.{samples}
use Rattle.background.specs.Room.{held_room}
use Rattle.background.specs.Mean.{mean_of, samples_at, mean_raster, mean_tolerance, mean_tests, mean_answer}
use Rattle.background.specs.Memory.{slot, member_in, background_in}
use Rattle.raster_means.specs.Sums.{place_sum}
use Rattle.background_slots.proofs.Holding.{stills_in, held_in_lem, tolerances_in}
use Rattle.background_slots.proofs.HeldRoom.{Lent, held_lent}

module _ (h : Held) (rasters labels : List ℕ) where
  abbrev size : ℕ
  size = h.width * h.height * h.channels

  -- its T
  abbrev T : ℕ
  T = min (largest (tabulate (λ i. get_or labels (2 * i + 1) 0) h.count) + 32768) 16711680

  -- its answer, with a T
  abbrev pub answer_with : ℕ → Mean
  answer_with t = record { stills = h.count; tolerance = t; len = size }

  tolerance_in : mean_tolerance (background_in h rasters labels).members ≡ T
  unfolding mean_tolerance
  tolerance_in = rw (tolerances_in h rasters labels)

  -- a sample of the mean: of all members at place j
  mean-at : (j : ℕ) → j < size → mean_of (samples_at j (tabulate (member_in size rasters labels) h.count)) ≡ nearest (place_sum rasters size h.count j) h.count
  unfolding mean_of samples_at member_in slot place_sum
  mean-at j b =
      let at : ℕ → ℕ = λ i. get_or (take size (drop (i * size) rasters)) j 0 in
      let same : tabulate at h.count ≡ tabulate (λ i. get_or rasters (i * size + j) 0) h.count =
      tabulate_ext _ _ h.count (λ i l. get_or-take size (drop (i * size) rasters) j 0 b ∙ get_or-drop (i * size) rasters j 0) in
      rw (map-tabulate (λ m. get_or m.raster j 0) (member_in size rasters labels) h.count) (rw (length-tabulate at h.count, same))

  pub raster_in_lem : mean_raster (background_in h rasters labels) ≡ tabulate (λ j. nearest (place_sum rasters size h.count j) h.count) size
  unfolding mean_raster background_in
  raster_in_lem = tabulate_ext _ _ size mean-at

  size_in : samples (background_in h rasters labels) ≡ size
  unfolding background_in
  size_in = refl

  pub answer_in : (bytes words out : ℕ) → mean_answer bytes words out (background_in h rasters labels)
      ≡ cond (eqb h.count 0) (Ok None) (tested Err ((held_room h bytes words, Refusal.Room) ∷ (leb size out, Refusal.Room) ∷ []) (Ok (Some (answer_with T))))
  unfolding mean_answer mean_tests
  answer_in bytes words out = rw (tolerance_in, held_in_lem h rasters labels, stills_in h rasters labels, size_in)

  -- what an answer with a mean has shown
  pub record Shown (m : Mean) (bytes words out : ℕ) : Type 0 where
    pub stills_are : m.stills ≡ h.count
    pub length-is : m.len ≡ size
    pub some : 0 < h.count
    pub lent : Lent h bytes words
    pub room : size ≤ out

  pub shown : (bytes words out : ℕ) {m : Mean} → mean_answer bytes words out (background_in h rasters labels) ≡ Ok (Some m) → Shown m bytes words out
  shown bytes words out {m} e = go (eqb h.count 0) refl (sym (answer_in bytes words out) ∙ e)
    where
      go : (b : Bool) → eqb h.count 0 ≡ b
          → cond b (Ok None) (tested Err ((held_room h bytes words, Refusal.Room) ∷ (leb size out, Refusal.Room) ∷ []) (Ok (Some (answer_with T)))) ≡ Ok (Some m)
          → Shown m bytes words out
      go true z f = absurd cc
      go false z f =
          let p =
          passed {A = Result (Option Mean) Refusal} Err ((held_room h bytes words, Refusal.Room) ∷ (leb size out, Refusal.Room) ∷ []) (Ok (Some (answer_with T))) (Ok (Some m)) (λ r g. cc) f in
          let q = p.1 in
          let is : m ≡ answer_with T = cc in
          let some : 0 < h.count = above h.count (eqb-false h.count 0 z) in
          record { stills_are = ap (λ (k : Mean). k.stills) is; length-is = ap (λ (k : Mean). k.len) is; some = some; lent = held_lent h bytes words p.0.0 some; room = leb-true size out p.0.1.0 }
        where
          above : (m : ℕ) → (m ≡ 0 → ⊥) → 0 < m
          above m d = omega (arith, d)

  -- the raster that was written is the mean still
  pub written : (out : List ℕ) {m : Mean} {bytes words room : ℕ} {out' : List ℕ} → Shown m bytes words room
      → out' ≡ tabulate (λ j. nearest (place_sum rasters m.len m.stills j) m.stills) m.len ++ drop m.len out
      → out' ≡ mean_raster (background_in h rasters labels) ++ drop m.len out
  written out s e = rw raster_in_lem (rw (s.stills_are, s.length-is) at e ∙ rw s.length-is)
