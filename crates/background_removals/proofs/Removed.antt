-- Memory behind a removal: the last still in the gap. Assumes nothing.
use Prim.Native.Nat.{ℕ, ◌+◌, ◌*◌, ◌-◌, ◌≤◌, ◌<◌}
use native.Mathlib.Nat.{mul-le-mul_left}
use native.Mathlib.Omega.{arith}
use mathlib.Core.Path.{◌≡◌, refl, sym, ap, ◌∙◌}
use mathlib.Core.Bool.{Bool, true, false, cond}
use mathlib.Core.List.{List, [], ◌∷◌}
use lib.ListN.{length, get_or, drop}
use lib.Dec.{eqb, ltb}
use borrow.Author.Tests.{ltb-true, ltb-false, eqb-true, eqb-false}
use Rattle.lists.specs.Tabulate.{tabulate}
use Rattle.lists.proofs.Tabulate.{length-tabulate, get_d_tabulate, tabulate_ext}
use Rattle.std.specs.Prelude.{Result, Ok, Err}
use Rattle.refusals.specs.declared.Refusal.{Refusal}
use Rattle.refusals.specs.Refusal.{tested, verdict}
use Rattle.refusals.proofs.Passed.{passed, passed_all, passed_whole, refused-whole, refused_tests}
use Rattle.answers.specs.declared.Held.{Held}
use Rattle.background.specs.Background.{Member, member, Background, stills, numbers, position}
use Rattle.background.specs.Room.{held_of}
use Rattle.background.specs.Change.{Outcome, remove_tests, without, removal}
use Rattle.background.specs.Memory.{slot, member_in, background_in, Lies, Changes}
use Rattle.background_slots.specs.Slot.{with_raster, with_labels}
use Rattle.background_slots.proofs.Holding.{slot_of, numbers_in}
use Rattle.background_slots.proofs.HeldRoom.{Lent, held_lent}
use Rattle.background_removals.proofs.Tests.{remove_tests_in}
use Rattle.background_slots.proofs.Members.{member_here, member_elsewhere, drop_behind, raster-length, raster-same, slot-length, labels_length, labels_behind, labels_same}

module _ (h : Held) (rasters labels : List ℕ) (i : ℕ) (found : i < h.count) (room : h.count * (h.width * h.height * h.channels) ≤ length rasters) (space : 2 * h.count ≤ length labels) where
  abbrev size : ℕ
  size = h.width * h.height * h.channels

  abbrev last : ℕ
  last = h.count - 1

  -- the background before and after, and memory after
  abbrev before : Background
  before = background_in h rasters labels

  abbrev after : Background
  after = record { width = h.width; height = h.height; channels = h.channels; members = without i before.members }

  abbrev rasters' : List ℕ
  rasters' = with_raster size i (slot size last rasters) rasters

  abbrev labels' : List ℕ
  labels' = with_labels i (get_or labels (2 * last) 0) (get_or labels (2 * last + 1) 0) labels

  -- both slots are inside
  last_inside : last * size + size ≤ length rasters
  last_inside =
      let e : last + 1 ≡ h.count = omega (arith, found) in
      omega (arith, ap (λ (k : ℕ). k * size) e, room)

  gap-inside : i * size + size ≤ length rasters
  gap-inside =
      let b : i ≤ last = omega (arith, found) in
      omega (arith, mul-le-mul_left size b, last_inside)

  full : length (slot size last rasters) ≡ size
  full = slot-length size last rasters last_inside

  pub one_less : stills after ≡ last
  unfolding without background_in
  one_less = length-tabulate _ _ ∙ ap (λ (k : ℕ). k - 1) (length-tabulate (member_in size rasters labels) h.count)

  -- the members before, and what is left at place j
  abbrev all : List Member
  all = tabulate (member_in size rasters labels) h.count

  abbrev left_at : Bool → ℕ → Member
  left_at gap j = get_or all (cond gap (length all - 1) j) (member 0 0 [])

  two-more : 2 * i + 2 ≤ length labels
  two-more = omega (arith, found, space)

  -- the last member is in the gap
  moved : member_in size rasters' labels' i ≡ member_in size rasters labels last
  unfolding member_in slot
  moved = member_here size i (slot size last rasters) rasters _ _ labels gap-inside full two-more

  member_is : (j : ℕ) → j < last → member_in size rasters' labels' j ≡ left_at (eqb j i) j
  member_is j b = go (eqb j i) refl
    where
      go : (t : Bool) → eqb j i ≡ t → member_in size rasters' labels' j ≡ left_at t j
      go true e =
          ap (member_in size rasters' labels') (eqb-true j i e) ∙ moved
          ∙ sym (ap (λ (k : ℕ). get_or all (k - 1) (member 0 0 [])) (length-tabulate (member_in size rasters labels) h.count)
          ∙ get_d_tabulate (member_in size rasters labels) h.count last (member 0 0 []) (omega (arith, found)))
      go false e =
          member_elsewhere size i (slot size last rasters) rasters _ _ labels gap-inside full two-more j (eqb-false j i e)
          ∙ sym (get_d_tabulate (member_in size rasters labels) h.count j (member 0 0 []) (omega (arith, b)))

  members_are : tabulate (member_in size rasters' labels') (stills after) ≡ after.members
  unfolding without background_in
  members_are =
      ap (λ (k : ℕ). tabulate (member_in size rasters' labels') k) one_less ∙ tabulate_ext _ (λ j. left_at (eqb j i) j) last member_is
      ∙ ap (λ (k : ℕ). tabulate (λ j. left_at (eqb j i) j) (k - 1)) (sym (length-tabulate (member_in size rasters labels) h.count))

  whole : background_in (held_of after) rasters' labels' ≡ after
  unfolding background_in
  whole = ap (λ (ms : List Member). record { width = h.width; height = h.height; channels = h.channels; members = ms }) members_are

  -- behind the stills left: the gap lies before that, or it was the last, and nothing moved
  rasters_kept : drop (last * size) rasters' ≡ drop (last * size) rasters
  rasters_kept = go (ltb i last) refl
    where
      go : (t : Bool) → ltb i last ≡ t → drop (last * size) rasters' ≡ drop (last * size) rasters
      go true l = drop_behind size i (slot size last rasters) rasters gap-inside full (last * size) (omega (arith, mul-le-mul_left size (ltb-true i last l)))
      go false l =
          let same : last ≡ i = omega (arith, found, ltb-false i last l) in
          ap (drop (last * size)) (ap (λ (k : ℕ). with_raster size i (slot size k rasters) rasters) same ∙ raster-same size i rasters)

  labels_kept : drop (2 * last) labels' ≡ drop (2 * last) labels
  labels_kept = go (ltb i last) refl
    where
      go : (t : Bool) → ltb i last ≡ t → drop (2 * last) labels' ≡ drop (2 * last) labels
      go true l = labels_behind i _ _ labels (2 * last) (omega (arith, ltb-true i last l))
      go false l =
          let same : last ≡ i = omega (arith, found, ltb-false i last l) in
          ap (drop (2 * last)) (ap (λ (k : ℕ). with_labels i (get_or labels (2 * k) 0) (get_or labels (2 * k + 1) 0) labels) same ∙ labels_same i labels)

  pub removed_lies : Lies after rasters rasters' labels labels'
  removed_lies = record {
    held = whole;
    rasters-behind = rw one_less rasters_kept;
    labels_behind = rw one_less labels_kept;
    rasters-length = raster-length size i (slot size last rasters) rasters gap-inside full;
    labels_length = labels_length i _ _ labels;
  }

-- ---- by the answer of the tests

-- where a removal finds its still
abbrev pub found_in : ℕ → Held → List ℕ → List ℕ → Result ℕ Refusal
found_in n h rasters labels =
    tested Err (remove_tests n (length rasters) (length labels) (background_in h rasters labels)) (Ok (position n (numbers (background_in h rasters labels))))

module _ (n : ℕ) (h : Held) (rasters labels : List ℕ) where
  pub removal-refused : {r : Refusal} → found_in n h rasters labels ≡ Err r
      → Changes (removal n (length rasters) (length labels) (background_in h rasters labels)) rasters rasters labels labels (Err r)
  unfolding removal
  removal-refused e =
      let tests = remove_tests n (length rasters) (length labels) (background_in h rasters labels) in
      let refused : verdict tests ≡ Err _ = refused_tests Err (λ l m f. cc) tests _ (λ k f. cc) e in
      rw (refused-whole {A = Outcome} Err _ tests refused) (record { answered = refl; left = (refl, refl) })

  -- what finding it has shown
  pub record Finds (i : ℕ) : Type 0 where
    pub passed : verdict (remove_tests n (length rasters) (length labels) (background_in h rasters labels)) ≡ Ok tt
    pub place : position n (numbers (background_in h rasters labels)) ≡ i
    pub found : i < h.count
    pub lent : Lent h (length rasters) (length labels)

  pub finds : {i : ℕ} → found_in n h rasters labels ≡ Ok i → Finds i
  finds {i} e =
      let b = background_in h rasters labels in
      let p = passed {A = Result ℕ Refusal} Err (remove_tests n (length rasters) (length labels) b) (Ok (position n (numbers b))) (Ok i) (λ r f. cc) e in
      let q = rw (remove_tests_in n (length rasters) (length labels) h rasters labels) at p.0 in
      let at : position n (numbers b) ≡ i = let f = p.1 in cc in
      let there : i < h.count = rw (sym (ap (position n) (numbers_in h rasters labels)) ∙ at) at (ltb-true (slot_of n labels h.count) h.count q.1.0) in
      record { passed = passed_all _ p.0; place = at; found = there; lent = held_lent h (length rasters) (length labels) q.0 (omega (arith, there)) }

  pub removed : {i : ℕ} {rasters' labels' : List ℕ} → found_in n h rasters labels ≡ Ok i
      → rasters' ≡ with_raster (h.width * h.height * h.channels) i (slot (h.width * h.height * h.channels) (h.count - 1) rasters) rasters
      → labels' ≡ with_labels i (get_or labels (2 * (h.count - 1)) 0) (get_or labels (2 * (h.count - 1) + 1) 0) labels
      → Changes (removal n (length rasters) (length labels) (background_in h rasters labels)) rasters rasters' labels labels'
      (Ok (record { count = h.count - 1; width = h.width; height = h.height; channels = h.channels }))
  unfolding removal background_in
  removed {i} e er el =
      let f = finds e in
      let room = f.lent.rasters-inside in
      let space = f.lent.labels-inside in
      rw (passed_whole {A = Outcome} Err _ _ f.passed, f.place, er, el)
      (record {
        answered = ap (λ (k : ℕ). Ok (record { count = k; width = h.width; height = h.height; channels = h.channels })) (sym (one_less h rasters labels i f.found room space));
        left = removed_lies h rasters labels i f.found room space;
      })
