-- Memory behind an addition: a still in the slot behind those held. Assumes nothing.
use Prim.Native.Nat.{ℕ, ◌+◌, ◌*◌, ◌≤◌, ◌<◌}
use native.Mathlib.Omega.{arith}
use mathlib.Core.Path.{◌≡◌, sym, ap, ◌∙◌}
use mathlib.Core.Bool.{true, ◌&&◌, and-eq-true_iff}
use mathlib.Core.List.{List, [], ◌∷◌, ◌++◌}
use lib.ListN.{length, length-append}
use lib.Dec.{eqb}
use borrow.Author.Tests.{ne_eqb, eqb-true, ltb-true}
use Rattle.std.specs.Prelude.{Ok, Err}
use Rattle.lists.specs.Tabulate.{tabulate}
use Rattle.lists.proofs.Tabulate.{tabulate_ext, tabulate_last}
use Rattle.refusals.specs.Refusal.{tested, verdict}
use Rattle.refusals.proofs.Passed.{all_pass}
use Rattle.answers.specs.declared.Held.{Held}
use Rattle.background.specs.Background.{Member, member, Background, stills}
use Rattle.background.specs.Room.{held_of}
use Rattle.background.specs.Change.{suits, add_tests, joined}
use Rattle.background.specs.Memory.{member_in, background_in, Lies, Changes}
use Rattle.background_slots.specs.Slot.{with_raster, with_labels}
use Rattle.background_slots.proofs.Holding.{stills_in}
use Rattle.background_slots.proofs.HeldRoom.{inside}
use Rattle.background_additions.proofs.Tests.{add_tests_in, passes}
use Rattle.background_slots.proofs.Members.{member_here, member_elsewhere, drop_behind, raster-length, labels_length, labels_behind}

-- where there are stills, one that suits has their size
same_size_lem : (W H c : ℕ) (h : Held) → suits W H c h ≡ true → 0 < h.count → W * H * c ≡ h.width * h.height * h.channels
unfolding suits
same_size_lem W H c h e n =
    let f : (eqb h.width W && eqb h.height H && eqb h.channels c) ≡ true = rw (ne_eqb h.count 0 (λ z. omega (arith, z, n))) at e in
    let p = (and-eq-true_iff (eqb h.width W && eqb h.height H) (eqb h.channels c)).0 f in
    let q = (and-eq-true_iff (eqb h.width W) (eqb h.height H)).0 p.0 in
    rw (eqb-true h.width W q.0, eqb-true h.height H q.1, eqb-true h.channels c p.1)

module _ (W H c n T : ℕ) (h : Held) (raster rasters labels : List ℕ) (fits : suits W H c h ≡ true) (long : length raster ≡ W * H * c)
    (room : h.count * (W * H * c) + W * H * c ≤ length rasters) (space : 2 * h.count + 2 ≤ length labels) where
  -- the background before and after, and memory after
  abbrev before : Background
  before = background_in h rasters labels

  abbrev after : Background
  after = joined W H c (member n T raster) before

  abbrev rasters' : List ℕ
  rasters' = with_raster (W * H * c) h.count raster rasters

  abbrev labels' : List ℕ
  labels' = with_labels h.count n T labels

  pub one_more : stills after ≡ h.count + 1
  one_more = length-append before.members (member n T raster ∷ []) ∙ ap (λ (k : ℕ). k + 1) (stills_in h rasters labels)

  members_are : tabulate (member_in (W * H * c) rasters' labels') (h.count + 1) ≡ after.members
  unfolding background_in
  members_are =
      tabulate_last _ h.count (member n T raster) (sym (member_here (W * H * c) h.count raster rasters n T labels room long space))
      ∙ ap (λ (ms : List Member). ms ++ (member n T raster ∷ []))
      (tabulate_ext _ _ h.count (λ j b. member_elsewhere (W * H * c) h.count raster rasters n T labels room long space j (λ f. omega (arith, f, b))
      ∙ ap (λ (size : ℕ). member_in size rasters labels j) (same_size_lem W H c h fits (omega (arith, b)))))

  whole : background_in (held_of after) rasters' labels' ≡ after
  unfolding background_in
  whole =
      ap (λ (ms : List Member). record { width = W; height = H; channels = c; members = ms }) (ap (λ (k : ℕ). tabulate (member_in (W * H * c) rasters' labels') k) one_more ∙ members_are)

  pub added_lies : Lies after rasters rasters' labels labels'
  added_lies =
      let k = stills after in
      let behind : h.count * (W * H * c) + W * H * c ≤ k * (W * H * c) = rw one_more (omega arith) in
      let two : 2 * h.count + 2 ≤ 2 * k = rw one_more (omega arith) in
      record {
        held = whole;
        rasters-behind = drop_behind (W * H * c) h.count raster rasters room long (k * (W * H * c)) behind;
        labels_behind = labels_behind h.count n T labels (2 * k) two;
        rasters-length = raster-length (W * H * c) h.count raster rasters room long;
        labels_length = labels_length h.count n T labels;
      }

-- what an addition whose tests passed has shown
pub record Accepted (W H c : ℕ) (h : Held) (rasters labels : ℕ) : Type 0 where
  pub fits : suits W H c h ≡ true
  pub few : h.count < 1000
  pub room : h.count * (W * H * c) + W * H * c ≤ rasters
  pub space : 2 * h.count + 2 ≤ labels

pub accepted : (n W H c bytes words : ℕ) (h : Held) (rasters labels : List ℕ) → verdict (add_tests n W H c bytes words (background_in h rasters labels)) ≡ Ok tt → Accepted W H c h bytes words
accepted n W H c bytes words h rasters labels e =
    let p = all_pass _ (rw (add_tests_in n bytes words h rasters labels W H c) at e) in
    let i = inside (h.count + 1) (W * H * c) bytes words p.1.1.1.1.0 in
    record { fits = p.1.1.0; few = ltb-true h.count 1000 p.1.1.1.0; room = omega (arith, i.0); space = omega (arith, i.1) }

-- the answer and memory behind it
pub added : (n T W H c : ℕ) (h : Held) (raster rasters labels : List ℕ) {rasters' labels' : List ℕ} → length raster ≡ W * H * c
    → verdict (add_tests n W H c (length rasters) (length labels) (background_in h rasters labels)) ≡ Ok tt
    → rasters' ≡ with_raster (length raster) h.count raster rasters → labels' ≡ with_labels h.count n T labels
    → Changes (tested Err (add_tests n W H c (length rasters) (length labels) (background_in h rasters labels)) (Ok (joined W H c (member n T raster) (background_in h rasters labels))))
    rasters rasters' labels labels' (Ok (record { count = h.count + 1; width = W; height = H; channels = c }))
added n T W H c h raster rasters labels long e er el =
    let a = accepted n W H c (length rasters) (length labels) h rasters labels e in
    let lies = added_lies W H c n T h raster rasters labels a.fits long a.room a.space in
    let done = passes rasters labels _ _ e lies in
    rw (er, el, long, ← one_more W H c n T h raster rasters labels a.fits long a.room a.space) done
