-- NO REFUSAL'S NUMBER IS 0, of none of the eleven calls: so a C caller who gets 0 has the answer. And 28 and 29 come of a caller's limits alone, never of the archive's. Assumes nothing.
use Prim.Native.Nat.{ℕ, ◌≤◌}
use native.Mathlib.Omega.{arith}
use mathlib.Core.Path.{◌≡◌, refl, sym, ap, subst, ◌∙◌}
use mathlib.Core.Logic.{inl, inr}
use mathlib.Core.Bool.{Bool, true, false, cond, not, ◌&&◌, and-eq-true_iff}
use mathlib.Core.List.{List, [], ◌∷◌, ◌++◌}
use lib.Dec.{leb, eqb}
use lib.IntN.{ℤ}
use lib.ListN.{length}
use borrow.Author.Tests.{leb-true, le-leb, eqb-false, ne_eqb, not-true}
use Rattle.refusals.proofs.Passed.{between}
use Rattle.std.specs.Prelude.{Option, None, Some, Result, Ok, Err}
use Rattle.refusals.specs.declared.Refusal.{Refusal}
use Rattle.refusals.specs.declared.Refusal.TheVariants.{Magic, Header, Side, Maximum, RasterShort, RasterLong, StageCount, Cut, Trailing, Kind, Count, Offset, RealWeight, Gain, Position, Channels, Room, FileLong, FileUnread, StillNumber, StillSize, BackgroundFull, SizesDiffer, MovementLimit, StageLimit, SampleLimit, VerdictStage, ReceivedSize, DistanceLimit}
use Rattle.refusals.specs.Refusal.{Test, tested, number}
use Rattle.answers.specs.declared.Picture.{Picture}
use Rattle.answers.specs.declared.Recipe.{Recipe}
use Rattle.answers.specs.declared.Filtered.{Filtered}
use Rattle.answers.specs.declared.Mean.{Mean}
use Rattle.answers.specs.declared.Needs.{Needs}
use Rattle.verdict_answers.specs.declared.Comparison.{Comparison}
use Rattle.model.specs.Stage.{Stage}
use Rattle.model.specs.Tolerance.{tolerance}
use Rattle.recipe.specs.Recipe.{recipe_tests, recipe_stages, recipe_of}
use Rattle.still_reader.specs.Head.{head_of}
use Rattle.still_reader.specs.Read.{still_of}
use Rattle.still_writer.specs.Write.{write_tests, written_of}
use Rattle.room.specs.declared.Lent.{Lent}
use Rattle.room.specs.Room.{lent, room_tests}
use Rattle.filter_answers.specs.PlaneAnswer.{plane_tests, plane_answer}
use Rattle.filter_answers.specs.declared.Limits.{Limits}
use Rattle.filter_answers.specs.Limits.{archive, AtMost}
use Rattle.filter_answers.specs.FileAnswer.{lent_tests, file_answer}
use Rattle.filter_answers.proofs.Wider.{LimitedOr}
use Rattle.filter_answers.proofs.NoLimit.{unlimited_still, unlimited_picture, unlimited_file, no_limit_picture, no_limit_file, archive_itself, limited_file}
use Rattle.buffer_needs.specs.NeedsAnswer.{head_needs, needs_answer}
use Rattle.program_filter.specs.Program.{program_lent, program_answer}
use Rattle.movement.specs.Order.{refusal_tests, same_size, in_order}
use Rattle.movement_answers.specs.Run.{Run, stages, asked}
use Rattle.movement_answers.specs.MovementAnswer.{movement_tests, motions_between, counts, movement_answer}
use Rattle.verdict_answers.specs.Plan.{fit_stage, request_tests, pair_tests, stills_plan, plan_of}
use Rattle.verdict_answers.specs.VerdictAnswer.{answer_to, verdict_answer}
use Rattle.background.specs.Background.{Background, stills, samples}
use Rattle.background.specs.Change.{Outcome, add_tests, addition_of, addition, remove_tests, removal}
use Rattle.background.specs.Mean.{mean_tolerance, mean_tests, mean_answer}
use Rattle.background.specs.Memory.{answer_of}
use Rattle.told.specs.Numbers.{Told, refusal, values, Tells, told_by, still_told, written_told, recipe_told, needs_told, plane_told, file_told, changed_told, mean_told, movement_told, judged_told}
use Rattle.capi.specs.Calls.{WritesStill, FiltersPlane, FiltersFile, CountsMovement}
use Rattle.told_background.specs.Calls.{ChangesBackground, MeansStills}
use Rattle.told_verdict.specs.Call.{GivesVerdict}
use Rattle.call_laws.specs.Success.{Success}
use Rattle.call_laws.proofs.Numbers as Numbers
use Rattle.call_laws.proofs.Numbers.{numbered_wider, refused_with, own, recipe_own, head_own, still_own}

-- ---- tests whose numbers are neither 0 nor 28 nor 29

-- a refusal that is not of a caller's limits
abbrev pub NotOfLimits : Refusal → Type 0
NotOfLimits r = (1 ≤ number r) × (number r ≡ number StageLimit → ⊥) × (number r ≡ number SampleLimit → ⊥)

abbrev not_of_limits : ℕ → Bool
not_of_limits n = leb 1 n && (not (eqb n 28) && not (eqb n 29))

is_not_of_limits : (r : Refusal) → not_of_limits (number r) ≡ true → NotOfLimits r
is_not_of_limits r e =
    let n = number r in
    let h = (and-eq-true_iff (leb 1 n) (not (eqb n 28) && not (eqb n 29))).0 e in
    let k = (and-eq-true_iff (not (eqb n 28)) (not (eqb n 29))).0 h.1 in
    (leb-true 1 n h.0, eqb-false n 28 (not-true _ k.0), eqb-false n 29 (not-true _ k.1))

from_not_of_limits : (r : Refusal) → NotOfLimits r → not_of_limits (number r) ≡ true
from_not_of_limits r h = rw (le-leb 1 (number r) h.0, ne_eqb (number r) 28 h.1, ne_eqb (number r) 29 h.2) refl

-- a recipe's and a still's own are none
own_not_of_limits : (n : ℕ) → own n ≡ true → not_of_limits n ≡ true
own_not_of_limits n e =
    let h = between 1 n 18 e in
    rw (le-leb 1 n h.0, ne_eqb n 28 (λ f. omega (arith, h, f)), ne_eqb n 29 (λ f. omega (arith, h, f))) refl

abbrev numbered : List Test → Bool
numbered = Numbers.numbered not_of_limits

numbered_append : (xs ys : List Test) → numbered xs ≡ true → numbered ys ≡ true → numbered (xs ++ ys) ≡ true
numbered_append = Numbers.numbered_append not_of_limits

-- the refusal of such tests, or of the answer after them
refused-number : {A : Type 0} (ts : List Test) (answer : Result A Refusal) (n : Refusal) → numbered ts ≡ true → (answer ≡ Err n → NotOfLimits n)
    → tested Err ts answer ≡ Err n → NotOfLimits n
refused-number ts answer n p q e = is_not_of_limits n (refused_with not_of_limits ts answer n p (λ f. from_not_of_limits n (q f)) e)

-- what is given is no refusal
given_none : {A : Type 0} {x : A} (n : Refusal) → ◌≡◌ {A = Result A Refusal} (Ok x) (Err n) → NotOfLimits n
given_none n f = let z : ◌≡◌ {A = ℕ} 0 1 = cc in absurd (omega arith)

recipe_numbered : (b : List ℕ) → numbered (recipe_tests b) ≡ true
recipe_numbered b = numbered_wider own not_of_limits own_not_of_limits (recipe_tests b) (recipe_own b)

-- ---- the calls of document 01

read_head_number : (bytes : List ℕ) (n : Refusal) → head_of bytes ≡ Err n → NotOfLimits n
read_head_number bytes n e = is_not_of_limits n (own_not_of_limits (number n) (head_own bytes n e))

pub read_still_number : (bytes : List ℕ) (n : Refusal) → still_of bytes ≡ Err n → NotOfLimits n
read_still_number bytes n e = is_not_of_limits n (own_not_of_limits (number n) (still_own bytes n e))

pub write_still_number : (W H c raster room : ℕ) (n : Refusal) → written_of W H c raster room ≡ Err n → NotOfLimits n
unfolding written_of write_tests
write_still_number W H c raster room n e = refused-number (write_tests W H c raster room) (Ok _) n refl (given_none n) e

pub read_recipe_number : (recipe : List ℕ) (n : Refusal) → recipe_of recipe ≡ Err n → NotOfLimits n
unfolding recipe_of
read_recipe_number recipe n e = refused-number (recipe_tests recipe) (Ok _) n (recipe_numbered recipe) (given_none n) e

pub filter_plane_number : (recipe : List ℕ) (W H samples : ℕ) (l : Lent) (n : Refusal) → plane_answer recipe W H samples l ≡ Err n → NotOfLimits n
unfolding plane_answer plane_tests room_tests
filter_plane_number recipe W H samples l n e =
    refused-number (recipe_tests recipe ++ plane_tests recipe W H samples l) (Ok _) n (numbered_append (recipe_tests recipe) (plane_tests recipe W H samples l) (recipe_numbered recipe) refl) (given_none n) e

still_answer_number : (T : ℕ) (s : Result Picture Refusal) (n : Refusal) → ((k : Refusal) → s ≡ Err k → NotOfLimits k) → unlimited_still T s ≡ Err n → NotOfLimits n
still_answer_number T (Err k) n h e = let d : k ≡ n = cc in rw d at (h k refl)
still_answer_number T (Ok p) n h e = let z : ◌≡◌ {A = ℕ} 0 1 = cc in absurd (omega arith)

-- the recipe's and the still's
unlimited_number : (recipe still : List ℕ) (n : Refusal) → unlimited_picture recipe still ≡ Err n → NotOfLimits n
unlimited_number recipe still n e =
    refused-number (recipe_tests recipe) (unlimited_still (tolerance (recipe_stages recipe)) (still_of still)) n (recipe_numbered recipe) (still_answer_number (tolerance (recipe_stages recipe)) (still_of still) n (read_still_number still)) e

lent_numbered : (ts : List Stage) (l : Lent) (a : Result Filtered Refusal) → numbered (lent_tests ts l a) ≡ true
unfolding room_tests
lent_numbered ts l (Err n) = refl
lent_numbered ts l (Ok p) = refl

unlimited_file_number : (recipe still : List ℕ) (l : Lent) (n : Refusal) → unlimited_file recipe still l ≡ Err n → NotOfLimits n
unlimited_file_number recipe still l n e =
    refused-number (lent_tests (recipe_stages recipe) l (unlimited_picture recipe still)) (unlimited_picture recipe still) n (lent_numbered (recipe_stages recipe) l (unlimited_picture recipe still)) (unlimited_number recipe still n) e

-- with limits: 28 and 29 too
pub filter_file_number : (m : Limits) (recipe still : List ℕ) (l : Lent) (n : Refusal) → file_answer m recipe still l ≡ Err n → 1 ≤ number n
filter_file_number m recipe still l n e = by_answer (limited_file m recipe still l)
  where
    by_answer : LimitedOr (unlimited_file recipe still l) (file_answer m recipe still l) → 1 ≤ number n
    by_answer (inl f) = let d : StageLimit ≡ n = cc in subst (λ r. 1 ≤ number r) d (omega arith)
    by_answer (inr (inl f)) = let d : SampleLimit ≡ n = cc in subst (λ r. 1 ≤ number r) d (omega arith)
    by_answer (inr (inr f)) = (unlimited_file_number recipe still l n (sym f ∙ e)).0

-- with the archive's limits or larger ones: never 28 and never 29
pub no_limit_number : {m : Limits} → AtMost archive m → (recipe still : List ℕ) (l : Lent) (n : Refusal) → file_answer m recipe still l ≡ Err n → NotOfLimits n
no_limit_number w recipe still l n e = unlimited_file_number recipe still l n (sym (no_limit_file w recipe still l) ∙ e)

pub archive-number : (recipe still : List ℕ) (l : Lent) (n : Refusal) → file_answer archive recipe still l ≡ Err n → NotOfLimits n
archive-number = no_limit_number archive_itself

pub program_number : (recipe still : List ℕ) (n : Refusal) → program_answer recipe still ≡ Err n → NotOfLimits n
unfolding program_answer
program_number recipe still n e = archive-number recipe still program_lent n e

-- ---- the calls of document 02

head-needs-number : (ts : List Stage) (head : Result Picture Refusal) (n : Refusal) → ((k : Refusal) → head ≡ Err k → NotOfLimits k) → head_needs ts head ≡ Err n → NotOfLimits n
head-needs-number ts (Err k) n h e = let d : k ≡ n = cc in rw d at (h k refl)
head-needs-number ts (Ok p) n h e = let z : ◌≡◌ {A = ℕ} 0 1 = cc in absurd (omega arith)

pub needs-number : (recipe still : List ℕ) (n : Refusal) → needs_answer recipe still ≡ Err n → NotOfLimits n
unfolding needs_answer
needs-number recipe still n e =
    refused-number (recipe_tests recipe) (head_needs (recipe_stages recipe) (head_of still)) n (recipe_numbered recipe) (head-needs-number (recipe_stages recipe) (head_of still) n (read_head_number still)) e

-- the still's own refusal, or one of the background's
addition-number : (s : Result Picture Refusal) (file : List ℕ) (number T rasters labels : ℕ) (b : Background) (n : Refusal) → ((k : Refusal) → s ≡ Err k → NotOfLimits k)
    → addition_of s file number T rasters labels b ≡ Err n → NotOfLimits n
unfolding add_tests
addition-number (Err k) file number T rasters labels b n h e = let d : k ≡ n = cc in rw d at (h k refl)
addition-number (Ok p) file number T rasters labels b n h e =
    refused-number (add_tests number p.width p.height p.channels rasters labels b) (Ok _) n refl (given_none n) e

pub add-still-number : (file : List ℕ) (number T rasters labels : ℕ) (b : Background) (n : Refusal) → addition file number T rasters labels b ≡ Err n → NotOfLimits n
unfolding addition
add-still-number file number T rasters labels b n e = addition-number (still_of file) file number T rasters labels b n (read_still_number file) e

pub remove-still-number : (number rasters labels : ℕ) (b : Background) (n : Refusal) → removal number rasters labels b ≡ Err n → NotOfLimits n
unfolding removal remove_tests
remove-still-number number rasters labels b n e = refused-number (remove_tests number rasters labels b) (Ok _) n refl (given_none n) e

pub mean-still-number : (rasters labels out : ℕ) (b : Background) (n : Refusal) → mean_answer rasters labels out b ≡ Err n → NotOfLimits n
unfolding mean_answer mean_tests
mean-still-number rasters labels out b n e = go (eqb (stills b) 0) e
  where
    go : (t : Bool) → cond {A = Result (Option Mean) Refusal} t (Ok None) (tested Err (mean_tests rasters labels out b) (Ok (Some (record { stills = stills b; tolerance = mean_tolerance b.members; len = samples b })))) ≡ Err n → NotOfLimits n
    go true f = let z : ◌≡◌ {A = ℕ} 0 1 = cc in absurd (omega arith)
    go false f = refused-number (mean_tests rasters labels out b) (Ok _) n refl (given_none n) f

refusal_numbered : (a : Result Filtered Refusal) → ((n : Refusal) → a ≡ Err n → NotOfLimits n) → numbered (refusal_tests a) ≡ true
refusal_numbered (Err n) h = rw (from_not_of_limits n (h n refl))
refusal_numbered (Ok p) h = refl

run-number : (r : Run) (n : Refusal) → asked r ≡ Err n → NotOfLimits n
run-number r n e = unlimited_number r.recipe r.still n (sym (no_limit_picture archive_itself r.recipe r.still) ∙ e)

pub count_movement_number : (L : ℕ) (a b : Run) (n : Refusal) → movement_answer L a b ≡ Err n → NotOfLimits n
unfolding movement_answer movement_tests in_order
count_movement_number L a b n e = refused-number (movement_tests L a b) (Ok (counts (motions_between L a b) a b)) n all (given_none n) e
  where
    own : List Test
    own = (leb L 255, MovementLimit) ∷ refusal_tests (asked a) ++ refusal_tests (asked b)

    all : numbered (movement_tests L a b) ≡ true
    all =
        let first = numbered_append ((leb L 255, MovementLimit) ∷ refusal_tests (asked a)) (refusal_tests (asked b)) (refusal_numbered (asked a) (run-number a)) (refusal_numbered (asked b) (run-number b)) in
        let then = numbered_append own ((same_size (asked a) (asked b), SizesDiffer) ∷ lent_tests (stages a) a.lent (asked a)) first (lent_numbered (stages a) a.lent (asked a)) in
        numbered_append (own ++ ((same_size (asked a) (asked b), SizesDiffer) ∷ lent_tests (stages a) a.lent (asked a))) (lent_tests (stages b) b.lent (asked b)) then (lent_numbered (stages b) b.lent (asked b))

-- the refusals of both stills, or of the pair
stills-number : (works : ℕ) (first second : Result Picture Refusal) (n : Refusal) → ((k : Refusal) → first ≡ Err k → NotOfLimits k) → ((k : Refusal) → second ≡ Err k → NotOfLimits k)
    → stills_plan works first second ≡ Err n → NotOfLimits n
stills-number works (Err k) second n f g e = let d : k ≡ n = cc in rw d at (f k refl)
stills-number works (Ok p) (Err k) n f g e = let d : k ≡ n = cc in rw d at (g k refl)
stills-number works (Ok p) (Ok q) n f g e = refused-number (pair_tests p q works) (Ok _) n refl (given_none n) e

plan_number : (c : ℕ) (recipe raw received : List ℕ) (works : ℕ) (n : Refusal) → plan_of c recipe raw received works ≡ Err n → NotOfLimits n
unfolding plan_of request_tests
plan_number c recipe raw received works n e =
    refused-number (request_tests c recipe) (stills_plan works (still_of raw) (still_of received)) n
    (numbered_append ((leb c 255, DistanceLimit) ∷ recipe_tests recipe) ((fit_stage recipe, VerdictStage) ∷ []) (recipe_numbered recipe) refl)
    (stills-number works (still_of raw) (still_of received) n (read_still_number raw) (read_still_number received)) e

pub verdict-number : (c : ℕ) (recipe raw received : List ℕ) (works : ℕ) (n : Refusal) → verdict_answer c recipe raw received works ≡ Err n → NotOfLimits n
unfolding verdict_answer
verdict-number c recipe raw received works n e = by_plan (plan_of c recipe raw received works) refl e
  where
    by_plan : (p : Result Comparison Refusal) → plan_of c recipe raw received works ≡ p → answer_to p c (recipe_stages recipe) raw received ≡ Err n → NotOfLimits n
    by_plan (Err k) f g = let d : k ≡ n = cc in plan_number c recipe raw received works n (f ∙ ap Err d)
    by_plan (Ok p) f g = let z : ◌≡◌ {A = ℕ} 0 1 = cc in absurd (omega arith)

-- ---- the same for a C caller: 0 is told of success alone

abbrev NoZero : Told → Type 0
NoZero (refusal n) = 1 ≤ n
NoZero (values ns) = Unit {0}

succeeds : (t : Told) {xs ys : List ℕ} {r : ℕ} → NoZero t → Tells t xs ys r → r ≡ 0 → Success t ys
succeeds (refusal n) h t z = absurd (omega (arith, h, t.number, z))
succeeds (values ns) h t z = record { answer = ns; is = refl; array-is = t.numbers }

positive : (r : Refusal) → 1 ≤ number r
positive Magic = omega arith
positive Header = omega arith
positive Side = omega arith
positive Maximum = omega arith
positive RasterShort = omega arith
positive RasterLong = omega arith
positive StageCount = omega arith
positive Cut = omega arith
positive Trailing = omega arith
positive Kind = omega arith
positive Count = omega arith
positive Offset = omega arith
positive RealWeight = omega arith
positive Gain = omega arith
positive Position = omega arith
positive Channels = omega arith
positive Room = omega arith
positive FileLong = omega arith
positive FileUnread = omega arith
positive StillNumber = omega arith
positive StillSize = omega arith
positive BackgroundFull = omega arith
positive SizesDiffer = omega arith
positive MovementLimit = omega arith
positive StageLimit = omega arith
positive SampleLimit = omega arith
positive VerdictStage = omega arith
positive ReceivedSize = omega arith
positive DistanceLimit = omega arith

told_no_zero : {A : Type 0} (numbers : A → List ℕ) (answer : Result A Refusal) → NoZero (told_by numbers answer)
told_no_zero numbers (Err r) = positive r
told_no_zero numbers (Ok x) = tt

-- each contract of the C interface, where the function returns 0
module _ {array array' : List ℕ} {r : ℕ} (returns-0 : r ≡ 0) where
  pub read_still_success : (bytes : List ℕ) → Tells (still_told (still_of bytes)) array array' r → Success (still_told (still_of bytes)) array'
  read_still_success bytes t = succeeds (still_told (still_of bytes)) (told_no_zero _ _) t returns-0

  pub write_still_success : (W H c : ℕ) (raster out out' : List ℕ) → WritesStill W H c raster out out' array array' r
      → Success (written_told (written_of W H c (length raster) (length out))) array'
  write_still_success W H c raster out out' w =
      let a = written_of W H c (length raster) (length out) in
      succeeds (written_told a) (told_no_zero _ _) w.told returns-0

  pub read_recipe_success : (recipe : List ℕ) → Tells (recipe_told (recipe_of recipe)) array array' r → Success (recipe_told (recipe_of recipe)) array'
  read_recipe_success recipe t = succeeds (recipe_told (recipe_of recipe)) (told_no_zero _ _) t returns-0

  pub needs_success : (recipe still : List ℕ) → Tells (needs_told (needs_answer recipe still)) array array' r → Success (needs_told (needs_answer recipe still)) array'
  needs_success recipe still t = succeeds (needs_told (needs_answer recipe still)) (told_no_zero _ _) t returns-0

  module _ (recipe work work' : List ℕ) (rows rows' : List ℤ) (sums sums' out out' : List ℕ) where
    pub filter_plane_success : (W H : ℕ) (plane : List ℕ) → FiltersPlane recipe W H plane work work' rows rows' sums sums' out out' array array' r
        → Success (plane_told (plane_answer recipe W H (length plane) (lent (length work) (length rows) (length sums) (length out)))) array'
    filter_plane_success W H plane f =
        let lengths = lent (length work) (length rows) (length sums) (length out) in
        let a = plane_answer recipe W H (length plane) lengths in
        succeeds (plane_told a) (told_no_zero _ _) f.told returns-0

    pub filter_file_success : (m : Limits) (still : List ℕ) → FiltersFile m recipe still work work' rows rows' sums sums' out out' array array' r
        → Success (file_told (file_answer m recipe still (lent (length work) (length rows) (length sums) (length out)))) array'
    filter_file_success m still f =
        let lengths = lent (length work) (length rows) (length sums) (length out) in
        let a = file_answer m recipe still lengths in
        succeeds (file_told a) (told_no_zero _ _) f.told returns-0

  -- on the background b that the lent memory holds
  module _ (b : Background) (rasters labels : List ℕ) where
    pub add_still_success : (still : List ℕ) (number T : ℕ) (rasters' labels' : List ℕ)
        → ChangesBackground (addition still number T (length rasters) (length labels) b) rasters rasters' labels labels' array array' r
        → Success (changed_told (answer_of (addition still number T (length rasters) (length labels) b))) array'
    add_still_success still number T rasters' labels' c =
        let o = addition still number T (length rasters) (length labels) b in
        succeeds (changed_told (answer_of o)) (told_no_zero _ _) c.told returns-0

    pub remove_still_success : (number : ℕ) (rasters' labels' : List ℕ)
        → ChangesBackground (removal number (length rasters) (length labels) b) rasters rasters' labels labels' array array' r
        → Success (changed_told (answer_of (removal number (length rasters) (length labels) b))) array'
    remove_still_success number rasters' labels' c =
        let o = removal number (length rasters) (length labels) b in
        succeeds (changed_told (answer_of o)) (told_no_zero _ _) c.told returns-0

    pub mean_still_success : (out out' : List ℕ) → MeansStills b rasters labels out out' array array' r
        → Success (mean_told (mean_answer (length rasters) (length labels) (length out) b)) array'
    mean_still_success out out' m =
        let a = mean_answer (length rasters) (length labels) (length out) b in
        succeeds (mean_told a) (told_no_zero _ _) m.told returns-0

  pub count_movement_success : (L : ℕ) (a b : Run) (work work' : List ℕ) (rows rows' : List ℤ) (sums sums' out1 out1' out2 out2' : List ℕ)
      → CountsMovement L a b work work' rows rows' sums sums' out1 out1' out2 out2' array array' r → Success (movement_told (movement_answer L a b)) array'
  count_movement_success L a b work work' rows rows' sums sums' out1 out1' out2 out2' c =
      succeeds (movement_told (movement_answer L a b)) (told_no_zero _ _) c.told returns-0

  pub verdict_success : (c : ℕ) (recipe raw received work work' : List ℕ) → GivesVerdict c recipe raw received work work' array array' r
      → Success (judged_told (verdict_answer c recipe raw received (length work))) array'
  verdict_success c recipe raw received work work' v =
      let a = verdict_answer c recipe raw received (length work) in
      succeeds (judged_told a) (told_no_zero _ _) v.told returns-0
