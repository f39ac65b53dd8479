-- THE LIMIT OF 65,535 NEVER DECIDES: after any calls the stills held lack their room only where memory is too short. Assumes nothing.
use Prim.Native.Nat.{ℕ, ◌-◌, ◌*◌, ◌≤◌}
use native.Mathlib.Omega.{arith}
use mathlib.Core.Path.{◌≡◌, refl, subst}
use mathlib.Core.Bool.{Bool, true, false, ◌||◌}
use mathlib.Core.List.{List, [], ◌∷◌}
use lib.ListN.{drop, length-append}
use lib.Dec.{eqb}
use borrow.Author.Tests.{le-leb, ltb-true, eqb-true}
use Rattle.std.specs.Prelude.{Result, Ok, Err}
use Rattle.lists.proofs.Tabulate.{length-tabulate}
use Rattle.refusals.specs.declared.Refusal.{Refusal}
use Rattle.refusals.proofs.Passed.{AllPass, passed}
use Rattle.answers.specs.declared.Held.{Held}
use Rattle.answers.specs.declared.Picture.{Picture}
use Rattle.picture_sizes.proofs.PictureSizeLaws.{side-le, channels_few}
use Rattle.still_reader.specs.Read.{still_of}
use Rattle.round_trip.proofs.RoundTrip.{picture_valid}
use Rattle.background.specs.Background.{member, Background, empty, stills, samples, numbers, position}
use Rattle.background.specs.Room.{room_for, held_of, small_numbers, held_room}
use Rattle.background.specs.Change.{Outcome, add_tests, joined, addition_of, addition, remove_tests, without, removal}
use Rattle.background.specs.History.{Addition, Operation, adds, removes, outcome, after_outcome, history}
use Rattle.background.specs.Calls.{Left, nothing, Calls}
use Rattle.background_laws.proofs.Survivors.{never}
use Rattle.background_laws.proofs.Runs.{calls_are_history}

-- ---- the numbers that calls leave

-- no more stills than an addition lets in, of a size that a still can have. An emptied background keeps the size of its last
record Limited (h : Held) : Type 0 where
  few : h.count ≤ 1000
  width : h.width ≤ 8192
  height : h.height ≤ 8192
  channels : h.channels ≤ 3

limited_none : Limited (held_of empty)
limited_none = record { few = omega arith; width = omega arith; height = omega arith; channels = omega arith }

-- an addition: there were fewer than 1,000, and the size is that of a still that was read
limited_joined : (a : Addition) (b : Background) (s : Picture) → still_of a.file ≡ Ok s
    → AllPass (add_tests a.number s.width s.height s.channels a.bytes a.words b)
    → Limited (held_of (joined s.width s.height s.channels (member a.number a.tolerance (drop s.start a.file)) b))
unfolding add_tests
limited_joined a b s e p =
    let v = picture_valid a.file e in
    record {
      few = rw (length-append b.members (member a.number a.tolerance (drop s.start a.file) ∷ [])) (omega (arith, ltb-true (stills b) 1000 p.1.1.1.0));
      width = (side-le s.width v.width).1;
      height = (side-le s.height v.height).1;
      channels = channels_few s.channels v.channels;
    }

limited_added : (a : Addition) (b b' : Background) → outcome (adds a) b ≡ Ok b' → Limited (held_of b')
unfolding outcome addition
limited_added a b b' e = go (still_of a.file) refl e
  where
    go : (s : Result Picture Refusal) → still_of a.file ≡ s → addition_of s a.file a.number a.tolerance a.bytes a.words b ≡ Ok b' → Limited (held_of b')
    go (Err r) d f = absurd (never r f)
    go (Ok s) d f =
        let p = passed {A = Outcome} Err (add_tests a.number s.width s.height s.channels a.bytes a.words b) _ (Ok b') never f in
        let is : joined s.width s.height s.channels (member a.number a.tolerance (drop s.start a.file)) b ≡ b' = cc in
        subst (λ (z : Background). Limited (held_of z)) is (limited_joined a b s d p.0)

-- a removal: one still fewer, and the size stays
limited_removed : (n rasters labels : ℕ) (b b' : Background) → Limited (held_of b) → outcome (removes n rasters labels) b ≡ Ok b' → Limited (held_of b')
unfolding outcome removal without
limited_removed n rasters labels b b' l e =
    let p = passed {A = Outcome} Err (remove_tests n rasters labels b) _ (Ok b') never e in
    let is : record { width = b.width; height = b.height; channels = b.channels; members = without (position n (numbers b)) b.members } ≡ b' = cc in
    subst (λ (z : Background). Limited (held_of z)) is
    (record { few = rw (length-tabulate _ (stills b - 1)) (omega (arith, l.few)); width = l.width; height = l.height; channels = l.channels })

limited_after : (o : Operation) (b : Background) → Limited (held_of b) → Limited (held_of (after_outcome (outcome o b) b))
limited_after o b l = go o (outcome o b) refl
  where
    go : (o : Operation) (r : Outcome) → outcome o b ≡ r → Limited (held_of (after_outcome r b))
    go o (Err r) e = l
    go (adds a) (Ok b') e = limited_added a b b' e
    go (removes n rasters labels) (Ok b') e = limited_removed n rasters labels b b' l e

limited_history : (os : List Operation) (b : Background) → Limited (held_of b) → Limited (held_of (history os b))
unfolding history
limited_history [] b l = l
limited_history (o ∷ os) b l = limited_history os _ (limited_after o b l)

-- ---- so the limit is kept

small_limited : (h : Held) → Limited h → small_numbers h ≡ true
unfolding small_numbers
small_limited h l =
    rw (
      le-leb h.count 65535 (omega (arith, l.few)),
      le-leb h.width 65535 (omega (arith, l.width)),
      le-leb h.height 65535 (omega (arith, l.height)),
      le-leb h.channels 65535 (omega (arith, l.channels)),
    )

-- no stills need no room
none_fit : (size rasters labels : ℕ) → room_for 0 size rasters labels ≡ true
unfolding room_for
none_fit size rasters labels = rw (le-leb (0 * size) rasters (omega arith), le-leb (2 * 0) labels (omega arith))

-- so room is decided by the length of memory alone
room_limited : (h : Held) → Limited h → (rasters labels : ℕ)
    → held_room h rasters labels ≡ room_for h.count (h.width * h.height * h.channels) rasters labels
unfolding held_room
room_limited h l rasters labels = rw (small_limited h l) (go (eqb h.count 0) refl)
  where
    size : ℕ
    size = h.width * h.height * h.channels

    go : (t : Bool) → eqb h.count 0 ≡ t → (t || room_for h.count size rasters labels) ≡ room_for h.count size rasters labels
    go true e = rw (eqb-true h.count 0 e, none_fit size rasters labels)
    go false e = refl

-- THE FOUR NUMBERS ARE SMALL after any list of operations
pub small_in_history : (os : List Operation) → small_numbers (held_of (history os empty)) ≡ true
small_in_history os = small_limited (held_of (history os empty)) (limited_history os empty limited_none)

-- REFUSAL 20 FOR THE STILLS HELD says that their bytes or their labels are lacking, and nothing else
pub room_in_history : (os : List Operation) (rasters labels : ℕ)
    → held_room (held_of (history os empty)) rasters labels ≡ room_for (stills (history os empty)) (samples (history os empty)) rasters labels
room_in_history os rasters labels = room_limited (held_of (history os empty)) (limited_history os empty limited_none) rasters labels

-- the same of what calls have left in memory
pub room_in_calls : (os : List Operation) (l : Left) → Calls nothing os l → (rasters labels : ℕ)
    → held_room l.held rasters labels ≡ room_for l.held.count (l.held.width * l.held.height * l.held.channels) rasters labels
room_in_calls os l cs rasters labels = rw (calls_are_history os l cs).held (room_in_history os rasters labels)
