-- WHAT CALLS KEEP IN LENT MEMORY IS WHAT THE DEFINITIONS SAY, whatever length is lent to each; so a mean after them is that of the stills left. Assumes nothing.
use Prim.Native.Nat.{ℕ, zero, suc, ◌+◌, ◌-◌, ◌*◌, ◌≤◌, ◌<◌}
use native.Mathlib.Nat.{mul-le-mul_right}
use native.Mathlib.Omega.{arith}
use mathlib.Core.Path.{◌≡◌, refl, sym, ap, subst, ◌∙◌}
use mathlib.Core.Bool.{Bool, true, false, ◌&&◌, ◌||◌, and-eq-true_iff}
use mathlib.Core.List.{List, [], ◌∷◌, ◌++◌, map}
use lib.ListN.{length, take, drop, length-append}
use lib.Seq.{length-take-le, take_all, take-take, get_or-take}
use lib.Dec.{leb, eqb}
use borrow.Author.Tests.{leb-true, eqb-true}
use Rattle.std.specs.Prelude.{Option, Result, Ok, Err}
use Rattle.lists.specs.Tabulate.{tabulate}
use Rattle.lists.proofs.Raster.{row_fits}
use Rattle.lists.proofs.Tabulate.{length-tabulate, tabulate_ext}
use Rattle.refusals.specs.declared.Refusal.{Refusal}
use Rattle.refusals.proofs.Passed.{passed}
use Rattle.answers.specs.declared.Held.{Held}
use Rattle.answers.specs.declared.Picture.{Picture}
use Rattle.answers.specs.declared.Mean.{Mean}
use Rattle.still_reader.specs.Read.{still_of}
use Rattle.background.specs.Background.{member, Background, empty, stills, samples, numbers, position}
use Rattle.background.specs.Room.{room_for, held_of, small_numbers, held_room}
use Rattle.background.specs.Change.{Outcome, add_tests, joined, addition_of, addition, remove_tests, without, removal}
use Rattle.background.specs.Mean.{mean_tests, mean_answer, mean_output}
use Rattle.background.specs.Memory.{slot, member_in, background_in, Lies, answer_of, Changes, Means}
use Rattle.background.specs.History.{Operation, adds, removes, outcome, after_outcome, history, survivors}
use Rattle.background.specs.Calls.{Left, nothing, Begins, left_by, bytes_lent, words_lent, Call, Calls, none, more}
use Rattle.background_laws.proofs.Survivors.{never, AsIf, as_if_never}

-- ---- what memory holds lies in its front

part_front : {A : Type 0} (i n k : ℕ) (xs : List A) → i + n ≤ k → take n (drop i (take k xs)) ≡ take n (drop i xs)
part_front zero n k xs h = take-take n k xs (omega (arith, h))
part_front (suc i) n zero xs h = absurd (omega (arith, h))
part_front (suc i) n (suc k) [] h = refl
part_front (suc i) n (suc k) (x ∷ xs) h = part_front i n k xs (omega (arith, h))

-- a member looks at no byte and no label behind those of all members
member_front : (size count i : ℕ) (rasters labels : List ℕ) → i < count
    → member_in size (take (count * size) rasters) (take (2 * count) labels) i ≡ member_in size rasters labels i
unfolding member_in slot
member_front size count i rasters labels h =
    rw (
      get_or-take (2 * count) labels (2 * i) 0 (omega arith),
      get_or-take (2 * count) labels (2 * i + 1) 0 (omega arith),
      part_front (i * size) size (count * size) rasters (row_fits i count size h),
    )

-- how many samples each still held has
abbrev size_of : Held → ℕ
size_of h = h.width * h.height * h.channels

background_front : (h : Held) (rasters labels : List ℕ)
    → background_in h (take (h.count * size_of h) rasters) (take (2 * h.count) labels) ≡ background_in h rasters labels
unfolding background_in
background_front h rasters labels = rw (tabulate_ext _ _ h.count (λ i l. member_front (size_of h) h.count i rasters labels l))

-- any memory, even one that is too short, holds as many stills as are said to be held, and of that size
held_in_lem : (h : Held) (rasters labels : List ℕ) → held_of (background_in h rasters labels) ≡ h
unfolding background_in
held_in_lem h rasters labels = rw (length-tabulate (member_in (size_of h) rasters labels) h.count)

-- memory at least as long as what was left begins with all of it
begins_with : (n : ℕ) (memory front : List ℕ) → Begins memory front → length front ≡ n → n ≤ length memory → take n memory ≡ front
unfolding Begins
begins_with n memory front e d h = ap (λ (k : ℕ). take k memory) (sym d) ∙ e ∙ take_all (length memory) front (omega (arith, d, h))

-- ---- room

-- so many bytes and labels are enough for k stills
record Fits (k size rasters labels : ℕ) : Type 0 where
  bytes : k * size ≤ rasters
  two-each : 2 * k ≤ labels

none_fit : (k size rasters labels : ℕ) → k ≡ 0 → Fits k size rasters labels
none_fit k size rasters labels e = rw e (record { bytes = omega arith; two-each = omega arith })

fits_fewer : (j k size rasters labels : ℕ) → j ≤ k → Fits k size rasters labels → Fits j size rasters labels
fits_fewer j k size rasters labels h f = record { bytes = omega (arith, mul-le-mul_right size h, f.bytes); two-each = omega (arith, f.two-each) }

room_fits : (k size rasters labels : ℕ) → room_for k size rasters labels ≡ true → Fits k size rasters labels
unfolding room_for
room_fits k size rasters labels e =
    let p = (and-eq-true_iff (leb (k * size) rasters) (leb (2 * k) labels)).0 e in
    record { bytes = leb-true (k * size) rasters p.0; two-each = leb-true (2 * k) labels p.1 }

module _ (h : Held) (rasters labels : ℕ) where
  abbrev long_enough : Bool
  long_enough = room_for h.count (size_of h) rasters labels

  held_fits : held_room h rasters labels ≡ true → Fits h.count (size_of h) rasters labels
  unfolding held_room
  held_fits e = go (eqb h.count 0) refl e
    where
      go : (t : Bool) → eqb h.count 0 ≡ t → (t || (small_numbers h && long_enough)) ≡ true → Fits h.count (size_of h) rasters labels
      go true d f = none_fit _ _ _ _ (eqb-true h.count 0 d)
      go false d f = room_fits _ _ _ _ ((and-eq-true_iff (small_numbers h) long_enough).0 f).1

  -- where there is no room for the stills held, there are some
  some_held : held_room h rasters labels ≡ false → eqb h.count 0 ≡ false
  unfolding held_room
  some_held e = go (eqb h.count 0) e
    where
      go : (t : Bool) → (t || (small_numbers h && long_enough)) ≡ false → t ≡ false
      go true e = e
      go false e = refl

-- a change leaves no more stills than were tested for: an addition is tested for just as many, a removal for one more
changed-fits : (o : Operation) (b b' : Background) → outcome o b ≡ Ok b' → Fits (stills b') (samples b') (bytes_lent o) (words_lent o)
unfolding outcome addition add_tests removal remove_tests without
changed-fits (adds a) b b' e = go (still_of a.file) e
  where
    go : (s : Result Picture Refusal) → addition_of s a.file a.number a.tolerance a.bytes a.words b ≡ Ok b'
        → Fits (stills b') (samples b') a.bytes a.words
    go (Err r) f = absurd (never r f)
    go (Ok s) f =
        let m = member a.number a.tolerance (drop s.start a.file) in
        let p = passed {A = Outcome} Err (add_tests a.number s.width s.height s.channels a.bytes a.words b) _ (Ok b') never f in
        let is : joined s.width s.height s.channels m b ≡ b' = cc in
        let count : length (b.members ++ (m ∷ [])) ≡ suc (stills b) = rw (length-append b.members (m ∷ [])) (omega arith) in
        let fits = room_fits (suc (stills b)) (s.width * s.height * s.channels) a.bytes a.words p.0.1.1.1.1.0 in
        subst (λ (z : Background). Fits (stills z) (samples z) a.bytes a.words) is (rw count fits)
changed-fits (removes n rasters labels) b b' e =
    let p = passed {A = Outcome} Err (remove_tests n rasters labels b) _ (Ok b') never e in
    let is : record { width = b.width; height = b.height; channels = b.channels; members = without (position n (numbers b)) b.members } ≡ b' = cc in
    let fits = fits_fewer (stills b - 1) (stills b) (samples b) rasters labels (omega arith) (held_fits (held_of b) rasters labels p.0.0) in
    subst (λ (z : Background). Fits (stills z) (samples z) rasters labels) is (rw (length-tabulate _ (stills b - 1)) fits)

-- ---- what is kept between two calls

-- what is left keeps b, and has just the length that b needs
pub record Keeps (l : Left) (b : Background) : Type 0 where
  pub kept : background_in l.held l.rasters l.labels ≡ b
  pub held : l.held ≡ held_of b
  pub bytes : length l.rasters ≡ stills b * samples b
  pub two-each : length l.labels ≡ 2 * stills b

-- what a call finds where b is kept: b, or in memory that is too short for b as many stills of the same size, whatever they are
data Found (b found : Background) (rasters labels : ℕ) : Type 0 where
  whole : found ≡ b → Found b found rasters labels
  short : held_of found ≡ held_of b → held_room (held_of b) rasters labels ≡ false → Found b found rasters labels

module _ {l : Left} {b : Background} (k : Keeps l b) (rasters labels : List ℕ) (begins : Begins rasters l.rasters) (begins-too : Begins labels l.labels) where
  found-whole : Fits (stills b) (samples b) (length rasters) (length labels) → background_in l.held rasters labels ≡ b
  found-whole f =
      ap (λ (h : Held). background_in h rasters labels) k.held
      ∙ sym (background_front (held_of b) rasters labels)
      ∙ rw (
        begins_with (stills b * samples b) rasters l.rasters begins k.bytes f.bytes,
        begins_with (2 * stills b) labels l.labels begins-too k.two-each f.two-each,
        sym k.held,
      ) k.kept

  found_in_lem : Found b (background_in l.held rasters labels) (length rasters) (length labels)
  found_in_lem = go (held_room (held_of b) (length rasters) (length labels)) refl
    where
      go : (t : Bool) → held_room (held_of b) (length rasters) (length labels) ≡ t → Found b (background_in l.held rasters labels) (length rasters) (length labels)
      go true e = whole (found-whole (held_fits (held_of b) _ _ e))
      go false e = short (held_in_lem l.held rasters labels ∙ k.held) e

-- ---- one call

-- without room for the stills held, an operation is refused by the still's own test or by this one, and neither looks at a member
short_outcome : (o : Operation) (b found : Background) → held_of found ≡ held_of b → held_room (held_of b) (bytes_lent o) (words_lent o) ≡ false
    → outcome o found ≡ outcome o b
unfolding outcome addition add_tests removal remove_tests
short_outcome (adds a) b found e f = go (still_of a.file)
  where
    go : (s : Result Picture Refusal) → let on = addition_of s a.file a.number a.tolerance a.bytes a.words in on found ≡ on b
    go (Err r) = refl
    go (Ok s) = rw (e, f)
short_outcome (removes n rasters labels) b found e f = rw (e, f)

found-outcome : (o : Operation) (b found : Background) → Found b found (bytes_lent o) (words_lent o) → outcome o found ≡ outcome o b
found-outcome o b found (whole e) = ap (outcome o) e
found-outcome o b found (short e f) = short_outcome o b found e f

-- EACH CALL'S OWN ANSWER is the definition's: what its contract says of the background kept, which after calls is that of the history
pub call_ensures : {l l' : Left} {o : Operation} {b : Background} → Keeps l b → (c : Call l o l')
    → Changes (outcome o b) c.rasters c.rasters' c.labels c.labels' c.answer
call_ensures {l} {l'} {o} {b} k c =
    let found = found_in_lem k c.rasters c.labels c.rasters-begin c.labels-begin in
    rw (found-outcome o b (background_in l.held c.rasters c.labels) (rw (c.bytes-lent, c.words-lent) at found)) at c.ensured

-- the front of memory keeps the background that was changed to
module _ {rasters rasters' labels labels' : List ℕ} (l : Left) where
  keeps_changed : {b : Background} → Lies b rasters rasters' labels labels' → Fits (stills b) (samples b) (length rasters) (length labels)
      → Keeps (left_by (answer_of (Ok b)) rasters' labels' l) b
  keeps_changed {b} y f = record {
    kept = background_front (held_of b) rasters' labels' ∙ y.held;
    held = refl;
    bytes = length-take-le (stills b * samples b) rasters' (omega (arith, f.bytes, y.rasters-length));
    two-each = length-take-le (2 * stills b) labels' (omega (arith, f.two-each, y.labels_length));
  }

  keeps_after : {b : Background} {answer : Result Held Refusal} → Keeps l b → (r : Outcome) → Changes r rasters rasters' labels labels' answer
      → ((b' : Background) → r ≡ Ok b' → Fits (stills b') (samples b') (length rasters) (length labels)) → Keeps (left_by answer rasters' labels' l) (after_outcome r b)
  keeps_after k (Err r) y f = rw y.answered k
  keeps_after k (Ok b') y f = rw y.answered (keeps_changed y.left (f b' refl))

call_keeps : {l l' : Left} {o : Operation} {b : Background} → Keeps l b → Call l o l' → Keeps l' (after_outcome (outcome o b) b)
call_keeps {l} {l'} {o} {b} k c =
    rw c.leaves (keeps_after l k (outcome o b) (call_ensures k c) (λ b' e. rw (c.bytes-lent, c.words-lent) (changed-fits o b b' e)))

-- ---- any number of calls

keeps_nothing : Keeps nothing empty
unfolding background_in tabulate
keeps_nothing = record { kept = refl; held = refl; bytes = omega arith; two-each = omega arith }

calls_keep : {l l' : Left} {os : List Operation} {b : Background} → Keeps l b → Calls l os l' → Keeps l' (history os b)
unfolding history
calls_keep k none = k
calls_keep k (more c cs) = calls_keep (call_keeps k c) cs

-- WHAT IS KEPT AFTER ANY LIST OF CALLS is the background of the history
pub calls_are_history : (os : List Operation) (l : Left) → Calls nothing os l → Keeps l (history os empty)
calls_are_history os l cs = calls_keep keeps_nothing cs

-- ---- a mean after them

short_answer : (b : Background) (rasters labels out : ℕ) → held_room (held_of b) rasters labels ≡ false → mean_answer rasters labels out b ≡ Err Refusal.Room
unfolding mean_answer mean_tests
short_answer b rasters labels out f = rw (some_held (held_of b) rasters labels f, f)

module _ {rasters labels out out' : List ℕ} {answer : Result (Option Mean) Refusal} (b found : Background) where
  -- without room for the stills held, both are refused, and the output stays as it was
  short_mean : held_of found ≡ held_of b → held_room (held_of b) (length rasters) (length labels) ≡ false → Means found rasters labels out out' answer
      → Means b rasters labels out out' answer
  short_mean e f m =
      let is : answer ≡ Err Refusal.Room = m.answered ∙ short_answer found (length rasters) (length labels) (length out) (rw e f) in
      record { answered = is ∙ sym (short_answer b (length rasters) (length labels) (length out) f); output = rw is (rw is at m.output) }

  found-mean : Found b found (length rasters) (length labels) → Means found rasters labels out out' answer → Means b rasters labels out out' answer
  found-mean (whole e) m = rw e at m
  found-mean (short e f) m = short_mean e f m

as_if_mean : {rasters labels out out' : List ℕ} {answer : Result (Option Mean) Refusal} (b b' : Background) → AsIf b b' → Means b rasters labels out out' answer
    → Means b' rasters labels out out' answer
as_if_mean {rasters} {labels} {out} {out'} {answer} b b' s m =
    let is : answer ≡ mean_answer (length rasters) (length labels) (length out) b' = m.answered ∙ s.answer (length rasters) (length labels) (length out) in
    record {
      answered = is;
      output = m.output ∙ ap (λ (a : Result (Option Mean) Refusal). mean_output a b out) m.answered ∙ s.output (length rasters) (length labels) out ∙ ap (λ (a : Result (Option Mean) Refusal). mean_output a b' out) (sym is);
    }

-- a mean's answer and output are those of the history, and those of the survivors by themselves: nothing refused or removed has a part in them
pub record KeptMean (os : List Operation) (rasters labels out out' : List ℕ) (answer : Result (Option Mean) Refusal) : Type 0 where
  pub as-defined : Means (history os empty) rasters labels out out' answer
  pub as-if : Means (history (map adds (survivors os empty [])) empty) rasters labels out out' answer

-- A MEAN BEHIND ANY LIST OF CALLS is that of the stills left
pub kept-mean : (os : List Operation) (l : Left) → Calls nothing os l → (rasters labels out out' : List ℕ) (answer : Result (Option Mean) Refusal)
    → Begins rasters l.rasters → Begins labels l.labels → Means (background_in l.held rasters labels) rasters labels out out' answer
    → KeptMean os rasters labels out out' answer
kept-mean os l cs rasters labels out out' answer begins begins-too m =
    let b = history os empty in
    let defined = found-mean b (background_in l.held rasters labels) (found_in_lem (calls_are_history os l cs) rasters labels begins begins-too) m in
    record { as-defined = defined; as-if = as_if_mean b (history (map adds (survivors os empty [])) empty) (as_if_never os) defined }
