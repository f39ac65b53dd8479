-- REMOVED AND REFUSED STILLS MIGHT AS WELL NEVER HAVE COME: those left, added to an empty background, give the same answers. Assumes nothing.
use Prim.Native.Nat.{ℕ, suc, ◌+◌, ◌*◌, ◌≤◌, ◌<◌}
use native.Mathlib.Nat.{not-suc-le-zero, mul-le-mul_right}
use native.Mathlib.Omega.{arith}
use mathlib.Core.Path.{◌≡◌, refl, sym, ap, subst, ◌∙◌}
use mathlib.Core.Bool.{Bool, true, false, cond, ◌&&◌, ◌||◌, and-eq-true_iff, or-true}
use mathlib.Core.List.{List, [], ◌∷◌, ◌++◌, map, map-append, append-nil, append_assoc}
use lib.ListN.{length, get_or, drop, length-map, length-append}
use lib.Dec.{leb, eqb}
use borrow.Author.Tests.{le-leb, leb-true, lt-ltb, ltb-true, le-ltb, ltb-false, eq-eqb, eqb-true, not-true}
use Rattle.std.specs.Prelude.{Option, None, Some, Result, Ok, Err}
use Rattle.integers.specs.Sum.{sum}
use Rattle.refusals.specs.declared.Refusal.{Refusal}
use Rattle.refusals.proofs.Passed.{AllPass, passed}
use Rattle.answers.specs.declared.Picture.{Picture}
use Rattle.answers.specs.declared.Mean.{Mean}
use Rattle.picture_sizes.proofs.PictureSizeLaws.{side-le, channels_few}
use Rattle.still_reader.specs.Read.{still_of}
use Rattle.round_trip.proofs.RoundTrip.{picture_valid}
use Rattle.background.specs.Background.{Member, member, Background, empty, stills, numbers, position, present}
use Rattle.background.specs.Room.{room_for, held_of, small_numbers, held_room}
use Rattle.background.specs.Change.{Outcome, suits, add_tests, joined, addition_of, addition, remove_tests, without, removal}
use Rattle.background.specs.Mean.{mean_tests, mean_answer, mean_output}
use Rattle.background.specs.History.{Addition, Operation, adds, removes, outcome, after_outcome, history, except, left_after, survivors}
use Rattle.background_laws.proofs.Order.{Same, same_refl, same_append, same_length, same-raster, same-tolerance, sum_both, without-sum}

-- ---- the members of number n

-- a sum's part from the members of number n
only : ℕ → (Member → ℕ) → Member → ℕ
only n f m = cond (eqb m.number n) (f m) 0

-- how many members have the number n
named : ℕ → List Member → ℕ
named n ms = sum (map (only n (λ m. 1)) ms)

abbrev place : ℕ → List Member → ℕ
place n ms = position n (map (λ m. m.number) ms)

-- the member at the place found has the number
found_named : (n : ℕ) (ms : List Member) → place n ms < length ms → (get_or ms (place n ms) (member 0 0 [])).number ≡ n
unfolding position
found_named n [] h = absurd (not-suc-le-zero h)
found_named n (m ∷ ms) h = go (eqb m.number n) refl h (found_named n ms)
  where
    go : (t : Bool) → eqb m.number n ≡ t → cond t 0 (suc (place n ms)) < suc (length ms)
        → (place n ms < length ms → (get_or ms (place n ms) (member 0 0 [])).number ≡ n)
        → (get_or (m ∷ ms) (cond t 0 (suc (place n ms))) (member 0 0 [])).number ≡ n
    go true e l k = eqb-true m.number n e
    go false e l k = k (omega (arith, l))

-- no place is found where none has it
absent_none : (n : ℕ) (ms : List Member) → length ms ≤ place n ms → named n ms ≡ 0
unfolding position named only sum
absent_none n [] h = refl
absent_none n (m ∷ ms) h = go (eqb m.number n) h (absent_none n ms)
  where
    go : (t : Bool) → suc (length ms) ≤ cond t 0 (suc (place n ms)) → (length ms ≤ place n ms → named n ms ≡ 0) → cond t 1 0 + named n ms ≡ 0
    go true l k = absurd (not-suc-le-zero l)
    go false l k = omega (arith, k (omega (arith, l)))

none_absent : (n : ℕ) (ms : List Member) → named n ms ≡ 0 → length ms ≤ place n ms
unfolding position named only sum
none_absent n [] e = omega arith
none_absent n (m ∷ ms) e = go (eqb m.number n) e (none_absent n ms)
  where
    go : (t : Bool) → cond t 1 0 + named n ms ≡ 0 → (named n ms ≡ 0 → length ms ≤ place n ms) → suc (length ms) ≤ cond t 0 (suc (place n ms))
    go true e k = absurd (omega (arith, e))
    go false e k = omega (arith, k (omega (arith, e)))

-- where none has it, the sum's part is 0
none_only : (n : ℕ) (f : Member → ℕ) (ms : List Member) → named n ms ≡ 0 → sum (map (only n f) ms) ≡ 0
unfolding named only sum
none_only n f [] e = refl
none_only n f (m ∷ ms) e = go (eqb m.number n) e (none_only n f ms)
  where
    go : (t : Bool) → cond t 1 0 + named n ms ≡ 0 → (named n ms ≡ 0 → sum (map (only n f) ms) ≡ 0) → cond t (f m) 0 + sum (map (only n f) ms) ≡ 0
    go true e k = absurd (omega (arith, e))
    go false e k = omega (arith, k (omega (arith, e)))

only_named : (n : ℕ) (f : Member → ℕ) (m : Member) → m.number ≡ n → only n f m ≡ f m
unfolding only
only_named n f m e = rw (eq-eqb m.number n e)

-- no number twice
Distinct : List Member → Type 0
Distinct ms = (n : ℕ) → named n ms ≤ 1

-- ---- additions, and the members that they give

-- the samples of a file
raster_in : Result Picture Refusal → List ℕ → List ℕ
raster_in (Err r) file = []
raster_in (Ok p) file = drop p.start file

abbrev member_of : Addition → Member
member_of a = member a.number a.tolerance (raster_in (still_of a.file) a.file)

abbrev given : List Addition → List Member
given xs = map member_of xs

-- a picture by its size and the place of its raster
abbrev picture : ℕ → ℕ → ℕ → ℕ → Picture
picture W H c start = record { width = W; height = H; channels = c; start = start }

-- an addition that can follow k others, all of one size
record Follows (W H c k : ℕ) (a : Addition) : Type 0 where
  start : ℕ
  read : still_of a.file ≡ Ok (picture W H c start)
  few : k < 1000
  room : room_for (suc k) (W * H * c) a.bytes a.words ≡ true

-- additions that can follow each other, the first of them k others
data Chain (W H c : ℕ) : ℕ → List Addition → Type 0 where
  end : {k : ℕ} → Chain W H c k []
  link : {k : ℕ} {a : Addition} {xs : List Addition} → Follows W H c k a → Chain W H c (suc k) xs → Chain W H c k (a ∷ xs)

-- room for some stills is room for fewer
room_fewer : (j k size rasters labels : ℕ) → j ≤ k → room_for k size rasters labels ≡ true → room_for j size rasters labels ≡ true
unfolding room_for
room_fewer j k size rasters labels h e =
    let p = (and-eq-true_iff (leb (k * size) rasters) (leb (2 * k) labels)).0 e in
    let bytes = leb-true (k * size) rasters p.0 in
    let numbers = leb-true (2 * k) labels p.1 in
    rw (le-leb (j * size) rasters (omega (arith, mul-le-mul_right size h)), le-leb (2 * j) labels (omega arith))

module _ {W H c : ℕ} where
  follows_fewer : {k : ℕ} {a : Addition} → Follows W H c (suc k) a → Follows W H c k a
  follows_fewer {k} {a} f = record {
    start = f.start;
    read = f.read;
    few = omega (arith, f.few);
    room = room_fewer (suc k) (suc (suc k)) (W * H * c) a.bytes a.words (omega arith) f.room;
  }

  chain_fewer : {k : ℕ} {xs : List Addition} → Chain W H c (suc k) xs → Chain W H c k xs
  chain_fewer end = end
  chain_fewer (link f h) = link (follows_fewer f) (chain_fewer h)

  chain_except : (n : ℕ) {k : ℕ} {xs : List Addition} → Chain W H c k xs → Chain W H c k (except n xs)
  unfolding except
  chain_except n end = end
  chain_except n (link {k} {a} {xs} f h) = go (eqb a.number n) (chain_except n h)
    where
      go : (t : Bool) → Chain W H c (suc k) (except n xs) → Chain W H c k (cond t (except n xs) (a ∷ except n xs))
      go true l = chain_fewer l
      go false l = link f l

  chain_more : {k : ℕ} {xs : List Addition} → Chain W H c k xs → (a : Addition) (j : ℕ) → j ≡ length xs + k → Follows W H c j a → Chain W H c k (xs ++ (a ∷ []))
  chain_more {k} end a j e f = let d : j ≡ k = omega (arith, e) in link (rw d at f) end
  chain_more (link g h) a j e f = link g (chain_more h a j (omega (arith, e)) f)

-- ---- what a history keeps: the additions left give the members, each could follow those before it, and no number stands twice

record Accounts (b : Background) (xs : List Addition) : Type 0 where
  same : Same b.members (given xs)
  distinct : Distinct b.members
  chain : Chain b.width b.height b.channels 0 xs

kept-none : Accounts empty []
unfolding Distinct named sum
kept-none = record { same = same_refl []; distinct = λ n. omega arith; chain = end }

kept-count : {b : Background} {xs : List Addition} → Accounts b xs → stills b ≡ length xs
kept-count {b} {xs} k = same_length k.same ∙ length-map xs member_of

-- a still that suits the members has the size of all additions left
suits_chain : (W H c : ℕ) (b : Background) (xs : List Addition) → suits W H c (held_of b) ≡ true → stills b ≡ length xs
    → Chain b.width b.height b.channels 0 xs → Chain W H c 0 xs
unfolding suits
suits_chain W H c b [] e n h = end
suits_chain W H c b (x ∷ xs) e n h = go (eqb (stills b) 0) refl e
  where
    go : (t : Bool) → eqb (stills b) 0 ≡ t → (t || (eqb b.width W && eqb b.height H && eqb b.channels c)) ≡ true → Chain W H c 0 (x ∷ xs)
    go true d f = absurd (omega (arith, eqb-true (stills b) 0 d, n))
    go false d f =
        let p = (and-eq-true_iff (eqb b.width W && eqb b.height H) (eqb b.channels c)).0 f in
        let q = (and-eq-true_iff (eqb b.width W) (eqb b.height H)).0 p.0 in
        rw (sym (eqb-true b.width W q.0), sym (eqb-true b.height H q.1), sym (eqb-true b.channels c p.1)) h

pub never : {b : Background} (r : Refusal) → ◌≡◌ {A = Outcome} (Err r) (Ok b) → ⊥
never r e = cc

-- one member more, of a new number
distinct_more : (ms : List Member) (m : Member) → Distinct ms → named m.number ms ≡ 0 → Distinct (ms ++ (m ∷ []))
unfolding Distinct named only sum
distinct_more ms m d z n = rw (sum_both (only n (λ m. 1)) ms (m ∷ [])) (go (eqb m.number n) refl)
  where
    go : (t : Bool) → eqb m.number n ≡ t → named n ms + (cond t 1 0 + 0) ≤ 1
    go true e = omega (arith, rw (eqb-true m.number n e) at z)
    go false e = omega (arith, d n)

-- a member's number is new to those before it
first_of : (ms : List Member) (m : Member) (ns : List Member) → Distinct (ms ++ (m ∷ ns)) → named m.number ms ≡ 0
unfolding Distinct named sum
first_of ms m ns d = omega (arith, d m.number, sum_both (only m.number (λ m. 1)) ms (m ∷ ns), only_named m.number (λ m. 1) m refl)

distinct_same : {xs ys : List Member} → Same xs ys → Distinct xs → Distinct ys
unfolding Distinct named
distinct_same s d n = omega (arith, d n, s.sums (only n (λ m. 1)))

-- an addition that is accepted
module _ (a : Addition) (b : Background) (xs : List Addition) (k : Accounts b xs) where
  joined-kept : (W H c start : ℕ) → still_of a.file ≡ Ok (picture W H c start) → AllPass (add_tests a.number W H c a.bytes a.words b)
      → Accounts (joined W H c (member a.number a.tolerance (drop start a.file)) b) (xs ++ (a ∷ []))
  unfolding add_tests present raster_in
  joined-kept W H c start e p =
      let n = a.number in
      let count = kept-count k in
      let absent = not-true (present n b) p.1.0 in
      let new : member n a.tolerance (drop start a.file) ≡ member_of a = rw e in
      record {
        same = rw (map-append member_of xs (a ∷ []), new) (same_append k.same (same_refl (member_of a ∷ [])));
        distinct = distinct_more b.members _ k.distinct (absent_none n b.members (ltb-false _ _ absent));
        chain =
            chain_more (suits_chain W H c b xs p.1.1.0 count k.chain) a (stills b) (omega (arith, count))
            (record { start = start; read = e; few = ltb-true (stills b) 1000 p.1.1.1.0; room = p.1.1.1.1.0 });
      }

  added : (b' : Background) → outcome (adds a) b ≡ Ok b' → Accounts b' (xs ++ (a ∷ []))
  unfolding outcome addition
  added b' e = go (still_of a.file) refl e
    where
      go : (s : Result Picture Refusal) → still_of a.file ≡ s → addition_of s a.file a.number a.tolerance a.bytes a.words b ≡ Ok b'
          → Accounts b' (xs ++ (a ∷ []))
      go (Err r) d f = absurd (never r f)
      go (Ok s) d f =
          let p = passed {A = Outcome} Err (add_tests a.number s.width s.height s.channels a.bytes a.words b) _ (Ok b') never f in
          let is : joined s.width s.height s.channels (member a.number a.tolerance (drop s.start a.file)) b ≡ b' = cc in
          subst (λ (z : Background). Accounts z (xs ++ (a ∷ []))) is (joined-kept s.width s.height s.channels s.start d p.0)

-- a sum over the additions, split: those that stay, and those of number n
except-sum : (f : Member → ℕ) (n : ℕ) (xs : List Addition) → sum (map f (given (except n xs))) + sum (map (only n f) (given xs)) ≡ sum (map f (given xs))
unfolding sum except only
except-sum f n [] = refl
except-sum f n (a ∷ xs) = go (eqb a.number n) (except-sum f n xs)
  where
    go : (t : Bool) → sum (map f (given (except n xs))) + sum (map (only n f) (given xs)) ≡ sum (map f (given xs))
        → sum (map f (given (cond t (except n xs) (a ∷ except n xs)))) + (cond t (f (member_of a)) 0 + sum (map (only n f) (given xs))) ≡ f (member_of a) + sum (map f (given xs))
    go true e = omega (arith, e)
    go false e = omega (arith, e)

-- a removal that is accepted
module _ (n : ℕ) (b : Background) (xs : List Addition) (k : Accounts b xs) (there : place n b.members < stills b) where
  taken : Member
  taken = get_or b.members (place n b.members) (member 0 0 [])

  left : List Member
  left = without (place n b.members) b.members

  -- whatever is summed up, only the part of the one taken is missing
  left_sum : (f : Member → ℕ) → sum (map f left) + f taken ≡ sum (map f b.members)
  unfolding left taken
  left_sum f = without-sum f b.members (place n b.members) there

  -- of the members of number n, it is the only one
  taken_only : (f : Member → ℕ) → only n f taken ≡ f taken
  unfolding taken
  taken_only f = only_named n f taken (found_named n b.members there)

  none_left : named n left ≡ 0
  unfolding named Distinct
  none_left = omega (arith, left_sum (only n (λ m. 1)), taken_only (λ m. 1), k.distinct n)

  -- so the additions without those of number n are without this one
  left_same : Same left (given (except n xs))
  left_same = record {
    sums = λ f.
        omega (arith, left_sum f, left_sum (only n f), taken_only f, none_only n f left none_left, k.same.sums f, k.same.sums (only n f), except-sum f n xs);
  }

  left_distinct : Distinct left
  unfolding Distinct named
  left_distinct j = omega (arith, left_sum (only j (λ m. 1)), k.distinct j)

module _ (n rasters labels : ℕ) (b : Background) (xs : List Addition) (k : Accounts b xs) where
  removed : (b' : Background) → outcome (removes n rasters labels) b ≡ Ok b' → Accounts b' (except n xs)
  unfolding outcome removal remove_tests present left
  removed b' e =
      let p = passed {A = Outcome} Err (remove_tests n rasters labels b) _ (Ok b') never e in
      let there = ltb-true (place n b.members) (stills b) p.0.1.0 in
      let is : record { width = b.width; height = b.height; channels = b.channels; members = left n b xs k there } ≡ b' = cc in
      subst (λ (z : Background). Accounts z (except n xs)) is
      (record { same = left_same n b xs k there; distinct = left_distinct n b xs k there; chain = chain_except n k.chain })

-- any operation, and any list of them
kept_after : (o : Operation) (b : Background) (xs : List Addition) → Accounts b xs → Accounts (after_outcome (outcome o b) b) (left_after o (outcome o b) xs)
kept_after o b xs k = go o (outcome o b) refl
  where
    go : (o : Operation) (r : Outcome) → outcome o b ≡ r → Accounts (after_outcome r b) (left_after o r xs)
    go o (Err r) e = k
    go (adds a) (Ok b') e = added a b xs k b' e
    go (removes n rasters labels) (Ok b') e = removed n rasters labels b xs k b' e

kept-history : (os : List Operation) (b : Background) (xs : List Addition) → Accounts b xs → Accounts (history os b) (survivors os b xs)
unfolding history survivors
kept-history [] b xs k = k
kept-history (o ∷ os) b xs k = kept-history os _ _ (kept_after o b xs k)

-- ---- the additions left, added to an empty background

-- the background that additions of one size come to
built : ℕ → ℕ → ℕ → List Addition → Background
built W H c [] = empty
built W H c (a ∷ xs) = record { width = W; height = H; channels = c; members = map member_of (a ∷ xs) }

module _ (W H c : ℕ) where
  built_members : (xs : List Addition) → (built W H c xs).members ≡ given xs
  unfolding built
  built_members [] = refl
  built_members (a ∷ xs) = refl

  built_count : (xs : List Addition) → stills (built W H c xs) ≡ length xs
  built_count xs = ap length (built_members xs) ∙ length-map xs member_of

  built_suits : (xs : List Addition) → suits W H c (held_of (built W H c xs)) ≡ true
  unfolding built suits
  built_suits [] = refl
  built_suits (a ∷ xs) = rw (eq-eqb W W refl, eq-eqb H H refl, eq-eqb c c refl) (or-true (eqb (length (given (a ∷ xs))) 0))

  built_room : (xs : List Addition) (a : Addition) → Follows W H c (length xs) a → held_room (held_of (built W H c xs)) a.bytes a.words ≡ true
  unfolding built held_room small_numbers
  built_room [] a f = refl
  built_room (x ∷ xs) a f =
      let v = picture_valid a.file f.read in
      let n = length (given (x ∷ xs)) in
      let count : n ≡ length (x ∷ xs) = length-map (x ∷ xs) member_of in
      rw (
        le-leb n 65535 (omega (arith, f.few)),
        le-leb W 65535 (omega (arith, side-le W v.width)),
        le-leb H 65535 (omega (arith, side-le H v.height)),
        le-leb c 65535 (omega (arith, channels_few c v.channels)),
        room_fewer n (suc (length (x ∷ xs))) (W * H * c) a.bytes a.words (omega arith) f.room,
      ) (or-true (eqb n 0))

  built_joined : (xs : List Addition) (a : Addition) (start : ℕ) → still_of a.file ≡ Ok (picture W H c start)
      → joined W H c (member a.number a.tolerance (drop start a.file)) (built W H c xs) ≡ built W H c (xs ++ (a ∷ []))
  unfolding built raster_in
  built_joined [] a start e = rw e
  built_joined (x ∷ xs) a start e = rw (map-append member_of xs (a ∷ []), e)

  -- an addition is accepted
  built_more : (xs : List Addition) (a : Addition) → Follows W H c (length xs) a → named a.number (given xs) ≡ 0
      → outcome (adds a) (built W H c xs) ≡ Ok (built W H c (xs ++ (a ∷ [])))
  unfolding outcome addition add_tests present
  built_more xs a f z =
      let b = built W H c xs in
      let count = built_count xs in
      let absent : named a.number b.members ≡ 0 = rw (built_members xs) z in
      rw (
        f.read,
        built_room xs a f,
        le-ltb (position a.number (numbers b)) (stills b) (none_absent a.number b.members absent),
        built_suits xs,
        count,
        lt-ltb (length xs) 1000 f.few,
        f.room,
      ) (ap Ok (built_joined xs a f.start f.read))

  -- each of them, one after the other
  replayed : (done : List Addition) {k : ℕ} {xs : List Addition} → Chain W H c k xs → k ≡ length done → Distinct (given (done ++ xs))
      → history (map adds xs) (built W H c done) ≡ built W H c (done ++ xs)
  unfolding history
  replayed done end e d = rw append-nil
  replayed done (link {k} {a} {xs} f h) e d =
      let follows : Follows W H c (length done) a = rw e at f in
      let new = first_of (given done) (member_of a) (given xs) (rw (map-append member_of done (a ∷ xs)) at d) in
      let next : (done ++ (a ∷ [])) ++ xs ≡ done ++ (a ∷ xs) = append_assoc done (a ∷ []) xs in
      ap (λ (r : Outcome). history (map adds xs) (after_outcome r (built W H c done))) (built_more done a follows new)
      ∙ replayed (done ++ (a ∷ [])) h (rw (length-append done (a ∷ [])) (omega (arith, e))) (rw (sym next) at d)
      ∙ ap (built W H c) next

-- ---- the theorem

-- b and b' give one mean: the same answer and the same output, whatever is lent; and their members are the same but for the order
pub record AsIf (b b' : Background) : Type 0 where
  pub answer : (rasters labels out : ℕ) → mean_answer rasters labels out b ≡ mean_answer rasters labels out b'
  pub output : (rasters labels : ℕ) (out : List ℕ) → mean_output (mean_answer rasters labels (length out) b) b out ≡ mean_output (mean_answer rasters labels (length out) b') b' out
  pub same : Same b.members b'.members

abbrev holding : Background → List Member → Background
holding b ms = record { width = b.width; height = b.height; channels = b.channels; members = ms }

-- members of one size in another order
as_if_sized : (b : Background) (ms : List Member) → Same b.members ms → AsIf b (holding b ms)
unfolding mean_answer mean_tests
as_if_sized b ms s = record { answer = answered; output = λ r l out. rw (answered r l (length out)) (written (mean_answer r l (length out) (holding b ms)) out); same = s }
  where
    answered : (r l out : ℕ) → mean_answer r l out b ≡ mean_answer r l out (holding b ms)
    answered r l out = rw (same_length s, same-tolerance s)

    written : (m : Result (Option Mean) Refusal) (out : List ℕ) → mean_output m b out ≡ mean_output m (holding b ms) out
    written (Err r) out = refl
    written (Ok None) out = refl
    written (Ok (Some m)) out = rw (same-raster b (holding b ms) s refl)

-- no members, whatever size was there before
as_if_none : (b : Background) → Same b.members [] → AsIf b empty
unfolding mean_answer
as_if_none b s = record { answer = answered; output = λ r l out. rw (answered r l (length out)); same = s }
  where
    answered : (r l out : ℕ) → mean_answer r l out b ≡ Ok None
    answered r l out = rw (same_length s)

as_if_built : (b : Background) (xs : List Addition) → Same b.members (given xs) → AsIf b (built b.width b.height b.channels xs)
unfolding built
as_if_built b [] s = as_if_none b s
as_if_built b (a ∷ xs) s = as_if_sized b (given (a ∷ xs)) s

-- the additions left come to a background with all of them
survivors_built : (os : List Operation) → let b = history os empty in let xs = survivors os empty [] in history (map adds xs) empty ≡ built b.width b.height b.channels xs
unfolding built
survivors_built os =
    let b = history os empty in
    let k = kept-history os empty [] kept-none in
    replayed b.width b.height b.channels [] k.chain refl (distinct_same k.same k.distinct)

-- the stills neither refused nor removed later, added one after the other with the lengths that were lent to each, give the same mean
pub as_if_never : (os : List Operation) → AsIf (history os empty) (history (map adds (survivors os empty [])) empty)
as_if_never os = rw (survivors_built os) (as_if_built (history os empty) (survivors os empty []) (kept-history os empty [] kept-none).same)

-- and none of them is refused
pub all-accepted : (os : List Operation) → stills (history (map adds (survivors os empty [])) empty) ≡ length (survivors os empty [])
all-accepted os = ap (λ (b : Background). stills b) (survivors_built os) ∙ built_count _ _ _ (survivors os empty [])
