-- Adding a still to a background, and removing one.
use Rattle.std.specs.Prelude.{ℕ, suc, ◌-◌, ◌*◌, Bool, cond, not, ◌&&◌, ◌||◌, List, [], ◌∷◌, ◌++◌, length, get_or, drop, eqb, ltb, Result, Ok, Err}
use Rattle.lists.specs.Tabulate.{tabulate}
use Rattle.refusals.specs.declared.Refusal.{Refusal}
use Rattle.refusals.specs.declared.Refusal.TheVariants as Refusal
use Rattle.refusals.specs.Refusal.{Test, tested}
use Rattle.answers.specs.declared.Held.{Held}
use Rattle.answers.specs.declared.Picture.{Picture}
use Rattle.still_reader.specs.Read.{still_of}
use Rattle.background.specs.Background.{Member, member, Background, stills, samples, numbers, position, present}
use Rattle.background.specs.Room.{room_for, held_of, held_room}

-- what a change comes to: a refusal, or the background afterwards
abbrev pub Outcome : Type 0
Outcome = Result Background Refusal

-- whether a still of this size can stand beside those held: beside none, any
unfoldable pub suits : ℕ → ℕ → ℕ → Held → Bool
suits W H c h = eqb h.count 0 || (eqb h.width W && eqb h.height H && eqb h.channels c)

-- the tests of an addition behind the still's own, with so many bytes and words lent: room for the stills held, the number, the size, how many there are, room for one more
unfoldable pub add_tests : ℕ → ℕ → ℕ → ℕ → ℕ → ℕ → Background → List Test
add_tests n W H c bytes words b =
    (held_room (held_of b) bytes words, Refusal.Room)
    ∷ (not (present n b), Refusal.StillNumber)
    ∷ (suits W H c (held_of b), Refusal.StillSize)
    ∷ (ltb (stills b) 1000, Refusal.BackgroundFull)
    ∷ (room_for (suc (stills b)) (W * H * c) bytes words, Refusal.Room)
    ∷ []

-- a background with one still more, behind the others
abbrev pub joined : ℕ → ℕ → ℕ → Member → Background → Background
joined W H c m b = record { width = W; height = H; channels = c; members = b.members ++ (m ∷ []) }

-- a still added with its number n and its T, by what its file is read as
abbrev pub addition_of : Result Picture Refusal → List ℕ → ℕ → ℕ → ℕ → ℕ → Background → Outcome
addition_of (Err r) file n T bytes words b = Err r
addition_of (Ok p) file n T bytes words b =
    tested Err (add_tests n p.width p.height p.channels bytes words b) (Ok (joined p.width p.height p.channels (member n T (drop p.start file)) b))

-- the same, from the still's file
unfoldable pub addition : List ℕ → ℕ → ℕ → ℕ → ℕ → Background → Outcome
addition file n T bytes words b = addition_of (still_of file) file n T bytes words b

-- the tests of a removal: room for the stills held, the number
unfoldable pub remove_tests : ℕ → ℕ → ℕ → Background → List Test
remove_tests n bytes words b = (held_room (held_of b) bytes words, Refusal.Room) ∷ (present n b, Refusal.StillNumber) ∷ []

-- without the member at place i: the last moves into the gap
unfoldable pub without : ℕ → List Member → List Member
without i ms = tabulate (λ j. get_or ms (cond (eqb j i) (length ms - 1) j) (member 0 0 [])) (length ms - 1)

-- the still of number n removed
unfoldable pub removal : ℕ → ℕ → ℕ → Background → Outcome
removal n bytes words b =
    tested Err (remove_tests n bytes words b)
    (Ok (record { width = b.width; height = b.height; channels = b.channels; members = without (position n (numbers b)) b.members }))
