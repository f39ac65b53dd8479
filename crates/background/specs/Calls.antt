-- Additions and removals called one after the other, each on what the one before left and on lent memory of its own length.
use Rattle.std.specs.Prelude.{ℕ, ◌*◌, ◌≡◌, List, [], ◌∷◌, length, take, Result, Ok, Err}
use Rattle.refusals.specs.declared.Refusal.{Refusal}
use Rattle.answers.specs.declared.Held.{Held}
use Rattle.background.specs.Background.{empty}
use Rattle.background.specs.Room.{held_of, raster_size}
use Rattle.background.specs.Change.{Outcome, addition, removal}
use Rattle.background.specs.Memory.{background_in, Changes}
use Rattle.background.specs.History.{Operation, adds, removes, outcome}

-- what is kept between two calls: what is held, and the front of memory in which it lies
pub record Left : Type 0 where
  pub held : Held
  pub rasters : List ℕ
  pub labels : List ℕ

-- before the first call
abbrev pub nothing : Left
nothing = record { held = held_of empty; rasters = []; labels = [] }

-- lent memory that begins with what was left. It may be longer, and it may be cut short
unfoldable pub Begins : List ℕ → List ℕ → Type 0
Begins memory front = take (length front) memory ≡ take (length memory) front

-- what is kept after a call: after a refusal what was kept before it
abbrev pub left_by : Result Held Refusal → List ℕ → List ℕ → Left → Left
left_by (Err r) rasters labels l = l
left_by (Ok h) rasters labels l = record { held = h; rasters = take (h.count * raster_size h) rasters; labels = take (2 * h.count) labels }

-- how many bytes an operation is lent
abbrev pub bytes_lent : Operation → ℕ
bytes_lent (adds a) = a.bytes
bytes_lent (removes n bytes words) = bytes

-- how many words
abbrev pub words_lent : Operation → ℕ
words_lent (adds a) = a.words
words_lent (removes n bytes words) = words

-- one call: it is lent memory that begins with what was left, it ensures what its contract says, and leaves this
pub record Call (l : Left) (o : Operation) (l' : Left) : Type 0 where
  pub rasters : List ℕ
  pub rasters' : List ℕ
  pub labels : List ℕ
  pub labels' : List ℕ
  pub answer : Result Held Refusal
  pub bytes-lent : length rasters ≡ bytes_lent o
  pub words-lent : length labels ≡ words_lent o
  pub rasters-begin : Begins rasters l.rasters
  pub labels-begin : Begins labels l.labels
  pub ensured : Changes (outcome o (background_in l.held rasters labels)) rasters rasters' labels labels' answer
  pub leaves : l' ≡ left_by answer rasters' labels' l

-- any number of calls
pub data Calls : Left → List Operation → Left → Type 0 where
  none : {l : Left} → Calls l [] l
  more : {l l' l'' : Left} {o : Operation} {os : List Operation} → Call l o l' → Calls l' os l'' → Calls l (o ∷ os) l''
