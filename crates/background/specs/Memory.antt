-- Which background lent memory holds, and what a call leaves in it.
use Rattle.std.specs.Prelude.{ℕ, ◌+◌, ◌*◌, ◌≡◌, List, length, get_or, take, drop, Option, Result, Ok, Err}
use Rattle.lists.specs.Tabulate.{tabulate}
use Rattle.refusals.specs.declared.Refusal.{Refusal}
use Rattle.answers.specs.declared.Held.{Held}
use Rattle.answers.specs.declared.Mean.{Mean}
use Rattle.background.specs.Background.{Member, member, Background, stills, samples}
use Rattle.background.specs.Room.{held_of, raster_size}
use Rattle.background.specs.Change.{Outcome}
use Rattle.background.specs.Mean.{mean_answer, mean_output}

-- slot i of rasters of `size` bytes, which lie one behind the other
unfoldable pub slot : ℕ → ℕ → List ℕ → List ℕ
slot size i rasters = take size (drop (i * size) rasters)

-- member i in memory: its number and its T are labels 2·i and 2·i + 1, and its raster is in slot i
unfoldable pub member_in : ℕ → List ℕ → List ℕ → ℕ → Member
member_in size rasters labels i = member (get_or labels (2 * i) 0) (get_or labels (2 * i + 1) 0) (slot size i rasters)

-- the background that memory holds, one member behind the other
unfoldable pub background_in : Held → List ℕ → List ℕ → Background
background_in h rasters labels = record {
  width = h.width;
  height = h.height;
  channels = h.channels;
  members = tabulate (member_in (raster_size h) rasters labels) h.count;
}

-- memory after a change that ends in background b: it holds b, and all behind b is as it was
pub record Lies (b : Background) (rasters rasters' labels labels' : List ℕ) : Type 0 where
  pub held : background_in (held_of b) rasters' labels' ≡ b
  pub rasters-behind : drop (stills b * samples b) rasters' ≡ drop (stills b * samples b) rasters
  pub labels_behind : drop (2 * stills b) labels' ≡ drop (2 * stills b) labels
  pub rasters-length : length rasters' ≡ length rasters
  pub labels_length : length labels' ≡ length labels

-- memory after any outcome: a refusal leaves all as it was
abbrev pub Leaves : Outcome → List ℕ → List ℕ → List ℕ → List ℕ → Type 0
Leaves (Err r) rasters rasters' labels labels' = (rasters' ≡ rasters) × (labels' ≡ labels)
Leaves (Ok b) rasters rasters' labels labels' = Lies b rasters rasters' labels labels'

-- an outcome as an answer: the refusal, or what is held now
abbrev pub answer_of : Outcome → Result Held Refusal
answer_of (Err r) = Err r
answer_of (Ok b) = Ok (held_of b)

-- what `add_still` and `remove_still` ensure, for the outcome that the definitions give on what memory holds
pub record Changes (o : Outcome) (rasters rasters' labels labels' : List ℕ) (answer : Result Held Refusal) : Type 0 where
  pub answered : answer ≡ answer_of o
  pub left : Leaves o rasters rasters' labels labels'

-- what `mean_still` ensures
pub record Means (b : Background) (rasters labels out out' : List ℕ) (answer : Result (Option Mean) Refusal) : Type 0 where
  pub answered : answer ≡ mean_answer (length rasters) (length labels) (length out) b
  pub output : out' ≡ mean_output answer b out
