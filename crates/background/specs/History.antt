-- A list of additions and removals, one after the other, and what is left of it.
use Rattle.std.specs.Prelude.{ℕ, Bool, cond, not, List, [], ◌∷◌, ◌++◌, eqb, Ok, Err}
use Rattle.background.specs.Background.{Background, empty}
use Rattle.background.specs.Change.{Outcome, addition, removal}

-- an addition: the still's file, its number and its T, and how many bytes and words are lent
pub record Addition : Type 0 where
  pub file : List ℕ
  pub number : ℕ
  pub tolerance : ℕ
  pub bytes : ℕ
  pub words : ℕ

-- an operation: an addition, or the removal of a number with so many bytes and words lent
pub data Operation : Type 0 where
  adds : Addition → Operation
  removes : ℕ → ℕ → ℕ → Operation

-- what an operation comes to
unfoldable pub outcome : Operation → Background → Outcome
outcome (adds a) b = addition a.file a.number a.tolerance a.bytes a.words b
outcome (removes n bytes words) b = removal n bytes words b

-- the background after an outcome: a refusal leaves it as it was
abbrev pub after_outcome : Outcome → Background → Background
after_outcome (Err r) b = b
after_outcome (Ok b') b = b'

-- the background after a list of operations
unfoldable pub history : List Operation → Background → Background
history [] b = b
history (o ∷ os) b = history os (after_outcome (outcome o b) b)

-- the additions without those of number n
unfoldable pub except : ℕ → List Addition → List Addition
except n [] = []
except n (a ∷ xs) = cond (eqb a.number n) (except n xs) (a ∷ except n xs)

-- of the additions before an operation, and that one: those which are there still. A refusal changes nothing
abbrev pub left_after : Operation → Outcome → List Addition → List Addition
left_after o (Err r) xs = xs
left_after (adds a) (Ok b) xs = xs ++ (a ∷ [])
left_after (removes n bytes words) (Ok b) xs = except n xs

-- the additions that are left of a list of operations, in the order in which they came: those neither refused nor removed later
unfoldable pub survivors : List Operation → Background → List Addition → List Addition
survivors [] b xs = xs
survivors (o ∷ os) b xs = survivors os (after_outcome (outcome o b) b) (left_after o (outcome o b) xs)
