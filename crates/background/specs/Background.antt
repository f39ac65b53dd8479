-- A background: the stills that are kept for a bed, all of one size.
use Rattle.std.specs.Prelude.{ℕ, suc, ◌*◌, Bool, cond, List, [], ◌∷◌, map, length, eqb, ltb}

-- a still that is kept: its number, its T, and its samples as they stand in its file
pub record Member : Type 0 where
  pub number : ℕ
  pub tolerance : ℕ
  pub raster : List ℕ

-- the still of this number, T and raster
abbrev pub member : ℕ → ℕ → List ℕ → Member
member n T s = record { number = n; tolerance = T; raster = s }

-- the stills kept, in the order in which they lie, and the size of each
pub record Background : Type 0 where
  pub width : ℕ
  pub height : ℕ
  pub channels : ℕ
  pub members : List Member

-- none yet
abbrev pub empty : Background
empty = record { width = 0; height = 0; channels = 0; members = [] }

-- how many stills are kept
abbrev pub stills : Background → ℕ
stills b = length b.members

-- how many samples each of them has
abbrev pub samples : Background → ℕ
samples b = b.width * b.height * b.channels

-- their numbers
abbrev pub numbers : Background → List ℕ
numbers b = map (λ m. m.number) b.members

-- the place of the first n in a list, from 0, or the list's length where there is none
unfoldable pub position : ℕ → List ℕ → ℕ
position n [] = 0
position n (x ∷ xs) = cond (eqb x n) 0 (suc (position n xs))

-- whether a still of this number is kept
unfoldable pub present : ℕ → Background → Bool
present n b = ltb (position n (numbers b)) (stills b)
