-- What a C caller wants to know from the number 0.
use Rattle.std.specs.Prelude.{ℕ, ◌≡◌, List}
use Rattle.told.specs.Numbers.{Told, values}

-- an answer that is no refusal, and its values in the lent array
pub record Success (told : Told) (array : List ℕ) : Type 0 where
  pub answer : List ℕ
  pub is : told ≡ values answer
  pub array-is : array ≡ answer
