-- A header in front, and behind it what a function made of a still's end. Assumes nothing.
use Prim.Native.Nat.{ℕ, ◌+◌, ◌-◌}
use mathlib.Core.Path.{◌≡◌, sym, ◌∙◌}
use mathlib.Core.List.{List, ◌++◌}
use lib.ListN.{length, take, drop}
use Rattle.lists.proofs.Part.{tail_mid, behind}

pub raster_behind : (made : List ℕ → List ℕ) (head still out one part : List ℕ) (len start n : ℕ) → len ≡ length head → one ≡ head ++ drop len out
    → part ≡ made (take (length still - start) (drop start still)) ++ drop n (take (length one - len) (drop len one))
    → take len one ++ (part ++ drop (length one - len) (drop len one)) ≡ head ++ (made (drop start still) ++ drop (length head + n) out)
raster_behind made head still out one part len start n e eo ep = behind head (made (drop start still)) out one part len n (sym e) eo (rw (tail_mid start still) at ep) ∙ rw e
