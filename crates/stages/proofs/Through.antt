-- A plane into a buffer, through the stages and out. Assumes nothing.
use Prim.Native.Nat.{ℕ, ◌*◌}
use native.Mathlib.Nat.{mul_comm}
use mathlib.Core.Path.{◌≡◌, ap, ◌∙◌}
use mathlib.Core.List.{List, ◌++◌}
use lib.ListN.{length, take, drop}
use lib.Seq.{take_at}
use Rattle.model.specs.Stage.{Stage, written}

-- a plane that was put in front of a buffer is its front
pub front_is : (w h : ℕ) (plane work after : List ℕ) → length plane ≡ w * h → after ≡ plane ++ drop (w * h) work → take (h * w) after ≡ plane
front_is w h plane work after l e = rw (e, mul_comm h w) (take_at plane (drop (w * h) work) (w * h) l)

-- what the stages leave in front is the written chain of what was there
pub front_through : (w h : ℕ) (ts : List Stage) (plane work after : List ℕ) → take (h * w) work ≡ plane → take (h * w) after ≡ written w h ts (take (h * w) work)
    → take (w * h) after ≡ written w h ts plane
front_through w h ts plane work after e f = rw mul_comm (f ∙ ap (written w h ts) e)
