-- The plane that is kept, and rows of it in buffers. Assumes nothing.
use Prim.Native.Nat.{ℕ, ◌+◌, ◌*◌, ◌≤◌}
use native.Mathlib.Omega.{arith}
use mathlib.Core.Path.{◌≡◌}
use mathlib.Core.List.{List, ◌++◌}
use lib.ListN.{length, take, drop, length-append}
use lib.Seq.{take_at}
use Rattle.lists.specs.Tabulate.{tabulate}
use Rattle.lists.proofs.Tabulate.{length-tabulate}
use Rattle.frame.specs.declared.Frame.{Frame}
use Rattle.frame.specs.Padded.{padded}
use Rattle.kept_planes.specs.HeldRow.{kept, Held}
use Rattle.kept_planes.proofs.Planes.{behind_copied}

-- a copy of the plane in front is kept
pub kept_copy : (f : Frame) (d l : List ℕ) → 2 * (f.height * f.width) ≤ length d
    → l ≡ take (f.height * f.width) d ++ take (f.height * f.width) d ++ drop (f.height * f.width + f.height * f.width) d → kept f l ≡ take (f.height * f.width) d
kept_copy f d l h e = behind_copied (f.height * f.width) d l (omega (arith, h)) e

-- a buffer that a row was written into holds it
pub held_made : (f : Frame) (samples : List ℕ) (y : ℕ) (d l : List ℕ) → l ≡ tabulate (λ x. padded f samples x y) (f.width + 30) ++ drop (f.width + 30) d → Held f samples y l
held_made f samples y d l e =
    let n = length-tabulate (λ x. padded f samples x y) (f.width + 30) in
    record {
      long = rw (e, length-append, n) (omega arith);
      front = rw e (take_at (tabulate (λ x. padded f samples x y) (f.width + 30)) _ (f.width + 30) n);
    }
