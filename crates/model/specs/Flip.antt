-- Planes flipped left to right, and the works that do not tell left from right (request 2026-06).
use Rattle.std.specs.Prelude.{ℕ, ◌-◌, List, [], ◌∷◌, T}
use Rattle.lists.specs.Tabulate.{raster}
use Rattle.model.specs.Plane.{Plane, plane_of}
use Rattle.model.specs.Kernel.{Rising}
use Rattle.model.specs.Apportion.{apportion}
use Rattle.model.specs.Symmetry.{symmetric}
use Rattle.model.specs.Stage.{Work, weighted, box, rank, outline, Stage}

-- a plane of width W, flipped: its last column becomes the first
unfoldable pub flipped : ℕ → Plane → Plane
flipped W f u v = f (W - 1 - u) v

-- the samples of a plane of W by H, flipped, row by row
unfoldable pub flipped_samples : ℕ → ℕ → List ℕ → List ℕ
flipped_samples W H samples = raster (flipped W (plane_of W samples)) W H

-- left and right are alike to a weighted work whose weights across are symmetric (at rising offsets, as every recipe has them), whatever they are down, and to the other three works
abbrev pub LeftRightAlike : Work → Type 0
LeftRightAlike (weighted across down) = Rising across.taps × T (symmetric (apportion across))
LeftRightAlike (box r s) = Unit {0}
LeftRightAlike (rank r s p) = Unit {0}
LeftRightAlike outline = Unit {0}

-- left and right are alike to every stage of a list
abbrev pub AllLeftRightAlike : List Stage → Type 0
AllLeftRightAlike [] = Unit {0}
AllLeftRightAlike (t ∷ ts) = LeftRightAlike t.work × AllLeftRightAlike ts
