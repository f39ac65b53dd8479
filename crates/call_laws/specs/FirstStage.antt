-- The first stage of a recipe, where its bytes lie: the kind is byte 1, and its fields begin at byte 4.
use Rattle.std.specs.Prelude.{ℕ, ◌≤◌, List, drop}
use Rattle.model.specs.Kernel.{Kernel, magnitude}
use Rattle.recipe_bytes.specs.Bytes.{at}
use Rattle.recipe_stages.specs.StageBytes.{kernel_for}

-- its kind
abbrev pub first_kind : List ℕ → ℕ
first_kind b = at b 1

-- for kinds 1 to 3, the kernel of an axis: 0 across, 1 down
abbrev pub first_kernel : List ℕ → ℕ → Kernel
first_kernel b axis = kernel_for (first_kind b) axis (drop 4 b)

-- a gain of at most 1
abbrev pub GainOne : Kernel → Type 0
GainOne K = magnitude K.taps ≤ K.divisor
