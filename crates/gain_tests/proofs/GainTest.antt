-- The test of a gain, either way. Assumes nothing.
use Prim.Native.Nat.{◌*◌, ◌≤◌, ◌<◌}
use mathlib.Core.Path.{◌≡◌}
use mathlib.Core.List.{[], ◌∷◌}
use borrow.Author.Tests.{le-leb, lt-leb}
use Rattle.refusals.specs.declared.Refusal.TheVariants as Refusal
use Rattle.refusals.specs.Refusal.{verdict}
use Rattle.std.specs.Prelude.{Ok, Err}
use Rattle.model.specs.Kernel.{Kernel, magnitude}
use Rattle.gain_tests.specs.Gain.{gain_test}

pub gain_high : (K : Kernel) → 4 * K.divisor < magnitude K.taps → Err Refusal.Gain ≡ verdict (gain_test K ∷ [])
unfolding gain_test verdict
gain_high K h = rw (lt-leb (magnitude K.taps) (4 * K.divisor) h)

pub gain-low : (K : Kernel) → magnitude K.taps ≤ 4 * K.divisor → Ok tt ≡ verdict (gain_test K ∷ [])
unfolding gain_test verdict
gain-low K h = rw (le-leb (magnitude K.taps) (4 * K.divisor) h)
