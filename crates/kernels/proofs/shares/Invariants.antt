-- `kernels::shares` meets its contract: what is stored at i is the model's weight of tap i. Assumes nothing.
use Prim.Native.Nat.{ℕ}
use mathlib.Core.Path.{◌≡◌}
use mathlib.Core.List.{◌++◌}
use lib.ListN.{length, drop}
use Rattle.lists.specs.Tabulate.{tabulate}
use Rattle.model.specs.Apportion.{share}
use Rattle.kernels.specs.Kernel.{tap_of, kernel_of}
use Rattle.kernels.proofs.shares.Given as goal

abbrev pub invariant-loop-i : goal.invariant-loop-i
invariant-loop-i l = (l.weights ≡ tabulate (λ (k : ℕ). (share (kernel_of l.divisor l.offsets l.values l.n) (tap_of l.offsets l.values k)).weight) l.i ++ drop l.i l.initial.weights) × (31 ≡ length l.weights)
