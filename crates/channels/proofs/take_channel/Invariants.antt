-- `channels::take_channel` meets its contract: what is stored so far, then what was there. Assumes nothing.
use Prim.Native.Nat.{ℕ, ◌+◌, ◌*◌}
use mathlib.Core.Path.{◌≡◌}
use mathlib.Core.List.{◌++◌}
use lib.ListN.{get_or, drop}
use Rattle.lists.specs.Tabulate.{tabulate}
use Rattle.channels.proofs.take_channel.Given as goal

abbrev pub invariant-loop-i : goal.invariant-loop-i
invariant-loop-i l = l.dst ≡ tabulate (λ (k : ℕ). get_or l.raster (k * l.channels + l.c) 0) l.i ++ drop l.i l.initial.dst
