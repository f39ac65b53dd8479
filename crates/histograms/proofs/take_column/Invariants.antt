-- `histograms::take_column` meets its contract: what is taken off so far. Assumes nothing.
use Prim.Native.Nat.{◌+◌}
use mathlib.Core.Path.{◌≡◌}
use lib.ListN.{length, get_or}
use Rattle.lists.specs.Tabulate.{tabulate}
use Rattle.histograms.specs.Histogram.{below_level, counted}
use Rattle.histograms.proofs.take_column.Given as goal

abbrev pub invariant-loop-start : goal.invariant-loop-start
invariant-loop-start l = (l.initial.counts ≡ counted l.counts (tabulate (λ i. get_or l.plane (get_or l.rows i 0 + l.c) 0) l.start-index)) × (length l.counts ≡ 256) × (l.lower ≡ below_level l.level (tabulate (λ i. get_or l.plane (get_or l.rows i 0 + l.c) 0) l.start-index))
