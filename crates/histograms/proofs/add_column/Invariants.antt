-- `histograms::add_column` meets its contract: what is counted so far. Assumes nothing.
use Prim.Native.Nat.{◌+◌}
use mathlib.Core.Path.{◌≡◌}
use lib.ListN.{length, get_or}
use Rattle.lists.specs.Tabulate.{tabulate}
use Rattle.histograms.specs.Histogram.{below_level, counted}
use Rattle.histograms.proofs.add_column.Given as goal

abbrev pub invariant-loop-start : goal.invariant-loop-start
invariant-loop-start l = (l.counts ≡ counted l.initial.counts (tabulate (λ i. get_or l.plane (get_or l.rows i 0 + l.c) 0) l.start-index)) × (length l.counts ≡ 256) × (l.lower ≡ below_level l.level (tabulate (λ i. get_or l.plane (get_or l.rows i 0 + l.c) 0) l.start-index))
