-- 'Tolerance': the T of a list of stages, as a number of 65,536ths of a grey level.
use Rattle.std.specs.Prelude.{ℕ, ◌+◌, ◌*◌, ◌^◌, min, List, [], ◌∷◌}
use Rattle.integers.specs.Divide.{ceil_div}
use Rattle.model.specs.Kernel.{Kernel, magnitude}
use Rattle.model.specs.Apportion.{rounded_taps}
use Rattle.model.specs.Stage.{Work, weighted, box, rank, outline, Stage}

-- g1 of the horizontal kernel, g2 of the vertical one: 65,536 times its gain, rounded up
unfoldable pub scaled_gain : Kernel → ℕ
scaled_gain K = ceil_div (65536 * magnitude K.taps) K.divisor

-- T' of n rounded taps across and m down (request 2026-08), each of its three divisions rounding up: g1·g2·T/2^32 + g2·(255n+512)/65,536 + m·(255·g1 + 255n + 512)/65,536 + 32,768
unfoldable pub weighted_growth : ℕ → ℕ → ℕ → ℕ → ℕ → ℕ
weighted_growth g1 g2 n m T =
    ceil_div (g1 * g2 * T) (2 ^ 32)
    + ceil_div (g2 * (255 * n + 512)) 65536
    + ceil_div (m * (255 * g1 + 255 * n + 512)) 65536
    + 32768

-- T after a work, before it is cut: a box adds half a level, a rank nothing; an outline adds up six samples, and rounds nothing
unfoldable pub growth : Work → ℕ → ℕ
growth (weighted across down) T = weighted_growth (scaled_gain across) (scaled_gain down) (rounded_taps across) (rounded_taps down) T
growth (box r s) T = T + 32768
growth (rank r s p) T = T
growth outline T = 6 * T

-- T after a stage: at most 16,711,680, which is 255 levels
unfoldable pub after_stage : ℕ → Stage → ℕ
after_stage T t = min (growth t.work T) 16711680

-- T through the stages, from a T before them
unfoldable pub tolerance_from : ℕ → List Stage → ℕ
tolerance_from T [] = T
tolerance_from T (t ∷ ts) = tolerance_from (after_stage T t) ts

-- T of a list of stages: 0 before the first
unfoldable pub tolerance : List Stage → ℕ
tolerance ts = tolerance_from 0 ts
