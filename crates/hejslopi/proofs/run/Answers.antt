-- `hejslopi::run` is safe: what is found lies within the limits, and each buffer is a byte longer than its limit. Assumes nothing.
use native.Mathlib.Omega.{arith}
use mathlib.Core.Path.{sym, ◌∙◌}
use lib.Seq.{length-take-le}
use Rattle.disk_tests.proofs.Limits.{found_within}
use Rattle.hejslopi.proofs.run.Goals as goal

pub slice_bounds-recipe-end : goal.slice_bounds-recipe-end
slice_bounds-recipe-end g c =
    omega (arith, found_within _ _ (sym c.tested.ensures ∙ c.in_ok-a.was))

pub slice_bounds-filter-end : goal.slice_bounds-filter-end
slice_bounds-filter-end g c =
    sym (length-take-le _ _ (omega (arith, found_within _ _ (sym c.tested.ensures ∙ c.in_ok-a.was))))

pub slice_bounds-still-end : goal.slice_bounds-still-end
slice_bounds-still-end g c =
    omega (arith, found_within _ _ (sym c.tested.ensures ∙ c.in_ok-a.was))

pub slice_bounds-filter-end-2 : goal.slice_bounds-filter-end-2
slice_bounds-filter-end-2 g c =
    sym (length-take-le _ _ (omega (arith, found_within _ _ (sym c.tested.ensures ∙ c.in_ok-a.was))))
