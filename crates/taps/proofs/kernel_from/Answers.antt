-- `taps::kernel_from` meets its contract. Assumes nothing.
use mathlib.Core.Path.{refl}
use Rattle.taps.proofs.Holding.{holds}
use Rattle.taps.proofs.kernel_from.Goals as goal

pub offsets_from-offsets-requires : goal.offsets_from-offsets-requires
offsets_from-offsets-requires c =
    let t = c.requires in
    (t.few, t.offsets-there, t.offsets-right)

pub values_from-values-requires : goal.values_from-values-requires
values_from-values-requires c =
    c.requires

pub returns : goal.returns
returns c =
    let a = c.args in
    (refl, refl, holds a.real a.divisor a.part.now a.n a.o a.w (λ i. (c.type_inv.part i).fits) c.requires _ _ c.offsets_from-offsets.ensures.0 c.offsets_from-offsets.ensures.1 c.values_from-values.ensures.0 c.values_from-values.ensures.1)
