-- `whole_taps::taps_of` meets its contract. Assumes nothing.
use Rattle.whole_taps.proofs.Kernels.{same-kernel, whole, small}
use Rattle.whole_taps.proofs.taps_of.Goals as goal

pub numerators-weights-requires : goal.numerators-weights-requires
numerators-weights-requires c =
    let k = c.args.k in
    let p = c.requires in
    (p.0.taps, p.0.numerators-fit, small k.divisor k.offsets k.values k.len p.0 p.1)

pub invariant_of-result : goal.invariant_of-result
invariant_of-result c =
    record { whole = whole _ c.args.k.values c.numerators-weights.ensures.1 c.requires.0 c.requires.1 }

pub returns : goal.returns
returns c =
    same-kernel _ c.args.k.values c.numerators-weights.ensures.1
