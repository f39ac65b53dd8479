-- `kernels::axis_of` meets its contract. Assumes nothing.
use native.Mathlib.Omega.{arith}
use Rattle.kernels.proofs.Units.{magnitude-is, value_small, axis_ready}
use Rattle.kernels.proofs.axis_of.Goals as goal

pub shares-shared-requires : goal.shares-shared-requires
shares-shared-requires c =
    c.requires

pub magnitude-requires : goal.magnitude-requires
magnitude-requires c =
    let l = c.requires in
    (l.taps, l.numerators-fit, value_small _ _ _ _ l)

pub scaled_gain-gain-requires : goal.scaled_gain-gain-requires
scaled_gain-gain-requires c =
    let l = c.requires in
    let k = c.args.k in
    (l.some, l.few, omega (arith, c.magnitude.ensures, magnitude-is k.offsets k.values k.len, l.gain))

pub returns : goal.returns
returns c =
    let k = c.args.k in
    axis_ready k.divisor k.offsets k.values k.len _ _ _ _ c.requires c.shares-shared.ensures.1 c.shares-shared.ensures.2 c.magnitude.ensures c.scaled_gain-gain.ensures
