-- `binomials::binomial_kernel` meets its contract. Assumes nothing.
use mathlib.Core.Path.{refl}
use Rattle.binomials.proofs.Taps.{power, kernel-is, limits}
use Rattle.binomials.proofs.binomial_kernel.Goals as goal

pub returns : goal.returns
returns c =
    let r = c.args.r in
    let h = c.requires in
    let o = c.offsets.ensures in
    let v = c.numerators.ensures in
    rw (power r h) (refl, kernel-is r h _ _ o.1 v.1, limits r h _ _ o.1 v.1 o.0 v.0)
