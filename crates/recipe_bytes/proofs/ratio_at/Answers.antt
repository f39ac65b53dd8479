-- `recipe_bytes::ratio_at` meets its contract. Assumes nothing.
use Prim.Native.Nat.{◌+◌}
use native.Mathlib.Omega.{arith}
use Rattle.std.proofs.lemmas.Int.{ints}
use Rattle.recipe_bytes.specs.Bytes.{word}
use Rattle.recipe_bytes.proofs.ByteLaws.{ratio}
use Rattle.recipe_bytes.proofs.ratio_at.Goals as goal

pub returns : goal.returns
unfolding word
returns c =
    let v = word c.args.part.now c.args.k in
    (omega (arith, ints, c.from_be_bytes.ensures, c.from.ensures, ratio v (omega (arith, c.type_inv.part c.args.k, c.type_inv.part (c.args.k + 1)))), omega (arith, ints, c.from_be_bytes.ensures, c.from.ensures))
