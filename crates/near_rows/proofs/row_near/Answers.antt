-- `near_rows::row_near` meets its contract: the row's samples of the channel stand `channels` apart. Assumes nothing.
use Prim.Native.Nat.{◌*◌, ◌≤◌}
use native.Mathlib.Nat.{mul-le-mul}
use native.Mathlib.Omega.{arith}
use Rattle.near_rows.proofs.row_near.Goals as goal

pub overflow_mul-at : goal.overflow_mul-at
overflow_mul-at c =
    let row_small : c.args.v * c.args.w ≤ 67108864 = mul-le-mul {n₂ = 8192} {m₂ = 8192} (omega (arith, c.requires.2)) c.requires.1 in
    record { fits = omega (arith, row_small) }
