-- `background_slots::raster_size` meets its contract: small numbers have a small product. Assumes nothing.
use native.Mathlib.Omega.{arith}
use Rattle.background_slots.proofs.HeldRoom.{small}
use Rattle.background_slots.proofs.raster_size.Goals as goal

pub overflow_mul-result : goal.overflow_mul-result
overflow_mul-result c =
    record { fits = omega (arith, (small c.args.held c.requires).plane) }

pub overflow_mul-result-2 : goal.overflow_mul-result-2
overflow_mul-result-2 c =
    record { fits = omega (arith, (small c.args.held c.requires).raster) }
