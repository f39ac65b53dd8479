-- `window_columns::place_rows` meets its contract: the starts so far. Assumes nothing.
use Prim.Native.Nat.{◌≤◌}
use native.Mathlib.Nat.{mul-le-mul}
use native.Mathlib.Omega.{arith}
use Rattle.places.proofs.PlaceLaws.{place_some, place_inside, place_none}
use Rattle.model_laws.proofs.Border.{supply-inside}
use Rattle.window_columns.proofs.Placed.{starts_none, start_more, start_none}
use Rattle.window_columns.proofs.place_rows.Goals as goal
use Rattle.window_columns.proofs.place_rows.Goals.{in-Some, in_default}

pub loop-j-init : goal.loop-j-init
loop-j-init c =
    (omega arith, starts_none c.args.frame c.args.y c.args.rows.now)

pub overflow_mul-rows : goal.overflow_mul-rows
overflow_mul-rows c =
    let low : c.in-Some.v ≤ 8192 = omega (arith, place_inside _ (supply-inside _ _ _ c.requires.0) c.in-Some.ensures, c.requires.1) in
    record { fits = omega (arith, mul-le-mul low c.requires.2) }

pub loop-j-preserved : goal.loop-j-preserved
loop-j-preserved c =
    let a = c.args in
    let L = c.loop-j in
    elim c.match-place.branch [
      | in-Some w ↦ rw (w.rows-is, w.n-is) (omega (arith, L.invariant.0), start_more a.frame a.y L.rows L.n L.j _ (omega (arith, L.invariant.0, c.loop-j-test.true, c.requires.5)) L.invariant.1 (place_some _ w.in-Some.ensures))
      | in_default w ↦ rw (w.rows-is, w.n-is) (omega (arith, L.invariant.0), start_none a.frame a.y L.rows L.n L.j L.invariant.1 (place_none _ w.in_default.ensures))
    ]
