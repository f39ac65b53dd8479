-- `tap_fields::arrays` meets its contract. Assumes nothing.
use native.Mathlib.Omega.{arith}
use Rattle.std.proofs.lemmas.Result.{err_from_is_err_and}
use Rattle.axis_fields.proofs.AxisPassed.{sizes_known}
use Rattle.tap_fields.proofs.TapFieldLaws.{taps_of}
use Rattle.tap_fields.proofs.arrays.Goals as goal

pub bounds-part-0 : goal.bounds-part-0
bounds-part-0 c =
    omega (arith, (sizes_known c.args.real c.args.part.now c.requires).counts-there)

pub bounds-part-1 : goal.bounds-part-1
bounds-part-1 c =
    omega (arith, (sizes_known c.args.real c.args.part.now c.requires).counts-there)

pub weights_of-requires : goal.weights_of-requires
weights_of-requires c =
    let s = sizes_known c.args.real c.args.part.now c.requires in
    omega (arith, s.few-across, s.few-down)

pub returns-in_err-offsets : goal.returns-in_err-offsets
returns-in_err-offsets c =
    let p = err_from_is_err_and c.from_residual.result c.from_residual.ensures.1 in
    rw (p.1, p.2, taps_of _ _ c.requires, ← c.from-n.ensures, ← c.from-m.ensures, ← c.sizes_length-o.ensures.0, ← c.from.ensures, ← c.in_err-offsets.ensures)

pub returns-in_err-offsets-2 : goal.returns-in_err-offsets-2
returns-in_err-offsets-2 c =
    let p = err_from_is_err_and c.from_residual-in_err-offsets-2.result c.from_residual-in_err-offsets-2.ensures.1 in
    rw (
      p.1,
      p.2,
      taps_of _ _ c.requires,
      ← c.from-n.ensures,
      ← c.from-m.ensures,
      ← c.sizes_length-o.ensures.0,
      ← c.from.ensures,
      ← c.in_ok-offsets.ensures,
      ← c.from-2.ensures,
      ← c.in_err-offsets-2.ensures,
    )

pub returns : goal.returns
returns c =
    rw (
      taps_of _ _ c.requires,
      ← c.from-n.ensures,
      ← c.from-m.ensures,
      ← c.sizes_length-o.ensures.0,
      ← c.from.ensures,
      ← c.in_ok-offsets.ensures,
      ← c.from-2.ensures,
      ← c.in_ok-offsets-2.ensures,
      ← c.from-3.ensures,
    )
    c.weights_of.ensures
