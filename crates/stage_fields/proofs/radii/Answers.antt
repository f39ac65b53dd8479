-- `stage_fields::radii` meets its contract, radius by radius. Assumes nothing.
use Rattle.std.proofs.lemmas.Result.{err_from_is_err_and}
use Rattle.stage_fields.proofs.StageFieldLaws.{radii_of}
use Rattle.stage_fields.proofs.radii.Goals as goal

pub returns-in_err-radius_at : goal.returns-in_err-radius_at
returns-in_err-radius_at c =
    let p = err_from_is_err_and c.from_residual.result c.from_residual.ensures.1 in
    rw (p.1, p.2, radii_of, ← c.in_err-radius_at.ensures)

pub returns : goal.returns
returns c =
    rw (radii_of, ← c.in_ok-radius_at.ensures) c.radius_at-2.ensures
