-- `axis_fields::count_at` meets its contract where the bytes end too early. Assumes nothing.
use Rattle.std.proofs.lemmas.Result.{err_from_is_err_and}
use Rattle.recipe_bytes.proofs.ByteLaws.{field_cut}
use Rattle.axis_fields.proofs.count_at.Goals as goal

pub returns-in_err-byte_at : goal.returns-in_err-byte_at
returns-in_err-byte_at c =
    let p = err_from_is_err_and c.from_residual.result c.from_residual.ensures.1 in
    rw (p.1, p.2) (field_cut _ _ _ _ c.in_err-byte_at.ensures)
