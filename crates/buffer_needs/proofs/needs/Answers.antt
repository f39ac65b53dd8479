-- `buffer_needs::needs` meets its contract: the recipe's tests, then the header's. Assumes nothing.
use mathlib.Core.Path.{sym}
use Rattle.std.proofs.lemmas.Result.{err_from_is_err_and}
use Rattle.picture_sizes.proofs.PictureSizeLaws.{side-le, channels_few}
use Rattle.still_reader.proofs.Headed.{headed}
use Rattle.recipe.proofs.Accepted.{recipe_read}
use Rattle.buffer_needs.proofs.Named.{recipe_decides, head_decides}
use Rattle.buffer_needs.proofs.needs.Goals as goal

pub returns-in_err-recipe : goal.returns-in_err-recipe
returns-in_err-recipe c =
    let p = err_from_is_err_and c.from_residual.result c.from_residual.ensures.1 in
    rw (p.1, p.2) (sym (recipe_decides _ c.args.still.now (sym c.in_err-recipe.ensures)))

pub returns-in_err-head : goal.returns-in_err-head
returns-in_err-head c =
    let a = c.args in
    let r = recipe_read a.bytes.now (sym c.in_ok-recipe.ensures) in
    let p = err_from_is_err_and c.from_residual-in_err-head.result c.from_residual-in_err-head.ensures.1 in
    rw (p.1, p.2, head_decides a.bytes.now a.still.now r.0, ← c.in_err-head.ensures)

pub file_size-size-requires : goal.file_size-size-requires
file_size-size-requires c =
    let h = headed c.args.still.now (sym c.in_ok-head.ensures) in
    ((side-le _ h.width).1, (side-le _ h.height).1, channels_few _ h.channels)

pub needs-need-requires : goal.needs-need-requires
needs-need-requires c =
    let h = headed c.args.still.now (sym c.in_ok-head.ensures) in
    ((side-le _ h.width).1, (side-le _ h.height).1, (recipe_read c.args.bytes.now (sym c.in_ok-recipe.ensures)).0)

pub returns : goal.returns
returns c =
    let a = c.args in
    let r = recipe_read a.bytes.now (sym c.in_ok-recipe.ensures) in
    rw (head_decides a.bytes.now a.still.now r.0, ← c.in_ok-head.ensures, c.needs-need.ensures, c.file_size-size.ensures, r.1)
