-- `capi::hejslopi_read_recipe` meets its contract. Assumes nothing.
use Rattle.told.specs.Numbers.{recipe_told}
use Rattle.told.proofs.Alike.{told}
use Rattle.capi.proofs.hejslopi_read_recipe.Goals as goal

pub returns : goal.returns
returns c =
    told recipe_told c.read_recipe.ensures c.tell.ensures
