-- `disk::save` is safe, and writes under the one name that it may. Assumes nothing.
use mathlib.Core.Path.{refl}
use Rattle.disk.proofs.save.Goals as goal

pub put-requires : goal.put-requires
put-requires g c =
    refl
