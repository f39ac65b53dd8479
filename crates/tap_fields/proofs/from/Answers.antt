-- `tap_fields::from` meets its contract. Assumes nothing.
use mathlib.Core.Path.{◌∙◌}
use Rattle.std.proofs.lemmas.List.{drop_min}
use Rattle.lists.proofs.Part.{tail_mid}
use Rattle.tap_fields.proofs.from.Goals as goal

pub returns : goal.returns
returns c =
    let b = c.args.part.now in
    tail_mid c.min.result b ∙ rw c.min.ensures (drop_min c.args.k b)
