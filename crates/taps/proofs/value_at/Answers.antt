-- `taps::value_at` meets its contract. Assumes nothing.
use mathlib.Core.Path.{◌≡◌, ap, ◌∙◌}
use mir.Syntax.{w64}
use mir.Val.{to_z, of_z}
use Rattle.taps.specs.Held.{held_numerator}
use borrow.Author.Rules.{rules}
use Rattle.taps.proofs.value_at.Goals as goal

pub weight_at-requires : goal.weight_at-requires
weight_at-requires c =
    c.requires

pub numerator-requires : goal.numerator-requires
numerator-requires c =
    c.weight_at.ensures.0

pub held-requires : goal.held-requires
held-requires c =
    let s : to_z w64 (of_z w64 c.numerator.result) ≡ c.numerator.result = search rules in
    rw (s, c.numerator.ensures) c.weight_at.ensures.2

pub returns : goal.returns
returns c =
    let s : to_z w64 (of_z w64 c.numerator.result) ≡ c.numerator.result = search rules in
    c.held.ensures ∙ ap held_numerator (s ∙ c.numerator.ensures ∙ c.weight_at.ensures.1)
