-- `edges::strength` meets its contract: kernel by kernel, each of the table the definition's. Assumes nothing.
use Prim.Native.Nat.{ℕ, max}
use mathlib.Core.Path.{◌≡◌, refl, sym, ap, ◌∙◌}
use mathlib.Core.List.{List, []}
use lib.ListN.{get_or}
use lib.IntN.{ℤ, nat_abs}
use mir.Syntax.{w16}
use mir.Val.{to_z, of_z}
use Rattle.model.specs.Outline.{outline_kernels, response}
use Rattle.edges.specs.declared.TheConstants.{KERNELS}
use Rattle.edges.proofs.Responses.{weight_le, strongest_none, strongest_more, strongest_all}
use borrow.Author.Rules.{rules}
use Rattle.edges.proofs.strength.Goals as goal

pub loop-kernel-init : goal.loop-kernel-init
loop-kernel-init c =
    strongest_none _

-- the table is the definition's
table : KERNELS ≡ outline_kernels
unfolding outline_kernels
table = refl

pub response_of-requires : goal.response_of-requires
response_of-requires c =
    rw (sym table) at (weight_le c.loop-kernel.kernel-index)

pub loop-kernel-preserved : goal.loop-kernel-preserved
loop-kernel-preserved c =
    let L = c.loop-kernel in
    let out : to_z w16 (of_z w16 c.response_of.result) ≡ c.response_of.result = search rules in
    let same = ap (λ (t : List (List ℤ)). response (get_or t L.kernel-index []) c.args.square) table in
    strongest_more c.args.square L.kernel-index L.most _ L.invariant c.loop-kernel-test.true
    (c.max-most.ensures ∙ ap (λ (n : ℕ). max L.most n) (c.unsigned_abs.ensures.value ∙ ap nat_abs (out ∙ c.response_of.ensures.0 ∙ same)))

pub returns : goal.returns
returns c =
    strongest_all _ _ _ c.loop-kernel.invariant c.loop-kernel-test.false
