-- `background_slots::largest_tolerance` meets its contract: the largest so far. Assumes nothing.
use Prim.Native.Nat.{ℕ, ◌+◌, ◌*◌, max}
use native.Mathlib.Omega.{arith}
use mathlib.Core.Path.{◌≡◌, sym, ap, ◌∙◌}
use lib.ListN.{get_or}
use Rattle.std.proofs.lemmas.Bool.Decides.{nat_tests}
use Rattle.background_slots.proofs.Search.{largest-none, largest-more}
use Rattle.background_slots.proofs.largest_tolerance.Goals as goal

pub loop-i-init : goal.loop-i-init
loop-i-init c =
    sym (largest-none _)

pub loop-i-preserved : goal.loop-i-preserved
loop-i-preserved c =
    let L = c.loop-i in
    let tolerance : ℕ → ℕ = λ j. get_or c.args.labels.now (2 * j + 1) 0 in
    let larger : c.max-most.result ≡ max L.most (tolerance L.i) = grind (arith, nat_tests, c.max-most.ensures) in
    larger ∙ ap (λ (most : ℕ). max most (tolerance L.i)) L.invariant ∙ sym (largest-more tolerance L.i)
