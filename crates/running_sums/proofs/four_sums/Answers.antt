-- `running_sums::four_sums` meets its contract: two pairs are four. Assumes nothing.
use Rattle.std.proofs.Common.{◌≡◌, ℕ, ◌+◌, ◌∙◌, arith}
use Rattle.lists.proofs.Tabulate.{filled_at}
use Rattle.running_sums.specs.Fours.{four_sum}
use Rattle.running_sums.proofs.four_sums.Goals as goal

pub join_pairs-requires : goal.join_pairs-requires
join_pairs-requires c =
    let r = c.args.row.now in
    let p = c.requires in
    (omega (arith, p.1), λ x h. omega (arith, filled_at _ _ _ _ 0 x c.pair_sums.ensures h, c.type_inv.row x, c.type_inv.row (x + 1)))

pub returns : goal.returns
unfolding four_sum
returns c =
    let n = c.args.n in
    let pairs = c.pair_sums.ensures in
    let next : (x : ℕ) → x + 2 + 1 ≡ x + 3 = λ x. omega arith in
    λ x h. filled_at _ n _ _ 0 x c.join_pairs.ensures h ∙ rw (filled_at _ (n + 2) _ _ 0 x pairs (omega (arith, h)), filled_at _ (n + 2) _ _ 0 (x + 2) pairs (omega (arith, h)), next x)
