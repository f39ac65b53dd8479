-- `raster_means::block` meets its contract: the sums, then their means. Assumes nothing.
use Prim.Native.Nat.{ℕ, ◌+◌}
use native.Mathlib.Omega.{arith}
use mathlib.Core.Path.{ap, ◌∙◌}
use mathlib.Core.List.{List, ◌++◌}
use lib.ListN.{drop, replicate}
use Rattle.lists.proofs.Tabulate.{length_filled, filled_at, tabulate_ext}
use Rattle.integers.specs.Divide.{nearest}
use Rattle.raster_means.proofs.PlaceSums.{sum-le, zeros}
use Rattle.raster_means.proofs.block.Goals as goal

-- the sums at first
abbrev begun : List ℕ
begun = replicate 4096 0

pub block_sums-requires : goal.block_sums-requires
block_sums-requires c =
    let p = c.requires in
    (p.1, p.2, p.4, p.3, λ u. zeros 4096 u)

pub block_means-requires : goal.block_means-requires
block_means-requires c =
    let a = c.args in
    let p = c.requires in
    let e = c.block_sums.ensures in (
      rw (e, length_filled _ a.n begun p.3) p.3,
      p.5,
      p.0,
      p.1,
      p.6,
      λ u b. rw (filled_at _ a.n begun _ 0 u e b) (sum-le a.rasters.now a.size a.k (a.at + u) (λ j. omega (arith, c.type_inv.rasters j))),
    )

pub returns : goal.returns
returns c =
    let a = c.args in
    let e = c.block_sums.ensures in
    c.block_means.ensures ∙ ap (λ (l : List ℕ). l ++ drop a.n a.out.now) (tabulate_ext _ _ a.n (λ u b. ap (λ (s : ℕ). nearest s a.k) (filled_at _ a.n begun _ 0 u e b)))
