-- `buffers::fill_front` meets its contract. Assumes nothing.
use Rattle.std.proofs.Common.{rules}
use Rattle.lists.proofs.Tabulate.{tabulate_const}
use Rattle.buffers.proofs.fill_front.Goals as goal

pub returns : goal.returns
returns c =
    rw (tabulate_const c.args.value c.args.n) (search rules)
