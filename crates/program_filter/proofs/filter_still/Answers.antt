-- `program_filter::filter_still` meets its contract: the file call's, for the lengths of these arrays. Assumes nothing.
use mathlib.Core.Path.{refl}
use Rattle.program_filter.proofs.Saved.{still_filters}
use borrow.Author.Rules.{rules}
use Rattle.program_filter.proofs.filter_still.Goals as goal

pub returns : goal.returns
returns c =
    still_filters {w = 32768} {r = 16384} {s = 16384} {o = 65536} c.filter_file.ensures (search rules) (search rules) (search rules) (search rules) refl
