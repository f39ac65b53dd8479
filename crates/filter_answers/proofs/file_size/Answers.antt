-- `filter_answers::file_size` meets its contract. Assumes nothing.
use native.Mathlib.Omega.{arith}
use Rattle.header_writer.proofs.HeadingLaws.{header-length}
use Rattle.picture_sizes.proofs.PictureSizeLaws.{size_small}
use Rattle.filter_answers.specs.FileAnswer.{file_size}
use Rattle.filter_answers.proofs.file_size.Goals as goal

pub overflow_mul-result : goal.overflow_mul-result
overflow_mul-result c =
    omega (arith, size_small _ _ _ c.requires.0 c.requires.1 c.requires.2)

pub overflow_mul-result-2 : goal.overflow_mul-result-2
overflow_mul-result-2 c =
    omega (arith, size_small _ _ _ c.requires.0 c.requires.1 c.requires.2)

pub overflow_add-result : goal.overflow_add-result
overflow_add-result c =
    let a = c.args in
    let p = c.requires in
    omega (arith, size_small _ _ _ p.0 p.1 p.2, c.header-head.ensures.size, c.len.ensures, header-length a.width a.height a.channels p.0 p.1)

pub returns : goal.returns
unfolding file_size
returns c =
    rw (c.len.ensures, c.header-head.ensures.size)
