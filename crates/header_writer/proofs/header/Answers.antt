-- `header_writer::header` meets its contract: with all that is pushed it stays within 17 bytes. Assumes nothing.
use Rattle.std.proofs.Common.{arith, length-append}
use Rattle.header_writer.specs.Heading.{magic_line}
use Rattle.header_writer.proofs.HeadingLaws.{decimal_few}
use Rattle.header_writer.proofs.header.Goals as goal

pub push_number-requires-2 : goal.push_number-requires-2
unfolding magic_line
push_number-requires-2 c =
    rw (c.push.ensures, c.push_number.ensures, c.extend_from_slice.ensures, c.new-head.ensures, c.magic.ensures)
    (simp length-append (omega (arith, decimal_few c.args.width c.requires.0, decimal_few c.args.height c.requires.1)))

pub extend_from_slice-requires-2 : goal.extend_from_slice-requires-2
unfolding magic_line
extend_from_slice-requires-2 c =
    rw (c.push_number-2.ensures, c.push.ensures, c.push_number.ensures, c.extend_from_slice.ensures, c.new-head.ensures, c.magic.ensures)
    (simp length-append (omega (arith, decimal_few c.args.width c.requires.0, decimal_few c.args.height c.requires.1)))
