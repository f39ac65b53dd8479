-- `header_writer::HeadBuilder::push_number` meets its contract: the digits of n / 10, and then the last. Assumes nothing.
use Rattle.std.proofs.Common.{◌≡◌, ◌+◌, ◌%◌, length, ap, arith, length-append, append_assoc}
use Rattle.header_writer.proofs.HeadingLaws.{decimal_small, decimal-more}
use Rattle.header_writer.proofs.HeadBuilder.+push_number.Goals as goal
use Rattle.header_writer.proofs.HeadBuilder.+push_number.Goals.{then-n-ge10, else-n-ge10}

pub push_number-requires : goal.push_number-requires
push_number-requires t c =
    let l = simp length-append at (ap length (decimal-more c.args.n c.if-n-ge10.true)) in
    (omega arith, omega (arith, c.requires))

pub push-requires : goal.push-requires
push-requires t c =
    elim c.if-n-ge10.branch [
      | then-n-ge10 w ↦
          let l = simp length-append at (ap length (decimal-more c.args.n w.if-n-ge10.true)) in
          rw (w.self-is, w.push_number.ensures, length-append) (omega (arith, c.requires))
      | else-n-ge10 w ↦ rw w.self-is (omega (arith, c.requires, ap length (decimal_small c.args.n w.if-n-ge10.false)))
    ]

pub returns : goal.returns
returns t c =
    let n = c.args.n in
    elim c.if-n-ge10.branch [
      | then-n-ge10 w ↦ rw (c.push.ensures, w.self-is, w.push_number.ensures, decimal-more n w.if-n-ge10.true, append_assoc)
      | else-n-ge10 w ↦
          let e : 48 + n % 10 ≡ 48 + n = omega (arith, w.if-n-ge10.false) in
          rw (c.push.ensures, w.self-is, decimal_small n w.if-n-ge10.false, e)
    ]
