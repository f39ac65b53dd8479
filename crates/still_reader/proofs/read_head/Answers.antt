-- `still_reader::read_head` meets its contract. Assumes nothing.
use Prim.Native.Nat.{ℕ}
use mathlib.Core.Path.{sym, ap, ◌∙◌}
use mathlib.Core.List.{List}
use lib.ListN.{drop}
use borrow.Author.Tests.{eq-eqb}
use Rattle.lists.proofs.Part.{tail_mid}
use Rattle.std.specs.Prelude.{Err}
use Rattle.std.proofs.lemmas.Result.{err_from_is_err_and}
use Rattle.header_reader.specs.Header.{header}
use Rattle.header_reader.specs.Answers.{header_answer}
use Rattle.still_reader.specs.Head.{magic_test, head_of}
use Rattle.still_reader.proofs.ReadLaws.{some_channels, refused_for, broken_announced, whole_announced}
use Rattle.still_reader.proofs.read_head.Goals as goal

pub returns-in_err-header : goal.returns-in_err-header
unfolding head_of magic_test
returns-in_err-header c =
    let b = c.args.bytes.now in
    let p = err_from_is_err_and c.from_residual-in_err-header.result c.from_residual-in_err-header.ensures.1 in
    let h = c.in_err-header.ensures in
    let k = some_channels _ _ (sym c.channels_of.ensures ∙ c.in_ok-channels.ensures.ok_part) in
    let a = ap (λ (l : List ℕ). header_answer (header l)) (sym (tail_mid 2 b)) ∙ sym c.read_header.ensures ∙ h.ok_part in
    p.1 ∙ ap Err (p.2 ∙ refused_for h.value h.ok_part) ∙ rw (eq-eqb _ 80 c.if-bytes-ne80.false, k.0, broken_announced _ (header (drop 2 b)) a)

pub returns : goal.returns
unfolding head_of magic_test
returns c =
    let b = c.args.bytes.now in
    let k = some_channels _ _ (sym c.channels_of.ensures ∙ c.in_ok-channels.ensures.ok_part) in
    let a = ap (λ (l : List ℕ). header_answer (header l)) (sym (tail_mid 2 b)) ∙ sym c.read_header.ensures ∙ c.in_ok-header.ensures.ok_part in
    rw (eq-eqb _ 80 c.if-bytes-ne80.false, k.0, k.1, whole_announced c.in_ok-channels.channels (header (drop 2 b)) a) c.picture.ensures
