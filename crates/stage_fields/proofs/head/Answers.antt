-- `stage_fields::head` meets its contract, test by test. Assumes nothing.
use Rattle.std.proofs.Common.{arith}
use mathlib.Core.Path.{◌∙◌}
use mathlib.Core.Logic.{inl, inr}
use Rattle.std.proofs.lemmas.Result.{err_from_is_err_and}
use borrow.Author.Tests.{le-leb, lt-leb, eq-eqb, ne_eqb}
use Rattle.recipe_bytes.specs.Bytes.{at}
use Rattle.recipe_bytes.proofs.ByteLaws.{byte_read, field_read, field_cut}
use Rattle.stage_fields.proofs.StageFieldLaws.{kind_tested, no-kind, head_of}
use Rattle.stage_fields.proofs.head.Goals as goal

pub returns-in_err-byte_at : goal.returns-in_err-byte_at
returns-in_err-byte_at c =
    let p = err_from_is_err_and c.from_residual.result c.from_residual.ensures.1 in
    rw (p.1, p.2, head_of, ← field_cut 0 _ _ _ c.in_err-byte_at.ensures)

pub returns-in_err-try_from : goal.returns-in_err-try_from
returns-in_err-try_from c =
    let p = err_from_is_err_and c.from_residual-in_err-try_from.result c.from_residual-in_err-try_from.ensures.1 in
    let b = byte_read _ _ c.in_ok-byte_at.ensures in
    rw (p.1, p.2, c.in_err-try_from.ensures.0, head_of, field_read 0 _ _ _ c.in_ok-byte_at.ensures, no-kind _ _ b.1 c.in_err-try_from.ensures.1)

pub returns-in_err-border : goal.returns-in_err-border
returns-in_err-border c =
    let p = err_from_is_err_and c.from_residual-in_err-border.result c.from_residual-in_err-border.ensures.1 in
    let b = byte_read _ _ c.in_ok-byte_at.ensures in
    rw (p.1, p.2, head_of, field_read 0 _ _ _ c.in_ok-byte_at.ensures, kind_tested _ _ (c.in_ok-try_from.ensures ∙ b.1), ← field_cut 1 _ _ _ c.in_err-border.ensures)

pub returns-then-border-gt3 : goal.returns-then-border-gt3
returns-then-border-gt3 c =
    let b = byte_read _ _ c.in_ok-byte_at.ensures in
    let d = byte_read _ _ c.in_ok-border.ensures in
    rw (
      head_of,
      field_read 0 _ _ _ c.in_ok-byte_at.ensures,
      kind_tested _ _ (c.in_ok-try_from.ensures ∙ b.1),
      field_read 1 _ _ _ c.in_ok-border.ensures,
      lt-leb (at c.args.part.now 1) 3 (omega arith),
    )

pub returns-in_err-value : goal.returns-in_err-value
returns-in_err-value c =
    let p = err_from_is_err_and c.from_residual-in_err-value.result c.from_residual-in_err-value.ensures.1 in
    let b = byte_read _ _ c.in_ok-byte_at.ensures in
    let d = byte_read _ _ c.in_ok-border.ensures in
    rw (
      p.1,
      p.2,
      head_of,
      field_read 0 _ _ _ c.in_ok-byte_at.ensures,
      kind_tested _ _ (c.in_ok-try_from.ensures ∙ b.1),
      field_read 1 _ _ _ c.in_ok-border.ensures,
      le-leb (at c.args.part.now 1) 3 (omega arith),
      ← field_cut 2 _ _ _ c.in_err-value.ensures,
    )

pub returns-then-value-ne0 : goal.returns-then-value-ne0
returns-then-value-ne0 c =
    let b = byte_read _ _ c.in_ok-byte_at.ensures in
    let d = byte_read _ _ c.in_ok-border.ensures in
    let v = byte_read _ _ c.in_ok-value.ensures in
    rw (
      head_of,
      field_read 0 _ _ _ c.in_ok-byte_at.ensures,
      kind_tested _ _ (c.in_ok-try_from.ensures ∙ b.1),
      field_read 1 _ _ _ c.in_ok-border.ensures,
      le-leb (at c.args.part.now 1) 3 (omega arith),
      field_read 2 _ _ _ c.in_ok-value.ensures,
      ne_eqb (at c.args.part.now 1) 0 (omega arith),
      ne_eqb (at c.args.part.now 2) 0 (omega arith),
    )

pub returns : goal.returns
returns c =
    let b = byte_read _ _ c.in_ok-byte_at.ensures in
    let d = byte_read _ _ c.in_ok-border.ensures in
    let v = byte_read _ _ c.in_ok-value.ensures in
    rw (
      head_of,
      field_read 0 _ _ _ c.in_ok-byte_at.ensures,
      kind_tested _ _ (c.in_ok-try_from.ensures ∙ b.1),
      field_read 1 _ _ _ c.in_ok-border.ensures,
      le-leb (at c.args.part.now 1) 3 (omega arith),
      field_read 2 _ _ _ c.in_ok-value.ensures,
    )
    (elim c.else-border-ne0.either [
      | inl w ↦ rw (ne_eqb (at c.args.part.now 1) 0 (omega arith), eq-eqb (at c.args.part.now 2) 0 (omega arith))
      | inr w ↦ rw (eq-eqb (at c.args.part.now 1) 0 (omega arith))
    ])
