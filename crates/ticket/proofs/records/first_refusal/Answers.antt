use Rattle.std.proofs.Common.{◌≡◌, ◌∙◌, sym, arith}
use Rattle.algebra.proofs.Laws.Positions.{position_of, row_inside}
use Rattle.ticket.proofs.Laws.Answers.{reason_numbered}
use Rattle.ticket.proofs.Laws.Forms.{scanned_refused}
use Rattle.ticket.proofs.Laws.Scans.{refusal_none}
use Rattle.ticket.proofs.records.first_refusal.Goals as goal

pub returns-in-Err : goal.returns-in-Err
returns-in-Err c = rw (c.from.ensures, c.from-in-loop-row.ensures, c.from-in-loop-column.ensures)
    (scanned_refused _ _ (position_of _ c.loop-column-test.true)
    (c.in-Err.ensures ∙ rw (c.from.ensures, c.from-in-loop-row.ensures, c.from-in-loop-column.ensures)) c.loop-column.invariant _ _
    (omega (arith, row_inside c.args.form.columns c.loop-row-test.true, c.loop-column-test.true)) (reason_numbered _))

pub returns : goal.returns
returns c =
    let rows : c.loop-row.row ≡ c.args.form.rows = omega (arith, c.loop-row-test.false, c.loop-row.auto) in
    sym (refusal_none _ _ _ (λ k l. c.loop-row.invariant k (rw rows l)))
