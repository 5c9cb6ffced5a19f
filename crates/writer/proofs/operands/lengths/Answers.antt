use Rattle.std.proofs.Common.{sym, ◌∙◌}
use Rattle.std.proofs.lemmas.Result.{err_from_is_err_and}
use Rattle.ticket.proofs.Laws.Answers.{after_err, after_ok}
use Rattle.writer.proofs.Laws.Answers.{lengths_in_order}
use Rattle.writer.proofs.operands.lengths.Goals as goal

pub returns-in_err-length : goal.returns-in_err-length
returns-in_err-length c =
    let p = err_from_is_err_and c.from_residual.result c.from_residual.ensures.1 in
    rw (p.1, p.2) (after_err _ c.in_err-length.ensures _ ∙ sym (lengths_in_order _ _ _ _))

pub returns-in_err-length-2 : goal.returns-in_err-length-2
returns-in_err-length-2 c =
    let p = err_from_is_err_and c.from_residual-in_err-length-2.result c.from_residual-in_err-length-2.ensures.1 in
    rw (p.1, p.2) (after_ok c.in_ok-length.ensures (after_err _ c.in_err-length-2.ensures _) ∙ sym (lengths_in_order _ _ _ _))

pub returns : goal.returns
returns c = after_ok c.in_ok-length.ensures (after_ok c.in_ok-length-2.ensures c.length-3.ensures) ∙ sym (lengths_in_order _ _ _ _)
