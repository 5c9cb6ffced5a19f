use Rattle.std.proofs.Common.{sym, ◌∙◌}
use Rattle.std.proofs.lemmas.Result.{err_from_is_err_and}
use Rattle.ticket.proofs.Laws.Answers.{after_err, after_ok}
use Rattle.writer.proofs.Laws.Operands.{beyond_both}
use Rattle.writer.proofs.operands.entries.Goals as goal

pub returns-in_err-first_beyond : goal.returns-in_err-first_beyond
returns-in_err-first_beyond c =
    let p = err_from_is_err_and c.from_residual.result c.from_residual.ensures.1 in
    rw (p.1, p.2) (after_err _ c.in_err-first_beyond.ensures _ ∙ sym (beyond_both c.args.bound 14 c.args.a.now c.args.b.now))

pub returns : goal.returns
returns c =
    after_ok c.in_ok-first_beyond.ensures c.first_beyond-2.ensures ∙ sym (beyond_both c.args.bound 14 c.args.a.now c.args.b.now)
