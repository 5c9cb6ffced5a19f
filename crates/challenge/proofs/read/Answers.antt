use Rattle.std.proofs.Common.{sym, ap}
use Rattle.std.proofs.lemmas.Result.{err_from_is_err_and}
use Rattle.ticket.proofs.Laws.Passes.{passed_of}
use Rattle.ticket.proofs.Laws.Answers.{after_err, after_ok}
use Rattle.challenge.proofs.read.Goals as goal

pub returns-in_err-read : goal.returns-in_err-read
returns-in_err-read c =
    let p = err_from_is_err_and c.from_residual.result c.from_residual.ensures.1 in
    rw (p.1, p.2) (after_err _ c.in_err-read.ensures _)

pub read_list-requires : goal.read_list-requires
read_list-requires c = (passed_of _ _ (sym (ap (λ a. a.number) c.in_ok-read.ensures))).counts

pub returns : goal.returns
returns c = after_ok c.in_ok-read.ensures c.read_list.ensures
