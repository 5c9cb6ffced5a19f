use Rattle.std.proofs.Common.{sym, ap, ◌∙◌}
use Rattle.std.proofs.lemmas.Result.{err_from_is_err_and}
use Rattle.ticket.specs.Rules.{refusal}
use Rattle.ticket.proofs.Laws.Limits.{number_by_lem, limits_of}
use Rattle.ticket.proofs.Laws.Limits.ClampedSmall.{counts, setting_holds}
use Rattle.ticket.proofs.Laws.Answers.{after_err, after_ok}
use Rattle.challenge.proofs.read_list.Goals as goal

pub returns-in_err-test : goal.returns-in_err-test
returns-in_err-test c =
    let p = err_from_is_err_and c.from_residual.result c.from_residual.ensures.1 in
    rw (p.1, p.2) (after_err _ (ap (λ n. refusal n 0) (c.in_err-test.ensures ∙ number_by_lem _ c.half.ensures)) _)

pub read_list-requires : goal.read_list-requires
read_list-requires c =
    counts (limits_of _ (setting_holds _ (sym (c.in_ok-test.ensures ∙ number_by_lem _ c.half.ensures)))).sizes

pub returns : goal.returns
returns c =
    after_ok (ap (λ n. refusal n 0) (c.in_ok-test.ensures ∙ number_by_lem _ c.half.ensures)) c.read_list.ensures
