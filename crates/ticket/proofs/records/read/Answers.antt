use Rattle.std.proofs.Common.{◌≡◌, sym, ap, ◌∙◌}
use Rattle.std.proofs.lemmas.Result.{err_from_is_err_and}
use Rattle.ticket.specs.Rules.{refusal, half_range, setting_tests, ticket_length, reading}
use Rattle.ticket.specs.Laws.Tests.{AllHold}
use Rattle.ticket.proofs.Laws.Limits.ClampedSmall.{counts, setting_holds}
use Rattle.ticket.proofs.Laws.Limits.{limits_of, clamped_same, number_by_lem}
use Rattle.ticket.proofs.Laws.Answers.{after_err}
use Rattle.ticket.proofs.Laws.Refusals.{by_length, refused_reading, records_read}
use Rattle.ticket.proofs.records.read.Goals as goal

pub returns-in_err-test : goal.returns-in_err-test
unfolding reading
returns-in_err-test c =
    let p = err_from_is_err_and c.from_residual.result c.from_residual.ensures.1 in
    rw (p.1, p.2) (after_err _ (ap (λ n. refusal n 0) (c.in_err-test.ensures ∙ number_by_lem _ c.half-half.ensures)) _)

pub returns-then-ticket-length : goal.returns-then-ticket-length
returns-then-ticket-length c =
    let holds : AllHold (setting_tests c.args.setting) = setting_holds c.args.setting
    (sym (c.in_ok-test.ensures ∙ number_by_lem _ c.half-half.ensures)) in
    let limits = limits_of _ (holds) in
    let long : c.length.result ≡ ticket_length c.args.setting = c.length.ensures ∙ ap ticket_length (clamped_same limits.sizes limits.numbers) in
    rw c.from.ensures (sym (refused_reading _ _ (by_length (holds) (λ e. c.if-ticket-length.true (e ∙ sym (long))))))

pub read_records-requires : goal.read_records-requires
read_records-requires c =
    let holds : AllHold (setting_tests c.args.setting) = setting_holds c.args.setting
    (sym (c.in_ok-test.ensures ∙ number_by_lem _ c.half-half.ensures)) in
    let limits = limits_of _ (holds) in
    let same = clamped_same limits.sizes limits.numbers in (
      record { counts = counts limits.sizes; within = limits; long = c.if-ticket-length.false ∙ c.length.ensures ∙ ap ticket_length same },
      c.half-half.ensures ∙ ap half_range same,
    )

pub returns : goal.returns
returns c =
    let holds : AllHold (setting_tests c.args.setting) = setting_holds c.args.setting
    (sym (c.in_ok-test.ensures ∙ number_by_lem _ c.half-half.ensures)) in
    let limits = limits_of _ (holds) in
    let long : c.length.result ≡ ticket_length c.args.setting = c.length.ensures ∙ ap ticket_length (clamped_same limits.sizes limits.numbers) in
    c.read_records.ensures ∙ sym (records_read _ _ (holds) (c.if-ticket-length.false ∙ long))
