use Rattle.std.proofs.Common.{◌≡◌, ℕ, ◌<◌, List, length, ℤ, sym, ap, ◌∙◌, arith}
use Rattle.std.proofs.lemmas.Result.{err_from_is_err_and}
use Rattle.ticket.specs.declared.setting.Setting.{Setting}
use Rattle.ticket.specs.Rules.{answer, refusal, half_range, setting_tests, ticket_length, sum_products}
use Rattle.ticket.specs.Laws.Limits.{clamped, number_by}
use Rattle.ticket.specs.Laws.Tests.{AllHold}
use Rattle.ticket.proofs.Laws.Layout.LengthMost.{length_most}
use Rattle.ticket.proofs.Laws.Limits.ClampedSmall.{setting_holds, counts}
use Rattle.ticket.proofs.Laws.Limits.{number_by_lem, limits_of, clamped_same}
use Rattle.ticket.proofs.Laws.Answers.{passed_zero, reason_numbered}
use Rattle.writer.specs.Rules.{operands_reading, written}
use Rattle.writer.specs.Laws.Answers.{Writable}
use Rattle.writer.proofs.Laws.Answers.{output_short, writing_of, setting_refused, operands_refused, passed_operands}
use Rattle.writer.proofs.Laws.Tickets.{refused, all_written}
use Rattle.writer.proofs.Job.try_write.Goals as goal

-- by half of the range the setting passes its tests, and the code takes it as it is
module _ (G : Setting) {half : ℕ} (half_is : half ≡ half_range (clamped G)) (passed : 0 ≡ number_by G half) where
  holds : AllHold (setting_tests G)
  holds = setting_holds G (sym (passed ∙ number_by_lem G half_is))

  same : clamped G ≡ G
  same = let within = limits_of _ holds in clamped_same within.sizes within.numbers

  ready : {A B C : List ℤ} → refusal 0 0 ≡ operands_reading G A B C → Writable G A B C
  ready is = passed_operands _ _ _ _ holds (passed_zero is)

pub returns-in_err-test : goal.returns-in_err-test
returns-in_err-test c =
    let p = err_from_is_err_and c.from_residual.result c.from_residual.ensures.1 in
    let number = sym (c.in_err-test.ensures ∙ number_by_lem _ c.requires) in
    rw (p.1, p.2) (refused _ _ _ _ _ (setting_refused _ _ _ _ _ number (reason_numbered _)) (reason_numbered _))

pub read-requires : goal.read-requires
read-requires c = limits_of _ (holds _ c.requires c.in_ok-test.ensures)

pub returns-in_err-read : goal.returns-in_err-read
returns-in_err-read c =
    let p = err_from_is_err_and c.from_residual-in_err-read.result c.from_residual-in_err-read.ensures.1 in
    let setting = holds _ c.requires c.in_ok-test.ensures in
    rw (p.1, p.2) (refused _ _ _ _ _ (operands_refused _ _ _ _ _ setting (sym c.in_err-read.ensures) (reason_numbered _)) (reason_numbered _))

pub returns-then-output-length : goal.returns-then-output-length
returns-then-output-length c =
    let long : c.length-length.result ≡ ticket_length c.args.self.now.setting =
    c.length-length.ensures ∙ ap ticket_length (same _ c.requires c.in_ok-test.ensures) in
    let short : length c.args.output.now < ticket_length c.args.self.now.setting = omega (arith, c.if-output-length.true, long) in
    rw c.from.ensures
    (refused _ _ _ _ _ (writing_of _ _ _ _ _ (output_short (ready _ c.requires c.in_ok-test.ensures c.in_ok-read.ensures) short))
    (λ z. omega arith))

pub write_ticket-requires : goal.write_ticket-requires
write_ticket-requires c =
    let long = c.length-length.ensures ∙ ap ticket_length (same _ c.requires c.in_ok-test.ensures) in
    record {
      writable = ready _ c.requires c.in_ok-test.ensures c.in_ok-read.ensures;
      half_is = c.requires;
      room = rw long at c.if-output-length.false;
    }

pub overflow_cast-result : goal.overflow_cast-result
overflow_cast-result c =
    let long = c.length-length.ensures ∙ ap ticket_length (same _ c.requires c.in_ok-test.ensures) in
    let few = counts (limits_of _ (holds _ c.requires c.in_ok-test.ensures)).sizes in
    omega (arith, long, length_most few, few)

pub returns : goal.returns
returns c =
    let same_is = same _ c.requires c.in_ok-test.ensures in
    let long = c.length-length.ensures ∙ ap ticket_length same_is in
    let answered : let G = c.args.self.now.setting in answer 0 (ticket_length G) 0 c.products.result ≡ written G =
    ap (answer 0 (ticket_length _) 0) (c.products.ensures ∙ ap sum_products same_is) in
    rw (long, answered)
    (all_written _ _ _ _ _ (ready _ c.requires c.in_ok-test.ensures c.in_ok-read.ensures) (rw long at c.if-output-length.false)
    c.write_ticket.ensures)
