use Rattle.std.proofs.Common.{◌∙◌, arith}
use Rattle.ticket.proofs.Laws.Answers.{reason_numbered}
use Rattle.challenge.proofs.Laws.Checks.{ticket_passes, check_ticket}
use Rattle.challenge.proofs.check.Goals as goal

pub returns-in-Err : goal.returns-in-Err
returns-in-Err c = c.from.ensures ∙ check_ticket _ _ _ c.in-Err.ensures (reason_numbered _)

pub overflow_add-setting : goal.overflow_add-setting
overflow_add-setting c = omega (arith, (ticket_passes c.in_default.ensures).counts)

pub overflow_mul-setting : goal.overflow_mul-setting
overflow_mul-setting c = omega (arith, (ticket_passes c.in_default.ensures).counts)

pub check_decoded-requires : goal.check_decoded-requires
check_decoded-requires c = record { passed = ticket_passes c.in_default.ensures; fits = omega arith }

pub check_decoded-requires-2 : goal.check_decoded-requires-2
check_decoded-requires-2 c =
    let passed = ticket_passes c.in_default.ensures in
    record { passed = passed; fits = omega (arith, passed.counts) }
