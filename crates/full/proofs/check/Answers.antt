use Rattle.std.proofs.Common.{refl, ◌∙◌}
use Rattle.ticket.proofs.Laws.Answers.{reason_numbered}
use Rattle.full.proofs.Laws.Checks.{check_refused, check_passed, check_compared}
use Rattle.full.proofs.check.Goals as goal

pub check_claims-requires : goal.check_claims-requires
check_claims-requires c = check_passed _ _ c.in-Ok.ensures refl

pub returns-in-Ok : goal.returns-in-Ok
returns-in-Ok c = check_compared _ _ c.in-Ok.ensures refl c.check_claims.ensures

pub returns-in-Err : goal.returns-in-Err
returns-in-Err c = c.from.ensures ∙ check_refused _ _ c.in-Err.ensures (reason_numbered _)
