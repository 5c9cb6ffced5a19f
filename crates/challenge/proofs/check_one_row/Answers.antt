use Rattle.std.proofs.Common.{refl, inl, inr, ⊎_elim}
use Rattle.ticket.proofs.Laws.Answers.{reason_numbered}
use Rattle.challenge.proofs.Laws.Single.{row_ready, row_checked, row_refused, row_beyond}
use Rattle.challenge.proofs.check_one_row.Goals as goal

pub returns-in-Err : goal.returns-in-Err
returns-in-Err c = row_refused _ _ _ _ _ c.in-Err.ensures _ (reason_numbered _) (rw (← c.from.ensures) c.no_row.ensures)

pub returns-then-setting-t : goal.returns-then-setting-t
returns-then-setting-t c =
    row_beyond _ _ _ _ _ c.in_default.ensures _ (⊎_elim inl (λ h. inr h.1) c.then-setting-t.either) c.no_row-then-setting-t.ensures

pub row_of-requires : goal.row_of-requires
row_of-requires c = row_ready _ _ _ _ _ c.in_default.ensures refl c.if-setting-t.false c.if-setting-row.false

pub returns : goal.returns
returns c = row_checked _ _ _ _ _ c.in_default.ensures refl c.if-setting-t.false c.if-setting-row.false _ c.row_of.ensures
