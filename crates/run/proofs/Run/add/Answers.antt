use Rattle.std.proofs.Common.{refl, sym, ap, ◌∙◌}
use Rattle.ticket.proofs.Laws.Answers.{passed_zero, reason_numbered}
use Rattle.run.specs.Rules.{standing}
use Rattle.run.proofs.Laws.Additions.{addition_passed, lengthened_sizes}
use Rattle.run.proofs.Laws.States.{tested_refused, tested_passed}
use Rattle.run.proofs.Run.add.Goals as goal

pub lengthened-self-requires : goal.lengthened-self-requires
lengthened-self-requires c = addition_passed _ _ (passed_zero c.in_default.ensures)

pub answered-requires-2 : goal.answered-requires-2
answered-requires-2 c = λ z. rw c.lengthened-self.ensures (lengthened_sizes (addition_passed _ _ (passed_zero c.in_default.ensures)))

pub returns : goal.returns
returns c = tested_passed _ c.in_default.ensures refl (c.answered-2.ensures ∙ sym (tested_passed _ refl refl refl) ∙ ap standing c.lengthened-self.ensures)

pub returns-in-Err : goal.returns-in-Err
returns-in-Err c =
    let fails = reason_numbered _ in
    tested_refused _ c.in-Err.ensures _ fails (rw c.from.ensures at c.answered.ensures ∙ sym (tested_refused _ refl _ fails refl))
