use borrow.Author.Rules.{rules}
use Rattle.std.proofs.Common.{ap, ◌∙◌}
use Rattle.run.specs.Rules.{standing, tested}
use Rattle.run.proofs.Laws.Additions.{row_held}
use Rattle.run.proofs.Laws.States.{step_sizes, step_made}
use Rattle.run.proofs.Run.step.Goals as goal

pub answered-requires : goal.answered-requires
answered-requires c =
    let row = row_held c.args.self (search rules) c.from.ensures c.held.ensures _ _ _ _ (rw c.due.ensures at c.check_one_row-made.ensures) in
    rw c.proceeded-self.ensures (step_sizes _ _ row)

pub returns : goal.returns
returns c =
    let row = row_held c.args.self (search rules) c.from.ensures c.held.ensures _ _ _ _ (rw c.due.ensures at c.check_one_row-made.ensures) in
    step_made _ _ row (c.answered.ensures ∙ ap (λ S. tested S c.check_one_row-made.result.tested (standing S)) c.proceeded-self.ensures)
