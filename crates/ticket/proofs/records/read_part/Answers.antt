use Rattle.std.proofs.Common.{◌∙◌}
use Rattle.ticket.proofs.Laws.Parts.{part_empty}
use Rattle.ticket.proofs.Laws.Passing.{passed_part}
use Rattle.ticket.proofs.records.read_part.Goals as goal

pub returns-then-form-eq0 : goal.returns-then-form-eq0
returns-then-form-eq0 c = part_empty _ _ _ c.if-form-eq0.true

pub returns-then-passes : goal.returns-then-passes
returns-then-passes c = passed_part _ c.args.form c.args.start c.passes.ensures c.if-passes.true ∙ rw c.size.ensures

pub returns : goal.returns
returns c = c.first_refusal.ensures ∙ rw c.size.ensures
