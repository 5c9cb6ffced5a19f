use Rattle.std.proofs.Common.{◌∙◌}
use Rattle.ticket.proofs.Laws.Forms.{slice_long, last_word}
use Rattle.ticket.proofs.parts.value_at.Goals as goal

pub returns : goal.returns
returns c = c.value.ensures ∙ rw (slice_long c.args.records.now c.args.i c.requires, last_word c.args.records.now c.args.i)
