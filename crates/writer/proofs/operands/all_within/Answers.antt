use Rattle.std.proofs.Common.{leb, ap, rules}
use Rattle.ticket.proofs.Laws.All.{all_none, all_next}
use Rattle.writer.proofs.Laws.Operands.{size_read}
use Rattle.writer.proofs.operands.all_within.Goals as goal

pub loop-entry-init : goal.loop-entry-init
loop-entry-init c = all_none _

pub loop-entry-preserved : goal.loop-entry-preserved
loop-entry-preserved c =
    let size = size_read c.args.operand.now c.loop-entry.entry-index (search rules) c.unsigned_abs.ensures.value in
    all_next c.loop-entry.entry-index _ c.loop-entry.invariant (ap (λ n. leb n c.args.bound) size)
