use Rattle.std.proofs.Common.{arith}
use Rattle.writer.proofs.Laws.Entries.{limits}
use Rattle.writer.proofs.Laws.Tickets.{ready_a, ready_b, ready_c, ticket_wrote}
use Rattle.writer.proofs.Job.write_ticket.Goals as goal

pub overflow_cast-height : goal.overflow_cast-height
overflow_cast-height c = omega (arith, (limits c.requires.writable).sizes.rows)

pub overflow_cast-inner : goal.overflow_cast-inner
overflow_cast-inner c = omega (arith, (limits c.requires.writable).sizes.inner)

pub write_operand-requires : goal.write_operand-requires
write_operand-requires c = rw c.from.ensures (ready_a c.requires.writable (omega (arith, c.write_claims.ensures.long, c.requires.room)))

pub write_operand-requires-2 : goal.write_operand-requires-2
write_operand-requires-2 c =
    ready_b c.requires.writable (omega (arith, c.write_operand.ensures.long, c.write_claims.ensures.long, c.requires.room))

pub write_operand-requires-3 : goal.write_operand-requires-3
write_operand-requires-3 c =
    rw c.bias_columns-width.ensures
    (ready_c c.requires.writable
    (omega (arith, c.write_operand-2.ensures.long, c.write_operand.ensures.long, c.write_claims.ensures.long, c.requires.room)))

pub returns : goal.returns
returns c =
    ticket_wrote c.requires.writable c.requires.room c.write_claims.ensures (rw c.from.ensures at c.write_operand.ensures)
    c.write_operand-2.ensures (rw c.bias_columns-width.ensures at c.write_operand-3.ensures)
