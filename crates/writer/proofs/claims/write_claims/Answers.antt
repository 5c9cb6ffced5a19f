use Rattle.std.proofs.Common.{arith}
use Rattle.writer.proofs.Laws.Rows.{tiny_room, most_room, most_entries}
use Rattle.writer.proofs.claims.write_claims.Goals as goal

pub write_within-requires : goal.write_within-requires
write_within-requires c = (c.requires, tiny_room c.requires.writable c.if-job-le-TINY.true (omega arith))

pub write_within-requires-then-job-le-SMALL : goal.write_within-requires-then-job-le-SMALL
write_within-requires-then-job-le-SMALL c = (c.requires, most_room c.requires.writable c.if-job-le-SMALL.true (omega arith))

pub write_within-requires-else-job-le-SMALL : goal.write_within-requires-else-job-le-SMALL
write_within-requires-else-job-le-SMALL c =
    let w = c.requires.writable in (c.requires, most_room w (most_entries w) (omega arith))
