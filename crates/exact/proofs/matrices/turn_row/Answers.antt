use Rattle.std.proofs.Common.{rules, arith, to_z-of_z}
use Rattle.exact.proofs.Laws.Matrices.{turned_further}
use Rattle.exact.proofs.matrices.turn_row.Goals as goal

pub loop-column-preserved : goal.loop-column-preserved
loop-column-preserved c = turned_further c.requires.0 (omega arith) c.requires.2 (omega arith) c.loop-column.invariant (search (rules, to_z-of_z))
