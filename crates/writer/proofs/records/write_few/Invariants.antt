-- The loop keeps the records of the entries before k in the output, and the row and the column of entry k.
use Rattle.std.proofs.Common.{◌≡◌, ◌<◌, length}
use Rattle.algebra.proofs.Laws.Positions.{Position}
use Rattle.writer.specs.Laws.Lines.{OperandTo}
use Rattle.writer.proofs.records.write_few.Given as goal

abbrev pub invariant-loop-k : goal.invariant-loop-k
invariant-loop-k l =
    (l.k < length l.operand → Position l.width l.k l.row l.column) × (length l.output ≡ length l.initial.output)
    × OperandTo l.kind l.width l.start l.operand l.k l.initial.output l.output
