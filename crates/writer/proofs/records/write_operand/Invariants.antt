-- The loop keeps the records of the rows before this one in the output, and in `first` where it begins.
use Rattle.std.proofs.Common.{◌≡◌, ◌*◌, length}
use Rattle.writer.specs.Laws.Lines.{OperandTo}
use Rattle.writer.proofs.records.write_operand.Given as goal

abbrev pub invariant-loop-row : goal.invariant-loop-row
invariant-loop-row l =
    (l.first ≡ l.row * l.width) × (length l.output ≡ length l.initial.output)
    × OperandTo l.kind l.width l.start l.operand l.first l.initial.output l.output
