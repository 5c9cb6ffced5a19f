-- The loop keeps the first records of the row in the output, and the first word of the next.
use Rattle.std.proofs.Common.{◌≡◌}
use Rattle.algebra.specs.Rules.{word}
use Rattle.writer.specs.Laws.Lines.{line_record}
use Rattle.writer.specs.Laws.Writes.{Among, Wrote}
use Rattle.writer.proofs.records.write_line.Given as goal

abbrev pub invariant-loop-column : goal.invariant-loop-column
invariant-loop-column l =
    (l.header ≡ word l.kind 0 l.row l.column)
    × Wrote (line_record l.kind l.row l.first l.entries) (Among l.first l.column) l.initial.output l.output
