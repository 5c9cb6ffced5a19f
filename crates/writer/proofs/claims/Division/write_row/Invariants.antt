-- The loop keeps the first claims of the row in the output, and the first words of the next two records.
use Rattle.std.proofs.Common.{◌≡◌, length}
use Rattle.algebra.specs.Rules.{word}
use Rattle.writer.specs.Laws.Rows.{RowTo}
use Rattle.writer.proofs.claims.Division.write_row.Given as goal

abbrev pub invariant-loop-column : goal.invariant-loop-column
invariant-loop-column l =
    (length l.output ≡ length l.initial.output) × (l.quotient ≡ word 3 0 l.row l.column) × (l.remainder ≡ word 4 0 l.row l.column)
    × RowTo l.self.setting l.bias l.row l.start l.sums l.quotients l.remainders l.column l.initial.output l.output
