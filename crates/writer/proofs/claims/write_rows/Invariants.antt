-- The loop keeps the claims of the rows before this one in the output, and where its row of A and its records begin.
use Rattle.writer.specs.Laws.Rows.{ClaimsWrote}
use Rattle.writer.proofs.Laws.Rows.{RowsAt}
use Rattle.writer.proofs.claims.write_rows.Given as goal

abbrev pub invariant-loop-row : goal.invariant-loop-row
invariant-loop-row l =
    RowsAt l.job.setting l.row l.from l.line l.sums l.quotients l.remainders
    × ClaimsWrote l.job.setting l.job.a.now l.job.b.now l.job.bias.now l.row l.initial.output l.output
