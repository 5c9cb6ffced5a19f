-- The loop keeps: the rows before this one agree, and their products are counted.
use Rattle.ticket.specs.Rules.{answer}
use Rattle.ticket.specs.Laws.Runs.{RunTo}
use Rattle.challenge.specs.Laws.Rows.{row_steps}
use Rattle.challenge.proofs.rows.check_rows.Given as goal

abbrev pub invariant-loop-row : goal.invariant-loop-row
invariant-loop-row l = RunTo (row_steps l.fn.setting l.fn.decoded.a.now l.fn.decoded.w.now l.fn.vector l.fn.products) l.row (answer 0 0 0 l.made)
