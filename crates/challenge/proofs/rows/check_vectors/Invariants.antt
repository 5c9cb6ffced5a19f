-- The loop keeps: all rows are balanced for the vectors before this one, and their products are counted. The lists keep their length.
use Rattle.ticket.specs.Rules.{answer}
use Rattle.ticket.specs.Laws.Runs.{RunTo}
use Rattle.challenge.specs.Laws.Sides.{RoomFor}
use Rattle.challenge.specs.Laws.Vectors.{vector_steps}
use Rattle.challenge.proofs.rows.check_vectors.Given as goal

abbrev pub invariant-loop-t : goal.invariant-loop-t
invariant-loop-t l = RoomFor l.case.setting l.x l.u × RunTo (vector_steps l.case.setting l.case.ticket.now l.case.list.now) l.t (answer 0 0 0 l.products)
