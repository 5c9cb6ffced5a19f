-- The loop keeps that the sums of the rows before this one agree with their claims, with the products so far.
use Rattle.std.proofs.Common.{◌≡◌, ◌*◌, length}
use Rattle.ticket.specs.Rules.{answer}
use Rattle.ticket.specs.Laws.Runs.{RunTo}
use Rattle.full.specs.Laws.Sums.{steps}
use Rattle.full.proofs.claims.Decoded.compare.Given as goal

abbrev pub invariant-loop-row : goal.invariant-loop-row
invariant-loop-row l =
    (length l.sums ≡ length l.initial.sums) × RunTo (steps l.self) (l.row * l.self.setting.columns) (answer 0 0 0 l.products)
