use Rattle.quote.proofs.Laws.Widths.{TriedBelow}
use Rattle.quote.proofs.quote_of.Given as goal

abbrev pub invariant-loop-width : goal.invariant-loop-width
invariant-loop-width l = TriedBelow l.setting l.width
