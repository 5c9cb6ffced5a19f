-- The loop keeps in `all` whether the numbers before this one are from 1 to p - 1.
use Rattle.std.proofs.Common.{◌≡◌}
use Rattle.ticket.specs.Laws.All.{all}
use Rattle.challenge.specs.Laws.Lists.{nonzero_residue}
use Rattle.challenge.proofs.lists.nonzero_residues.Given as goal

abbrev pub invariant-loop-number : goal.invariant-loop-number
invariant-loop-number l = l.all ≡ all l.number-index (nonzero_residue l.list)
