-- The loop keeps in `all` whether the first k sums are what is claimed for them.
use Rattle.std.proofs.Common.{◌≡◌}
use Rattle.ticket.specs.Laws.All.{all}
use Rattle.full.specs.Laws.Sums.{claimed_for}
use Rattle.full.proofs.claims.all_agree.Given as goal

abbrev pub invariant-loop-k : goal.invariant-loop-k
invariant-loop-k l = l.all ≡ all l.k (claimed_for l.sums l.claims l.lift)
