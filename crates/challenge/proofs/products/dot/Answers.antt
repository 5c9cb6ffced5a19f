use Rattle.challenge.specs.Laws.Products.{dot_with}
use Rattle.challenge.proofs.Laws.Products.{reached_none, reached_all, reduced, narrow_total, narrow_more}
use Rattle.challenge.proofs.products.dot.Goals as goal

pub loop-i-init : goal.loop-i-init
unfolding dot_with
loop-i-init c = reached_none _ _

pub overflow_add-sum : goal.overflow_add-sum
unfolding dot_with
overflow_add-sum c = record { fits = rw c.from.ensures (search narrow_total) }

pub loop-i-preserved : goal.loop-i-preserved
unfolding dot_with
loop-i-preserved c = rw c.from.ensures (search narrow_more)

pub returns : goal.returns
unfolding dot_with
returns c = search (reduced, reached_all)
