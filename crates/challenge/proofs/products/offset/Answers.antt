use Rattle.challenge.proofs.Laws.Products.{reached_none, reached_more, total_fits, offset_made}
use Rattle.challenge.proofs.products.offset.Goals as goal

pub loop-number-init : goal.loop-number-init
loop-number-init c = reached_none 0 _

pub overflow_add-sum : goal.overflow_add-sum
overflow_add-sum c = record { fits = search total_fits }

pub loop-number-preserved : goal.loop-number-preserved
loop-number-preserved c = search reached_more

pub returns : goal.returns
returns c = rw (c.from.ensures, c.from-2.ensures) (search offset_made)
