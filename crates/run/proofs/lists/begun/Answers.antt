use Rattle.run.proofs.Laws.Additions.{begun_made}
use Rattle.run.proofs.lists.begun.Goals as goal

pub returns : goal.returns
returns c = begun_made _ _ c.put.ensures c.zeros.ensures
