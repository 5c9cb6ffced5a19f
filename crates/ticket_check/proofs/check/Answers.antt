use Rattle.files.proofs.Laws.Starts.ReadDecides.{read_decides}
use Rattle.ticket_check.proofs.check.Goals as goal

pub returns : goal.returns
returns g c = read_decides c.requires (cc)
