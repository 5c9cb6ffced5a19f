use Rattle.ticket.proofs.Laws.Layout.{bytes_cut}
use Rattle.ticket.proofs.parts.part.Goals as goal

pub returns : goal.returns
returns c = rw (c.min-from.ensures, c.min-end.ensures, c.start.ensures, c.size.ensures) (bytes_cut _ _ _)
