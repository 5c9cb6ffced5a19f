use Rattle.std.proofs.Common.{le-leb}
use Rattle.ticket.specs.Rules.{value_at}
use Rattle.ticket.proofs.parts.value.Goals as goal

pub returns : goal.returns
unfolding value_at
returns c = rw (le-leb _ _ c.if-bytes-lt-RECORD.false) c.word.ensures
