use Rattle.std.proofs.Common.{rules}
use Rattle.run.specs.Rules.{is_past}
use Rattle.run.proofs.Run.is_past.Goals as goal

pub returns-then-self : goal.returns-then-self
unfolding is_past
returns-then-self c = search rules

pub returns-else-self : goal.returns-else-self
unfolding is_past
returns-else-self c = search rules
