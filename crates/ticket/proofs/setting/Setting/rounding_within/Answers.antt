use Rattle.std.proofs.Common.{rules}
use Rattle.ticket.specs.Rules.{rounding_within}
use Rattle.ticket.proofs.setting.Setting.rounding_within.Goals as goal

pub returns : goal.returns
unfolding rounding_within
returns c = search rules
