use Rattle.ticket.specs.Rules.{bias_within}
use Rattle.ticket.proofs.setting.Setting.bias_within.Goals as goal

pub returns : goal.returns
unfolding bias_within
returns c = rw c.largest_bias.ensures
