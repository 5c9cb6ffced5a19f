use Rattle.ticket.specs.Rules.{bias_bound}
use Rattle.ticket.proofs.setting.Setting.largest_bias.Goals as goal

pub returns : goal.returns
unfolding bias_bound
returns c = c.unwrap_or.ensures
