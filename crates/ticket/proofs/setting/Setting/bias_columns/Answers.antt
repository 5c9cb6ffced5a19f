use Rattle.std.proofs.Common.{sym}
use Rattle.ticket.specs.Rules.{has_bias, bias_columns}
use Rattle.ticket.proofs.setting.Setting.bias_columns.Goals as goal

pub returns-in-Some : goal.returns-in-Some
unfolding has_bias bias_columns
returns-in-Some c = rw c.in-Some.is

pub returns-in-None : goal.returns-in-None
unfolding has_bias bias_columns
returns-in-None c = rw c.in-None.is
