use Rattle.std.proofs.Common.{refl}
use Rattle.run.specs.Rules.{is_caught}
use Rattle.run.proofs.Run.is_caught.Goals as goal

pub returns : goal.returns
unfolding is_caught
returns c = refl
