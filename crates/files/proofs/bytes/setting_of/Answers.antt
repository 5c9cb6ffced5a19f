use Rattle.files.specs.Rules.{setting_of}
use Rattle.files.proofs.bytes.setting_of.Goals as goal

pub returns : goal.returns
unfolding setting_of
returns c = cc
