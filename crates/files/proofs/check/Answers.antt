use native.Mathlib.Omega.{arith}
use Rattle.files.proofs.Laws.Checks.{setting_file_refused, list_checked, none_checked}
use Rattle.files.proofs.check.Goals as goal

pub returns-then-setting-ne-SETTING_BYTES : goal.returns-then-setting-ne-SETTING_BYTES
returns-then-setting-ne-SETTING_BYTES c = rw (c.into.ensures, c.from.ensures) (search setting_file_refused)

pub returns-in-Some : goal.returns-in-Some
returns-in-Some c = cc (list_checked c.args.setting.now _ _ (omega arith) _ c.in-Some.ensures)

pub returns-in-None : goal.returns-in-None
returns-in-None c = cc (none_checked c.args.setting.now _ _ (omega arith) c.in-None.ensures)
