-- What rests on BiasSmall.
use Rattle.std.specs.Prelude.{ℕ}
use Rattle.std.proofs.Common.{subst, ⊎_elim}
use Rattle.ticket.specs.declared.setting.Setting.{Setting}
use Rattle.ticket.specs.Rules.{test, numbers_within, fits, limit_tests, setting_tests}
use Rattle.ticket.proofs.Laws.Tests.{Failed, failed_split}
use Rattle.ticket.proofs.Laws.Limits.BiasSmall.{limit_row, fit_row, SettingRow, limit_in_table}

pub setting_in_table : (G : Setting) {c : ℕ} → Failed (setting_tests G) c → SettingRow G c
unfolding setting_tests
setting_in_table G f =
    ⊎_elim (λ g. limit_row (limit_in_table G (numbers_within G) g)) (λ g. subst (SettingRow G) g.2 fit_row)
    (failed_split (test (fits G) 3) (limit_tests G (numbers_within G)) f)
