-- What a ticket that passes the reading and range checks gives.
--
--   Passed G t       setting and ticket pass, taken apart
use Rattle.std.specs.Prelude.{◌≡◌, ℕ, ◌<◌, List, length}
use Rattle.ticket.specs.declared.setting.Setting.{Setting}
use Rattle.ticket.specs.Rules.{setting_tests, ticket_length, records, record_tests}
use Rattle.ticket.specs.Laws.Tests.{AllHold}
use Rattle.ticket.specs.Laws.Limits.{Counts, Numbers, Fitted}

pub record Passed (G : Setting) (t : List ℕ) : Type 0 where
  pub setting : AllHold (setting_tests G)
  pub counts : Counts G
  pub numbers : Numbers G
  pub fitted : Fitted G
  pub long : length t ≡ ticket_length G
  pub each : (k : ℕ) → k < records G → AllHold (record_tests G t k)
