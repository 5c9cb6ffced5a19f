-- What rests on ChallengeStart.
--
--   start_decides       the check of the beginnings is that of the files
use Rattle.std.specs.Prelude.{ℕ, ◌<◌, ◌≡◌, List, take}
use Rattle.std.proofs.Common.{◌∙◌}
use Rattle.ticket.specs.Laws.Layout.{longest_ticket}
use Rattle.files.specs.Rules.{setting_bytes, file_check}
use Rattle.files.specs.Laws.Starts.{longest_challenge}
use Rattle.files.proofs.Laws.Starts.ChallengeStart.{challenge_start, setting_start, ticket_start}

pub start_decides : (s t c : List ℕ) (i j k : ℕ) → setting_bytes < i → longest_ticket < j → longest_challenge < k
    → file_check (take i s) (take j t) (take k c) ≡ file_check s t c
start_decides s t c i j k hs ht hc =
    setting_start s (take j t) (take k c) i hs ∙ ticket_start s t (take k c) j ht ∙ challenge_start s t c k hc
