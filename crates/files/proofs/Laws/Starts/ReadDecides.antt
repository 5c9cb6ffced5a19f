-- What rests on StartDecides.
--
--   read_decides        the check of what was read into buffers is that of the files
use Rattle.std.specs.Prelude.{ℕ, ◌≡◌, List, length, take}
use Rattle.std.proofs.Common.{◌∙◌}
use Rattle.ticket.specs.declared.Answer.{Answer}
use Rattle.files.specs.Rules.{file_check}
use Rattle.files.specs.Laws.Starts.{BuffersRoom, AnswerFor}
use Rattle.files.proofs.Laws.Starts.StartDecides.{start_decides}

pub read_decides : {setting ticket challenge : List ℕ} {i j k : ℕ} {a : Answer} → BuffersRoom setting i ticket j challenge k
    → a ≡ file_check (take i setting) (take j ticket) (take k challenge) → AnswerFor setting i ticket j challenge k a
read_decides {setting} {ticket} {challenge} room a-is s t c es et ec =
    a-is
    ∙ rw (es, et, ec) (start_decides s t c (length setting) (length ticket) (length challenge)
    room.setting_room.0 room.ticket_room.0 room.challenge_room.0)
