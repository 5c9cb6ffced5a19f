-- The beginnings of the three files decide: a file that is longer than any setting asks for is refused, however much of it is read,
-- if that is one byte more than the longest.
--
--   longest_challenge    the most bytes of a challenge file
--   Begins b n f        the first n bytes of the buffer b are those of the file f, as many as it has and the buffer holds
--   BufferRoom m b n    the buffer b has room for more than m bytes, and for n
--   BuffersRoom ..      so have the three buffers, for more bytes than any setting asks for
--   AnswerFor .. a      a is the answer for all files that begin as the buffers do
use Rattle.std.specs.Prelude.{ℕ, ◌*◌, ◌<◌, ◌≡◌, List, length, take}
use Rattle.ticket.specs.declared.Answer.{Answer}
use Rattle.ticket.specs.Laws.Layout.{longest_ticket}
use Rattle.files.specs.Rules.{setting_bytes, number_bytes, file_check}
use Rattle.files.specs.Laws.Prefixes.{Leads}
use Rattle.files.specs.Laws.Numbers.{most_numbers}

abbrev pub longest_challenge : ℕ
longest_challenge = number_bytes * most_numbers

abbrev pub Begins : List ℕ → ℕ → List ℕ → Type 0
Begins buffer n file = take n buffer ≡ take (length buffer) file

abbrev pub BufferRoom : ℕ → List ℕ → ℕ → Type 0
BufferRoom most buffer n = (most < length buffer) × Leads n buffer

pub record BuffersRoom (setting : List ℕ) (i : ℕ) (ticket : List ℕ) (j : ℕ) (challenge : List ℕ) (k : ℕ) : Type 0 where
  pub setting_room : BufferRoom setting_bytes setting i
  pub ticket_room : BufferRoom longest_ticket ticket j
  pub challenge_room : BufferRoom longest_challenge challenge k

abbrev pub AnswerFor : List ℕ → ℕ → List ℕ → ℕ → List ℕ → ℕ → Answer → Type 0
AnswerFor setting i ticket j challenge k a =
    (s t c : List ℕ) → Begins setting i s → Begins ticket j t → Begins challenge k c → a ≡ file_check s t c
