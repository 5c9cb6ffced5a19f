-- The form that the code gives the tests of a part, and that they are the rule's.
--
--   entries_form κ m n T c   the form of m by n entries from -T to T, of kind κ, where c is the reason for one out of range
--   range_test F x        the value x is in the range of F
--   tested_at b F i r c   the number of record i of b by the form F, which stands in row r, column c
--   tested b F i         the same, the row and the column from i
--   part_answer F a b     the answer of the part that b begins with, of which the first record has the number a
--   Ranged F             the range of F is within p
--   Holds b F            b begins with the part of form F, which is not large, and its range is within p
use Rattle.std.specs.Prelude.{ℕ, ◌+◌, ◌*◌, ◌/◌, ◌%◌, ◌^◌, ◌<◌, ◌≤◌, Bool, List, [], ◌∷◌, length, nat_lt}
use Rattle.residue.specs.Rules.{modulus}
use Rattle.ticket.specs.declared.refusals.Reason.{Reason}
use Rattle.ticket.specs.Rules.{Test, test, reason_number, first_failed, record_bytes, formed, value_at, first_refusal}
use Rattle.ticket.specs.declared.Answer.{Answer}
use Rattle.ticket.specs.declared.records.Form.{Form}

abbrev pub entries_form : ℕ → ℕ → ℕ → ℕ → Reason → Form
entries_form kind rows columns bound outside =
    record { kind = kind; rows = rows; columns = columns; shift = bound; limit = 2 * bound + 1; outside = outside }

-- the tests of record i, in order
abbrev pub range_test : Form → ℕ → Bool
range_test F value = nat_lt ((value + F.shift) % modulus) F.limit

abbrev pub tests_at : List ℕ → Form → ℕ → ℕ → ℕ → List Test
tests_at bytes F i row column =
    test (formed bytes i F.kind row column) 5
    ∷ test (nat_lt (value_at bytes i) modulus) 6
    ∷ test (range_test F (value_at bytes i)) (reason_number F.outside)
    ∷ []

unfoldable pub tested_at : List ℕ → Form → ℕ → ℕ → ℕ → ℕ
tested_at bytes F i row column = first_failed (tests_at bytes F i row column)

abbrev pub tested : List ℕ → Form → ℕ → ℕ
tested bytes F i = tested_at bytes F i (i / F.columns) (i % F.columns)

abbrev pub part_answer : Form → ℕ → List ℕ → Answer
part_answer F from bytes = first_refusal from (F.rows * F.columns) (tested bytes F)

pub record Ranged (F : Form) : Type 0 where
  pub shift : F.shift ≤ F.limit
  pub limit : F.limit ≤ modulus

pub record Holds (bytes : List ℕ) (F : Form) : Type 0 where
  pub columns : 1 ≤ F.columns
  pub few : F.rows * F.columns < 2 ^ 16
  pub long : record_bytes * (F.rows * F.columns) ≤ length bytes
  pub range : Ranged F
