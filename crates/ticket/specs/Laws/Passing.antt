-- The tests of a record as the code makes them without a branch: a value is in range where it is none of some numbers.
--
--   passing_at b F k r c   record k of b passes all its tests, standing in row r, column c
--   passing b F k         the same, the row and the column from k
use Rattle.std.specs.Prelude.{ℕ, ◌+◌, ◌/◌, ◌%◌, Bool, ◌&&◌, List, nat_lt}
use Rattle.residue.specs.Rules.{modulus}
use Rattle.ticket.specs.Rules.{formed, value_at}
use Rattle.ticket.specs.Laws.Forms.{range_test}
use Rattle.ticket.specs.declared.records.Form.{Form}

unfoldable pub passing_at : List ℕ → Form → ℕ → ℕ → ℕ → Bool
passing_at b F k row column = formed b k F.kind row column && nat_lt (value_at b k) modulus && range_test F (value_at b k)

abbrev pub passing : List ℕ → Form → ℕ → Bool
passing b F k = passing_at b F k (k / F.columns) (k % F.columns)

abbrev pub row_passing : List ℕ → Form → ℕ → ℕ → ℕ → Bool
row_passing b F start row column = passing_at b F (start + column) row column
