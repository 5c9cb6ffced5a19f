-- The records of the claims, row by row, as the code writes them.
--
--   RowReady G h l C a s q r o   the sums s are those of a whole row, which has its bias in C from entry a on, and o has room for their
--                                claims, from records q and r on
--   RowOf G A B C i a s q r      s is the sums of row i of A, modulo 2^32, and a, q and r are where its bias and its claims begin
--   RowTo G C i a s q r n o o'   the first n claims of the row are written, whatever operands these are of
--   RowWrote G C i a s q r o o'  all are
--   Room G a b c               arrays of a, b and c numbers have room for a row of A, for the columns of B and for the sums of a row, and
--                              are not large
--   RowsReady G h A B C x Y s o   A and B are to be written, h is half of the quotients' range, and there is room for a row of A, for the
--                              columns of B, for sums and for the ticket
--   ClaimsWrote G A B C n o o'   the claims of the first n rows are written
use Rattle.std.specs.Prelude.{◌≡◌, ℕ, ◌+◌, ◌*◌, ◌^◌, ◌<◌, ◌≤◌, List, length, ℤ, slice_index}
use Rattle.residue.specs.Rules.{least_residue}
use Rattle.algebra.specs.Rules.{matrix_product}
use Rattle.ticket.specs.declared.setting.Setting.{Setting}
use Rattle.ticket.specs.Rules.{most_columns, record_bytes, ticket_length, half_range, start, of_quotients, of_remainders}
use Rattle.ticket.specs.Laws.Limits.{clamped}
use Rattle.writer.specs.Rules.{entry_of, ticket_record}
use Rattle.writer.specs.Laws.Answers.{Writable}
use Rattle.writer.specs.Laws.Claims.{Lifting}
use Rattle.writer.specs.Laws.Operands.{BiasReady}
use Rattle.writer.specs.Laws.Writes.{Wrote, Both}

pub record RowReady (G : Setting) (half lifting : ℕ) (C : List ℤ) (from : ℕ) (sums : List ℕ) (quotients remainders : ℕ) (output : List ℕ) : Type 0 where
  pub lifts : Lifting G half lifting
  pub bias : BiasReady C from G.columns
  pub long_sums : length sums ≡ G.columns
  pub few : G.columns ≤ most_columns
  pub room_quotients : record_bytes * (quotients + G.columns) ≤ length output
  pub room_remainders : record_bytes * (remainders + G.columns) ≤ length output

pub record RowOf (G : Setting) (A B C : List ℤ) (row from : ℕ) (sums : List ℕ) (quotients remainders : ℕ) : Type 0 where
  pub writable : Writable G A B C
  pub within : row < G.rows
  pub sums_are : (j : ℕ) → j < G.columns
      → slice_index sums j ≡ least_residue (2 ^ 32) (matrix_product G.inner (entry_of G.inner A) (entry_of G.columns B) row j)
  pub from_is : from ≡ row * G.columns
  pub quotients_at : quotients ≡ start G of_quotients + row * G.columns
  pub remainders_at : remainders ≡ start G of_remainders + row * G.columns

-- up to column n
abbrev pub RowTo : Setting → List ℤ → ℕ → ℕ → List ℕ → ℕ → ℕ → ℕ → List ℕ → List ℕ → Type 0
RowTo G C row from sums quotients remainders n before after =
    (A B : List ℤ) → RowOf G A B C row from sums quotients remainders → Wrote (ticket_record G A B C) (Both quotients remainders n) before after

pub record RowWrote (G : Setting) (C : List ℤ) (row from : ℕ) (sums : List ℕ) (quotients remainders : ℕ) (before after : List ℕ) : Type 0 where
  pub long : length after ≡ length before
  pub wrote : RowTo G C row from sums quotients remainders G.columns before after

pub record Room (G : Setting) (line columns sums : ℕ) : Type 0 where
  pub for_line : G.inner ≤ line
  pub for_columns : G.inner * G.columns ≤ columns
  pub for_sums : G.columns ≤ sums
  pub small : line + columns + sums < 2 ^ 32

pub record RowsReady (G : Setting) (half : ℕ) (A B C line columns : List ℤ) (sums output : List ℕ) : Type 0 where
  pub writable : Writable G A B C
  pub half_is : half ≡ half_range (clamped G)
  pub long_line : length line ≡ G.inner
  pub long_columns : length B ≤ length columns
  pub long_sums : length sums ≡ G.columns
  pub long_output : ticket_length G ≤ length output

abbrev pub ClaimsWrote : Setting → List ℤ → List ℤ → List ℤ → ℕ → List ℕ → List ℕ → Type 0
ClaimsWrote G A B C rows = Wrote (ticket_record G A B C) (Both (start G of_quotients) (start G of_remainders) (rows * G.columns))
