-- Rows and columns of a matrix, as a loop counts them beside the number of an element.
--
--   Position n i r c   element i of a matrix of n columns is in row r, column c
--   position_none      the first element
--   position_of        the element in a row and a column
--   position_next, position_row   the element after one: in the same row, or at the beginning of the next
--   position_within    an element of the matrix is in one of its rows
--   row_of, column_of  row and column by division
--   row_inside         a row ends before the matrix does
--   by_rows            what holds of each row and column holds of each element
use Rattle.std.specs.Prelude.{ℕ, ◌+◌, ◌*◌, ◌/◌, ◌%◌, ◌≤◌, ◌<◌, ◌≡◌}
use Rattle.std.proofs.Math.Decide.{dec_le}
use Rattle.std.proofs.Common.{mul-le-mul_right, div-add-mod', div-lt_iff_lt-mul, mod-lt, arith, sym, ap, ◌∙◌}
use Rattle.std.proofs.Math.Arith.{digits_div, digits_mod}
use Rattle.residue.proofs.Laws.Modulo.{factor_positive}

pub record Position (columns i row column : ℕ) : Type 0 where
  pub place : row * columns + column ≡ i
  pub inside : column < columns
  pub row_small : row ≤ i

pub position_none : {columns : ℕ} → 1 ≤ columns → Position columns 0 0 0
position_none h = record { place = omega arith; inside = omega arith; row_small = omega arith }

pub position_of : {columns column : ℕ} (row : ℕ) → column < columns → Position columns (row * columns + column) row column
position_of {columns} row l =
    let least : 1 ≤ columns = omega arith in
    record { place = omega arith; inside = l; row_small = omega (arith, mul-le-mul_right row least) }

module _ {columns i row column : ℕ} (at : Position columns i row column) where
  pub row_of : i / columns ≡ row
  row_of = ap (λ n. n / columns) (sym at.place) ∙ digits_div row at.inside

  pub column_of : i % columns ≡ column
  column_of = ap (λ n. n % columns) (sym at.place) ∙ digits_mod row at.inside

  pub position_within : {rows : ℕ} → i < rows * columns → row < rows
  position_within {rows} l =
      elim (dec_le rows row) [
        | yes le ↦ absurd (omega (arith, mul-le-mul_right columns le, at.place))
        | no lt ↦ omega arith
      ]

  pub position_next : (column + 1 ≡ columns → ⊥) → Position columns (i + 1) row (column + 1)
  position_next d = record { place = omega arith; inside = omega arith; row_small = omega arith }

  pub position_row : column + 1 ≡ columns → Position columns (i + 1) (row + 1) 0
  position_row e = record { place = omega (arith, at.place); inside = omega arith; row_small = omega arith }

pub row_inside : {rows k : ℕ} (n : ℕ) → k < rows → k * n + n ≤ rows * n
row_inside {rows} {k} n l = omega (arith, mul-le-mul_right n l)

pub by_rows : (Q : ℕ → Type 0) {rows : ℕ} (columns : ℕ) → ((i j : ℕ) → i < rows → j < columns → Q (i * columns + j))
    → (k : ℕ) → k < rows * columns → Q k
by_rows Q {rows} columns h k l =
    let wide = factor_positive rows columns k l in
    rw (div-add-mod' k columns) at (h (k / columns) (k % columns) ((div-lt_iff_lt-mul wide).1 l) (mod-lt k wide))
