-- Matrices of 16-bit numbers as lists: turned, and multiplied.
--
--   place_before h w i      which number of a matrix of h rows and w columns is number i of the turned one
--   turned_number M h w i   number i of the turned matrix M
--   Turned M h w b l       l is the list b with the matrix, turned, at its beginning; or b where one of the two is too short
--   TurnedTo M h w n b l   l is the list b with the first n numbers of the matrix, row by row, at their places in the turned one
--   TurnedFurther M h w m n b l   where the list b has the first m numbers at their places, l is b with the first n: what a row does
--   RowSums r C b s        s is the list b with the products of the row r with the columns in C at its beginning
use Rattle.std.specs.Prelude.{◌≡◌, ℕ, ◌+◌, ◌*◌, ◌/◌, ◌%◌, ◌<◌, ◌≤◌, ◌⊎◌, List, length, ℤ, pos, slice_index, slice_index_or}
use Rattle.algebra.specs.Laws.Fills.{Filled, line_at}
use Rattle.exact.specs.Rules.{dot_product}

abbrev pub place_before : ℕ → ℕ → ℕ → ℕ
place_before height width i = i % height * width + i / height

abbrev pub turned_number : List ℤ → ℕ → ℕ → ℕ → ℤ
turned_number matrix height width i = slice_index_or matrix (place_before height width i) (pos 0)

pub record Turned (matrix : List ℤ) (height width : ℕ) (before list : List ℤ) : Type 0 where
  pub turned : height * width ≤ length matrix → height * width ≤ length before
      → Filled (pos 0) before (height * width) (turned_number matrix height width) list
  pub kept : (length matrix < height * width) ⊎ (length before < height * width) → list ≡ before

pub record RowSums (row columns : List ℤ) (before sums : List ℕ) : Type 0 where
  pub long : length sums ≡ length before
  pub each : (j : ℕ) → j < length before → j * length row + length row ≤ length columns
      → slice_index sums j ≡ dot_product row (line_at columns (length row) j)
  pub rest : (j : ℕ) → length columns < j * length row + length row → slice_index sums j ≡ slice_index before j

pub record TurnedTo (matrix : List ℤ) (height width done : ℕ) (before list : List ℤ) : Type 0 where
  pub long : length list ≡ length before
  pub each : (i : ℕ) → i < height * width → place_before height width i < done → slice_index_or list i (pos 0) ≡ turned_number matrix height width i
  pub rest : (i : ℕ) → (height * width ≤ i) ⊎ (done ≤ place_before height width i) → slice_index_or list i (pos 0) ≡ slice_index_or before i (pos 0)

pub record TurnedFurther (matrix : List ℤ) (height width m n : ℕ) (before list : List ℤ) : Type 0 where
  pub long : length list ≡ length before
  pub turned : {first : List ℤ} → TurnedTo matrix height width m first before → TurnedTo matrix height width n first list
