-- Products with a vector, as the code makes them from shifted factors.
--
--   terms b a x       the value of record a + j of b times number j of x, for each j
--   dot_of b a x       their sum over all numbers of x, modulo p
--   offset_of s x      what takes a shift s of the other factors off a sum of products with x
--   dot_with o l x     o plus the sum of the products of the numbers of l and x, modulo p
--   WordVector x      x has no more numbers than a row of a matrix, and they are of 32 bits
--   Widened x l l'    l' is the list l, of which the first numbers are those of x, of 32 bits
--   RecordsReady b a x   the records of b from a on can be multiplied with x
--   DotReady l x      so can the numbers of l
--   ProductReady b m x   b has m rows of records for x
--   rows_times b x k   row k of b times x
use Rattle.std.specs.Prelude.{ℕ, ◌+◌, ◌*◌, ◌%◌, ◌≤◌, ◌<◌, ◌^◌, List, length, get_or}
use Rattle.residue.specs.Rules.{modulus, sum}
use Rattle.algebra.specs.Laws.Fills.{Filled}
use Rattle.ticket.specs.Rules.{most_inner, record_bytes, value_at}
use Rattle.challenge.specs.Laws.Shifts.{taken_off}

abbrev pub terms : List ℕ → ℕ → List ℕ → ℕ → ℕ
terms bytes start x j = value_at bytes (start + j) * get_or x j 0

unfoldable pub dot_of : List ℕ → ℕ → List ℕ → ℕ
dot_of bytes start x = sum (length x) (terms bytes start x) % modulus

abbrev pub offset_of : ℕ → List ℕ → ℕ
offset_of shift x = taken_off modulus shift (length x) (λ j. get_or x j 0)

unfoldable pub dot_with : ℕ → List ℕ → List ℕ → ℕ
dot_with offset list x = (offset + sum (length x) (λ j. get_or list j 0 * get_or x j 0)) % modulus

pub record WordVector (x : List ℕ) : Type 0 where
  pub short : length x ≤ most_inner
  pub below : (j : ℕ) → j < length x → get_or x j 0 < 2 ^ 32

pub record Widened (x before list : List ℕ) : Type 0 where
  pub filled : Filled 0 before (length x) (λ j. get_or x j 0) list
  pub words : (j : ℕ) → j < length x → get_or x j 0 < 2 ^ 32

pub record RecordsReady (bytes : List ℕ) (start : ℕ) (x : List ℕ) : Type 0 where
  pub vector : WordVector x
  pub long : record_bytes * (start + length x) ≤ length bytes

pub record DotReady (list x : List ℕ) : Type 0 where
  pub vector : WordVector x
  pub long : length x ≤ length list

pub record NarrowFactors (list x : List ℕ) (offset : ℕ) : Type 0 where
  pub small : (j : ℕ) → j < length x → get_or list j 0 < 2 ^ 16
  pub offset_most : offset ≤ 2 ^ 62 + 2 ^ 31

pub record ProductReady (bytes : List ℕ) (rows : ℕ) (x : List ℕ) : Type 0 where
  pub vector : WordVector x
  pub long : record_bytes * (rows * length x) ≤ length bytes

abbrev pub rows_times : List ℕ → List ℕ → ℕ → ℕ
rows_times bytes x k = dot_of bytes (k * length x) x
