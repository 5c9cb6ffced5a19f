-- The operands, as the code tests and converts them.
--
--   within_at T x k    entry k of x is at most T in size
--   SmallEntries b x  the entries are numbers of at most b bits
--   column_of x n j k  entry k of column j of a matrix x of n columns
--   NarrowReady x n j l   x has such entries, and l has room for that column
--   TurnReady x m n l     x has m rows and n columns of such entries, and l has room for them all
--   BiasReady C a n   the bias C has n entries from entry a on, which comes early, or none at all
use Rattle.std.specs.Prelude.{◌≡◌, ℕ, ◌+◌, ◌*◌, ◌%◌, ◌^◌, ◌<◌, ◌≤◌, Bool, List, length, ℤ, pos, ◌≢◌, nat_le, slice_index_or, unsigned_abs}
use Rattle.residue.specs.Rules.{least_residue}
use Rattle.writer.specs.Rules.{entry_of}

abbrev pub within_at : ℕ → List ℤ → ℕ → Bool
within_at bound x k = nat_le (unsigned_abs (slice_index_or x k (pos 0))) bound

pub record SmallEntries (bits : ℕ) (x : List ℤ) : Type 0 where
  pub small : (k : ℕ) → k < length x → unsigned_abs (slice_index_or x k (pos 0)) < 2 ^ bits

abbrev pub column_of : List ℤ → ℕ → ℕ → ℕ → ℤ
column_of matrix width column k = entry_of width matrix k column

pub record NarrowReady (matrix : List ℤ) (width column : ℕ) (list : List ℤ) : Type 0 where
  pub entries : SmallEntries 15 matrix
  pub long : length matrix ≡ length list * width
  pub inside : column < width

pub record TurnReady (matrix : List ℤ) (height width : ℕ) (list : List ℤ) : Type 0 where
  pub entries : SmallEntries 15 matrix
  pub long : length matrix ≡ height * width
  pub room : width * height ≤ length list

pub record BiasReady (C : List ℤ) (start n : ℕ) : Type 0 where
  pub early : start + n < 2 ^ 16
  pub inside : (length C ≢ 0) → start + n ≤ length C

abbrev pub biased_word : List ℤ → ℕ → ℕ → ℕ
biased_word C k sum = (sum + least_residue (2 ^ 32) (slice_index_or C k (pos 0))) % 2 ^ 32
