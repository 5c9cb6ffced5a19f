-- The list in a challenge file, as the code reads it.
--
--   most_numbers      the most numbers that a list has
--   NoList c         c is not the bytes of k numbers, for any k up to most_numbers
--   ListOf c l       l is the numbers of c, which has no bytes beside them
use Rattle.std.specs.Prelude.{ℕ, ◌*◌, ◌≤◌, ◌≡◌, List, length}
use Rattle.ticket.specs.Rules.{most_columns, most_vectors}
use Rattle.files.specs.Rules.{number_bytes, numbers_of}

abbrev pub most_numbers : ℕ
most_numbers = most_vectors * most_columns

abbrev pub NoList : List ℕ → Type 0
NoList c = (k : ℕ) → k ≤ most_numbers → length c ≡ number_bytes * k → ⊥

pub record ListOf (c list : List ℕ) : Type 0 where
  pub exact : length c ≡ number_bytes * length list
  pub numbers : list ≡ numbers_of c
