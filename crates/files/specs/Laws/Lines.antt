-- The line of an answer, field after field.
--
--   Put b k x r a    an output that held b holds a: from the place k on the text x, up to the place r, and elsewhere what it held
--   longest_field     the most bytes of a number of 32 bits and the byte after it
use Rattle.std.specs.Prelude.{ℕ, ◌+◌, ◌≤◌, ◌≡◌, List, ◌++◌, length, take, drop}

pub record Put (before : List ℕ) (at : ℕ) (text : List ℕ) (next : ℕ) (after : List ℕ) : Type 0 where
  pub place : next ≡ at + length text
  pub inside : next ≤ length before
  pub bytes : after ≡ take at before ++ (text ++ drop next before)

abbrev pub longest_field : ℕ
longest_field = 11
