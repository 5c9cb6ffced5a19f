-- A sum of products, as the code reads its numbers and adds it up.
--
--   Summed x y s a n r   r is the number s with n products added, from number a of both lists on, modulo 2^32
use Rattle.std.specs.Prelude.{◌≡◌, ℕ, ◌+◌, ◌^◌, List, ℤ, pos, ◌+ℤ◌, ◌*ℤ◌, slice_index_or}
use Rattle.residue.specs.Rules.{least_residue}
use Rattle.algebra.specs.Rules.{int_sum}

-- product k of the two lists
abbrev pub term : List ℤ → List ℤ → ℕ → ℤ
term x y k = slice_index_or x k (pos 0) *ℤ slice_index_or y k (pos 0)

pub record Summed (x y : List ℤ) (before start n sum : ℕ) : Type 0 where
  pub is : sum ≡ least_residue (2 ^ 32) (pos before +ℤ int_sum n (λ k. term x y (start + k)))
