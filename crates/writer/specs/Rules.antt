-- The ticket writer (tests 1 to 3, 13 to 15 and 17 to 19): the rules. They are all that a reader has to believe beside those of the
-- crates below; nothing is proved here. G is a setting, A and B the operands and C the bias, each row by row (C is empty where there
-- is none), b the bytes of the output.
--
--   joined n f            f 0, then f 1, .., then f (n - 1): n lists, one after the other
--   beyond_number T c x k  c where number k of x is beyond the bound T, else 0
--   operands_reading G A B C   the answer of the tests 13, 14 and 18; its number is 0 where they pass
--   written G             the answer where the ticket is written
--   writing G A B C s       the answer of the writer, for an output of s bytes
--   entry_of n X i j       the number in row i, column j of a matrix X of n columns
--   sum_for G A B C i j    what the claim there is made for: the exact sum S of row i of A times column j of B, and the bias c
--   quotient_of, remainder_of G A B C i j   what is divided for it, over the scale, rounded down, and what is left
--   integers_of G A B C      the integers that the parts of the ticket stand for, in the order of the parts
--   integer_in G A B C w i j   that in row i, column j of part w
--   record_of κ i j w      the bytes of a record: kind κ, a zero byte, row i, column j, and the value w, little-endian
--   ticket_record G A B C k  record k of the ticket
--   ticket_of G A B C        the ticket
--   output_after G A B C b   what the output holds afterwards
use Rattle.std.specs.Prelude.{ℕ, zero, suc, ◌+◌, ◌-◌, ◌*◌, ◌/◌, ◌%◌, cond, List, [], ◌∷◌, ◌++◌, length, drop, ℤ, pos, ◌-ℤ◌, ◌*ℤ◌, ◌==◌, nat_le, slice_index_or, unsigned_abs}
use Rattle.residue.specs.Rules.{modulus, least_residue}
use Rattle.algebra.specs.Rules.{floor_division}
use Rattle.ticket.specs.declared.setting.Setting.{Setting}
use Rattle.ticket.specs.declared.Answer.{Answer}
use Rattle.ticket.specs.Rules.{unless, answer, refusal, after, first_refusal, setting_number, sum_products, parts, part, part_size, of_a, of_b, of_bias, bias_bound, bias_columns, start, records, holder, ticket_length, biased_sum, dividend}

unfoldable pub joined : ℕ → (ℕ → List ℕ) → List ℕ
joined zero f = []
joined (suc n) f = joined n f ++ f n

-- the answer

unfoldable pub beyond_number : ℕ → ℕ → List ℤ → ℕ → ℕ
beyond_number bound number x k = unless (nat_le (unsigned_abs (slice_index_or x k (pos 0))) bound) number 0

-- the numbers are counted in A, then on in B, then on in the bias
unfoldable pub operands_reading : Setting → List ℤ → List ℤ → List ℤ → Answer
operands_reading G A B C =
    unless (length A == part_size (part G of_a)) (refusal 13 0)
    (unless (length B == part_size (part G of_b)) (refusal 13 1)
    (unless (length C == part_size (part G of_bias)) (refusal 13 2)
    (after (first_refusal 0 (length (A ++ B)) (beyond_number G.bound 14 (A ++ B)))
    (first_refusal (length (A ++ B)) (length C) (beyond_number (bias_bound G) 18 C)))))

abbrev pub written : Setting → Answer
written G = answer 0 (ticket_length G) 0 (sum_products G)

unfoldable pub writing : Setting → List ℤ → List ℤ → List ℤ → ℕ → Answer
writing G A B C size =
    after (refusal (setting_number G) 0)
    (after (operands_reading G A B C) (unless (nat_le (ticket_length G) size) (refusal 15 0) (written G)))

-- the ticket

abbrev pub entry_of : ℕ → List ℤ → ℕ → ℕ → ℤ
entry_of columns X i j = slice_index_or X (i * columns + j) (pos 0)

abbrev pub sum_for : Setting → List ℤ → List ℤ → List ℤ → ℕ → ℕ → ℤ
sum_for G A B C = biased_sum G (entry_of G.inner A) (entry_of G.columns B) (entry_of (bias_columns G) C)

unfoldable pub quotient_of : Setting → List ℤ → List ℤ → List ℤ → ℕ → ℕ → ℤ
quotient_of G A B C i j = floor_division (dividend G (sum_for G A B C i j)) G.scale

unfoldable pub remainder_of : Setting → List ℤ → List ℤ → List ℤ → ℕ → ℕ → ℤ
remainder_of G A B C i j = dividend G (sum_for G A B C i j) -ℤ pos G.scale *ℤ quotient_of G A B C i j

unfoldable pub integers_of : Setting → List ℤ → List ℤ → List ℤ → List (ℕ → ℕ → ℤ)
integers_of G A B C =
    entry_of G.inner A ∷ entry_of G.columns B ∷ entry_of (bias_columns G) C ∷ quotient_of G A B C ∷ remainder_of G A B C ∷ []

unfoldable pub integer_in : Setting → List ℤ → List ℤ → List ℤ → ℕ → ℕ → ℕ → ℤ
integer_in G A B C w = slice_index_or (integers_of G A B C) w (λ i j. pos 0)

unfoldable pub record_of : ℕ → ℕ → ℕ → ℕ → List ℕ
record_of kind row column value =
    kind ∷ 0 ∷ row ∷ column ∷ value % 256 ∷ value / 256 % 256 ∷ value / 65_536 % 256 ∷ value / 16_777_216 % 256 ∷ []

unfoldable pub ticket_record : Setting → List ℤ → List ℤ → List ℤ → ℕ → List ℕ
ticket_record G A B C k =
    let w = holder (parts G) k in
    let i = (k - start G w) / (part G w).columns in
    let j = (k - start G w) % (part G w).columns in
    record_of (part G w).kind i j (least_residue modulus (integer_in G A B C w i j))

unfoldable pub ticket_of : Setting → List ℤ → List ℤ → List ℤ → List ℕ
ticket_of G A B C = joined (records G) (ticket_record G A B C)

unfoldable pub output_after : Setting → List ℤ → List ℤ → List ℤ → List ℕ → List ℕ
output_after G A B C before =
    cond ((writing G A B C (length before)).number == 0) (ticket_of G A B C ++ drop (ticket_length G) before) before
