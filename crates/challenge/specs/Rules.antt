-- The challenge check, Freivalds' check on ticket bytes (tests 10 to 12 and 21), and one row of it by itself: the rules. They are all that a
-- reader has to believe beside those of the crates below; nothing is proved here. G is a setting, t the bytes of a ticket, x a challenge list.
--
--   challenge_at G x τ j    number j of vector τ
--   list_number x k         11 where number k of the list is not a least residue, else 0
--   first_nonzero G x τ     the first number of vector τ that is not 0, the number of columns where there is none
--   vector_number G x τ     21 where every number of vector τ is 0, else 0
--   list_reading G x        the answer of the tests 10, 11 and 21, in this order; its number is 0 where the list is well formed
--   WellFormed G x         it is
--   testing G t x          the answer of the ordinary tests: those of setting and ticket, then those of the list
--   product_b G t x τ k     number k of the product u of B and vector τ, modulo p
--   claim_side G t x τ i    row i of the claims times vector τ, modulo p
--   operand_side_by G t x τ u i   row i of A times the numbers u and row i of the bias times vector τ, modulo p
--   operand_side G t x τ i  that, with the product u of B and vector τ
--   balanced_by G t x τ u i   the two sides are equal, with the numbers u
--   balanced G t x τ i     they are, with that product
--   first_row G t x τ       the first row that is not balanced for vector τ, the number of rows where there is none
--   row_products G          how many products a row takes: those with its bias, its claims and its entries of A
--   vector_products G       how many products a whole vector takes
--   challenge_products G    and how many all of them take
--   caught_products G τ i   how many are made up to row i of vector τ, with that row
--   accepted G, caught G τ i   the answers
--   verdict G t x          the answer of test 12: caught at the first vector that has a row that is not balanced
--   challenge_check G t x   the answer of the challenge check
--   Accepted G t x         its number is 0
--   listed n f             the list of f 0 to f (n - 1)
--   product_at G t x τ i u  u, of which at row 0 the first numbers are made anew: the product of B and vector τ
--   balanced_at G t x τ i u   row i of vector τ is balanced, with the numbers of u modulo p
--   row_there G τ i         there is a vector τ and a row i
--   row_made G t x τ i u    what row i of vector τ comes to, with u as it is at that row
--   no_row a u              where no row is made: none is out of balance, and u stays
--   row_check G t x τ i u   the ordinary tests, and the row, where they pass and it is there
--   DifferIn G j x y       the lists x and y differ in one column only, j
use Rattle.std.specs.Prelude.{ℕ, zero, suc, ◌+◌, ◌*◌, ◌%◌, ◌<◌, ◌≡◌, Bool, true, cond, ◌&&◌, List, [], ◌∷◌, ◌++◌, ltb, eqb, length, get_or, drop, pos, ◌+ℤ◌, ◌*ℤ◌}
use Rattle.residue.specs.Rules.{modulus, least_residue}
use Rattle.algebra.specs.Rules.{int_sum}
use Rattle.ticket.specs.declared.setting.Setting.{Setting}
use Rattle.ticket.specs.declared.Answer.{Answer}
use Rattle.challenge.specs.declared.single.RowAnswer.{RowAnswer}
use Rattle.ticket.specs.Rules.{first, unless, answer, refusal, scan, first_refusal, after, reading, bias_columns, entry_a, entry_b, entry_bias, claim}

-- the list

abbrev pub challenge_at : Setting → List ℕ → ℕ → ℕ → ℕ
challenge_at G x τ j = get_or x (τ * G.columns + j) 0

unfoldable pub list_number : List ℕ → ℕ → ℕ
list_number x k = unless (ltb (get_or x k 0) modulus) 11 0

unfoldable pub first_nonzero : Setting → List ℕ → ℕ → ℕ
first_nonzero G x τ = first G.columns (λ j. eqb (challenge_at G x τ j) 0)

unfoldable pub vector_number : Setting → List ℕ → ℕ → ℕ
vector_number G x τ = unless (ltb (first_nonzero G x τ) G.columns) 21 0

unfoldable pub list_reading : Setting → List ℕ → Answer
list_reading G x =
    unless (eqb (length x) (G.vectors * G.columns)) (refusal 10 0)
    (after (first_refusal 0 (G.vectors * G.columns) (list_number x)) (first_refusal 0 G.vectors (vector_number G x)))

abbrev pub WellFormed : Setting → List ℕ → Type 0
WellFormed G x = (list_reading G x).number ≡ 0

abbrev pub testing : Setting → List ℕ → List ℕ → Answer
testing G t x = after (reading G t) (list_reading G x)

-- the two sides of a row

unfoldable pub product_b : Setting → List ℕ → List ℕ → ℕ → ℕ → ℕ
product_b G t x τ k = least_residue modulus (int_sum G.columns (λ j. entry_b G t k j *ℤ pos (challenge_at G x τ j)))

unfoldable pub claim_side : Setting → List ℕ → List ℕ → ℕ → ℕ → ℕ
claim_side G t x τ i = least_residue modulus (int_sum G.columns (λ j. claim G t i j *ℤ pos (challenge_at G x τ j)))

unfoldable pub operand_side_by : Setting → List ℕ → List ℕ → ℕ → (ℕ → ℕ) → ℕ → ℕ
operand_side_by G t x τ u i =
    least_residue modulus
    (int_sum G.inner (λ k. entry_a G t i k *ℤ pos (u k))
    +ℤ int_sum G.columns (λ j. entry_bias G t i j *ℤ pos (challenge_at G x τ j)))

abbrev pub operand_side : Setting → List ℕ → List ℕ → ℕ → ℕ → ℕ
operand_side G t x τ i = operand_side_by G t x τ (product_b G t x τ) i

unfoldable pub balanced_by : Setting → List ℕ → List ℕ → ℕ → (ℕ → ℕ) → ℕ → Bool
balanced_by G t x τ u i = eqb (claim_side G t x τ i) (operand_side_by G t x τ u i)

abbrev pub balanced : Setting → List ℕ → List ℕ → ℕ → ℕ → Bool
balanced G t x τ i = balanced_by G t x τ (product_b G t x τ) i

-- the answer

unfoldable pub first_row : Setting → List ℕ → List ℕ → ℕ → ℕ
first_row G t x τ = first G.rows (balanced G t x τ)

abbrev pub row_products : Setting → ℕ
row_products G = bias_columns G + G.columns + G.inner

abbrev pub vector_products : Setting → ℕ
vector_products G = G.inner * G.columns + G.rows * row_products G

abbrev pub challenge_products : Setting → ℕ
challenge_products G = G.vectors * vector_products G

abbrev pub caught_products : Setting → ℕ → ℕ → ℕ
caught_products G τ i = τ * vector_products G + G.inner * G.columns + (i + 1) * row_products G

abbrev pub accepted : Setting → Answer
accepted G = answer 0 0 0 (challenge_products G)

abbrev pub caught : Setting → ℕ → ℕ → Answer
caught G τ i = answer 12 τ i (caught_products G τ i)

unfoldable pub verdict : Setting → List ℕ → List ℕ → Answer
verdict G t x =
    scan G.vectors (λ τ. eqb (first_row G t x τ) G.rows) (λ τ. caught G τ (first_row G t x τ)) (accepted G)

unfoldable pub challenge_check : Setting → List ℕ → List ℕ → Answer
challenge_check G t x = after (reading G t) (after (list_reading G x) (verdict G t x))

abbrev pub Accepted : Setting → List ℕ → List ℕ → Type 0
Accepted G t x = (challenge_check G t x).number ≡ 0

-- one row by itself

unfoldable pub listed : ℕ → (ℕ → ℕ) → List ℕ
listed zero f = []
listed (suc n) f = listed n f ++ (f n ∷ [])

unfoldable pub product_at : Setting → List ℕ → List ℕ → ℕ → ℕ → List ℕ → List ℕ
product_at G t x τ i u = cond (eqb i 0) (listed G.inner (product_b G t x τ) ++ drop G.inner u) u

unfoldable pub balanced_at : Setting → List ℕ → List ℕ → ℕ → ℕ → List ℕ → Bool
balanced_at G t x τ i u = balanced_by G t x τ (λ k. get_or (product_at G t x τ i u) k 0 % modulus) i

abbrev pub row_there : Setting → ℕ → ℕ → Bool
row_there G τ i = ltb τ G.vectors && ltb i G.rows

abbrev pub row_made : Setting → List ℕ → List ℕ → ℕ → ℕ → List ℕ → RowAnswer
row_made G t x τ i u = record { tested = refusal 0 0; balanced = balanced_at G t x τ i u; u = product_at G t x τ i u }

abbrev pub no_row : Answer → List ℕ → RowAnswer
no_row tested u = record { tested = tested; balanced = true; u = u }

unfoldable pub row_check : Setting → List ℕ → List ℕ → ℕ → ℕ → List ℕ → RowAnswer
row_check G t x τ i u =
    cond (eqb (testing G t x).number 0 && row_there G τ i) (row_made G t x τ i u) (no_row (testing G t x) u)

-- both are lists of s · n numbers; column j differs for at least one vector, and every other column is equal
pub record DifferIn (G : Setting) (j : ℕ) (x y : List ℕ) : Type 0 where
  pub size_x : length x ≡ G.vectors * G.columns
  pub size_y : length y ≡ G.vectors * G.columns
  pub differs : (τ : ℕ) × (τ < G.vectors) × (challenge_at G x τ j ≡ challenge_at G y τ j → ⊥)
  pub elsewhere : (τ k : ℕ) → τ < G.vectors → k < G.columns → (k ≡ j → ⊥) → challenge_at G x τ k ≡ challenge_at G y τ k
