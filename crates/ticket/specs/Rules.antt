-- The setting, the ticket and the reading and range checks (tests 1 to 9 and 17 to 19): the rules. They are all that a reader has to
-- believe beside those of the residue and algebra crates; nothing is proved here. G is a setting, with a bias or without, t the bytes
-- of a ticket, w a part's number. A ticket without a bias is one whose bias part has no records.
--
--   first n f            the first place below n at which the test f fails, n where there is none
--   unless c a b         b where c holds, else a
--   answer c k i n       the answer of these four numbers: number, place, row, products
--   refusal c k          the answer of number c at place k
--   reason_number R      the number of the reason R in the published table
--   answered r, failed r  what tests that end in r answer, number 0 where they pass; and the number of the one that fails, 0 where none does
--   scan n f a b         a k, for the first place k below n at which the test f fails; b where there is none
--   after x y            the answer x, where it refuses, else y
--   Test, test b c       a test: whether it holds, and the number of the answer where it does not
--   first_failed l        the number of the first test of l that fails, 0 where all hold
--   within l h n         n is from l to h
--   most_rows, most_inner, most_columns, most_vectors, most_scale, most_bound, most_width, most_bias_bound   the limits
--   numbered P b, plain P, with_bias P W   the setting of the public numbers P, without a bias, and with one of bound W
--   has_bias G            the setting has a bias
--   bias_bound G          the bound W of the bias, 0 where there is none
--   bias_columns G        the columns of the bias: as many as those of the claims, 0 where there is none
--   reach G              the largest size of what a claim is compared with
--   half_range G          half of the quotients' range
--   sizes_within G, scale_and_bound_within G, numbers_within G, bias_within G, rounding_within G   the limits
--   fits_width G v, fits G   the setting fits with the width v, and with its own
--   limit_tests G c       tests 1, 2, 17 and 19, in order; c says whether test 2 holds
--   setting_tests G       tests 1, 2, 17, 19 and 3, in order
--   setting_number G      the first of them that fails, 0 where none does
--   sum_products G        how many products all exact sums take
--   is_entry T x          the value x stands for a number from -T to T
--   shifted_quotient v x  the shifted quotient of the value x
--   is_quotient v x       it is below 2^v
--   Part                 a part of the ticket: the records of one matrix
--   parts G              the parts of a ticket, in order
--   of_a, of_b, of_bias, of_quotients, of_remainders   their numbers in that order
--   no_part, part G w     a part without records, and part w
--   part_size P, count l  how many records the part P has, and all parts of l
--   start G w            the number of the first record of part w
--   records G            how many records a ticket has
--   record_bytes          the bytes of a record
--   ticket_length G       how many bytes a ticket has
--   holder l k           the number of the part that holds record k, of the parts l in order
--   byte_at b i k         byte k of record i of b
--   value_at b i          the value of record i of b: its last 4 bytes, little-endian
--   formed b i κ r c     record i of b has kind κ, a zero byte, row r and column c
--   part_tests b i P j    the tests of record i of b, which is record j of the part P: 5, 6 and the range, in order
--   record_tests G t k    the tests of record k of the ticket
--   record_number G t k   the first of them that fails, 0 where none does
--   first_refusal a n f   the refusal by the first of n numbers that is not 0, its place counted from a; number 0 where all are 0
--   records_reading G t   the answer of the tests from 4 on
--   reading G t          the answer of the reading and range checks; its number is 0 where they pass
--   Passes G t           they pass
--   value_in G t w i j    the value in row i, column j of part w
--   entry_a G t i k, entry_b G t k j, quotient G t i j, remainder G t i j   the integers that the records stand for
--   entry_bias G t i j    the bias entry c, 0 where there is no bias
--   claim G t i j        what the claim puts for its sum: scale times quotient plus remainder less the rounding number
--   exact_sum G A B i j   the exact sum of row i of A times column j of B
--   biased_sum G A B C i j   that and the entry of C there: S + c
--   due G t i j          what the claim is compared with: S + c of the ticket's operands and bias
--   dividend G S         what is divided by the scale for the sum S: S + o, with the rounding number o
--   Untrue G t i j       the claim in row i, column j is untrue
--   FalseIn G t j        the ticket is false in column j: some row's claim there is untrue
use Rattle.std.specs.Prelude.{◌≡◌, ℕ, zero, suc, ◌+◌, ◌-◌, ◌*◌, ◌/◌, ◌%◌, ◌^◌, ◌<◌, Bool, false, cond, ◌&&◌, List, [], ◌∷◌, ◌++◌, length, take, ℤ, pos, ◌+ℤ◌, ◌-ℤ◌, ◌*ℤ◌, ◌==◌, nat_eq, nat_le, nat_lt, slice_index, slice_index_or, unsigned_abs, Option, Some, None, is_some, Result, Ok, Err}
use Rattle.std.specs.Option.{unwrap_or}
use Rattle.residue.specs.Rules.{modulus, signed_entry}
use Rattle.algebra.specs.Rules.{matrix_product, word}
use Rattle.ticket.specs.declared.setting.Setting.{Setting}
use Rattle.ticket.specs.declared.published.PlainSetting.{PlainSetting}
use Rattle.ticket.specs.declared.Answer.{Answer}
use Rattle.ticket.specs.declared.refusals.Reason.{Reason}
use Rattle.ticket.specs.declared.refusals.Reason.TheVariants.{Sizes, Numbers, Fit, Length, Form, Residue, Entry, Quotient, Remainder, ListLength, ListNumber, Caught, OperandLength, OperandEntry, Output, Claim, BiasBound, BiasEntry, Rounding, NoWidth, ZeroVector, Addition}
use Rattle.ticket.specs.declared.refusals.Refusal.{Refusal}

-- answers

unfoldable pub first : ℕ → (ℕ → Bool) → ℕ
first zero f = 0
first (suc n) f = cond (f 0) (suc (first n (λ k. f (suc k)))) 0

abbrev pub unless : {A : Type 0} → Bool → A → A → A
unless holds refused rest = cond holds rest refused

abbrev pub answer : ℕ → ℕ → ℕ → ℕ → Answer
answer number place row products = record { number = number; place = place; row = row; products = products }

abbrev pub refusal : ℕ → ℕ → Answer
refusal number place = answer number place 0 0

abbrev pub reason_number : Reason → ℕ
reason_number Sizes = 1
reason_number Numbers = 2
reason_number Fit = 3
reason_number Length = 4
reason_number Form = 5
reason_number Residue = 6
reason_number Entry = 7
reason_number Quotient = 8
reason_number Remainder = 9
reason_number ListLength = 10
reason_number ListNumber = 11
reason_number Caught = 12
reason_number OperandLength = 13
reason_number OperandEntry = 14
reason_number Output = 15
reason_number Claim = 16
reason_number BiasBound = 17
reason_number BiasEntry = 18
reason_number Rounding = 19
reason_number NoWidth = 20
reason_number ZeroVector = 21
reason_number Addition = 22

abbrev pub answered : Result Unit Refusal → Answer
answered (Ok _) = answer 0 0 0 0
answered (Err R) = refusal (reason_number R.reason) R.place

abbrev pub failed : Result Unit Reason → ℕ
failed (Ok _) = 0
failed (Err R) = reason_number R

unfoldable pub scan : ℕ → (ℕ → Bool) → (ℕ → Answer) → Answer → Answer
scan n holds failed passed =
    let k = first n holds in
    unless (k == n) (failed k) passed

unfoldable pub after : Answer → Answer → Answer
after earlier later = cond (earlier.number == 0) later earlier

-- tests in order

pub record Test : Type 0 where
  pub holds : Bool
  pub number : ℕ

abbrev pub test : Bool → ℕ → Test
test holds number = record { holds = holds; number = number }

unfoldable pub first_failed : List Test → ℕ
first_failed [] = 0
first_failed (T ∷ rest) = unless T.holds T.number (first_failed rest)

-- the setting

abbrev pub within : ℕ → ℕ → ℕ → Bool
within low high n = nat_le low n && nat_le n high

abbrev pub most_rows : ℕ
most_rows = 32

abbrev pub most_inner : ℕ
most_inner = 64

abbrev pub most_columns : ℕ
most_columns = 32

abbrev pub most_vectors : ℕ
most_vectors = 8

abbrev pub most_scale : ℕ
most_scale = 65_536

abbrev pub most_bound : ℕ
most_bound = 32_767

abbrev pub most_width : ℕ
most_width = 30

abbrev pub most_bias_bound : ℕ
most_bias_bound = 2 ^ 30

abbrev pub numbered : PlainSetting → Option ℕ → Setting
numbered P bias =
    record {
      rows = P.rows;
      inner = P.inner;
      columns = P.columns;
      vectors = P.vectors;
      scale = P.scale;
      bound = P.bound;
      width = P.width;
      rounding = P.rounding;
      bias = bias;
    }

abbrev pub plain : PlainSetting → Setting
plain P = numbered P None

abbrev pub with_bias : PlainSetting → ℕ → Setting
with_bias P W = numbered P (Some W)

unfoldable pub has_bias : Setting → Bool
has_bias G = is_some G.bias

unfoldable pub bias_bound : Setting → ℕ
bias_bound G = unwrap_or G.bias 0

unfoldable pub bias_columns : Setting → ℕ
bias_columns G = cond (has_bias G) G.columns 0

abbrev pub reach : Setting → ℕ
reach G = G.inner * (G.bound * G.bound) + bias_bound G

abbrev pub half_range : Setting → ℕ
half_range G = 2 ^ (G.width - 1)

unfoldable pub sizes_within : Setting → Bool
sizes_within G =
    within 1 most_rows G.rows
    && within 1 most_inner G.inner
    && within 1 most_columns G.columns
    && within 1 most_vectors G.vectors

unfoldable pub scale_and_bound_within : Setting → Bool
scale_and_bound_within G = within 2 most_scale G.scale && within 1 most_bound G.bound

unfoldable pub numbers_within : Setting → Bool
numbers_within G = scale_and_bound_within G && within 1 most_width G.width

unfoldable pub bias_within : Setting → Bool
bias_within G = nat_le (bias_bound G) most_bias_bound

unfoldable pub rounding_within : Setting → Bool
rounding_within G = nat_lt G.rounding G.scale

unfoldable pub fits_width : Setting → ℕ → Bool
fits_width G v = nat_le (reach G + G.rounding + G.scale - 1) (2 ^ (v - 1) * G.scale) && nat_lt (2 ^ v * G.scale) modulus

abbrev pub fits : Setting → Bool
fits G = fits_width G G.width

unfoldable pub limit_tests : Setting → Bool → List Test
limit_tests G numbers =
    test (sizes_within G) 1
    ∷ test numbers 2
    ∷ test (bias_within G) 17
    ∷ test (rounding_within G) 19
    ∷ []

unfoldable pub setting_tests : Setting → List Test
setting_tests G = limit_tests G (numbers_within G) ++ (test (fits G) 3 ∷ [])

abbrev pub setting_number : Setting → ℕ
setting_number G = first_failed (setting_tests G)

abbrev pub sum_products : Setting → ℕ
sum_products G = G.rows * G.inner * G.columns

-- the layout

unfoldable pub is_entry : ℕ → ℕ → Bool
is_entry T value = nat_le (unsigned_abs (signed_entry modulus value)) T

-- below 2^v, and 2^(v - 1) above the quotient
unfoldable pub shifted_quotient : ℕ → ℕ → ℕ
shifted_quotient v value = (value + 2 ^ (v - 1)) % modulus

abbrev pub is_quotient : ℕ → ℕ → Bool
is_quotient v value = nat_lt (shifted_quotient v value) (2 ^ v)

-- kind: its records' first byte; rows and columns: its size; range: which values are in range; outside: the number of the answer
-- for one that is not
pub record Part : Type 0 where
  pub kind : ℕ
  pub rows : ℕ
  pub columns : ℕ
  pub range : ℕ → Bool
  pub outside : ℕ

unfoldable pub parts : Setting → List Part
parts G =
    record { kind = 1; rows = G.rows; columns = G.inner; range = is_entry G.bound; outside = 7 }
    ∷ record { kind = 2; rows = G.inner; columns = G.columns; range = is_entry G.bound; outside = 7 }
    ∷ record { kind = 5; rows = G.rows; columns = bias_columns G; range = is_entry (bias_bound G); outside = 18 }
    ∷ record { kind = 3; rows = G.rows; columns = G.columns; range = is_quotient G.width; outside = 8 }
    ∷ record { kind = 4; rows = G.rows; columns = G.columns; range = λ value. nat_lt value G.scale; outside = 9 }
    ∷ []

abbrev pub of_a : ℕ
of_a = 0

abbrev pub of_b : ℕ
of_b = 1

abbrev pub of_bias : ℕ
of_bias = 2

abbrev pub of_quotients : ℕ
of_quotients = 3

abbrev pub of_remainders : ℕ
of_remainders = 4

-- past the last part there are no records
abbrev pub no_part : Part
no_part = record { kind = 0; rows = 0; columns = 0; range = λ value. false; outside = 0 }

unfoldable pub part : Setting → ℕ → Part
part G w = slice_index_or (parts G) w no_part

abbrev pub part_size : Part → ℕ
part_size P = P.rows * P.columns

unfoldable pub count : List Part → ℕ
count [] = 0
count (P ∷ rest) = part_size P + count rest

unfoldable pub start : Setting → ℕ → ℕ
start G w = count (take w (parts G))

unfoldable pub records : Setting → ℕ
records G = count (parts G)

abbrev pub record_bytes : ℕ
record_bytes = 8

unfoldable pub ticket_length : Setting → ℕ
ticket_length G = record_bytes * records G

unfoldable pub holder : List Part → ℕ → ℕ
holder [] k = 0
holder (P ∷ rest) k = cond (nat_lt k (part_size P)) 0 (suc (holder rest (k - part_size P)))

-- the records

abbrev pub byte_at : List ℕ → ℕ → ℕ → ℕ
byte_at bytes i k = slice_index bytes (record_bytes * i + k)

unfoldable pub value_at : List ℕ → ℕ → ℕ
value_at bytes i = word (byte_at bytes i 4) (byte_at bytes i 5) (byte_at bytes i 6) (byte_at bytes i 7)

unfoldable pub formed : List ℕ → ℕ → ℕ → ℕ → ℕ → Bool
formed bytes i kind row column =
    (byte_at bytes i 0 == kind) && byte_at bytes i 1 == 0 && byte_at bytes i 2 == row && byte_at bytes i 3 == column

unfoldable pub part_tests : List ℕ → ℕ → Part → ℕ → List Test
part_tests bytes i P j =
    test (formed bytes i P.kind (j / P.columns) (j % P.columns)) 5
    ∷ test (nat_lt (value_at bytes i) modulus) 6
    ∷ test (P.range (value_at bytes i)) P.outside
    ∷ []

unfoldable pub record_tests : Setting → List ℕ → ℕ → List Test
record_tests G t k =
    let w = holder (parts G) k in
    part_tests t k (part G w) (k - start G w)

abbrev pub record_number : Setting → List ℕ → ℕ → ℕ
record_number G t k = first_failed (record_tests G t k)

-- the answer

unfoldable pub first_refusal : ℕ → ℕ → (ℕ → ℕ) → Answer
first_refusal from n number = scan n (λ k. nat_eq (number k) 0) (λ k. refusal (number k) (from + k)) (refusal 0 0)

unfoldable pub records_reading : Setting → List ℕ → Answer
records_reading G t = unless (length t == ticket_length G) (refusal 4 0) (first_refusal 0 (records G) (record_number G t))

unfoldable pub reading : Setting → List ℕ → Answer
reading G t = after (refusal (setting_number G) 0) (records_reading G t)

abbrev pub Passes : Setting → List ℕ → Type 0
Passes G t = (reading G t).number ≡ 0

-- what the records stand for

unfoldable pub value_in : Setting → List ℕ → ℕ → ℕ → ℕ → ℕ
value_in G t w i j = value_at t (start G w + (i * (part G w).columns + j))

unfoldable pub entry_a : Setting → List ℕ → ℕ → ℕ → ℤ
entry_a G t i k = signed_entry modulus (value_in G t of_a i k)

unfoldable pub entry_b : Setting → List ℕ → ℕ → ℕ → ℤ
entry_b G t k j = signed_entry modulus (value_in G t of_b k j)

unfoldable pub entry_bias : Setting → List ℕ → ℕ → ℕ → ℤ
entry_bias G t i j = cond (has_bias G) (signed_entry modulus (value_in G t of_bias i j)) (pos 0)

unfoldable pub quotient : Setting → List ℕ → ℕ → ℕ → ℤ
quotient G t i j = pos (shifted_quotient G.width (value_in G t of_quotients i j)) -ℤ pos (half_range G)

unfoldable pub remainder : Setting → List ℕ → ℕ → ℕ → ℤ
remainder G t i j = pos (value_in G t of_remainders i j)

unfoldable pub claim : Setting → List ℕ → ℕ → ℕ → ℤ
claim G t i j = pos G.scale *ℤ quotient G t i j +ℤ remainder G t i j -ℤ pos G.rounding

unfoldable pub exact_sum : Setting → (ℕ → ℕ → ℤ) → (ℕ → ℕ → ℤ) → ℕ → ℕ → ℤ
exact_sum G A B i j = matrix_product G.inner A B i j

unfoldable pub biased_sum : Setting → (ℕ → ℕ → ℤ) → (ℕ → ℕ → ℤ) → (ℕ → ℕ → ℤ) → ℕ → ℕ → ℤ
biased_sum G A B C i j = exact_sum G A B i j +ℤ C i j

abbrev pub due : Setting → List ℕ → ℕ → ℕ → ℤ
due G t = biased_sum G (entry_a G t) (entry_b G t) (entry_bias G t)

abbrev pub dividend : Setting → ℤ → ℤ
dividend G S = S +ℤ pos G.rounding

abbrev pub Untrue : Setting → List ℕ → ℕ → ℕ → Type 0
Untrue G t i j = claim G t i j ≡ due G t i j → ⊥

abbrev pub FalseIn : Setting → List ℕ → ℕ → Type 0
FalseIn G t j = (j < G.columns) × ((i : ℕ) × (i < G.rows) × Untrue G t i j)
