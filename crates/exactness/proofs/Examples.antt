-- The marked examples a to k, under the setting K, with the bytes of record 8 and of the whole written ticket, and -17 over 10, then K
-- with a bias and K with a rounding number, and quotes: one table that the checker computes over the rules.
use Rattle.std.specs.Prelude.{ℕ, ◌+◌, ◌-◌, ◌*◌, ◌/◌, ◌%◌, ◌≡◌, refl, List, [], ◌∷◌, ◌++◌, map, ℤ, pos, neg_ℤ, ◌-ℤ◌, ◌*ℤ◌, take, drop}
use Rattle.residue.specs.Rules.{modulus, least_residue, signed_entry}
use Rattle.algebra.specs.Rules.{int_sum, matrix_product, floor_division}
use Rattle.ticket.specs.declared.setting.Setting.{Setting}
use Rattle.ticket.specs.declared.published.PlainSetting.{PlainSetting}
use Rattle.ticket.specs.declared.Answer.{Answer}
use Rattle.ticket.specs.Rules.{first, answer, scan, after, first_failed, sizes_within, scale_and_bound_within, numbers_within, fits_width, limit_tests, setting_tests, setting_number, is_entry, shifted_quotient, parts, part, count, start, records, record_bytes, ticket_length, holder, value_at, formed, part_tests, record_tests, first_refusal, records_reading, reading, value_in, entry_a, entry_b, quotient, remainder, claim, exact_sum, biased_sum, due, plain, with_bias, has_bias, bias_bound, bias_columns, bias_within, rounding_within, most_bias_bound, entry_bias, dividend}
use Rattle.ticket.proofs.Examples.{true_ticket, bias_ticket, rounded_ticket}
use Rattle.challenge.specs.Rules.{list_number, first_nonzero, vector_number, list_reading, product_b, claim_side, operand_side, operand_side_by, balanced_by, first_row, verdict, challenge_check}
use Rattle.full.specs.Rules.{same, holds, full_verdict, full_check}
use Rattle.quote.specs.declared.Quote.{Quote}
use Rattle.quote.specs.Rules.{smallest_width, quote_tests, no_figures, quote_of}
use Rattle.writer.specs.Rules.{joined, beyond_number, operands_reading, writing, quotient_of, remainder_of, integers_of, integer_in, record_of, ticket_record, ticket_of}

minus : ℕ → ℤ
minus n = neg_ℤ (pos n)

-- a ticket: the matrices of its parts, row by row; without a bias, that part is empty
record Case : Type 0 where
  setting : Setting
  A : List ℤ
  B : List ℤ
  bias : List ℤ
  quotient : List ℤ
  remainder : List ℤ

-- the records of a part from record i on
records_from : ℕ → ℕ → ℕ → List ℤ → List ℕ
records_from kind columns i [] = []
records_from kind columns i (z ∷ rest) =
    let value = least_residue modulus z in
    kind ∷ 0 ∷ i / columns ∷ i % columns ∷ value % 256 ∷ value / 256 % 256 ∷ value / 65_536 % 256 ∷ value / 16_777_216
    ∷ records_from kind columns (i + 1) rest

ticket : Case → List ℕ
ticket c =
    records_from 1 c.setting.inner 0 c.A
    ++ records_from 2 c.setting.columns 0 c.B
    ++ records_from 5 c.setting.columns 0 c.bias
    ++ records_from 3 c.setting.columns 0 c.quotient
    ++ records_from 4 c.setting.columns 0 c.remainder

-- the public numbers of K, but for the inner size, the scale, the bound, the width and the rounding number
numbers : ℕ → ℕ → ℕ → ℕ → ℕ → PlainSetting
numbers m α T v o = record { rows = 2; inner = m; columns = 2; vectors = 1; scale = α; bound = T; width = v; rounding = o }

-- the setting without a bias and without rounding, K with a bias of bound W, K with the rounding number o, and with both
setting : ℕ → ℕ → ℕ → ℕ → Setting
setting m α T v = plain (numbers m α T v 0)

biased : ℕ → Setting
biased W = with_bias (numbers 2 10 8 5 0) W

rounded : ℕ → Setting
rounded o = plain (numbers 2 10 8 5 o)

both : ℕ → ℕ → Setting
both o W = with_bias (numbers 2 10 8 5 o) W

-- those of K, but for the sizes, as many rows as columns, and the vectors
sized : ℕ → ℕ → ℕ → PlainSetting
sized n m s = record { rows = n; inner = m; columns = n; vectors = s; scale = 10; bound = 8; width = 5; rounding = 0 }

-- A and B with this bias and these quotients and remainders, under the setting G
under : Setting → List ℤ → List ℤ → List ℤ → Case
under G c q r =
    record {
      setting = G;
      A = pos 3 ∷ minus 2 ∷ pos 5 ∷ pos 4 ∷ [];
      B = minus 1 ∷ pos 6 ∷ pos 7 ∷ minus 8 ∷ [];
      bias = c;
      quotient = q;
      remainder = r;
    }

-- with no bias, under K with the bound T
claiming : ℕ → List ℤ → List ℤ → Case
claiming T = under (setting 2 10 T 5) []

-- with this bias, under K with a bias of bound W, and the claims for -21, 57, 0 and 3
biased_by : ℕ → List ℤ → Case
biased_by W c = under (biased W) c (minus 3 ∷ pos 5 ∷ pos 0 ∷ pos 0 ∷ []) (pos 9 ∷ pos 7 ∷ pos 0 ∷ pos 3 ∷ [])

-- the bias that makes them true, but for its first and its last entry
bias_of : ℤ → ℤ → List ℤ
bias_of z z' = z ∷ pos 23 ∷ minus 23 ∷ z' ∷ []

bias_case : Case
bias_case = biased_by 23 (bias_of (minus 4) (pos 5))

-- false in the last column only, by its bias
false_bias : Case
false_bias = biased_by 23 (bias_of (minus 4) (pos 4))

true_remainders : List ℤ
true_remainders = pos 3 ∷ pos 4 ∷ pos 3 ∷ pos 8 ∷ []

-- with these first two quotients, the others true
changed : ℤ → ℤ → Case
changed q q' = claiming 8 (q ∷ q' ∷ pos 2 ∷ minus 1 ∷ []) true_remainders

true_case : Case
true_case = changed (minus 2) (pos 3)

-- under K with the rounding number o, the claims for the sums, rounded to the nearest
rounded_by : ℕ → Case
rounded_by o = under (rounded o) [] (minus 2 ∷ pos 3 ∷ pos 2 ∷ pos 0 ∷ []) (pos 8 ∷ pos 9 ∷ pos 8 ∷ pos 3 ∷ [])

-- and with a bias, the claims for -21, 52, 5 and 3, likewise
rounded_bias : Case
rounded_bias =
    under (both 5 18) (minus 4 ∷ pos 18 ∷ minus 18 ∷ pos 5 ∷ []) (minus 2 ∷ pos 5 ∷ pos 1 ∷ pos 0 ∷ []) (pos 4 ∷ pos 7 ∷ pos 0 ∷ pos 8 ∷ [])

-- the claims of the true case, under K with the rounding number 5
unrounded : Case
unrounded = under (rounded 5) [] (minus 2 ∷ pos 3 ∷ pos 2 ∷ minus 1 ∷ []) true_remainders

-- the claims of the true case and of the one with a bias, under K with s vectors, the last remainder but for e
with_several : ℕ → ℤ → Case
with_several s e = under (plain (sized 2 2 s)) [] (minus 2 ∷ pos 3 ∷ pos 2 ∷ minus 1 ∷ []) (pos 3 ∷ pos 4 ∷ pos 3 ∷ e ∷ [])

several_biased : ℕ → ℤ → Case
several_biased s e =
    under (with_bias (sized 2 2 s) 23) (bias_of (minus 4) (pos 5)) (minus 3 ∷ pos 5 ∷ pos 0 ∷ pos 0 ∷ []) (pos 9 ∷ pos 7 ∷ pos 0 ∷ e ∷ [])

-- 2 times 3 with one row and one column, and the remainder r
one_column : ℤ → Case
one_column r =
    record {
      setting = plain (sized 1 1 1);
      A = pos 2 ∷ [];
      B = pos 3 ∷ [];
      bias = [];
      quotient = pos 0 ∷ [];
      remainder = r ∷ [];
    }

-- a quote of these figures: width, bytes, products of a full check and of a challenge check
figured : ℕ → ℕ → ℕ → ℕ → Quote
figured v bytes sums challenges = record { number = 0; width = v; length = bytes; full = sums; challenge = challenges }

-- each with what is expected last: where the parts of a ticket start, and which part each of some records is in; the sums S, or S + c,
-- with which the claims are compared; what the claims put for them; quotients and remainders, as read; the bytes of a
-- record; u, for a vector, as signed entries; the two sides, for a vector; the answer of the reading and range checks; the answer
-- of the challenge check; that of the full check; that of the writer for an output of so many bytes; the written ticket; the number of
-- a setting; an integer over a number, rounded down; quotient and remainder of a sum, under a setting; the quote for a setting
data Example : Type 0 where
  starts : Setting → List ℕ → Example
  held : Setting → List ℕ → List ℕ → Example
  sums : Case → List ℤ → Example
  claims : Case → List ℤ → Example
  read : Case → List ℤ → List ℤ → Example
  bytes : Case → ℕ → List ℕ → Example
  product : Case → List ℕ → List ℤ → Example
  sides : Case → List ℕ → List ℕ → List ℕ → Example
  reads : Case → Answer → Example
  checks : Case → List ℕ → Answer → Example
  checks_all : Case → Answer → Example
  answers : Case → ℕ → Answer → Example
  writes : Case → List ℕ → Example
  limits : Setting → ℕ → Example
  floors : ℤ → ℕ → ℤ → Example
  rounds : Setting → ℤ → ℤ → ℤ → Example
  quotes : Setting → Quote → Example

examples : List Example
examples =
    -- the layout under K: A, B, no bias, the quotients, the remainders, and past them
    starts (setting 2 10 8 5) (0 ∷ 4 ∷ 8 ∷ 8 ∷ 12 ∷ 16 ∷ [])
    ∷ held (setting 2 10 8 5) (0 ∷ 3 ∷ 4 ∷ 8 ∷ 12 ∷ 15 ∷ []) (0 ∷ 0 ∷ 1 ∷ 3 ∷ 4 ∷ 4 ∷ [])
    -- a
    ∷ sums true_case (minus 17 ∷ pos 34 ∷ pos 23 ∷ minus 2 ∷ [])
    -- b
    ∷ claims true_case (minus 17 ∷ pos 34 ∷ pos 23 ∷ minus 2 ∷ [])
    ∷ read true_case (minus 2 ∷ pos 3 ∷ pos 2 ∷ minus 1 ∷ []) (pos 3 ∷ pos 4 ∷ pos 3 ∷ pos 8 ∷ [])
    ∷ bytes true_case 8 (0x03 ∷ 0x00 ∷ 0x00 ∷ 0x00 ∷ 0xFD ∷ 0xFF ∷ 0xFF ∷ 0x7F ∷ [])
    -- c
    ∷ product true_case (1 ∷ 2 ∷ []) (pos 11 ∷ minus 9 ∷ [])
    ∷ sides true_case (1 ∷ 2 ∷ []) (51 ∷ 19 ∷ []) (51 ∷ 19 ∷ [])
    ∷ checks true_case (1 ∷ 2 ∷ []) (answer 0 0 0 12)
    -- d: a vector with one zero passes test 21, which none of the cases a to k meets
    ∷ checks (changed (minus 1) (pos 3)) (0 ∷ 5 ∷ []) (answer 0 0 0 12)
    -- e
    ∷ checks (changed (minus 1) (pos 3)) (1 ∷ 5 ∷ []) (answer 12 0 0 8)
    -- f
    ∷ checks (changed (minus 1) (pos 4)) (1 ∷ (modulus - 1) ∷ []) (answer 0 0 0 12)
    ∷ checks (changed (minus 1) (pos 4)) (1 ∷ 1 ∷ []) (answer 12 0 0 8)
    -- g
    ∷ checks_all (changed (minus 1) (pos 3)) (answer 16 0 0 2)
    ∷ checks_all true_case (answer 0 0 0 8)
    -- h
    ∷ checks (claiming 8 (minus 3 ∷ pos 3 ∷ pos 2 ∷ minus 1 ∷ []) (pos 13 ∷ pos 4 ∷ pos 3 ∷ pos 8 ∷ [])) (1 ∷ 2 ∷ []) (answer 9 12 0 0)
    -- i: the true case has the entry -8
    ∷ checks (claiming 9 (minus 2 ∷ pos 3 ∷ pos 2 ∷ minus 1 ∷ []) true_remainders) (1 ∷ 2 ∷ []) (answer 3 0 0 0)
    ∷ reads true_case (answer 0 0 0 0)
    -- j
    ∷ reads (changed (minus 16) (pos 15)) (answer 0 0 0 0)
    ∷ reads (changed (minus 17) (pos 15)) (answer 8 8 0 0)
    -- k
    ∷ limits (setting 1 65_536 1 14) 0
    ∷ limits (setting 1 65_536 1 15) 3
    -- the written ticket, and rounding down
    ∷ answers true_case 128 (answer 0 128 0 8)
    ∷ writes true_case true_ticket
    ∷ floors (minus 17) 10 (minus 2)
    ∷ floors (pos 34) 10 (pos 3)
    -- K with a bias: W = 23 fits, W = 24 does not, nor does W = 2^30, which is no 17
    ∷ limits (biased 23) 0
    ∷ limits (biased 24) 3
    ∷ limits (biased most_bias_bound) 3
    ∷ limits (biased 1_073_741_825) 17
    ∷ starts (biased 23) (0 ∷ 4 ∷ 8 ∷ 12 ∷ 16 ∷ 20 ∷ [])
    ∷ held (biased 23) (3 ∷ 4 ∷ 8 ∷ 11 ∷ 12 ∷ 16 ∷ 19 ∷ []) (0 ∷ 1 ∷ 2 ∷ 2 ∷ 3 ∷ 4 ∷ 4 ∷ [])
    -- a true ticket: -17 - 4, 34 + 23, 23 - 23 and -2 + 5
    ∷ sums bias_case (minus 21 ∷ pos 57 ∷ pos 0 ∷ pos 3 ∷ [])
    ∷ claims bias_case (minus 21 ∷ pos 57 ∷ pos 0 ∷ pos 3 ∷ [])
    ∷ bytes bias_case 8 (0x05 ∷ 0x00 ∷ 0x00 ∷ 0x00 ∷ 0xFB ∷ 0xFF ∷ 0xFF ∷ 0x7F ∷ [])
    ∷ answers bias_case 160 (answer 0 160 0 8)
    ∷ writes bias_case bias_ticket
    ∷ sides bias_case (1 ∷ 2 ∷ []) (93 ∷ 6 ∷ []) (93 ∷ 6 ∷ [])
    ∷ checks bias_case (1 ∷ 2 ∷ []) (answer 0 0 0 16)
    ∷ checks_all bias_case (answer 0 0 0 8)
    -- one that is false in the last column only, through its bias: 3 is claimed for -2 + 4
    ∷ reads false_bias (answer 0 0 0 0)
    ∷ sums false_bias (minus 21 ∷ pos 57 ∷ pos 0 ∷ pos 2 ∷ [])
    ∷ sides false_bias (1 ∷ 2 ∷ []) (93 ∷ 6 ∷ []) (93 ∷ 4 ∷ [])
    ∷ checks false_bias (1 ∷ 2 ∷ []) (answer 12 0 1 16)
    ∷ checks false_bias (1 ∷ 0 ∷ []) (answer 0 0 0 16)
    ∷ checks_all false_bias (answer 16 3 0 8)
    -- 18: an entry of 24; a plain ticket, and the other way round; the writer's 13, 18 and 15
    ∷ reads (biased_by 23 (bias_of (minus 24) (pos 5))) (answer 18 8 0 0)
    ∷ reads (biased_by 23 (bias_of (minus 4) (pos 24))) (answer 18 11 0 0)
    ∷ reads (biased_by 23 []) (answer 4 0 0 0)
    ∷ reads (under (setting 2 10 8 5) (bias_of (minus 4) (pos 5)) (pos 0 ∷ pos 0 ∷ pos 0 ∷ pos 0 ∷ []) []) (answer 5 8 0 0)
    ∷ answers (biased_by 23 []) 160 (answer 13 2 0 0)
    ∷ answers (biased_by 23 (bias_of (minus 4) (pos 24))) 160 (answer 18 11 0 0)
    ∷ answers bias_case 159 (answer 15 0 0 0)
    -- K with the rounding number 5 fits: 142 ≤ 160. Rounding is to the nearest, halves up, also below zero
    ∷ limits (rounded 5) 0
    ∷ rounds (rounded 5) (minus 17) (minus 2) (pos 8)
    ∷ rounds (rounded 5) (pos 25) (pos 3) (pos 0)
    ∷ rounds (rounded 5) (pos 24) (pos 2) (pos 9)
    ∷ rounds (rounded 5) (minus 15) (minus 1) (pos 0)
    -- test 19, after 2 and 17, and before 3; the fit through the rounding number
    ∷ limits (rounded 9) 0
    ∷ limits (rounded 10) 19
    ∷ limits (rounded 4_294_967_295) 19
    ∷ limits (plain (numbers 2 1 8 5 1)) 2
    ∷ limits (both 10 1_073_741_825) 17
    ∷ limits (both 10 most_bias_bound) 19
    ∷ limits (plain (numbers 2 10 9 5 10)) 19
    ∷ limits (plain (numbers 2 10 9 5 9)) 3
    ∷ limits (plain (numbers 1 10 12 5 7)) 0
    ∷ limits (plain (numbers 1 10 12 5 8)) 3
    -- its true ticket, which is false without the rounding number, and the one that is true without, with it
    ∷ sums (rounded_by 5) (minus 17 ∷ pos 34 ∷ pos 23 ∷ minus 2 ∷ [])
    ∷ claims (rounded_by 5) (minus 17 ∷ pos 34 ∷ pos 23 ∷ minus 2 ∷ [])
    ∷ answers (rounded_by 5) 128 (answer 0 128 0 8)
    ∷ writes (rounded_by 5) rounded_ticket
    ∷ sides (rounded_by 5) (1 ∷ 2 ∷ []) (51 ∷ 19 ∷ []) (51 ∷ 19 ∷ [])
    ∷ checks (rounded_by 5) (1 ∷ 2 ∷ []) (answer 0 0 0 12)
    ∷ checks_all (rounded_by 5) (answer 0 0 0 8)
    ∷ claims (rounded_by 0) (minus 12 ∷ pos 39 ∷ pos 28 ∷ pos 3 ∷ [])
    ∷ checks (rounded_by 0) (1 ∷ 2 ∷ []) (answer 12 0 0 8)
    ∷ checks_all (rounded_by 0) (answer 16 0 0 2)
    ∷ claims unrounded (minus 22 ∷ pos 29 ∷ pos 18 ∷ minus 7 ∷ [])
    ∷ checks unrounded (1 ∷ 2 ∷ []) (answer 12 0 0 8)
    ∷ checks_all unrounded (answer 16 0 0 2)
    -- all claims are out by 5, and a vector whose numbers sum to 0 does not show it
    ∷ checks unrounded (1 ∷ (modulus - 1) ∷ []) (answer 0 0 0 12)
    -- and with a bias: W = 18 fits, W = 19 does not
    ∷ limits (both 5 18) 0
    ∷ limits (both 5 19) 3
    ∷ sums rounded_bias (minus 21 ∷ pos 52 ∷ pos 5 ∷ pos 3 ∷ [])
    ∷ claims rounded_bias (minus 21 ∷ pos 52 ∷ pos 5 ∷ pos 3 ∷ [])
    ∷ answers rounded_bias 160 (answer 0 160 0 8)
    ∷ writes rounded_bias (ticket rounded_bias)
    ∷ checks rounded_bias (1 ∷ 2 ∷ []) (answer 0 0 0 16)
    ∷ checks_all rounded_bias (answer 0 0 0 8)
    -- test 21: a vector of zeros, with a true ticket and with a false one, which was accepted with it; with one zero it passes
    ∷ checks true_case (0 ∷ 0 ∷ []) (answer 21 0 0 0)
    ∷ checks (changed (minus 1) (pos 3)) (0 ∷ 0 ∷ []) (answer 21 0 0 0)
    ∷ checks true_case (0 ∷ 5 ∷ []) (answer 0 0 0 12)
    ∷ checks true_case (5 ∷ 0 ∷ []) (answer 0 0 0 12)
    -- the first of several, with its t; zeros that stand together in two vectors pass
    ∷ checks (with_several 2 (pos 8)) (0 ∷ 0 ∷ 1 ∷ 2 ∷ []) (answer 21 0 0 0)
    ∷ checks (with_several 2 (pos 8)) (1 ∷ 2 ∷ 0 ∷ 0 ∷ []) (answer 21 1 0 0)
    ∷ checks (with_several 3 (pos 8)) (1 ∷ 2 ∷ 0 ∷ 0 ∷ 0 ∷ 0 ∷ []) (answer 21 1 0 0)
    ∷ checks (with_several 3 (pos 8)) (1 ∷ 2 ∷ 3 ∷ 4 ∷ 0 ∷ 0 ∷ []) (answer 21 2 0 0)
    ∷ checks (with_several 2 (pos 8)) (1 ∷ 0 ∷ 0 ∷ 2 ∷ []) (answer 0 0 0 24)
    -- 10 and 11 come before it, 11 at a later place too, and 12 after it, at an earlier vector too
    ∷ checks (with_several 2 (pos 8)) (0 ∷ 0 ∷ 1 ∷ []) (answer 10 0 0 0)
    ∷ checks (with_several 2 (pos 8)) (0 ∷ 0 ∷ 1 ∷ modulus ∷ []) (answer 11 3 0 0)
    ∷ checks (with_several 2 (pos 7)) (1 ∷ 2 ∷ 0 ∷ 0 ∷ []) (answer 21 1 0 0)
    ∷ checks (with_several 2 (pos 7)) (1 ∷ 2 ∷ 0 ∷ 1 ∷ []) (answer 12 0 1 12)
    -- and with a bias
    ∷ checks bias_case (0 ∷ 0 ∷ []) (answer 21 0 0 0)
    ∷ checks false_bias (0 ∷ 0 ∷ []) (answer 21 0 0 0)
    ∷ checks (several_biased 2 (pos 3)) (1 ∷ 0 ∷ 0 ∷ 0 ∷ []) (answer 21 1 0 0)
    ∷ checks (several_biased 2 (pos 3)) (1 ∷ 0 ∷ 0 ∷ 2 ∷ []) (answer 0 0 0 32)
    -- with one column a false ticket is accepted with no list
    ∷ checks (one_column (pos 6)) (1 ∷ []) (answer 0 0 0 3)
    ∷ checks (one_column (pos 7)) (1 ∷ []) (answer 12 0 0 3)
    ∷ checks (one_column (pos 7)) (0 ∷ []) (answer 21 0 0 0)
    -- quotes: K, whose width of 31 or 0 is not read; K with a bias, of which 23 is the largest that 5 bits do for; K with rounding, and both
    ∷ quotes (setting 2 10 8 31) (figured 5 128 8 12)
    ∷ quotes (biased 23) (figured 5 160 8 16)
    ∷ quotes (biased 24) (figured 6 160 8 16)
    ∷ quotes (rounded 5) (figured 5 128 8 12)
    ∷ quotes (both 5 18) (figured 5 160 8 16)
    ∷ quotes (both 5 19) (figured 6 160 8 16)
    -- the widths that k is about are larger than needed: 1 fits. The largest that is ever quoted is 29
    ∷ quotes (setting 1 65_536 1 0) (figured 1 96 4 8)
    ∷ quotes (setting 1 2 23_170 0) (figured 29 96 4 8)
    ∷ quotes (setting 1 2 23_171 0) (no_figures 20)
    -- each refusal: 20 last, after 1, 2, 17 and 19
    ∷ quotes (setting 65 2 32_767 0) (no_figures 1)
    ∷ quotes (setting 64 1 32_767 0) (no_figures 2)
    ∷ quotes (with_bias (numbers 64 2 32_767 0 2) 1_073_741_825) (no_figures 17)
    ∷ quotes (with_bias (numbers 64 2 32_767 0 2) most_bias_bound) (no_figures 19)
    ∷ quotes (with_bias (numbers 64 2 32_767 0 1) most_bias_bound) (no_figures 20)
    ∷ []

-- of each claim, row by row
each : (ℕ → ℕ → ℤ) → List ℤ
each f = f 0 0 ∷ f 0 1 ∷ f 1 0 ∷ f 1 1 ∷ []

by_rules : Example → Example
by_rules (starts G _) = starts G (map (start G) (0 ∷ 1 ∷ 2 ∷ 3 ∷ 4 ∷ 5 ∷ []))
by_rules (held G ks _) = held G ks (map (holder (parts G)) ks)
by_rules (sums c _) = sums c (each (due c.setting (ticket c)))
by_rules (claims c _) = claims c (each (claim c.setting (ticket c)))
by_rules (read c _ _) = read c (each (quotient c.setting (ticket c))) (each (remainder c.setting (ticket c)))
by_rules (bytes c k _) = bytes c k (take record_bytes (drop (record_bytes * k) (ticket c)))
by_rules (product c x _) = product c x (map (λ k. signed_entry modulus (product_b c.setting (ticket c) x 0 k)) (0 ∷ 1 ∷ []))
by_rules (sides c x _ _) =
    sides c x (map (claim_side c.setting (ticket c) x 0) (0 ∷ 1 ∷ [])) (map (operand_side c.setting (ticket c) x 0) (0 ∷ 1 ∷ []))
by_rules (reads c _) = reads c (reading c.setting (ticket c))
by_rules (checks c x _) = checks c x (challenge_check c.setting (ticket c) x)
by_rules (checks_all c _) = checks_all c (full_check c.setting (ticket c))
by_rules (answers c n _) = answers c n (writing c.setting c.A c.B c.bias n)
by_rules (writes c _) = writes c (ticket_of c.setting c.A c.B c.bias)
by_rules (limits G _) = limits G (setting_number G)
by_rules (floors z d _) = floors z d (floor_division z d)
by_rules (quotes G _) = quotes G (quote_of G)
by_rules (rounds G S _ _) =
    let q = floor_division (dividend G S) G.scale in rounds G S q (dividend G S -ℤ pos G.scale *ℤ q)

examples_hold : map by_rules examples ≡ examples
unfolding modulus least_residue signed_entry int_sum matrix_product floor_division first scan after first_failed sizes_within scale_and_bound_within
    numbers_within fits_width limit_tests setting_tests is_entry shifted_quotient parts part count start records ticket_length holder value_at
    formed part_tests record_tests first_refusal records_reading reading value_in entry_a entry_b quotient remainder claim exact_sum biased_sum
    has_bias bias_bound bias_columns bias_within rounding_within entry_bias list_number first_nonzero vector_number list_reading product_b
    claim_side operand_side_by balanced_by first_row verdict challenge_check same holds full_verdict full_check joined beyond_number operands_reading
    writing quotient_of remainder_of integers_of integer_in record_of ticket_record ticket_of minus records_from ticket numbers setting biased
    rounded both sized under claiming biased_by bias_of bias_case false_bias true_remainders true_case changed rounded_by rounded_bias
    unrounded with_several several_biased one_column true_ticket bias_ticket rounded_ticket smallest_width quote_tests quote_of figured examples
    each by_rules
examples_hold = refl
