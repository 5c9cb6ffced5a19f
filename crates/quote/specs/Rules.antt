-- The quote: what the tickets of a layer need, before there are operands (tests 1, 2, 17, 19 and 20). These are the rules. They are all
-- that a reader has to believe beside those of the crates below; nothing is proved here. G is a setting, with a bias or without; its width
-- is not read.
--
--   smallest_width G   the smallest width from 1 on with which the setting fits; one more than the largest width where none fits
--   quote_limits G     tests 1, 2, 17 and 19, in order; of the numbers that test 2 is about, the scale and the bound
--   quote_tests G      those, then 20
--   quote_number G     the first of them that fails, 0 where none does
--   figures G v       the quote with the width v: the bytes of a ticket, and the products of a full check and of a challenge check that accept
--   no_figures c       the quote of number c, every figure of which is 0
--   quote_of G         the quote
use Rattle.std.specs.Prelude.{ℕ, suc, not, List, [], ◌∷◌, ◌++◌, leb, eqb}
use Rattle.ticket.specs.declared.setting.Setting.{Setting}
use Rattle.ticket.specs.Rules.{first, unless, Test, test, first_failed, most_width, scale_and_bound_within, fits_width, limit_tests, sum_products, ticket_length}
use Rattle.challenge.specs.Rules.{challenge_products}
use Rattle.quote.specs.declared.Quote.{Quote}

-- the first width at which 'it does not fit' fails
unfoldable pub smallest_width : Setting → ℕ
smallest_width G = suc (first most_width (λ k. not (fits_width G (suc k))))

abbrev pub quote_limits : Setting → List Test
quote_limits G = limit_tests G (scale_and_bound_within G)

unfoldable pub quote_tests : Setting → List Test
quote_tests G = quote_limits G ++ (test (leb (smallest_width G) most_width) 20 ∷ [])

abbrev pub quote_number : Setting → ℕ
quote_number G = first_failed (quote_tests G)

abbrev pub figures : Setting → ℕ → Quote
figures G v =
    record {
      number = 0;
      width = v;
      length = ticket_length G;
      full = sum_products G;
      challenge = challenge_products G;
    }

abbrev pub no_figures : ℕ → Quote
no_figures c = record { number = c; width = 0; length = 0; full = 0; challenge = 0 }

unfoldable pub quote_of : Setting → Quote
quote_of G = unless (eqb (quote_number G) 0) (no_figures (quote_number G)) (figures G (smallest_width G))
