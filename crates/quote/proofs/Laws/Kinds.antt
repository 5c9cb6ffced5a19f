-- The figures of a quote without a bias and with one, in numbers. P is the public numbers, W the bound of the bias, v the width.
--
--   plain_figures   for a plain ticket
--   bias_figures    for a bias ticket
use Rattle.std.specs.Prelude.{ℕ, ◌+◌, ◌*◌, ◌≡◌}
use Rattle.ticket.specs.declared.published.PlainSetting.{PlainSetting}
use Rattle.ticket.specs.Rules.{plain, with_bias}
use Rattle.ticket.proofs.Laws.Kinds.{plain_length, bias_length}
use Rattle.challenge.proofs.Laws.Kinds.{plain_accepted, bias_accepted}
use Rattle.quote.specs.Rules.{figures}

module _ (P : PlainSetting) (v : ℕ) where
  pub plain_figures : figures (plain P) v ≡ record {
    number = 0;
    width = v;
    length = 8 * (P.rows * P.inner + P.inner * P.columns + 2 * (P.rows * P.columns));
    full = P.rows * P.inner * P.columns;
    challenge = P.vectors * (P.inner * P.columns + P.rows * P.columns + P.rows * P.inner);
  }
  plain_figures = rw (plain_length P, plain_accepted P)

  pub bias_figures : (W : ℕ) → figures (with_bias P W) v ≡ record {
    number = 0;
    width = v;
    length = 8 * (P.rows * P.inner + P.inner * P.columns + 3 * (P.rows * P.columns));
    full = P.rows * P.inner * P.columns;
    challenge = P.vectors * (P.inner * P.columns + 2 * (P.rows * P.columns) + P.rows * P.inner);
  }
  bias_figures W = rw (bias_length P W, bias_accepted P W)
