-- What rests on PassingQuoted, Quotes.
use Rattle.std.specs.Prelude.{refl}
use Rattle.ticket.specs.declared.setting.Setting.{Setting}
use Rattle.quote.specs.Rules.{quote_of}
use Rattle.quote.proofs.Laws.Quotes.{QuoteRow, row_of}
use Rattle.quote.proofs.Laws.Quotes.PassingQuoted.{quote_exactly}

module _ (G : Setting) where
  pub quote_in_table : QuoteRow G (quote_of G)
  quote_in_table = (row_of G) (((quote_exactly G) (quote_of G)).0 refl)
