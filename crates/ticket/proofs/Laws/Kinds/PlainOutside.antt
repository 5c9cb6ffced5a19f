-- What rests on Kinds.
--
--   plain_outside              no record is in the part of the bias
use Rattle.std.specs.Prelude.{ℕ, ◌+◌, ◌<◌, ◌≤◌, ◌≢◌}
use Rattle.std.proofs.Common.{arith}
use Rattle.ticket.specs.declared.published.PlainSetting.{PlainSetting}
use Rattle.ticket.specs.Rules.{plain, parts, part_size, part, start, records, holder, of_bias}
use Rattle.ticket.proofs.Laws.Layout.{held}
use Rattle.ticket.proofs.Laws.Kinds.{G, plain_parts}

module _ (P : PlainSetting) where
  pub plain_outside : (k : ℕ) → k < records (plain P) → holder (parts (plain P)) k ≢ of_bias
  plain_outside k l e =
      let at = held (G P) l in
      let below : k < start (G P) of_bias + part_size (part (G P) of_bias) = rw e at at.below in
      let from : start (G P) of_bias ≤ k = rw e at at.from in
      omega (arith, (plain_parts P).without)
