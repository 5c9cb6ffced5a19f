use mathlib.Core.Path.{refl}
use Rattle.challenge.proofs.Laws.Single.{entries_cut, quotients_cut, remainders_cut, row_decoded}
use Rattle.challenge.proofs.single.decode_row.Goals as goal

pub line-entries-requires : goal.line-entries-requires
line-entries-requires c = search entries_cut

pub line-quotients-requires : goal.line-quotients-requires
line-quotients-requires c = search quotients_cut

pub line-remainders-requires : goal.line-remainders-requires
line-remainders-requires c = search remainders_cut

pub returns : goal.returns
returns c = row_decoded c.requires c.part.ensures c.part-2.ensures
    c.part-3.ensures c.line-entries.ensures c.line-quotients.ensures c.line-remainders.ensures refl refl
    c.shifted_entries.ensures c.lifted_claims.ensures
