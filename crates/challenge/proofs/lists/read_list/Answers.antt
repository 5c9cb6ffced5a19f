use Rattle.std.proofs.Common.{refl, sym, ◌∙◌}
use Rattle.std.proofs.lemmas.Result.{err_from_is_err_and}
use Rattle.ticket.proofs.Laws.Answers.{reason_numbered}
use Rattle.challenge.proofs.Laws.Lists.{other_length, all_nonzero, list_numbers, list_vectors}
use Rattle.challenge.proofs.lists.read_list.Goals as goal

pub returns-then-list-count : goal.returns-then-list-count
returns-then-list-count c = rw c.from.ensures (other_length _ _ c.if-list-count.true)

pub returns-then-nonzero_residues : goal.returns-then-nonzero_residues
returns-then-nonzero_residues c = all_nonzero _ _ c.if-list-count.false c.requires.sizes.columns.0 (sym c.nonzero_residues.ensures ∙ c.if-nonzero_residues.true)

pub returns-in_err-read_numbers : goal.returns-in_err-read_numbers
returns-in_err-read_numbers c =
    let p = err_from_is_err_and c.from_residual.result c.from_residual.ensures.1 in
    rw (p.1, p.2) (list_numbers _ _ c.if-list-count.false c.in_err-read_numbers.ensures (reason_numbered _))

pub returns : goal.returns
returns c = list_vectors _ _ c.if-list-count.false c.in_ok-read_numbers.ensures refl c.read_vectors.ensures
