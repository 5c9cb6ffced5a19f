use Rattle.std.proofs.Common.{◌∙◌, arith}
use Rattle.ticket.proofs.Laws.Forms.{first_word, header_formed}
use Rattle.ticket.proofs.records.formed.Goals as goal

pub returns : goal.returns
returns c = let a = c.args in
    header_formed _ _ (c.word.ensures ∙ first_word a.records.now a.i) c.word-2.ensures
    (λ k. omega (arith, c.shared_slice_known-1.given k)) (omega arith) (omega arith) (omega arith)
