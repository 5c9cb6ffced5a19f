use borrow.Author.Rules.{rules}
use Rattle.std.proofs.Common.{refl, sym, ap, ◌∙◌}
use Rattle.std.proofs.lemmas.Result.{err_from_is_err_and}
use Rattle.ticket.specs.Rules.{setting_number}
use Rattle.ticket.proofs.Laws.Answers.{reason_numbered}
use Rattle.run.proofs.Laws.Additions.{reading_held, reading_passes, addition_list, addition_vector, addition_last, closed, opened, vector_plain}
use Rattle.run.proofs.Run.read_addition.Goals as goal

pub returns-in_err-read_list : goal.returns-in_err-read_list
returns-in_err-read_list c =
    let p = err_from_is_err_and c.from_residual.result c.from_residual.ensures.1 in
    let listed = reading_held c.args.self.now (search rules) c.from-setting.ensures c.held.ensures c.in_err-read_list.ensures in
    rw (p.1, p.2) (addition_list _ _ listed (reason_numbered _))

pub read_vector-requires : goal.read_vector-requires
read_vector-requires c =
    let listed = reading_held c.args.self.now (search rules) c.from-setting.ensures c.held.ensures c.in_ok-read_list.ensures in
    ap setting_number c.from-setting.ensures ∙ (reading_passes _ _ listed refl).0

pub returns-in_err-read_vector : goal.returns-in_err-read_vector
returns-in_err-read_vector c =
    let listed = reading_held c.args.self.now (search rules) c.from-setting.ensures c.held.ensures c.in_ok-read_list.ensures in
    let vector = vector_plain c.from-setting.ensures _ c.in_err-read_vector.ensures in
    let p = err_from_is_err_and c.from_residual-in_err-read_vector.result c.from_residual-in_err-read_vector.ensures.1 in
    rw (p.1, p.2) (addition_vector _ _ listed refl vector (reason_numbered _))

pub returns-then-not-is_open : goal.returns-then-not-is_open
returns-then-not-is_open c =
    let listed = reading_held c.args.self.now (search rules) c.from-setting.ensures c.held.ensures c.in_ok-read_list.ensures in
    rw c.from.ensures
    (addition_last _ _ listed refl (vector_plain c.from-setting.ensures _ c.in_ok-read_vector.ensures) refl
    (closed _ (sym c.is_open.ensures ∙ c.if-not-is_open.true)))

pub returns : goal.returns
returns c =
    let listed = reading_held c.args.self.now (search rules) c.from-setting.ensures c.held.ensures c.in_ok-read_list.ensures in
    let vector = vector_plain c.from-setting.ensures _ c.in_ok-read_vector.ensures in
    addition_last _ _ listed refl vector refl (opened _ (sym c.is_open.ensures ∙ c.if-not-is_open.false))
