use Rattle.std.proofs.Common.{refl, sym, ◌∙◌, arith}
use Rattle.std.proofs.lemmas.Result.{err_from_is_err_and}
use Rattle.ticket.specs.Laws.Parts.{PartReady}
use Rattle.ticket.proofs.Laws.Answers.{reason_numbered}
use Rattle.ticket.proofs.Laws.Parts.{part_ready, part_answer_lem, part_end, read_none, read_next, read_refused, read_all}
use Rattle.ticket.proofs.Laws.Layout.{start_none}
use Rattle.ticket.proofs.records.read_records.Goals as goal

pub loop-which-init : goal.loop-which-init
loop-which-init c = (sym (start_none _), read_none _ _)

pub read_part-requires : goal.read_part-requires
read_part-requires c = part_ready c.loop-which.which c.requires.0 c.form_of-form.ensures c.loop-which.invariant.0

pub returns-in_err-read_part : goal.returns-in_err-read_part
returns-in_err-read_part c = let p = err_from_is_err_and c.from_residual.result c.from_residual.ensures.1 in
    rw (p.1, p.2)
    (read_refused _ _ _ c.loop-which.invariant.1
    (c.in_err-read_part.ensures ∙ part_answer_lem c.loop-which.which c.requires.0 c.form_of-form.ensures c.loop-which.invariant.0)
    (reason_numbered _))

pub overflow_add-start : goal.overflow_add-start
overflow_add-start c =
    let ready : PartReady c.form_of-form.result c.loop-which.start c.args.ticket.now =
    part_ready c.loop-which.which c.requires.0 c.form_of-form.ensures c.loop-which.invariant.0 in
    omega (arith, ready, c.size-start.ensures)

pub loop-which-preserved : goal.loop-which-preserved
loop-which-preserved c = (
  rw c.size-start.ensures (part_end c.loop-which.which c.requires.0 c.form_of-form.ensures c.loop-which.invariant.0),
  read_next _ _ _ c.loop-which.invariant.1
      (c.in_ok-read_part.ensures ∙ part_answer_lem c.loop-which.which c.requires.0 c.form_of-form.ensures c.loop-which.invariant.0) refl,
)

pub returns : goal.returns
returns c = read_all _ _ (omega arith) c.loop-which.invariant.1
