use Rattle.std.proofs.Common.{◌≡◌, ◌+◌, ◌^◌, ◌<◌, ◌++◌, length, sym, ap, ◌∙◌, arith, length-append}
use Rattle.std.proofs.lemmas.Result.{err_from_is_err_and}
use Rattle.ticket.specs.Rules.{of_bias, start}
use Rattle.ticket.proofs.Laws.Limits.{clamped_same}
use Rattle.ticket.proofs.Laws.Limits.ClampedSmall.{counts}
use Rattle.ticket.proofs.Laws.Layout.{parts_are}
use Rattle.ticket.proofs.Laws.Answers.{after_err, after_ok, passed_zero}
use Rattle.writer.proofs.Laws.Answers.{Lengths, in_order, passed_lengths}
use Rattle.writer.proofs.operands.read.Goals as goal

pub returns-in_err-lengths : goal.returns-in_err-lengths
returns-in_err-lengths c =
    let p = err_from_is_err_and c.from_residual.result c.from_residual.ensures.1 in
    rw (p.1, p.2) (after_err _ c.in_err-lengths.ensures _ ∙ sym (in_order _ _ _ _))

pub entries-requires : goal.entries-requires
entries-requires c =
    let of = c.args.job.now in
    let long : Lengths of.setting of.a.now of.b.now of.bias.now = passed_lengths _ _ _ _ (passed_zero c.in_ok-lengths.ensures) in
    omega (arith, long, parts_are of.setting, counts c.requires.sizes)

pub returns-in_err-entries : goal.returns-in_err-entries
returns-in_err-entries c =
    let p = err_from_is_err_and c.from_residual-in_err-entries.result c.from_residual-in_err-entries.ensures.1 in
    rw (p.1, p.2) (after_ok c.in_ok-lengths.ensures (after_err _ c.in_err-entries.ensures _) ∙ sym (in_order _ _ _ _))

pub first_beyond-requires : goal.first_beyond-requires
first_beyond-requires c =
    let of = c.args.job.now in
    let long : Lengths of.setting of.a.now of.b.now of.bias.now = passed_lengths _ _ _ _ (passed_zero c.in_ok-lengths.ensures) in
    let few : length of.a.now + length of.b.now + length of.bias.now < 2 ^ 32 =
    omega (arith, long, parts_are of.setting, counts c.requires.sizes) in
    let after_both : c.start.result ≡ length of.a.now + length of.b.now =
    c.start.ensures ∙ ap (λ H. start H of_bias) (clamped_same c.requires.sizes c.requires.numbers)
    ∙ omega (arith, long, parts_are of.setting) in
    omega (arith, after_both, few)

pub returns : goal.returns
returns c =
    let of = c.args.job.now in
    let long : Lengths of.setting of.a.now of.b.now of.bias.now = passed_lengths _ _ _ _ (passed_zero c.in_ok-lengths.ensures) in
    let after_both : c.start.result ≡ length (of.a.now ++ of.b.now) =
    c.start.ensures ∙ ap (λ H. start H of_bias) (clamped_same c.requires.sizes c.requires.numbers)
    ∙ omega (arith, length-append of.a.now of.b.now, long, parts_are of.setting) in
    after_ok c.in_ok-lengths.ensures (after_ok c.in_ok-entries.ensures (c.first_beyond.ensures ∙ rw (c.largest_bias.ensures, after_both)))
    ∙ sym (in_order _ _ _ _)
