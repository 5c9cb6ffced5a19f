use Rattle.std.proofs.Common.{◌+◌, ◌%◌, ◌^◌, ap, ◌∙◌, arith, rules}
use Rattle.writer.proofs.Laws.Operands.{no_bias_word, word_read}
use Rattle.writer.proofs.operands.with_bias.Goals as goal

pub returns-then-is_empty : goal.returns-then-is_empty
returns-then-is_empty c =
    let of = c.args in
    no_bias_word of.bias.now of.k of.sum (search rules) (omega arith)

pub returns : goal.returns
returns c = ap (λ n. (c.args.sum + n) % 2 ^ 32) (c.cast_unsigned.ensures ∙ word_read _ (search rules))
