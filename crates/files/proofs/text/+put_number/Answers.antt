use Rattle.std.proofs.Common.{arith}
use Rattle.files.proofs.Laws.Lines.{digit_room, length_longer, put_digit, put_digits}
use Rattle.files.proofs.text.+put_number.Goals as goal

pub bounds-output-at : goal.bounds-output-at
bounds-output-at t c = search digit_room

pub returns-then-number-lt10 : goal.returns-then-number-lt10
returns-then-number-lt10 t c = search (put_digit, digit_room)

pub put_number-last-requires : goal.put_number-last-requires
put_number-last-requires t c = (omega arith, omega (arith, length_longer _ c.if-number-lt10.false))

pub bounds-output-last : goal.bounds-output-last
bounds-output-last t c =
    let longer = length_longer _ c.if-number-lt10.false in
    let put = c.put_number-last in
    omega (arith, put.auto.output, put.ensures.place, longer, c.requires)

pub returns : goal.returns
returns t c =
    let longer = length_longer _ c.if-number-lt10.false in
    let put = c.put_number-last in
    put_digits c.args.number c.if-number-lt10.false (omega (arith, put.auto.output, put.ensures.place, longer, c.requires)) put.ensures
