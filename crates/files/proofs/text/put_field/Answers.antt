use native.Mathlib.Omega.{arith}
use Rattle.files.proofs.Laws.Lines.{number_short, put_end}
use Rattle.files.proofs.text.put_field.Goals as goal

pub put_number-next-requires : goal.put_number-next-requires
put_number-next-requires c = omega (arith, number_short _ c.ranges.number.fits)

pub bounds-output-next : goal.bounds-output-next
bounds-output-next c =
    let put = c.put_number-next in
    omega (arith, put.auto.output, put.ensures.place, number_short _ c.ranges.number.fits, c.requires)

pub returns : goal.returns
returns c =
    let put = c.put_number-next.ensures in
    (put_end _ _ (bounds-output-next c) put, omega (arith, put.place, number_short _ c.ranges.number.fits))
