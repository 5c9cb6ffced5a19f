use Rattle.files.proofs.Laws.Lines.PutLine.{put_line}
use Rattle.files.proofs.text.line.Goals as goal

pub returns : goal.returns
returns c =
    put_line _ c.put_field-number.ensures.0 c.put_field-place.ensures.0 c.put_field-row.ensures.0
    c.put_field.ensures.0
