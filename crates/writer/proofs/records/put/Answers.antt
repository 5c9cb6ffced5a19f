use Rattle.writer.proofs.Laws.Records.{words_put}
use Rattle.writer.proofs.records.put.Goals as goal

pub returns : goal.returns
returns c =
    rw (c.copy_from_slice.ensures.after, c.copy_from_slice-2.ensures.after, c.to_le_bytes.ensures, c.to_le_bytes-2.ensures)
    (words_put c.args.bytes.now c.requires c.args.header c.args.value)
