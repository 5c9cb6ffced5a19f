use Rattle.std.proofs.Common.{arith, length-take-le}
use Rattle.std.proofs.lemmas.List.{length-replicate}
use Rattle.writer.proofs.Laws.Entries.{long_b}
use Rattle.writer.proofs.claims.write_within.Goals as goal

pub write_rows-requires : goal.write_rows-requires
write_rows-requires g c =
    let pre = c.requires.0 in
    let room = c.requires.1 in
    record {
      writable = pre.writable;
      half_is = pre.half_is;
      long_line = length-take-le _ _ (rw length-replicate room.for_line);
      long_columns = rw length-replicate (omega (arith, room.for_columns, long_b pre.writable));
      long_sums = length-take-le _ _ (rw length-replicate room.for_sums);
      long_output = pre.room;
    }
