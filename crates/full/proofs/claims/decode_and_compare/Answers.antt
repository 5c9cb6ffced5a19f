use Rattle.std.proofs.Common.{◌≡◌, ◌^◌, ◌<◌, ◌∙◌, arith, length-take-le}
use Rattle.ticket.specs.Laws.Limits.{lift}
use Rattle.full.proofs.Laws.Claims.{ListsHold, lists_hold, lifting_is, sums_verdict}
use Rattle.full.proofs.claims.decode_and_compare.Goals as goal
use Rattle.full.proofs.claims.decode_and_compare.Goals.{After-lift_of}

lists : (c : After-lift_of) → ListsHold c.args.setting c.args.ticket.now c.narrow_entries-2.new.list c.turn.new.list c.subtract_entries.new.list
lists c =
    lists_hold c.requires.0 c.requires.1 c.part-a.ensures c.part-b.ensures c.part-quotients.ensures c.part-remainders.ensures c.part-bias.ensures
    c.half-half.ensures c.narrow_entries.ensures c.turn.ensures c.narrow_entries-2.ensures c.lifted_claims.ensures c.subtract_entries.ensures

lifted : (c : After-lift_of) → let setting = c.args.setting in (c.lift_of.result ≡ lift setting) × (c.lift_of.result < 2 ^ 31)
lifted c = lifting_is c.requires.0 c.half-half.ensures c.lift_of.ensures

pub overflow_cast-decoded : goal.overflow_cast-decoded
overflow_cast-decoded c = omega (arith, lifted (goal.at.overflow_cast-decoded c).After-lift_of)

pub compare-requires : goal.compare-requires
compare-requires c =
    let hold = lists (goal.at.compare-requires c).After-lift_of in
    let passed = c.requires.0 in
    record {
      limits = record { sizes = passed.counts.sizes; numbers = passed.numbers; fitted = passed.fitted };
      row_is = length-take-le _ _ (omega (arith, passed.counts.sizes.columns));
      lift_is = (lifted (goal.at.compare-requires c).After-lift_of).0;
      rows_long = hold.rows_long;
      columns_long = hold.columns_long;
      claims_long = hold.claimed.long;
    }

pub returns-in-Ok : goal.returns-in-Ok
returns-in-Ok c = c.in-Ok.ensures ∙ sums_verdict c.requires.0 (lists (goal.at.returns-in-Ok c).After-lift_of)

pub returns-in-Err : goal.returns-in-Err
returns-in-Err c = c.in-Err.ensures ∙ sums_verdict c.requires.0 (lists (goal.at.returns-in-Err c).After-lift_of)
