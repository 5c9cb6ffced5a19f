-- The loop keeps that the records of the parts before this one pass, and where this one starts.
use Rattle.std.proofs.Common.{◌≡◌}
use Rattle.ticket.specs.Rules.{start}
use Rattle.ticket.proofs.Laws.Parts.{ReadTo}
use Rattle.ticket.proofs.records.read_records.Given as goal

abbrev pub invariant-loop-which : goal.invariant-loop-which
invariant-loop-which l = (l.start ≡ start l.setting l.which) × ReadTo l.setting l.ticket l.which
