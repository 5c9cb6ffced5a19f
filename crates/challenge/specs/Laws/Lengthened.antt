-- A challenge list x with a vector v at its end. G is the setting of x, with s vectors.
--
--   placed_after G a      the answer a of the tests of a vector, which is a list of one, with its place counted on after a list of s vectors
use Rattle.std.specs.Prelude.{◌+◌, ◌*◌, cond, eqb}
use Rattle.ticket.specs.declared.setting.Setting.{Setting}
use Rattle.ticket.specs.declared.Answer.{Answer}
use Rattle.ticket.specs.Rules.{refusal}

abbrev pub placed_after : Setting → Answer → Answer
placed_after G a =
    cond (eqb a.number 11) (refusal 11 (G.vectors * G.columns + a.place))
    (cond (eqb a.number 21) (refusal 21 (G.vectors + a.place)) a)
