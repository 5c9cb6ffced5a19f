-- What rests on OutputLong.
--
--   length_output        the output is as long as before
use Rattle.std.specs.Prelude.{ℕ, ◌≡◌, List, ℤ, length}
use Rattle.std.proofs.Math.Decide.{ℕ_discrete}
use Rattle.std.proofs.Common.{arith, ap, ◌∙◌, length-append, length-drop}
use Rattle.ticket.specs.declared.setting.Setting.{Setting}
use Rattle.writer.specs.Rules.{writing, output_after}
use Rattle.writer.proofs.Laws.Answers.{output_refused}
use Rattle.writer.proofs.Laws.Answers.OutputWritten.{output_written}
use Rattle.writer.proofs.Laws.Records.{length_ticket_of}
use Rattle.exactness.proofs.Laws.Writer.OutputLong.{output_long}

module _ (G : Setting) (A B C : List ℤ) where
  pub length_output : (o : List ℕ) → length (output_after G A B C o) ≡ length o
  length_output o =
      elim (ℕ_discrete (writing G A B C (length o)).number 0) [
        | no d ↦ ap length (output_refused G A B C o d)
        | yes e ↦
            ap length (output_written G A B C o e)
            ∙ simp (length-append, length-drop, length_ticket_of) (omega (arith, (output_long G A B C) (length o) e))
      ]
