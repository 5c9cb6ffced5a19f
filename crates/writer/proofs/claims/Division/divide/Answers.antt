use Rattle.std.proofs.Common.{◌≡◌, ◌∙◌}
use Rattle.writer.specs.Laws.Claims.{quotient_for}
use Rattle.writer.proofs.Laws.Claims.{quotient_low, quotient_high, remainder_made}
use Rattle.writer.proofs.claims.Division.divide.Goals as goal
use Rattle.writer.proofs.claims.Division.divide.Goals.{then-shifted-self, else-shifted-self}

pub returns : goal.returns
returns c =
    let quotient : c.if-shifted-self.quotient ≡ quotient_for c.args.self.setting c.args.sum = elim c.if-shifted-self.branch [
      | then-shifted-self w ↦ w.quotient-is ∙ search quotient_low
      | else-shifted-self w ↦ w.quotient-is ∙ search quotient_high
    ] in
    record { quotient_is = quotient; remainder_is = search remainder_made }
