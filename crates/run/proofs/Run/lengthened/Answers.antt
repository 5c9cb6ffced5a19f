use borrow.Author.Rules.{rules}
use native.Mathlib.Omega.{arith}
use mathlib.Core.Path.{◌≡◌}
use lib.ListN.{length}
use Rattle.run.specs.Rules.{most_numbers}
use Rattle.run.proofs.Laws.Additions.{addition_fits}
use Rattle.run.proofs.Run.lengthened.Goals as goal

pub put-requires : goal.put-requires
put-requires c =
    let long : length c.args.self.list ≡ most_numbers = search rules in
    omega (arith, addition_fits c.requires (long), long)
