-- What rests on Lines.
--
--   put_line         four fields are the line
use Rattle.std.specs.Prelude.{ℕ, ◌≡◌, List, ◌++◌, length, drop}
use Rattle.std.proofs.Common.{arith, ◌∙◌}
use Rattle.ticket.specs.declared.Answer.{Answer}
use Rattle.files.specs.Rules.{space, line_feed, field, line_of}
use Rattle.files.specs.Laws.Prefixes.{Leads}
use Rattle.files.proofs.Laws.Prefixes.{leads}
use Rattle.files.specs.Laws.Lines.{Put}
use Rattle.files.proofs.Laws.Lines.{put_long, put_more}

pub put_line : {first second third fourth after : List ℕ} {i j k l : ℕ} (a : Answer) → Put first 0 (field a.number space) i second
    → Put second i (field a.place space) j third → Put third j (field a.row space) k fourth
    → Put fourth k (field a.products line_feed) l after
    → (l ≡ length (line_of a)) × (after ≡ line_of a ++ drop l first) × Leads l after
unfolding line_of
put_line {after = after} {l = l} a number place row products =
    let put = put_more (put_more (put_more number place) row) products in
    (put.place ∙ omega arith, put.bytes, leads l after (omega (arith, put.inside, put_long put)))
