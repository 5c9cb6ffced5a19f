use Rattle.challenge.proofs.Laws.Vectors.{line_within, matrix_ready, vector_makes, rows_ready, vector_answered}
use Rattle.challenge.proofs.rows.check_vector.Goals as goal

pub line-requires : goal.line-requires
line-requires c = line_within c.requires.0.there c.requires.2

pub product-requires : goal.product-requires
product-requires c = search matrix_ready

pub new-vector-requires : goal.new-vector-requires
new-vector-requires c = vector_makes c.requires.0.there c.requires.2 c.line.ensures c.widen.ensures c.part.ensures
    c.product.ensures c.part-bias.ensures c.requires.1

pub check_rows-requires : goal.check_rows-requires
check_rows-requires c = rows_ready c.requires.0.there c.requires.2 c.line.ensures c.widen.ensures c.part.ensures
    c.product.ensures c.part-bias.ensures c.requires.1 c.new-vector.ensures c.requires.0

pub returns : goal.returns
returns c = vector_answered c.requires.0.there c.requires.2 c.line.ensures c.widen.ensures c.part.ensures
    c.product.ensures c.part-bias.ensures c.requires.1 c.new-vector.ensures c.requires.0 c.check_rows.ensures
