-- The bytes that are not read are zeros (Numbers).
use Rattle.std.proofs.Common.{arith}
use Rattle.vector_io.proofs.Numbers.{padded}
use Rattle.vector_io.proofs.read_number.Goals as goal

pub returns : goal.returns
returns g c =
    let n = c.args.size in
    (omega arith, c.word_of.ensures.below n (padded c.read_exact.new.buf n (omega arith) c.read_exact.auto.buf))
