-- What the library reads is the number of the bytes (Numbers).
use Rattle.std.proofs.Common.{◌≡◌, ◌∙◌, arith}
use Rattle.vector_io.specs.Numbers.{number}
use Rattle.vector_io.proofs.Numbers.{eight_bytes, zeros_after}
use Rattle.vector_io.proofs.word_of.Goals as goal

pub returns : goal.returns
returns c =
    let x = c.args.bytes.now in
    let is : c.from_le_bytes.result ≡ number x = c.from_le_bytes.ensures ∙ eight_bytes x c.told-bytes in
    record { value = omega (arith, is); below = λ n e. omega (arith, is, zeros_after x n c.fits-bytes e) }
