-- One digit, or the digits but the last and then the last. Rests on Decimal and Overwritten.
use Rattle.std.proofs.Common.{◌+◌, ◌%◌, arith}
use Rattle.output.proofs.Overwritten.{overwritten_byte, overwritten_more, overwritten_size}
use Rattle.output.proofs.Decimal.{decimal_digit, decimal_last, length_digit, length_last}
use Rattle.output.proofs.lines.+write_digits.Goals as goal

pub bounds-bytes-at : goal.bounds-bytes-at
bounds-bytes-at t c = omega (arith, c.requires, length_digit c.args.n (omega arith))

pub returns-then-n-lt10 : goal.returns-then-n-lt10
returns-then-n-lt10 t c = rw (decimal_digit c.args.n (omega arith)) (overwritten_byte c.args.at (48 + c.args.n) c.args.bytes.now (bounds-bytes-at t c))

pub write_digits-last-requires : goal.write_digits-last-requires
write_digits-last-requires t c = (omega arith, omega (arith, c.requires, length_last c.args.n (omega arith)))

pub bounds-bytes-last : goal.bounds-bytes-last
bounds-bytes-last t c =
    let p = c.write_digits-last.ensures in
    let more = length_last c.args.n (omega arith) in
    omega (arith, c.requires, more, p.ends, overwritten_size p (omega (arith, c.requires, more)))

pub overflow_add-result-2 : goal.overflow_add-result-2
overflow_add-result-2 t c = omega (arith, bounds-bytes-last t c)

pub returns : goal.returns
returns t c = let w = c.write_digits-last in
    let digit = overwritten_byte w.result (48 + c.args.n % 10) w.new.bytes (bounds-bytes-last t c) in
    rw (decimal_last c.args.n (omega arith)) (overwritten_more w.ensures digit (omega (arith, c.requires)))
