-- One store.
use Rattle.std.proofs.Common.{refl, arith, length-set}
use Rattle.output.proofs.Overwritten.{overwritten_byte}
use Rattle.output.proofs.lines.Text.put_byte.Goals as goal

pub returns : goal.returns
returns c = let t = c.args.self.now in record {
  put = overwritten_byte t.size c.args.b t.bytes.now (omega (arith, c.requires.within));
  room = length-set t.bytes.now t.size c.args.b;
  within = omega (arith, c.requires.within, length-set t.bytes.now t.size c.args.b);
  same = refl;
}
