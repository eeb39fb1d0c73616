-- Bytes put after a text, and then more of them. Rests on Overwritten.
use mathlib.Core.Path.{refl, ◌∙◌}
use mathlib.Core.List.{List, [], ◌++◌}
use Prim.Native.Nat.{ℕ, ◌≤◌}
use native.Mathlib.Omega.{arith}
use lib.ListN.{length}
use Rattle.output.specs.declared.lines.Text.{Text}
use Rattle.output.specs.Steps.{Puts}
use Rattle.output.proofs.Overwritten.{overwritten_none, overwritten_more}

pub puts_none : (t : Text) → t.size ≤ length t.bytes.now → Puts [] t t
puts_none t h = record { put = overwritten_none t.size t.bytes.now; room = refl; within = h; same = refl }

module _ {x y : List ℕ} {t u v : Text} (p : Puts x t u) (q : Puts y u v) where
  pub puts_then : Puts (x ++ y) t v
  puts_then = record {
    put = overwritten_more p.put q.put (omega (arith, p.within, p.put.ends, p.room));
    room = q.room ∙ p.room;
    within = q.within;
    same = q.same ∙ p.same;
  }
