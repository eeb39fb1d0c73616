-- In every commutative ring q - 1 is one less than q; so with r = q - 1 the definitions are an Iwahori-Hecke algebra. Rests on Laws.
use mathlib.Core.Path.{◌≡◌, ap, ◌∙◌}
use Prim.Native.Nat.{ℕ}
use Rattle.ring.specs.Ring.{Ops, Ring}
use Rattle.ring.proofs.Ring.{add_zero}
use Rattle.algebra.specs.Product.{minus_one}
use Rattle.algebra.specs.Laws.{defined, Hecke}
use Rattle.algebra.proofs.Laws.{laws}

module _ (A : Type 0) (o : Ops A) (𝓡 : Ring A o) (q : A) where
  minus_one_lem : o.add (minus_one A o q) o.one ≡ q
  unfolding minus_one
  minus_one_lem = 𝓡.add_assoc q (o.neg o.one) o.one ∙ ap (o.add q) (𝓡.neg_add o.one) ∙ add_zero A o 𝓡 q

  pub hecke : (ok : A → Type 0) (m : ℕ) → Hecke A o q (minus_one A o q) ok m (defined A o q (minus_one A o q) m)
  hecke ok m = record { minus_one_lem = minus_one_lem; laws = laws A o q (minus_one A o q) m 𝓡 ok }
