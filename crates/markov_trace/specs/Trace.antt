-- The Markov trace with the parameter z (document 02, Ticket 4; in the field's words Ocneanu's trace), for any operations o on A, where r stands for
-- q - 1.
--
--   embed m h            h of rank m as an element of rank m + 1: its coefficients first, then zeros
--   sums a n f           f(a) + f(a + 1) + .. + f(a + n)
--   turned q r m h k     h_k T_a(m,k-1), where h_k is block k of h, of rank m + 1, and a(m, k - 1) acts through its word
--   trace q r z m h      the trace of h of rank m. At rank 0 it is the coefficient; at rank m + 1 it is that of h_0, plus z times the sum over
--                        k = 1 to m + 1 of that of h_k T_a(m,k-1)
--   lowered q r z m h    h_0 plus z times the sum of h_k T_a(m,k-1), for h of rank m + 1: the element of rank m that has the trace of h (in the
--                        field's words the conditional expectation of h)
use Rattle.std.specs.Prelude.{List, ◌++◌, ℕ, zero, suc, ◌+◌, ◌-◌, ◌*◌, get_or, replicate}
use Rattle.ring.specs.Ring.{Ops}
use Rattle.ring.specs.Sum.{sum}
use Rattle.lists.specs.Lists.{range}
use Rattle.lists.specs.Numbers.{factorial}
use Rattle.lists.specs.Blocks.{block}
use Rattle.perms.specs.Tower.{cycle}
use Rattle.algebra.specs.Element.{plus, scale}
use Rattle.algebra.specs.Product.{act}

module _ (A : Type 0) (o : Ops A) where
  unfoldable pub embed : ℕ → List A → List A
  embed m h = h ++ replicate (suc m * factorial (suc m)) o.zero

  unfoldable pub sums : ℕ → ℕ → (ℕ → List A) → List A
  sums a zero f = f a
  sums a (suc n) f = plus A o (sums a n f) (f (a + suc n))

  module _ (q r : A) where
    unfoldable pub turned : ℕ → List A → ℕ → List A
    turned m h k = act A o q r m (cycle m (k - 1)) (block (factorial (suc m)) k h)

    module _ (z : A) where
      unfoldable pub trace : ℕ → List A → A
      trace zero h = get_or h 0 o.zero
      trace (suc m) h =
          o.add (trace m (block (factorial (suc m)) 0 h)) (o.mul z (sum A o (range 1 (suc m)) (λ k. trace m (turned m h k))))

      unfoldable pub lowered : ℕ → List A → List A
      lowered m h = plus A o (block (factorial (suc m)) 0 h) (scale A o z (sums 1 m (turned m h)))
