-- Counted lists of one length may be added in any order, where sums of coefficients are commutative and associative: value and count are the same. So h g is
-- the same, whatever the order of its parts at every level. Rests on Lists, Takes, Costs, ring's Rearranged, and lists' Range, Reversed, Without,
-- Rearranged, Sums and Blocks.
use mathlib.Core.Path.{◌≡◌, refl, sym, ap, ◌∙◌}
use mathlib.Core.List.{List, []}
use Prim.Native.Nat.{ℕ, zero, suc, ◌+◌, ◌-◌, ◌≤◌, ◌<◌}
use native.Mathlib.Omega.{arith}
use lib.ListN.{length, get_or, length-reverse}
use Rattle.ring.specs.Ring.{Ops, Ring}
use Rattle.ring.proofs.Rearranged.{adds_ring}
use Rattle.lists.specs.Lists.{range, All}
use Rattle.lists.specs.Numbers.{factorial}
use Rattle.lists.specs.Sums.{Adds, Rearranged}
use Rattle.lists.specs.Blocks.{block}
use Rattle.lists.proofs.Range.{length_range, get_or_range, all_range}
use Rattle.lists.proofs.Reversed.{get_or_reverse, reverse_rearranged}
use Rattle.lists.proofs.Without.{all_rearranged}
use Rattle.lists.proofs.Rearranged.{sum_by_rearranged}
use Rattle.lists.proofs.Sums.{sum_by_cong}
use Rattle.lists.proofs.Blocks.{block_length}
use Rattle.algebra.specs.Element.{plus}
use Rattle.algebra.specs.Nested.{both, rising, falling, EachOnce, Counted, free, onward, ◌⊞◌, sum_along, nested_act, nested}
use Rattle.algebra.specs.Method.{Orders}
use Rattle.algebra.proofs.Lists.{plus_length, plus_comm, plus_assoc}
use Rattle.algebra.proofs.Takes.{takes_onward}
use Rattle.algebra.proofs.Costs.{act_takes, product_takes}

pub falling_once : EachOnce falling
unfolding falling
falling_once l = reverse_rearranged (rising l)

pub falling_length : (l : ℕ) → length (falling l) ≡ suc l
unfolding falling rising
falling_length l = length-reverse (range 0 (suc l)) ∙ length_range 0 (suc l)

pub falling_at : (l i : ℕ) → i ≤ l → get_or (falling l) i 0 ≡ l - i
unfolding falling rising
falling_at l i h =
    let n = length_range 0 (suc l) in
    let k : length (range 0 (suc l)) - suc i ≡ l - i = omega (arith, n) in
    get_or_reverse (range 0 (suc l)) i 0 (omega (arith, n)) ∙ ap (λ j. get_or (range 0 (suc l)) j 0) k ∙ get_or_range 0 (suc l) (l - i) (omega arith) ∙ omega arith

pub rising_once : EachOnce rising
rising_once l = record { size = refl; from = λ i. i; within = λ i h. h; apart = λ i j h k e. e; same = λ d i h. refl }

-- the part (h g_k) T_a(l+1,k)
abbrev pub summand : (A : Type 0) (o : Ops A) (q r : A) (order : ℕ → List ℕ) (m l : ℕ) (h g : List A) → ℕ → Counted A
summand A o q r order m l h g k = onward (nested A o q r order m l h (block (factorial (suc l)) k g)) (nested_act A o q r m (suc l) k)

module _ (A : Type 0) (o : Ops A) (𝓐 : Adds o.add (λ x. Unit {0})) where
  -- ---- sums of counted lists of n coefficients

  counted : {x y : Counted A} → x.value ≡ y.value → x.count.sums ≡ y.count.sums → x.count.products ≡ y.count.products → x ≡ y
  counted e s p = λ i. record { value = e i; count = record { sums = s i; products = p i } }

  counted_adds : (n : ℕ) → Adds (◌⊞◌ A o) (λ x. length x.value ≡ n)
  unfolding ◌⊞◌ both
  counted_adds n = record {
    keeps = λ x y a b. long x.value y.value a b;
    comm = λ x y a b.
        let e = plus_comm A o (λ a b. 𝓐.comm a b tt tt) x.value y.value in
        counted e (omega (arith, ap length e)) (omega arith);
    assoc = λ x y z a b c.
        let e = plus_assoc A o (λ a b c. 𝓐.assoc a b c tt tt tt) x.value y.value z.value in
        counted e (omega (arith, ap length e, long x.value y.value a b, long y.value z.value b c)) (omega arith);
  }
    where
      long : (h g : List A) → length h ≡ n → length g ≡ n → length (plus A o h g) ≡ n
      long h g a b = plus_length A o h g (a ∙ sym b) ∙ a

  pub any_parts : (n : ℕ) (s t : List ℕ) (f : ℕ → Counted A) → Rearranged s t → All (λ k. length (f k).value ≡ n) t
      → sum_along A o s f ≡ sum_along A o t f
  unfolding sum_along
  any_parts n s t f r a = sum_by_rearranged (counted_adds n) f (free []) s t a r

  -- ---- the product

  module _ (q r : A) where
    pub any_order : {order : ℕ → List ℕ} → EachOnce order → (m l : ℕ) (h g : List A) → l ≤ m → length h ≡ factorial (suc m) → length g ≡ factorial (suc l)
        → nested A o q r order m l h g ≡ nested A o q r rising m l h g
    unfolding nested factorial sum_along rising
    any_order any m zero h g lm e d = refl
    any_order {order} any m (suc l) h g lm e d =
        sum_by_cong (◌⊞◌ A o) (free []) (order (suc l)) (summand A o q r order m l h g) (summand A o q r rising m l h g)
        (all_rearranged _ (order (suc l)) (rising (suc l)) 0 (any (suc l)) (all_range _ 0 (suc (suc l)) (λ k _ n.
        ap (λ x. onward x (nested_act A o q r m (suc l) k)) (any_order any m l h (block (factorial (suc l)) k g) (omega arith) e (size k n)))))
        ∙ any_parts (factorial (suc m)) (order (suc l)) (rising (suc l)) (summand A o q r rising m l h g) (any (suc l))
        (all_range _ 0 (suc (suc l)) (λ k _ n.
        (takes_onward _ (product_takes A o q r 0 0 rising_once m l h (block (factorial (suc l)) k g) (omega arith) e (size k n))
        (act_takes A o q r 0 0 m (suc l) k _ (omega arith) lm)).size))
      where
        size : (k : ℕ) → k < 0 + suc (suc l) → length (block (factorial (suc l)) k g) ≡ factorial (suc l)
        size k n = block_length (factorial (suc l)) (suc (suc l)) k g (omega arith) d

pub orders : (A : Type 0) (o : Ops A) (q r : A) → Adds o.add (λ x. Unit {0}) → (ok : A → Type 0) (m : ℕ) → Orders A o q r ok m
orders A o q r 𝓐 ok m = record {
  parts = any_parts A o 𝓐;
  same = λ order any l b h g e d. any_order A o 𝓐 q r any m l h g b e.size d.size;
}

pub ring_orders : (A : Type 0) (o : Ops A) (q r : A) → Ring A o → (ok : A → Type 0) (m : ℕ) → Orders A o q r ok m
ring_orders A o q r 𝓡 ok m = orders A o q r (adds_ring A o 𝓡) ok m
