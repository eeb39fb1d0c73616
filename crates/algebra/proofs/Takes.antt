-- How many coefficients a counted list has, and what its operations weigh, step by step. Rests on Lists, and lists' Sums.
--
--   weigh s p n       the operations n where a ring sum counts s and a ring product p
--   Takes s p B n x   x has B coefficients and took n, where a ring sum counts s and a ring product p
use mathlib.Core.Path.{◌≡◌, refl, sym, ap, ap₂, ◌∙◌}
use mathlib.Core.List.{List, [], ◌∷◌}
use Prim.Native.Nat.{ℕ, zero, suc, ◌+◌, ◌-◌, ◌*◌, ◌<◌}
use native.Mathlib.Omega.{arith}
use lib.ListN.{length, length-append}
use Rattle.ring.specs.Ring.{Ops}
use Rattle.lists.specs.Lists.{All}
use Rattle.lists.specs.Numbers.{series}
use Rattle.lists.specs.Sums.{onto, sum_by}
use Rattle.lists.proofs.Sums.{onto_more}
use Rattle.algebra.specs.Element.{plus, scale}
use Rattle.algebra.specs.Nested.{Count, both, Counted, free, onward, ◌⧺◌, row, ◌⊞◌, ◌⊠◌, sum_along}
use Rattle.algebra.proofs.Lists.{plus_length, scale_length}

unfoldable pub weigh : ℕ → ℕ → Count → ℕ
weigh s p n = s * n.sums + p * n.products

pub record Takes {A : Type 0} (s p B n : ℕ) (x : Counted A) : Type 0 where
  pub size : length x.value ≡ B
  pub took : weigh s p x.count ≡ n

weigh_both : (s p : ℕ) (x y : Count) → weigh s p (both x y) ≡ weigh s p x + weigh s p y
unfolding weigh both
weigh_both s p x y = omega arith

module _ {A : Type 0} {s p : ℕ} where
  pub takes_as : {B D n k : ℕ} {x : Counted A} → B ≡ D → n ≡ k → Takes s p B n x → Takes s p D k x
  takes_as e f t = record { size = t.size ∙ e; took = t.took ∙ f }

  pub takes_free : {B : ℕ} (h : List A) → length h ≡ B → Takes s p B 0 (free h)
  unfolding free weigh
  takes_free h e = record { size = e; took = omega arith }

  pub takes_onward : {B D n k : ℕ} {x : Counted A} (f : List A → Counted A) → Takes s p B n x
      → (length x.value ≡ B → Takes s p D k (f x.value)) → Takes s p D (n + k) (onward x f)
  unfolding onward
  takes_onward {x} f t u = let v = u t.size in record {
    size = v.size;
    took = weigh_both s p x.count (f x.value).count ∙ ap₂ ◌+◌ t.took v.took;
  }

  pub takes_join : {B D n k : ℕ} {x y : Counted A} → Takes s p B n x → Takes s p D k y → Takes s p (B + D) (n + k) (x ⧺ y)
  unfolding ◌⧺◌
  takes_join {x} {y} t u = record {
    size = length-append x.value y.value ∙ ap₂ ◌+◌ t.size u.size;
    took = weigh_both s p x.count y.count ∙ ap₂ ◌+◌ t.took u.took;
  }

  pub takes_row : (B a n : ℕ) (f : ℕ → Counted A) (k : ℕ → ℕ) → ((i : ℕ) → i < n → Takes s p B (k (a + i)) (f (a + i)))
      → Takes s p (n * B) (series a n k) (row a n f)
  unfolding row series
  takes_row B a zero f k t = takes_free [] (omega arith)
  takes_row B a (suc n) f k t = takes_as (omega arith) refl (takes_join (takes_row B a n f k (λ i l. t i (omega arith))) (t n (omega arith)))

module _ (A : Type 0) (o : Ops A) {s p : ℕ} where
  pub takes_plus : {B n k : ℕ} {x y : Counted A} → Takes s p B n x → Takes s p B k y → Takes s p B (n + k + s * B) (◌⊞◌ A o x y)
  unfolding ◌⊞◌ weigh both
  takes_plus {B} {x} {y} t u = record { size = e; took = omega (arith, ap (λ i. s * i) e, t.took, u.took) }
    where
      e : length (plus A o x.value y.value) ≡ B
      e = plus_length A o x.value y.value (t.size ∙ sym u.size) ∙ t.size

  pub takes_scale : {B n : ℕ} {x : Counted A} (c : A) → Takes s p B n x → Takes s p B (n + p * B) (◌⊠◌ A o c x)
  unfolding ◌⊠◌ weigh both
  takes_scale {B} {x} c t = record { size = e; took = omega (arith, ap (λ i. p * i) e, t.took) }
    where
      e : length (scale A o c x.value) ≡ B
      e = scale_length A o c x.value ∙ t.size

  takes_onto : (B : ℕ) {n : ℕ} {x : Counted A} (t : List ℕ) (f : ℕ → Counted A) (k : ℕ → ℕ) → Takes s p B n x → All (λ i. Takes s p B (k i) (f i)) t
      → Takes s p B (onto ◌+◌ n t k + length t * (s * B)) (onto (◌⊞◌ A o) x t f)
  unfolding onto
  takes_onto B {n = n} [] f k u v = takes_as refl (omega arith) u
  takes_onto B {n = n} (i ∷ t) f k u v =
      takes_as refl (omega (arith, onto_more (n + k i) (s * B) t k)) (takes_onto B {n = n + k i + s * B} t f k (takes_plus u v.0) v.1)

  -- at least one
  pub takes_sum : (B : ℕ) (t : List ℕ) (f : ℕ → Counted A) (k : ℕ → ℕ) → 0 < length t → All (λ i. Takes s p B (k i) (f i)) t
      → Takes s p B (sum_by ◌+◌ 0 t k + (length t - 1) * (s * B)) (sum_along A o t f)
  unfolding sum_along sum_by
  takes_sum B [] f k some v = absurd (omega arith)
  takes_sum B (i ∷ t) f k some v =
      let e : length t ≡ suc (length t) - 1 = omega arith in
      takes_as refl (ap (λ j. onto ◌+◌ (k i) t k + j * (s * B)) e) (takes_onto B t f k v.0 v.1)
