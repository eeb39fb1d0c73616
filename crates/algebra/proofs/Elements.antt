-- Elements by their coefficient functions: what the definitions on lists make of elements with given coefficients. Two elements with the same
-- coefficients are equal. Rests on Coefficients, OnPairs, CoefficientActions, PairLists and Order.
--
--   Has m h F    h is an element of rank m, and F(w) is its coefficient of T_w
use mathlib.Core.Path.{◌≡◌, refl, sym, ap, ap₂, ◌∙◌}
use mathlib.Core.List.{List, Memᴰ}
use Prim.Native.Nat.{ℕ, suc, ◌≤◌}
use native.Mathlib.Omega.{arith}
use lib.ListN.{length}
use Rattle.ring.specs.Ring.{Ops}
use Rattle.ring.specs.Sum.{sum}
use Rattle.ring.proofs.Sum.{sum_cong}
use Rattle.ring.proofs.Combination.{comb}
use Rattle.lists.specs.Numbers.{factorial}
use Rattle.lists.specs.Blocks.{block}
use Rattle.lists.proofs.All.{all_member}
use Rattle.lists.proofs.Blocks.{block_length}
use Rattle.perms.specs.Permutation.{Perm, Letter, Word}
use Rattle.perms.specs.ShortestWord.{shortest_word}
use Rattle.perms.proofs.Word.{word_up}
use Rattle.perms.proofs.ShortestWord.{shortest_word_shortest}
use Rattle.algebra.specs.Place.{place, join, perms}
use Rattle.algebra.specs.Element.{coefficient, plus, scale, sum_over, basis}
use Rattle.algebra.specs.Product.{act, times}
use Rattle.algebra.specs.Pairs.{OnPair, on_pairs, zipped}
use Rattle.algebra.proofs.Functions.{Eq}
use Rattle.algebra.proofs.Lists.{plus_length, scale_length}
use Rattle.algebra.proofs.PairLists.{zipped_length, get_or_zipped}
use Rattle.algebra.proofs.Enumeration.{perm_join, perms_perm}
use Rattle.algebra.proofs.Place.{place_below}
use Rattle.algebra.proofs.Order.{coefficient_block}
use Rattle.algebra.proofs.Delta.{delta}
use Rattle.algebra.proofs.Coefficients.{same_element, coefficient_plus, coefficient_scale, sum_over_length, coefficient_sum_over, basis_length, coefficient_basis}
use Rattle.algebra.proofs.Generator.{P, P_cong}
use Rattle.algebra.proofs.Words.{Rw, Rw_cong}
use Rattle.algebra.proofs.Convolution.{prod, prod_cong}
use Rattle.algebra.proofs.OnPairs.{on_pairs_length, coefficient_on_pairs}
use Rattle.algebra.proofs.CoefficientActions.{act_length, coefficient_act}

module _ (A : Type 0) (o : Ops A) where
  pub record Has (m : ℕ) (h : List A) (F : List ℕ → A) : Type 0 where
    pub size : length h ≡ factorial (suc m)
    pub values : Eq m (coefficient A o h) F

  pub has_own : {m : ℕ} {h : List A} → length h ≡ factorial (suc m) → Has m h (coefficient A o h)
  has_own e = record { size = e; values = λ w p. refl }

  pub has_basis : {m : ℕ} {v : List ℕ} → Perm m v → Has m (basis A o m v) (delta A o v)
  has_basis {m} {v} p = record { size = basis_length A o m v; values = coefficient_basis A o m v p }

  pub has_sum_over : {m : ℕ} {B : Type 0} (s : List B) {f : B → List A} {G : B → List ℕ → A} → ((v : B) → Memᴰ v s → Has m (f v) (G v))
      → Has m (sum_over A o m s f) (λ w. sum A o s (λ v. G v w))
  has_sum_over {m} s {f} {G} e = record {
    size = sum_over_length A o m s f (λ v i. (e v i).size);
    values = λ w p. coefficient_sum_over A o m s f (λ v i. (e v i).size) w p ∙ sum_cong A o s _ _ (λ v i. (e v i).values w p);
  }

  -- block k
  pub has_block : {m : ℕ} {h : List A} {F : List ℕ → A} (k : ℕ) → Has (suc m) h F → k ≤ suc m → Has m (block (factorial (suc m)) k h) (λ u. F (join m k u))
  unfolding factorial
  has_block {m} {h} k a l = record {
    size = block_length (factorial (suc m)) (suc (suc m)) k h (omega arith) a.size;
    values = λ u p. sym (coefficient_block A o h k u l p) ∙ a.values (join m k u) (perm_join k u l p);
  }

  module _ {m : ℕ} {h : List A} {F : List ℕ → A} (a : Has m h F) where
    pub has_eq : {G : List ℕ → A} → Eq m F G → Has m h G
    has_eq e = record { size = a.size; values = λ w p. a.values w p ∙ e w p }

    pub has_scale : (x : A) → Has m (scale A o x h) (λ w. o.mul x (F w))
    has_scale x = record {
      size = scale_length A o x h ∙ a.size;
      values = λ w p. coefficient_scale A o m x h a.size w p ∙ ap (o.mul x) (a.values w p);
    }

    pub has_on_pairs : (f : OnPair A) {i : ℕ} → Letter m i → Has m (on_pairs A o f m i h) (P f i F)
    has_on_pairs f {i} l = record {
      size = on_pairs_length A o f m i h;
      values = λ w p. coefficient_on_pairs A o f h l w p ∙ P_cong f l a.values w p;
    }

    pub has_act : (q r : A) (x : List ℕ) → Word m x → Has m (act A o q r m x h) (Rw A o q r x F)
    has_act q r x c = record {
      size = act_length A o q r m x h a.size;
      values = λ w p. coefficient_act A o q r x h c w p ∙ Rw_cong A o q r x c a.values w p;
    }

    module _ {g : List A} {G : List ℕ → A} (b : Has m g G) where
      pub has_plus : Has m (plus A o h g) (λ w. o.add (F w) (G w))
      has_plus = record {
        size = plus_length A o h g (a.size ∙ sym b.size) ∙ a.size;
        values = λ w p. coefficient_plus A o m h g a.size b.size w p ∙ ap₂ o.add (a.values w p) (b.values w p);
      }

      pub has_zipped : (f : A → A → A) → Has m (zipped f h g) (λ w. f (F w) (G w))
      unfolding coefficient
      has_zipped f =
          let same = a.size ∙ sym b.size in
          record {
            size = zipped_length f h g same ∙ a.size;
            values = λ w p.
                get_or_zipped f h g (place w) o.zero (omega (arith, place_below m w p, a.size)) same ∙ ap₂ f (a.values w p) (b.values w p);
          }

      pub equal_elements : Eq m F G → h ≡ g
      equal_elements e = same_element A o m h g a.size b.size (λ w p. (has_eq e).values w p ∙ sym (b.values w p))

  -- ---- products

  module _ {m : ℕ} {h : List A} {F : List ℕ → A} (a : Has m h F) where
    -- the sum over v of c(v) times h acted on by the word x(v)
    pub has_words : (q r : A) {l : ℕ} (x : List ℕ → List ℕ) (c : List ℕ → A) → ((v : List ℕ) → Perm l v → Word m (x v))
        → Has m (sum_over A o m (perms l) (λ v. scale A o (c v) (act A o q r m (x v) h))) (comb A o (perms l) c (λ v. Rw A o q r (x v) F))
    unfolding comb
    has_words q r {l} x c d = has_sum_over (perms l) (λ v i. has_scale (has_act a q r (x v) (d v (all_member (Perm l) i (perms_perm l)))) (c v))

    -- g may be of lower rank
    pub has_times : {l : ℕ} {g : List A} {G : List ℕ → A} → l ≤ m → Has l g G → (q r : A) → Has m (times A o q r m l h g) (prod A o q r l F G)
    unfolding times prod
    has_times {l} {g} n b q r = has_eq
        (has_words q r (shortest_word l) (coefficient A o g) (λ v c. word_up (shortest_word l v) n (shortest_word_shortest l v c).word))
        (prod_cong A o q r l n (λ w p. refl) b.values)
