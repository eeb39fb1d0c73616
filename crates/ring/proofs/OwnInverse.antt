-- Where f is its own inverse on what a list lists, the values f(x) of its elements are the list in another order, and a sum over f(x) is the sum over
-- x. Rests on Rearranged and Sum.
--
--   Enumerated t P at d   t lists what has the property P, each element once: x stands at the index at(x). Past the end of t one reads d
use Rattle.std.proofs.Common.{◌≡◌, ℕ, zero, suc, ◌<◌, List, [], ◌∷◌, map, length, get_or, sym, refl, ap, ◌∙◌, le_of_suc-le-suc, arith}
use lib.ListN.{length-map, get_or-map}
use Rattle.lists.specs.Sums.{Rearranged}
use Rattle.ring.specs.Ring.{Ops, Ring}
use Rattle.ring.specs.Sum.{sum}
use Rattle.ring.proofs.Sum.{sum_map}
use Rattle.ring.proofs.Rearranged.{sum_rearranged}

pub record Enumerated {B : Type 0} (t : List B) (P : B → Type 0) (at : B → ℕ) (d : B) : Type 0 where
  pub each : (i : ℕ) → i < length t → P (get_or t i d)
  pub below : (x : B) → P x → at x < length t
  pub there : (x : B) → P x → get_or t (at x) d ≡ x
  pub back : (i : ℕ) → i < length t → at (get_or t i d) ≡ i

get_or_any : {B : Type 0} (t : List B) (i : ℕ) (c d : B) → i < length t → get_or t i c ≡ get_or t i d
get_or_any [] i c d h = absurd (omega arith)
get_or_any (x ∷ t) zero c d h = refl
get_or_any (x ∷ t) (suc i) c d h = get_or_any t i c d (le_of_suc-le-suc h)

module _ {B : Type 0} {t : List B} {P : B → Type 0} {at : B → ℕ} {d : B} (L : Enumerated t P at d)
    (f : B → B) (keeps : (x : B) → P x → P (f x)) (undoes : (x : B) → P x → f (f x) ≡ x) where
  pub map_rearranged : Rearranged (map f t) t
  map_rearranged = record {
    size = length-map t f;
    from = λ i. at (f (x i));
    within = λ i h. L.below (f (x i)) (kept i h);
    apart = λ i j h l e. sym (L.back i (bound i h)) ∙ ap at (one i j h l e) ∙ L.back j (bound j l);
    same = λ c i h.
        get_or_any (map f t) i c (f d) h
        ∙ get_or-map f t i d
        ∙ sym (get_or_any t (at (f (x i))) c d (L.below (f (x i)) (kept i h)) ∙ L.there (f (x i)) (kept i h));
  }
    where
      x : ℕ → B
      x i = get_or t i d

      bound : (i : ℕ) → i < length (map f t) → i < length t
      bound i h = omega (arith, length-map t f)

      has : (i : ℕ) → i < length (map f t) → P (x i)
      has i h = L.each i (bound i h)

      kept : (i : ℕ) → i < length (map f t) → P (f (x i))
      kept i h = keeps (x i) (has i h)

      one : (i j : ℕ) → i < length (map f t) → j < length (map f t) → at (f (x i)) ≡ at (f (x j)) → x i ≡ x j
      one i j h l e =
          sym (undoes (x i) (has i h))
          ∙ ap f (sym (L.there (f (x i)) (kept i h)) ∙ ap (λ n. get_or t n d) e ∙ L.there (f (x j)) (kept j l))
          ∙ undoes (x j) (has j l)

  pub sum_own_inverse : (A : Type 0) (o : Ops A) → Ring A o → (g : B → A) → sum A o t (λ x. g (f x)) ≡ sum A o t g
  sum_own_inverse A o 𝓡 g = sym (sum_map A o f t g) ∙ sum_rearranged A o 𝓡 (map f t) t g map_rearranged
