-- A sum over a list in another order is the same, by any operation that is commutative and associative on the terms. Rests on Without and All.
use mathlib.Core.Path.{◌≡◌, refl, sym, ap, ◌∙◌}
use mathlib.Core.List.{List, [], ◌∷◌}
use Prim.Native.Nat.{ℕ, zero, suc, ◌<◌}
use native.Mathlib.Nat.{le_of_suc-le-suc}
use native.Mathlib.Omega.{arith}
use lib.ListN.{length, get_or}
use Rattle.lists.specs.Lists.{All}
use Rattle.lists.specs.Sums.{onto, sum_by, Adds, Rearranged}
use Rattle.lists.proofs.All.{all_get_or}
use Rattle.lists.proofs.Without.{cut, rest, all_cut}

pub adds_all : {A : Type 0} {add : A → A → A} → ((x y : A) → add x y ≡ add y x) → ((x y z : A) → add (add x y) z ≡ add x (add y z))
    → Adds add (λ x. Unit {0})
adds_all c d = record { keeps = λ x y a b. tt; comm = λ x y a b. c x y; assoc = λ x y z a b e. d x y z }

module _ {A B : Type 0} {add : A → A → A} {P : A → Type 0} (𝓐 : Adds add P) (f : B → A) where
  abbrev pub Terms : List B → Type 0
  Terms t = All (λ k. P (f k)) t

  term : (t : List B) (k : ℕ) (d : B) → k < length t → Terms t → P (f (get_or t k d))
  term t k d h a = all_get_or (λ k. P (f k)) t k d h a

  exchange : (x y z : A) → P x → P y → P z → add (add x y) z ≡ add (add x z) y
  exchange x y z a b c = 𝓐.assoc x y z a b c ∙ ap (add x) (𝓐.comm y z b c) ∙ sym (𝓐.assoc x z y a c b)

  onto_cut : (x : A) (t : List B) (k : ℕ) (d : B) → P x → Terms t → k < length t → onto add x t f ≡ onto add (add x (f (get_or t k d))) (cut k t) f
  unfolding onto cut
  onto_cut x [] k d p a h = absurd (omega arith)
  onto_cut x (y ∷ t) zero d p a h = refl
  onto_cut x (y ∷ t) (suc k) d p a h =
      let l : k < length t = le_of_suc-le-suc h in
      onto_cut (add x (f y)) t k d (𝓐.keeps x (f y) p a.0) a.1 l
      ∙ ap (λ z. onto add z (cut k t) f) (exchange x (f y) (f (get_or t k d)) p a.0 (term t k d l a.1))

  onto_rearranged : (x : A) (s t : List B) → P x → Terms t → Rearranged s t → onto add x s f ≡ onto add x t f
  unfolding onto
  onto_rearranged x [] [] p a r = refl
  onto_rearranged x [] (y ∷ t) p a r = absurd (omega (arith, r.size))
  onto_rearranged x (k ∷ s) t p a r =
      let i = r.from 0 in let first = r.within 0 (omega arith) in let same : f k ≡ f (get_or t i k) = ap f (r.same k 0 (omega arith)) in
      ap (λ z. onto add (add x z) s f) same
      ∙ onto_rearranged (add x (f (get_or t i k))) s (cut i t) (𝓐.keeps x _ p (term t i k first a)) (all_cut (λ k. P (f k)) i t a) (rest k s t r)
      ∙ sym (onto_cut x t i k p a first)

  sum_by_cut : (e : A) (t : List B) (k : ℕ) (d : B) → Terms t → k < length t → sum_by add e t f ≡ onto add (f (get_or t k d)) (cut k t) f
  unfolding sum_by onto cut
  sum_by_cut e [] k d a h = absurd (omega arith)
  sum_by_cut e (y ∷ t) zero d a h = refl
  sum_by_cut e (y ∷ t) (suc k) d a h =
      let l : k < length t = le_of_suc-le-suc h in
      onto_cut (f y) t k d a.0 a.1 l ∙ ap (λ z. onto add z (cut k t) f) (𝓐.comm (f y) (f (get_or t k d)) a.0 (term t k d l a.1))

  pub sum_by_rearranged : (e : A) (s t : List B) → Terms t → Rearranged s t → sum_by add e s f ≡ sum_by add e t f
  unfolding sum_by
  sum_by_rearranged e [] [] a r = refl
  sum_by_rearranged e [] (y ∷ t) a r = absurd (omega (arith, r.size))
  sum_by_rearranged e (k ∷ s) t a r =
      let i = r.from 0 in let first = r.within 0 (omega arith) in
      ap (λ z. onto add z s f) (ap f (r.same k 0 (omega arith)))
      ∙ onto_rearranged (f (get_or t i k)) s (cut i t) (term t i k first a) (all_cut (λ k. P (f k)) i t a) (rest k s t r)
      ∙ sym (sum_by_cut e t i k a first)
