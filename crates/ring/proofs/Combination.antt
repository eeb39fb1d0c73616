-- Linear combinations of functions in a ring: one term, sums and multiples of the coefficients, two combinations in either order. Rests on Sum.
--
--   comb A o s a G w    the sum over v in s of a(v) G(v)(w)
use Rattle.std.proofs.Common.{◌≡◌, List, [], ◌∷◌, sym, ap, ◌∙◌}
use mathlib.Core.Path.{fun_ext}
use Rattle.ring.specs.Ring.{Ops, Ring}
use Rattle.ring.specs.Sum.{sum}
use Rattle.ring.proofs.Ring.{add_zero, mul_left_comm, add_mul}
use Rattle.ring.proofs.Sum.{sum_add, sum_mul, sum_swap}

module _ (A : Type 0) (o : Ops A) {B C : Type 0} where
  unfoldable pub comb : List B → (B → A) → (B → C → A) → C → A
  comb s a G w = sum A o s (λ v. o.mul (a v) (G v w))

module _ (A : Type 0) (o : Ops A) (𝓡 : Ring A o) {B C : Type 0} where
  pub comb_one : (x : B) (a : A) (F : C → A) → comb A o (x ∷ []) (λ v. a) (λ v. F) ≡ (λ w. o.mul a (F w))
  unfolding comb sum
  comb_one x a F = fun_ext (λ w. add_zero A o 𝓡 (o.mul a (F w)))

  pub comb_add : (s : List B) (a b : B → A) (G : B → C → A) (w : C) → comb A o s (λ v. o.add (a v) (b v)) G w ≡ o.add (comb A o s a G w) (comb A o s b G w)
  unfolding comb
  comb_add s a b G w = simp (add_mul A o 𝓡, sum_add A o 𝓡)

  pub comb_mul : (s : List B) (x : A) (a : B → A) (G : B → C → A) (w : C) → comb A o s (λ v. o.mul x (a v)) G w ≡ o.mul x (comb A o s a G w)
  unfolding comb
  comb_mul s x a G w = simp (𝓡.mul_assoc, sum_mul A o 𝓡)

module _ (A : Type 0) (o : Ops A) (𝓡 : Ring A o) {B D C : Type 0} (s : List B) (t : List D) (a : B → A) (b : D → A) (G : B → D → C → A) where
  pub comb_swap : (w : C) → comb A o s a (λ v. comb A o t b (λ u. G v u)) w ≡ comb A o t b (λ u. comb A o s a (λ v. G v u)) w
  unfolding comb
  comb_swap w =
      ap (sum A o s) (fun_ext (λ v. sym (sum_mul A o 𝓡 t (a v) (λ u. o.mul (b u) (G v u w)))))
      ∙ sum_swap A o 𝓡 s t (λ v u. o.mul (a v) (o.mul (b u) (G v u w)))
      ∙ ap (sum A o t) (fun_ext inner)
    where
      inner : (u : D) → sum A o s (λ v. o.mul (a v) (o.mul (b u) (G v u w))) ≡ o.mul (b u) (sum A o s (λ v. o.mul (a v) (G v u w)))
      inner u =
          ap (sum A o s) (fun_ext (λ v. mul_left_comm A o 𝓡 (a v) (b u) (G v u w)))
          ∙ sum_mul A o 𝓡 s (b u) (λ v. o.mul (a v) (G v u w))
