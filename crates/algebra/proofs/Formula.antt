-- Formula 3.1: what T_i makes of T_w, and of any element as a sum of these; and formula 4.1 on pairs. Rests on Elements, Reduced, Relations and Generator.
use mathlib.Core.Path.{◌≡◌, refl, sym, ap, ◌∙◌}
use mathlib.Core.Bool.{Bool, true, false, cond, not}
use mathlib.Core.List.{List, [], ◌∷◌}
use Prim.Native.Nat.{ℕ}
use Rattle.ring.specs.Ring.{Ops, Ring}
use Rattle.ring.proofs.Combination.{comb}
use Rattle.lists.proofs.All.{all_member}
use Rattle.perms.specs.Permutation.{Perm, Letter}
use Rattle.perms.proofs.Perm.{rgt, rgt_rgt, perm_rgt}
use Rattle.perms.proofs.Products.{product_generator}
use Rattle.perms.proofs.Ascent.{asc_r, flip_r}
use Rattle.perms.proofs.Longer.{asc_r_longer}
use Rattle.algebra.specs.Place.{perms}
use Rattle.algebra.specs.Element.{coefficient, plus, scale, basis}
use Rattle.algebra.specs.Product.{basis_letter, letter}
use Rattle.algebra.specs.Pairs.{forward, on_pairs}
use Rattle.algebra.specs.Laws.{Formula}
use Rattle.algebra.proofs.Functions.{Eq}
use Rattle.algebra.proofs.Enumeration.{perms_perm}
use Rattle.algebra.proofs.Delta.{delta, delta_sum}
use Rattle.algebra.proofs.Generator.{letter_on_pairs, P_cong, R}
use Rattle.algebra.proofs.Words.{Rw, Rw_comb}
use Rattle.algebra.proofs.Reduced.{R_delta}
use Rattle.algebra.proofs.Relations.{quadratic}
use Rattle.algebra.proofs.Elements.{Has, has_own, has_basis, has_eq, has_scale, has_plus, has_on_pairs, has_sum_over, equal_elements}

module _ (A : Type 0) (o : Ops A) (q r : A) (𝓡 : Ring A o) (m i : ℕ) (l : Letter m i) where
  has_letter : {h : List A} {F : List ℕ → A} → Has A o m h F → Has A o m (letter A o q r m i h) (R A o q r i F)
  unfolding letter on_pairs
  has_letter a = has_on_pairs A o a (forward A o q r) l

  -- w s_i is shorter than w
  R_shorter : (w : List ℕ) → Perm m w → asc_r i w ≡ false
      → Eq m (R A o q r i (delta A o w)) (λ u. o.add (o.mul r (delta A o w u)) (o.mul q (delta A o (rgt i w) u)))
  R_shorter w c e u p =
      P_cong (forward A o q r) l (λ v d. sym (back v d)) u p
      ∙ quadratic A o q r m 𝓡 (delta A o (rgt i w)) l u p
      ∙ ap (λ x. o.add (o.mul r x) (o.mul q (delta A o (rgt i w) u))) (back u p)
    where
      back : Eq m (R A o q r i (delta A o (rgt i w))) (delta A o w)
      back v d = R_delta A o q r 𝓡 (rgt i w) l (flip_r i w l c ∙ ap not e) v d ∙ ap (λ x. delta A o x v) (rgt_rgt i w)

  has_basis_letter : (w : List ℕ) → Perm m w → Has A o m (basis_letter A o q r m i w) (R A o q r i (delta A o w))
  unfolding basis_letter
  has_basis_letter w c = rw (product_generator i w c l, ← (asc_r_longer i w l c)) (go (asc_r i w) refl)
    where
      T : List ℕ → List A
      T v = basis A o m v

      go : (b : Bool) → asc_r i w ≡ b → Has A o m (cond b (T (rgt i w)) (plus A o (scale A o r (T w)) (scale A o q (T (rgt i w))))) (R A o q r i (delta A o w))
      go true e = has_eq A o (has_basis A o (perm_rgt l c)) (λ u p. sym (R_delta A o q r 𝓡 w l e u p))
      go false e =
          has_eq A o (has_plus A o (has_scale A o (has_basis A o c) r) (has_scale A o (has_basis A o (perm_rgt l c)) q)) (λ u p. sym (R_shorter w c e u p))

  R_sum : (F : List ℕ → A) → Eq m (R A o q r i F) (comb A o (perms m) F (λ w. R A o q r i (delta A o w)))
  unfolding comb Rw
  R_sum F u p = P_cong (forward A o q r) l (λ v c. sym (delta_sum A o 𝓡 m F v c)) u p ∙ ap (λ G. G u) (Rw_comb A o q r 𝓡 (i ∷ []) (perms m) F (delta A o))

pub formula : (A : Type 0) (o : Ops A) (q r : A) (𝓡 : Ring A o) (ok : A → Type 0) (m : ℕ) → Formula A o q r ok m
unfolding comb
formula A o q r 𝓡 ok m = record {
  basis_letter_lem = λ i w l c. equal_elements A o (has_letter A o q r 𝓡 m i l (has_basis A o c)) (has_basis_letter A o q r 𝓡 m i l w c) (λ u p. refl);
  linear = λ i l h a. equal_elements A o (has_letter A o q r 𝓡 m i l (has_own A o a.size))
      (has_sum_over A o (perms m) (λ w t. has_scale A o (has_basis_letter A o q r 𝓡 m i l w (all_member (Perm m) t (perms_perm m))) (coefficient A o h w)))
      (R_sum A o q r 𝓡 m i l (coefficient A o h));
  on_pairs_lem = λ i h. letter_on_pairs A o q r m i h;
}
