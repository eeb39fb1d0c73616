-- The pairing is the coefficient of the unit in the product, and so linear in each argument, in every commutative ring and for any q and r. The letters
-- of a shortest word of v, from the last on, lead from the identity up to the inverse of v, and at each of them formula 4.1 multiplies by q: so the
-- coefficient of h T_v at the identity is q to the power ℓ(v) times that of h at the inverse of v. Rests on Inverses, Words, Elements, Linear and
-- perms' InverseWords.
use mathlib.Core.Path.{◌≡◌, sym, ap, ap₂, ◌∙◌}
use mathlib.Core.List.{List, [], ◌∷◌, reverse, reverse-cons, reverse-reverse}
use Prim.Native.Nat.{ℕ}
use native.Mathlib.Omega.{arith}
use lib.ListN.{length}
use Rattle.ring.specs.Ring.{Ops, Ring}
use Rattle.ring.proofs.Ring.{mul_left_comm}
use Rattle.ring.proofs.Combination.{comb}
use Rattle.perms.specs.Permutation.{Perm, identity, inverse, len, Shortest}
use Rattle.perms.proofs.Perm.{rgt, rgt_word}
use Rattle.perms.proofs.Identity.{perm_identity}
use Rattle.perms.proofs.Group.{perm_inverse}
use Rattle.perms.proofs.Ascending.{Ascends}
use Rattle.perms.proofs.Reduced.{short_perm, short_makes, short_ascends}
use Rattle.perms.proofs.InverseWords.{inverse_inverse, len_inverse, short_inverse}
use Rattle.perms.proofs.ShortestWord.{shortest_word_shortest}
use Rattle.algebra.specs.Place.{perms}
use Rattle.algebra.specs.Element.{Element, coefficient}
use Rattle.algebra.specs.Pairing.{power, pairing}
use Rattle.algebra.specs.PairingLaws.{PairingLaws}
use Rattle.algebra.proofs.Functions.{sum_all}
use Rattle.algebra.proofs.Enumeration.{perms_perm}
use Rattle.algebra.proofs.Inverses.{sum_inverses}
use Rattle.algebra.proofs.Generator.{pick, P, step}
use Rattle.algebra.proofs.Words.{Rw, Rw_append}
use Rattle.algebra.proofs.Convolution.{prod}
use Rattle.algebra.proofs.Linear.{prod_plus, prod_scale, plus_prod, scale_prod}
use Rattle.algebra.proofs.Elements.{Has, has_own, has_scale, has_plus, has_times}

module _ (A : Type 0) (o : Ops A) (q r : A) (𝓡 : Ring A o) where
  -- where each letter of y makes w longer
  word_at : (m : ℕ) (y w : List ℕ) (F : List ℕ → A) → Ascends m y w → Rw A o q r (reverse y) F w ≡ o.mul (power A o q (length y)) (F (rgt_word y w))
  unfolding Rw P pick rgt_word power
  word_at m [] w F c = sym (𝓡.one_mul (F w))
  word_at m (i ∷ y) w F c =
      ap (λ x. Rw A o q r x F w) (reverse-cons i y)
      ∙ ap (λ G. G w) (Rw_append A o q r (reverse y) (i ∷ []) F)
      ∙ ap (λ b. step A o q r b (Rw A o q r (reverse y) F (rgt i w)) (Rw A o q r (reverse y) F w)) c.1
      ∙ ap (o.mul q) (word_at m y (rgt i w) F c.2)
      ∙ sym (𝓡.mul_assoc q (power A o q (length y)) (F (rgt_word y (rgt i w))))

  -- h T_v at the identity
  short_at : {m : ℕ} {x v : List ℕ} (F : List ℕ → A) → Shortest m x v → Rw A o q r x F (identity m) ≡ o.mul (power A o q (len v)) (F (inverse v))
  short_at {m} {x} {v} F s =
      let t = short_inverse s in
      ap (λ y. Rw A o q r y F (identity m)) (sym (reverse-reverse x))
      ∙ word_at m (reverse x) (identity m) F (short_ascends t)
      ∙ ap₂ (λ n w. o.mul (power A o q n) (F w)) (sym t.short ∙ len_inverse v (short_perm s)) (short_makes t)

  -- h g at the identity, for h and g with the coefficients F and G
  at_unit : {m : ℕ} {h g : List A} {F G : List ℕ → A} → Has A o m h F → Has A o m g G → pairing A o q m h g ≡ prod A o q r m F G (identity m)
  unfolding pairing prod comb
  at_unit {m} {h} {g} {F} {G} a b =
      sym (sum_inverses A o 𝓡 m _)
      ∙ sum_all A o (Perm m) (perms m) _ _ (perms_perm m) (λ v c.
      let p = power A o q (len v) in
      ap₂ (λ n w. o.mul (power A o q n) (o.mul (coefficient A o h (inverse v)) (coefficient A o g w))) (len_inverse v c) (inverse_inverse v c)
      ∙ ap₂ (λ x y. o.mul p (o.mul x y)) (a.values (inverse v) (perm_inverse v c)) (b.values v c)
      ∙ ap (o.mul p) (𝓡.mul_comm (F (inverse v)) (G v)) ∙ mul_left_comm A o 𝓡 p (G v) (F (inverse v))
      ∙ ap (o.mul (G v)) (sym (short_at F (shortest_word_shortest m v c))))

  pub pairing_laws : (ok : A → Type 0) (m : ℕ) → PairingLaws A o q r ok m
  pairing_laws ok m = record {
    unit = λ h g a b. at_unit (own a) (own b) ∙ sym ((has_times A o (own a) (omega arith) (own b) q r).values (identity m) (perm_identity m));
    sum_left = λ h h' g a b c. at_unit (has_plus A o (own a) (own b)) (own c)
        ∙ plus_prod A o q r m 𝓡 _ _ _ (identity m) (perm_identity m) ∙ sym (ap₂ o.add (at_unit (own a) (own c)) (at_unit (own b) (own c)));
    sum_right = λ h g g' a b c. at_unit (own a) (has_plus A o (own b) (own c))
        ∙ prod_plus A o q r m 𝓡 _ _ _ (identity m) (perm_identity m) ∙ sym (ap₂ o.add (at_unit (own a) (own b)) (at_unit (own a) (own c)));
    scale_left = λ x h g k a b. at_unit (has_scale A o (own a) x) (own b)
        ∙ scale_prod A o q r m 𝓡 x _ _ (identity m) (perm_identity m) ∙ sym (ap (o.mul x) (at_unit (own a) (own b)));
    scale_right = λ x h g k a b. at_unit (own a) (has_scale A o (own b) x)
        ∙ prod_scale A o q r m 𝓡 _ x _ (identity m) (perm_identity m) ∙ sym (ap (o.mul x) (at_unit (own a) (own b)));
  }
    where
      own : {h : List A} → Element ok m h → Has A o m h (coefficient A o h)
      own a = has_own A o a.size
