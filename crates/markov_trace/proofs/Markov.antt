-- The Markov property: tr(x T_(m+1) y) = z tr(x y) for x and y of rank m. Rests on Apart and TraceCycles.
use mathlib.Core.Path.{◌≡◌, sym, ap, ap₂, ◌∙◌, subst}
use Prim.Native.Nat.{ℕ, zero, suc, ◌≤◌}
use native.Mathlib.Omega.{arith}
use Rattle.ring.specs.Ring.{Ops, Ring}
use Rattle.ring.proofs.Ring.{mul_left_comm}
use Rattle.markov_trace.proofs.Algebra.{H, plus, scale, unit, times}
use Rattle.markov_trace.proofs.AlgebraLaws.{assoc, times_plus, times_scale}
use Rattle.markov_trace.proofs.Blocks.{up}
use Rattle.markov_trace.proofs.Embedding.{up_plus, up_scale, up_times}
use Rattle.markov_trace.proofs.Apart.{apart}
use Rattle.markov_trace.proofs.Cycles.{cyc, cyc_zero, top, cyc_suc, over_cycles}
use Rattle.markov_trace.proofs.Trace.{tr, tr_plus, tr_scale}
use Rattle.markov_trace.proofs.TraceCycles.{scalar, tr_cycle}

module _ (A : Type 0) (o : Ops A) (q r z : A) (𝓡 : Ring A o) where
  infixl 60 ◌⊕◌ ◌+ᴬ◌
  infixl 70 ◌·◌ ◌*ᴬ◌
  infixr 80 ◌⊙◌
  abbrev ◌·◌ : {m : ℕ} → H A m → H A m → H A m
  x · y = times A o q r x y

  abbrev ◌⊕◌ : {m : ℕ} → H A m → H A m → H A m
  x ⊕ y = plus A o x y

  abbrev ◌⊙◌ : {m : ℕ} → A → H A m → H A m
  c ⊙ x = scale A o c x

  abbrev ◌+ᴬ◌ : A → A → A
  x +ᴬ y = o.add x y

  abbrev ◌*ᴬ◌ : A → A → A
  x *ᴬ y = o.mul x y

  abbrev ι : {m : ℕ} → H A m → H A (suc m)
  ι x = up A o x

  abbrev tr' : {m : ℕ} → H A m → A
  tr' x = tr A o q r z 𝓡 x

  abbrev t : (m : ℕ) → H A (suc m)
  t m = top A o q r 𝓡 m

  module _ {m : ℕ} (x : H A m) where
    abbrev Holds : H A m → Type 0
    Holds y = tr' (ι x · t m · ι y) ≡ z *ᴬ tr' (x · y)

    holds_plus : (y y' : H A m) → Holds y → Holds y' → Holds (y ⊕ y')
    holds_plus y y' e e' =
        ap (λ h. tr' (ι x · t m · h)) (up_plus A o q r 𝓡 y y')
        ∙ ap (λ h. tr' h) (times_plus A o q r 𝓡 (ι x · t m) (ι y) (ι y'))
        ∙ tr_plus A o q r z 𝓡 _ _
        ∙ ap₂ o.add e e'
        ∙ sym (ap (o.mul z) (ap (λ h. tr' h) (times_plus A o q r 𝓡 x y y') ∙ tr_plus A o q r z 𝓡 _ _) ∙ 𝓡.mul_add z _ _)

    holds_scale : (c : A) (y : H A m) → Holds y → Holds (c ⊙ y)
    holds_scale c y e =
        ap (λ h. tr' (ι x · t m · h)) (up_scale A o q r 𝓡 c y)
        ∙ ap (λ h. tr' h) (times_scale A o q r 𝓡 c (ι x · t m) (ι y))
        ∙ tr_scale A o q r z 𝓡 c _
        ∙ ap (o.mul c) e
        ∙ mul_left_comm A o 𝓡 c z _
        ∙ sym (ap (o.mul z) (ap (λ h. tr' h) (times_scale A o q r 𝓡 c x y) ∙ tr_scale A o q r z 𝓡 c _))

    holds_cycle : (k : ℕ) → k ≤ m → Holds (cyc A o m k)
    holds_cycle k l =
        ap (λ h. tr' h) (assoc A o q r 𝓡 (ι x) (t m) (ι (cyc A o m k)) ∙ ap (λ h. ι x · h) (sym (cyc_suc A o q r 𝓡 m k l)))
        ∙ tr_cycle A o q r z 𝓡 x k l

  -- T_(m+2) passes what comes from rank m
  pass : {m : ℕ} (x : H A (suc m)) (y : H A m) (w : H A (suc m)) → ι x · t (suc m) · ι (ι y · w) ≡ ι (x · ι y) · t (suc m) · ι w
  pass {m} x y w =
      let T = t (suc m) in
      ap (λ h. ι x · T · h) (up_times A o q r 𝓡 (ι y) w)
      ∙ sym (assoc A o q r 𝓡 (ι x · T) (ι (ι y)) (ι w))
      ∙ ap (λ h. h · ι w)
      (assoc A o q r 𝓡 (ι x) T (ι (ι y))
      ∙ ap (λ h. ι x · h) (apart A o q r 𝓡 m y)
      ∙ sym (assoc A o q r 𝓡 (ι x) (ι (ι y)) T)
      ∙ ap (λ h. h · T) (sym (up_times A o q r 𝓡 x (ι y))))

  markov_at : (m : ℕ) (x y : H A m) → tr' (ι x · t m · ι y) ≡ z *ᴬ tr' (x · y)
  markov_at zero x y =
      subst (Holds x) (sym (scalar A o q r z 𝓡 y)) (holds_scale x (tr' y) (unit A o 0) (subst (Holds x) (cyc_zero A o 0) (holds_cycle x 0 (omega arith))))
  markov_at (suc m) x y = over_cycles A o q r 𝓡 (Holds x) (holds_plus x) (λ w k l.
      ap (λ h. tr' h) (pass x w (cyc A o (suc m) k))
      ∙ holds_cycle (x · ι w) k l
      ∙ ap (λ h. z *ᴬ tr' h) (assoc A o q r 𝓡 x (ι w) (cyc A o (suc m) k))) y

  pub markov : {m : ℕ} (x y : H A m) → tr' (ι x · t m · ι y) ≡ z *ᴬ tr' (x · y)
  markov {m} = markov_at m
