-- What is embedded from rank m in rank m + 2 commutes with T_(m+2): its words have letters up to m alone. Rests on OverBasis and Embedding.
use mathlib.Core.Path.{◌≡◌, refl, sym, ap, ap₂, ◌∙◌, subst}
use mathlib.Core.Logic.{inl}
use mathlib.Core.List.{List, [], ◌∷◌}
use Prim.Native.Nat.{ℕ, suc, ◌<◌}
use native.Mathlib.Omega.{arith}
use Rattle.ring.specs.Ring.{Ops, Ring}
use Rattle.perms.specs.Permutation.{Perm, Letter, Word}
use Rattle.perms.specs.ShortestWord.{shortest_word}
use Rattle.perms.proofs.ShortestWord.{shortest_word_shortest}
use Rattle.algebra.specs.Place.{join}
use Rattle.algebra.specs.Product.{act}
use Rattle.algebra.proofs.Enumeration.{perm_join}
use Rattle.markov_trace.proofs.Algebra.{H, same, plus, scale, unit, base, gen, times, acted}
use Rattle.markov_trace.proofs.AlgebraLaws.{assoc, plus_times, times_plus, scale_times, times_scale, unit_times, times_unit, commute, acts, letter_acted, zero_times, times_zero}
use Rattle.markov_trace.proofs.OverBasis.{over_basis}
use Rattle.markov_trace.proofs.Joins.{short_join}
use Rattle.markov_trace.proofs.Blocks.{up}
use Rattle.markov_trace.proofs.Embedding.{up_plus, up_scale, up_base, up_zero}

module _ (A : Type 0) (o : Ops A) (q r : A) (𝓡 : Ring A o) (m : ℕ) where
  infixl 60 ◌⊕◌
  infixl 70 ◌·◌
  infixr 80 ◌⊙◌
  abbrev j : ℕ
  j = suc (suc m)

  abbrev ◌·◌ : H A j → H A j → H A j
  x · y = times A o q r x y

  abbrev ◌⊕◌ : H A j → H A j → H A j
  x ⊕ y = plus A o x y

  abbrev ◌⊙◌ : A → H A j → H A j
  c ⊙ x = scale A o c x

  abbrev ι² : H A m → H A j
  ι² x = up A o (up A o x)

  abbrev t : H A j
  t = gen A o j j

  abbrev Commutes : H A j → Type 0
  Commutes h = t · h ≡ h · t

  letter_commutes : {i : ℕ} (h : H A j) → Letter m i → Commutes h → Commutes (h · gen A o j i)
  letter_commutes {i} h l e =
      let s = gen A o j i in
      let n : suc i < j = omega (arith, l.high) in
      let top : Letter j j = record { low = omega arith; high = omega arith } in
      sym (assoc A o q r 𝓡 t h s)
      ∙ ap (λ x. x · s) e
      ∙ assoc A o q r 𝓡 h t s
      ∙ ap (λ x. h · x) (sym (commute A o q r 𝓡 record { low = l.low; high = omega (arith, l.high) } top (inl n)))
      ∙ sym (assoc A o q r 𝓡 h s t)

  word_commutes : (x : List ℕ) (h : H A j) → Word m x → Commutes h → Commutes (acted A o q r x h)
  word_commutes [] h a e = let z : h ≡ acted A o q r [] h = same (unfold acted act in refl) in subst Commutes z e
  word_commutes (i ∷ x) h a e =
      let l : Letter m i = a.0 in
      subst Commutes (sym (letter_acted A o q r 𝓡 x h record { low = l.low; high = omega arith }))
      (word_commutes x (h · gen A o j i) a.1 (letter_commutes h l e))

  base_commutes : (v : List ℕ) → Perm m v → Commutes (ι² (base A o m v))
  base_commutes v c =
      let s = shortest_word_shortest m v c in
      subst Commutes
      (acts A o q r 𝓡 (short_join (short_join s)) (unit A o j) ∙ unit_times A o q r 𝓡 _
      ∙ sym (ap (up A o) (up_base A o q r 𝓡 v c) ∙ up_base A o q r 𝓡 (join m 0 v) (perm_join 0 v (omega arith) c)))
      (word_commutes (shortest_word m v) (unit A o j) s.word (times_unit A o q r 𝓡 t ∙ sym (unit_times A o q r 𝓡 t)))

  pub apart : (x : H A m) → t · ι² x ≡ ι² x · t
  apart = over_basis A o 𝓡 (λ x. Commutes (ι² x))
      (subst Commutes (sym (ap (up A o) (up_zero A o q r 𝓡 m) ∙ up_zero A o q r 𝓡 (suc m))) (times_zero A o q r 𝓡 t ∙ sym (zero_times A o q r 𝓡 t)))
      (λ x y a b. subst Commutes (sym (ap (up A o) (up_plus A o q r 𝓡 x y) ∙ up_plus A o q r 𝓡 (up A o x) (up A o y)))
      (times_plus A o q r 𝓡 t (ι² x) (ι² y) ∙ ap₂ (λ u v. u ⊕ v) a b ∙ sym (plus_times A o q r 𝓡 (ι² x) (ι² y) t)))
      (λ c v d. let b = base A o m v in subst Commutes (sym (ap (up A o) (up_scale A o q r 𝓡 c b) ∙ up_scale A o q r 𝓡 c (up A o b)))
      (times_scale A o q r 𝓡 c t (ι² b) ∙ ap (λ u. c ⊙ u) (base_commutes v d) ∙ sym (scale_times A o q r 𝓡 c (ι² b) t)))
