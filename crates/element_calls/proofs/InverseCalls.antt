-- For odd q the call with the letter -i writes the product with t' i = q' T_i + (q' - 1), and t' i is the inverse of T_i. Rests on SignedHome, Demand3,
-- Answers and algebra's Modular.
use mathlib.Core.Path.{◌≡◌, sym, ◌∙◌}
use mathlib.Core.Logic.{inr}
use mathlib.Core.List.{List, [], ◌∷◌}
use Prim.Native.Nat.{ℕ, zero, suc, ◌%◌, ◌≤◌, ◌<◌}
use native.Mathlib.Omega.{arith}
use lib.IntN.{pos, negsuc, neg_ℤ}
use Rattle.ring.specs.Modular.{word_modulus, words}
use Rattle.perms.specs.Permutation.{Letter}
use Rattle.algebra.specs.Element.{Element, unit, T}
use Rattle.algebra.specs.Product.{times}
use Rattle.algebra.proofs.Modular.{below, word_closed}
use Rattle.signed_words.specs.InverseLetter.{inverse_t}
use Rattle.signed_words.specs.Words.{signed_letter, signed_act}
use Rattle.element_calls.specs.Coefficients.{modulus, parameters_of, inverse_parameters}
use Rattle.element_calls.specs.Calls.{act_signed_word_call}
use Rattle.element_calls.specs.Demand3.{E}
use Rattle.element_calls.specs.SignedCalls.{Makes}
use Rattle.element_calls.proofs.Answers.{product_lent}
use Rattle.element_calls.proofs.Demand3.{demand_3}
use Rattle.element_calls.proofs.SignedHome.{has, signed_by, odd, takes, writes}

module _ (m q : ℕ) (rank : m ≤ 6) (hq : q < word_modulus) where
  abbrev ok : ℕ → Type 0
  ok n = n < word_modulus

  abbrev t : ℕ → List ℕ
  t i = T ℕ words m i

  abbrev t' : ℕ → List ℕ
  t' i = inverse_t ℕ words q (parameters_of q).r (inverse_parameters q).q (inverse_parameters q).r m i

  -- ---- a product of elements

  makes : {h g k : List ℕ} → Element ok m h → Element ok m g → times ℕ words q (parameters_of q).r m m h g ≡ k → Makes m q h g k
  unfolding modulus
  makes {h} {g} a b e = λ result scratch c n.
      let taken = (demand_3 m q rank hq).product_taken h g result scratch a b c n in
      (taken, product_lent m q h g result scratch taken ∙ e)

  t_element : (i : ℕ) → Element ok m (t i)
  unfolding T
  t_element i = (word_closed m q hq).basis _

  t'-element : q % 2 ≡ 1 → (i : ℕ) → Element ok m (t' i)
  unfolding inverse_t unit
  t'-element o i =
      let closed = word_closed m q hq in
      closed.sum _ _ (closed.scale (inverse_parameters q).q _ (has m q rank hq (odd m q rank hq o)).below (t_element i))
      (closed.scale (inverse_parameters q).r _ (below _) (closed.basis _))

  -- ---- the inverse letter

  pub is_made : q % 2 ≡ 1 → (i : ℕ) (h : List ℕ) → Letter m i → E m q h → Makes m q h (t' i) (act_signed_word_call m q (neg_ℤ (pos i) ∷ []) h).lent
  unfolding modulus signed_act signed_letter
  is_made o zero h l a = absurd (omega (arith, l.low))
  is_made o (suc i) h l a = makes a (t'-element o (suc i)) (sym (
      writes m q rank hq (negsuc i ∷ []) h (takes m q rank hq (negsuc i ∷ []) h (l, tt) (omega arith) a (inr (odd m q rank hq o)))
      ∙ (signed_by m q rank hq (odd m q rank hq o)).is_product (suc i) l h a))

  pub left_made : q % 2 ≡ 1 → (i : ℕ) → Letter m i → Makes m q (t' i) (t i) (unit ℕ words m)
  left_made o i l = makes (t'-element o i) (t_element i) ((signed_by m q rank hq (odd m q rank hq o)).left i l)

  pub right_made : q % 2 ≡ 1 → (i : ℕ) → Letter m i → Makes m q (t i) (t' i) (unit ℕ words m)
  right_made o i l = makes (t_element i) (t'-element o i) ((signed_by m q rank hq (odd m q rank hq o)).right i l)
