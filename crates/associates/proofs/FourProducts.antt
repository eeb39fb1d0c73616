-- Four calls of the product, which leave (h g) k and h (g k): equal lists, by demand 3. Rests on element_calls' Demand3.
--
--   Called m q h g r s r' s'    a call of h g, with r for the result and s for scratch, left r' and s' there
use mathlib.Core.Path.{◌≡◌, sym, ap, ◌∙◌, subst}
use mathlib.Core.List.{List}
use Prim.Native.Nat.{ℕ, suc, ◌+◌, ◌*◌, ◌≤◌}
use native.Mathlib.Omega.{arith}
use lib.ListN.{length}
use Rattle.lists.specs.Numbers.{factorial}
use Rattle.refusals.specs.Refusals.{Answered}
use Rattle.algebra.specs.Product.{times}
use Rattle.element_calls.specs.Coefficients.{ring, Coefficient, parameters_of}
use Rattle.element_calls.specs.Calls.{product_call}
use Rattle.element_calls.specs.Claims.{Taken}
use Rattle.element_calls.specs.Demand3.{E, Lawful}
use Rattle.element_calls.proofs.Answers.{product_lent}
use Rattle.element_calls.proofs.Demand3.{demand_3}
use Rattle.associates.specs.Sizes.{Sizes}

pub record Called (m q : ℕ) (h g r s r' s' : List ℕ) : Type 0 where
  pub answer : Answered
  pub ensures : product_call m q h g r s ≡ record { answer = answer; lent = record { result = r'; scratch = s' } }
  pub kept : length s' ≡ length s

-- ---- one call

module _ {m q : ℕ} (rank : m ≤ 6) (word : Coefficient (parameters_of q) q) where
  D : Lawful m q
  D = demand_3 m q rank word

  module _ {h g r s r' s' : List ℕ} (c : Called m q h g r s r' s') (a : E m q h) (b : E m q g)
      (size : length r ≡ factorial (suc m)) (enough : (m + 6) * factorial (suc m) ≤ length s) where
    taken : Taken (product_call m q h g r s).answer
    taken = D.product_taken h g r s a b size enough

    by_demand : r' ≡ D.calls.product h g
    by_demand = sym (ap (λ o. o.lent.result) c.ensures) ∙ D.product_writes h g r s taken

    by_definition : r' ≡ let p = parameters_of q in times ℕ (ring p) p.q p.r m m h g
    by_definition = sym (ap (λ o. o.lent.result) c.ensures) ∙ product_lent m q h g r s taken

    written : E m q r'
    written = subst (E m q) (sym by_demand) (D.closed.product h g a b)

-- ---- four calls

module _ {m q : ℕ} {h g k part left right scratch u x s₁ s₂ : List ℕ} (z : Sizes m h g k part left right scratch) (word : Coefficient (parameters_of q) q)
    (a : E m q h) (b : E m q g) (c : E m q k) (hg : Called m q h g part scratch u s₁) (uk : Called m q u k left s₁ x s₂) where
  P : List ℕ → List ℕ → List ℕ
  P = (D z.rank word).calls.product

  hg_element : E m q u
  hg_element = written z.rank word hg a b z.part_size z.scratch_size_lem

  enough₁ : (m + 6) * factorial (suc m) ≤ length s₁
  enough₁ = omega (arith, z.scratch_size_lem, hg.kept)

  pub left_value : let p = parameters_of q in x ≡ times ℕ (ring p) p.q p.r m m (times ℕ (ring p) p.q p.r m m h g) k
  left_value =
      by_definition z.rank word uk hg_element c z.left_size enough₁
      ∙ ap (λ (y : List ℕ). times ℕ (ring (parameters_of q)) q (parameters_of q).r m m y k) (by_definition z.rank word hg a b z.part_size z.scratch_size_lem)

  pub left_right : {v y s₃ s₄ : List ℕ} → Called m q g k u s₂ v s₃ → Called m q h v right s₃ y s₄ → x ≡ y
  unfolding P
  left_right {v} gk hv =
      by_demand z.rank word uk hg_element c z.left_size enough₁
      ∙ ap (λ p. P p k) (by_demand z.rank word hg a b z.part_size z.scratch_size_lem)
      ∙ (D z.rank word).hecke.laws.assoc h g k a b c
      ∙ ap (P h) (sym (by_demand z.rank word gk b c hg_element.size enough₂))
      ∙ sym (by_demand z.rank word hv a gk_element z.right_size (omega (arith, enough₂, gk.kept)))
    where
      enough₂ : (m + 6) * factorial (suc m) ≤ length s₂
      enough₂ = omega (arith, enough₁, uk.kept)

      gk_element : E m q v
      gk_element = written z.rank word gk b c hg_element.size enough₂
