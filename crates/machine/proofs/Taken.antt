-- Calls of the library that no check refuses: what is written, and the count. Rests on element_calls' Demand3 and Answers, and on Put.
--
--   Took a last new n    a call with the answer a is taken, left new and counted n
use mathlib.Core.Path.{◌≡◌, sym, ap, ◌∙◌}
use mathlib.Core.List.{List}
use Prim.Native.Nat.{ℕ, suc, ◌+◌, ◌*◌, ◌/◌, ◌^◌, ◌≤◌, ◌<◌}
use native.Mathlib.Nat.{mul-le-mul_right}
use native.Mathlib.Omega.{arith}
use lib.ListN.{length}
use Rattle.ring.specs.Modular.{words}
use Rattle.lists.specs.Numbers.{factorial}
use Rattle.refusals.specs.Refusals.{Answered, verdict_of, count_of, Outcome}
use Rattle.perms.specs.Permutation.{Word}
use Rattle.algebra.specs.Element.{plus, scale}
use Rattle.algebra.specs.Product.{act, times}
use Rattle.algebra.specs.Cost.{C}
use Rattle.ranks.proofs.Sizes.{sheet_size_small}
use Rattle.element_calls.specs.Coefficients.{modulus, ring, parameters_of}
use Rattle.element_calls.specs.Calls.{Buffers, sum_call, scale_call, act_word_call, product_call}
use Rattle.element_calls.specs.Claims.{Taken}
use Rattle.element_calls.specs.Demand3.{Lawful}
use Rattle.element_calls.proofs.Answers.{sum_lent, scale_lent, act_lent, act_counted, product_lent}
use Rattle.element_calls.proofs.Demand3.{demand_3}
use Rattle.machine.proofs.Put.{Part}

pub record Took (a : Answered) (last new : List ℕ) (n : ℕ) : Type 0 where
  pub taken : Taken a
  pub writes : last ≡ new
  pub counts : count_of a ≡ n

-- `result` of what is lent
pub took : {A : Type 0} {o : Outcome Answered A} {a : Answered} {last : A} {new : List ℕ} {n : ℕ} (result : A → List ℕ)
    → o ≡ record { answer = a; lent = last } → Taken o.answer → result o.lent ≡ new → count_of o.answer ≡ n → Took a (result last) new n
took result e t w c = record {
  taken = sym (ap (λ o. verdict_of o.answer) e) ∙ t;
  writes = sym (ap (λ o. result o.lent) e) ∙ w;
  counts = sym (ap (λ o. count_of o.answer) e) ∙ c;
}

module _ {m : ℕ} (rank : m ≤ 5) where
  D : (q : ℕ) → q < 2 ^ 64 → Lawful m q
  unfolding modulus
  D q word = demand_3 m q (omega arith) word

  pub act_taken : {lent h last : List ℕ} {a : Answered} (q : ℕ) (x : List ℕ) → q < 2 ^ 64 → Word m x → length x ≤ 4096 → Part m lent h
      → act_word_call m q x lent ≡ record { answer = a; lent = last }
      → let p = parameters_of q in Took a last (act ℕ (ring p) p.q p.r m x h) (length x * (3 * factorial (suc m) / 2))
  unfolding modulus
  act_taken {h = h} q x word w few f e =
      let t = (D q word).act_taken x h w few f.fit in
      took (λ l. l) (ap (act_word_call m q x) (sym f.is) ∙ e) t (act_lent m q x h t) (act_counted m q x h t)

  module _ (result : List ℕ) (size : length result ≡ factorial (suc m)) where
    pub scale_taken : {p h last : List ℕ} {a : Answered} (c : ℕ) → Part m p h → scale_call m c p result ≡ record { answer = a; lent = last }
        → Took a last (scale ℕ words c h) (factorial (suc m))
    unfolding modulus
    scale_taken {h = h} c f e =
        let d = D 0 (omega arith) in
        let t = d.scale_taken c h result f.fit size in
        took (λ l. l) ((λ i. scale_call m c (sym f.is i) result) ∙ e) t (scale_lent m c h result t) (d.scale_count c h result t)

    module _ {left right h g : List ℕ} (f : Part m left h) (k : Part m right g) where
      pub sum_taken : {last : List ℕ} {a : Answered} → sum_call m left right result ≡ record { answer = a; lent = last }
          → Took a last (plus ℕ words h g) (factorial (suc m))
      unfolding modulus
      sum_taken e =
          let d = D 0 (omega arith) in
          let t = d.sum_taken h g result f.fit k.fit size in
          took (λ l. l) ((λ i. sum_call m (sym f.is i) (sym k.is i) result) ∙ e) t (sum_lent m h g result t) (d.sum_count h g result t)

      pub product_taken : {last : Buffers} {a : Answered} (q : ℕ) (scratch : List ℕ) → q < 2 ^ 64 → 7920 ≤ length scratch
          → product_call m q left right result scratch ≡ record { answer = a; lent = last }
          → let p = parameters_of q in Took a last.result (times ℕ (ring p) p.q p.r m m h g) (C m m)
      unfolding modulus
      product_taken q scratch word large e =
          let d = D q word in
          let few : (m + 6) * factorial (suc m) ≤ 11 * factorial (suc m) = mul-le-mul_right (factorial (suc m)) (omega arith) in
          let t = d.product_taken h g result scratch f.fit k.fit size (omega (arith, few, sheet_size_small m rank)) in
          took (λ b. b.result) ((λ i. product_call m q (sym f.is i) (sym k.is i) result scratch) ∙ e) t (product_lent m q h g result scratch t)
          (d.product_count_lem h g result scratch f.fit k.fit t)
