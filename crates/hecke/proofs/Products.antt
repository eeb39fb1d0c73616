-- The call of a product that passes its checks: the product by the definition, its count, and zeros in the scratch. Rests on ranks' Sizes,
-- element_calls' Verdicts and Calls, nested's Fits, and algebra's Orders and Modular.
use mathlib.Core.Path.{◌≡◌, refl, sym, ap, ◌∙◌}
use mathlib.Core.List.{List, ◌++◌}
use Prim.Native.Nat.{ℕ, suc, ◌-◌, ◌^◌, ◌≤◌, ◌<◌}
use native.Mathlib.Nat.{sub-zero}
use native.Mathlib.Omega.{arith}
use lib.ListN.{length, take, drop, replicate}
use lib.Seq.{length-take-le, take_at, drop_at}
use Rattle.lists.specs.Numbers.{factorial}
use Rattle.refusals.specs.Refusals.{◌then◌, accepted}
use Rattle.algebra.specs.Element.{Element}
use Rattle.algebra.specs.Nested.{operations, falling, nested}
use Rattle.algebra.specs.Cost.{C}
use Rattle.algebra.specs.Product.{times}
use Rattle.algebra.proofs.Orders.{falling_once}
use Rattle.algebra.proofs.Modular.{word_method}
use Rattle.ranks.specs.Ranks.{needed, scratch_size, product_count}
use Rattle.ranks.proofs.Sizes.{scratch_size_is, product_count_is}
use Rattle.element_calls.specs.declared.Parameters.{Parameters}
use Rattle.element_calls.specs.Coefficients.{modulus, ring, parameters_of}
use Rattle.element_calls.specs.Calls.{rank_verdict, size_verdict, scratch_verdict, product_call}
use Rattle.element_calls.proofs.Verdicts.{product_accepted}
use Rattle.element_calls.proofs.Calls.{write_done, product_counted}
use Rattle.nested.specs.Steps.{multiplied, TimesPre}
use Rattle.nested.specs.InPlace.{product_in}
use Rattle.nested.proofs.Fits.{product_fit}
use Rattle.std.specs.Prelude.{Ok}

-- the checks accept, and n words of scratch are lent
pub record Checked (m n : ℕ) (h g result scratch : List ℕ) : Type 0 where
  pub verdict : (
      rank_verdict m then size_verdict m (length h) then size_verdict m (length g) then size_verdict m (length result) then scratch_verdict m (length scratch))
      ≡ Ok tt
  pub need : n ≡ scratch_size m

-- one check after another
pub checked : {m n : ℕ} {h g result scratch : List ℕ} → Ok tt ≡ rank_verdict m → Ok tt ≡ size_verdict m (length h) → Ok tt ≡ size_verdict m (length g)
    → Ok tt ≡ size_verdict m (length result) → Ok tt ≡ scratch_verdict m (length scratch) → n ≡ scratch_size m → Checked m n h g result scratch
checked a b c d e need = record { verdict = rw (← a, ← b, ← c, ← d, ← e) refl; need = need }

module _ {m n : ℕ} {h g result scratch : List ℕ} (c : Checked m n h g result scratch) where
  pub sizes : (m ≤ 6) × (length h ≡ factorial (suc m)) × (length g ≡ factorial (suc m)) × (length result ≡ factorial (suc m)) × (needed m ≤ length scratch)
  sizes = product_accepted m (length h) (length g) (length result) (length scratch) c.verdict

  need_is : n ≡ needed m
  need_is = c.need ∙ scratch_size_is m sizes.0

  pub enough : n ≤ length scratch
  enough = omega (arith, need_is, sizes.4)

  times_pre : TimesPre m m result (take (n - 0) scratch) h g
  unfolding needed
  times_pre =
      record {
        factors = record { rank = sizes.0; within = omega arith; left = sizes.1; right = sizes.2; result = sizes.3 };
        enough = omega (arith, length-take-le (n - 0) scratch (omega (arith, enough)), need_is);
      }

-- the first n words were lent, came back as v, were lent again, and came back as zeros
cleared : (n : ℕ) (w v u : List ℕ) → n ≤ length w → length v ≡ length (take (n - 0) w) → u ≡ replicate (length (take (n - 0) (v ++ drop (n - 0) w))) 0
    → u ++ drop (n - 0) (v ++ drop (n - 0) w) ≡ replicate n 0 ++ drop n w
cleared n w v u h lv e =
    let l : length v ≡ n - 0 = lv ∙ length-take-le (n - 0) w (omega arith) in
    (λ i. (e ∙ ap (λ (x : List ℕ). replicate (length x) 0) (take_at v (drop (n - 0) w) (n - 0) l)) i ++ drop_at v (drop (n - 0) w) (n - 0) l i)
    ∙ (λ i. replicate ((l ∙ sub-zero n) i) 0 ++ drop (sub-zero n i) w)

module _ {m : ℕ} {h g : List ℕ} (eh : Element (λ n. n < 2 ^ 64) m h) (eg : Element (λ n. n < 2 ^ 64) m g) (q : ℕ) where
  abbrev p₀ : Parameters
  p₀ = parameters_of q

  product_value : q < 2 ^ 64 → multiplied p₀ m m h g ≡ times ℕ (ring p₀) p₀.q p₀.r m m h g
  unfolding multiplied modulus
  product_value hq = (word_method m q hq).value falling falling_once m (omega arith) h g eh eg

  counted : operations (nested ℕ (ring p₀) p₀.q p₀.r falling m m h g).count ≡ C m m
  unfolding modulus
  counted = product_counted p₀ eh eg

  pub product_done : {p : Parameters} {n k : ℕ} {result y u : List ℕ} (scratch v : List ℕ) → Checked m n h g result scratch → q < 2 ^ 64
      → p ≡ p₀ → y ≡ product_in p m (length (take (n - 0) scratch)) result h g → length v ≡ length (take (n - 0) scratch)
      → u ≡ replicate (length (take (n - 0) (v ++ drop (n - 0) scratch))) 0 → k ≡ product_count m
      → product_call m q h g result scratch ≡ record { answer = accepted k; lent = record { result = y; scratch = u ++ drop (n - 0) (v ++ drop (n - 0) scratch) } }
  unfolding product_call
  product_done {n = n} {u = u} scratch v c hq ep ey lv eu ek =
      let value = ey ∙ product_fit _ (times_pre c) ∙ ap (λ (p : Parameters). multiplied p m m h g) ep ∙ product_value hq in
      let zeros = cleared n scratch v u (enough c) lv eu ∙ ap (λ (n : ℕ). replicate n 0 ++ drop n scratch) (need_is c) in
      let count = ek ∙ product_count_is m (sizes c).0 ∙ sym counted in
      write_done _ _ _ _ c.verdict (λ i. record { result = value i; scratch = zeros i }) count
