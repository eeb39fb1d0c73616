-- Demand 3, whole (document 01, "Contracts and cases"): one claim about what the calls for the sum, the scaling, the action of
-- a word of plain letters and the product write.
--
--   E m q h        h is an element of rank m: a slice of M = (m + 1)! words
--   Lawful m q     the claim for one rank m and one word q. There `calls` are the lists that the calls write: the result slice, for the word action the
--                  element. Each of them is an element (`closed`), and they obey the laws (`hecke`): associative, linear, unit, quadratic, braid and
--                  commuting relations; any two shortest words of a permutation act alike, as h times T of it; the product is the sum over all v of g_v times h
--                  acted on by any shortest word of v; and r + 1 = q for r = q - 1
--   Demand3        the claim
use Rattle.std.specs.Prelude.{◌≡◌, List, ◌++◌, ℕ, suc, ◌+◌, ◌*◌, ◌/◌, ◌≤◌, ◌<◌, length, drop, replicate}
use Rattle.lists.specs.Numbers.{factorial}
use Rattle.perms.specs.Permutation.{len, Word, Shortest}
use Rattle.algebra.specs.Element.{Element}
use Rattle.algebra.specs.Cost.{C}
use Rattle.algebra.specs.Laws.{Calls, Closed, Hecke}
use Rattle.element_calls.specs.Coefficients.{ring, Coefficient, parameters_of}
use Rattle.element_calls.specs.Calls.{sum_call, scale_call, act_word_call, product_call}
use Rattle.element_calls.specs.Claims.{Taken}
use Rattle.refusals.specs.Refusals.{count_of}

abbrev pub E : ℕ → ℕ → List ℕ → Type 0
E m q h = Element (Coefficient (parameters_of q)) m h

pub record Lawful (m q : ℕ) : Type 0 where
  pub calls : Calls ℕ
  -- which calls are taken, whatever the result slice and the scratch hold
  pub sum_taken : (h g result : List ℕ) → E m q h → E m q g → length result ≡ factorial (suc m) → Taken (sum_call m h g result).answer
  pub scale_taken : (c : ℕ) (h result : List ℕ) → E m q h → length result ≡ factorial (suc m) → Taken (scale_call m c h result).answer
  pub act_taken : (x h : List ℕ) → Word m x → length x ≤ 4096 → E m q h → Taken (act_word_call m q x h).answer
  pub product_taken : (h g result scratch : List ℕ) → E m q h → E m q g → length result ≡ factorial (suc m) → (m + 6) * factorial (suc m) ≤ length scratch
      → Taken (product_call m q h g result scratch).answer
  -- what they write, in any call that no check refuses
  pub sum_writes : (h g result : List ℕ) → Taken (sum_call m h g result).answer → (sum_call m h g result).lent ≡ calls.sum h g
  pub scale_writes : (c : ℕ) (h result : List ℕ) → Taken (scale_call m c h result).answer → (scale_call m c h result).lent ≡ calls.scale c h
  pub act_writes : (x h : List ℕ) → Taken (act_word_call m q x h).answer → (act_word_call m q x h).lent ≡ calls.act x h
  pub product_writes : (h g result scratch : List ℕ) → Taken (product_call m q h g result scratch).answer
      → (product_call m q h g result scratch).lent.result ≡ calls.product h g
  -- the scratch after a product: its first (m + 6) M words are zero, and the rest as before
  pub product_clears : (h g result scratch : List ℕ) → Taken (product_call m q h g result scratch).answer
      → (product_call m q h g result scratch).lent.scratch ≡ replicate ((m + 6) * factorial (suc m)) 0 ++ drop ((m + 6) * factorial (suc m)) scratch
  pub closed : Closed ℕ (ring (parameters_of q)) (Coefficient (parameters_of q)) m calls
  pub hecke : Hecke ℕ (ring (parameters_of q)) q (parameters_of q).r (Coefficient (parameters_of q)) m calls
  -- a sum or scaling counts M; a shortest word of w is taken and counts 3M/2 for each of its ℓ(w) letters; a product counts C(m, m), which is below 4M²
  pub sum_count : (h g result : List ℕ) → Taken (sum_call m h g result).answer → count_of (sum_call m h g result).answer ≡ factorial (suc m)
  pub scale_count : (c : ℕ) (h result : List ℕ) → Taken (scale_call m c h result).answer → count_of (scale_call m c h result).answer ≡ factorial (suc m)
  pub word_taken : (w x h : List ℕ) → Shortest m x w → E m q h → Taken (act_word_call m q x h).answer
  pub word_count : (w x h : List ℕ) → Shortest m x w → E m q h → count_of (act_word_call m q x h).answer ≡ 3 * factorial (suc m) / 2 * len w
  pub product_count_lem : (h g result scratch : List ℕ) → E m q h → E m q g → Taken (product_call m q h g result scratch).answer
      → count_of (product_call m q h g result scratch).answer ≡ C m m
  pub bound : C m m < 4 * (factorial (suc m) * factorial (suc m))

abbrev pub Demand3 : Type 0
Demand3 = (m q : ℕ) → m ≤ 6 → Coefficient (parameters_of q) q → Lawful m q
