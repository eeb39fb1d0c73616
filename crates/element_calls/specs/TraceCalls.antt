-- What is claimed of the call for the trace (document 02, Ticket 4): of the word that it gives, and of what the calls for the product, the sum and the
-- scaling write. There E m q h says, as in Demand3, that h is an element of rank m, tr h scratch is the word that the call gives with the scratch that
-- is lent, and o are the operations on words.
--
--   Room m scratch             the scratch suffices for rank m
--   times m q h g result scratch
--                              what the call for the product writes
--   TraceLawful m q z          the claim for one rank m, one word q and one word z
--   MarkovLawful m q z         tr(x T_(m+1) y) = z tr(x y), for x and y of rank m, which are taken as elements of rank m + 1; each product may have a result
--                              slice and a scratch of its own
--   TraceCalls                 the claim
use Rattle.std.specs.Prelude.{◌≡◌, List, ◌++◌, ℕ, suc, ◌+◌, ◌*◌, ◌≤◌, length, drop, replicate}
use Rattle.ring.specs.Ring.{Ops}
use Rattle.lists.specs.Numbers.{factorial}
use Rattle.algebra.specs.Element.{unit, T}
use Rattle.markov_trace.specs.Trace.{embed}
use Rattle.element_calls.specs.Coefficients.{ring, Coefficient, parameters_of}
use Rattle.element_calls.specs.Calls.{sum_call, scale_call, product_call, trace_call}
use Rattle.element_calls.specs.Claims.{Given}
use Rattle.element_calls.specs.Demand3.{E}
use Rattle.refusals.specs.Refusals.{value_of}

abbrev pub Room : ℕ → List ℕ → Type 0
Room m scratch = (m + 6) * factorial (suc m) ≤ length scratch

abbrev pub times : (m q : ℕ) (h g result scratch : List ℕ) → List ℕ
times m q h g result scratch = (product_call m q h g result scratch).lent.result

module _ (m q z : ℕ) where
  abbrev o : Ops ℕ
  o = ring (parameters_of q)

  abbrev tr : List ℕ → List ℕ → ℕ
  tr h scratch = value_of (trace_call m q z h scratch).answer

  -- at rank m + 1
  abbrev tr' : List ℕ → List ℕ → ℕ
  tr' h scratch = value_of (trace_call (suc m) q z h scratch).answer

  pub record TraceLawful : Type 0 where
    pub taken : (h scratch : List ℕ) → E m q h → Room m scratch → Given (trace_call m q z h scratch).answer
    -- its first (m + 6) M words are zero, and the rest as before
    pub clears : (h scratch : List ℕ) → Given (trace_call m q z h scratch).answer
        → (trace_call m q z h scratch).lent ≡ replicate ((m + 6) * factorial (suc m)) 0 ++ drop ((m + 6) * factorial (suc m)) scratch
    pub unit : (scratch : List ℕ) → Room m scratch → tr (unit ℕ o m) scratch ≡ o.one
    pub sum : (h g result s₁ s₂ s₃ : List ℕ) → E m q h → E m q g → length result ≡ factorial (suc m) → Room m s₁ → Room m s₂ → Room m s₃
        → tr (sum_call m h g result).lent s₁ ≡ o.add (tr h s₂) (tr g s₃)
    pub multiple : (c : ℕ) (h result s₁ s₂ : List ℕ) → Coefficient (parameters_of q) c → E m q h → length result ≡ factorial (suc m) → Room m s₁ → Room m s₂
        → tr (scale_call m c h result).lent s₁ ≡ o.mul c (tr h s₂)

  pub record MarkovLawful : Type 0 where
    pub markov : (x y r₁ s₁ r₂ s₂ r₃ s₃ scratch scratch' : List ℕ) → E m q x → E m q y
        → length r₁ ≡ factorial (suc (suc m)) → Room (suc m) s₁ → length r₂ ≡ factorial (suc (suc m)) → Room (suc m) s₂
        → length r₃ ≡ factorial (suc m) → Room m s₃ → Room (suc m) scratch' → Room m scratch
        → tr' (times (suc m) q (times (suc m) q (embed ℕ o m x) (T ℕ o (suc m) (suc m)) r₁ s₁) (embed ℕ o m y) r₂ s₂) scratch'
        ≡ o.mul z (tr (times m q x y r₃ s₃) scratch)

pub record TraceCalls : Type 0 where
  pub lawful : (m q z : ℕ) → m ≤ 6 → Coefficient (parameters_of q) q → Coefficient (parameters_of q) z → TraceLawful m q z
  pub markov : (m q z : ℕ) → m + 1 ≤ 6 → Coefficient (parameters_of q) q → Coefficient (parameters_of q) z → MarkovLawful m q z
