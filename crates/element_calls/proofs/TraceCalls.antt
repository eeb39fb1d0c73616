-- The claim on the call for the trace holds. Rests on Demand3, Answers, Verdicts, algebra's Modular and markov_trace's TraceModular.
use mathlib.Core.Path.{◌≡◌, refl, sym, ap, ap₂, ◌∙◌}
use mathlib.Core.List.{List}
use Prim.Native.Nat.{ℕ, suc, ◌≤◌, ◌<◌}
use native.Mathlib.Omega.{arith}
use lib.ListN.{length}
use Rattle.ring.specs.Modular.{word_modulus, words}
use Rattle.lists.specs.Numbers.{factorial}
use Rattle.perms.specs.Permutation.{identity, generator}
use Rattle.algebra.specs.Element.{unit, T}
use Rattle.algebra.specs.Product.{times as timesList}
use Rattle.algebra.specs.Laws.{defined, Closed}
use Rattle.algebra.proofs.Modular.{word_closed}
use Rattle.markov_trace.specs.Trace.{embed, trace}
use Rattle.markov_trace.specs.Laws.{TraceLaws}
use Rattle.markov_trace.proofs.TraceModular.{word_trace, word_embed_element}
use Rattle.ranks.specs.Ranks.{needed}
use Rattle.element_calls.specs.Coefficients.{modulus, Coefficient, parameters_of}
use Rattle.element_calls.specs.Calls.{trace_call}
use Rattle.element_calls.specs.Claims.{Given}
use Rattle.element_calls.specs.Demand3.{E, Lawful}
use Rattle.element_calls.specs.TraceCalls.{Room, times, TraceLawful, MarkovLawful, TraceCalls}
use Rattle.element_calls.proofs.Verdicts.{rank_taken, size_taken, scratch_taken}
use Rattle.element_calls.proofs.Answers.{sum_lent, scale_lent, product_lent, trace_verdict, trace_value, trace_cleared}
use Rattle.element_calls.proofs.Demand3.{demand_3}
use Rattle.refusals.specs.Refusals.{value_of}

-- ---- what the calls give and write

module _ (m q z : ℕ) (h scratch : List ℕ) (rank : m ≤ 6) (size : length h ≡ factorial (suc m)) (room : Room m scratch) where
  trace_given : Given (trace_call m q z h scratch).answer
  unfolding needed
  trace_given =
      trace_verdict m q z h scratch
      ∙ rw (rank_taken m rank, size_taken m (length h) rank size, scratch_taken m (length scratch) rank room) refl

  pub trace_gives : value_of (trace_call m q z h scratch).answer ≡ trace ℕ words q (parameters_of q).r z m h
  unfolding modulus
  trace_gives = trace_value m q z h scratch trace_given

module _ (m q : ℕ) (rank : m ≤ 6) (hq : q < word_modulus) where
  D : Lawful m q
  D = unfold modulus in demand_3 m q rank hq

  C : Closed ℕ words (Coefficient (parameters_of q)) m (defined ℕ words q (parameters_of q).r m)
  C = unfold modulus in word_closed m q hq

  product_gives : (h g result scratch : List ℕ) → E m q h → E m q g → length result ≡ factorial (suc m) → Room m scratch
      → times m q h g result scratch ≡ timesList ℕ words q (parameters_of q).r m m h g
  unfolding modulus
  product_gives h g result scratch a b c n = product_lent m q h g result scratch (D.product_taken h g result scratch a b c n)

-- ---- the claim

module _ (m q z : ℕ) (hq : q < word_modulus) (hz : z < word_modulus) where
  L : TraceLaws ℕ words q (parameters_of q).r z (Coefficient (parameters_of q)) m
  L = unfold modulus in word_trace m q z hq hz

  module _ (rank : m ≤ 6) where
    gives : {h : List ℕ} (scratch : List ℕ) → E m q h → Room m scratch
        → value_of (trace_call m q z h scratch).answer ≡ trace ℕ words q (parameters_of q).r z m h
    gives {h} scratch a n = trace_gives m q z h scratch rank a.size n

    trace_lawful : TraceLawful m q z
    unfolding modulus unit
    trace_lawful = record {
      taken = λ h scratch a n. trace_given m q z h scratch rank a.size n;
      clears = λ h scratch t. trace_cleared m q z h scratch t;
      unit = λ scratch n. gives scratch ((C m q rank hq).basis (identity m)) n ∙ L.unit;
      sum = λ h g result s₁ s₂ s₃ a b c n₁ n₂ n₃.
          rw (sum_lent m h g result ((D m q rank hq).sum_taken h g result a b c))
          (gives s₁ ((C m q rank hq).sum h g a b) n₁ ∙ L.sum h g a b ∙ sym (ap₂ words.add (gives s₂ a n₂) (gives s₃ b n₃)));
      multiple = λ c h result s₁ s₂ k a b n₁ n₂.
          rw (scale_lent m c h result ((D m q rank hq).scale_taken c h result a b))
          (gives s₁ ((C m q rank hq).scale c h k a) n₁ ∙ L.multiple c h k a ∙ sym (ap (words.mul c) (gives s₂ a n₂)));
    }

  module _ (rank : suc m ≤ 6) where
    abbrev up : Closed ℕ words (Coefficient (parameters_of q)) (suc m) (defined ℕ words q (parameters_of q).r (suc m))
    up = C (suc m) q rank hq

    embedded : {x : List ℕ} → E m q x → E (suc m) q (embed ℕ words m x)
    unfolding modulus
    embedded a = word_embed_element m a

    last : E (suc m) q (T ℕ words (suc m) (suc m))
    unfolding T
    last = up.basis (generator (suc m) (suc m))

    low : m ≤ 6
    low = omega arith

    markov_lawful : MarkovLawful m q z
    unfolding modulus
    markov_lawful = record {
      markov = λ x y r₁ s₁ r₂ s₂ r₃ s₃ scratch scratch' a b c₁ n₁ c₂ n₂ c₃ n₃ n' n.
          let first = up.product _ _ (embedded a) last in
          rw (
            product_gives (suc m) q rank hq _ _ r₁ s₁ (embedded a) last c₁ n₁,
            product_gives (suc m) q rank hq _ _ r₂ s₂ first (embedded b) c₂ n₂,
            product_gives m q low hq x y r₃ s₃ a b c₃ n₃,
          )
          (gives' scratch' (up.product _ _ first (embedded b)) n' ∙ L.markov x y a b
          ∙ sym (ap (words.mul z) (gives low scratch ((C m q low hq).product x y a b) n)));
    }
      where
        gives' : {h : List ℕ} (scratch : List ℕ) → E (suc m) q h → Room (suc m) scratch
            → value_of (trace_call (suc m) q z h scratch).answer ≡ trace ℕ words q (parameters_of q).r z (suc m) h
        gives' {h} scratch a n = trace_gives (suc m) q z h scratch rank a.size n

pub trace_calls : TraceCalls
unfolding modulus
trace_calls = record {
  lawful = λ m q z rank hq hz. trace_lawful m q z hq hz rank;
  markov = λ m q z rank hq hz. markov_lawful m q z hq hz (omega arith);
}
