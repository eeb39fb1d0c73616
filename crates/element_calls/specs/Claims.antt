-- What holds of the element calls, for all inputs.
--
--   Taken a        no check refuses a call with the answer a
--   Given a        no check refuses a call with the answer a, which is one word
--   NoneBelow x    no letter of x is below 0
--   Refusals       a call that is refused counts 0 and leaves every lent slice as it was; a pairing or a trace that is refused counts 0 and gives 0
--   Accepts        a call that is taken has a rank of at most 6, elements of M = (m + 1)! words, scratch of at least (m + 6) M words, and a word of at most
--                  4,096 letters from 1 to m, or from -m to m and not 0; and where a letter is below 0, q has an inverse
use Rattle.std.specs.Prelude.{◌≡◌, ◌⊎◌, ◌≢◌, true, false, List, ℕ, suc, ◌+◌, ◌*◌, ◌≤◌, length, ℤ}
use Rattle.ring.specs.Modular.{word_modulus}
use Rattle.lists.specs.Lists.{All}
use Rattle.lists.specs.Numbers.{factorial}
use Rattle.inverses.specs.Inverses.{has_inverse}
use Rattle.refusals.specs.Refusals.{Answered, verdict_of, value_of, answer_report, Refuses, Keeps}
use Rattle.refusals.specs.declared.Refusal.{Refusal}
use Rattle.perms.specs.Permutation.{Word}
use Rattle.signed_words.specs.Words.{SignedWord, is_below}
use Rattle.element_calls.specs.Calls.{valued_report, sum_call, scale_call, act_word_call, act_signed_word_call, product_call, pairing_call, trace_call}
use Rattle.std.specs.Prelude.{Result, Ok}

abbrev pub Taken : Answered → Type 0
Taken a = verdict_of a ≡ Ok tt

abbrev pub Given : Result ℕ Refusal → Type 0
Given a = verdict_of a ≡ Ok tt

abbrev pub NoneBelow : List ℤ → Type 0
NoneBelow x = All (λ z. is_below z ≡ false) x

pub record Refusals : Type 0 where
  pub sum : (m : ℕ) (h g result : List ℕ) → Keeps (answer_report (sum_call m h g result).answer) result (sum_call m h g result).lent
  pub scale : (m c : ℕ) (h result : List ℕ) → Keeps (answer_report (scale_call m c h result).answer) result (scale_call m c h result).lent
  pub act_word_lem : (m q : ℕ) (x h : List ℕ) → Keeps (answer_report (act_word_call m q x h).answer) h (act_word_call m q x h).lent
  pub act_signed_word_lem : (m q : ℕ) (x : List ℤ) (h : List ℕ)
      → Keeps (answer_report (act_signed_word_call m q x h).answer) h (act_signed_word_call m q x h).lent
  pub product : (m q : ℕ) (h g result scratch : List ℕ)
      → Keeps (answer_report (product_call m q h g result scratch).answer) (record { result = result; scratch = scratch })
      (product_call m q h g result scratch).lent
  pub pairing : (m q : ℕ) (h g : List ℕ) → Refuses (valued_report (pairing_call m q h g))
  pub pairing_zero : (m q : ℕ) (h g : List ℕ) → (valued_report (pairing_call m q h g)).number ≢ 0 → value_of (pairing_call m q h g) ≡ 0
  pub trace : (m q z : ℕ) (h scratch : List ℕ) → Keeps (valued_report (trace_call m q z h scratch).answer) scratch (trace_call m q z h scratch).lent
  pub trace_zero : (m q z : ℕ) (h scratch : List ℕ) → (valued_report (trace_call m q z h scratch).answer).number ≢ 0
      → value_of (trace_call m q z h scratch).answer ≡ 0

pub record Accepts : Type 0 where
  pub sum : (m : ℕ) (h g result : List ℕ) → Taken (sum_call m h g result).answer
      → (m ≤ 6) × (length h ≡ factorial (suc m)) × (length g ≡ factorial (suc m)) × (length result ≡ factorial (suc m))
  pub scale : (m c : ℕ) (h result : List ℕ) → Taken (scale_call m c h result).answer
      → (m ≤ 6) × (length h ≡ factorial (suc m)) × (length result ≡ factorial (suc m))
  pub act_word_lem : (m q : ℕ) (x h : List ℕ) → Taken (act_word_call m q x h).answer → (m ≤ 6) × (length h ≡ factorial (suc m)) × Word m x × (length x ≤ 4096)
  pub act_signed_word_lem : (m q : ℕ) (x : List ℤ) (h : List ℕ) → Taken (act_signed_word_call m q x h).answer
      → (m ≤ 6) × (length h ≡ factorial (suc m)) × SignedWord m x × (length x ≤ 4096) × (NoneBelow x ⊎ (has_inverse word_modulus q ≡ true))
  pub product : (m q : ℕ) (h g result scratch : List ℕ) → Taken (product_call m q h g result scratch).answer
      → (m ≤ 6) × (length h ≡ factorial (suc m)) × (length g ≡ factorial (suc m)) × (length result ≡ factorial (suc m))
      × ((m + 6) * factorial (suc m) ≤ length scratch)
  pub pairing : (m q : ℕ) (h g : List ℕ) → Given (pairing_call m q h g) → (m ≤ 6) × (length h ≡ factorial (suc m)) × (length g ≡ factorial (suc m))
  pub trace : (m q z : ℕ) (h scratch : List ℕ) → Given (trace_call m q z h scratch).answer
      → (m ≤ 6) × (length h ≡ factorial (suc m)) × ((m + 6) * factorial (suc m) ≤ length scratch)
