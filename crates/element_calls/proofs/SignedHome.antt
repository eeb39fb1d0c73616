-- Which calls with words of signed letters are taken, that they write elements, and that for odd q a word and then its mirror bring an element home.
-- Rests on SignedVerdicts, Refusals, Answers, Accepts, signed_words' SignedModular, Mirrors and PlainWords, inverses' Search and Parity, and algebra's Modular.
use mathlib.Core.Path.{◌≡◌, refl, sym, ap, ◌∙◌, subst}
use mathlib.Core.Logic.{◌⊎◌, inl, inr}
use mathlib.Core.Bool.{true}
use mathlib.Core.List.{List, map}
use Prim.Native.Nat.{ℕ, ◌%◌, ◌≤◌, ◌<◌}
use native.Mathlib.Omega.{arith}
use lib.ListN.{length}
use lib.IntN.{ℤ, nat_abs}
use Rattle.ring.specs.Modular.{word_modulus, words}
use Rattle.inverses.specs.Inverses.{IsInverse, has_inverse}
use Rattle.inverses.proofs.Search.{inverses}
use Rattle.inverses.proofs.Parity.{word_inverses}
use Rattle.refusals.specs.Refusals.{reported, verdict_of, count_of}
use Rattle.refusals.proofs.Verdicts.{number_within}
use Rattle.algebra.specs.Element.{Element}
use Rattle.algebra.proofs.Modular.{word_closed}
use Rattle.signed_words.specs.Words.{SignedWord, mirror, signed_act}
use Rattle.signed_words.specs.Laws.{Signed, SignedClosed}
use Rattle.signed_words.proofs.Mirrors.{mirrored, mirror_length}
use Rattle.signed_words.proofs.PlainWords.{plain_word}
use Rattle.signed_words.proofs.SignedModular.{word_signed, word_signed_closed}
use Rattle.element_calls.specs.Coefficients.{modulus, parameters_of, inverse_parameters}
use Rattle.element_calls.specs.Calls.{act_signed_word_call}
use Rattle.element_calls.specs.Claims.{Taken, NoneBelow}
use Rattle.element_calls.specs.Demand3.{E}
use Rattle.element_calls.specs.SignedCalls.{Home}
use Rattle.element_calls.proofs.SignedVerdicts.{signed_taken}
use Rattle.element_calls.proofs.Refusals.{refusals}
use Rattle.element_calls.proofs.Answers.{signed_verdict_lem, signed_lent}
use Rattle.element_calls.proofs.Accepts.{accepts}
use Rattle.std.specs.Prelude.{Ok, Err}
use Rattle.refusals.specs.Refusals.{Verdict}

module _ (m q : ℕ) where
  abbrev pub r : ℕ
  r = (parameters_of q).r

  abbrev pub q' : ℕ
  q' = (inverse_parameters q).q

  abbrev pub r' : ℕ
  r' = (inverse_parameters q).r

  module _ (rank : m ≤ 6) (hq : q < word_modulus) where
    abbrev ok : ℕ → Type 0
    ok n = n < word_modulus

    -- ---- where q has an inverse

    pub has : has_inverse word_modulus q ≡ true → IsInverse word_modulus q q'
    has e = (inverses word_modulus q hq).is e

    closed_by : has_inverse word_modulus q ≡ true → SignedClosed ℕ words q r q' r' ok m
    closed_by e = word_signed_closed m hq (has e).below

    pub signed_by : has_inverse word_modulus q ≡ true → Signed ℕ words q r q' r' ok m
    signed_by e = word_signed m hq (has e).below (has e).product

    pub odd : q % 2 ≡ 1 → has_inverse word_modulus q ≡ true
    odd e = (word_inverses q).odd e

    -- ---- what is taken, and that it writes elements

    pub takes : (x : List ℤ) (h : List ℕ) → SignedWord m x → length x ≤ 4096 → E m q h → NoneBelow x ⊎ (has_inverse word_modulus q ≡ true)
        → Taken (act_signed_word_call m q x h).answer
    takes x h w n a c = signed_verdict_lem m q x h ∙ signed_taken m (length h) q x rank a.size w n c

    pub writes : (x : List ℤ) (h : List ℕ) → Taken (act_signed_word_call m q x h).answer → (act_signed_word_call m q x h).lent ≡ signed_act ℕ words q r q' r' m x h
    unfolding modulus
    writes x h t = signed_lent m q x h t

    pub closes : (x : List ℤ) (h : List ℕ) → E m q h → E m q (act_signed_word_call m q x h).lent
    unfolding modulus
    closes x h a = go (verdict_of (act_signed_word_call m q x h).answer) refl
      where
        new : NoneBelow x ⊎ (has_inverse word_modulus q ≡ true) → Element ok m (signed_act ℕ words q r q' r' m x h)
        new (inl w) = subst (Element ok m) (sym (plain_word ℕ words q r m q' r' x h w)) ((word_closed m q hq).act (map nat_abs x) h a)
        new (inr e) = (closed_by e).signed_act_lem x h a

        go : (v : Verdict) → verdict_of (act_signed_word_call m q x h).answer ≡ v → E m q (act_signed_word_call m q x h).lent
        go (Ok _) e = subst (E m q) (sym (writes x h e)) (new (accepts.act_signed_word_lem m q x h e).4)
        go (Err why) e = subst (E m q) (sym ((refusals.act_signed_word_lem m q x h).lent (λ z.
            absurd (omega (arith, (number_within why).0, ap (λ v. (reported v (count_of (act_signed_word_call m q x h).answer)).number) (sym e) ∙ z))))) a

    -- ---- home

    pub homes : q % 2 ≡ 1 → (x : List ℤ) (h : List ℕ) → SignedWord m x → length x ≤ 4096 → E m q h → Home m q x (mirror x) h
    homes o x h w n a = record {
      first_taken = one;
      second_taken = two;
      home = writes (mirror x) g two ∙ ap (signed_act ℕ words q r q' r' m (mirror x)) (writes x h one) ∙ (signed_by (odd o)).home x w h (element a);
    }
      where
        g : List ℕ
        g = (act_signed_word_call m q x h).lent

        one : Taken (act_signed_word_call m q x h).answer
        one = takes x h w n a (inr (odd o))

        two : Taken (act_signed_word_call m q (mirror x) g).answer
        two = takes (mirror x) g (mirrored m x w) (omega (arith, mirror_length x)) (closes x h a) (inr (odd o))

        element : E m q h → Element ok m h
        element a = unfold modulus in a
