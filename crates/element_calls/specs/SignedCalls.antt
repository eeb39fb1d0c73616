-- What is claimed of the action of words of signed letters (document 02, Ticket 1). There t i is T_i, t' i is q' T_i + (q' - 1) for the inverse q' of q,
-- and E m q h says, as in Demand3, that h is an element of rank m.
--
--   Home m q x y h      the call with the word x on h, and then a second call with the word y on what the first wrote, are taken, and the second
--                       writes h
--   Makes m q h g k     the product call on h and g is taken and writes k, whatever the result slice and the scratch hold
--   counted m q z h     the second definition of a letter z either way, with its count: algebra's `nested_act`, signed_words' `nested_back`
--   FirstBelow x i      i is the index of the first letter of x that is below 0
--   SignedLawful m q    the claim for one rank m and one word q
--   SignedCalls         the claim
use Rattle.std.specs.Prelude.{◌≡◌, ◌⊎◌, ◌↔◌, true, false, List, [], ◌∷◌, map, ℕ, suc, ◌+◌, ◌*◌, ◌/◌, ◌%◌, ◌≤◌, ◌<◌, length, get_or, ℤ, pos, negsuc, neg_ℤ}
use Rattle.ring.specs.Modular.{word_modulus}
use Rattle.lists.specs.Numbers.{factorial}
use Rattle.inverses.specs.Inverses.{IsInverse}
use Rattle.refusals.specs.Refusals.{◌then◌, verdict_of, count_of}
use Rattle.refusals.specs.declared.Refusal.TheVariants.{NoInverse}
use Rattle.perms.specs.Permutation.{Letter}
use Rattle.algebra.specs.Element.{unit, T}
use Rattle.algebra.specs.Nested.{operations, Counted, nested_act}
use Rattle.signed_words.specs.InverseLetter.{inverse_t}
use Rattle.signed_words.specs.Words.{SignedLetter, SignedWord, is_below, mirror}
use Rattle.signed_words.specs.Count.{nested_back}
use Rattle.element_calls.specs.Coefficients.{ring, Coefficient, parameters_of, inverse_parameters}
use Rattle.element_calls.specs.Calls.{rank_verdict, size_verdict, signed_word_verdict, act_word_call, act_signed_word_call, product_call}
use Rattle.element_calls.specs.Claims.{Taken, NoneBelow}
use Rattle.element_calls.specs.Demand3.{E}
use Rattle.std.specs.Prelude.{Ok, Err}

pub record Home (m q : ℕ) (x y : List ℤ) (h : List ℕ) : Type 0 where
  pub first_taken : Taken (act_signed_word_call m q x h).answer
  pub second_taken : Taken (act_signed_word_call m q y (act_signed_word_call m q x h).lent).answer
  pub home : (act_signed_word_call m q y (act_signed_word_call m q x h).lent).lent ≡ h

abbrev pub Makes : (m q : ℕ) (h g k : List ℕ) → Type 0
Makes m q h g k = (result scratch : List ℕ) → length result ≡ factorial (suc m) → (m + 6) * factorial (suc m) ≤ length scratch
    → Taken (product_call m q h g result scratch).answer × ((product_call m q h g result scratch).lent.result ≡ k)

unfoldable pub counted : (m q : ℕ) → ℤ → List ℕ → Counted ℕ
counted m q (pos i) h = let p = parameters_of q in nested_act ℕ (ring p) p.q p.r m i 1 h
counted m q (negsuc i) h = let p' = inverse_parameters q in nested_back ℕ (ring (parameters_of q)) p'.q p'.r m (suc i) h

pub record FirstBelow (x : List ℤ) (i : ℕ) : Type 0 where
  pub within : i < length x
  pub here : is_below (get_or x i (pos 0)) ≡ true
  pub before : (j : ℕ) → j < i → is_below (get_or x j (pos 0)) ≡ false

module _ (m q : ℕ) where
  abbrev t : ℕ → List ℕ
  t i = T ℕ (ring (parameters_of q)) m i

  abbrev t' : ℕ → List ℕ
  t' i = let p = parameters_of q in let p' = inverse_parameters q in inverse_t ℕ (ring p) p.q p.r p'.q p'.r m i

  pub record SignedLawful : Type 0 where
    -- which calls are taken, and that they write elements
    pub taken : (x : List ℤ) (h : List ℕ) → SignedWord m x → length x ≤ 4096 → E m q h → (q % 2 ≡ 1) ⊎ NoneBelow x
        → Taken (act_signed_word_call m q x h).answer
    pub closed : (x : List ℤ) (h : List ℕ) → E m q h → E m q (act_signed_word_call m q x h).lent
    -- for odd q a word and then, in a second call, its mirror bring any element home; so do a letter and its inverse, and the inverse and the letter
    pub home : q % 2 ≡ 1 → (x : List ℤ) (h : List ℕ) → SignedWord m x → length x ≤ 4096 → E m q h → Home m q x (mirror x) h
    pub undo : q % 2 ≡ 1 → (i : ℕ) (h : List ℕ) → Letter m i → E m q h → Home m q (pos i ∷ []) (neg_ℤ (pos i) ∷ []) h
    pub redo : q % 2 ≡ 1 → (i : ℕ) (h : List ℕ) → Letter m i → E m q h → Home m q (neg_ℤ (pos i) ∷ []) (pos i ∷ []) h
    -- for odd q the letter -i is the product with t' i, which is the inverse of T_i on both sides
    pub inverse : q % 2 ≡ 1 → IsInverse word_modulus q (inverse_parameters q).q
    pub is_product : q % 2 ≡ 1 → (i : ℕ) (h : List ℕ) → Letter m i → E m q h
        → Makes m q h (t' i) (act_signed_word_call m q (neg_ℤ (pos i) ∷ []) h).lent
    pub left : q % 2 ≡ 1 → (i : ℕ) → Letter m i → Makes m q (t' i) (t i) (unit ℕ (ring (parameters_of q)) m)
    pub right : q % 2 ≡ 1 → (i : ℕ) → Letter m i → Makes m q (t i) (t' i) (unit ℕ (ring (parameters_of q)) m)
    -- a word counts 3M/2 for each letter, which is what the second definition of a letter takes, either way; it has the call's value
    pub count : (x : List ℤ) (h : List ℕ) → Taken (act_signed_word_call m q x h).answer
        → count_of (act_signed_word_call m q x h).answer ≡ length x * (3 * factorial (suc m) / 2)
    pub letter_count : (z : ℤ) (h : List ℕ) → SignedLetter m z → E m q h → 2 * operations (counted m q z h).count ≡ 3 * factorial (suc m)
    pub letter_value : (z : ℤ) (h : List ℕ) → SignedLetter m z → E m q h → (q % 2 ≡ 1) ⊎ (is_below z ≡ false)
        → (counted m q z h).value ≡ (act_signed_word_call m q (z ∷ []) h).lent

pub record SignedCalls : Type 0 where
  pub lawful : (m q : ℕ) → m ≤ 6 → Coefficient (parameters_of q) q → SignedLawful m q
  -- a word with no letter below 0 is answered as that word of plain letters, refusals included
  pub plain : (m q : ℕ) (x h : List ℕ) → act_signed_word_call m q (map pos x) h ≡ act_word_call m q x h
  -- 15 is answered for the letter i exactly where no earlier check refuses, q is even, and i is the first letter below 0
  pub no_inverse : (m q : ℕ) (x : List ℤ) (h : List ℕ) (i : ℕ)
      → (verdict_of (act_signed_word_call m q x h).answer ≡ Err (NoInverse i))
      ↔ (((rank_verdict m then size_verdict m (length h) then signed_word_verdict m x) ≡ Ok tt) × (q % 2 ≡ 0) × FirstBelow x i)
