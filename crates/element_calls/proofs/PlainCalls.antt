-- A word with no letter below 0 is answered as that word of plain letters. Rests on WordChecks, SignedVerdicts,
-- refusals' Verdicts and signed_words' PlainWords.
use mathlib.Core.Path.{◌≡◌, refl, ap, ap₂, ◌∙◌, fun_ext}
use mathlib.Core.Bool.{◌||◌}
use mathlib.Core.Logic.{inl}
use mathlib.Core.List.{List, [], ◌∷◌, map}
use Prim.Native.Nat.{ℕ, suc, ◌*◌, ◌/◌}
use lib.ListN.{length, length-map, get_or-map}
use lib.IntN.{pos, nat_abs}
use Rattle.lists.specs.Lists.{same, less}
use Rattle.lists.specs.Numbers.{factorial}
use Rattle.refusals.specs.Refusals.{◌then◌}
use Rattle.refusals.proofs.Verdicts.{then_accepted}
use Rattle.signed_words.specs.Words.{is_below}
use Rattle.signed_words.proofs.PlainWords.{plain}
use Rattle.element_calls.specs.Coefficients.{ring, parameters_of, inverse_parameters}
use Rattle.element_calls.specs.Calls.{rank_verdict, size_verdict, first_bad_letter, word_verdict, first_bad_signed, signed_word_verdict, signed_verdict, write, act_word_call, act_signed_word_call}
use Rattle.element_calls.specs.Claims.{NoneBelow}
use Rattle.element_calls.proofs.WordChecks.{searched}
use Rattle.element_calls.proofs.SignedVerdicts.{inverse_taken}

pos_plain : (x : List ℕ) → NoneBelow (map pos x)
unfolding is_below
pos_plain [] = tt
pos_plain (i ∷ x) = (refl, pos_plain x)

-- ---- the checks

letters_same : (m : ℕ) (x : List ℕ) → signed_word_verdict m (map pos x) ≡ word_verdict m x
unfolding signed_word_verdict first_bad_signed word_verdict first_bad_letter
letters_same m x = ap₂ searched (fun_ext (λ i. ap (λ z. same (nat_abs z) 0 || less m (nat_abs z)) (get_or-map pos x i 0))) (length-map x pos)

checks_same : (m n q : ℕ) (x : List ℕ) → signed_verdict m n q (map pos x) ≡ (rank_verdict m then size_verdict m n then word_verdict m x)
checks_same m n q x =
    let one = rank_verdict m then size_verdict m n in
    ap (λ v. one then signed_word_verdict m (map pos x) then v) (inverse_taken q (map pos x) (inl (pos_plain x)))
    ∙ then_accepted (one then signed_word_verdict m (map pos x)) ∙ ap (λ v. one then v) (letters_same m x)

-- ---- the call

pub plain_call : (m q : ℕ) (x h : List ℕ) → act_signed_word_call m q (map pos x) h ≡ act_word_call m q x h
unfolding act_signed_word_call act_word_call
plain_call m q x h =
    let p = parameters_of q in
    let p' = inverse_parameters q in
    λ i. write (checks_same m (length h) q x i) h
    (plain ℕ (ring p) q p.r m p'.q p'.r x h i) (length-map x pos i * (3 * factorial (suc m) / 2))
