-- An inverse letter is a signed word of one letter, which no check refuses where q has an inverse. Rests on Taken, and on element_calls'
-- SignedVerdicts and Answers.
use mathlib.Core.Path.{◌≡◌, sym, ◌∙◌}
use mathlib.Core.Logic.{inr}
use mathlib.Core.Bool.{true}
use mathlib.Core.List.{List, [], ◌∷◌}
use Prim.Native.Nat.{ℕ, zero, suc, ◌*◌, ◌/◌, ◌≤◌}
use native.Mathlib.Omega.{arith}
use lib.ListN.{length}
use lib.IntN.{ℤ, pos, negsuc, neg_ℤ}
use Rattle.ring.specs.Modular.{word_modulus}
use Rattle.lists.specs.Numbers.{factorial}
use Rattle.inverses.specs.Inverses.{has_inverse}
use Rattle.refusals.specs.Refusals.{Answered}
use Rattle.perms.specs.Permutation.{Letter}
use Rattle.signed_words.specs.InverseLetter.{inverse_letter}
use Rattle.signed_words.specs.Words.{signed_letter, signed_act}
use Rattle.element_calls.specs.Coefficients.{ring, parameters_of, inverse_parameters}
use Rattle.element_calls.specs.Calls.{act_signed_word_call}
use Rattle.element_calls.proofs.SignedVerdicts.{signed_taken}
use Rattle.element_calls.proofs.Answers.{signed_verdict_lem, signed_lent, signed_counted}
use Rattle.machine.proofs.Put.{Part}
use Rattle.machine.proofs.Taken.{Took, took}

-- the word is the letter z = -i alone
pub inverse_taken : {m : ℕ} {lent h last : List ℕ} {z : ℤ} {a : Answered} (q i : ℕ) → m ≤ 5 → has_inverse word_modulus q ≡ true → Letter m i → Part m lent h
    → z ≡ neg_ℤ (pos i) → act_signed_word_call m q (z ∷ []) lent ≡ record { answer = a; lent = last }
    → let p = parameters_of q in let p' = inverse_parameters q in
    Took a last (inverse_letter ℕ (ring p) p.q p.r p'.q p'.r m i h) (3 * factorial (suc m) / 2)
unfolding signed_act signed_letter
inverse_taken q zero low has l f is e = absurd (omega (arith, l.low))
inverse_taken {m} {h = h} q (suc k) low has l f is e =
    let x : List ℤ = negsuc k ∷ [] in
    let t = signed_verdict_lem m q x h ∙ signed_taken m (length h) q x (omega arith) f.fit.size (l, tt) (omega arith) (inr has) in
    took (λ l. l) ((λ j. act_signed_word_call m q (sym is j ∷ []) (sym f.is j)) ∙ e) t (signed_lent m q x h t) (signed_counted m q x h t ∙ omega arith)
