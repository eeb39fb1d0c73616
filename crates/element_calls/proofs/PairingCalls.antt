-- The claim on the call for the pairing holds. Rests on Demand3, Answers, Verdicts, and algebra's Modular and Unit.
use mathlib.Core.Path.{◌≡◌, refl, sym, ap, ap₂, ◌∙◌}
use mathlib.Core.List.{List}
use Prim.Native.Nat.{ℕ, suc, ◌+◌, ◌*◌, ◌≤◌, ◌<◌}
use lib.ListN.{length}
use Rattle.ring.specs.Modular.{word_modulus, modular, words}
use Rattle.lists.specs.Numbers.{factorial}
use Rattle.perms.specs.Permutation.{identity}
use Rattle.algebra.specs.Element.{coefficient, plus, scale}
use Rattle.algebra.specs.Pairing.{pairing}
use Rattle.algebra.specs.Laws.{defined, Closed}
use Rattle.algebra.specs.PairingLaws.{PairingLaws}
use Rattle.algebra.proofs.Modular.{word_closed, word_pairing_laws}
use Rattle.algebra.proofs.Unit.{coefficient_unit}
use Rattle.element_calls.specs.Coefficients.{modulus, Coefficient, parameters_of}
use Rattle.element_calls.specs.Calls.{sum_call, scale_call, product_call, pairing_call}
use Rattle.element_calls.specs.Claims.{Given}
use Rattle.element_calls.specs.Demand3.{E, Lawful}
use Rattle.element_calls.specs.PairingCalls.{PairingLawful, PairingCalls}
use Rattle.element_calls.proofs.Verdicts.{rank_taken, size_taken}
use Rattle.element_calls.proofs.Answers.{sum_lent, scale_lent, product_lent, pairing_verdict, pairing_value}
use Rattle.element_calls.proofs.Demand3.{demand_3}
use Rattle.refusals.specs.Refusals.{value_of}

module _ (m q : ℕ) (h g : List ℕ) (rank : m ≤ 6) (left : length h ≡ factorial (suc m)) (right : length g ≡ factorial (suc m)) where
  pairing_given : Given (pairing_call m q h g)
  pairing_given = pairing_verdict m q h g ∙ rw (rank_taken m rank, size_taken m (length h) rank left, size_taken m (length g) rank right) refl

  pub pairing_gives : value_of (pairing_call m q h g) ≡ pairing ℕ words q m h g
  unfolding modulus
  pairing_gives = pairing_value m q h g pairing_given

module _ (m q : ℕ) (rank : m ≤ 6) (hq : q < word_modulus) where
  D : Lawful m q
  D = unfold modulus in demand_3 m q rank hq

  C : Closed ℕ words (Coefficient (parameters_of q)) m (defined ℕ words q (parameters_of q).r m)
  C = unfold modulus in word_closed m q hq

  L : PairingLaws ℕ words q (parameters_of q).r (Coefficient (parameters_of q)) m
  L = unfold modulus in word_pairing_laws m q hq

  -- ---- what the calls give and write

  given : (h g : List ℕ) → E m q h → E m q g → Given (pairing_call m q h g)
  given h g a b = pairing_given m q h g rank a.size b.size

  gives : {h g : List ℕ} → E m q h → E m q g → value_of (pairing_call m q h g) ≡ pairing ℕ words q m h g
  gives {h} {g} a b = pairing_gives m q h g rank a.size b.size

  sums : (h g result : List ℕ) → E m q h → E m q g → length result ≡ factorial (suc m) → (sum_call m h g result).lent ≡ plus ℕ words h g
  sums h g result a b c = sum_lent m h g result (D.sum_taken h g result a b c)

  scales : (c : ℕ) (h result : List ℕ) → E m q h → length result ≡ factorial (suc m) → (scale_call m c h result).lent ≡ scale ℕ words c h
  scales c h result a b = scale_lent m c h result (D.scale_taken c h result a b)

  -- ---- the claim

  units : (h g result scratch : List ℕ) → E m q h → E m q g → length result ≡ factorial (suc m) → (m + 6) * factorial (suc m) ≤ length scratch
      → value_of (pairing_call m q h g) ≡ coefficient ℕ words (product_call m q h g result scratch).lent.result (identity m)
  unfolding modulus
  units h g result scratch a b c n = gives a b ∙ L.unit h g a b
      ∙ ap (λ x. coefficient ℕ words x (identity m)) (sym (product_lent m q h g result scratch (D.product_taken h g result scratch a b c n)))

  pairing_lawful : PairingLawful m q
  unfolding modulus modular
  pairing_lawful = record {
    taken = given;
    unit = units;
    first = λ h g result scratch a b c n.
        units h g result scratch a b c n ∙ coefficient_unit ℕ words m (product_call m q h g result scratch).lent.result;
    sum_left = λ h h' g result a b c n. rw (sums h h' result a b n)
        (gives (C.sum h h' a b) c ∙ L.sum_left h h' g a b c ∙ sym (ap₂ words.add (gives a c) (gives b c)));
    sum_right = λ h g g' result a b c n. rw (sums g g' result b c n)
        (gives a (C.sum g g' b c) ∙ L.sum_right h g g' a b c ∙ sym (ap₂ words.add (gives a b) (gives a c)));
    scale_left = λ c h g result k a b n. rw (scales c h result a n)
        (gives (C.scale c h k a) b ∙ L.scale_left c h g k a b ∙ sym (ap (words.mul c) (gives a b)));
    scale_right = λ c h g result k a b n. rw (scales c g result b n)
        (gives a (C.scale c g k b) ∙ L.scale_right c h g k a b ∙ sym (ap (words.mul c) (gives a b)));
  }

pub pairing_calls : PairingCalls
unfolding modulus
pairing_calls = pairing_lawful
