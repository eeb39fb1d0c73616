-- What is claimed of the call for the pairing (document 02, Ticket 2): of the word that it gives, and of what the calls for the product, the sum and the
-- scaling write. There E m q h says, as in Demand3, that h is an element of rank m, paired h g is the word that the call gives, and o are the operations on
-- words.
--
--   PairingLawful m q      the claim for one rank m and one word q
--   PairingCalls           the claim
use Rattle.std.specs.Prelude.{◌≡◌, List, ℕ, suc, ◌+◌, ◌*◌, ◌≤◌, length, get_or}
use Rattle.ring.specs.Ring.{Ops}
use Rattle.lists.specs.Numbers.{factorial}
use Rattle.perms.specs.Permutation.{identity}
use Rattle.algebra.specs.Element.{coefficient}
use Rattle.element_calls.specs.Coefficients.{ring, Coefficient, parameters_of}
use Rattle.element_calls.specs.Calls.{sum_call, scale_call, product_call, pairing_call}
use Rattle.element_calls.specs.Claims.{Given}
use Rattle.element_calls.specs.Demand3.{E}
use Rattle.refusals.specs.Refusals.{value_of}

module _ (m q : ℕ) where
  abbrev o : Ops ℕ
  o = ring (parameters_of q)

  abbrev paired : List ℕ → List ℕ → ℕ
  paired h g = value_of (pairing_call m q h g)

  pub record PairingLawful : Type 0 where
    pub taken : (h g : List ℕ) → E m q h → E m q g → Given (pairing_call m q h g)
    -- the word that it gives is the coefficient of the unit in what the product writes, which is its first word
    pub unit : (h g result scratch : List ℕ) → E m q h → E m q g → length result ≡ factorial (suc m) → (m + 6) * factorial (suc m) ≤ length scratch
        → paired h g ≡ coefficient ℕ o (product_call m q h g result scratch).lent.result (identity m)
    pub first : (h g result scratch : List ℕ) → E m q h → E m q g → length result ≡ factorial (suc m) → (m + 6) * factorial (suc m) ≤ length scratch
        → paired h g ≡ get_or (product_call m q h g result scratch).lent.result 0 0
    -- it is linear in each argument
    pub sum_left : (h h' g result : List ℕ) → E m q h → E m q h' → E m q g → length result ≡ factorial (suc m)
        → paired (sum_call m h h' result).lent g ≡ o.add (paired h g) (paired h' g)
    pub sum_right : (h g g' result : List ℕ) → E m q h → E m q g → E m q g' → length result ≡ factorial (suc m)
        → paired h (sum_call m g g' result).lent ≡ o.add (paired h g) (paired h g')
    pub scale_left : (c : ℕ) (h g result : List ℕ) → Coefficient (parameters_of q) c → E m q h → E m q g → length result ≡ factorial (suc m)
        → paired (scale_call m c h result).lent g ≡ o.mul c (paired h g)
    pub scale_right : (c : ℕ) (h g result : List ℕ) → Coefficient (parameters_of q) c → E m q h → E m q g → length result ≡ factorial (suc m)
        → paired h (scale_call m c g result).lent ≡ o.mul c (paired h g)

abbrev pub PairingCalls : Type 0
PairingCalls = (m q : ℕ) → m ≤ 6 → Coefficient (parameters_of q) q → PairingLawful m q
