-- The functions δ_v of permutations, 1 at v and 0 elsewhere: a function is the sum of its values times these. Rests on Places, ring's Sum and lists' Equal.
--
--   delta A o v w   δ_v(w)
use mathlib.Core.Path.{◌≡◌, sym, ap, ◌∙◌}
use mathlib.Core.Logic.{◌≢◌}
use mathlib.Core.Bool.{cond}
use mathlib.Core.List.{List, []}
use Prim.Native.Nat.{ℕ, ◌<◌}
use native.Mathlib.Omega.{arith}
use lib.ListN.{length, get_or}
use Rattle.ring.specs.Ring.{Ops, Ring}
use Rattle.ring.specs.Sum.{sum}
use Rattle.ring.proofs.Ring.{mul_one, mul_zero}
use Rattle.ring.proofs.Sum.{sum_single}
use Rattle.lists.specs.Lists.{equal}
use Rattle.lists.proofs.Equal.{equal_iff, equal_self, equal_no}
use Rattle.perms.specs.Permutation.{Perm}
use Rattle.algebra.specs.Place.{place, perms}
use Rattle.algebra.proofs.Places.{length_perms, place_at, map_at_place}

module _ (A : Type 0) (o : Ops A) where
  unfoldable pub delta : List ℕ → List ℕ → A
  delta v w = cond (equal v w) o.one o.zero

  pub delta_self : (w : List ℕ) → delta w w ≡ o.one
  unfolding delta
  delta_self w = rw (equal_self w)

  pub delta_no : (v w : List ℕ) → v ≢ w → delta v w ≡ o.zero
  unfolding delta
  delta_no v w n = rw (equal_no n)

  pub delta_iff : {v w v' w' : List ℕ} → (v ≡ w → v' ≡ w') → (v' ≡ w' → v ≡ w) → delta v w ≡ delta v' w'
  unfolding delta
  delta_iff f g = ap (λ b. cond b o.one o.zero) (equal_iff f g)

  module _ (𝓡 : Ring A o) where
    pub delta_sum : (m : ℕ) (F : List ℕ → A) (w : List ℕ) → Perm m w → sum A o (perms m) (λ v. o.mul (F v) (delta v w)) ≡ F w
    delta_sum m F w p =
        sum_single A o 𝓡 (perms m) f (place w) [] zeros
        ∙ map_at_place m f o.zero w p
        ∙ ap (o.mul (F w)) (delta_self w)
        ∙ mul_one A o 𝓡 (F w)
      where
        f : List ℕ → A
        f v = o.mul (F v) (delta v w)

        zeros : (j : ℕ) → j < length (perms m) → j ≢ place w → f (get_or (perms m) j []) ≡ o.zero
        zeros j l n =
            let v = get_or (perms m) j [] in
            ap (o.mul (F v)) (delta_no v w (λ e. n (sym (place_at m j (omega (arith, length_perms m))) ∙ ap place e))) ∙ mul_zero A o 𝓡 (F v)
