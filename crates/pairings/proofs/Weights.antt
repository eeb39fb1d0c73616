-- With the factorials as weights, from the last index, the walk finds b at the place of the inverse; so it makes the pairing. Rests on Found, LastPlace
-- and WordBlocks.
use mathlib.Core.Path.{◌≡◌, refl, sym, ap, ◌∙◌}
use mathlib.Core.List.{List, [], ◌∷◌}
use Prim.Native.Nat.{ℕ, zero, suc, ◌+◌, ◌*◌, ◌-◌, ◌≤◌, ◌<◌}
use native.Mathlib.Omega.{arith}
use lib.ListN.{length, get_or}
use Rattle.ring.specs.Modular.{words, modular}
use Rattle.lists.specs.Numbers.{factorial}
use Rattle.lists.proofs.Series.{series_cong, series_factorials}
use Rattle.perms.specs.Permutation.{Perm, identity, inverse}
use Rattle.perms.proofs.Identity.{perm_identity}
use Rattle.perms.proofs.Group.{perm_inverse}
use Rattle.algebra.specs.Place.{place}
use Rattle.algebra.specs.Element.{coefficient}
use Rattle.algebra.specs.Pairing.{pairing}
use Rattle.algebra.proofs.Place.{place_below}
use Rattle.pairings.specs.Walk.{by_length, found, walked, WalkPre, PairPre}
use Rattle.pairings.proofs.LastPlace.{place_fall}
use Rattle.pairings.proofs.ByLength.{by_length_cong}
use Rattle.pairings.proofs.WordBlocks.{word_rank_zero}
use Rattle.pairings.proofs.Rest.{weight}
use Rattle.pairings.proofs.Found.{fall_agree}

abbrev pub factorials : List ℕ
factorials = 1 ∷ 1 ∷ 2 ∷ 6 ∷ 24 ∷ 120 ∷ 720 ∷ []

factorial_at : (j : ℕ) → j < 7 → weight factorials j ≡ factorial j
unfolding factorial
factorial_at zero h = refl
factorial_at (suc zero) h = refl
factorial_at (suc (suc zero)) h = refl
factorial_at (suc (suc (suc zero))) h = refl
factorial_at (suc (suc (suc (suc zero)))) h = refl
factorial_at (suc (suc (suc (suc (suc zero))))) h = refl
factorial_at (suc (suc (suc (suc (suc (suc zero)))))) h = refl
factorial_at (suc (suc (suc (suc (suc (suc (suc j))))))) h = absurd (omega arith)

module _ {m : ℕ} {a b : List ℕ} (h : PairPre m a b) where
  pub walk_pre : 1 ≤ m → WalkPre m (length b - 1) a b factorials
  walk_pre some =
      let each = series_cong 0 (suc m) (λ j. weight factorials j * j) (λ j. factorial j * j)
      (λ i l. ap (λ x. x * (0 + i)) (factorial_at (0 + i) (omega (arith, h.low)))) in
      record {
        some = some;
        low = h.low;
        left = h.left;
        within = omega (arith, h.right, series_factorials (suc m));
        reach = omega (arith, h.right, series_factorials (suc m), each);
      }

  found_inverse : (w : List ℕ) → Perm m w → found (length b - 1) b factorials w ≡ coefficient ℕ words b (inverse w)
  unfolding found coefficient modular
  found_inverse w p =
      let v = perm_inverse w p in
      let agree = fall_agree (weight factorials) factorial (inverse w) v (λ j l. factorial_at j (omega (arith, h.low))) in
      ap (λ i. get_or b i 0) (omega (arith, agree, h.right, place_fall (inverse w) v))

  pub walk_pairs : (q : ℕ) → walked q m (length b - 1) a b factorials ≡ pairing ℕ words q m a b
  unfolding walked pairing by_length
  walk_pairs q = by_length_cong ℕ words q m a _ _ found_inverse

  pub some_words : (1 ≤ length a) × (1 ≤ length b)
  some_words = (omega (arith, h.left, series_factorials (suc m)), omega (arith, h.right, series_factorials (suc m)))

first_place : (b : List ℕ) → coefficient ℕ words b (inverse (identity 0)) ≡ get_or b 0 0
unfolding coefficient factorial modular
first_place b =
    let none : place (inverse (identity 0)) ≡ 0 = omega (arith, place_below 0 (inverse (identity 0)) (perm_inverse (identity 0) (perm_identity 0))) in
    ap (λ i. get_or b i 0) none

pub pairing_zero : (q : ℕ) {m : ℕ} (a b : List ℕ) → m ≡ 0 → words.mul (get_or a 0 0) (get_or b 0 0) ≡ pairing ℕ words q m a b
unfolding pairing by_length
pairing_zero q a b e = sym (
    ap (λ (n : ℕ). pairing ℕ words q n a b) e
    ∙ word_rank_zero q a (λ w. coefficient ℕ words b (inverse w))
    ∙ ap (words.mul (get_or a 0 0)) (first_place b))
