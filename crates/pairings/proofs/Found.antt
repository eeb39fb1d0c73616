-- Where the walk finds b, one rank down: for u a(m + 1, k) it falls by the weight c = m + 1 - k, c times, and then finds it for u by the other weights.
-- Where one can fall by all weights, one can fall so. Rests on Fall, Rest and lists' Series.
use mathlib.Core.Path.{◌≡◌, sym, ap, ◌∙◌}
use mathlib.Core.List.{List}
use Prim.Native.Nat.{ℕ, suc, pred, ◌+◌, ◌-◌, ◌*◌, ◌^◌, ◌≤◌, ◌<◌}
use native.Mathlib.Nat.{mul-le-mul_left}
use native.Mathlib.Omega.{arith}
use mir.Syntax.{w64}
use mir.Val.{Fits}
use lib.ListN.{length, get_or}
use Rattle.lists.specs.Numbers.{series}
use Rattle.lists.proofs.Series.{series_cong, series_mono}
use Rattle.perms.specs.Permutation.{Perm, inverse}
use Rattle.perms.specs.Extend.{bump}
use Rattle.perms.proofs.Extend.{bump_above, series_without}
use Rattle.perms.proofs.Split.{Tail}
use Rattle.perms.proofs.Group.{perm_inverse}
use Rattle.algebra.specs.Place.{join}
use Rattle.algebra.proofs.Enumeration.{join_extend}
use Rattle.pairings.specs.Walk.{lower, fall, found}
use Rattle.pairings.proofs.Fall.{fall_extend}
use Rattle.pairings.proofs.Rest.{weight, Rest}

pub found_word : (top : ℕ) (b f w : List ℕ) → ((i : ℕ) → Fits w64 (get_or b i 0)) → found top b f w < 2 ^ 64
unfolding found
found_word top b f w k = (k _).fits

pub fall_agree : {m : ℕ} (f g : ℕ → ℕ) (w : List ℕ) → Perm m w → ((j : ℕ) → j < suc m → f j ≡ g j) → fall f w ≡ fall g w
unfolding fall
fall_agree f g w p h = series_cong 0 (length w) _ _ (λ i l. ap (λ x. x * lower w (0 + i)) (h (0 + i) (omega (arith, p.size))))

pub found_join : {m : ℕ} (k top : ℕ) (b f g u : List ℕ) → k ≤ suc m → Perm m u → Rest (suc m) (suc m - k) f g
    → found top b f (join m k u) ≡ found (top - (suc m - k) * weight f (suc m - k)) b g u
unfolding found
found_join {m} k top b f g u h p r =
    let t : Tail m (m + 2 - k) u = record { low = omega arith; high = omega arith; rest = p } in
    let c = suc m - k in
    let e : pred (m + 2 - k) ≡ c = omega arith in
    let all : fall (weight f) (inverse (join m k u)) ≡ weight f c * c + fall (weight g) (inverse u) =
    ap (λ w. fall (weight f) (inverse w)) (join_extend k u h p)
    ∙ fall_extend t (weight f)
    ∙ ap (λ c. weight f c * c + fall (λ j. weight f (bump c j)) (inverse u)) e
    ∙ ap (λ n. weight f c * c + n) (fall_agree (λ j. weight f (bump c j)) (weight g) (inverse u) (perm_inverse u p) (λ j l. sym (r j l))) in
    ap (λ i. get_or b i 0) (omega (arith, all))

-- ---- how far one falls

pub reach_at : (m c top : ℕ) (f : List ℕ) → c ≤ m → series 0 (suc m) (λ j. weight f j * j) ≤ top → c * weight f c ≤ top
reach_at m c top f h l = omega (arith, series_without m c (λ j. weight f j * j) h)

pub reach_rest : (m c top : ℕ) (f g : List ℕ) → c ≤ m → Rest m c f g → series 0 (suc m) (λ j. weight f j * j) ≤ top
    → series 0 m (λ j. weight g j * j) ≤ top - c * weight f c
reach_rest m c top f g h r l =
    let less : series 0 m (λ j. weight g j * j) ≤ series 0 m (λ j. weight f (bump c j) * bump c j) =
    series_mono m _ _ (λ j k. omega (arith, ap (λ x. x * j) (r j k), mul-le-mul_left (weight f (bump c j)) (bump_above c j))) in
    omega (arith, series_without m c (λ j. weight f j * j) h, less)
