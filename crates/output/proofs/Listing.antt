-- A loop that puts the nonzero coefficients of a list one after another. Rests on Putting, LineLengths and lists' Test.
--
--   Listed h t u i   u is the text t with the lines of the first i coefficients of h put after it; there is room for all of them
use mathlib.Core.Path.{◌≡◌, sym, ap, ◌∙◌, subst}
use mathlib.Core.Logic.{◌≢◌}
use mathlib.Core.Bool.{cond}
use mathlib.Core.List.{List, [], ◌∷◌, ◌++◌, append_assoc, append-nil}
use Prim.Native.Nat.{ℕ, suc, ◌+◌, ◌*◌, ◌^◌, ◌≤◌, ◌<◌}
use native.Mathlib.Nat.{add-zero}
use native.Mathlib.Numerals.{add-one}
use native.Mathlib.Omega.{arith}
use lib.ListN.{length, get_or, take, drop, length-append, take-append-drop}
use lib.Seq.{length-take-le, take-suc}
use Rattle.lists.specs.Lists.{same, All}
use Rattle.lists.proofs.Test.{same_yes, same_no}
use Rattle.output.specs.declared.lines.Text.{Text}
use Rattle.output.specs.Text.{pair_line, coefficients}
use Rattle.output.specs.Steps.{Room, Puts}
use Rattle.output.proofs.Putting.{puts_none, puts_then}
use Rattle.output.proofs.LineLengths.{coefficients_short}

coefficients_append : (i : ℕ) (h g : List ℕ) → coefficients i (h ++ g) ≡ coefficients i h ++ coefficients (i + length h) g
unfolding coefficients
coefficients_append i [] g = ap (λ n. coefficients n g) (sym (add-zero i))
coefficients_append i (x ∷ h) g =
    ap (λ t. own ++ t) (coefficients_append (suc i) h g ∙ ap (λ n. coefficients (suc i) h ++ coefficients n g) shift) ∙ sym (append_assoc own _ _)
  where
    own : List ℕ
    own = cond (same x 0) [] (pair_line i x)

    shift : suc i + length h ≡ i + suc (length h)
    shift = omega arith

-- one coefficient
coefficient_zero : (i : ℕ) {x : ℕ} → x ≡ 0 → coefficients i (x ∷ []) ≡ []
unfolding coefficients
coefficient_zero i e = rw (same_yes e)

coefficient_line : (i : ℕ) {x : ℕ} → x ≢ 0 → coefficients i (x ∷ []) ≡ pair_line i x
unfolding coefficients
coefficient_line i {x} n = rw (same_no n) (append-nil (pair_line i x))

pub record Listed (h : List ℕ) (t u : Text) (i : ℕ) : Type 0 where
  pub fits : Room (length (coefficients 0 h)) t
  pub written : Puts (coefficients 0 (take i h)) t u

pub listed_none : {h : List ℕ} {t : Text} → length h ≤ 720 → All (λ x. x < 2 ^ 64) h → Room (25 * length h) t → Listed h t t 0
unfolding coefficients
listed_none {h} {t} few each large =
    record { fits = record { within = omega (arith, large.within, coefficients_short 0 h (omega arith) each) }; written = puts_none t (omega (arith, large.within)) }

next_line : (h : List ℕ) (i : ℕ) → i < length h → coefficients 0 (take (i + 1) h) ≡ coefficients 0 (take i h) ++ coefficients i (get_or h i 0 ∷ [])
next_line h i l =
    ap (coefficients 0) (ap (λ n. take n h) (add-one i) ∙ take-suc h i 0 l) ∙ coefficients_append 0 (take i h) (get_or h i 0 ∷ [])
    ∙ ap (λ n. coefficients 0 (take i h) ++ coefficients n (get_or h i 0 ∷ [])) place
  where
    place : 0 + length (take i h) ≡ i
    place = omega (arith, length-take-le i h (omega arith))

part_shorter : (h : List ℕ) (i : ℕ) → length (coefficients 0 (take i h)) ≤ length (coefficients 0 h)
part_shorter h i = omega (
  arith,
  simp length-append at (ap length (sym (coefficients_append 0 (take i h) (drop i h)) ∙ ap (coefficients 0) (take-append-drop i h))),
)

module _ {h : List ℕ} {t u : Text} {i : ℕ} (a : Listed h t u i) where
  more : {v : Text} → i < length h → Puts (coefficients i (get_or h i 0 ∷ [])) u v → Listed h t v (i + 1)
  more {v} l b = record {
    fits = a.fits;
    written = subst (λ x. Puts x t v) (sym (next_line h i l)) (puts_then a.written b);
  }

  pub listed_zero : i < length h → get_or h i 0 ≡ 0 → Listed h t u (i + 1)
  listed_zero l e = more l (rw (coefficient_zero i e) (puts_none u a.written.within))

  module _ (l : i < length h) (n : get_or h i 0 ≢ 0) where
    pub listed_room : Room (length (pair_line i (get_or h i 0))) u
    listed_room = record {
      within = omega (
        arith,
        a.fits.within,
        a.written.put.ends,
        a.written.room,
        part_shorter h (i + 1),
        simp length-append at (ap length (next_line h i l)),
        ap length (coefficient_line i n),
      );
    }

    pub listed_more : {v : Text} → Puts (pair_line i (get_or h i 0)) u v → Listed h t v (i + 1)
    listed_more b = more l (rw (coefficient_line i n) b)
