-- The descents of a permutation are where its images fall, and where the entries of its tower, with a_0 = 0, rise. Rests on ImagesOf,
-- and on Products and Longer for s_i w.
use mathlib.Core.Path.{◌≡◌, refl, sym, ap, ap₂, ◌∙◌}
use mathlib.Core.Logic.{◌↔◌}
use mathlib.Core.Bool.{true}
use mathlib.Core.List.{List, [], ◌∷◌}
use Prim.Native.Nat.{ℕ, zero, suc, pred, ◌+◌, ◌≤◌, ◌<◌}
use native.Mathlib.Omega.{arith}
use lib.ListN.{length, get_or, take}
use lib.Seq.{take-suc}
use Rattle.lists.specs.Lists.{less, bit, tally}
use Rattle.lists.proofs.Test.{LessView, lt, ge, less?, less_yes, less_no, less_true}
use Rattle.lists.proofs.Tally.{tally_append, tally_mono}
use Rattle.perms.specs.Permutation.{Perm, len, descent, Letter}
use Rattle.perms.specs.Tower.{above, entry, tower_of, Tower, images_of}
use Rattle.perms.specs.Laws.{at}
use Rattle.perms.proofs.Perm.{swap_at, lft}
use Rattle.perms.proofs.Products.{generator_product}
use Rattle.perms.proofs.Longer.{len_swap_at}
use Rattle.perms.proofs.Tower.{get_or_tower}
use Rattle.perms.proofs.ImagesOf.{perm_is, back_and_there}

-- ---- two neighbours that change places

less_swap_at : (p : ℕ) (w : List ℕ) → suc p < length w → less (len (swap_at p w)) (len w) ≡ less (get_or w (suc p) 0) (get_or w p 0)
less_swap_at p w h = go (less? (get_or w (suc p) 0) (get_or w p 0)) (less? (get_or w p 0) (get_or w (suc p) 0)) (len_swap_at p w h)
  where
    x : ℕ
    x = get_or w p 0

    y : ℕ
    y = get_or w (suc p) 0

    go : LessView y x → LessView x y → len (swap_at p w) + bit (less y x) ≡ len w + bit (less x y) → less (len (swap_at p w)) (len w) ≡ less y x
    go (lt a e) (lt b f) k = absurd (omega arith)
    go (lt a e) (ge b f) k = less_yes (omega (arith, rw (e, f) at k)) ∙ sym e
    go (ge a e) (lt b f) k = less_no (omega (arith, rw (e, f) at k)) ∙ sym e
    go (ge a e) (ge b f) k = less_no (omega (arith, rw (e, f) at k)) ∙ sym e

-- ---- two neighbouring entries

above_mono : (x y : ℕ) (w : List ℕ) → x ≤ y → above y w ≤ above x w
unfolding above
above_mono x y w h = tally_mono (λ z. less y z) (λ z. less x z) (λ z e. less_yes (omega (arith, less_true y z e))) w

-- an entry rises just where the images fall
less_entry : (p : ℕ) (w : List ℕ) → suc p < length w → less (entry p w) (entry (suc p) w) ≡ less (get_or w (suc p) 0) (get_or w p 0)
unfolding entry above tally
less_entry p w h = go (less? y x)
  where
    x : ℕ
    x = get_or w p 0

    y : ℕ
    y = get_or w (suc p) 0

    last : above y (take (suc p) w) ≡ above y (take p w) + bit (less y x)
    last = ap (above y) (take-suc w p 0 (omega arith)) ∙ omega (arith, tally_append (λ z. less y z) (take p w) (x ∷ []))

    go : LessView y x → less (above x (take p w)) (above y (take (suc p) w)) ≡ less y x
    go (lt a e) = less_yes (omega (arith, rw e at last, above_mono y x (take p w) (omega arith))) ∙ sym e
    go (ge a e) = less_no (omega (arith, rw e at last, above_mono x y (take p w) a)) ∙ sym e

-- ---- descents

at_tower : (i : ℕ) (w : List ℕ) → i < length w → at (tower_of w) i ≡ entry i w
unfolding entry above tally
at_tower zero w h = refl
at_tower (suc i) w h = get_or_tower w i h

descent_entries : (m : ℕ) (w : List ℕ) → Perm m w → (i : ℕ) → Letter m i → descent m w i ≡ less (at (tower_of w) (pred i)) (at (tower_of w) i)
unfolding descent lft
descent_entries m w p zero l = absurd (omega arith)
descent_entries m w p (suc i) l =
    let h : suc i < length w = omega (arith, p.size) in
    ap (λ v. less (len v) (len w)) (generator_product (suc i) w p l)
    ∙ less_swap_at i w h
    ∙ sym (ap₂ less (at_tower i w (omega arith)) (at_tower (suc i) w h) ∙ less_entry i w h)

pub descents : (m : ℕ) (w : List ℕ) → Perm m w → (i : ℕ) → Letter m i → (descent m w i ≡ true) ↔ (at (tower_of w) (pred i) < at (tower_of w) i)
descents m w p i l = go (less? (at (tower_of w) (pred i)) (at (tower_of w) i)) (descent_entries m w p i l)
  where
    go : LessView (at (tower_of w) (pred i)) (at (tower_of w) i) → descent m w i ≡ less (at (tower_of w) (pred i)) (at (tower_of w) i)
        → (descent m w i ≡ true) ↔ (at (tower_of w) (pred i) < at (tower_of w) i)
    go (lt h e) d = (λ z. h, λ z. d ∙ e)
    go (ge h e) d = (λ z. omega (arith, ap bit (sym z ∙ d ∙ e)), λ z. absurd (omega arith))

pub descent_tower : (t : List ℕ) → Tower (length t) t → (i : ℕ) → Letter (length t) i → descent (length t) (images_of t) i ≡ less (at t (pred i)) (at t i)
descent_tower t c i l =
    descent_entries (length t) (images_of t) (perm_is (length t) t c) i l
    ∙ ap (λ s. less (at s (pred i)) (at s i)) (back_and_there (length t) t c)
