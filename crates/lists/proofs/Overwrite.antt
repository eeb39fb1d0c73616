-- A list that is overwritten from an index on: its size, a store past its first elements, and one write after another. Rests on the definition alone.
use mathlib.Core.Path.{◌≡◌, sym, ap, ap₂, ◌∙◌}
use mathlib.Core.List.{List, [], ◌∷◌, ◌++◌, append_assoc}
use Prim.Native.Nat.{ℕ, zero, suc, ◌+◌, ◌≤◌}
use native.Mathlib.Nat.{suc-add}
use native.Mathlib.Omega.{arith}
use lib.ListN.{length, take, drop, set, length-append, length-drop}
use lib.Seq.{length-take-le, take_at, drop-append-add, drop-drop}
use Rattle.lists.specs.Overwrite.{overwrite}

pub overwrite_size : (at : ℕ) (h x : List ℕ) → at + length h ≤ length x → length (overwrite at h x) ≡ length x
unfolding overwrite
overwrite_size at h x fits = simp (length-append, length-drop, length-take-le at x (omega arith)) (omega arith)

pub set_next : (p q : List ℕ) (n i v : ℕ) → length p ≡ n → set (p ++ q) (n + i) v ≡ p ++ set q i v
set_next [] q n i v e = let z : n + i ≡ i = omega arith in ap (λ k. set q k v) z
set_next (y ∷ p) q zero i v e = absurd (omega arith)
set_next (y ∷ p) q (suc n) i v e = rw suc-add (ap {B = List ℕ} (λ t. y ∷ t) (set_next p q n i v (omega arith)))

pub overwrite_more : (at : ℕ) (x y t : List ℕ) → at ≤ length t → overwrite (at + length x) y (overwrite at x t) ≡ overwrite at (x ++ y) t
unfolding overwrite
overwrite_more at x y t h =
    ap₂ {C = List ℕ} (λ a b. a ++ (y ++ b)) begin end ∙ append_assoc (take at t) x _ ∙ ap (λ a. take at t ++ a) (sym (append_assoc x y _))
  where
    p : List ℕ
    p = take at t ++ x

    size : length p ≡ at + length x
    size = length-append (take at t) x ∙ ap (λ n. n + length x) (length-take-le at t h)

    joined : take at t ++ (x ++ drop (at + length x) t) ≡ p ++ drop (at + length x) t
    joined = sym (append_assoc (take at t) x _)

    begin : take (at + length x) (take at t ++ (x ++ drop (at + length x) t)) ≡ p
    begin = ap (take (at + length x)) joined ∙ take_at p _ _ size

    end : drop (at + length x + length y) (take at t ++ (x ++ drop (at + length x) t)) ≡ drop (at + length (x ++ y)) t
    end = ap₂ {C = List ℕ} (λ n a. drop (n + length y) a) (sym size) joined ∙ drop-append-add p _ (length y) ∙ drop-drop (length y) (at + length x) t
        ∙ ap (λ n. drop n t) past
      where
        past : at + length x + length y ≡ at + length (x ++ y)
        past = omega (arith, length-append x y)
