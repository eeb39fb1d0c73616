-- A reversed list by index, and that it is the list in another order. Rests on the definitions alone.
use mathlib.Core.Path.{◌≡◌, refl, ap, ◌∙◌}
use mathlib.Core.Bool.{Bool, true, false}
use mathlib.Core.List.{List, [], ◌∷◌, ◌++◌, reverse, reverse-cons}
use Prim.Native.Nat.{ℕ, suc, ◌-◌, ◌<◌}
use native.Mathlib.Omega.{arith}
use lib.Dec.{ltb, ltb→lt, nltb→le}
use lib.ListN.{length, get_or, length-reverse, get_or-append}
use lib.Seq.{get_or_at}
use Rattle.lists.specs.Sums.{Rearranged}

pub get_or_reverse : {B : Type 0} (s : List B) (i : ℕ) (d : B) → i < length s → get_or (reverse s) i d ≡ get_or s (length s - suc i) d
get_or_reverse [] i d h = absurd (omega arith)
get_or_reverse {B} (x ∷ s) i d h = ap (λ l. get_or l i d) (reverse-cons x s) ∙ go (get_or_reverse s i d) (ltb i (length s)) refl
  where
    go : (i < length s → get_or (reverse s) i d ≡ get_or s (length s - suc i) d) → (b : Bool) → ltb i (length s) ≡ b
        → get_or (reverse s ++ (x ∷ [])) i d ≡ get_or (x ∷ s) (suc (length s) - suc i) d
    go ih true e =
        let l : i < length s = ltb→lt i (length s) (rw e tt) in
        let k : suc (length s - suc i) ≡ suc (length s) - suc i = omega arith in
        get_or-append (reverse s) (x ∷ []) d i (omega (arith, length-reverse s)) ∙ ih l ∙ ap (λ n. get_or (x ∷ s) n d) k
    go ih false e =
        let l : length s ≡ i = omega (arith, nltb→le i (length s) (rw e tt)) in
        let k : 0 ≡ suc (length s) - suc i = omega arith in
        get_or_at (reverse s) x [] d i (length-reverse s ∙ l) ∙ ap (λ n. get_or (x ∷ s) n d) k

pub reverse_rearranged : {B : Type 0} (s : List B) → Rearranged (reverse s) s
reverse_rearranged s = record {
  size = length-reverse s;
  from = λ i. length s - suc i;
  within = λ i h. omega (arith, length-reverse s);
  apart = λ i j h l e. omega (arith, length-reverse s);
  same = λ d i h. get_or_reverse s i d (omega (arith, length-reverse s));
}
