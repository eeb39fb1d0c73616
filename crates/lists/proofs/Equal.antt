-- Equality of lists of numbers as a test. Rests on Test.
use mathlib.Core.Path.{◌≡◌, refl, sym, ap₂, ◌∙◌}
use mathlib.Core.Logic.{◌≢◌}
use mathlib.Core.Bool.{true, false}
use mathlib.Core.List.{List, [], ◌∷◌, head-eq_of_cons-eq, tail-eq_of_cons-eq, nil≢cons, cons≢nil}
use Prim.Native.Nat.{ℕ}
use Rattle.lists.specs.Lists.{equal}
use Rattle.lists.proofs.Test.{SameView, is, isnt, same?}

data EqualView (w v : List ℕ) : Type 0 where
  equals : w ≡ v → equal w v ≡ true → EqualView w v
  differs : w ≢ v → equal w v ≡ false → EqualView w v

equal? : (w v : List ℕ) → EqualView w v
unfolding equal
equal? [] [] = equals refl refl
equal? [] (y ∷ v) = differs (λ e. nil≢cons e) refl
equal? (x ∷ w) [] = differs (λ e. cons≢nil e) refl
equal? (x ∷ w) (y ∷ v) = go (same? x y) (equal? w v)
  where
    go : SameView x y → EqualView w v → EqualView (x ∷ w) (y ∷ v)
    go (is p e) (equals q f) = equals (ap₂ {C = List ℕ} (λ a b. a ∷ b) p q) (rw (e, f))
    go (is p e) (differs n f) = differs (λ z. n (tail-eq_of_cons-eq z)) (rw (e, f))
    go (isnt n e) s = differs (λ z. n (head-eq_of_cons-eq z)) (rw e)

pub equal_iff : {w v w' v' : List ℕ} → (w ≡ v → w' ≡ v') → (w' ≡ v' → w ≡ v) → equal w v ≡ equal w' v'
equal_iff {w} {v} {w'} {v'} f g = go (equal? w v) (equal? w' v')
  where
    go : EqualView w v → EqualView w' v' → equal w v ≡ equal w' v'
    go (equals p e) (equals q h) = e ∙ sym h
    go (equals p e) (differs n h) = absurd (n (f p))
    go (differs n e) (equals q h) = absurd (n (g q))
    go (differs n e) (differs k h) = e ∙ sym h

pub equal_self : (w : List ℕ) → equal w w ≡ true
equal_self w = go (equal? w w)
  where
    go : EqualView w w → equal w w ≡ true
    go (equals p e) = e
    go (differs n e) = absurd (n refl)

pub equal_no : {w v : List ℕ} → w ≢ v → equal w v ≡ false
equal_no {w} {v} n = go (equal? w v)
  where
    go : EqualView w v → equal w v ≡ false
    go (equals p e) = absurd (n p)
    go (differs k e) = e
