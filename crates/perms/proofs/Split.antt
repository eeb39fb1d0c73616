-- A permutation of rank m + 1 is `extend c u` for a value c from 1 to m + 2 and a permutation u of rank m, and each such list is one. Rests on Extend.
use mathlib.Core.Path.{◌≡◌, sym, ap, ap₂, ◌∙◌, refl}
use mathlib.Core.List.{List, [], ◌∷◌}
use mathlib.Core.Bool.{false}
use Prim.Native.Nat.{ℕ, zero, suc, pred, ◌+◌, ◌≤◌, ◌<◌}
use native.Mathlib.Omega.{arith}
use Rattle.lists.specs.Lists.{same, bit, count, tally}
use Rattle.lists.proofs.Test.{SameView, is, isnt, LessView, lt, ge, same?, less?, same_yes, same_no}
use Rattle.perms.specs.Permutation.{Perm}
use Rattle.perms.specs.Extend.{bump, extend}
use Rattle.perms.proofs.Perm.{Dist, dist_tail, perm_dist}
use Rattle.perms.proofs.Extend.{BumpView, under, over, bump?, bump_under, bump_over, length_extend}

-- ---- how often a value stands in an extended list

pub same_bump : (c v : ℕ) → same (bump c v) c ≡ false
same_bump c v = go (bump? c v)
  where
    go : BumpView c v → same (bump c v) c ≡ false
    go (under p e) = same_no (omega arith)
    go (over p e) = same_no (omega arith)

count_extend : (c : ℕ) (u : List ℕ) → count c (extend c u) ≡ 1
unfolding extend count tally
count_extend c [] = rw (same_yes {x = c} {a = c} refl)
count_extend c (x ∷ u) = rw (same_bump c x) (omega (arith, count_extend c u))

pub same_under : (c a v : ℕ) → a < c → same (bump c v) a ≡ same v a
same_under c a v h = go (bump? c v)
  where
    go : BumpView c v → same (bump c v) a ≡ same v a
    go (under p e) = ap (λ x. same x a) e
    go (over p e) = same_no (omega arith) ∙ sym (same_no (omega arith))

pub count_under : (c v : ℕ) (u : List ℕ) → v < c → count v (extend c u) ≡ count v u
unfolding extend count tally
count_under c v [] h = rw (same_no {x = c} {a = v} (omega arith))
count_under c v (x ∷ u) h = ap₂ (λ a b. bit a + b) (same_under c v x h) (count_under c v u h)

pub same_over : (c a v : ℕ) → c ≤ a → same (bump c v) (suc a) ≡ same v a
same_over c a v h = go (bump? c v) (same? v a)
  where
    go : BumpView c v → SameView v a → same (bump c v) (suc a) ≡ same v a
    go (under p e) s = same_no (omega arith) ∙ sym (same_no (omega arith))
    go (over p e) (is q f) = same_yes (omega arith) ∙ sym f
    go (over p e) (isnt q f) = same_no (omega arith) ∙ sym f

count_over : (c v : ℕ) (u : List ℕ) → c ≤ v → count (suc v) (extend c u) ≡ count v u
unfolding extend count tally
count_over c v [] h = rw (same_no {x = c} {a = suc v} (omega arith))
count_over c v (x ∷ u) h = ap₂ (λ a b. bit a + b) (same_over c v x h) (count_over c v u h)

-- ---- the list and what it is made of

pub record Tail (m c : ℕ) (u : List ℕ) : Type 0 where
  pub low : 1 ≤ c
  pub high : c ≤ m + 2
  pub rest : Perm m u

pub perm_extend : {m c : ℕ} {u : List ℕ} → Tail m c u → Perm (suc m) (extend c u)
perm_extend {m} {c} {u} t = record {
  size = length_extend c u ∙ omega (arith, t.rest.size);
  once = λ v. once v (less? v c) (same? v c);
  none = λ v. none v;
  zeroth = count_under c 0 u t.low ∙ t.rest.zeroth;
}
  where
    once : (v : ℕ) → LessView v c → SameView v c → 1 ≤ v → v ≤ suc m + 1 → count v (extend c u) ≡ 1
    once v (lt h e) s k l = count_under c v u h ∙ t.rest.once v k (omega arith)
    once zero (ge h e) s k l = absurd (omega arith)
    once (suc v) (ge h e) (is g f) k l = ap (λ x. count x (extend c u)) g ∙ count_extend c u
    once (suc v) (ge h e) (isnt g f) k l = count_over c v u (omega arith) ∙ t.rest.once v (omega arith) (omega arith)

    none : (v : ℕ) → suc m + 1 < v → count v (extend c u) ≡ 0
    none zero h = absurd (omega arith)
    none (suc v) h = count_over c v u (omega arith) ∙ t.rest.none v (omega arith)

perm_tail : {m c : ℕ} {u : List ℕ} → Perm (suc m) (extend c u) → Tail m c u
perm_tail {m} {c} {u} p = record {
  low = low c (count_extend c u);
  high = high;
  rest = record {
    size = omega (arith, length_extend c u, p.size);
    once = λ v. once v (less? v c);
    none = λ v h. sym (count_over c v u (omega (arith, high))) ∙ p.none (suc v) (omega arith);
    zeroth = sym (count_under c 0 u (low c (count_extend c u))) ∙ p.zeroth;
  };
}
  where
    low : (d : ℕ) → count d (extend c u) ≡ 1 → 1 ≤ d
    low zero e = omega (arith, p.zeroth)
    low (suc d) e = omega arith

    high : c ≤ m + 2
    high = go (less? (m + 2) c)
      where
        go : LessView (m + 2) c → c ≤ m + 2
        go (lt h e) = omega (arith, p.none c (omega arith), count_extend c u)
        go (ge h e) = h

    once : (v : ℕ) → LessView v c → 1 ≤ v → v ≤ m + 1 → count v u ≡ 1
    once v (lt h e) k l = sym (count_under c v u h) ∙ p.once v k (omega arith)
    once v (ge h e) k l = sym (count_over c v u h) ∙ p.once (suc v) (omega arith) (omega arith)

-- ---- rank 0

pub perm_zero : (w : List ℕ) → Perm 0 w → w ≡ 1 ∷ []
unfolding count tally
perm_zero [] p = absurd (omega (arith, p.size))
perm_zero (x ∷ []) p = ap {B = List ℕ} (λ a. a ∷ []) (go (same? x 1))
  where
    go : SameView x 1 → x ≡ 1
    go (is a e) = a
    go (isnt a e) = omega (arith, rw e at (p.once 1 (omega arith) (omega arith)))
perm_zero (x ∷ y ∷ w) p = absurd (omega (arith, p.size))

-- ---- the split

record Extended (w : List ℕ) : Type 0 where
  top : ℕ
  rest : List ℕ
  whole : w ≡ extend top rest

-- a list with no value twice is the extension of a list by its last value
extended : (x : ℕ) (w : List ℕ) → Dist (x ∷ w) → Extended (x ∷ w)
unfolding extend count tally
extended x [] d = record { top = x; rest = []; whole = refl }
extended x (y ∷ w) d = go (extended y w (dist_tail x (y ∷ w) d))
  where
    go : Extended (y ∷ w) → Extended (x ∷ y ∷ w)
    go r = close (less? x r.top) (same? x r.top)
      where
        -- the value that makes room to be x
        put : (v : ℕ) → bump r.top v ≡ x → Extended (x ∷ y ∷ w)
        put v e = record { top = r.top; rest = v ∷ r.rest; whole = ap₂ {C = List ℕ} (λ a b. a ∷ b) (sym e) r.whole }

        close : LessView x r.top → SameView x r.top → Extended (x ∷ y ∷ w)
        close (lt h e) s = put x (bump_under h)
        close (ge h e) (is q f) = absurd (omega (arith, rw f at (d r.top), ap (count r.top) r.whole ∙ count_extend r.top r.rest))
        close (ge h e) (isnt n f) = put (pred x) (bump_over (omega arith) ∙ omega arith)

pub record Apart (m : ℕ) (w : List ℕ) : Type 0 where
  pub top : ℕ
  pub rest : List ℕ
  pub whole : w ≡ extend top rest
  pub fit : Tail m top rest

pub split : {m : ℕ} (w : List ℕ) → Perm (suc m) w → Apart m w
split [] p = absurd (omega (arith, p.size))
split {m} (x ∷ w) p = go (extended x w (perm_dist p))
  where
    go : Extended (x ∷ w) → Apart m (x ∷ w)
    go r = record { top = r.top; rest = r.rest; whole = r.whole; fit = perm_tail (rw r.whole at p) }
