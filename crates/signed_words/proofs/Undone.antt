-- An operator on pairs that undoes another does so on elements. Without any law of a ring. Rests on algebra's Generator and Elements, and perms' Ascent.
--
--   Undoes g f    first f and then g leave every pair as it is
use mathlib.Core.Path.{◌≡◌}
use mathlib.Core.Bool.{Bool, true, false, not}
use mathlib.Core.List.{List}
use Prim.Native.Nat.{ℕ, suc}
use lib.ListN.{length}
use Rattle.ring.specs.Ring.{Ops}
use Rattle.lists.specs.Numbers.{factorial}
use Rattle.perms.specs.Permutation.{Letter}
use Rattle.perms.proofs.Perm.{rgt, rgt_rgt}
use Rattle.perms.proofs.Ascent.{asc_r, flip_r}
use Rattle.algebra.specs.Element.{coefficient}
use Rattle.algebra.specs.Pairs.{OnPair, on_pairs}
use Rattle.algebra.proofs.Functions.{Eq}
use Rattle.algebra.proofs.Generator.{pick, P}
use Rattle.algebra.proofs.Elements.{has_own, has_on_pairs, equal_elements}

pub record Undoes {A : Type 0} (g f : OnPair A) : Type 0 where
  pub shorter : (s t : A) → g.shorter (f.shorter s t) (f.longer s t) ≡ s
  pub longer : (s t : A) → g.longer (f.shorter s t) (f.longer s t) ≡ t

P_undo : {A : Type 0} {g f : OnPair A} {m i : ℕ} → Undoes g f → (F : List ℕ → A) → Letter m i → Eq m (P g i (P f i F)) F
unfolding P pick
P_undo {A} {g} {f} {i = i} u F l w p = rw (rgt_rgt i w, flip_r i w l p) (go (asc_r i w))
  where
    x : A
    x = F (rgt i w)

    go : (b : Bool) → pick g b (pick f (not b) (F w) x) (pick f b x (F w)) ≡ F w
    go true = u.shorter (F w) x
    go false = u.longer x (F w)

pub on_pairs_undo : (A : Type 0) (o : Ops A) {g f : OnPair A} → Undoes g f → {m i : ℕ} → Letter m i → (h : List A) → length h ≡ factorial (suc m)
    → on_pairs A o g m i (on_pairs A o f m i h) ≡ h
on_pairs_undo A o {g} {f} u l h e =
    let a = has_own A o e in
    equal_elements A o (has_on_pairs A o (has_on_pairs A o a f l) g l) a (P_undo u (coefficient A o h) l)
