-- The nested method is right in every commutative ring: the record `Method`. Rests on AnyWords, Laws, Proposition, Recursion, NestedAct and Nested.
use mathlib.Core.Path.{◌≡◌, sym, ap₂, ◌∙◌}
use mathlib.Core.List.{List}
use Prim.Native.Nat.{ℕ, zero, suc, ◌+◌, ◌-◌, ◌≤◌}
use native.Mathlib.Omega.{arith}
use lib.ListN.{length}
use Rattle.ring.specs.Ring.{Ops, Ring}
use Rattle.lists.specs.Lists.{range}
use Rattle.lists.specs.Numbers.{factorial}
use Rattle.lists.specs.Blocks.{block}
use Rattle.perms.specs.Tower.{cycle}
use Rattle.perms.specs.Laws.{a}
use Rattle.perms.proofs.CycleReduced.{cycle_shortest}
use Rattle.algebra.specs.Element.{sum_over}
use Rattle.algebra.specs.Product.{act, times}
use Rattle.algebra.specs.Method.{Method}
use Rattle.algebra.proofs.AnyWords.{times_words}
use Rattle.algebra.proofs.Proposition.{proposition}
use Rattle.algebra.proofs.Laws.{laws}
use Rattle.algebra.proofs.Recursion.{recursion}
use Rattle.algebra.proofs.NestedAct.{act_value}
use Rattle.algebra.proofs.Nested.{value}

-- for l ≥ 1 in the place of l + 1
recursion_at : (A : Type 0) (o : Ops A) (q r : A) (𝓡 : Ring A o) (m l : ℕ) (h g : List A)
    → 1 ≤ l → l ≤ m → length h ≡ factorial (suc m) → length g ≡ factorial (suc l)
    → times A o q r m l h g ≡ sum_over A o m (range 0 (l + 1)) (λ k. act A o q r m (cycle l k) (times A o q r m (l - 1) h (block (factorial l) k g)))
recursion_at A o q r 𝓡 m zero h g l1 lm e d = absurd (omega arith)
recursion_at A o q r 𝓡 m (suc l) h g l1 lm e d =
    let x : l + 2 ≡ suc l + 1 = omega arith in
    let y : l ≡ suc l - 1 = omega arith in
    recursion A o q r 𝓡 m l h g lm e d
    ∙ ap₂ (λ n i. sum_over A o m (range 0 n) (λ k. act A o q r m (cycle (suc l) k) (times A o q r m i h (block (factorial (suc l)) k g)))) x y

pub method : (A : Type 0) (o : Ops A) (q r : A) (𝓡 : Ring A o) (ok : A → Type 0) (m : ℕ) → Method A o q r ok m
method A o q r 𝓡 ok m = record {
  by_words = λ l b x s h g e d. times_words A o q r 𝓡 x h g b s e.size d.size;
  cycle_times = λ j l b c h e. sym ((laws A o q r m 𝓡 ok).acts (a m j l) (cycle j l) (cycle_shortest m j l b c) h e);
  proposition = λ j l b c d h e. proposition A o q r 𝓡 m j l h b c d e.size;
  act_value = λ j l b c h e. act_value A o q r 𝓡 m j l h b c e.size;
  recursion = λ l b c h g e d. recursion_at A o q r 𝓡 m l h g b c e.size d.size;
  value = λ order any l b h g e d. value A o q r 𝓡 any m l h g b e.size d.size;
}
