-- Commands that may run keep the zeros past M in each register. Rests on Puts and operands' Allowed.
--
--   Kept M x   four registers of 720 words, each of them zero past the first M
use mathlib.Core.Path.{◌≡◌, ap, ◌∙◌}
use mathlib.Core.Logic.{◌⊎◌, inl, inr}
use mathlib.Core.Bool.{true}
use mathlib.Core.List.{List, [], ◌∷◌, ◌++◌}
use Prim.Native.Nat.{ℕ, suc, ◌+◌, ◌*◌, ◌-◌, ◌≤◌, ◌<◌}
use native.Mathlib.Omega.{arith}
use lib.ListN.{length, get_or, take, drop, length-replicate, get_or-append, get_or-replicate, replicate}
use lib.Seq.{length-take-le, get_or-append-add, get_or-take, get_or-drop}
use Rattle.lists.specs.Lists.{All}
use Rattle.lists.specs.Numbers.{factorial}
use Rattle.lists.specs.Overwrite.{overwrite}
use Rattle.lists.proofs.Test.{LessView, lt, ge, less?}
use Rattle.lists.proofs.Overwrite.{overwrite_size}
use Rattle.ranks.proofs.Sizes.{sheet_size_small}
use Rattle.sheet_format.specs.declared.Header.{Header}
use Rattle.sheet_format.specs.declared.Command.{Command}
use Rattle.operands.specs.Operands.{may_run}
use Rattle.operands.proofs.InRange.{low}
use Rattle.operands.proofs.Allowed.{in_range_lem}
use Rattle.machine.specs.Registers.{put}
use Rattle.runner.specs.Run.{State, after, obey_all}
use Rattle.runner.proofs.Puts.{puts_obey}

pub record Kept (M : ℕ) (x : List ℕ) : Type 0 where
  pub four : length x ≡ 2880
  pub past : (r i : ℕ) → r < 4 → M ≤ i → i < 720 → get_or x (720 * r + i) 0 ≡ 0

pub kept_zeros : (M : ℕ) → Kept M (replicate 2880 0)
kept_zeros M = record {
  four = length-replicate {A = ℕ} 2880 0;
  past = λ r i four l h. get_or-replicate {A = ℕ} 2880 (720 * r + i) 0 0 (omega arith);
}

-- the words before and after the element that is put
get_or_put : (r : ℕ) (h x : List ℕ) (i : ℕ) → 720 * r + length h ≤ length x → (i < 720 * r) ⊎ (720 * r + length h ≤ i) → get_or (put r h x) i 0 ≡ get_or x i 0
unfolding overwrite
get_or_put r h x i fits (inl l) = let n = length-take-le (720 * r) x (omega arith) in
    get_or-append (take (720 * r) x) (h ++ drop (720 * r + length h) x) 0 i (omega arith) ∙ get_or-take (720 * r) x i 0 l
get_or_put r h x i fits (inr l) =
    let front = take (720 * r) x in let rest = drop (720 * r + length h) x in let k = i - (720 * r + length h) in
    let n = length-take-le (720 * r) x (omega arith) in
    let e : i ≡ length front + (length h + k) = omega arith in
    let f : 720 * r + length h + k ≡ i = omega arith in
    ap (λ i. get_or (put r h x) i 0) e
    ∙ get_or-append-add front (h ++ rest) (length h + k) 0
    ∙ get_or-append-add h rest k 0
    ∙ get_or-drop (720 * r + length h) x k 0
    ∙ ap (λ i. get_or x i 0) f

module _ {M : ℕ} (small : M ≤ 720) where
  kept_put : (x : List ℕ) (r : ℕ) (h : List ℕ) → r < 4 → length h ≡ M → Kept M x → Kept M (put r h x)
  kept_put x r h four size k = record {
    four = overwrite_size (720 * r) h x (omega arith) ∙ k.four;
    past = λ a i b l t. get_or_put r h x (720 * a + i) (omega arith) (apart a i l t) ∙ k.past a i b l t;
  }
    where
      apart : (a i : ℕ) → M ≤ i → i < 720 → (720 * a + i < 720 * r) ⊎ (720 * r + length h ≤ 720 * a + i)
      apart a i l t = go (less? a r)
        where
          go : LessView a r → (720 * a + i < 720 * r) ⊎ (720 * r + length h ≤ 720 * a + i)
          go (lt h e) = inl (omega arith)
          go (ge h e) = inr (omega arith)

module _ (h : Header) where
  abbrev M : ℕ
  M = factorial (suc h.rank)

  pub kept_all : (cs : List Command) (x : State) → All (λ c. may_run h c ≡ true) cs → Kept M x.contents → Kept M (obey_all h cs x).contents
  unfolding obey_all
  kept_all [] x a k = k
  kept_all (c ∷ cs) x a k =
      let e = in_range_lem h c a.0 in
      kept_all cs (after h c x) a.1
      (puts_obey h c e (Kept M) (λ y k. k.four) (kept_put (sheet_size_small h.rank (low h.rank c e))) x.contents k)
