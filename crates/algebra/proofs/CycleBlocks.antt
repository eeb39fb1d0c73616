-- The word of a(j, l) on the blocks of a coefficient function: Proposition 3.2, by the last image c. Rests on PairBlocks, on Words, and on perms
-- for the letters of a(j, l).
use mathlib.Core.Path.{◌≡◌, refl, sym, ap, ap₂, ◌∙◌, fun_ext}
use mathlib.Core.List.{List, [], ◌∷◌, ◌++◌, map}
use Prim.Native.Nat.{ℕ, zero, suc, pred, ◌+◌, ◌-◌, ◌≤◌, ◌<◌}
use native.Mathlib.Omega.{arith}
use Rattle.ring.specs.Ring.{Ops, Ring}
use Rattle.ring.specs.Sum.{sum}
use Rattle.ring.proofs.Ring.{add_zero, mul_zero}
use Rattle.ring.proofs.Combination.{comb_one}
use Rattle.lists.specs.Lists.{All, range}
use Rattle.perms.specs.Permutation.{Perm}
use Rattle.perms.specs.Tower.{cycle}
use Rattle.perms.specs.Extend.{extend}
use Rattle.perms.proofs.Word.{word_cycle, cycle_under, cycle_over, cycle_suc, cycle_add}
use Rattle.algebra.specs.Pairs.{OnPair, forward}
use Rattle.algebra.proofs.Functions.{Eq}
use Rattle.algebra.proofs.Ranges.{sum_snoc}
use Rattle.algebra.proofs.Generator.{R}
use Rattle.algebra.proofs.Words.{Rw, Rw_cong, Rw_append, Rw_comb}
use Rattle.algebra.proofs.PairBlocks.{block_at, P_above, P_upper, P_lower, P_below}

module _ (A : Type 0) (o : Ops A) (q r : A) where
  abbrev f : OnPair A
  f = forward A o q r

  -- ---- c above or below all letters

  Rw_above : (c : ℕ) (x : List ℕ) (F : List ℕ → A) → All (λ i. suc i < c) x → block_at c (Rw A o q r x F) ≡ Rw A o q r x (block_at c F)
  unfolding Rw
  Rw_above c [] F a = refl
  Rw_above c (i ∷ x) F a = Rw_above c x (R A o q r i F) a.1 ∙ ap (Rw A o q r x) (fun_ext (λ u. P_above f i c F u a.0))

  Rw_below : (c : ℕ) (x : List ℕ) (F : List ℕ → A) → All (λ i. c ≤ i) x → block_at c (Rw A o q r (map suc x) F) ≡ Rw A o q r x (block_at c F)
  unfolding Rw
  Rw_below c [] F a = refl
  Rw_below c (i ∷ x) F a = Rw_below c x (R A o q r (suc i) F) a.1 ∙ ap (Rw A o q r x) (fun_ext (λ u. P_below f i c F u a.0))

  pub cycle_above : (c j l : ℕ) (F : List ℕ → A) → suc j < c → block_at c (Rw A o q r (cycle j l) F) ≡ Rw A o q r (cycle j l) (block_at c F)
  cycle_above c j l F h = Rw_above c (cycle j l) F (cycle_under c j l h)

  pub cycle_below : (c j l : ℕ) (F : List ℕ → A) → c + l ≤ suc j → l ≤ j → block_at c (Rw A o q r (cycle (suc j) l) F) ≡ Rw A o q r (cycle j l) (block_at c F)
  cycle_below c j l F h k = rw (cycle_suc j l k) (Rw_below c (cycle j l) F (cycle_over c j l h))

  module _ (𝓡 : Ring A o) where
    -- ---- c is the last letter

    -- the sum over i = 1 to l of the parts
    abbrev pub parts : ℕ → ℕ → (List ℕ → A) → List ℕ → A
    parts j l F u = sum A o (range 1 l) (λ i. Rw A o q r (cycle j (i - 1)) (block_at (suc (suc j) - i) F) u)

    pub cycle_last : (m c j l : ℕ) (F : List ℕ → A) (u : List ℕ) → Perm m u → j ≤ m → 1 ≤ c → c + l ≡ suc (suc j)
        → Rw A o q r (cycle (suc j) l) F (extend c u) ≡ o.add (F (extend (suc (suc j)) u)) (o.mul r (parts j l F u))
    unfolding Rw cycle sum range
    cycle_last m c j zero F u p n h e =
        ap (λ d. F (extend d u)) (omega arith) ∙ sym (ap (o.add (F (extend (suc (suc j)) u))) (mul_zero A o 𝓡 r) ∙ add_zero A o 𝓡 (F (extend (suc (suc j)) u)))
    cycle_last m c j (suc l) F u p n h e =
        ap (λ x. Rw A o q r x F (extend c u)) (ap (cycle (suc j)) last ∙ cycle_add (suc j) l 1)
        ∙ ap (λ G. G (extend c u)) (Rw_append A o q r (cycle (suc j) l) (cycle (suc j - l) 1) F)
        ∙ ap (λ i. R A o q r i (Rw A o q r (cycle (suc j) l) F) (extend c u)) here
        ∙ P_lower f c (Rw A o q r (cycle (suc j) l) F) u (omega (arith, p.once c h (omega arith)))
        ∙ ap₂ (λ a b. o.add a (o.mul r b)) (cycle_last m (suc c) j l F u p n (omega arith) (omega arith))
        (ap (λ G. G u) (cycle_below c j l F (omega arith) (omega arith)))
        ∙ 𝓡.add_assoc x (o.mul r (parts j l F u)) (o.mul r y)
        ∙ ap (o.add x) (sym (𝓡.mul_add r (parts j l F u) y) ∙ ap (o.mul r) more)
      where
        x : A
        x = F (extend (suc (suc j)) u)

        y : A
        y = Rw A o q r (cycle j l) (block_at c F) u

        last : suc l ≡ l + 1
        last = omega arith

        here : suc j - l ≡ c
        here = omega arith

        one : l ≡ 1 + l - 1
        one = omega arith

        two : c ≡ suc (suc j) - (1 + l)
        two = omega arith

        more : o.add (parts j l F u) y ≡ parts j (suc l) F u
        more = ap (o.add (parts j l F u)) (ap₂ (λ k d. Rw A o q r (cycle j k) (block_at d F) u) one two) ∙ sym (sum_snoc A o 𝓡 1 l _)

    -- a multiple is a combination of one function
    Rw_scale : (x : List ℕ) (a : A) (F : List ℕ → A) → Rw A o q r x (λ v. o.mul a (F v)) ≡ (λ v. o.mul a (Rw A o q r x F v))
    Rw_scale x a F =
        let one = comb_one A o 𝓡 {B = ℕ} 0 a in
        ap (Rw A o q r x) (sym (one F)) ∙ Rw_comb A o q r 𝓡 x (0 ∷ []) (λ _. a) (λ _. F) ∙ one (Rw A o q r x F)

    -- ---- c among the letters: d = c - 1 is the letter that moves it, t letters come before it and s after

    pub cycle_among : (m d t s j : ℕ) (F : List ℕ → A) (u : List ℕ) → Perm m u → 1 ≤ d → t + d ≡ suc j → s < d → j ≤ m
        → Rw A o q r (cycle (suc j) (t + suc s)) F (extend (suc d) u) ≡ o.mul q (Rw A o q r (cycle j (t + s)) (block_at d F) u)
    unfolding Rw cycle
    cycle_among m d t s j F u p l e k n =
        ap (λ x. Rw A o q r x F (extend (suc d) u)) (cycle_add (suc j) t (suc s) ∙ ap (λ i. cycle (suc j) t ++ cycle i (suc s)) here)
        ∙ ap (λ G. G (extend (suc d) u)) (Rw_append A o q r (cycle (suc j) t) (d ∷ cycle (pred d) s) F)
        ∙ ap (λ G. G u) (cycle_above (suc d) (pred d) s (R A o q r d X) (omega arith))
        ∙ Rw_cong A o q r (cycle (pred d) s) (word_cycle m (pred d) s (omega arith) (omega arith)) met u p
        ∙ ap (λ G. G u) (Rw_scale (cycle (pred d) s) q (Rw A o q r (cycle j t) (block_at d F)))
        ∙ ap (o.mul q) (sym (ap (λ x. Rw A o q r x (block_at d F) u) (cycle_add j t s ∙ ap (λ i. cycle j t ++ cycle i s) there)
        ∙ ap (λ G. G u) (Rw_append A o q r (cycle j t) (cycle (pred d) s) (block_at d F))))
      where
        X : List ℕ → A
        X = Rw A o q r (cycle (suc j) t) F

        here : suc j - t ≡ d
        here = omega arith

        there : j - t ≡ pred d
        there = omega arith

        met : Eq m (block_at (suc d) (R A o q r d X)) (λ v. o.mul q (Rw A o q r (cycle j t) (block_at d F) v))
        met v c = P_upper f d X v (omega (arith, c.once d l (omega arith))) ∙ ap (λ G. o.mul q (G v)) (cycle_below d j t F (omega arith) (omega arith))
