-- The weights without one of them: at the loop's beginning without the first, and after each step without the next. Rests on perms' Extend.
--
--   weight f j       the weight j of a list of weights
--   Rest n c f g     g has n weights, those of f without the weight c
--   tail f           seven weights without the first, and 0
use mathlib.Core.Path.{◌≡◌, sym, ap, ◌∙◌}
use mathlib.Core.List.{List, [], ◌∷◌, ◌++◌}
use Prim.Native.Nat.{ℕ, suc, ◌+◌, ◌<◌}
use native.Mathlib.Omega.{arith}
use lib.ListN.{length, get_or, set, take, drop, length-append, length-drop, get_or-append}
use lib.Seq.{length-take-le, get_or-take, get_or-drop, get_or-set_same, get_or-set_other}
use Rattle.lists.proofs.Test.{SameView, is, isnt, same?}
use Rattle.perms.specs.Extend.{bump}
use Rattle.perms.proofs.Extend.{BumpView, under, over, bump?, bump_under, bump_over}

abbrev pub weight : List ℕ → ℕ → ℕ
weight f j = get_or f j 0

abbrev pub Rest : (n c : ℕ) (f g : List ℕ) → Type 0
Rest n c f g = (j : ℕ) → j < n → weight g j ≡ weight f (bump c j)

abbrev pub tail : List ℕ → List ℕ
tail f = take 6 (drop 1 f) ++ (0 ∷ [])

six : (f : List ℕ) → length f ≡ 7 → length (take 6 (drop 1 f)) ≡ 6
six f e = length-take-le 6 (drop 1 f) (omega (arith, length-drop 1 f))

pub tail_size : (f : List ℕ) → length f ≡ 7 → length (tail f) ≡ 7
tail_size f e = length-append (take 6 (drop 1 f)) (0 ∷ []) ∙ omega (arith, six f e)

tail_at : (f : List ℕ) (j : ℕ) → length f ≡ 7 → j < 6 → weight (tail f) j ≡ weight f (suc j)
tail_at f j e h =
    get_or-append (take 6 (drop 1 f)) (0 ∷ []) 0 j (omega (arith, six f e)) ∙ get_or-take 6 (drop 1 f) j 0 h ∙ get_or-drop 1 f j 0
    ∙ ap (weight f) (omega arith)

pub rest_none : (n : ℕ) (f : List ℕ) → length f ≡ 7 → n < 7 → Rest n 0 f (tail f)
rest_none n f e h j k = tail_at f j e (omega arith) ∙ ap (weight f) (sym (bump_over (omega arith)))

pub rest_more : (n c : ℕ) (f g : List ℕ) → Rest n c f g → c < length g → Rest n (c + 1) f (set g c (weight f c))
rest_more n c f g r h j k = go (same? j c) (bump? c j)
  where
    go : SameView j c → BumpView c j → weight (set g c (weight f c)) j ≡ weight f (bump (c + 1) j)
    go (is p _) v =
        ap (weight (set g c (weight f c))) p ∙ get_or-set_same g c (weight f c) 0 h
        ∙ ap (weight f) (sym (ap (bump (c + 1)) p ∙ bump_under (omega arith)))
    go (isnt p _) (under i d) = get_or-set_other g c j (weight f c) 0 (λ t. omega arith) ∙ r j k ∙ ap (weight f) (d ∙ sym (bump_under (omega arith)))
    go (isnt p _) (over i d) = get_or-set_other g c j (weight f c) 0 (λ t. omega arith) ∙ r j k ∙ ap (weight f) (d ∙ sym (bump_over (omega arith)))
