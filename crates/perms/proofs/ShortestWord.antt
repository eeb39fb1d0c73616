-- The word of a permutation by its descents is a shortest word of it: a permutation other than the identity has a descent, the first letter of any
-- shortest word of it, and at a descent it becomes one shorter. Rests on Reduced, LeftRight, Longer, Lengths and lists' First.
use mathlib.Core.Path.{◌≡◌, refl, sym, ap, ◌∙◌}
use mathlib.Core.Bool.{true}
use mathlib.Core.List.{List, [], ◌∷◌}
use Prim.Native.Nat.{ℕ, zero, suc}
use native.Mathlib.Omega.{arith}
use Rattle.lists.specs.Lists.{first}
use Rattle.lists.proofs.Test.{less_yes, less_true}
use Rattle.lists.proofs.First.{first_holds}
use Rattle.perms.specs.Permutation.{Perm, product, identity, generator, len, descent, Letter, of_word, Shortest}
use Rattle.perms.specs.Tower.{tower_of, standard}
use Rattle.perms.specs.ShortestWord.{first_letters, shortest_word}
use Rattle.perms.specs.Laws.{ByDescents}
use Rattle.perms.proofs.Perm.{lft, lft_lft, perm_lft}
use Rattle.perms.proofs.Identity.{perm_identity}
use Rattle.perms.proofs.Products.{generator_product}
use Rattle.perms.proofs.Longer.{up_l, len_lft_le}
use Rattle.perms.proofs.LeftRight.{lft_word, perm_lft_word}
use Rattle.perms.proofs.Ascending.{AscendsL}
use Rattle.perms.proofs.Reduced.{short_perm, short_makes_l, short_ascends_l}
use Rattle.perms.proofs.Lengths.{standard_shortest}

-- the first letter of a shortest word is a descent
first_descends : {m i : ℕ} {x v : List ℕ} → Shortest m (i ∷ x) v → Letter m i × (descent m v i ≡ true)
unfolding descent lft_word
first_descends {m} {i} {x} {v} s =
    let u : List ℕ = lft_word x (identity m) in
    let c : AscendsL m (i ∷ x) (identity m) = short_ascends_l s in
    let e : product (generator m i) v ≡ u = generator_product i v (short_perm s) c.0 ∙ ap (lft i) (sym (short_makes_l s)) ∙ lft_lft i u in
    (c.0, less_yes (omega (arith, ap len e, ap len (short_makes_l s), up_l i u c.0 (perm_lft_word x (perm_identity m)) c.1)))

-- the least letter that makes v shorter
abbrev least : ℕ → List ℕ → ℕ
least m v = first (descent m v) 1 m

least_descends : {m n : ℕ} (v : List ℕ) → Perm m v → len v ≡ suc n → Letter m (least m v) × (descent m v (least m v) ≡ true)
least_descends {m} {n} v p e = go (standard (tower_of v)) (standard_shortest m v p)
  where
    go : (x : List ℕ) → Shortest m x v → Letter m (least m v) × (descent m v (least m v) ≡ true)
    go [] s = absurd (omega (arith, s.short))
    go (i ∷ x) s =
        let d = first_descends s in
        let f = first_holds (descent m v) 1 m i d.0.low (omega (arith, d.0.high)) d.1 in
        (record { low = f.1; high = omega (arith, f.2) }, f.0)

-- a permutation of length 0 is the identity, which the empty word makes
len_zero : {m : ℕ} (v : List ℕ) → Perm m v → len v ≡ 0 → Shortest m [] v
len_zero {m} v p e = go (standard (tower_of v)) (standard_shortest m v p)
  where
    go : (x : List ℕ) → Shortest m x v → Shortest m [] v
    go [] s = s
    go (i ∷ x) s = absurd (omega (arith, s.short))

-- at a descent v becomes one shorter, and its words from there on are words of v with the letter before them
module _ {m i : ℕ} (v : List ℕ) (p : Perm m v) (l : Letter m i) where
  abbrev rest : List ℕ
  rest = product (generator m i) v

  rest_is : rest ≡ lft i v
  rest_is = generator_product i v p l

  rest_perm : Perm m rest
  rest_perm = rw rest_is (perm_lft i p)

  back : product (generator m i) rest ≡ v
  back = generator_product i rest rest_perm l ∙ ap (lft i) rest_is ∙ lft_lft i v

  rest_len : descent m v i ≡ true → len v ≡ suc (len rest)
  unfolding descent
  rest_len d = omega (arith, less_true (len rest) (len v) d, ap len (ap (lft i) rest_is ∙ lft_lft i v), len_lft_le i rest l rest_perm)

  short_before : (x : List ℕ) → descent m v i ≡ true → Shortest m x rest → Shortest m (i ∷ x) v
  unfolding of_word
  short_before x d s = record {
    word = (l, s.word);
    makes = ap (product (generator m i)) s.makes ∙ back;
    short = rest_len d ∙ ap suc s.short;
  }

first_letters_short : (n m : ℕ) (v : List ℕ) → Perm m v → len v ≡ n → Shortest m (first_letters n m v) v
unfolding first_letters
first_letters_short zero m v p e = len_zero v p e
first_letters_short (suc n) m v p e =
    let d = least_descends v p e in
    short_before v p d.0 _ d.1 (first_letters_short n m _ (rest_perm v p d.0) (omega (arith, rest_len v p d.0 d.1)))

pub shortest_word_shortest : (m : ℕ) → ByDescents m
unfolding shortest_word
shortest_word_shortest m v p = first_letters_short (len v) m v p refl
