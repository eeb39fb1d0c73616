-- A loop that makes each of the first j images from c on one more, and a store that puts c after them, extend them by c.
-- Rests on lists' Fill.
use Rattle.std.proofs.Common.{◌≡◌, ℕ, suc, ◌+◌, ◌≤◌, ◌<◌, List, [], ◌∷◌, ◌++◌, map, length, get_or, set, take, drop, refl, sym, ap, ◌∙◌, append_assoc, arith, drop-cons, length-take-le}
use Rattle.std.proofs.lemmas.List.{length-map, get_or-map}
use Rattle.std.proofs.Math.Seq.{set-append_seam}
use mir.Val.{bool_byte}
use borrow.Author.Tests.{le-leb, lt-leb}
use lib.Dec.{leb}
use Rattle.lists.proofs.Test.{LessView, lt, ge, less?}
use Rattle.lists.proofs.Fill.{Filled, filled_all}
use Rattle.perms.specs.Extend.{bump, extend}
use Rattle.perms.proofs.Extend.{bump_under, bump_over}

pub bump_byte : (c v : ℕ) → v + bool_byte (leb c v) ≡ bump c v
bump_byte c v = go (less? v c)
  where
    go : LessView v c → v + bool_byte (leb c v) ≡ bump c v
    go (lt h e) = rw (lt-leb c v h, bump_under h) (omega arith)
    go (ge h e) = rw (le-leb c v h, bump_over h) (omega arith)

extend_map : (c : ℕ) (u : List ℕ) → extend c u ≡ map (bump c) u ++ (c ∷ [])
unfolding extend
extend_map c [] = refl
extend_map c (x ∷ u) = ap {B = List ℕ} (λ v. bump c x ∷ v) (extend_map c u)

pub extended : (c j : ℕ) (xs₀ xs : List ℕ) {i : ℕ} → j < length xs₀ → length (take j xs₀) ≤ i
    → Filled (λ k. bump c (get_or (take j xs₀) k 0)) (take j xs₀) xs i → set (xs ++ drop j xs₀) j c ≡ extend c (take j xs₀) ++ drop (suc j) xs₀
extended c j xs₀ xs h past f =
    ap (λ s. set (xs ++ s) j c) (drop-cons xs₀ j 0 h) ∙ ap (λ n. set (xs ++ (get_or xs₀ j 0 ∷ back)) n c) (sym size) ∙ set-append_seam xs (get_or xs₀ j 0) back c
    ∙ sym (append_assoc xs (c ∷ []) back) ∙ ap (λ s. s ++ back) (ap (λ s. s ++ (c ∷ [])) all ∙ sym (extend_map c front))
  where
    front : List ℕ
    front = take j xs₀

    back : List ℕ
    back = drop (suc j) xs₀

    size : length xs ≡ j
    size = f.same ∙ length-take-le j xs₀ (omega arith)

    all : xs ≡ map (bump c) front
    all = filled_all (map (bump c) front) f past (length-map front (bump c)) (λ k l. sym (get_or-map (bump c) front k 0 0 l))
