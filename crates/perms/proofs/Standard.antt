-- The standard word of a tower: it is a word, each entry adds the word of its cycle, so the last image of a permutation does, and its product is
-- that of the cycles. Rests on Word, Products and Tower.
use mathlib.Core.Path.{◌≡◌, refl, sym, ap, ◌∙◌}
use mathlib.Core.List.{List, [], ◌∷◌, ◌++◌, append-nil, append_assoc}
use Prim.Native.Nat.{ℕ, suc, ◌+◌, ◌-◌, ◌≤◌, ◌<◌}
use native.Mathlib.Omega.{arith}
use lib.ListN.{length, get_or, take}
use lib.Seq.{length-take-le, take-suc}
use Rattle.perms.specs.Permutation.{Word, of_word, product}
use Rattle.perms.specs.Extend.{extend}
use Rattle.perms.specs.Tower.{tower_of, Tower, cycle, cycles, standard, of_cycles, images_of}
use Rattle.perms.proofs.Word.{word_append, word_cycle}
use Rattle.perms.proofs.Products.{of_word_append}
use Rattle.perms.proofs.Split.{Tail}
use Rattle.perms.proofs.Tower.{length_tower, tower_extend}

word_cycles : (m j : ℕ) (t : List ℕ) → j + length t ≤ suc m → ((i : ℕ) → get_or t i 0 ≤ j + i) → Word m (cycles j t)
unfolding cycles
word_cycles m j [] h k = tt
word_cycles m j (b ∷ t) h k =
    word_append m (cycle j b) (cycles (suc j) t) (word_cycle m j b (omega arith) (omega (arith, k 0)))
    (word_cycles m (suc j) t (omega arith) (λ i. omega (arith, k (suc i))))

pub word_standard : {m : ℕ} (t : List ℕ) → Tower m t → Word m (standard t)
unfolding standard
word_standard {m} t c = word_cycles m 1 t (omega (arith, c.size)) (λ i. omega (arith, c.within i))

pub cycles_snoc : (j a : ℕ) (t : List ℕ) → cycles j (t ++ (a ∷ [])) ≡ cycles j t ++ cycle (j + length t) a
unfolding cycles
cycles_snoc j a [] = append-nil (cycle j a) ∙ ap (λ i. cycle i a) (omega arith)
cycles_snoc j a (b ∷ t) =
    ap (λ r. cycle j b ++ r) (cycles_snoc (suc j) a t ∙ ap (λ i. cycles (suc j) t ++ cycle i a) (omega arith))
    ∙ sym (append_assoc (cycle j b) (cycles (suc j) t) (cycle (j + suc (length t)) a))

pub standard_take : (t : List ℕ) (k : ℕ) → k < length t → standard (take (suc k) t) ≡ standard (take k t) ++ cycle (suc k) (get_or t k 0)
unfolding standard
standard_take t k h =
    ap (cycles 1) (take-suc t k 0 h) ∙ cycles_snoc 1 (get_or t k 0) (take k t)
    ∙ ap (λ j. cycles 1 (take k t) ++ cycle j (get_or t k 0)) (omega (arith, length-take-le k t (omega arith)))

pub standard_extend : {m : ℕ} (c : ℕ) (u : List ℕ) → Tail m c u → standard (tower_of (extend c u)) ≡ standard (tower_of u) ++ cycle (suc m) (m + 2 - c)
unfolding standard
standard_extend {m} c u t =
    ap (cycles 1) (tower_extend c u t) ∙ cycles_snoc 1 (m + 2 - c) (tower_of u)
    ∙ ap (λ j. cycles 1 (tower_of u) ++ cycle j (m + 2 - c)) (omega (arith, length_tower u, t.rest.size))

cycles_word : (m j : ℕ) (t : List ℕ) → j + length t ≤ suc m → ((i : ℕ) → get_or t i 0 ≤ j + i) → of_cycles m j t ≡ of_word m (cycles j t)
unfolding of_cycles cycles of_word
cycles_word m j [] h k = refl
cycles_word m j (b ∷ t) h k =
    ap (product (of_word m (cycle j b))) (cycles_word m (suc j) t (omega arith) (λ i. omega (arith, k (suc i))))
    ∙ of_word_append m (cycle j b) (cycles (suc j) t) (word_cycle m j b (omega arith) (omega (arith, k 0)))

-- the product of the cycles is that of the standard word
pub images_of_word : {m : ℕ} (t : List ℕ) → Tower m t → images_of t ≡ of_word m (standard t)
unfolding images_of standard
images_of_word {m} t c = ap (λ n. of_cycles n 1 t) c.size ∙ cycles_word m 1 t (omega (arith, c.size)) (λ i. omega (arith, c.within i))
