-- A sum by length goes by blocks for the integers modulo N ≥ 1 too, of which words are a case; its one term at rank 0. Rests on ByLength, algebra's Maps and
-- Onto, and ring's Modular.
use mathlib.Core.Path.{◌≡◌, refl, ap, ◌∙◌, fun_ext, subst}
use mathlib.Core.List.{List, map}
use Prim.Native.Nat.{ℕ, zero, suc, ◌+◌, ◌*◌, ◌%◌, ◌^◌, ◌<◌}
use native.Mathlib.Nat.{mod-lt, mod-eq_of_lt, add-zero as add-zero-right}
use lib.ListN.{get_or}
use Rattle.ring.specs.Ring.{Ops, Ring, Hom}
use Rattle.ring.specs.Sum.{sum}
use Rattle.ring.specs.Modular.{words, modular}
use Rattle.ring.proofs.Hom.{hom_sum}
use Rattle.ring.proofs.Modular.{one_mul_mod, residues_ring, number_hom, words_pos}
use Rattle.lists.specs.Lists.{range, tally}
use Rattle.lists.specs.Numbers.{series}
use Rattle.lists.proofs.Blocks.{map_block}
use Rattle.perms.specs.Permutation.{identity, below, len}
use Rattle.algebra.specs.Place.{place, perms}
use Rattle.algebra.specs.Element.{Element, coefficient}
use Rattle.algebra.specs.Pairing.{power}
use Rattle.algebra.proofs.Maps.{map_power, map_coefficient}
use Rattle.algebra.proofs.Onto.{any, Onto, every, elements}
use Rattle.pairings.specs.Walk.{by_length}
use Rattle.pairings.proofs.ByLength.{horner, by_blocks, by_blocks_lem}

-- ---- along a map of operations

module _ {A B : Type 0} {o : Ops A} {p : Ops B} {f : A → B} (H : Hom A B o p f) (q : A) where
  map_horner : (n : ℕ) (P : ℕ → A) (s : A) → f (horner A o q n P s) ≡ horner B p (f q) n (λ k. f (P k)) (f s)
  unfolding horner
  map_horner zero P s = refl
  map_horner (suc n) P s =
      map_horner n P (o.add (P n) (o.mul q s)) ∙ ap (horner B p (f q) n (λ k. f (P k))) (H.add (P n) (o.mul q s) ∙ ap (p.add (f (P n))) (H.mul q s))

  map_by_length : (m : ℕ) (a : List A) (g : List ℕ → A) → f (by_length A o q m a g) ≡ by_length B p (f q) m (map f a) (λ w. f (g w))
  unfolding by_length
  map_by_length m a g = hom_sum A B o p f H (perms m) _ ∙ ap (sum B p (perms m)) (fun_ext (λ w. simp (H.mul, map_power H, map_coefficient H)))

  module _ (𝓡 : Ring A o) {ok : B → Type 0} (s : Onto f any ok) (m : ℕ) where
    carry_values : (a : List A) (g : List ℕ → A)
        → by_length B p (f q) (suc m) (map f a) (λ w. f (g w)) ≡ by_blocks B p (f q) m (map f a) (λ w. f (g w))
    carry_values a g = simp (map_by_length, map_horner, map_block f, H.zero) at (ap f (by_blocks_lem A o 𝓡 q m a g))

    carry_blocks : (a : List B) (g : List ℕ → B) → Element ok (suc m) a → ((w : List ℕ) → ok (g w))
        → by_length B p (f q) (suc m) a g ≡ by_blocks B p (f q) m a g
    carry_blocks a g e k = every (elements s (suc m)) (λ a. by_length B p (f q) (suc m) a g ≡ by_blocks B p (f q) m a g)
        (λ a' _. subst (λ g. by_length B p (f q) (suc m) (map f a') g ≡ by_blocks B p (f q) m (map f a') g)
        (fun_ext (λ w. (s (g w) (k w)).is)) (carry_values a' (λ w. (s (g w) (k w)).of))) a e

-- ---- the integers modulo N

module _ (N : ℕ) (pos : 0 < N) where
  pub modular_rank_zero : (q : ℕ) (a : List ℕ) (g : List ℕ → ℕ) → by_length ℕ (modular N) q 0 a g ≡ (modular N).mul (get_or a 0 0) (g (identity 0))
  unfolding by_length perms identity range len below tally place series coefficient sum power modular
  modular_rank_zero q a g =
      let x = get_or a 0 0 * g (identity 0) % N in
      let less : x < N = mod-lt (get_or a 0 0 * g (identity 0)) pos in
      ap (λ y. (y + 0) % N) (one_mul_mod N x ∙ mod-eq_of_lt less) ∙ ap (λ y. y % N) (add-zero-right x) ∙ mod-eq_of_lt less

  pub modular_blocks : (q m : ℕ) → q < N → (a : List ℕ) (g : List ℕ → ℕ) → Element (λ n. n < N) (suc m) a → ((w : List ℕ) → g w < N)
      → by_length ℕ (modular N) q (suc m) a g ≡ by_blocks ℕ (modular N) q m a g
  modular_blocks q m h = carry_blocks (number_hom N pos) (q, h) (residues_ring N pos) (λ n l. record { of = (n, l); fit = tt; is = refl }) m

-- ---- words

pub word_rank_zero : (q : ℕ) (a : List ℕ) (g : List ℕ → ℕ) → by_length ℕ words q 0 a g ≡ words.mul (get_or a 0 0) (g (identity 0))
word_rank_zero = modular_rank_zero (2 ^ 64) words_pos

pub word_blocks : (q m : ℕ) → q < 2 ^ 64 → (a : List ℕ) (g : List ℕ → ℕ) → Element (λ n. n < 2 ^ 64) (suc m) a → ((w : List ℕ) → g w < 2 ^ 64)
    → by_length ℕ words q (suc m) a g ≡ by_blocks ℕ words q m a g
word_blocks = modular_blocks (2 ^ 64) words_pos
