-- The sum of rank m from its m + 1 blocks, from the last block on: the loop of `walk`. Rests on WordBlocks, Rest, Found, algebra's WordSlices, lists' Parts
-- and ranks' Sizes.
--
--   lent size k x          block k of x, as the code lends it
--   part k                 the sum over the permutations u a(m, k), without the power of q for a(m, k)
--   Summed g s c           the last c blocks make s, and g has the weights without the weight c
use mathlib.Core.Path.{◌≡◌, sym, ap, ap₂, ◌∙◌}
use mathlib.Core.List.{List}
use Prim.Native.Nat.{ℕ, zero, suc, ◌+◌, ◌*◌, ◌-◌, ◌^◌, ◌≤◌, ◌<◌}
use native.Mathlib.Omega.{arith}
use mir.Syntax.{w64}
use mir.Val.{Fits}
use lib.ListN.{length, get_or, take, drop, set, length-set}
use Rattle.ring.specs.Modular.{words, modular}
use Rattle.lists.specs.Numbers.{factorial}
use Rattle.lists.specs.Blocks.{block}
use Rattle.lists.proofs.Parts.{fits_block, element_blocks, part_block, part_size}
use Rattle.algebra.specs.Place.{join}
use Rattle.algebra.proofs.WordSlices.{slice_element}
use Rattle.ranks.specs.Ranks.{size}
use Rattle.ranks.proofs.Sizes.{size_is}
use Rattle.pairings.specs.Walk.{by_length, found, walked, WalkPre}
use Rattle.pairings.proofs.ByLength.{horner, by_length_cong}
use Rattle.pairings.proofs.WordBlocks.{word_blocks}
use Rattle.pairings.proofs.Rest.{weight, Rest, tail, tail_size, rest_none, rest_more}
use Rattle.pairings.proofs.Found.{found_word, found_join, reach_rest}

abbrev lent : (n k : ℕ) → List ℕ → List ℕ
lent n k x = take (k * n + n - k * n) (drop (k * n) x)

module _ (q m top n : ℕ) (a b f : List ℕ) where
  abbrev part : ℕ → ℕ
  part k = by_length ℕ words q (m - 1) (block n k a) (λ u. found top b f (join (m - 1) k u))

  pub record Summed (g : List ℕ) (s c : ℕ) : Type 0 where
    pub within : c ≤ m + 1
    pub seven : length g ≡ 7
    pub rest : Rest m c f g
    pub whole : horner ℕ words q (m + 1 - c) part s ≡ walked q m top a b f

-- ---- the blocks

module _ {m top n : ℕ} {a b f : List ℕ} (h : WalkPre m top a b f) (e : n ≡ size (m - 1)) where
  size_of : n ≡ factorial (suc (m - 1))
  size_of = e ∙ size_is (m - 1) (omega (arith, h.low))

  whole_size : length a ≡ (m + 1) * n
  whole_size = h.left ∙ element_blocks m n h.some size_of ∙ omega arith

  pub block_fits : (c : ℕ) → c < m + 1 → (m - c) * n + n ≤ length a
  block_fits c l = fits_block (m - c) (m + 1) n (length a) (omega arith) (omega (arith, whole_size))

  pub part_pre : {q s c : ℕ} {g : List ℕ} → Summed q m top n a b f g s c → c < m + 1 → 2 ≤ m
      → WalkPre (m - 1) (top - c * weight f c) (lent n (m - c) a) b g
  part_pre {c = c} {g = g} z l two =
      let e : suc (m - 1) ≡ m = omega (arith, h.some) in
      record {
        some = omega arith;
        low = omega (arith, h.low);
        left = part_size n (m - c) a (block_fits c l) ∙ size_of;
        within = omega (arith, h.within);
        reach = rw e (reach_rest m c top f g (omega arith) z.rest h.reach);
      }

-- ---- the loop

pub summed_none : (q m : ℕ) {top n : ℕ} {a b f : List ℕ} → length f ≡ 7 → WalkPre m top a b f → n ≡ size (m - 1) → q < 2 ^ 64
    → ((i : ℕ) → Fits w64 (get_or a i 0)) → ((i : ℕ) → Fits w64 (get_or b i 0)) → Summed q m top n a b f (tail f) 0 0
unfolding walked modular
summed_none q zero seven h e l x y = absurd (omega (arith, h.some))
summed_none q (suc i) {top} {n} {a} {b} {f} seven h e l x y =
    let blocks : suc i + 1 - 0 ≡ i + 2 = omega arith in
    let rank : suc i - 1 ≡ i = omega arith in
    let size = size_of h e ∙ ap (λ (j : ℕ). factorial (suc j)) rank in
    record {
      within = omega arith;
      seven = tail_size f seven;
      rest = rest_none (suc i) f seven (omega (arith, h.low));
      whole = (λ t. horner ℕ words q (blocks t) (λ k. by_length ℕ words q (rank t) (block (size t) k a) (λ u. found top b f (join (rank t) k u))) 0)
          ∙ sym (word_blocks q i l a (found top b f) (slice_element h.left x) (λ w. found_word top b f w y));
    }

module _ {q m top n : ℕ} {a b f g : List ℕ} {s c : ℕ} (h : WalkPre m top a b f) (z : Summed q m top n a b f g s c) (l : c < m + 1) where
  part_is : walked q (m - 1) (top - c * weight f c) (lent n (m - c) a) b g ≡ part q m top n a b f (m - c)
  unfolding walked
  part_is =
      let back : suc (m - 1) - (m - c) ≡ c = omega (arith, h.some) in
      let rank : suc (m - 1) ≡ m = omega (arith, h.some) in
      ap (λ x. by_length ℕ words q (m - 1) x (found (top - c * weight f c) b g)) (part_block n (m - c) a)
      ∙ by_length_cong ℕ words q (m - 1) (block n (m - c) a) _ _ (λ u p.
      sym (found_join (m - c) top b f g u (omega arith) p (λ j k. rw back (z.rest j (omega arith)))
      ∙ ap (λ i. found (top - i * weight f i) b g u) back))

  pub summed_more : {p t v : ℕ} → p ≡ walked q (m - 1) (top - c * weight f c) (lent n (m - c) a) b g → t ≡ words.mul q s → v ≡ words.add p t
      → Summed q m top n a b f (set g c (weight f c)) v (c + 1)
  unfolding horner
  summed_more ep et ev =
      let next : m + 1 - (c + 1) ≡ m - c = omega arith in
      let last : suc (m - c) ≡ m + 1 - c = omega arith in
      let sums = horner ℕ words q in
      let parts = part q m top n a b f in
      record {
        within = omega arith;
        seven = length-set g c (weight f c) ∙ z.seven;
        rest = rest_more m c f g z.rest (omega (arith, z.seven, h.low));
        whole = ap₂ (λ k x. sums k parts x) next (ev ∙ ap₂ words.add (ep ∙ part_is) et)
            ∙ ap (λ (k : ℕ). sums k parts s) last ∙ z.whole;
      }

pub summed_all : {q m top n : ℕ} {a b f g : List ℕ} {s c : ℕ} → Summed q m top n a b f g s c → m + 1 ≤ c → s ≡ walked q m top a b f
unfolding horner
summed_all {q} {m} {top} {n} {a} {b} {f} {s = s} {c = c} z l =
    let none : 0 ≡ m + 1 - c = omega (arith, z.within) in
    ap (λ (k : ℕ). horner ℕ words q k (part q m top n a b f) s) none ∙ z.whole
