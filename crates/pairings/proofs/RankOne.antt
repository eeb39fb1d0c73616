-- The two terms of rank 1, with which the walk ends. Rests on WordBlocks, Found and algebra's WordSlices.
use mathlib.Core.Path.{◌≡◌, refl, sym, ap, ap₂, ◌∙◌}
use mathlib.Core.List.{List, [], ◌∷◌}
use Prim.Native.Nat.{ℕ, zero, suc, ◌+◌, ◌*◌, ◌-◌, ◌%◌, ◌^◌, ◌≤◌, ◌<◌}
use native.Mathlib.Nat.{mod-lt, mod-eq_of_lt}
use native.Mathlib.Omega.{arith}
use mir.Syntax.{w64}
use mir.Val.{Fits}
use lib.ListN.{length, get_or, drop}
use lib.Seq.{get_or-take, get_or-drop}
use Rattle.ring.specs.Modular.{word_modulus, words, modular}
use Rattle.ring.proofs.Modular.{words_pos}
use Rattle.lists.specs.Lists.{range}
use Rattle.lists.specs.Numbers.{factorial, series}
use Rattle.lists.specs.Blocks.{block}
use Rattle.perms.specs.Permutation.{identity, inverse}
use Rattle.perms.specs.Extend.{bump}
use Rattle.perms.proofs.Identity.{perm_identity}
use Rattle.algebra.specs.Place.{join}
use Rattle.algebra.proofs.WordSlices.{slice_element}
use Rattle.pairings.specs.Walk.{by_length, lower, fall, found, walked, WalkPre}
use Rattle.pairings.proofs.ByLength.{horner}
use Rattle.pairings.proofs.WordBlocks.{word_rank_zero, word_blocks}
use Rattle.pairings.proofs.Rest.{weight}
use Rattle.pairings.proofs.Found.{found_word, found_join}

found_zero : (top : ℕ) (b f : List ℕ) → found top b f (identity 0) ≡ get_or b top 0
unfolding found fall lower series identity inverse range
found_zero top b f = ap (λ i. get_or b i 0) (omega arith)

module _ (q top : ℕ) (a b f : List ℕ) where
  abbrev term : ℕ → ℕ
  term k = words.mul (get_or a k 0) (get_or b (top - (1 - k) * weight f (1 - k)) 0)

  first_word : (k : ℕ) → get_or (block 1 k a) 0 0 ≡ get_or a k 0
  unfolding block
  first_word k = get_or-take 1 (drop (k * 1) a) 0 0 (omega arith) ∙ get_or-drop (k * 1) a 0 0 ∙ ap (λ i. get_or a i 0) (omega arith)

  term_is : (k : ℕ) → k ≤ 1 → by_length ℕ words q 0 (block 1 k a) (λ u. found top b f (join 0 k u)) ≡ term k
  term_is k h =
      let g = weight f (bump (1 - k) 0) ∷ [] in
      word_rank_zero q (block 1 k a) (λ u. found top b f (join 0 k u))
      ∙ ap₂ words.mul (first_word k)
      (found_join {m = 0} k top b f g (identity 0) h (perm_identity 0) one ∙ found_zero (top - (1 - k) * weight f (1 - k)) b g)
    where
      one : (j : ℕ) → j < 1 → weight (weight f (bump (1 - k) 0) ∷ []) j ≡ weight f (bump (1 - k) j)
      one zero l = refl
      one (suc j) l = absurd (omega arith)

  two_terms : q < 2 ^ 64 → length a ≡ 2 → ((i : ℕ) → Fits w64 (get_or a i 0)) → ((i : ℕ) → Fits w64 (get_or b i 0))
      → walked q 1 top a b f ≡ words.add (term 0) (words.mul q (term 1))
  unfolding walked horner factorial modular
  two_terms l e x y =
      word_blocks q 0 l a (found top b f) (slice_element e x) (λ w. found_word top b f w y)
      ∙ ap₂ (λ s t. words.add s (words.mul q (words.add t (words.mul q 0)))) (term_is 0 (omega arith)) (term_is 1 (omega arith))
      ∙ ap (λ t. words.add (term 0) (words.mul q t)) last
    where
      last : words.add (term 1) (words.mul q 0) ≡ term 1
      last =
          let none : q * 0 ≡ 0 = omega arith in
          let zero_is : q * 0 % word_modulus ≡ 0 = ap (λ n. n % word_modulus) none ∙ mod-eq_of_lt words_pos in
          let x = get_or a 1 0 * get_or b (top - (1 - 1) * weight f (1 - 1)) 0 % word_modulus in
          let same : x + 0 ≡ x = omega arith in
          ap (λ n. (x + n) % word_modulus) zero_is ∙ ap (λ n. n % word_modulus) same ∙ mod-eq_of_lt (mod-lt _ words_pos)

pub two_words : {m top : ℕ} {a b f : List ℕ} → WalkPre m top a b f → m ≡ 1 → length a ≡ 2
unfolding factorial
two_words h e = h.left ∙ ap (λ (n : ℕ). factorial (suc n)) e

-- the result of the code
pub rank_one : {q m top x y z r : ℕ} {a b f : List ℕ} → WalkPre m top a b f → m ≡ 1 → q < 2 ^ 64
    → ((i : ℕ) → Fits w64 (get_or a i 0)) → ((i : ℕ) → Fits w64 (get_or b i 0))
    → x ≡ words.mul (get_or a 1 0) (get_or b top 0) → y ≡ words.mul q x → z ≡ words.mul (get_or a 0 0) (get_or b (top - weight f 1) 0) → r ≡ words.add z y
    → r ≡ walked q m top a b f
rank_one {q} {m} {top} {a = a} {b = b} {f = f} h e l fa fb ex ey ez er =
    let none : top ≡ top - (1 - 1) * weight f (1 - 1) = omega arith in
    let once : top - weight f 1 ≡ top - (1 - 0) * weight f (1 - 0) = omega arith in
    er ∙ ap₂ words.add
    (ez ∙ ap (λ i. words.mul (get_or a 0 0) (get_or b i 0)) once)
    (ey ∙ ap (words.mul q) (ex ∙ ap (λ i. words.mul (get_or a 1 0) (get_or b i 0)) none))
    ∙ sym (ap (λ (n : ℕ). walked q n top a b f) e ∙ two_terms q top a b f l (two_words h e) fa fb)
