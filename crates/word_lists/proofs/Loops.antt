-- A loop that writes the list t over the list x₀, word by word, from the front or from the end. Rests on lists' Fill and algebra's Lists.
--
--   Written t x₀ x i        the first i words of x are those of t, and the others as they were in x₀
--   WrittenFrom t x₀ x i    the words of x from index i on are those of t, and the first i as they were in x₀
use mathlib.Core.Path.{◌≡◌, refl, sym, ap, ◌∙◌}
use mathlib.Core.Logic.{⊎_elim}
use mathlib.Core.List.{List, ◌++◌}
use Prim.Native.Nat.{ℕ, suc, ◌+◌, ◌-◌, ◌≤◌, ◌<◌}
use native.Mathlib.Nat.{eq-or-lt_of_le}
use native.Mathlib.Omega.{arith}
use lib.ListN.{length, get_or, set, take, drop, length-set, length-drop, take-append-drop}
use lib.Seq.{length-take-le, get_or-take, get_or-drop, get_or-set_same, get_or-set_other, ext_get_or}
use Rattle.ring.specs.Modular.{words}
use Rattle.lists.proofs.Fill.{Filled, filled_all}
use Rattle.algebra.specs.Element.{plus, scale}
use Rattle.algebra.proofs.Lists.{get_or_plus, get_or_scale}

abbrev pub Written : (t x₀ x : List ℕ) → ℕ → Type 0
Written t x₀ x i = Filled (λ k. get_or t k 0) x₀ x i

pub written_all : {x₀ x : List ℕ} {i : ℕ} (t : List ℕ) → Written t x₀ x i → length x₀ ≤ i → length t ≡ length x₀ → x ≡ t
written_all t h past e = filled_all t h past e (λ k l. refl)

pub written_front : {x₀ x : List ℕ} {i : ℕ} (t : List ℕ) → Written t x₀ x i → i ≤ length x₀ → length t ≡ i → take i x ≡ t
written_front {x₀} {x} {i} t h le e =
    let size : length (take i x) ≡ i = length-take-le i x (omega (arith, h.same)) in
    ext_get_or 0 (take i x) t (size ∙ sym e) (λ k l. get_or-take i x k 0 (omega (arith, size)) ∙ h.done k (omega (arith, size)))

-- and the other words are as they were
pub written_first : {x₀ x : List ℕ} {i : ℕ} (t : List ℕ) → Written t x₀ x i → i ≤ length x₀ → length t ≡ i → x ≡ t ++ drop i x₀
written_first {x₀} {x} {i} t h le e = sym (take-append-drop i x) ∙ (λ j. written_front t h le e j ++ rest j)
  where
    rest : drop i x ≡ drop i x₀
    rest = ext_get_or 0 (drop i x) (drop i x₀) (length-drop i x ∙ ap (λ n. n - i) h.same ∙ sym (length-drop i x₀))
        (λ k l. get_or-drop i x k 0 ∙ h.rest (i + k) (omega arith) ∙ sym (get_or-drop i x₀ k 0))

-- ---- from the end

pub record WrittenFrom (t x₀ x : List ℕ) (i : ℕ) : Type 0 where
  pub same : length x ≡ length x₀
  pub done : (k : ℕ) → i ≤ k → k < length x₀ → get_or x k 0 ≡ get_or t k 0
  pub rest : (k : ℕ) → k < i → get_or x k 0 ≡ get_or x₀ k 0

pub from_more : {t x₀ x : List ℕ} {i : ℕ} (j v : ℕ) → WrittenFrom t x₀ x i → i ≡ suc j → j < length x₀ → v ≡ get_or t j 0 → WrittenFrom t x₀ (set x j v) j
from_more {t} {x₀} {x} {i} j v h s l e = record {
  same = length-set x j v ∙ h.same;
  done = λ k a b. ⊎_elim
      (λ d. ap (λ n. get_or (set x j v) n 0) (sym d) ∙ get_or-set_same x j v 0 (omega (arith, h.same)) ∙ e ∙ ap (λ n. get_or t n 0) d)
      (λ d. get_or-set_other x j k v 0 (λ n. omega arith) ∙ h.done k (omega arith) b)
      (eq-or-lt_of_le a);
  rest = λ k a. get_or-set_other x j k v 0 (λ n. omega arith) ∙ h.rest k (omega arith);
}

pub from_all : {x₀ x : List ℕ} {i : ℕ} (t : List ℕ) → WrittenFrom t x₀ x i → i ≡ 0 → length t ≡ length x₀ → x ≡ t
from_all {x₀} {x} t h z e = ext_get_or 0 x t (h.same ∙ sym e) (λ k l. h.done k (omega arith) (omega (arith, h.same)))

-- ---- the next word of a multiple and of a sum

pub scale_next : (c : ℕ) (h : List ℕ) (i : ℕ) {v x : ℕ} → v ≡ words.mul c x → x ≡ get_or h i 0 → i < length h → v ≡ get_or (scale ℕ words c h) i 0
scale_next c h i e x l = e ∙ ap (words.mul c) x ∙ sym (get_or_scale ℕ words c h i 0 l)

pub plus_next : (h g : List ℕ) (i : ℕ) {v x y : ℕ} → v ≡ words.add x y → x ≡ get_or h i 0 → y ≡ get_or g i 0 → i < length h → length h ≡ length g
    → v ≡ get_or (plus ℕ words h g) i 0
plus_next h g i e x y l same = e ∙ (λ j. words.add (x j) (y j)) ∙ sym (get_or_plus ℕ words h g i 0 l same)
