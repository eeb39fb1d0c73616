-- A loop that writes the words of a(1, a_1), a(2, a_2), .. one after another holds, after i entries, the standard word of the first i.
-- Rests on Total and perms' Lengths.
use mathlib.Core.Path.{◌≡◌, refl, sym, ap, ap₂, ◌∙◌}
use mathlib.Core.List.{List, ◌++◌, append_assoc}
use Prim.Native.Nat.{ℕ, suc, ◌+◌, ◌-◌, ◌≤◌, ◌<◌}
use native.Mathlib.Numerals.{add-one}
use native.Mathlib.Omega.{arith}
use borrow.Rule.Slice.PartMut.{put_mid, mid_of, mid_len}
use lib.ListN.{length, get_or, take, drop, length-append, length-drop}
use lib.Seq.{take_at, drop_at, drop-drop}
use Rattle.lists.proofs.Prefix.{sum_prefix}
use Rattle.perms.specs.Tower.{cycle, cycles, standard, total}
use Rattle.perms.proofs.Standard.{standard_take}
use Rattle.perms.proofs.Lengths.{length_standard}
use Rattle.tower_words.proofs.Total.{total_sums, total_take}

pub record Spelled (t word₀ word : List ℕ) (at i : ℕ) : Type 0 where
  pub letters : at ≡ total (take i t)
  pub holds : word ≡ standard (take i t) ++ drop at word₀

pub spelled_none : (t word : List ℕ) → Spelled t word word 0 0
unfolding total standard cycles
spelled_none t word = record { letters = refl; holds = refl }

pub spelled_size : {t word₀ word : List ℕ} {at i : ℕ} → total t ≤ length word₀ → Spelled t word₀ word at i → length word ≡ length word₀
spelled_size {t} {word₀} {word} {at} {i} r s = omega (
  arith,
  s.letters,
  ap length s.holds ∙ length-append (standard (take i t)) (drop at word₀),
  length_standard (take i t),
  length-drop at word₀,
  total_take t i,
)

-- the next word ends inside
pub spelled_inside : {t word₀ word : List ℕ} {at i : ℕ} → i < length t → total t ≤ length word₀ → Spelled t word₀ word at i → at + get_or t i 0 ≤ length word
spelled_inside {t} {word₀} {word} {at} {i} h r s = omega (arith, s.letters, spelled_size r s, sum_prefix total_sums i t h, total_take t (i + 1))

pub spelled_more : (t word₀ word part : List ℕ) (at i : ℕ) → i < length t → total t ≤ length word₀ → Spelled t word₀ word at i
    → part ≡ cycle (i + 1) (length (mid_of at (at + get_or t i 0 - at) word))
    → Spelled t word₀ (put_mid at (at + get_or t i 0 - at) word part) (at + get_or t i 0) (i + 1)
spelled_more t word₀ word part at i h r s e = record {
  letters = ap (λ n. n + a) s.letters ∙ sym (sum_prefix total_sums i t h);
  holds = ap₂ {C = List ℕ} (λ x y. x ++ y) begin (ap₂ {C = List ℕ} (λ x y. x ++ y) middle end)
      ∙ sym (append_assoc (standard (take i t)) (cycle (suc i) a) (drop (at + a) word₀))
      ∙ ap (λ x. x ++ drop (at + a) word₀) (sym (ap (λ n. standard (take n t)) (add-one i) ∙ standard_take t i h));
}
  where
    a : ℕ
    a = get_or t i 0

    long : length (standard (take i t)) ≡ at
    long = length_standard (take i t) ∙ sym s.letters

    begin : take at word ≡ standard (take i t)
    begin = ap (take at) s.holds ∙ take_at (standard (take i t)) (drop at word₀) at long

    middle : part ≡ cycle (suc i) a
    middle = e ∙ ap₂ cycle (add-one i) (mid_len at (at + a) word (spelled_inside h r s) ∙ omega arith)

    end : drop (at + a - at) (drop at word) ≡ drop (at + a) word₀
    end = ap (drop (at + a - at)) (ap (drop at) s.holds ∙ drop_at (standard (take i t)) (drop at word₀) at long)
        ∙ drop-drop (at + a - at) at word₀ ∙ ap (λ n. drop n word₀) past
      where
        past : at + (at + a - at) ≡ at + a
        past = omega arith
