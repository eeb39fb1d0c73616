-- A pass over the blocks of a list: one after another, block i is lent and comes back as f i of it. Rests on Parts.
--
--   Passed b f x₀ x k   the first k blocks of x₀, of b words, are now f of themselves, and the others as they were
use mathlib.Core.Path.{◌≡◌, refl, sym, ap, ◌∙◌}
use mathlib.Core.List.{List, ◌++◌}
use Prim.Native.Nat.{ℕ, ◌+◌, ◌*◌, ◌-◌, ◌≤◌}
use native.Mathlib.Nat.{zero-mul}
use native.Mathlib.Numerals.{add-one}
use native.Mathlib.Omega.{arith}
use lib.ListN.{length, take, drop}
use lib.Seq.{take-add, take_at, drop_at, drop-drop, length-take-le, take_all}
use borrow.Rule.Slice.PartMut.{put_mid, take_put, drop_put, same_len_mid}
use Rattle.lists.specs.Blocks.{block, blocks}
use Rattle.lists.proofs.Parts.{next_block, part_block, part_size}

pub record Passed (b : ℕ) (f : ℕ → List ℕ → List ℕ) (x₀ x : List ℕ) (k : ℕ) : Type 0 where
  pub front : take (k * b) x ≡ blocks k (λ i. f i (block b i x₀))
  pub rest : drop (k * b) x ≡ drop (k * b) x₀
  pub same : length x ≡ length x₀

pub passed_none : (b : ℕ) (f : ℕ → List ℕ → List ℕ) (x : List ℕ) → Passed b f x x 0
unfolding blocks
passed_none b f x = record { front = ap (λ (p : ℕ). take p x) (zero-mul b); rest = refl; same = refl }

pub passed_more : {b k : ℕ} {f : ℕ → List ℕ → List ℕ} {x₀ x : List ℕ} (v : List ℕ) → Passed b f x₀ x k → k * b + b ≤ length x
    → v ≡ f k (take (k * b + b - k * b) (drop (k * b) x)) → length v ≡ length (take (k * b + b - k * b) (drop (k * b) x))
    → Passed b f x₀ (put_mid (k * b) (k * b + b - k * b) x v) (k + 1)
unfolding block blocks
passed_more {b} {k} {f} {x₀} {x} v h fits e same =
    let at = k * b in
    let y = put_mid at (at + b - at) x v in
    let after = drop (at + b - at) (drop at x) in
    let lv : length v ≡ b = same ∙ part_size b k x fits in
    let old : (z : List ℕ) → drop (at + b) z ≡ drop b (drop at z) = λ z. sym (drop-drop b at z) in
    record {
      front =
          ap (λ (p : ℕ). take p y) (next_block k b) ∙ take-add at b y
          ∙ (λ i. take_put at (at + b - at) x v (omega arith) i ++ take b (drop_at (take at x) (v ++ after) at (length-take-le at x (omega arith)) i))
          ∙ (λ i. h.front i ++ take_at v after b lv i)
          ∙ ap (λ (u : List ℕ). blocks k (λ i. f i (block b i x₀)) ++ u) (e ∙ ap (f k) (part_block b k x ∙ ap (λ (l : List ℕ). take b l) h.rest))
          ∙ ap (λ (n : ℕ). blocks n (λ i. f i (block b i x₀))) (sym (add-one k));
      rest =
          ap (λ (p : ℕ). drop p y) (next_block k b) ∙ drop_put at (at + b) x v (omega arith) fits (lv ∙ omega arith)
          ∙ old x ∙ ap (λ (l : List ℕ). drop b l) h.rest ∙ sym (old x₀) ∙ ap (λ (p : ℕ). drop p x₀) (sym (next_block k b));
      same = same_len_mid at (at + b - at) x v same ∙ h.same;
    }

pub passed_all : {b n : ℕ} {f : ℕ → List ℕ → List ℕ} {x₀ x : List ℕ} → Passed b f x₀ x n → length x₀ ≡ n * b → x ≡ blocks n (λ i. f i (block b i x₀))
passed_all {b} {n} {f} {x₀} {x} h e = sym (take_all (n * b) x (omega (arith, h.same))) ∙ h.front
