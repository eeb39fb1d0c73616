-- Parts of a list that are lent and come back: block k of b words, the first words, and the words from some index on. Rests on
-- Blocks.
use mathlib.Core.Path.{◌≡◌, refl, sym, ap, ◌∙◌}
use mathlib.Core.List.{List, ◌++◌, append-nil}
use Prim.Native.Nat.{ℕ, zero, suc, ◌+◌, ◌*◌, ◌-◌, ◌≤◌, ◌<◌}
use native.Mathlib.Nat.{suc-mul, mul-le-mul_right, le_trans}
use native.Mathlib.Numerals.{add-one}
use native.Mathlib.Omega.{arith}
use lib.ListN.{length, take, drop, length-drop, drop_of_length-le}
use lib.Seq.{take_at, length-take-le}
use borrow.Rule.Slice.PartMut.{put_mid}
use Rattle.lists.specs.Numbers.{factorial}
use Rattle.lists.specs.Blocks.{block}
use Rattle.lists.proofs.Blocks.{block_size}

-- ---- numbers

pub next_block : (k b : ℕ) → (k + 1) * b ≡ k * b + b
next_block k b = rw (add-one, suc-mul) refl

pub below_block : (i k b : ℕ) → i < k → i * b + b ≤ k * b
below_block i k b h = rw suc-mul at (mul-le-mul_right b h)

-- block k is within n blocks
pub fits_block : (k n b len : ℕ) → k < n → n * b ≤ len → k * b + b ≤ len
fits_block k n b len h g = le_trans (below_block k n b h) g

-- an element of rank m is m + 1 blocks of rank m - 1
pub element_blocks : (m b : ℕ) → 1 ≤ m → b ≡ factorial (suc (m - 1)) → factorial (suc m) ≡ suc m * b
unfolding factorial
element_blocks zero b h e = absurd (omega arith)
element_blocks (suc m) b h e = let s : m ≡ suc m - 1 = omega arith in ap (λ (n : ℕ). suc (suc m) * n) (ap (λ (n : ℕ). factorial (suc n)) s ∙ sym e)

-- ---- block k, as it is lent

pub part_block : (b k : ℕ) (x : List ℕ) → take (k * b + b - k * b) (drop (k * b) x) ≡ block b k x
unfolding block
part_block b k x = let e : k * b + b - k * b ≡ b = omega arith in ap (λ (n : ℕ). take n (drop (k * b) x)) e

pub part_size : (b k : ℕ) (x : List ℕ) → k * b + b ≤ length x → length (take (k * b + b - k * b) (drop (k * b) x)) ≡ b
part_size b k x h = ap length (part_block b k x) ∙ block_size b k x h

-- ---- the first b words came back as v

pub front_put : {n : ℕ} (b : ℕ) (x v rest : List ℕ) → n ≡ b → b ≤ length x → length v ≡ length (take (b - 0) x) → take n (v ++ rest) ≡ v
front_put {n} b x v rest d h e = take_at v rest n (e ∙ length-take-le (b - 0) x (omega arith) ∙ omega arith)

-- ---- the words from top on

pub rest_size : (top : ℕ) (x : List ℕ) → length (take (length x - top) (drop top x)) ≡ length x - top
rest_size top x = length-take-le (length x - top) (drop top x) (rw length-drop (omega arith))

-- they came back as v
pub rest_put : (top : ℕ) (x v : List ℕ) → put_mid top (length x - top) x v ≡ take top x ++ v
rest_put top x v =
    ap (λ (l : List ℕ). take top x ++ (v ++ l)) (drop_of_length-le (drop top x) {i = length x - top} (rw length-drop (omega arith)))
    ∙ ap (λ (l : List ℕ). take top x ++ l) (append-nil v)
