-- A loop that lends each pair of neighbouring blocks, from the first on, and gets q times the second in the place of the first: the blocks after the
-- first, times q, move one block down. After it the last block is written. Rests on lists' Passed and block_loops' Fits.
--
--   pair b k x           the blocks k and k + 1, of b words, as they are lent
--   Moved p b x₀ x k     the first k blocks of x are q times the blocks 1 to k of x₀, and the others as they were in x₀
use mathlib.Core.Path.{◌≡◌, sym, ap, subst, ◌∙◌}
use mathlib.Core.List.{List, ◌++◌, append_assoc}
use Prim.Native.Nat.{ℕ, suc, ◌+◌, ◌*◌, ◌-◌, ◌≤◌, ◌<◌}
use native.Mathlib.Nat.{suc-mul, sub-zero}
use native.Mathlib.Omega.{arith}
use lib.ListN.{length, take, drop, length-drop, take-append-drop}
use lib.Seq.{take-add, drop_at, drop-drop, length-take-le}
use borrow.Rule.Slice.PartMut.{put_mid}
use Rattle.lists.specs.Blocks.{block}
use Rattle.lists.proofs.Blocks.{blocks_cong, by_blocks, map_blocks}
use Rattle.lists.proofs.Parts.{below_block, part_size, front_put}
use Rattle.lists.proofs.Passed.{Passed, passed_more}
use Rattle.algebra.specs.Element.{plus, scale}
use Rattle.algebra.proofs.Lists.{scale_length}
use Rattle.element_calls.specs.declared.Parameters.{Parameters}
use Rattle.element_calls.specs.Coefficients.{ring}
use Rattle.block_loops.specs.InPlace.{fold_into, move_down}
use Rattle.block_loops.proofs.Fits.{fold_fits, move_fits}

-- ---- a pair of blocks

abbrev pair : (b k : ℕ) → List ℕ → List ℕ
pair b k x = take (k * b + b + b - k * b) (drop (k * b) x)

pub pair_fits : (b : ℕ) {k l n : ℕ} → k < l → n ≡ suc l * b → k * b + b + b ≤ n
pair_fits b {k} {l} h e = omega (arith, below_block k l b h, suc-mul l b)

second_half : (b k : ℕ) (x : List ℕ) → k * b + b + b ≤ length x → drop b (pair b k x) ≡ take b (drop b (drop (k * b) x))
second_half b k x h =
    let y = drop (k * b) x in
    let e : k * b + b + b - k * b ≡ b + b = omega arith in
    ap (λ (n : ℕ). drop b (take n y)) e ∙ ap (drop b) (take-add b b y)
    ∙ drop_at (take b y) (take b (drop b y)) b (length-take-le b y (omega (arith, length-drop (k * b) x)))

pair_size : (b k : ℕ) (x : List ℕ) → k * b + b + b ≤ length x → length (pair b k x) ≡ b + b
pair_size b k x h = length-take-le (k * b + b + b - k * b) (drop (k * b) x) (rw length-drop (omega arith)) ∙ omega arith

-- a pair that comes back with u in the place of its first block
pair_put : (b k : ℕ) (x u : List ℕ) → k * b + b + b ≤ length x
    → put_mid (k * b) (k * b + b + b - k * b) x (u ++ drop b (pair b k x)) ≡ put_mid (k * b) (k * b + b - k * b) x u
pair_put b k x u h =
    let y = drop (k * b) x in
    let one : b ≡ k * b + b - k * b = omega arith in
    let two : k * b + b + b - k * b ≡ b + b = omega arith in
    ap (λ (z : List ℕ). take (k * b) x ++ z)
    (append_assoc u (drop b (pair b k x)) (drop (k * b + b + b - k * b) y)
    ∙ ap (λ (z : List ℕ). u ++ z)
    ((λ i. second_half b k x h i ++ (ap (λ (n : ℕ). drop n y) two ∙ sym (drop-drop b b y)) i)
    ∙ take-append-drop b (drop b y) ∙ ap (λ (n : ℕ). drop n y) one))

-- ---- the loop

abbrev pub Moved : (p : Parameters) (b : ℕ) (x₀ x : List ℕ) → ℕ → Type 0
Moved p b x₀ x k = Passed b (λ i u. scale ℕ (ring p) p.q (block b (suc i) x₀)) x₀ x k

pub moved_more : (p : Parameters) {b k : ℕ} {x₀ x v : List ℕ} → Moved p b x₀ x k → k * b + b + b ≤ length x
    → v ≡ move_down p b (pair b k x) → Moved p b x₀ (put_mid (k * b) (k * b + b + b - k * b) x v) (k + 1)
unfolding block
moved_more p {b} {k} {x₀} {x} {v} h fits e =
    let at = k * b in
    let u = scale ℕ (ring p) p.q (drop b (pair b k x)) in
    let n : at + b ≡ suc k * b = omega (arith, suc-mul k b) in
    let fits_one : at + b ≤ length x = omega arith in
    let half = second_half b k x fits in
    let size : length u ≡ b = scale_length ℕ (ring p) p.q (drop b (pair b k x)) ∙ ap length half
    ∙ length-take-le b (drop b (drop at x)) (omega (arith, length-drop b (drop at x), length-drop at x)) in
    subst (λ (y : List ℕ). Moved p b x₀ y (k + 1))
    (sym (ap (put_mid at (at + b + b - at) x) (e ∙ move_fits p b (pair b k x) (pair_size b k x fits)) ∙ pair_put b k x u fits))
    (passed_more u h fits_one
    (ap (scale ℕ (ring p) p.q) (half ∙ ap (λ (y : List ℕ). take b (drop b y)) h.rest ∙ ap (take b) (drop-drop b at x₀ ∙ ap (λ (i : ℕ). drop i x₀) n)))
    (size ∙ sym (part_size b k x fits_one)))

pub moved_all : (p : Parameters) {b k l : ℕ} {x₀ x : List ℕ} → Moved p b x₀ x k → k ≡ l → length x₀ ≡ suc l * b
    → take (l * b) x ≡ scale ℕ (ring p) p.q (drop b x₀)
unfolding block scale
moved_all p {b} {k} {l} {x₀} {x} h d e =
    let next : (i : ℕ) → block b i (drop b x₀) ≡ block b (suc i) x₀ = λ i.
    let n : b + i * b ≡ suc i * b = omega (arith, suc-mul i b) in ap (take b) (drop-drop (i * b) b x₀ ∙ ap (λ (j : ℕ). drop j x₀) n) in
    (subst (λ (j : ℕ). Moved p b x₀ x j) d h).front
    ∙ sym (map_blocks ((ring p).mul p.q) l (λ i. block b (suc i) x₀))
    ∙ ap (scale ℕ (ring p) p.q)
    (sym (by_blocks b l (drop b x₀) (omega (arith, length-drop b x₀, suc-mul l b)) ∙ blocks_cong l _ _ (λ i g. next i)))

-- ---- the last block

-- the first b words of sum came back as v, and are copied
pub last_block : (p : Parameters) (b : ℕ) (x sum : List ℕ) {v w : List ℕ} → b ≤ length x → b ≤ length sum → length v ≡ length (take (b - 0) sum)
    → v ≡ fold_into p (take (b - 0) sum) (take (b - 0) x) → w ≡ take (b - 0) (put_mid 0 (b - 0) sum v)
    → w ≡ plus ℕ (ring p) (take b x) (scale ℕ (ring p) p.r (take b sum))
last_block p b x sum {v} g h same e f =
    let sizes = length-take-le (b - 0) sum (omega arith) ∙ sym (length-take-le (b - 0) x (omega arith)) in
    f ∙ front_put b sum v _ (sub-zero b) h same ∙ e ∙ fold_fits p _ _ sizes
    ∙ ap (λ (n : ℕ). plus ℕ (ring p) (take n x) (scale ℕ (ring p) p.r (take n sum))) (sub-zero b)
