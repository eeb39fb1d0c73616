-- A loop in each step of which the letter acts on one block: the block is within the list and an element of its rank, and in the end all are acted on.
-- Rests on lists' Parts and Passed.
use mathlib.Core.Path.{◌≡◌}
use mathlib.Core.List.{List}
use Prim.Native.Nat.{ℕ, ◌+◌, ◌*◌, ◌-◌, ◌≤◌, ◌<◌}
use native.Mathlib.Omega.{arith}
use lib.ListN.{length, take, drop}
use borrow.Rule.Slice.PartMut.{put_mid}
use Rattle.lists.proofs.Parts.{fits_block}
use Rattle.lists.proofs.Passed.{Passed, passed_more}
use Rattle.letters.specs.Letters.{EachLetterPre}

module _ {m b n j k : ℕ} {f : ℕ → List ℕ → List ℕ} {x₀ x : List ℕ} (pre : EachLetterPre m b n j x₀) (past : (k ≤ n) × Passed b f x₀ x k) where
  each_fits : k < n → k * b + b ≤ length x
  each_fits h = fits_block k n b (length x) h (omega (arith, past.1.same, pre.size))

  pub each_more : (v : List ℕ) → k < n → v ≡ f k (take (k * b + b - k * b) (drop (k * b) x)) → length v ≡ length (take (k * b + b - k * b) (drop (k * b) x))
      → Passed b f x₀ (put_mid (k * b) (k * b + b - k * b) x v) (k + 1)
  each_more v h e same = passed_more v past.1 (each_fits h) e same
