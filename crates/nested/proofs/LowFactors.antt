-- A right factor of rank 0 or 1: h g is g_0 h, or (g_1 h) T_1 + g_0 h. Rests on Summands, cycles' LowCycles and
-- block_loops' Fits.
use mathlib.Core.Path.{◌≡◌, refl, sym, ap, ap₂, ◌∙◌}
use mathlib.Core.List.{List}
use Prim.Native.Nat.{ℕ, zero, suc, ◌+◌, ◌*◌}
use native.Mathlib.Omega.{arith}
use lib.ListN.{length, get_or, drop}
use lib.Seq.{get_or-take, get_or-drop}
use Rattle.ring.specs.Modular.{modular}
use Rattle.lists.specs.Lists.{range}
use Rattle.lists.specs.Numbers.{factorial}
use Rattle.lists.specs.Sums.{onto, sum_by}
use Rattle.lists.specs.Blocks.{block}
use Rattle.algebra.specs.Element.{plus, scale}
use Rattle.algebra.specs.Nested.{rising, falling, free, ◌⊠◌, nested}
use Rattle.element_calls.specs.declared.Parameters.{Parameters}
use Rattle.element_calls.specs.Coefficients.{ring}
use Rattle.block_loops.specs.declared.Way.TheVariants.{Forward}
use Rattle.block_loops.specs.InPlace.{add_multiple}
use Rattle.block_loops.proofs.Fits.{multiple_fits}
use Rattle.letters.specs.Letters.{letter_in, LetterPre}
use Rattle.cycles.specs.Steps.{sums, acted}
use Rattle.cycles.proofs.LowCycles.{acted_none, letter_acted}
use Rattle.nested.specs.Steps.{multiplied, FactorsPre}
use Rattle.nested.proofs.Summands.{multiplied_suc}

-- ---- of rank 0

pub size_one : (l : ℕ) → l ≡ 0 → factorial (suc l) ≡ 1
unfolding factorial
size_one l e = ap (λ (n : ℕ). factorial (suc n)) e

pub multiplied_zero : (p : Parameters) (m l : ℕ) (h g : List ℕ) → l ≡ 0 → scale ℕ (ring p) (get_or g 0 0) h ≡ multiplied p m l h g
unfolding multiplied nested ◌⊠◌ free modular
multiplied_zero p m zero h g e = refl
multiplied_zero p m (suc l) h g e = absurd (omega arith)

-- ---- of rank 1

pub size_two : factorial 2 ≡ 2
unfolding factorial
size_two = refl

first_word : (k : ℕ) (g : List ℕ) → get_or (block 1 k g) 0 0 ≡ get_or g k 0
unfolding block
first_word k g =
    let e : k * 1 + 0 ≡ k = omega arith in
    get_or-take 1 (drop (k * 1) g) 0 0 (omega arith) ∙ get_or-drop (k * 1) g 0 0 ∙ ap (λ (n : ℕ). get_or g n 0) e

multiplied_one : (p : Parameters) (m : ℕ) (h g : List ℕ)
    → multiplied p m 1 h g ≡ plus ℕ (ring p) (acted p m 1 1 (scale ℕ (ring p) (get_or g 1 0) h)) (scale ℕ (ring p) (get_or g 0 0) h)
unfolding sums sum_by onto falling rising range factorial
multiplied_one p m h g =
    let multiple : (k : ℕ) → multiplied p m 0 h (block 1 k g) ≡ scale ℕ (ring p) (get_or g k 0) h =
    λ k. sym (multiplied_zero p m 0 h (block 1 k g) refl) ∙ ap (λ (c : ℕ). scale ℕ (ring p) c h) (first_word k g) in
    multiplied_suc p m 0 h g ∙ ap₂ (plus ℕ (ring p)) (ap (acted p m 1 1) (multiple 1)) (acted_none p m 1 _ ∙ multiple 0)

module _ {m : ℕ} {result h g : List ℕ} (c : FactorsPre m 1 result h g) where
  letter_pre : {y : List ℕ} → length y ≡ length result → LetterPre m 1 y
  letter_pre e = record { rank = c.rank; letter = record { low = omega arith; high = c.within }; size = e ∙ c.result }

  pub one_whole : (p : Parameters) {y z t : List ℕ} → length y ≡ length result → y ≡ scale ℕ (ring p) (get_or g 1 0) h → length z ≡ length y
      → z ≡ letter_in Forward p m 1 y → t ≡ add_multiple p z (get_or g 0 0) h → t ≡ multiplied p m 1 h g
  one_whole p {z = z} ly ey lz ez e =
      let second = ez ∙ letter_acted p (letter_pre ly) ∙ ap (acted p m 1 1) ey in
      e ∙ multiple_fits p z (get_or g 0 0) h (lz ∙ ly ∙ c.result ∙ sym c.left)
      ∙ ap (λ (x : List ℕ). plus ℕ (ring p) x (scale ℕ (ring p) (get_or g 0 0) h)) second ∙ sym (multiplied_one p m h g)
