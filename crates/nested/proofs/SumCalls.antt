-- What the calls in `times` require that make the summands and their sum. Rests on lists' Parts.
use mathlib.Core.Path.{◌≡◌, sym, ap, ◌∙◌}
use mathlib.Core.List.{List}
use Prim.Native.Nat.{ℕ, suc, ◌+◌, ◌*◌, ◌-◌, ◌≤◌}
use native.Mathlib.Omega.{arith}
use lib.ListN.{length}
use Rattle.lists.specs.Numbers.{factorial}
use Rattle.lists.proofs.Parts.{fits_block, element_blocks}
use Rattle.nested.specs.Steps.{TimesPre, LayerPre}

-- result and scratch have the lengths of result₀ and scratch₀
module _ {m l s n : ℕ} {result₀ scratch₀ h g : List ℕ} (c : TimesPre m l result₀ scratch₀ h g) (es : s ≡ factorial (suc m))
    (en : n ≡ factorial (suc (l - 1))) (some : 1 ≤ l) (result scratch : List ℕ) (er : length result ≡ length result₀)
    (ew : length scratch ≡ length scratch₀) where
  scratch_fits : s + (l - 1) * s ≤ length scratch
  scratch_fits = let e : l ≡ suc (l - 1) = omega arith in omega (arith, c.enough, ew, ap (λ (a : ℕ). a * s) e, ap (λ (a : ℕ). l * a) es)

  pub layer_pre : (k : ℕ) → k ≤ l → LayerPre m (l - 1) k s n result scratch h g
  layer_pre k place =
      record {
        rank = c.factors.rank;
        within = omega (arith, c.factors.within);
        place = omega arith;
        element_size = es;
        part_size = en;
        left = c.factors.left ∙ sym es;
        right = fits_block k (suc l) n (length g) (omega arith) (omega (arith, c.factors.right, element_blocks l n some en));
        result = er ∙ c.factors.result ∙ sym es;
        enough = scratch_fits;
      }

  pub sum_fits : s ≤ length scratch
  sum_fits = omega (arith, scratch_fits)
