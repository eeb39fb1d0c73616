-- What `layer` needs: what its call of `times` requires, that its call of `act` fits, and what it leaves. Rests on lists' Parts and cycles' Fits.
use mathlib.Core.Path.{◌≡◌, ap, ◌∙◌}
use mathlib.Core.List.{List}
use Prim.Native.Nat.{ℕ, ◌+◌, ◌*◌, ◌-◌, ◌≤◌}
use native.Mathlib.Nat.{mul-le-mul_right}
use native.Mathlib.Numerals.{add-one}
use native.Mathlib.Omega.{arith}
use lib.ListN.{length, take, drop}
use borrow.Rule.Slice.PartMut.{put_mid, take_put, same_len_mid}
use Rattle.lists.proofs.Parts.{part_block, part_size, rest_size}
use Rattle.element_calls.specs.declared.Parameters.{Parameters}
use Rattle.cycles.specs.Steps.{acted, ActPre}
use Rattle.cycles.specs.InPlace.{act_in}
use Rattle.cycles.proofs.Fits.{act_fit}
use Rattle.nested.specs.Steps.{multiplied, FactorsPre, TimesPre, LayerPre, LayerPost}

-- n is the number of words of a block of g, s that of an element
module _ {m l k s n : ℕ} {result scratch h g : List ℕ} (c : LayerPre m l k s n result scratch h g) where
  -- block k of g, as it is lent
  abbrev lent : List ℕ
  lent = take (k * n + n - k * n) (drop (k * n) g)

  factors_pre : FactorsPre m l result h lent
  factors_pre =
      record {
        rank = c.rank;
        within = omega (arith, c.within);
        left = c.left ∙ c.element_size;
        right = part_size n k g c.right ∙ c.part_size;
        result = c.result ∙ c.element_size;
      }

  pub times_pre : TimesPre m l result (take (length scratch - s) (drop s scratch)) h lent
  times_pre =
      record {
        factors = factors_pre;
        enough = omega (arith, rest_size s scratch, c.enough, ap (λ (a : ℕ). l * a) c.element_size);
      }

  -- the words of scratch from s on came back as v
  module _ (v : List ℕ) (ev : length v ≡ length (take (length scratch - s) (drop s scratch))) where
    abbrev scratch₁ : List ℕ
    scratch₁ = put_mid s (length scratch - s) scratch v

    same : length scratch₁ ≡ length scratch
    same = same_len_mid s (length scratch - s) scratch v ev

    act_pre : (y : List ℕ) → length y ≡ length result → ActPre m (l + 1) k y (take (length scratch₁ - s) (drop s scratch₁))
    act_pre y ey =
        record {
          rank = c.rank;
          below = omega (arith, c.within);
          within = omega (arith, c.place);
          size = ey ∙ c.result ∙ c.element_size;
          work = λ two. let one : 1 * s ≤ l * s = mul-le-mul_right s (omega (arith, c.place)) in
              omega (arith, rest_size s scratch₁, c.enough, c.element_size, same);
        }

    pub layer_whole : (p : Parameters) {y z : List ℕ} (w : List ℕ) → length y ≡ length result → y ≡ multiplied p m l h lent
        → z ≡ act_in p m (l + 1) k (length (take (length scratch₁ - s) (drop s scratch₁))) y
        → LayerPost p m l k s n h g scratch z (put_mid s (length scratch₁ - s) scratch₁ w)
    layer_whole p {y} w ly ey ez =
        record {
          value = ez ∙ act_fit p (act_pre y ly) ∙ (λ i. acted p m (add-one l i) k ((ey ∙ ap (multiplied p m l h) (part_block n k g)) i));
          keep =
              take_put s (length scratch₁ - s) scratch₁ w (omega (arith, c.enough, same))
              ∙ take_put s (length scratch - s) scratch v (omega (arith, c.enough));
        }
