-- Writes into a list from an index on, one after another. Rests on lists' Overwrite.
use mathlib.Core.Path.{◌≡◌, refl, sym, ap, ap₂, ◌∙◌}
use mathlib.Core.List.{List, [], ◌∷◌, ◌++◌}
use Prim.Native.Nat.{ℕ, ◌+◌, ◌≤◌, ◌<◌}
use native.Mathlib.Numerals.{add-one}
use native.Mathlib.Nat.{add-zero}
use native.Mathlib.Omega.{arith}
use lib.ListN.{length, take, drop, set, length-append, take-append-drop}
use lib.Seq.{set_split}
use Rattle.lists.specs.Overwrite.{overwrite}
use Rattle.lists.proofs.Overwrite.{overwrite_size, overwrite_more}
use Rattle.output.specs.Steps.{Overwritten}

pub overwritten_none : (at : ℕ) (t : List ℕ) → Overwritten at [] t t at
unfolding overwrite
overwritten_none at t = record { text = sym (ap (λ n. take at t ++ drop n t) (add-zero at) ∙ take-append-drop at t); ends = sym (add-zero at) }

pub overwritten_byte : (at b : ℕ) (t : List ℕ) → at < length t → Overwritten at (b ∷ []) t (set t at b) (at + 1)
unfolding overwrite
overwritten_byte at b t h = record { text = set_split t at b h ∙ ap (λ n. take at t ++ (b ∷ drop n t)) (sym (add-one at)); ends = refl }

pub overwritten_more : {at i j : ℕ} {x y t u v : List ℕ} → Overwritten at x t u i → Overwritten i y u v j → at ≤ length t → Overwritten at (x ++ y) t v j
overwritten_more {at} {x = x} {y} {t} a b h = record {
  text = b.text ∙ ap₂ (λ n s. overwrite n y s) a.ends a.text ∙ overwrite_more at x y t h;
  ends = omega (arith, a.ends, b.ends, length-append x y);
}

pub overwritten_size : {at i : ℕ} {x t u : List ℕ} → Overwritten at x t u i → at + length x ≤ length t → length u ≡ length t
overwritten_size {at} {x = x} {t} a h = ap length a.text ∙ overwrite_size at x t h
