-- T_a(j,l) for l of 0 and 1: nothing, and one letter. Rests on algebra's NestedLetter and letters' Fits.
use mathlib.Core.Path.{◌≡◌, sym, ap, ◌∙◌}
use mathlib.Core.List.{List}
use Prim.Native.Nat.{ℕ}
use native.Mathlib.Omega.{arith}
use Rattle.algebra.proofs.NestedLetter.{nested_none, nested_letter}
use Rattle.element_calls.specs.declared.Parameters.{Parameters}
use Rattle.element_calls.specs.Coefficients.{ring}
use Rattle.block_loops.specs.declared.Way.TheVariants.{Forward}
use Rattle.block_loops.specs.InPlace.{exchanging}
use Rattle.letters.specs.Letters.{letter_in, LetterPre}
use Rattle.letters.proofs.Fits.{letter_fits_lem}
use Rattle.cycles.specs.Steps.{acted, ActPre}

pub acted_none : (p : Parameters) (m j : ℕ) (x : List ℕ) → acted p m j 0 x ≡ x
unfolding acted
acted_none p m j x = nested_none ℕ (ring p) p.q p.r m j x

pub letter_acted : (p : Parameters) {m j : ℕ} {x : List ℕ} → LetterPre m j x → letter_in Forward p m j x ≡ acted p m j 1 x
unfolding exchanging acted
letter_acted p {m} {j} {x} c = letter_fits_lem Forward p c ∙ sym (nested_letter ℕ (ring p) p.q p.r m j x c.letter c.size)

-- where it is one letter

pub letter_pre : {m j l : ℕ} {x w : List ℕ} → ActPre m j l x w → l ≡ 1 → LetterPre m j x
letter_pre c e = record { rank = c.rank; letter = record { low = omega (arith, c.within); high = c.below }; size = c.size }

pub block_letter : (p : Parameters) {m j l : ℕ} {x w v : List ℕ} → ActPre m j l x w → l ≡ 1 → v ≡ letter_in Forward p m j x → v ≡ acted p m j l x
block_letter p {m} {j} {x = x} c one e = e ∙ letter_acted p (letter_pre c one) ∙ ap (λ (n : ℕ). acted p m j n x) (sym one)
