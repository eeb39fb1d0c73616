-- What a letter leaves where all fits, and where not. Rests on lists' Test.
use mathlib.Core.Path.{◌≡◌, refl}
use mathlib.Core.Bool.{true, false}
use mathlib.Core.List.{List}
use Prim.Native.Nat.{ℕ}
use native.Mathlib.Omega.{arith}
use lib.ListN.{length}
use Rattle.std.proofs.lemmas.Bool.Decides.{nat_tests}
use Rattle.lists.specs.Lists.{same, less}
use Rattle.element_calls.specs.declared.Parameters.{Parameters}
use Rattle.block_loops.specs.declared.Way.{Way}
use Rattle.letters.specs.Letters.{lettered, letter_fits, letter_in, LetterPre}

-- ---- the test

pub fit_pre : (m j : ℕ) (x : List ℕ) → letter_fits m j (length x) ≡ true → LetterPre m j x
unfolding letter_fits same less
fit_pre m j x e = record {
  rank = grind (arith, nat_tests);
  letter = record { low = grind (arith, nat_tests); high = grind (arith, nat_tests) };
  size = grind (arith, nat_tests);
}

pre_fits : {m j : ℕ} {x : List ℕ} → LetterPre m j x → letter_fits m j (length x) ≡ true
unfolding letter_fits same less
pre_fits {m} {j} {x} c = let a = c.rank in let b = c.letter.low in let d = c.letter.high in let e = c.size in grind (arith, nat_tests)

-- ---- what is left in the place of x

pub letter_not : (w : Way) (p : Parameters) (m j : ℕ) (x : List ℕ) → letter_fits m j (length x) ≡ false → letter_in w p m j x ≡ x
unfolding letter_in
letter_not w p m j x e = rw e refl

fitting : (w : Way) (p : Parameters) (m j : ℕ) (x : List ℕ) → letter_fits m j (length x) ≡ true → letter_in w p m j x ≡ lettered w p m j x
unfolding letter_in
fitting w p m j x e = rw e refl

pub letter_fits_lem : (w : Way) (p : Parameters) {m j : ℕ} {x : List ℕ} → LetterPre m j x → letter_in w p m j x ≡ lettered w p m j x
letter_fits_lem w p {m} {j} {x} c = fitting w p m j x (pre_fits c)
