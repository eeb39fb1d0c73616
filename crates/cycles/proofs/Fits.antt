-- What `act` leaves where all fits, and where not. Rests on LowCycles, lists' Test and letters' Fits.
use mathlib.Core.Path.{◌≡◌, refl, sym, ap, ◌∙◌}
use mathlib.Core.Bool.{Bool, true, false}
use mathlib.Core.List.{List}
use Prim.Native.Nat.{ℕ}
use native.Mathlib.Omega.{arith}
use lib.ListN.{length}
use Rattle.std.proofs.lemmas.Bool.Decides.{nat_tests}
use Rattle.lists.specs.Lists.{same, less}
use Rattle.element_calls.specs.declared.Parameters.{Parameters}
use Rattle.block_loops.specs.declared.Way.TheVariants.{Forward}
use Rattle.letters.specs.Letters.{letter_fits, letter_in, LetterPre}
use Rattle.letters.proofs.Fits as letters
use Rattle.cycles.specs.Steps.{acted, ActPre}
use Rattle.cycles.specs.InPlace.{act_fits, act_in}
use Rattle.cycles.proofs.LowCycles.{acted_none, letter_pre, letter_acted}

-- ---- the test

pre_fits : {m j l : ℕ} {x w : List ℕ} → ActPre m j l x w → act_fits m j l (length x) (length w) ≡ true
unfolding act_fits same less
pre_fits {m} {j} {l} {x} {w} c = let a = c.rank in let b = c.below in let d = c.within in let e = c.size in let f = c.work in grind (arith, nat_tests)

fit_pre : (m j l : ℕ) (x w : List ℕ) → act_fits m j l (length x) (length w) ≡ true → ActPre m j l x w
unfolding act_fits same less
fit_pre m j l x w e = record {
  rank = grind (arith, nat_tests);
  below = grind (arith, nat_tests);
  within = grind (arith, nat_tests);
  size = grind (arith, nat_tests);
  work = λ two. grind (arith, nat_tests);
}

pub answer_pre : (m j l : ℕ) (x w : List ℕ) {b : Bool} → b ≡ act_fits m j l (length x) (length w) → b ≡ true → ActPre m j l x w
answer_pre m j l x w d e = fit_pre m j l x w (sym d ∙ e)

-- ---- what is left in the place of x

pub act_not : (p : Parameters) (m j l w : ℕ) (x : List ℕ) → act_fits m j l (length x) w ≡ false → act_in p m j l w x ≡ x
unfolding act_in
act_not p m j l w x e = rw e refl

fitting : (p : Parameters) (m j l w : ℕ) (x : List ℕ) → act_fits m j l (length x) w ≡ true → act_in p m j l w x ≡ acted p m j l x
unfolding act_in
fitting p m j l w x e = rw e refl

pub act_fit : (p : Parameters) {m j l : ℕ} {x w : List ℕ} → ActPre m j l x w → act_in p m j l (length w) x ≡ acted p m j l x
act_fit p {m} {j} {l} {x} {w} c = fitting p m j l (length w) x (pre_fits c)

pub act_end : (p : Parameters) {m j l : ℕ} {x w v : List ℕ} → ActPre m j l x w → v ≡ acted p m j l x → v ≡ act_in p m j l (length w) x
act_end p c e = e ∙ sym (act_fit p c)

pub act_none : (p : Parameters) (m j w : ℕ) (x : List ℕ) {l : ℕ} → l ≡ 0 → x ≡ act_in p m j l w x
act_none p m j w x {l} none = sym (ap (λ (n : ℕ). act_in p m j n w x) none ∙ go (act_fits m j 0 (length x) w) refl)
  where
    go : (b : Bool) → act_fits m j 0 (length x) w ≡ b → act_in p m j 0 w x ≡ x
    go true e = fitting p m j 0 w x e ∙ acted_none p m j x
    go false e = act_not p m j 0 w x e

-- ---- one letter: its test is the same

one_pre : {m j : ℕ} {x : List ℕ} (w : List ℕ) → LetterPre m j x → ActPre m j 1 x w
one_pre w c = record { rank = c.rank; below = c.letter.high; within = c.letter.low; size = c.size; work = λ two. absurd (omega arith) }

letters_same : (p : Parameters) (m j : ℕ) (x w : List ℕ) → letter_in Forward p m j x ≡ act_in p m j 1 (length w) x
letters_same p m j x w = go (letter_fits m j (length x)) refl (act_fits m j 1 (length x) (length w)) refl
  where
    go : (b : Bool) → letter_fits m j (length x) ≡ b → (c : Bool) → act_fits m j 1 (length x) (length w) ≡ c
        → letter_in Forward p m j x ≡ act_in p m j 1 (length w) x
    go true d c e = let pre = letters.fit_pre m j x d in letter_acted p pre ∙ sym (act_fit p (one_pre w pre))
    go false d true e = let pre = letter_pre (fit_pre m j 1 x w e) refl in letter_acted p pre ∙ sym (fitting p m j 1 (length w) x e)
    go false d false e = letters.letter_not Forward p m j x d ∙ sym (act_not p m j 1 (length w) x e)

pub act_letter : (p : Parameters) (m j : ℕ) (x w : List ℕ) {l : ℕ} {v : List ℕ} → l ≡ 1 → v ≡ letter_in Forward p m j x
    → v ≡ act_in p m j l (length w) x
act_letter p m j x w one e = e ∙ letters_same p m j x w ∙ ap (λ (n : ℕ). act_in p m j n (length w) x) (sym one)
