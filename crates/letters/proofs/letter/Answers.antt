-- Where all fits, each rank by its function. Rests on Fits and LowRanks.
use Rattle.std.proofs.Common.{◌≡◌, ℕ, true, List, length, sym, ap, ◌∙◌, subst, arith}
use Rattle.element_calls.specs.declared.Parameters.{Parameters}
use Rattle.block_loops.specs.declared.Way.{Way}
use Rattle.letters.specs.Letters.{lettered, letter_fits, letter_in, LetterPre}
use Rattle.letters.proofs.Fits.{letter_not, letter_fits_lem, fit_pre}
use Rattle.letters.proofs.LowRanks.{exchanged_one}
use Rattle.letters.proofs.letter.Goals as goal

-- ---- where all fits

pre_of : (m j n : ℕ) (x : List ℕ) → letter_fits m j (length x) ≡ true → m ≡ n → LetterPre n j x
pre_of m j n x fits e = subst (λ (n : ℕ). LetterPre n j x) e (fit_pre m j x fits)

done : (w : Way) (p : Parameters) (m j : ℕ) (x : List ℕ) {y : List ℕ} → letter_fits m j (length x) ≡ true → y ≡ lettered w p m j x → y ≡ letter_in w p m j x
done w p m j x fits e = e ∙ sym (letter_fits_lem w p (fit_pre m j x fits))

done_of : (w : Way) (p : Parameters) (m j n : ℕ) (x : List ℕ) {y : List ℕ} → letter_fits m j (length x) ≡ true → m ≡ n → y ≡ lettered w p n j x
    → y ≡ letter_in w p m j x
done_of w p m j n x fits e d = done w p m j x fits (d ∙ ap (λ (n : ℕ). lettered w p n j x) (sym e))

-- ---- the goals

pub returns-then-not-letter_fits : goal.returns-then-not-letter_fits
returns-then-not-letter_fits g c = let u = c.args in
    sym (letter_not g.W.Direction.way u.p u.m u.j u.x.now (sym c.letter_fits.ensures ∙ c.if-not-letter_fits.true))

pub returns-in-1 : goal.returns-in-1
returns-in-1 g c =
    let u = c.args in
    let fits = sym c.letter_fits.ensures ∙ c.if-not-letter_fits.false in
    done g.W.Direction.way u.p u.m u.j u.x.now fits (exchanged_one g.W.Direction.way u.p c.in-1.is (fit_pre u.m u.j u.x.now fits) c.exchange.ensures)

pub letter-requires : goal.letter-requires
letter-requires g c = let u = c.args in pre_of u.m u.j 2 u.x.now (sym c.letter_fits.ensures ∙ c.if-not-letter_fits.false) c.in-2.is

pub returns-in-2 : goal.returns-in-2
returns-in-2 g c = let u = c.args in
    done_of g.W.Direction.way u.p u.m u.j 2 u.x.now (sym c.letter_fits.ensures ∙ c.if-not-letter_fits.false) c.in-2.is c.letter.ensures

pub by_blocks-requires : goal.by_blocks-requires
by_blocks-requires g c = let u = c.args in pre_of u.m u.j 3 u.x.now (sym c.letter_fits.ensures ∙ c.if-not-letter_fits.false) c.in-3.is

pub returns-in-3 : goal.returns-in-3
returns-in-3 g c = let u = c.args in
    done_of g.W.Direction.way u.p u.m u.j 3 u.x.now (sym c.letter_fits.ensures ∙ c.if-not-letter_fits.false) c.in-3.is c.by_blocks.ensures

pub by_blocks-requires-in-4 : goal.by_blocks-requires-in-4
by_blocks-requires-in-4 g c = let u = c.args in pre_of u.m u.j 4 u.x.now (sym c.letter_fits.ensures ∙ c.if-not-letter_fits.false) c.in-4.is

pub returns-in-4 : goal.returns-in-4
returns-in-4 g c = let u = c.args in
    done_of g.W.Direction.way u.p u.m u.j 4 u.x.now (sym c.letter_fits.ensures ∙ c.if-not-letter_fits.false) c.in-4.is c.by_blocks-in-4.ensures

pub by_blocks-requires-in-5 : goal.by_blocks-requires-in-5
by_blocks-requires-in-5 g c = let u = c.args in pre_of u.m u.j 5 u.x.now (sym c.letter_fits.ensures ∙ c.if-not-letter_fits.false) c.in-5.is

pub returns-in-5 : goal.returns-in-5
returns-in-5 g c = let u = c.args in
    done_of g.W.Direction.way u.p u.m u.j 5 u.x.now (sym c.letter_fits.ensures ∙ c.if-not-letter_fits.false) c.in-5.is c.by_blocks-in-5.ensures

pub by_blocks-requires-in_default : goal.by_blocks-requires-in_default
by_blocks-requires-in_default g c =
    let u = c.args in
    let fits = sym c.letter_fits.ensures ∙ c.if-not-letter_fits.false in
    let good = fit_pre u.m u.j u.x.now fits in
    pre_of u.m u.j 6 u.x.now fits (omega (arith, good.rank, good.letter.low, good.letter.high))

pub returns-in_default : goal.returns-in_default
returns-in_default g c =
    let u = c.args in
    let fits = sym c.letter_fits.ensures ∙ c.if-not-letter_fits.false in
    let good = fit_pre u.m u.j u.x.now fits in
    done_of g.W.Direction.way u.p u.m u.j 6 u.x.now fits (omega (arith, good.rank, good.letter.low, good.letter.high)) c.by_blocks-in_default.ensures
