-- The first b words come back as the block, or as the sum with it. Rests on Sums, lists' Parts, block_loops' Fits and word_lists' Into.
use Rattle.std.proofs.Common.{◌≡◌, ℕ, ◌≤◌, ◌+◌, ◌*◌, ◌-◌, List, length, take, drop, refl, sym, ◌∙◌, arith}
use native.Mathlib.Nat.{sub-zero}
use lib.Seq.{length-take-le}
use Rattle.lists.proofs.Parts.{part_block, part_size, front_put}
use Rattle.algebra.specs.Element.{plus}
use Rattle.element_calls.specs.Coefficients.{ring}
use Rattle.word_lists.proofs.Into.{load_whole}
use Rattle.block_loops.proofs.Fits.{add_fits}
use Rattle.cycles.proofs.Sums.{collected_first, collected_more}
use Rattle.cycles.proofs.blocks.collect.Goals as goal

-- the two parts have one size
sizes : (b k : ℕ) (s x : List ℕ) → b ≤ length s → k * b + b ≤ length x → length (take (b - 0) s) ≡ length (take (k * b + b - k * b) (drop (k * b) x))
sizes b k s x h g = length-take-le (b - 0) s (omega arith) ∙ omega (arith, part_size b k x g)

pub returns-then-i-eq0 : goal.returns-then-i-eq0
returns-then-i-eq0 c = let u = c.args in
    front_put u.b u.sum.now _ _ refl c.requires.0 c.load.auto.d ∙ c.load.ensures
    ∙ load_whole _ _ (sizes u.b u.k u.sum.now u.x.now c.requires.0 c.requires.1) ∙ part_block u.b u.k u.x.now
    ∙ sym (collected_first u.p u.i _ _ c.if-i-eq0.true)

pub returns : goal.returns
returns c = let u = c.args in
    front_put u.b u.sum.now _ _ refl c.requires.0 c.add_to.auto.d ∙ c.add_to.ensures
    ∙ add_fits u.p _ _ (sizes u.b u.k u.sum.now u.x.now c.requires.0 c.requires.1)
    ∙ (λ i. plus ℕ (ring u.p) (take (sub-zero u.b i) u.sum.now) (part_block u.b u.k u.x.now i))
    ∙ sym (collected_more u.p u.i _ _ c.if-i-eq0.false)
