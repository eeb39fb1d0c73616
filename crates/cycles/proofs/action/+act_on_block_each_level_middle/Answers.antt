-- The cycle of calls {act_on_block, level, each, middle}. `act_on_block`: one letter, none, and more are three cases. `level`: rank 2 by itself, else three
-- parts. `each`: a pass over the blocks. `middle`: two actions on a block in each step, with the sum between them, and then the shift. Rests on LowCycles,
-- Levels, Middle, ranks' Sizes, and lists' Cuts, Parts and Passed.
use Rattle.std.proofs.Common.{◌≡◌, ℕ, suc, ◌+◌, ◌*◌, ◌-◌, ◌≤◌, List, length, refl, sym, ap, subst, ◌∙◌, arith}
use Rattle.lists.specs.Numbers.{factorial}
use Rattle.lists.proofs.Parts.{fits_block}
use Rattle.lists.proofs.Passed.{passed_none, passed_more}
use Rattle.lists.proofs.Cuts.{high_within, middle_end}
use Rattle.ranks.specs.Ranks.{size}
use Rattle.ranks.proofs.Sizes.{size_is}
use Rattle.cycles.specs.Steps.{acted, LevelPre, TwoPre}
use Rattle.cycles.proofs.LowCycles.{acted_none, block_letter}
use Rattle.cycles.proofs.Levels.{Cutting, cut, low_pre, middle_pre, high_pre, level_whole}
use Rattle.cycles.proofs.Middle.{PartsDone, parts_done_none, parts_done_more, parts_done_all}
use Rattle.cycles.proofs.action.+act_on_block_each_level_middle.Goals as goal

-- ---- act_on_block

pub act_on_block-returns-then-l-eq1 : goal.act_on_block-returns-then-l-eq1
act_on_block-returns-then-l-eq1 t c = block_letter c.args.p c.requires c.if-l-eq1.true c.letter.ensures

pub act_on_block-returns-then-l-eq0 : goal.act_on_block-returns-then-l-eq0
act_on_block-returns-then-l-eq0 t c =
    let u = c.args in sym (ap (λ (n : ℕ). acted u.p u.m u.j n u.x.now) c.if-l-eq0.true ∙ acted_none u.p u.m u.j u.x.now)

-- ---- each

pub Blocks::each-loop-k-init : goal.Blocks::each-loop-k-init
Blocks::each-loop-k-init t c = passed_none _ _ _

pub Blocks::each-loop-k-preserved : goal.Blocks::each-loop-k-preserved
Blocks::each-loop-k-preserved t c = let u = c.args in
    let fits = fits_block c.loop-k.k u.n u.self.b (length c.loop-k.x) c.loop-k-test.true (omega arith) in
    passed_more c.level.new.x c.loop-k.invariant fits c.level.ensures c.level.auto.x

-- ---- level: rank 2

two_pre : {m j l : ℕ} {x w : List ℕ} → LevelPre m j l x w → m ≡ 2 → TwoPre x w
unfolding factorial
two_pre c e =
    let size = c.act.size ∙ (λ i. factorial (suc (e i))) in
    record { size = size; work = omega (arith, c.act.work c.more, c.act.size, size) }

pub level-level_of_rank_two-requires : goal.level-level_of_rank_two-requires
level-level_of_rank_two-requires t c = two_pre c.requires c.if-m-eq2.true

-- ---- level: three parts

cutting : {m j l b : ℕ} {x w : List ℕ} → LevelPre m j l x w → b ≡ size (m - 1) → Cutting m j l b ((m - j) * b + l * b + b) x w
cutting {m} p e = record { pre = p; size = e ∙ size_is (m - 1) (omega (arith, p.act.rank)); top = refl }

inside : {m j l b : ℕ} {x w : List ℕ} → LevelPre m j l x w → b ≡ size (m - 1) → (m - j) * b + l * b + b ≤ length x
inside p e = high_within (cut (cutting p e))

pub level-overflow_mul-low : goal.level-overflow_mul-low
level-overflow_mul-low t c = omega (arith, inside c.requires c.size.ensures)

pub level-overflow_mul-high : goal.level-overflow_mul-high
level-overflow_mul-high t c = omega (arith, inside c.requires c.size.ensures)

pub level-overflow_add-high : goal.level-overflow_add-high
level-overflow_add-high t c = omega (arith, inside c.requires c.size.ensures)

pub level-overflow_add-high-2 : goal.level-overflow_add-high-2
level-overflow_add-high-2 t c = omega (arith, inside c.requires c.size.ensures)

pub level-slice_bounds-each-end : goal.level-slice_bounds-each-end
level-slice_bounds-each-end t c = omega (arith, inside c.requires c.size.ensures)

pub level-each-requires : goal.level-each-requires
level-each-requires t c = (omega arith, low_pre (cutting c.requires c.size.ensures))

pub level-slice_bounds-middle-end : goal.level-slice_bounds-middle-end
level-slice_bounds-middle-end t c = middle_end (cut (cutting c.requires c.size.ensures)) c.each.new.x c.each.auto.x

pub level-middle-requires : goal.level-middle-requires
level-middle-requires t c = (omega arith, middle_pre (cutting c.requires c.size.ensures) c.each.new.x c.each.auto.x _ c.each.auto.work)

pub level-each-requires-2 : goal.level-each-requires-2
level-each-requires-2 t c = (
  omega arith,
  high_pre (cutting c.requires c.size.ensures) c.each.new.x c.each.auto.x c.middle.new.x c.middle.auto.x _ (c.middle.auto.work ∙ c.each.auto.work),
)

pub level-returns : goal.level-returns
level-returns t c =
    level_whole (cutting c.requires c.size.ensures) c.each.new.x c.each.auto.x c.middle.new.x c.middle.auto.x
    c.args.p c.each-2.new.x c.each.ensures c.middle.ensures c.each-2.ensures

-- ---- middle

pub Blocks::middle-loop-i-init : goal.Blocks::middle-loop-i-init
Blocks::middle-loop-i-init t c = let u = c.args in parts_done_none u.self.p u.self.m u.j u.l u.self.b u.x.now u.work.now

pub Blocks::middle-loop-i-preserved : goal.Blocks::middle-loop-i-preserved
Blocks::middle-loop-i-preserved t c = let u = c.args in
    let fits : (c.loop-i.i + 1) * u.self.b + u.self.b ≤ length c.loop-i.x =
    fits_block (c.loop-i.i + 1) (suc u.l) u.self.b (length c.loop-i.x) (omega arith) (omega arith) in
    parts_done_more c.loop-i.invariant fits c.act_on_block.new.x c.act_on_block.new.work c.act_on_block.ensures
    c.act_on_block.auto.x c.act_on_block.auto.work
    c.collect.new.sum c.act_on_block-in-loop-i.new.x c.act_on_block-in-loop-i.new.work (omega arith) c.collect.auto.sum c.collect.ensures
    c.act_on_block-in-loop-i.ensures c.act_on_block-in-loop-i.auto.x c.act_on_block-in-loop-i.auto.work

pub Blocks::middle-returns : goal.Blocks::middle-returns
Blocks::middle-returns t c = let u = c.args in
    let all : c.loop-i.i ≡ u.l = omega arith in
    parts_done_all (omega arith) c.requires.size
    (subst (PartsDone u.self.p u.self.m u.j u.l u.self.b u.x.now c.loop-i.x u.work.now c.loop-i.work) all c.loop-i.invariant)
    c.shift.ensures
