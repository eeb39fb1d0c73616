-- The first b words of sum come back as the last block; each pair of blocks is lowered; the copy puts the last block at the end of x. Rests on Moved
-- and word_lists' Into.
use Rattle.std.proofs.Common.{◌≡◌, ◌++◌, ◌+◌, ◌*◌, ◌-◌, ◌≤◌, length, take, drop, sym, ◌∙◌, arith}
use native.Mathlib.Nat.{suc-mul}
use lib.Seq.{length-take-le}
use borrow.Rule.Slice.PartMut.{put_mid, same_len_mid}
use Rattle.lists.proofs.Parts.{rest_size, rest_put}
use Rattle.lists.proofs.Passed.{passed_none}
use Rattle.word_lists.proofs.Into.{load_whole}
use Rattle.cycles.proofs.Moved.{pair_fits, moved_more, moved_all, last_block}
use Rattle.cycles.proofs.blocks.shift.Goals as goal

pub loop-i-init : goal.loop-i-init
loop-i-init c = passed_none _ _ _

pub loop-i-preserved : goal.loop-i-preserved
loop-i-preserved c = let b = c.args.b in
    let inside : c.loop-i.i * b + b + b ≤ length c.loop-i.x = omega (arith, pair_fits b c.loop-i-test.true c.requires.0) in
    moved_more c.args.p c.loop-i.invariant inside c.move_down.ensures

pub returns : goal.returns
returns c = let u = c.args in
    let x = c.loop-i.x in
    let top = u.l * u.b in
    let sum = put_mid 0 (u.b - 0) u.sum.now c.fold_into.new.d in
    let done : c.loop-i.i ≡ u.l = omega arith in
    let low : u.b ≤ length u.x.now = omega (arith, suc-mul u.l u.b) in
    let over : top + u.b ≡ length x = omega (arith, suc-mul u.l u.b) in
    let sum_size : length sum ≡ length u.sum.now = same_len_mid 0 (u.b - 0) u.sum.now c.fold_into.new.d c.fold_into.auto.d in
    let sizes : length (take (length x - top) (drop top x)) ≡ length (take (u.b - 0) sum) =
    rest_size top x ∙ omega arith ∙ sym (length-take-le (u.b - 0) sum (omega arith)) in
    let last = last_block u.p u.b u.x.now u.sum.now low c.requires.1 c.fold_into.auto.d c.fold_into.ensures (c.load.ensures ∙ load_whole _ _ sizes) in
    rest_put top x _ ∙ (λ i. moved_all u.p c.loop-i.invariant done c.requires.0 i ++ last i)
