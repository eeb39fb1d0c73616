-- The loop stores the entries of the tower one by one, with a mask of the images before.
use Rattle.std.proofs.Common.{◌+◌, ◌-◌, ◌*◌, ◌%◌, ◌^◌, get_or, sym, ap, ◌∙◌, add-one, arith}
use Rattle.lists.proofs.Fill.{filled_none, filled_more, filled_all}
use Rattle.perms.specs.Tower.{entry, tower_of}
use Rattle.perms.proofs.Tower.{get_or_tower, length_tower}
use Rattle.perm_calls.proofs.Seen.{Seen, New, seen_none, seen_more, seen_fits, perm_new}
use Rattle.perm_calls.proofs.SeenDigits.{seen_entry}
use Rattle.towers.proofs.image_lists.fill_tower.Goals as goal
use Rattle.towers.proofs.image_lists.fill_tower.Goals.{In-loop-i}

-- the two images of a turn
here : (c : In-loop-i) → New c.args.images.now c.loop-i.i
here c = perm_new _ c.requires.1 (omega arith) _ (omega arith)

there : (c : In-loop-i) → New c.args.images.now (c.loop-i.i + 1)
there c = perm_new _ c.requires.1 (omega arith) _ (omega arith)

next : (c : In-loop-i) → let w = c.args.images.now in let at = c.loop-i in Seen w (at.seen + (1 * 2 ^ (get_or w at.i 0 - 1)) % 2 ^ 64) (at.i + 1)
next c = seen_more (omega arith) (here c) c.loop-i.invariant.1

pub loop-i-init : goal.loop-i-init
loop-i-init c = (filled_none _ _, seen_none _)

pub overflow_sub-seen : goal.overflow_sub-seen
overflow_sub-seen c = (here (goal.at.overflow_sub-seen c).In-loop-i).low

pub overflow_shl-seen : goal.overflow_shl-seen
overflow_shl-seen c = omega (arith, here (goal.at.overflow_shl-seen c).In-loop-i)

pub overflow_add-seen : goal.overflow_add-seen
overflow_add-seen c = record { fits = seen_fits (next (goal.at.overflow_add-seen c).In-loop-i) }

pub overflow_sub-tower : goal.overflow_sub-tower
overflow_sub-tower c = (there (goal.at.overflow_sub-tower c).In-loop-i).low

pub overflow_shr-tower : goal.overflow_shr-tower
overflow_shr-tower c = omega (arith, there (goal.at.overflow_shr-tower c).In-loop-i)

pub loop-i-preserved : goal.loop-i-preserved
loop-i-preserved c =
    let turn = (goal.at.loop-i-preserved c).In-loop-i in
    let w = c.args.images.now in
    let e = seen_entry (there turn) (next turn) ∙ ap (λ j. entry j w) (add-one c.loop-i.i) in
    (filled_more _ c.loop-i.invariant.0 (omega arith) e, next turn)

pub returns : goal.returns
returns c =
    let w = c.args.images.now in
    filled_all (tower_of w) c.loop-i.invariant.0 (omega arith) (omega (arith, length_tower w)) (λ k l. sym (get_or_tower w k (omega arith)))
