-- The loop vets and counts the images one by one: after i images it holds what the walk holds.
use Rattle.std.proofs.Common.{◌≡◌, ℕ, ◌+◌, ◌%◌, get_or, refl, arith}
use Rattle.image_walk.proofs.Walking.{walking_none, walking_all}
use Rattle.image_walk.proofs.Turn.{Turn, turn_outside, turn_seen, turn_good}
use Rattle.image_walk.proofs.walk.Goals as goal
use Rattle.image_walk.proofs.walk.Goals.{In-loop-i}

turn : (c : In-loop-i) {b : ℕ} → b ≡ (get_or c.args.images.now c.loop-i.i 0 + 255) % 256 → Turn c.args.images.now c.loop-i.entries c.loop-i.seen c.loop-i.i b
turn c e = record { walking = c.loop-i.invariant; few = c.requires; inside = c.loop-i-test.true; byte = omega (arith, c.type_inv.images c.loop-i.i); bit_at = e }

pub loop-i-init : goal.loop-i-init
loop-i-init c = walking_none _ _ c.told-entries

pub returns-then-images-from : goal.returns-then-images-from
returns-then-images-from c = turn_outside (turn (goal.at.returns-then-images-from c).In-loop-i c.from.ensures) c.if-images-from.true

pub returns-then-from-eq1 : goal.returns-then-from-eq1
returns-then-from-eq1 c = turn_seen (turn (goal.at.returns-then-from-eq1 c).In-loop-i refl) (omega arith) c.if-from-eq1.true

pub loop-i-preserved : goal.loop-i-preserved
loop-i-preserved c = turn_good (turn (goal.at.loop-i-preserved c).In-loop-i refl) (omega arith) c.if-from-eq1.false

pub returns : goal.returns
returns c = walking_all c.loop-i.invariant (omega arith)
