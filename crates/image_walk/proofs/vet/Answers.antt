-- The size is judged, then the images by what the walk finds.
use Rattle.std.proofs.Common.{arith}
use Rattle.std.proofs.lemmas.Bool.Decides.{nat_tests}
use Rattle.image_walk.proofs.Vetted.{wrong_size, judged_bad, judged_good}
use Rattle.image_walk.proofs.vet.Goals as goal
use Rattle.image_walk.proofs.vet.Goals.{then-is_empty-via-then-is_empty, then-is_empty-via-else-is_empty+then-images-gt64}

pub returns-then-is_empty : goal.returns-then-is_empty
returns-then-is_empty c = elim c.then-is_empty.branch [
  | then-is_empty-via-then-is_empty w ↦ wrong_size _ _ (λ d. grind (arith, nat_tests))
  | then-is_empty-via-else-is_empty+then-images-gt64 w ↦ wrong_size _ _ (λ d. w.if-images-gt64.true)
]

pub returns-in-Some : goal.returns-in-Some
returns-in-Some c = judged_bad (λ e. grind (arith, nat_tests)) c.if-images-gt64.false c.walk.ensures c.in-Some.is

pub returns-in-None : goal.returns-in-None
returns-in-None c = judged_good (λ e. grind (arith, nat_tests)) c.if-images-gt64.false c.walk.ensures c.in-None.is
