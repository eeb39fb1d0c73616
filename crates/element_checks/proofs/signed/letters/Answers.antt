-- Rests on WordVerdicts.
use Rattle.std.proofs.Common.{◌∙◌}
use Rattle.element_checks.proofs.WordVerdicts.{signed_is}
use Rattle.element_checks.proofs.signed.letters.Goals as goal

pub returns : goal.returns
returns c = c.letters.ensures ∙ signed_is _ _
