-- The sizes fit, so the multiple is written. Rests on word_lists' Into.
use Rattle.std.proofs.Common.{◌∙◌}
use Rattle.word_lists.proofs.Into.{scale_into_lem}
use Rattle.element_calls.specs.Coefficients.{modulus}
use Rattle.nested.proofs.blocks.multiple.Goals as goal

pub returns : goal.returns
unfolding modulus
returns c = c.scale_into.ensures ∙ scale_into_lem _ _ _ c.requires
