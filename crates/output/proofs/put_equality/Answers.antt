-- Whether the two elements are equal.
use Rattle.std.proofs.Common.{ap, ◌∙◌}
use Rattle.lists.specs.Lists.{bit}
use Rattle.lists.proofs.Test.{byte_bit}
use Rattle.output.specs.Printed.{shown}
use Rattle.output.proofs.EqualWords.{equal_words}
use Rattle.output.proofs.put_equality.Goals as goal

pub returns : goal.returns
unfolding shown
returns c =
    let same = c.eq-same.ensures ∙ equal_words c.element-left.result.now c.element-right.result.now in
    rw (c.from.ensures ∙ byte_bit _ ∙ ap bit same, c.element-left.ensures.is, c.element-right.ensures.is) at c.put_line.ensures
