-- The length is judged before the letters. Rests on WordVerdicts.
use Rattle.std.proofs.Common.{arith, sym, ◌∙◌}
use Rattle.std.proofs.lemmas.List.{length-map}
use Rattle.element_checks.proofs.WordVerdicts.{long_word, bad_word, good_word}
use Rattle.element_checks.proofs.checks.letters.Goals as goal

pub returns-then-word-gt4096 : goal.returns-then-word-gt4096
returns-then-word-gt4096 g c = long_word _ _ (omega (arith, length-map c.args.word.now g.L.Letter.letter_size))

pub returns-in-Some : goal.returns-in-Some
returns-in-Some g c =
    bad_word _ _ (omega (arith, length-map c.args.word.now g.L.Letter.letter_size)) (sym c.first_bad.ensures ∙ c.in-Some.is)

pub returns-in-None : goal.returns-in-None
returns-in-None g c =
    good_word _ _ (omega (arith, length-map c.args.word.now g.L.Letter.letter_size)) (sym c.first_bad.ensures ∙ c.in-None.is)
