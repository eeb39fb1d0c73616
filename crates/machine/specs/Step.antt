-- What the commands of a sheet mean, one by one (document 01, "Run sheets", and document 02, Ticket 1).
--
--   updated h u x        the words of the registers after the update u, in a sheet that begins with the header h
--   obey h c x           the same after any command
--   not_obeyed           the answer where a command is not obeyed
--   step_report a        number, place and count of an answer: neither document has a number for a command that is not obeyed
--   step_call h c x      one command on lent registers: the answer with the count, and the registers; nothing is done where an operand is out of range,
--                        where an inverse letter stands and q has no inverse, or where the registers are not 4 × 720 words
use Rattle.std.specs.Prelude.{cond, ◌&&◌, List, [], ◌∷◌, ℕ, length, set, Result, Ok, Err}
use Rattle.ring.specs.Modular.{words}
use Rattle.lists.specs.Lists.{same}
use Rattle.refusals.specs.Refusals.{Report, reported, Outcome}
use Rattle.algebra.specs.Element.{plus, scale, unit}
use Rattle.algebra.specs.Product.{act, times}
use Rattle.signed_words.specs.InverseLetter.{inverse_letter}
use Rattle.element_calls.specs.Coefficients.{ring, parameters_of, inverse_parameters}
use Rattle.sheet_format.specs.declared.Header.{Header}
use Rattle.sheet_format.specs.declared.Update.{Update}
use Rattle.sheet_format.specs.declared.Update.TheVariants.{Unit, Set, Letter, InverseLetter, Product, Sum, Scale}
use Rattle.sheet_format.specs.declared.Command.{Command}
use Rattle.sheet_format.specs.declared.Command.TheVariants.{End, Begin, Change, Show}
use Rattle.operands.specs.Operands.{may_run}
use Rattle.costs.specs.Costs.{cost}
use Rattle.machine.specs.Registers.{element, put, zeros}
use Rattle.machine.specs.declared.NotObeyed.{NotObeyed}

unfoldable pub updated : Header → Update → List ℕ → List ℕ
updated h (Unit r) x = put r (unit ℕ words h.rank) x
updated h (Set r i v) x = put r (set (element h.rank r x) i v) x
updated h (Letter r i) x = let p = parameters_of h.q in put r (act ℕ (ring p) p.q p.r h.rank (i ∷ []) (element h.rank r x)) x
updated h (InverseLetter r i) x =
    let p = parameters_of h.q in
    let p' = inverse_parameters h.q in
    put r (inverse_letter ℕ (ring p) p.q p.r p'.q p'.r h.rank i (element h.rank r x)) x
updated h (Product d a b) x =
    let p = parameters_of h.q in
    put d (times ℕ (ring p) p.q p.r h.rank h.rank (element h.rank a x) (element h.rank b x)) x
updated h (Sum d a b) x = put d (plus ℕ words (element h.rank a x) (element h.rank b x)) x
updated h (Scale r v) x = put r (scale ℕ words v (element h.rank r x)) x

unfoldable pub obey : Header → Command → List ℕ → List ℕ
obey h End x = x
obey h (Begin b) x = let z = zeros h.rank in put 3 z (put 2 z (put 1 z (put 0 z x)))
obey h (Change u) x = updated h u x
obey h (Show w) x = x

abbrev pub not_obeyed : {A : Type 0} → Result A NotObeyed
not_obeyed = Err (record {})

abbrev pub step_report : Result ℕ NotObeyed → Report
step_report (Ok n) = reported (Ok tt) n
step_report (Err e) = reported (Ok tt) 0

unfoldable pub step_call : Header → Command → List ℕ → Outcome (Result ℕ NotObeyed) (List ℕ)
step_call h c x =
    cond (may_run h c && same (length x) 2880)
    (record { answer = Ok (cost h.rank c); lent = obey h c x })
    (record { answer = not_obeyed; lent = x })
