-- A turn of the check's loop: what stands at the reader's offset is judged, and the check goes on as the judgement says. Rests on CheckFrom.
use Rattle.std.proofs.Common.{◌≡◌, List, ℕ, length, Some, Ok, Err, sym, ap, ◌∙◌, arith}
use Rattle.std.proofs.lemmas.Result.{err_from_is_err_and}
use Rattle.refusals.specs.declared.Refusal.{Refusal}
use Rattle.sheet_format.specs.Format.{decode, header}
use Rattle.sheet.specs.Check.{placed, first_refusal}
use Rattle.sheet.specs.Steps.{Judged, judged}
use Rattle.sheet.proofs.CheckFrom.{check_from, follow, from_start, check_step, on_within, turn}
use Rattle.sheet.proofs.checks.commands.Goals as goal

-- where a judgement leads is the check of the whole sheet
followed : (s : List ℕ) (at : ℕ) {j : Judged} → judged (length s) (header s) at (decode s at) ≡ j
    → check_from s at ≡ first_refusal s (placed s) → follow s j ≡ first_refusal s (placed s)
followed s at e whole = sym (check_step s at ∙ ap (follow s) e) ∙ whole

on : (c : goal.After-moved-reader)
    → judged (length c.args.sheet.now) (header c.args.sheet.now) c.loop-after.reader.at (decode c.args.sheet.now c.loop-after.reader.at) ≡ Ok (Some c.in-Some.after)
on c =
    turn c.args.sheet.now c.loop-after.reader.at c.requires c.loop-after.invariant.0 c.in_ok-after.ensures ∙ ap Ok c.in-Some.is

pub loop-after-init : goal.loop-after-init
loop-after-init c =
    let r = c.new-reader.ensures in
    (ap (λ b. b.now) r.0, ap (check_from c.args.sheet.now) r.1 ∙ from_start c.args.sheet.now)

pub loop-after-smaller : goal.loop-after-smaller
loop-after-smaller c =
    let within = on_within c.args.sheet.now (header c.args.sheet.now) c.loop-after.reader.at c.in-Some.after (on c) in
    omega (arith, within, c.moved-reader.ensures.1)

pub loop-after-preserved : goal.loop-after-preserved
loop-after-preserved c =
    let s = c.args.sheet.now in
    let m = c.moved-reader.ensures in
    let i = c.loop-after.invariant in
    (ap (λ b. b.now) m.0 ∙ i.0, ap (check_from s) m.1 ∙ followed s c.loop-after.reader.at {j = Ok (Some c.in-Some.after)} (on c) i.1)

pub returns-in_err-after : goal.returns-in_err-after
returns-in_err-after c =
    let s = c.args.sheet.now in
    let i = c.loop-after.invariant in
    let r = err_from_is_err_and {T = Unit {0}} {E = Refusal} {Q = λ y. y ≡ c.in_err-after.field-0.0} _ c.from_residual.ensures.1 in
    r.1 ∙ ap Err r.2 ∙ followed s c.loop-after.reader.at (turn s c.loop-after.reader.at c.requires i.0 c.in_err-after.ensures) i.1

pub returns : goal.returns
returns c =
    let s = c.args.sheet.now in
    let i = c.loop-after.invariant in
    followed s c.loop-after.reader.at (turn s c.loop-after.reader.at c.requires i.0 c.in_ok-after.ensures ∙ ap Ok c.in_default.is) i.1
