-- The text of what stands at the cursor, unless the buffer is short or the registers are of another size. Rests on operands' InRange.
use Rattle.std.proofs.Common.{◌≡◌, ◌≤◌, true, false, List, ℕ, length, refl, sym, ap, ◌∙◌, arith, rules}
use Rattle.lists.proofs.Test.{same_yes, same_no, less_yes, less_no}
use Rattle.sheet_format.specs.declared.Header.{Header}
use Rattle.sheet_format.specs.Format.{Decoded, decode}
use Rattle.operands.specs.Operands.{in_range}
use Rattle.operands.proofs.InRange.{low}
use Rattle.runner.specs.declared.Cursor.{Cursor}
use Rattle.runner.specs.Turn.{state}
use Rattle.output.specs.Text.{text_room}
use Rattle.output.specs.Printed.{front, text_of, in_range_text, text_call}
use Rattle.output.proofs.Front.{front_none, front_put, lent_back}
use Rattle.output.proofs.text.Goals as goal

-- d stands at the cursor
stands : (s x buffer : List ℕ) (h : Header) (k : Cursor) {d : Decoded} → text_room ≤ length buffer → length x ≡ 2880 → decode s k.at ≡ d
    → text_call s x h k buffer ≡ front (text_of h d (state k x)) buffer
unfolding text_call
stands s x buffer h k room four e =
    rw (less_no {x = length buffer} {a = text_room} (omega arith), same_yes {x = length x} {a = 2880} (omega arith))
    (ap (λ d. front (text_of h d (state k x)) buffer) e)

pub returns-then-buffer-lt-ROOM : goal.returns-then-buffer-lt-ROOM
unfolding text_call
returns-then-buffer-lt-ROOM c = rw (less_yes {x = length c.args.buffer.now} {a = text_room} (omega arith)) (front_none _)

pub returns-then-x-ne2880 : goal.returns-then-x-ne2880
unfolding text_call
returns-then-x-ne2880 c =
    rw (less_no {x = length c.args.buffer.now} {a = text_room} (omega arith), same_no {x = length c.args.x.now} {a = 2880} (omega arith))
    (front_none _)

pub returns-in_default : goal.returns-in_default
returns-in_default c = stands _ _ _ c.args.header c.args.cursor (omega arith) (omega arith) (sym c.read.ensures ∙ c.in_default.is) ∙ front_none _

pub returns-then-not-in_range : goal.returns-then-not-in_range
unfolding in_range_text
returns-then-not-in_range c =
    let out : in_range c.args.header.rank _ ≡ false = sym c.in_range.ensures ∙ c.if-not-in_range.true in
    stands _ _ _ c.args.header c.args.cursor (omega arith) (omega arith) (sym c.in-Ok.ensures) ∙ rw out (front_none _)

pub invariant_of-put_text-clause-low : goal.invariant_of-put_text-clause-low
invariant_of-put_text-clause-low c =
    low c.args.header.rank _ (sym c.in_range.ensures ∙ c.if-not-in_range.false)

pub returns : goal.returns
unfolding in_range_text
returns c =
    let r : in_range c.args.header.rank _ ≡ true = sym c.in_range.ensures ∙ c.if-not-in_range.false in
    stands _ _ _ c.args.header c.args.cursor (omega arith) (omega arith) (sym c.in-Ok.ensures)
    ∙ rw r (lent_back (front_put refl c.put_text.ensures) (search rules))
