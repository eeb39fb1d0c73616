-- What the next command of a run prints, and what the rest prints. Rests on runner's Turning and lists' Test.
use mathlib.Core.Path.{◌≡◌, refl, sym, ap, ◌∙◌}
use mathlib.Core.Bool.{true}
use mathlib.Core.List.{List, [], ◌++◌}
use Prim.Native.Nat.{ℕ, ◌≤◌}
use lib.ListN.{length, take}
use lib.Seq.{take-append_seam}
use Rattle.std.proofs.Common.{Ok}
use Rattle.lists.specs.Overwrite.{overwrite}
use Rattle.lists.proofs.Test.{same_yes, less_no}
use Rattle.refusals.specs.Refusals.{Outcome}
use Rattle.sheet_format.specs.Format.{decode}
use Rattle.sheet_format.specs.declared.Header.{Header}
use Rattle.sheet_format.specs.declared.Command.{Command}
use Rattle.operands.specs.Operands.{in_range}
use Rattle.runner.specs.Turn.{state, ahead}
use Rattle.runner.specs.declared.Cursor.{Cursor}
use Rattle.runner.proofs.Turning.{Goes, Ends}
use Rattle.output.specs.Text.{text_room}
use Rattle.output.specs.Printed.{text, texts, front, in_range_text, text_call}

pub front_taken : (text t : List ℕ) {o : Outcome ℕ (List ℕ)} → front text t ≡ o → take o.answer o.lent ≡ text
unfolding front overwrite
front_taken text t e = ap (λ o. take o.answer o.lent) (sym e) ∙ take-append_seam text _

module _ (s : List ℕ) (h : Header) (k : Cursor) (x : List ℕ) where
  -- a command in range stands at the cursor, and the buffer t has room for its text
  pub text_taken : {c : Command} {next : ℕ} (t : List ℕ) {o : Outcome ℕ (List ℕ)} → decode s k.at ≡ Ok (c, next) → in_range h.rank c ≡ true
      → length x ≡ 2880 → text_room ≤ length t → text_call s x h k t ≡ o → take o.answer o.lent ≡ text h c (state k x)
  unfolding text_call in_range_text
  text_taken t stands range four room e =
      front_taken _ t (rw (less_no {x = length t} {a = text_room} room, same_yes four) at e) ∙ rw (stands, range) refl

  pub goes_text : {to : Cursor} {y : List ℕ} (g : Goes s h k x to y)
      → text h g.command (state k x) ++ texts h (ahead s to.at) (state to y) ≡ texts h (ahead s k.at) (state k x)
  unfolding texts
  goes_text {to} {y} g =
      ap (λ z. text h g.command (state k x) ++ texts h (ahead s to.at) z) (sym g.made)
      ∙ sym (ap (λ cs. texts h cs (state k x)) g.ahead_is)

  pub ends_text : {y : List ℕ} (e : Ends s h k x y) → text h e.command (state k x) ++ [] ≡ texts h (ahead s k.at) (state k x)
  unfolding texts
  ends_text e = sym (ap (λ cs. texts h cs (state k x)) e.ahead_is)
