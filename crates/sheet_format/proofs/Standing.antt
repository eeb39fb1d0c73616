-- What stands at an offset, by cases, beside what is written there. Rests on Rows and Offsets.
--
--   row_at s at     the row at an offset
--   Stands k s at   the command with the code of k that is read at an offset where this code stands
--   Kind s at       what stands at an offset: nothing, a code that no command has, a part of a command, a whole one
--   kind? s at      which of these it is
use Rattle.std.proofs.Common.{Option, Some, None, Ok, Err}
use mathlib.Core.Path.{◌≡◌, refl, sym, ap, ap₂, ◌∙◌}
use mathlib.Core.Logic.{◌≢◌}
use mathlib.Core.List.{List, ◌∷◌}
use Prim.Native.Nat.{ℕ, suc, ◌+◌, ◌≤◌, ◌<◌}
use native.Mathlib.Numerals.{add-one}
use native.Mathlib.Omega.{arith}
use lib.ListN.{length, take, drop, length-drop}
use lib.Seq.{drop-cons, get_or-drop}
use Rattle.lists.proofs.Test.{LessView, lt, ge, less?, less_yes, less_no}
use Rattle.sheet_format.specs.Format.{byte, row, placed_row, decode}
use Rattle.sheet_format.specs.Written.{written, code, Bytes, Writable, CutOff}
use Rattle.sheet_format.specs.declared.Command.{Command}
use Rattle.sheet_format.specs.declared.Missing.TheVariants.{NoCommand, Short, Nothing}
use Rattle.sheet_format.proofs.Little.{byte_fits}
use Rattle.sheet_format.proofs.Offsets.{past_end}
use Rattle.sheet_format.proofs.Rows.{width, parts, Read, off, read_off, Code, some, none, code?}

pub size : (c : Command) → length (written c) ≡ suc (width c)
size c = ap length (parts c)

abbrev pub row_at : List ℕ → ℕ → Option (Command × ℕ)
row_at s at = row (byte s at) (drop (at + 1) s)

pub row_stands : {r : Option (Command × ℕ)} (s : List ℕ) (at : ℕ) → at < length s → row_at s at ≡ r → decode s at ≡ placed_row (length s) (at + 1) r
unfolding decode
row_stands s at h e = rw (less_yes h) (ap (placed_row (length s) (at + 1)) e)

pub fits : (n at : ℕ) (c : Command) (wide : ℕ) → at + wide ≤ n → placed_row n at (Some (c, wide)) ≡ Ok (c, at + wide)
fits n at c wide h = rw (less_no h) refl

lacks : (n at : ℕ) (c : Command) (wide : ℕ) → n < at + wide → placed_row n at (Some (c, wide)) ≡ Err Short
lacks n at c wide h = rw (less_yes h) refl

record Stands (k : Command) (s : List ℕ) (at : ℕ) : Type 0 where
  command : Command
  is_row : row_at s at ≡ Some (command, width k)
  bytes : Bytes s → at + 1 + width k ≤ length s → (take (suc (width k)) (drop at s) ≡ written command) × Writable command

stands_at : (k : Command) (s : List ℕ) (at : ℕ) → at < length s → code k ≡ byte s at → Stands k s at
unfolding byte
stands_at k s at h p = go (read_off k (drop (at + 1) s))
  where
    go : Read k (drop (at + 1) s) → Stands k s at
    go (off c e r w) = record {
      command = c;
      is_row = rw p at r;
      bytes = λ b l.
          let t = w (λ i. rw (get_or-drop (at + 1) s i 0) (byte_fits s b (at + 1 + i))) (omega (arith, length-drop (at + 1) s)) in (
            ap (take (suc (width k))) (drop-cons s at 0 h)
                ∙ ap₂ {C = List ℕ} (λ b y. b ∷ y) (sym (e ∙ p)) (ap (λ n. take (width k) (drop n s)) (sym (add-one at)) ∙ sym t.0) ∙ sym (parts c),
            t.1,
          );
    }

pub cut_short : (s : List ℕ) (at : ℕ) → CutOff s at → decode s at ≡ Err Short
cut_short s at o =
    let t = stands_at o.command s at o.within o.begins in
    row_stands s at o.within t.is_row ∙ lacks (length s) (at + 1) t.command (width o.command) (omega (arith, o.ends, size o.command))

pub data Kind (s : List ℕ) (at : ℕ) : Type 0 where
  past : length s ≤ at → decode s at ≡ Err Nothing → Kind s at
  other : at < length s → ((c : Command) → code c ≢ byte s at) → decode s at ≡ Err NoCommand → Kind s at
  part : CutOff s at → decode s at ≡ Err Short → Kind s at
  whole : (k c : Command) → code k ≡ byte s at → decode s at ≡ Ok (c, at + 1 + width k)
      → (Bytes s → (take (suc (width k)) (drop at s) ≡ written c) × Writable c) → Kind s at

pub kind? : (s : List ℕ) (at : ℕ) → Kind s at
kind? s at = go (less? at (length s))
  where
    known : at < length s → (k : Command) → code k ≡ byte s at → LessView (length s) (at + 1 + width k) → Kind s at
    known h k p (lt l e) = let o : CutOff s at = record { command = k; begins = p; within = h; ends = omega (arith, size k) } in part o (cut_short s at o)
    known h k p (ge l e) = let t = stands_at k s at h p in
        whole k t.command p (row_stands s at h t.is_row ∙ fits (length s) (at + 1) t.command (width k) l) (λ b. t.bytes b l)

    unless : at < length s → row_at s at ≡ None → (c : Command) → code c ≢ byte s at
    unless h e c p = let t = stands_at c s at h p in let z : ◌≡◌ {A = ℕ} 0 1 = cc (sym e ∙ t.is_row) in omega arith

    coded : at < length s → Code (byte s at) (drop (at + 1) s) → Kind s at
    coded h (some k p) = known h k p (less? (length s) (at + 1 + width k))
    coded h (none e) = other h (unless h e) (row_stands s at h e)

    go : LessView at (length s) → Kind s at
    go (lt h e) = coded h (code? (byte s at) (drop (at + 1) s))
    go (ge h e) = past h (past_end s at h)
