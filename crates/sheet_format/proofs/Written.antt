-- What stands at an offset of a sheet is what is written there: the record `Agrees`. Rests on Standing.
use Rattle.std.proofs.Common.{Ok, Err}
use mathlib.Core.Path.{◌≡◌, sym, ap, ap₂, ◌∙◌}
use mathlib.Core.Logic.{◌≢◌, ◌↔◌}
use mathlib.Core.List.{List, ◌∷◌, ◌++◌}
use Prim.Native.Nat.{ℕ, suc, ◌+◌, ◌-◌, ◌≤◌, ◌<◌}
use native.Mathlib.Omega.{arith}
use lib.ListN.{length, take, drop, length-append}
use lib.Seq.{drop-append-add, get_or-append_seam}
use Rattle.sheet_format.specs.Format.{byte, row, decode}
use Rattle.sheet_format.specs.Written.{written, code, Bytes, Writable, CutOff, Agrees}
use Rattle.sheet_format.specs.declared.Command.{Command}
use Rattle.sheet_format.specs.declared.Missing.TheVariants.{NoCommand, Short}
use Rattle.sheet_format.proofs.Offsets.{found_parts, past_end, nothing_past}
use Rattle.sheet_format.proofs.Rows.{operands, width, parts, row_written}
use Rattle.sheet_format.proofs.Standing.{size, row_at, row_stands, fits, cut_short, Kind, past, other, part, whole, kind?}

row_after : (front x : List ℕ) (k : ℕ) → row_at (front ++ (k ∷ x)) (length front) ≡ row k x
unfolding byte
row_after front x k = ap₂ row (get_or-append_seam front k x 0) (drop-append-add front (k ∷ x) 1)

reads : (front rest : List ℕ) (c : Command) → Writable c
    → decode (front ++ (written c ++ rest)) (length front) ≡ Ok (c, length front + length (written c))
reads front rest c w =
    let at = length front in
    let x = operands c ++ rest in
    let s = front ++ (code c ∷ x) in
    let long : at + 1 + width c ≤ length s = omega (arith, length-append front (code c ∷ x), length-append (operands c) rest) in
    ap (λ t. decode (front ++ (t ++ rest)) at) (parts c) ∙ row_stands s at (omega arith) (row_after front x (code c) ∙ row_written c rest w)
    ∙ fits (length s) (at + 1) c (width c) long ∙ ap (λ n. Ok (c, n)) (omega (arith, size c))

differ : {A : Type 0} → ◌≡◌ {A = ℕ} 0 1 → A
differ e = absurd (omega arith)

stands : {c : Command} {after : ℕ} (s : List ℕ) (at : ℕ) → Bytes s → decode s at ≡ Ok (c, after) → (take (after - at) (drop at s) ≡ written c) × Writable c
stands {c} {after} s at b d = go (kind? s at)
  where
    go : Kind s at → (take (after - at) (drop at s) ≡ written c) × Writable c
    go (past h e) = differ cc
    go (other h n e) = differ cc
    go (part o e) = differ cc
    go (whole k k' p e w) =
        let same = found_parts (sym e ∙ d) in
        let n : after - at ≡ suc (width k) = omega (arith, same.1) in
        rw (n, ← same.0) (w b)

unknown : (s : List ℕ) (at : ℕ) → (decode s at ≡ Err NoCommand) ↔ ((at < length s) × ((c : Command) → code c ≢ byte s at))
unknown s at = (λ d. to d (kind? s at), λ t. from t.0 t.1 (kind? s at))
  where
    to : decode s at ≡ Err NoCommand → Kind s at → (at < length s) × ((c : Command) → code c ≢ byte s at)
    to d (past h e) = differ cc
    to d (other h n e) = (h, n)
    to d (part o e) = differ cc
    to d (whole k c p e w) = differ cc

    from : at < length s → ((c : Command) → code c ≢ byte s at) → Kind s at → decode s at ≡ Err NoCommand
    from h n (past l e) = absurd (omega arith)
    from h n (other l m e) = e
    from h n (part o e) = absurd (n o.command o.begins)
    from h n (whole k c p e w) = absurd (n k p)

short : (s : List ℕ) (at : ℕ) → (decode s at ≡ Err Short) ↔ CutOff s at
short s at = (λ d. to d (kind? s at), cut_short s at)
  where
    to : decode s at ≡ Err Short → Kind s at → CutOff s at
    to d (past h e) = differ cc
    to d (other h n e) = differ cc
    to d (part o e) = o
    to d (whole k c p e w) = differ cc

pub agrees : Agrees
agrees = record { reads = reads; stands = stands; unknown = unknown; short = short; nothing = λ s at. (nothing_past s at, past_end s at) }
