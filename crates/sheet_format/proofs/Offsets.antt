-- Where a command lies: it has a byte or more, and ends within the sheet; from the sheet's end on, and only there, nothing stands. Rests on lists' Test.
use Rattle.std.proofs.Common.{Option, Some, None, Ok, Err}
use mathlib.Core.Path.{◌≡◌, refl, ap}
use mathlib.Core.List.{List}
use Prim.Native.Nat.{ℕ, ◌+◌, ◌≤◌, ◌<◌}
use native.Mathlib.Omega.{arith}
use lib.ListN.{length, drop}
use Rattle.lists.proofs.Test.{LessView, lt, ge, less?, less_no}
use Rattle.sheet_format.specs.Format.{Decoded, byte, row, placed_row, decode}
use Rattle.sheet_format.specs.declared.Command.{Command}
use Rattle.sheet_format.specs.declared.Missing.TheVariants.{Nothing}

pub found_parts : {c k : Command} {m n : ℕ} → ◌≡◌ {A = Decoded} (Ok (c, m)) (Ok (k, n)) → (c ≡ k) × (m ≡ n)
found_parts {c} {k} {m} {n} e = let p : ◌≡◌ {A = Command × ℕ} (c, m) (k, n) = cc in (ap (λ x. x.0) p, ap (λ x. x.1) p)

-- a row whose operands begin at an offset stands there, and is not nothing
row_within : {c : Command} {after : ℕ} (n at : ℕ) (r : Option (Command × ℕ)) → placed_row n at r ≡ Ok (c, after) → (at ≤ after) × (after ≤ n)
row_within {c} {after} n at (Some (k, wide)) e = go (less? n (at + wide))
  where
    go : LessView n (at + wide) → (at ≤ after) × (after ≤ n)
    go (lt l f) = let z : ◌≡◌ {A = ℕ} 0 1 = cc (rw f at e) in absurd (omega arith)
    go (ge l f) = let same = (found_parts (rw f at e)).1 in (omega arith, omega arith)
row_within n at None e = let z : ◌≡◌ {A = ℕ} 0 1 = cc in absurd (omega arith)

row_something : (n at : ℕ) (r : Option (Command × ℕ)) → placed_row n at r ≡ Err Nothing → ⊥
row_something n at (Some (k, wide)) e = go (less? n (at + wide))
  where
    go : LessView n (at + wide) → ⊥
    go (lt l f) = let z : ◌≡◌ {A = ℕ} 0 1 = cc (rw f at e) in omega arith
    go (ge l f) = let z : ◌≡◌ {A = ℕ} 0 1 = cc (rw f at e) in omega arith
row_something n at None e = let z : ◌≡◌ {A = ℕ} 0 1 = cc in omega arith

pub found_within : {c : Command} {after : ℕ} (s : List ℕ) (at : ℕ) → decode s at ≡ Ok (c, after) → (at < after) × (after ≤ length s)
unfolding decode
found_within {c} {after} s at d = go (less? at (length s))
  where
    go : LessView at (length s) → (at < after) × (after ≤ length s)
    go (lt h e) = let w = row_within (length s) (at + 1) (row (byte s at) (drop (at + 1) s)) (rw e at d) in (omega arith, w.1)
    go (ge h e) = let z : ◌≡◌ {A = ℕ} 0 1 = cc (rw e at d) in absurd (omega arith)

pub past_end : (s : List ℕ) (at : ℕ) → length s ≤ at → decode s at ≡ Err Nothing
unfolding decode
past_end s at h = rw (less_no h) refl

pub nothing_past : (s : List ℕ) (at : ℕ) → decode s at ≡ Err Nothing → length s ≤ at
unfolding decode
nothing_past s at d = go (less? at (length s))
  where
    go : LessView at (length s) → length s ≤ at
    go (lt h e) = absurd (row_something (length s) (at + 1) (row (byte s at) (drop (at + 1) s)) (rw e at d))
    go (ge h e) = h
