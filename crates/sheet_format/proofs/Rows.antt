-- The row of a code beside the command as it is written. Rests on Little, Codes and lists' Test.
--
--   operands c, width c   the bytes of a command after its code, and how many they are
--   parts                 a written command is its code and its operands
--   row_written           the row of a written command
--   Read k x              the command with the code of k that is read off x: its operands stand at the front of x, if x are bytes
--   Code k x              k is the code of a command, or has no row
use Rattle.std.proofs.Common.{Some, None}
use mathlib.Core.Path.{◌≡◌, refl, sym}
use mathlib.Core.Logic.{◌≢◌}
use mathlib.Core.List.{List, ◌∷◌, ◌++◌}
use Prim.Native.Nat.{ℕ, ◌/◌, ◌%◌, ◌≤◌, ◌<◌}
use lib.ListN.{length, take, drop}
use Rattle.lists.specs.Lists.{same}
use Rattle.lists.proofs.Test.{SameView, is, isnt, same?}
use Rattle.sheet_format.specs.Format.{byte, number, row, none as none-begun}
use Rattle.sheet_format.specs.Written.{little, written, code, Writable}
use Rattle.sheet_format.specs.declared.Update.TheVariants.{Unit, Set, Letter, InverseLetter, Product, Sum, Scale}
use Rattle.sheet_format.specs.declared.Query.TheVariants.{Register, Pairing, Equality, Trace}
use Rattle.sheet_format.specs.declared.Command.{Command}
use Rattle.sheet_format.specs.declared.Command.TheVariants.{End, Begin, Change, Show}
use Rattle.sheet_format.proofs.Codes.{other}
use Rattle.sheet_format.proofs.Little.{after_one, after_three, one_byte, two_bytes, three_bytes, byte_and_word, byte_pair_and_word}

abbrev pub operands : Command → List ℕ
operands c = drop 1 (written c)

abbrev pub width : Command → ℕ
width c = length (operands c)

pub parts : (c : Command) → written c ≡ code c ∷ operands c
unfolding byte written
parts End = refl
parts (Begin h) = refl
parts (Change (Unit r)) = refl
parts (Change (Set r i v)) = refl
parts (Change (Letter r i)) = refl
parts (Change (Product d a b)) = refl
parts (Change (Sum d a b)) = refl
parts (Change (Scale r v)) = refl
parts (Change (InverseLetter r i)) = refl
parts (Show (Register r)) = refl
parts (Show (Pairing a b)) = refl
parts (Show (Equality a b)) = refl
parts (Show (Trace r z)) = refl

-- ---- what is written is read

pub row_written : (c : Command) (rest : List ℕ) → Writable c → row (code c) (operands c ++ rest) ≡ Some (c, width c)
unfolding row same byte written little
row_written End rest w = refl
row_written (Begin h) rest w = λ j. Some (Begin (record { rank = h.rank; q = after_one h.rank 8 h.q rest w.1 j }), 9)
row_written (Change (Unit r)) rest w = refl
row_written (Change (Set r i v)) rest w = λ j.
    Some (Change (Set r (after_one r 2 i (little 8 v ++ rest) w.1 j) (after_three r (i % 256) (i / 256 % 256) 8 v rest w.2 j)), 11)
row_written (Change (Letter r i)) rest w = refl
row_written (Change (Product d a b)) rest w = refl
row_written (Change (Sum d a b)) rest w = refl
row_written (Change (Scale r v)) rest w = λ j. Some (Change (Scale r (after_one r 8 v rest w.1 j)), 9)
row_written (Change (InverseLetter r i)) rest w = refl
row_written (Show (Register r)) rest w = refl
row_written (Show (Pairing a b)) rest w = refl
row_written (Show (Equality a b)) rest w = refl
row_written (Show (Trace r z)) rest w = λ j. Some (Show (Trace r (after_one r 8 z rest w.1 j)), 9)

-- ---- what is read is written

pub data Read (k : Command) (x : List ℕ) : Type 0 where
  off : (c : Command) → code c ≡ code k → row (code k) x ≡ Some (c, width k)
      → (((i : ℕ) → byte x i < 256) → width k ≤ length x → (operands c ≡ take (width k) x) × Writable c) → Read k x

pub read_off : (k : Command) (x : List ℕ) → Read k x
unfolding row same byte written little
read_off End x = off End refl refl (λ b h. (refl, tt))
read_off (Begin h) x = off (Begin (record { rank = byte x 0; q = number x 1 8 })) refl refl (byte_and_word x)
read_off (Change (Unit r)) x = off (Change (Unit (byte x 0))) refl refl (one_byte x)
read_off (Change (Set r i v)) x = off (Change (Set (byte x 0) (number x 1 2) (number x 3 8))) refl refl (byte_pair_and_word x)
read_off (Change (Letter r i)) x = off (Change (Letter (byte x 0) (byte x 1))) refl refl (two_bytes x)
read_off (Change (Product d a b)) x = off (Change (Product (byte x 0) (byte x 1) (byte x 2))) refl refl (three_bytes x)
read_off (Change (Sum d a b)) x = off (Change (Sum (byte x 0) (byte x 1) (byte x 2))) refl refl (three_bytes x)
read_off (Change (Scale r v)) x = off (Change (Scale (byte x 0) (number x 1 8))) refl refl (byte_and_word x)
read_off (Change (InverseLetter r i)) x = off (Change (InverseLetter (byte x 0) (byte x 1))) refl refl (two_bytes x)
read_off (Show (Register r)) x = off (Show (Register (byte x 0))) refl refl (one_byte x)
read_off (Show (Pairing a b)) x = off (Show (Pairing (byte x 0) (byte x 1))) refl refl (two_bytes x)
read_off (Show (Equality a b)) x = off (Show (Equality (byte x 0) (byte x 1))) refl refl (two_bytes x)
read_off (Show (Trace r z)) x = off (Show (Trace (byte x 0) (number x 1 8))) refl refl (byte_and_word x)

-- ---- a number is the code of a command, or has no row

pub data Code (k : ℕ) (x : List ℕ) : Type 0 where
  some : (c : Command) → code c ≡ k → Code k x
  none : row k x ≡ None → Code k x

or_else : {k : ℕ} {x : List ℕ} (c : Command) → (k ≢ code c → Code k x) → Code k x
or_else {k} {x} c go = case (same? k (code c))
  where
    case : SameView k (code c) → Code k x
    case (is p e) = some c (sym p)
    case (isnt n e) = go n

pub code? : (k : ℕ) (x : List ℕ) → Code k x
unfolding row byte written little
code? k x =
    or_else End (λ n0. or_else (Begin none-begun) (λ n1. or_else (Change (Unit 0)) (λ n2. or_else (Change (Set 0 0 0)) (λ n3.
    or_else (Change (Letter 0 0)) (λ n4. or_else (Change (Product 0 0 0)) (λ n5. or_else (Change (Sum 0 0 0)) (λ n6. or_else (Change (Scale 0 0)) (λ n7.
    or_else (Change (InverseLetter 0 0)) (λ n8.
    or_else (Show (Register 0)) (λ n9. or_else (Show (Pairing 0 0)) (λ n10. or_else (Show (Equality 0 0)) (λ n11.
    or_else (Show (Trace 0 0)) (λ n12.
    none (sym (other _ _ _ _ _ _ _ _ _ _ _ _ _ _ k (((((((((((((tt, n0), n1), n2), n3), n4), n5), n6), n7), n8), n9), n10), n11), n12))))))))))))))))
