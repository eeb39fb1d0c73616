-- What a reader loses, read after read, and what a run then writes. Rests on Filling and std's lemmas on known bytes.
--
--   Lost a b t i    what a reader has left, where that is known, has lost the first i bytes of t: a before, b after
use mathlib.Core.Path.{◌≡◌, refl, sym, ap, subst, ◌∙◌}
use mathlib.Core.Bool.{Bool, false}
use mathlib.Core.List.{List}
use Prim.Native.Nat.{ℕ, ◌+◌, ◌-◌, ◌≤◌}
use native.Mathlib.Omega.{arith}
use lib.ListN.{length, take}
use borrow.Rule.Slice.PartMut.{mid_of, put_mid, mid_len, same_len_mid}
use Rattle.std.proofs.Common.{Result, Ok, Err}
use Rattle.std.specs.Prelude.{IfSome}
use Rattle.std.specs.Result.{IsErr, IsErrAnd}
use Rattle.std.specs.Io.KnownBytes.{Consumes}
use Rattle.std.specs.declared.option.Option.{Option}
use Rattle.std.specs.declared.option.Option.TheVariants.{Some, None}
use Rattle.std.proofs.KnownBytes.{Consumes-trans}
use Rattle.output.specs.Printed.{printed}
use Rattle.program.specs.declared.Failure.{Failure}
use Rattle.program.specs.declared.Failure.TheVariants.{Unwritten, Unread}
use Rattle.program.specs.Pieces.{WritesFront, Runs}
use Rattle.program.proofs.Filling.{take_put_on}

pub record Lost (a b : Option (List ℕ)) (t : List ℕ) (i : ℕ) : Type 0 where
  pub bytes : Consumes a b (take i t)

-- the rest of the buffer t from i on was lent to a read, which left `last` there and took n bytes
pub lost_more : {a b c : Option (List ℕ)} {t : List ℕ} {i : ℕ} (n : ℕ) (last : List ℕ) → i ≤ length t → Lost a b t i
    → length last ≡ length (mid_of i (length t - i) t) → n ≤ length last → Consumes b c (take n last)
    → (i + n ≤ length (put_mid i (length t - i) t last)) × Lost a c (put_mid i (length t - i) t last) (i + n)
lost_more {a} {b} {c} {t} {i} n last inside f size bound g = (
  omega (arith, bound, size, mid_len i (length t) t (omega arith), same_len_mid i (length t - i) t last size),
  record {
    bytes = subst (λ q. Consumes a c q) (sym (take_put_on i n (length t - i) t last inside bound)) (Consumes-trans a b c (take i t) (take n last) f.bytes g);
  },
)

-- what the first bytes print is written, or a front of it
pub first_printed : (known : Option (List ℕ)) {old new : Option (List ℕ)} (b : List ℕ) (n : ℕ) {w : Bool} → length b ≡ 4097
    → IfSome known (λ x. take n b ≡ take (length b) x) → WritesFront old new (printed (take n b)) w
    → IfSome known (λ x. WritesFront old new (printed (take 4097 x)) w)
first_printed None b n size p f = tt
first_printed (Some x) {old = old} {new = new} b n {w = w} size p f =
    subst (λ q. WritesFront old new (printed q) w) (p ∙ ap (λ n. take n x) size) f

-- where a write failed, a front of it
pub unwritten : (known : Option (List ℕ)) {old new : Option (List ℕ)} (b : List ℕ) (n : ℕ) {w : Bool} → length b ≡ 4097 → w ≡ false
    → IfSome known (λ x. take n b ≡ take (length b) x) → WritesFront old new (printed (take n b)) w → Runs known old new (Err Unwritten)
unwritten known {old = old} {new = new} b n size e p f = first_printed known b n size p (subst (λ v. WritesFront old new (printed (take n b)) v) e f)

-- r is what is answered where a write failed
pub failed : (known : Option (List ℕ)) {old new : Option (List ℕ)} (b : List ℕ) (n : ℕ) (r : Result (Unit {0}) Failure) → length b ≡ 4097 → IsErr r
    → IsErrAnd r (λ e. e ≡ Unwritten) → IfSome known (λ x. take n b ≡ take (length b) x) → WritesFront old new (printed (take n b)) false
    → Runs known old new r
failed known b n (Err Unwritten) size e is p f = unwritten known b n size refl p f
failed known b n (Err Unread) size e is p f = let z : ◌≡◌ {A = ℕ} 0 1 = cc in absurd (omega arith)
failed known b n (Ok u) size e is p f = let z : ◌≡◌ {A = ℕ} 0 1 = cc in absurd (omega arith)
