-- The check's tests at an offset are the table's words, once a good first command has said the rank. Rests on Cases, InOrder, and operands' InRange and
-- Parity.
--
--   Begun s at   past offset 0, the rank of the sheet s is at most 5
use mathlib.Core.Path.{◌≡◌, refl, sym, ap, subst, ◌∙◌}
use mathlib.Core.Logic.{◌≢◌}
use mathlib.Core.Bool.{true, false}
use mathlib.Core.List.{List}
use Prim.Native.Nat.{ℕ, ◌≤◌, ◌<◌}
use native.Mathlib.Omega.{arith}
use Rattle.lists.specs.Lists.{bit}
use Rattle.refusals.specs.declared.Refusal.TheVariants.{Order, Range, NoInverse}
use Rattle.sheet_format.specs.Format.{decode, begun, header_of, header}
use Rattle.sheet_format.specs.declared.Update.TheVariants.{InverseLetter}
use Rattle.sheet_format.specs.declared.Command.{Command}
use Rattle.sheet_format.specs.declared.Command.TheVariants.{End, Begin, Change, Show}
use Rattle.operands.specs.Operands.{in_range}
use Rattle.operands.specs.Bounds.{Begins, Bounds}
use Rattle.operands.proofs.InRange.{within, in_range_lem}
use Rattle.operands.proofs.Parity.{invertible_odd, odd_where, lacks_even, Lacks, lack}
use Rattle.sheet.specs.Check.{is_end, in_order}
use Rattle.sheet.specs.Table.{Ordered}
use Rattle.sheet.specs.Table.{Good, OutOfOrder, OutOfRange, Uninvertible}
use Rattle.sheet.proofs.Tests.{fails, fails_not}
use Rattle.sheet.proofs.CheckFrom.{check_from}
use Rattle.sheet.proofs.InOrder.{ordered, in_order_lem}
use Rattle.sheet.proofs.Cases.{Taken, order_fails, range_fails, inverse_fails}
use Rattle.std.proofs.Common.{Ok, Err}

abbrev pub Begun : List ℕ → ℕ → Type 0
Begun s at = 0 < at → (header s).rank ≤ 5

-- ---- the end

pub ends_not : (c : Command) → is_end c ≡ false → c ≢ End
ends_not c e is = omega (arith, ap bit (sym e ∙ ap is_end is))

pub goes_on : (c : Command) → c ≢ End → is_end c ≡ false
goes_on End n = absurd (n refl)
goes_on (Begin h) n = refl
goes_on (Change u) n = refl
goes_on (Show w) n = refl

-- ---- a good command

-- a begin command in order names the rank of the sheet
named : {c : Command} {after : ℕ} (s : List ℕ) (at : ℕ) → decode s at ≡ Ok (c, after) → Ordered at c
    → Begins c → (begun c).rank ≡ (header s).rank
unfolding header
named {c} {after} s at d o b = ap (λ d. (header_of d).rank) (sym (subst (λ a. decode s a ≡ Ok (c, after)) (o.1 b) d))

rank_low : {after : ℕ} (c : Command) (s : List ℕ) (at : ℕ) → decode s at ≡ Ok (c, after) → Ordered at c → Bounds (header s).rank c → Begun s at
    → (header s).rank ≤ 5
rank_low End s at d o w b = b (omega (arith, o.0))
rank_low (Begin h) s at d o w b = omega (arith, named s at d o tt, w)
rank_low (Change u) s at d o w b = b (omega (arith, o.0))
rank_low (Show k) s at d o w b = b (omega (arith, o.0))

ranged : {after : ℕ} (c : Command) (s : List ℕ) (at : ℕ) → decode s at ≡ Ok (c, after) → Ordered at c → Begun s at → Bounds (header s).rank c
    → in_range (header s).rank c ≡ true
ranged c s at d o b w = in_range_lem (header s).rank c (rank_low c s at d o w b) (named s at d o) w

module _ {s : List ℕ} {at : ℕ} {c : Command} {after : ℕ} where
  pub begun_on : Good s at c after → Begun s at → Begun s after
  begun_on g b l = rank_low c s at g.stands g.order g.range b

  pub taken : Good s at c after → Begun s at → Taken s at c after
  taken g b = record {
    stands = g.stands;
    order = in_order_lem at c g.order;
    range = ranged c s at g.stands g.order b g.range;
    inverse = invertible_odd (header s).q c g.inverse;
  }

  pub good : Taken s at c after → Good s at c after
  good t = record {
    stands = t.stands;
    order = ordered at c t.order;
    range = within (header s).rank c t.range refl;
    inverse = odd_where (header s).q c t.inverse;
  }

  -- ---- a command that fails a test

  pub out_of_order : decode s at ≡ Ok (c, after) → in_order at c ≡ false → OutOfOrder s at
  out_of_order d o = record { link = record { command = c; after = after }; stands = d; order = fails_not (in_order_lem at c) o }

  pub out_of_range : decode s at ≡ Ok (c, after) → in_order at c ≡ true → in_range (header s).rank c ≡ false → Begun s at → OutOfRange s at
  out_of_range d o r b = record {
    link = record { command = c; after = after };
    stands = d;
    order = ordered at c o;
    range = fails_not (ranged c s at d (ordered at c o) b) r;
  }

pub uninvertible : {s : List ℕ} {at : ℕ} {after : ℕ} (c : Command) → decode s at ≡ Ok (c, after) → in_order at c ≡ true → in_range (header s).rank c ≡ true
    → Lacks (header s).q c → Uninvertible s at
uninvertible {s} {at} {after} c d o r (lack register letter even) = record {
  register = register;
  letter = letter;
  after = after;
  stands = d;
  order = ordered at (Change (InverseLetter register letter)) o;
  range = within (header s).rank (Change (InverseLetter register letter)) r refl;
  even = even;
}

pub order_refused : (s : List ℕ) (at : ℕ) → OutOfOrder s at → check_from s at ≡ Err (Order at)
order_refused s at x = order_fails s at x.stands (fails (ordered at x.link.command) x.order)

pub range_refused : (s : List ℕ) (at : ℕ) → OutOfRange s at → check_from s at ≡ Err (Range at)
range_refused s at x = let c = x.link.command in
    range_fails s at x.stands (in_order_lem at c x.order) (fails (λ e. within (header s).rank c e refl) x.range)

pub inverse_refused : (s : List ℕ) (at : ℕ) → Uninvertible s at → Begun s at → check_from s at ≡ Err (NoInverse at)
inverse_refused s at x b =
    inverse_fails s at x.stands (in_order_lem at (Change (InverseLetter x.register x.letter)) x.order) (ranged _ s at x.stands x.order b x.range)
    (lacks_even (header s).q x.register x.letter x.even)
