-- The check's test of the range decides the table's bounds: a command is in range where the rank is at most 5 and each operand is
-- within its bounds. Rests on lists' Test and on Tests.
use mathlib.Core.Path.{◌≡◌, refl, sym, subst}
use mathlib.Core.Logic.{◌≢◌}
use mathlib.Core.Bool.{Bool, true, not, ◌&&◌, ◌||◌, and-eq-true_iff}
use Prim.Native.Nat.{ℕ, ◌≤◌, ◌<◌}
use native.Mathlib.Omega.{arith}
use borrow.Author.Tests.{not-true}
use Rattle.lists.specs.Lists.{same, less}
use Rattle.lists.proofs.Test.{same_true, same_false, less_true, less_false, or_first, or_next, same_yes, same_no, less_yes, less_no}
use Rattle.sheet_format.specs.Format.{begun}
use Rattle.sheet_format.specs.declared.Update.{Update}
use Rattle.sheet_format.specs.declared.Update.TheVariants as U
use Rattle.sheet_format.specs.declared.Query.{Query}
use Rattle.sheet_format.specs.declared.Query.TheVariants.{Register, Pairing, Equality, Trace}
use Rattle.sheet_format.specs.declared.Command.{Command}
use Rattle.sheet_format.specs.declared.Command.TheVariants.{End, Begin, Change, Show}
use Rattle.operands.specs.Operands.{is_register, update_in_range, query_in_range, operands_in_range, in_range}
use Rattle.operands.specs.Bounds.{Begins, UpdateBounds, QueryBounds, Bounds}
use Rattle.operands.proofs.Tests.{up_to}

-- ---- in range, so within the bounds

two : {a b k : ℕ} → (less a k && less b k) ≡ true → (a < k) × (b < k)
two e = let f = (and-eq-true_iff _ _).0 e in (less_true _ _ f.0, less_true _ _ f.1)

three : {d a b k : ℕ} → (less d k && less a k && less b k) ≡ true → (d < k) × (a < k) × (b < k)
three e = let f = (and-eq-true_iff _ _).0 e in let g = two f.0 in (g.0, g.1, less_true _ _ f.1)

letter : {m i k : ℕ} → not (same i k || less m i) ≡ true → (i ≢ k) × (i ≤ m)
letter {m} {i} {k} e = let f = not-true (same i k || less m i) e in
    (same_false i k (or_first (same i k) (less m i) f), less_false m i (or_next (same i k) (less m i) f))

update : (m : ℕ) (u : Update) → update_in_range m u ≡ true → UpdateBounds m u
unfolding update_in_range is_register
update m (U.Unit r) e = omega (arith, less_true _ _ e)
update m (U.Set r i v) e = let f = (and-eq-true_iff _ _).0 e in (omega (arith, less_true _ _ f.0), omega (arith, less_true _ _ f.1))
update m (U.Letter r i) e = let f = (and-eq-true_iff _ _).0 e in let g = letter f.1 in
    (omega (arith, less_true _ _ f.0), omega arith, omega arith)
update m (U.InverseLetter r i) e = let f = (and-eq-true_iff _ _).0 e in let g = letter f.1 in
    (omega (arith, less_true _ _ f.0), omega arith, omega arith)
update m (U.Product d a b) e = omega (arith, three e)
update m (U.Sum d a b) e = omega (arith, three e)
update m (U.Scale r v) e = omega (arith, less_true _ _ e)

query : (w : Query) → query_in_range w ≡ true → QueryBounds w
unfolding query_in_range is_register
query (Register r) e = omega (arith, less_true _ _ e)
query (Pairing a b) e = omega (arith, two e)
query (Equality a b) e = omega (arith, two e)
query (Trace r z) e = omega (arith, less_true _ _ e)

operands : (m : ℕ) (c : Command) → m ≤ 5 → operands_in_range m c ≡ true → Bounds m c
unfolding operands_in_range
operands m End l e = tt
operands m (Begin h) l e = omega (arith, same_true h.rank m e)
operands m (Change u) l e = update m u e
operands m (Show w) l e = query w e

ranked : {m k : ℕ} (b : Bool) → (not (less k m) && b) ≡ true → (m ≤ k) × (b ≡ true)
ranked {m} {k} b e = let f = (and-eq-true_iff (not (less k m)) b).0 e in (less_false k m (not-true (less k m) f.0), f.1)

module _ (m : ℕ) (c : Command) (e : in_range m c ≡ true) where
  tests : (m ≤ 5) × (operands_in_range m c ≡ true)
  unfolding in_range
  tests = let f = ranked (operands_in_range m c) e in (omega arith, f.1)

  pub low : m ≤ 5
  low = tests.0

  -- the command is k
  pub within : {k : Command} → c ≡ k → Bounds m k
  within is = subst (Bounds m) is (operands m c low tests.1)

-- ---- within the bounds, so in range

update_in : (m : ℕ) (u : Update) → UpdateBounds m u → update_in_range m u ≡ true
unfolding update_in_range is_register
update_in m (U.Unit r) h = less_yes h
update_in m (U.Set r i v) h = rw (less_yes h.0, less_yes h.1) refl
update_in m (U.Letter r i) h = rw (less_yes h.0, same_no {x = i} {a = 0} (λ e. omega arith), less_no h.2) refl
update_in m (U.InverseLetter r i) h = rw (less_yes h.0, same_no {x = i} {a = 0} (λ e. omega arith), less_no h.2) refl
update_in m (U.Product d a b) h = rw (less_yes h.0, less_yes h.1, less_yes h.2) refl
update_in m (U.Sum d a b) h = rw (less_yes h.0, less_yes h.1, less_yes h.2) refl
update_in m (U.Scale r v) h = less_yes h

query_in : (w : Query) → QueryBounds w → query_in_range w ≡ true
unfolding query_in_range is_register
query_in (Register r) h = less_yes h
query_in (Pairing a b) h = rw (less_yes h.0, less_yes h.1) refl
query_in (Equality a b) h = rw (less_yes h.0, less_yes h.1) refl
query_in (Trace r z) h = less_yes h

operands_in : (m : ℕ) (c : Command) → (Begins c → (begun c).rank ≡ m) → Bounds m c → operands_in_range m c ≡ true
unfolding operands_in_range
operands_in m End n h = refl
operands_in m (Begin k) n h = same_yes (n tt)
operands_in m (Change u) n h = update_in m u h
operands_in m (Show w) n h = query_in w h

pub in_range_lem : (m : ℕ) (c : Command) → m ≤ 5 → (Begins c → (begun c).rank ≡ m) → Bounds m c → in_range m c ≡ true
unfolding in_range
in_range_lem m c l n h = sym (up_to (omega arith) (sym (operands_in m c n h)))
