-- What acceptance says of towers and buffers: a list is a tower within document 01's sizes, and a buffer has its size. Rests on refusals' Verdicts.
use mathlib.Core.Path.{◌≡◌, refl, sym, ap, ◌∙◌}
use mathlib.Core.Bool.{Bool, false, not, ◌||◌}
use mathlib.Core.List.{List}
use Prim.Native.Nat.{ℕ, suc, ◌≤◌}
use native.Mathlib.Omega.{arith}
use lib.ListN.{length, get_or, get_or-eq_default}
use Rattle.lists.specs.Lists.{same, less, bit, first}
use Rattle.lists.proofs.Test.{SameView, is, isnt, LessView, lt, ge, same?, less?, same_yes, less_no, less_false, or_first, or_next}
use Rattle.lists.proofs.First.{passed}
use Rattle.refusals.specs.Refusals.{◌then◌, unless}
use Rattle.refusals.specs.declared.Refusal.TheVariants.{Length, Entry, Buffer}
use Rattle.refusals.proofs.Verdicts.{accepts_first, accepts_next, accepts_unless}
use Rattle.perms.specs.Tower.{Tower}
use Rattle.perm_calls.specs.Calls.{first_bad_entry, entries_verdict, tower_verdict, towers_verdict, exact, room}
use Rattle.std.specs.Prelude.{Ok}

-- ---- accepted buffers

pub exact_accepted : (size n : ℕ) → exact size n ≡ Ok tt → size ≡ n
unfolding exact
exact_accepted size n e = go (same? size n)
  where
    go : SameView size n → size ≡ n
    go (is p f) = p
    go (isnt p f) = absurd (omega (arith, ap bit (ap not (sym f) ∙ accepts_unless (not (same size n)) Buffer e)))

pub room_accepted : (size n : ℕ) → room size n ≡ Ok tt → n ≤ size
unfolding room
room_accepted size n e = less_false size n (accepts_unless (less size n) Buffer e)

-- ---- accepted towers

pub towers_sized : (t u : List ℕ) → length t ≤ 63 → length u ≤ 63 → length t ≡ length u → towers_verdict t u ≡ (entries_verdict t then entries_verdict u)
unfolding towers_verdict
towers_sized t u a b e = rw (less_no a, less_no b, same_yes e) refl

-- the entries, whatever the size
entries_accepted : (t : List ℕ) → entries_verdict t ≡ Ok tt → Tower (length t) t
unfolding entries_verdict first_bad_entry
entries_accepted t e = record { size = refl; within = λ i. go i (less? i (length t)) }
  where
    bad : ℕ → Bool
    bad i = less (suc i) (get_or t i 0)

    all : length t ≤ first bad 0 (length t)
    all = less_false (first bad 0 (length t)) (length t) (accepts_unless (less (first bad 0 (length t)) (length t)) (Entry (first bad 0 (length t))) e)

    go : (i : ℕ) → LessView i (length t) → get_or t i 0 ≤ suc i
    go i (lt h f) = less_false (suc i) (get_or t i 0) (passed bad 0 (length t) i (omega arith) (omega (arith, all)))
    go i (ge h f) = omega (arith, get_or-eq_default t 0 {n = i} h)

pub tower_accepted : (t : List ℕ) → tower_verdict t ≡ Ok tt → (length t ≤ 63) × Tower (length t) t
unfolding tower_verdict
tower_accepted t e =
    let size = unless (less 63 (length t)) Length in
    (less_false 63 (length t) (accepts_unless (less 63 (length t)) Length (accepts_first size (entries_verdict t) e)), entries_accepted t (accepts_next size (entries_verdict t) e))

-- the sizes of two towers
pub sizes_accepted : (t u : List ℕ) → unless (less 63 (length t) || less 63 (length u) || not (same (length t) (length u))) Length ≡ Ok tt
    → (length t ≤ 63) × (length u ≤ 63) × (length t ≡ length u)
sizes_accepted t u e = (less_false 63 (length t) (or_first a b small), less_false 63 (length u) (or_next a b small), equal (same? (length t) (length u)))
  where
    a : Bool
    a = less 63 (length t)

    b : Bool
    b = less 63 (length u)

    d : Bool
    d = not (same (length t) (length u))

    sizes : (a || b || d) ≡ false
    sizes = accepts_unless (a || b || d) Length e

    small : (a || b) ≡ false
    small = or_first (a || b) d sizes

    equal : SameView (length t) (length u) → length t ≡ length u
    equal (is p f) = p
    equal (isnt p f) = absurd (omega (arith, ap bit (ap not (sym f) ∙ or_next (a || b) d sizes)))

pub towers_accepted : (t u : List ℕ) → towers_verdict t u ≡ Ok tt → (length t ≤ 63) × Tower (length t) t × Tower (length t) u
unfolding towers_verdict
towers_accepted t u e =
    let size = unless (less 63 (length t) || less 63 (length u) || not (same (length t) (length u))) Length in
    let first = accepts_first (size then entries_verdict t) (entries_verdict u) e in
    let sizes = sizes_accepted t u (accepts_first size (entries_verdict t) first) in
    let second = entries_accepted u (accepts_next (size then entries_verdict t) (entries_verdict u) e) in
    (sizes.0, entries_accepted t (accepts_next size (entries_verdict t) first), record { size = sym sizes.2; within = second.within })
