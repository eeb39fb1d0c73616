-- A call that is refused counts 0 and leaves its buffer as it was, and the place of a refusal is at most 4,096: the record `Refusals`. Rests on
-- Verdicts and refusals' Ended.
use mathlib.Core.Path.{refl}
use mathlib.Core.Bool.{Bool, not, ◌||◌}
use mathlib.Core.List.{List}
use Prim.Native.Nat.{ℕ, ◌≤◌}
use native.Mathlib.Omega.{arith}
use lib.ListN.{length}
use Rattle.lists.specs.Lists.{same, less}
use Rattle.lists.proofs.Test.{less_true, less_false, or_next}
use Rattle.refusals.specs.Refusals.{◌then◌, unless, verdict_report, Refuses, Keeps, Verdict}
use Rattle.refusals.specs.declared.Refusal.TheVariants.{Length, Image, Entry, Buffer}
use Rattle.refusals.proofs.Verdicts.{accepts_first, accepts_unless, Near, near_then, near_unless}
use Rattle.refusals.proofs.Ended.{ended_keeps}
use Rattle.perms.specs.Permutation.{len}
use Rattle.perms.specs.Tower.{standard, images_of}
use Rattle.perm_calls.specs.Calls.{first_bad_image, first_bad_entry, images_verdict, entries_verdict, tower_verdict, towers_verdict, exact, room, write, counted, generators, tower_of_call, images_of_call, inverse_call, product_call, length_call, standard_word_call, descents_call, counted_report, generators_report}
use Rattle.perm_calls.specs.Claims.{Refusals}
use Rattle.perm_calls.proofs.Verdicts.{sizes_accepted}
use Rattle.std.specs.Prelude.{Ok, Err}

-- ---- places

images_near : (w : List ℕ) → Near (images_verdict w)
unfolding images_verdict
images_near w = near_then size (unless (less bad n) (Image bad)) (near_unless (same n 0 || less 64 n) Length (λ t. omega arith)) (λ e.
    let few = less_false 64 n (or_next (same n 0) (less 64 n) (accepts_unless (same n 0 || less 64 n) Length e)) in
    near_unless (less bad n) (Image bad) (λ t. omega (arith, less_true bad n t, few)))
  where
    n : ℕ
    n = length w

    bad : ℕ
    bad = first_bad_image w

    size : Verdict
    size = unless (same n 0 || less 64 n) Length

entries_near : (t : List ℕ) → length t ≤ 63 → Near (entries_verdict t)
unfolding entries_verdict
entries_near t h =
    near_unless (less (first_bad_entry t) (length t)) (Entry (first_bad_entry t)) (λ s. omega (arith, less_true (first_bad_entry t) (length t) s))

tower_near : (t : List ℕ) → Near (tower_verdict t)
unfolding tower_verdict
tower_near t = near_then (unless (less 63 n) Length) (entries_verdict t) (near_unless (less 63 n) Length (λ s. omega arith)) (λ e.
    entries_near t (less_false 63 n (accepts_unless (less 63 n) Length e)))
  where
    n : ℕ
    n = length t

towers_near : (t u : List ℕ) → Near (towers_verdict t u)
unfolding towers_verdict
towers_near t u =
    near_then (size then entries_verdict t) (entries_verdict u)
    (near_then size (entries_verdict t) (near_unless bad Length (λ s. omega arith)) (λ e. entries_near t (sizes_accepted t u e).0))
    (λ e. entries_near u (sizes_accepted t u (accepts_first size (entries_verdict t) e)).1)
  where
    bad : Bool
    bad = less 63 (length t) || less 63 (length u) || not (same (length t) (length u))

    size : Verdict
    size = unless bad Length

exact_near : (size n : ℕ) → Near (exact size n)
unfolding exact
exact_near size n = near_unless (not (same size n)) Buffer (λ s. omega arith)

room_near : (size n : ℕ) → Near (room size n)
unfolding room
room_near size n = near_unless (less size n) Buffer (λ s. omega arith)

-- ---- calls

write_keeps : (v : Verdict) (size n : ℕ) (buffer result : List ℕ) → Near v
    → Keeps (verdict_report (write (v then exact size n) buffer result).answer) buffer (write (v then exact size n) buffer result).lent
write_keeps v size n buffer result h =
    ended_keeps verdict_report (v then exact size n) Err (Ok tt) 0 buffer result (λ why. refl) refl (near_then v (exact size n) h (λ e. exact_near size n))

counted_refuses : (v : Verdict) (n : ℕ) → Near v → Refuses (counted_report (counted v n))
counted_refuses (Ok _) n h = record { counts = λ d. absurd (d refl); near = h }
counted_refuses (Err why) n h = record { counts = λ d. refl; near = h }

generators_refuse : (v : Verdict) (p : ℕ → Bool) (m : ℕ) → Near v → Refuses (generators_report (generators v p m))
generators_refuse (Ok _) p m h = record { counts = λ d. absurd (d refl); near = h }
generators_refuse (Err why) p m h = record { counts = λ d. refl; near = h }

pub refusals : Refusals
unfolding tower_of_call images_of_call inverse_call product_call length_call standard_word_call descents_call
refusals = record {
  tower_of_lem = λ w buffer. write_keeps (images_verdict w) _ _ buffer _ (images_near w);
  images_of_lem = λ t buffer. write_keeps (tower_verdict t) _ _ buffer _ (tower_near t);
  inverse = λ t buffer. write_keeps (tower_verdict t) _ _ buffer _ (tower_near t);
  product = λ t u buffer. write_keeps (towers_verdict t u) _ _ buffer _ (towers_near t u);
  lengths = λ t. counted_refuses (tower_verdict t) _ (tower_near t);
  word = λ t buffer.
      let letters = len (images_of t) in
      ended_keeps counted_report (tower_verdict t then room (length buffer) letters) Err _ (length (standard t)) buffer _ (λ why. refl) refl
      (near_then (tower_verdict t) (room (length buffer) letters) (tower_near t) (λ e. room_near (length buffer) letters));
  descents = λ t. generators_refuse (tower_verdict t) _ _ (tower_near t);
}
