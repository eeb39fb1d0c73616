-- A sheet is refused exactly where the table of specs/Table says so, which is that of document 01 with 15 of document 02, Ticket 1; its place is at most
-- 4,096. Rests on Cases, Parity, Begun and Reached.
use mathlib.Core.Path.{◌≡◌, refl, subst, ◌∙◌}
use mathlib.Core.Logic.{inl, inr, ⊎_elim}
use mathlib.Core.List.{List, []}
use Prim.Native.Nat.{ℕ, zero, suc, ◌-◌, ◌≤◌, ◌<◌}
use native.Mathlib.Nat.{le_refl}
use native.Mathlib.Omega.{arith}
use lib.ListN.{length}
use Rattle.lists.specs.Lists.{less}
use Rattle.lists.proofs.Test.{LessView, lt, ge, less?, less_yes, less_no}
use Rattle.refusals.specs.Refusals.{Verdict, refusal_place, unless}
use Rattle.refusals.specs.declared.Refusal.{Refusal}
use Rattle.refusals.specs.declared.Refusal.TheVariants.{Rank, Size, Scratch, Word, Letter, Length, Image, Entry, Buffer, Bytes, Unknown, CutOff, Order, Range, Ending, NoInverse}
use Rattle.refusals.proofs.Verdicts.{Near}
use Rattle.refusals.proofs.Ended.{refuses_verdict}
use Rattle.sheet_format.specs.declared.Command.TheVariants.{End}
use Rattle.sheet_format.specs.Format.{header}
use Rattle.sheet_format.proofs.Offsets.{found_within, past_end, nothing_past}
use Rattle.operands.proofs.Parity.{lacks}
use Rattle.sheet.specs.Check.{check_sheet}
use Rattle.sheet.specs.Table.{Good, Reached, Ended, Says, Passes, Exactly}
use Rattle.sheet.proofs.CheckFrom.{check_from, stands}
use Rattle.sheet.proofs.Cases.{Kind, nothing, unknown, short, disordered, outside, lacking, end, on, kind?, order_fails, range_fails, inverse_fails, taken_on, taken_end}
use Rattle.sheet.proofs.Begun.{ends_not, good, out_of_order, out_of_range, uninvertible, order_refused, range_refused, inverse_refused}
use Rattle.sheet.proofs.Accepted.{sized, missized, size?}
use Rattle.sheet.proofs.Reached.{reached, reached_on, end_checked}
use Rattle.std.proofs.Common.{Ok, Err}

-- ---- the table says what the check finds

abbrev Holds : List ℕ → Verdict → Type 0
Holds s (Ok _) = Passes s
Holds s (Err why) = Says s why × (refusal_place why ≤ 4096)

near : (s : List ℕ) (v : Verdict) → Holds s v → Near v
near s (Ok _) h = omega arith
near s (Err why) h = h.1

found_from : (k : ℕ) (s : List ℕ) (at : ℕ) → length s - at < k → at ≤ length s → Reached s at → Holds s (check_from s at)
found_from zero s at h m r = absurd (omega arith)
found_from (suc k) s at h m r = go (kind? s at) (found_from k s)
  where
    place : at ≤ 4096
    place = omega (arith, r.most)

    ended : (after : ℕ) → Good s at End after → check_from s at ≡ unless (less after (length s)) (Ending after) → LessView after (length s)
        → Holds s (check_from s at)
    ended after g f (lt l e) = rw (f, e) (inr (record { at = at; reached = r; good = g }, l), omega (arith, r.most))
    ended after g f (ge l e) = let w = found_within s at g.stands in
        rw (f, e) (subst (Ended s) (omega arith) (record { at = at; reached = r; good = g }))

    go : Kind s at → ((after : ℕ) → length s - after < k → after ≤ length s → Reached s after → Holds s (check_from s after)) → Holds s (check_from s at)
    go (nothing d) ih = let past = nothing_past s at d in rw (stands s at d) (inl (r, omega arith), place)
    go (unknown d) ih = rw (stands s at d) ((r, d), place)
    go (short d) ih = rw (stands s at d) ((r, d), place)
    go (disordered c after d o) ih = rw (order_fails s at d o) ((r, out_of_order d o), place)
    go (outside c after d o x) ih = rw (range_fails s at d o x) ((r, out_of_range d o x (reached r).1), place)
    go (lacking c after d o x v) ih = rw (inverse_fails s at d o x v) ((r, uninvertible c d o x (lacks (header s).q c v)), place)
    go (end after t) ih = ended after (good t) (taken_end s at t refl) (less? after (length s))
    go (on c after t e) ih = let w = found_within s at t.stands in
        rw (taken_on s at t e) (ih after (omega arith) w.1 (reached_on (good t) (ends_not c e) r))

found : (s : List ℕ) → Holds s (check_sheet s)
found s = ⊎_elim (λ h. rw (missized s h) (h, omega arith))
    (λ h. let start : Reached s 0 = record { least = h.0; most = h.1; links = []; leads = refl } in
    rw (sized s h.0 h.1) (found_from (suc (length s)) s 0 (omega arith) (omega arith) start))
    (size? s)

-- ---- the check finds what the table says

says : (s : List ℕ) (why : Refusal) → Says s why → check_sheet s ≡ Err why
says s Rank h = absurd h
says s Size h = absurd h
says s Scratch h = absurd h
says s Word h = absurd h
says s (Letter i) h = absurd h
says s Length h = absurd h
says s (Image i) h = absurd h
says s (Entry i) h = absurd h
says s Buffer h = absurd h
says s Bytes h = missized s h
says s (Unknown at) h = (reached h.0).0 ∙ stands s at h.1
says s (CutOff at) h = (reached h.0).0 ∙ stands s at h.1
says s (Order at) h = (reached h.0).0 ∙ order_refused s at h.1
says s (Range at) h = (reached h.0).0 ∙ range_refused s at h.1
says s (NoInverse at) h = let way = reached h.0 in way.0 ∙ inverse_refused s at h.1 way.1
says s (Ending at) (inl h) = (reached h.0).0 ∙ stands s at (past_end s at (omega (arith, h.1)))
says s (Ending at) (inr h) = end_checked h.0 ∙ rw (less_yes h.1) refl

passes : (s : List ℕ) → Passes s → check_sheet s ≡ Ok tt
passes s e = end_checked e ∙ rw (less_no (le_refl (length s))) refl

pub exactly : (s : List ℕ) → Exactly s
exactly s = record {
  refused = λ why e. (subst (Holds s) e (found s)).0;
  says = says s;
  accepted = λ e. subst (Holds s) e (found s);
  passes = passes s;
  report = refuses_verdict (check_sheet s) (near s (check_sheet s) (found s));
}
