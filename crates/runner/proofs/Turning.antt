-- A turn at a cursor that a run of an accepted sheet comes to: the command there is obeyed, since the count stays a word. Rests on Ahead, Beginning, Puts,
-- sheet's Accepted and costs' Costs.
--
--   Goes s h k x next y   the turn there goes on with the cursor next and the registers y
--   Ends s h k x y        it is the last, and leaves the registers y
use mathlib.Core.Path.{◌≡◌, refl, sym, ap, ◌∙◌}
use mathlib.Core.Logic.{⊎_elim}
use mathlib.Core.Bool.{true, false}
use mathlib.Core.List.{List, [], ◌∷◌}
use Prim.Native.Nat.{ℕ, ◌+◌, ◌*◌, ◌^◌, ◌≤◌, ◌<◌}
use native.Mathlib.Omega.{arith}
use lib.ListN.{length}
use Rattle.lists.proofs.Test.{same_yes, less_yes}
use Rattle.refusals.specs.Refusals.{Outcome}
use Rattle.sheet_format.specs.Format.{decode}
use Rattle.sheet_format.specs.declared.Header.{Header}
use Rattle.sheet_format.specs.declared.Command.{Command}
use Rattle.sheet_format.specs.declared.Command.TheVariants.{End, Begin, Change, Show}
use Rattle.sheet_format.proofs.Offsets.{found_within}
use Rattle.operands.specs.Operands.{in_range, may_run}
use Rattle.operands.proofs.InRange.{low}
use Rattle.operands.proofs.Allowed.{in_range_lem}
use Rattle.sheet.specs.Check.{is_end}
use Rattle.sheet.proofs.CheckFrom.{check_from}
use Rattle.sheet.proofs.Accepted.{Next, accepted_start, accepted_next}
use Rattle.costs.specs.Costs.{cost}
use Rattle.costs.proofs.Costs.{cost_small}
use Rattle.machine.specs.Step.{obey, not_obeyed}
use Rattle.runner.specs.Run.{after}
use Rattle.runner.specs.Turn.{state, begin_call, fits, obeys, moved, onward, Turned, turn_call, ahead, Along}
use Rattle.runner.specs.declared.Cursor.{Cursor}
use Rattle.runner.proofs.Ahead.{ahead_last, ahead_next}
use Rattle.runner.proofs.Beginning.{begun_ready}
use Rattle.runner.proofs.Puts.{obey_size}
use Rattle.std.proofs.Common.{Some, Ok}

pub record Goes (s : List ℕ) (h : Header) (k : Cursor) (x : List ℕ) (next : Cursor) (y : List ℕ) : Type 0 where
  pub command : Command
  pub stands : decode s k.at ≡ Ok (command, next.at)
  pub range : in_range h.rank command ≡ true
  pub on : k.at < next.at
  pub ahead_is : ahead s k.at ≡ command ∷ ahead s next.at
  pub made : after h command (state k x) ≡ state next y
  pub along : Along s h next y

pub record Ends (s : List ℕ) (h : Header) (k : Cursor) (x y : List ℕ) : Type 0 where
  pub command : Command
  pub next : ℕ
  pub stands : decode s k.at ≡ Ok (command, next)
  pub range : in_range h.rank command ≡ true
  pub ahead_is : ahead s k.at ≡ command ∷ []
  pub made : after h command (state k x) ≡ state k y

end_costs : (m n : ℕ) (c : Command) → is_end c ≡ true → n + cost m c ≡ n
unfolding cost
end_costs m n End t = omega arith
end_costs m n (Begin b) t = let z : ◌≡◌ {A = ℕ} 0 1 = cc in absurd (omega arith)
end_costs m n (Change u) t = let z : ◌≡◌ {A = ℕ} 0 1 = cc in absurd (omega arith)
end_costs m n (Show w) t = let z : ◌≡◌ {A = ℕ} 0 1 = cc in absurd (omega arith)

module _ {s : List ℕ} {h : Header} {k : Cursor} {x : List ℕ} where
  pub along_first : begin_call s ≡ Ok (h, k) → length x ≡ 2880 → Along s h k x
  along_first e four = let b = begun_ready s e in let start = accepted_start s b.accepted in record {
    header_is = sym b.header_is;
    short = start.1;
    accepted = ap (λ k. check_from s k.at) (sym b.first_is) ∙ start.2;
    four = four;
    few = omega (arith, ap (λ k. k.count) b.first_is);
  }

  module _ (a : Along s h k x) where
    next : Next s k.at
    next = accepted_next s k.at a.accepted

    abbrev c : Command
    c = next.command

    runs : may_run h c ≡ true
    runs = ap (λ h. may_run h c) a.header_is ∙ next.runs

    range : in_range h.rank c ≡ true
    range = in_range_lem h c runs

    within : (k.at < next.after) × (next.after ≤ length s)
    within = found_within s k.at next.stands

    pub along_within : k.at < length s
    along_within = omega (arith, within)

    few : k.count + cost h.rank c ≤ 2027640 * next.after
    few = omega (arith, a.few, within.0, cost_small h.rank c (low h.rank c range))

    made : turn_call s h k x ≡ record { answer = Ok (onward c (moved h k c next.after)); lent = obey h c x }
    unfolding turn_call obeys fits
    made = rw (next.stands, runs, same_yes a.four, less_yes {x = k.count + cost h.rank c} {a = 2 ^ 64} (omega (arith, few, a.short, within))) refl

    turn_is : {o : Outcome Turned (List ℕ)} → turn_call s h k x ≡ o → record { answer = Ok (onward c (moved h k c next.after)); lent = obey h c x } ≡ o
    turn_is e = sym made ∙ e

    pub turn_goes : {to : Cursor} {y : List ℕ} → turn_call s h k x ≡ record { answer = Ok (Some to); lent = y } → Goes s h k x to y
    turn_goes {to} {y} e = ⊎_elim (λ l. absurd (ended l.0)) (λ l. goes l.0 l.1) next.rest
      where
        ended : is_end c ≡ true → ⊥
        ended t = let f = ap (λ o. o.answer) (turn_is e) in let z : ◌≡◌ {A = ℕ} 0 1 = cc (rw t at f) in omega arith

        goes : is_end c ≡ false → check_from s next.after ≡ Ok tt → Goes s h k x to y
        goes t acc =
            let f = ap (λ o. o.answer) (turn_is e) in
            let to_is : moved h k c next.after ≡ to = cc (rw t at f) in
            let y_is : obey h c x ≡ y = ap (λ o. o.lent) (turn_is e) in
            let at_is : next.after ≡ to.at = ap (λ k. k.at) to_is in
            record {
              command = c;
              stands = next.stands ∙ ap (λ n. Ok (c, n)) at_is;
              range = range;
              on = omega (arith, within.0, at_is);
              ahead_is = ahead_next s k.at next t ∙ ap (λ n. c ∷ ahead s n) at_is;
              made = λ i. record { contents = y_is i; count = (to_is i).count };
              along = record {
                header_is = a.header_is;
                short = a.short;
                accepted = ap (check_from s) (sym at_is) ∙ acc;
                four = ap length (sym y_is) ∙ obey_size h c range x a.four;
                few = omega (arith, few, at_is, ap (λ k. k.count) to_is);
              };
            }

    pub turn_ends : {o : Turned} {y : List ℕ} → turn_call s h k x ≡ record { answer = o; lent = y } → ((to : Cursor) → o ≡ Ok (Some to) → ⊥) → Ends s h k x y
    turn_ends {o} {y} e stays = ⊎_elim (λ l. ends l.0) (λ l. absurd (goes l.0)) next.rest
      where
        goes : is_end c ≡ false → ⊥
        goes t = let f = ap (λ o. o.answer) (turn_is e) in stays (moved h k c next.after) (sym (rw t at f))

        ends : is_end c ≡ true → Ends s h k x y
        ends t =
            let y_is : obey h c x ≡ y = ap (λ o. o.lent) (turn_is e) in
            record {
              command = c;
              next = next.after;
              stands = next.stands;
              range = range;
              ahead_is = ahead_last s k.at next t;
              made = λ i. record { contents = y_is i; count = end_costs h.rank k.count c t i };
            }

    pub turn_obeyed : {y : List ℕ} → turn_call s h k x ≡ record { answer = not_obeyed; lent = y } → ⊥
    turn_obeyed e = let f = ap (λ o. o.answer) (turn_is e) in
        ⊎_elim (λ l. let z : ◌≡◌ {A = ℕ} 0 1 = cc (rw l.0 at f) in omega arith) (λ l. let z : ◌≡◌ {A = ℕ} 0 1 = cc (rw l.0 at f) in omega arith) next.rest
