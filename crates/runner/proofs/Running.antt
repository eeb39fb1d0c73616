-- Turns, one after another, obey the commands of an accepted sheet, one after another. Rests on Turning, Ahead and Beginning.
--
--   Finishes o y          the course o comes to the end, with the state y and a count that is a word
--   Running s h old k x   the run of the sheet s with the header h began on the registers old, and comes to the cursor k with the registers x
use mathlib.Core.Path.{◌≡◌, refl, sym, ap, ◌∙◌}
use mathlib.Core.List.{List}
use Prim.Native.Nat.{ℕ, zero, suc, ◌-◌, ◌^◌, ◌≤◌, ◌<◌}
use native.Mathlib.Omega.{arith}
use lib.ListN.{length}
use Rattle.sheet_format.specs.Format.{header}
use Rattle.sheet_format.specs.declared.Header.{Header}
use Rattle.sheet.specs.Check.{placed, commands, check_sheet}
use Rattle.runner.specs.Run.{State, obey_all}
use Rattle.runner.specs.Turn.{state, first, begun_for, begin_call, Turned, turn_call, goes_on, turns, ahead, Along, Course}
use Rattle.runner.specs.declared.Cursor.{Cursor}
use Rattle.runner.proofs.Ahead.{ahead_start}
use Rattle.runner.proofs.Beginning.{begun_ready}
use Rattle.runner.proofs.Turning.{Goes, Ends, along_first, along_within, turn_goes, turn_ends, turn_obeyed}
use Rattle.std.proofs.Common.{Some, None, Ok, Err}

module _ {s : List ℕ} {h : Header} {k : Cursor} {x : List ℕ} where
  -- what is left to obey at a cursor, and at the next one
  pub goes_obeys : {to : Cursor} {y : List ℕ} → Goes s h k x to y → obey_all h (ahead s k.at) (state k x) ≡ obey_all h (ahead s to.at) (state to y)
  unfolding obey_all
  goes_obeys {to} g = ap (λ cs. obey_all h cs (state k x)) g.ahead_is ∙ ap (obey_all h (ahead s to.at)) g.made

  pub ends_obeys : {y : List ℕ} → Ends s h k x y → obey_all h (ahead s k.at) (state k x) ≡ state k y
  unfolding obey_all
  ends_obeys e = ap (λ cs. obey_all h cs (state k x)) e.ahead_is ∙ e.made

pub record Running (s : List ℕ) (h : Header) (old : List ℕ) (k : Cursor) (x : List ℕ) : Type 0 where
  pub along : Along s h k x
  pub left : obey_all h (ahead s k.at) (state k x) ≡ obey_all h (commands (placed s)) (record { contents = old; count = 0 })

module _ {s : List ℕ} {h : Header} where
  pub running_none : {k : Cursor} (x : List ℕ) → begin_call s ≡ Ok (h, k) → length x ≡ 2880 → Running s h x k x
  running_none {k} x e four = let f = (begun_ready s e).first_is in record {
    along = along_first e four;
    left = (λ i. obey_all h (ahead s (sym f i).at) (state (sym f i) x)) ∙ ap (λ cs. obey_all h cs (record { contents = x; count = 0 })) (ahead_start s);
  }

  module _ {old x : List ℕ} {k : Cursor} (r : Running s h old k x) where
    pub running_more : {to : Cursor} {y : List ℕ} → turn_call s h k x ≡ record { answer = Ok (Some to); lent = y } → (k.at < to.at) × Running s h old to y
    running_more e = let g = turn_goes r.along e in (g.on, record { along = g.along; left = sym (goes_obeys g) ∙ r.left })

    pub running_all : {o : Turned} {y : List ℕ} → turn_call s h k x ≡ record { answer = o; lent = y } → ((to : Cursor) → o ≡ Ok (Some to) → ⊥)
        → obey_all h (commands (placed s)) (record { contents = old; count = 0 }) ≡ record { contents = y; count = k.count }
    running_all e stays = sym r.left ∙ ends_obeys (turn_ends r.along e stays)

-- ---- the turns of a run, up to its end

pub record Finishes (o : Course) (y : State) : Type 0 where
  pub ended : o.last ≡ Ok None
  pub is : state o.cursor o.contents ≡ y
  pub word : o.cursor.count < 2 ^ 64

turns_from : (n : ℕ) {s : List ℕ} {h : Header} (k : Cursor) (x : List ℕ) → length s - k.at ≤ n → Along s h k x
    → Finishes (turns n s h k x) (obey_all h (ahead s k.at) (state k x))
unfolding turns
turns_from zero k x l a = absurd (omega (arith, along_within a))
turns_from (suc n) {s} {h} k x l a = go (turn_call s h k x).answer (turn_call s h k x).lent refl (turns_from n)
  where
    -- the turn answered t and left y
    go : (t : Turned) (y : List ℕ) → turn_call s h k x ≡ record { answer = t; lent = y }
        → ((to : Cursor) (y : List ℕ) → length s - to.at ≤ n → Along s h to y → Finishes (turns n s h to y) (obey_all h (ahead s to.at) (state to y)))
        → Finishes (goes_on t y k (turns n s h)) (obey_all h (ahead s k.at) (state k x))
    go (Ok (Some to)) y e ih = let g = turn_goes a e in let f = ih to y (omega (arith, g.on)) g.along in
        record { ended = f.ended; is = f.is ∙ sym (goes_obeys g); word = f.word }
    go (Ok None) y e ih = record {
      ended = refl;
      is = sym (ends_obeys (turn_ends a e (λ to f. let z : ◌≡◌ {A = ℕ} 0 1 = cc in omega arith)));
      word = omega (arith, a.few, a.short, along_within a);
    }
    go (Err _) y e ih = absurd (turn_obeyed a e)

pub turns_end : (s : List ℕ) → check_sheet s ≡ Ok tt → (x : List ℕ) → length x ≡ 2880
    → Finishes (turns (length s) s (header s) first x) (obey_all (header s) (commands (placed s)) (record { contents = x; count = 0 }))
unfolding begin_call
turns_end s a x four =
    let f = turns_from (length s) first x (omega arith) (along_first (ap (λ v. begun_for v s) a) four) in
    record { ended = f.ended; is = f.is ∙ ap (λ cs. obey_all (header s) cs (record { contents = x; count = 0 })) (ahead_start s); word = f.word }
