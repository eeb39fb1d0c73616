-- The loop that obeys the commands of an accepted sheet and gathers what they print: what it holds at a cursor. Rests on NextText, output's Front
-- and runner's Turning and Running.
--
--   Filling s h from old t used k x   the sheet s with the header h is obeyed from one cursor and the registers old to the cursor k and the registers x,
--                                     and what is printed are the first `used` bytes of t
use mathlib.Core.Path.{◌≡◌, sym, ap, ◌∙◌}
use mathlib.Core.Logic.{◌⊎◌, inr, ⊎_elim}
use mathlib.Core.Bool.{true, false}
use mathlib.Core.List.{List, [], ◌++◌, append_assoc}
use Prim.Native.Nat.{ℕ, ◌+◌, ◌-◌, ◌≤◌, ◌<◌}
use native.Mathlib.Omega.{arith}
use lib.ListN.{length, take}
use lib.Seq.{length-take-le, take-append-le, take-append-add}
use borrow.Rule.Slice.PartMut.{mid_of, put_mid, mid_len, same_len_mid}
use Rattle.std.proofs.Common.{Option, Some, None, Ok}
use Rattle.sheet_format.specs.declared.Header.{Header}
use Rattle.runner.specs.Turn.{state, Turned, turn_call, Along}
use Rattle.runner.specs.declared.Cursor.{Cursor}
use Rattle.runner.proofs.Turning.{turn_goes, turn_ends}
use Rattle.runner.proofs.Running.{goes_obeys, ends_obeys}
use Rattle.output.specs.Text.{text_room}
use Rattle.output.specs.Printed.{text, text_call}
use Rattle.output.proofs.Front.{text_within}
use Rattle.program.specs.Pieces.{text_left, state_left, Piece}
use Rattle.program.proofs.NextText.{text_taken, goes_text, ends_text}

pub record Filling (s : List ℕ) (h : Header) (from : Cursor) (old t : List ℕ) (used : ℕ) (k : Cursor) (x : List ℕ) : Type 0 where
  pub text : take used t ++ text_left false s h k x ≡ text_left false s h from old
  pub run : state_left false s h k x ≡ state_left false s h from old
  pub within : used ≤ length t
  pub large : length t ≡ 65536
  pub begun : ((used ≡ 0) × (from ≡ k)) ⊎ (from.at < k.at)
  pub along : Along s h k x

pub take_put_on : (used n m : ℕ) (b last : List ℕ) → used ≤ length b → n ≤ length last → take (used + n) (put_mid used m b last) ≡ take used b ++ take n last
take_put_on used n m b last h l =
    let size = length-take-le used b h in
    ap (λ i. take (i + n) (put_mid used m b last)) (sym size)
    ∙ take-append-add (take used b) _ n
    ∙ ap (λ p. take used b ++ p) (take-append-le n last _ l)

-- a turn that does not go on
ok_stays : (v : Option Cursor) → v ≡ None → (to : Cursor) → ◌≡◌ {A = Turned} (Ok v) (Ok (Some to)) → ⊥
ok_stays None n to e = let z : ◌≡◌ {A = ℕ} 0 1 = cc in absurd (omega arith)
ok_stays (Some k) n to e = let z : ◌≡◌ {A = ℕ} 0 1 = cc in absurd (omega arith)

pub stays_none : {o : Turned} {v : Option Cursor} → o ≡ Ok v → v ≡ None → (to : Cursor) → o ≡ Ok (Some to) → ⊥
stays_none {v = v} is n to e = ok_stays v n to (sym is ∙ e)

module _ {s : List ℕ} {h : Header} {from : Cursor} {old : List ℕ} where
  module _ {b : List ℕ} {used : ℕ} {k : Cursor} {x : List ℕ} (f : Filling s h from old b used k x) where
    -- the part from `used` on is lent for the text of the next command, of which n bytes come back in `last`
    module _ {n : ℕ} {last : List ℕ} (size : length last ≡ length (mid_of used (65536 - used) b))
        (put : text_call s x h k (mid_of used (65536 - used) b) ≡ record { answer = n; lent = last }) where
      abbrev b' : List ℕ
      b' = put_mid used (65536 - used) b last

      mid : length (mid_of used (65536 - used) b) ≡ 65536 - used
      mid = mid_len used 65536 b (omega (arith, f.large))

      fits : n ≤ length last
      fits = text_within s x h k _ put

      pub filling_fits : used + n ≤ 65536
      filling_fits = omega (arith, fits, size, mid, f.within, f.large)

      long : length b' ≡ 65536
      long = same_len_mid used (65536 - used) b last size ∙ f.large

      within : used + n ≤ length b'
      within = omega (arith, filling_fits, long)

      -- the command printed its text, and rest is printed after it
      printed : (p rest : List ℕ) → take n last ≡ p → p ++ rest ≡ text_left false s h k x → take (used + n) b' ++ rest ≡ text_left false s h from old
      printed p rest e g =
          ap (λ t. t ++ rest) (take_put_on used n (65536 - used) b last f.within fits ∙ ap (λ t. take used b ++ t) e)
          ∙ append_assoc (take used b) p rest
          ∙ ap (λ t. take used b ++ t) g
          ∙ f.text

      module _ (room : text_room ≤ 65536 - used) where
        enough : text_room ≤ length (mid_of used (65536 - used) b)
        enough = omega (arith, mid)

        pub filling_more : {o : Turned} {to : Cursor} {y : List ℕ} → turn_call s h k x ≡ record { answer = o; lent = y } → o ≡ Ok (Some to)
            → (k.at < to.at) × Filling s h from old b' (used + n) to y
        filling_more {to = to} {y} e goes =
            let g = turn_goes f.along (e ∙ ap (λ o. record { answer = o; lent = y }) goes) in (
              g.on,
              record {
                text = printed (text h g.command (state k x)) (text_left false s h to y)
                    (text_taken s h k x _ g.stands g.range f.along.four enough put) (goes_text s h k x g);
                run = sym (goes_obeys g) ∙ f.run;
                within = within;
                large = long;
                begun = inr (⊎_elim (λ z. omega (arith, ap (λ k. k.at) z.1, g.on)) (λ l. omega (arith, l, g.on)) f.begun);
                along = g.along;
              },
            )

        pub filling_ends : {o : Turned} {y : List ℕ} → turn_call s h k x ≡ record { answer = o; lent = y } → ((to : Cursor) → o ≡ Ok (Some to) → ⊥)
            → Piece s h from old b' (used + n) true k y
        filling_ends {o} {y} e stays =
            let l = turn_ends f.along e stays in
            record {
              text = printed (text h l.command (state k x)) []
                  (text_taken s h k x _ l.stands l.range f.along.four enough put) (ends_text s h k x l);
              run = sym (ends_obeys l) ∙ f.run;
              within = within;
              on = λ z. let bad : ◌≡◌ {A = ℕ} 0 1 = cc in absurd (omega arith);
            }
