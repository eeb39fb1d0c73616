-- What is left to print after each piece. Rests on NextText and runner's Beginning
-- and Turning.
use mathlib.Core.Path.{◌≡◌, refl, sym, ap, subst, ◌∙◌}
use mathlib.Core.Logic.{◌⊎◌, inl, inr}
use mathlib.Core.Bool.{Bool, true, false}
use mathlib.Core.List.{List, ◌++◌}
use Prim.Native.Nat.{ℕ, ◌+◌, ◌^◌, ◌≤◌, ◌<◌}
use native.Mathlib.Omega.{arith}
use lib.ListN.{length, take, drop, length-drop, length-append, replicate, length-replicate}
use lib.Seq.{length-take-le, take_at, take-length, drop_at, drop-drop}
use Rattle.std.proofs.Common.{Result, Ok, Err}
use Rattle.std.specs.Result.{IfOk}
use Rattle.refusals.specs.declared.Refusal.{Refusal}
use Rattle.sheet_format.specs.Format.{header}
use Rattle.sheet_format.specs.declared.Header.{Header}
use Rattle.sheet_format.specs.declared.Command.{Command}
use Rattle.sheet.specs.Check.{placed, commands}
use Rattle.runner.specs.Run.{State, start, obey_all, obeyed}
use Rattle.runner.specs.Turn.{state, first, begin_call, ahead}
use Rattle.runner.specs.declared.Cursor.{Cursor}
use Rattle.runner.proofs.Ahead.{ahead_start}
use Rattle.runner.proofs.Beginning.{begun_ready, begun_failed}
use Rattle.runner.proofs.Turning.{along_first, along_within}
use Rattle.output.specs.Text.{error_room}
use Rattle.output.specs.Printed.{texts, refusal_text, printed, error_call}
use Rattle.lists.proofs.Test.{less_no}
use Rattle.program.specs.Pieces.{text_left, state_left, Piece, PartOf, Printing, Printed}
use Rattle.program.proofs.NextText.{front_taken}

module _ (s : List ℕ) {h : Header} where
  -- all commands from the start are those from the first cursor on
  from_first : {A : Type 0} {k : Cursor} {x : List ℕ} (f : Header → List Command → State → A) → begin_call s ≡ Ok (h, k) → x ≡ replicate 2880 0
      → f (header s) (commands (placed s)) start ≡ f h (ahead s k.at) (state k x)
  from_first {k = k} {x = x} f e zeros = let b = begun_ready s e in
      ap (λ g. f g (commands (placed s)) start) b.header_is
      ∙ ap (λ cs. f h cs start) (sym (ahead_start s))
      ∙ ap (λ y. f h (ahead s 0) (state first y)) (sym zeros)
      ∙ ap (λ k. f h (ahead s k.at) (state k x)) b.first_is

  pub printing_none : {k : Cursor} {x : List ℕ} → begin_call s ≡ Ok (h, k) → x ≡ replicate 2880 0 → Printing s h k x 0
  unfolding printed
  printing_none {k} {x} e zeros = record {
    along = along_first e (ap length zeros ∙ length-replicate {A = ℕ} 2880 0);
    text = rw (begun_ready s e).accepted (from_first texts e zeros);
    run = sym (from_first obey_all e zeros);
    inside = omega arith;
    few = omega arith;
  }

  module _ {k to : Cursor} {x y t : List ℕ} {sent used : ℕ} {ended : Bool} (p : Printing s h k x sent) (f : Piece s h k x t used ended to y) where
    size : length (take used t) ≡ used
    size = length-take-le used t f.within

    parts : drop sent (printed s) ≡ take used t ++ text_left ended s h to y
    parts = p.text ∙ sym f.text

    -- n bytes are lent
    pub printing_part : (n : ℕ) → used ≡ n → PartOf s sent (take n t)
    printing_part n e =
        subst (λ n. PartOf s sent (take n t)) e
        (sym (ap (take (length (take used t))) parts ∙ take_at (take used t) _ (length (take used t)) refl))

    left : drop (sent + used) (printed s) ≡ text_left ended s h to y
    left = sym (drop-drop used sent (printed s)) ∙ ap (drop used) parts ∙ drop_at (take used t) _ used size

    sizes : length (printed s) ≡ sent + used + length (text_left ended s h to y)
    sizes =
        let a = length-drop sent (printed s) in
        let b = ap length parts ∙ length-append (take used t) (text_left ended s h to y) in
        omega (arith, a, b, size, p.inside)

    pub printing_fits : length t ≡ 65536 → (n : ℕ) → used ≡ n → sent + length (take n t) < 2 ^ 64
    printing_fits large n e =
        omega (arith, p.few, f.within, large, p.along.short, along_within p.along, length-take-le n t (omega (arith, e, f.within)))

    run : state_left ended s h to y ≡ obeyed s
    run = f.run ∙ p.run

    -- n bytes were handed over with it
    module _ {n : ℕ} (lent : ℕ) (Lent-is : used ≡ lent) (n-is : n ≡ sent + length (take lent t)) where
      n_sent : n ≡ sent + used
      n_sent = omega (arith, n-is, Lent-is, length-take-le lent t (omega (arith, Lent-is, f.within)))

      pub printing_more : length t ≡ 65536 → ended ≡ false → (k.at < to.at) × Printing s h to y n
      printing_more large e = let on = f.on e in (
        on.0,
        record {
          along = on.1;
          text = ap (λ n. drop n (printed s)) n_sent ∙ left ∙ ap (λ b. text_left b s h to y) e;
          run = ap (λ b. state_left b s h to y) (sym e) ∙ run;
          inside = omega (arith, sizes, n_sent);
          few = omega (arith, p.few, on.0, f.within, large, n_sent);
        },
      )

      pub printing_all : {E : Type 0} → ended ≡ true → Printed {E = E} s h y to (Ok n)
      printing_all e = let end = ap (λ b. state_left b s h to y) (sym e) ∙ run in record {
        text = omega (arith, n_sent, sizes ∙ ap (λ b. sent + used + length (text_left b s h to y)) e);
        run = end;
        left = inl end;
      }

    pub printing_failed : {E : Type 0} (why : E) → Printed {E = E} s h y to (Err why)
    printing_failed why = record { text = tt; run = tt; left = either ended refl }
      where
        either : (b : Bool) → ended ≡ b → (state_left true s h to y ≡ obeyed s) ⊎ (state_left false s h to y ≡ obeyed s)
        either true e = inl (ap (λ b. state_left b s h to y) (sym e) ∙ run)
        either false e = inr (ap (λ b. state_left b s h to y) (sym e) ∙ run)

-- ---- a refused sheet

-- its line is all that is printed: n bytes of t, of which m are lent
module _ (s b : List ℕ) {t : List ℕ} {n : ℕ} {why : Refusal} (e : begin_call s ≡ Err why) (room : error_room ≤ length b)
    (put : error_call why b ≡ record { answer = n; lent = t }) (m : ℕ) (same : n ≡ m) where
  refusal_is : take m t ≡ printed s
  unfolding printed error_call
  refusal_is =
      ap (λ m. take m t) (sym same) ∙ front_taken (refusal_text why) b (rw (less_no {x = length b} {a = error_room} room) at put) ∙ rw (begun_failed s e) refl

  pub refusal_part : PartOf s 0 (take m t)
  refusal_part = refusal_is ∙ sym (take-length (printed s)) ∙ ap (λ p. take (length p) (printed s)) (sym refusal_is)

  pub refusal_size : length (take m t) ≡ length (printed s)
  refusal_size = ap length refusal_is

  pub refusal_sent : {E : Type 0} (sent : Result ℕ E) → IfOk sent (λ n. n ≡ 0 + length (take m t)) → IfOk sent (λ n. n ≡ length (printed s))
  refusal_sent (Ok n) e = omega (arith, e, refusal_size)
  refusal_sent (Err why) e = tt
