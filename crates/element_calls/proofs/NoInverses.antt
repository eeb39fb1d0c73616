-- Where 15 is answered. Rests on Earlier, InverseVerdicts, SignedVerdicts, Answers, lists' Test and First, and inverses' Parity.
use mathlib.Core.Path.{◌≡◌, refl, sym, ap, ◌∙◌}
use mathlib.Core.Logic.{◌↔◌}
use mathlib.Core.Bool.{Bool, true, false, not, ◌&&◌}
use mathlib.Core.List.{List}
use Prim.Native.Nat.{ℕ, ◌%◌, ◌<◌}
use native.Mathlib.Omega.{arith}
use lib.ListN.{length}
use lib.IntN.{ℤ}
use Rattle.ring.specs.Modular.{word_modulus}
use Rattle.lists.specs.Lists.{bit, less, first}
use Rattle.lists.proofs.Test.{LessView, lt, ge, less?, less_true}
use Rattle.lists.proofs.First.{passed, first_holds, first_true}
use Rattle.inverses.specs.Inverses.{has_inverse}
use Rattle.inverses.proofs.Parity.{word_inverses, none_even}
use Rattle.refusals.specs.Refusals.{◌then◌, unless, verdict_report, verdict_of}
use Rattle.refusals.specs.declared.Refusal.TheVariants as R
use Rattle.element_calls.specs.Calls.{rank_verdict, size_verdict, signed_word_verdict, first_below, inverse_verdict, act_signed_word_call}
use Rattle.element_calls.specs.SignedCalls.{FirstBelow}
use Rattle.element_calls.proofs.Earlier.{early, later}
use Rattle.element_calls.proofs.InverseVerdicts.{some_below}
use Rattle.element_calls.proofs.SignedVerdicts.{below_at}
use Rattle.element_calls.proofs.Answers.{signed_verdict_lem}
use Rattle.std.specs.Prelude.{Ok, Err}
use Rattle.refusals.specs.Refusals.{Verdict}

-- ---- the first letter below 0

module _ (x : List ℤ) where
  found : first_below x < length x → FirstBelow x (first_below x)
  unfolding first_below
  found h = record { within = h; here = first_true (below_at x) (length x) h; before = λ j l. passed (below_at x) 0 (length x) j (omega arith) l }

  finds : {i : ℕ} → FirstBelow x i → i ≡ first_below x
  unfolding first_below
  finds {i} f = go (less? i at) (less? at i)
    where
      at : ℕ
      at = first (below_at x) 0 (length x)

      some : below_at x at ≡ true
      some = (first_holds (below_at x) 0 (length x) i (omega arith) (omega (arith, f.within)) f.here).0

      go : LessView i at → LessView at i → i ≡ at
      go (lt l e) b = absurd (omega (arith, ap bit (sym (passed (below_at x) 0 (length x) i (omega arith) l) ∙ f.here)))
      go (ge l e) (lt k d) = absurd (omega (arith, ap bit (sym (f.before at k) ∙ some)))
      go (ge l e) (ge k d) = omega arith

-- ---- check 15

module _ (q : ℕ) (x : List ℤ) where
  refused_by : {i : ℕ} → inverse_verdict q x ≡ Err (R.NoInverse i) → (q % 2 ≡ 0) × FirstBelow x i
  unfolding inverse_verdict
  refused_by {i} e = go (less (first_below x) (length x)) refl (has_inverse word_modulus q) refl e
    where
      go : (a : Bool) → less (first_below x) (length x) ≡ a → (b : Bool) → has_inverse word_modulus q ≡ b
          → unless (a && not b) (R.NoInverse (first_below x)) ≡ Err (R.NoInverse i) → (q % 2 ≡ 0) × FirstBelow x i
      go false f b g k = absurd (omega (arith, ap (λ v. (verdict_report v).number) k))
      go true f true g k = absurd (omega (arith, ap (λ v. (verdict_report v).number) k))
      go true f false g k =
          let same : first_below x ≡ i = ap (λ v. (verdict_report v).place) k in
          (none_even q g, rw (← same) (found x (less_true (first_below x) (length x) f)))

pub no_inverse : (m q : ℕ) (x : List ℤ) (h : List ℕ) (i : ℕ)
    → (verdict_of (act_signed_word_call m q x h).answer ≡ Err (R.NoInverse i))
    ↔ (((rank_verdict m then size_verdict m (length h) then signed_word_verdict m x) ≡ Ok tt) × (q % 2 ≡ 0) × FirstBelow x i)
no_inverse m q x h i = (
  λ e.
      let l = later three (inverse_verdict q x) (early m (length h) x) (sym (signed_verdict_lem m q x h) ∙ e) in
      let r = refused_by q x l.1 in
      (l.0, r.0, r.1),
  λ c. signed_verdict_lem m q x h ∙ ap (λ v. v then inverse_verdict q x) c.0
      ∙ sym (some_below q x ((word_inverses q).even c.1) (finds x c.2) c.2.within),
)
  where
    three : Verdict
    three = rank_verdict m then size_verdict m (length h) then signed_word_verdict m x
