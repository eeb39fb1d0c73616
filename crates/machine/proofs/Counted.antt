-- Obeying a command is a call of the library: the claim `Counted`. Rests on Put, Taken, InverseTaken, and operands' InRange and
-- Allowed.
use mathlib.Core.Path.{◌≡◌, refl, sym, ap, ◌∙◌}
use mathlib.Core.Bool.{true}
use mathlib.Core.List.{List, [], ◌∷◌}
use Prim.Native.Nat.{ℕ, ◌^◌, ◌<◌}
use native.Mathlib.Omega.{arith}
use lib.ListN.{length}
use Rattle.lists.proofs.All.{all_get_or}
use Rattle.refusals.specs.Refusals.{Answered}
use Rattle.sheet_format.specs.declared.Header.{Header}
use Rattle.sheet_format.specs.declared.Update.TheVariants as U
use Rattle.sheet_format.specs.declared.Command.{Command}
use Rattle.sheet_format.specs.declared.Command.TheVariants.{Change}
use Rattle.operands.specs.Operands.{in_range}
use Rattle.operands.proofs.InRange.{low, within}
use Rattle.operands.proofs.Allowed.{in_range_lem, has_inverse_lem}
use Rattle.costs.specs.Costs.{update_cost, cost}
use Rattle.machine.specs.Registers.{element, put}
use Rattle.machine.specs.Step.{updated, obey}
use Rattle.machine.specs.Counted.{Words, Obeying, Counted}
use Rattle.machine.proofs.Put.{Part, words_element}
use Rattle.machine.proofs.Taken.{Took, act_taken, scale_taken, sum_taken, product_taken}
use Rattle.machine.proofs.InverseTaken.{inverse_taken}

module _ (h : Header) (x : List ℕ) (c : Command) where
  part : {r : ℕ} → length x ≡ 2880 → Words x → in_range h.rank c ≡ true → r < 4 → Part h.rank (element h.rank r x) (element h.rank r x)
  part four each range one = record {
    is = refl;
    fit = words_element (record { low = low h.rank c range; whole = refl; four = four }) one (λ i l. all_get_or (λ n. n < 2 ^ 64) x i 0 l each);
  }

  -- the call left `last` for register r
  obeying : {a : Answered} {last new : List ℕ} {n : ℕ} (r : ℕ) → Took a last new n → cost h.rank c ≡ n → obey h c x ≡ put r new x
      → Obeying h x c a (put r last x)
  obeying r t counts makes = record {
    taken = t.taken;
    counts = counts ∙ sym t.counts;
    makes = makes ∙ ap (λ g. put r g x) (sym t.writes);
  }

pub counted : Counted
unfolding updated obey update_cost cost
counted h x old scratch word four each size large = record {
  letter = λ r i e. let c = Change (U.Letter r i) in let w = within h.rank c e refl in
      obeying h x c r
      (act_taken (low h.rank c e) h.q (i ∷ []) word (record { low = w.1; high = w.2 }, tt) (omega arith) (part h x c four each e w.0) refl)
      (omega arith) refl;
  inverse_letter_lem = λ r i a. let c = Change (U.InverseLetter r i) in let e = in_range_lem h c a in let w = within h.rank c e refl in
      obeying h x c r
      (inverse_taken h.q i (low h.rank c e) (has_inverse_lem h a refl) (record { low = w.1; high = w.2 }) (part h x c four each e w.0) refl refl)
      refl refl;
  product = λ d a b e. let c = Change (U.Product d a b) in let w = within h.rank c e refl in
      obeying h x c d
      (product_taken (low h.rank c e) old size (part h x c four each e w.1) (part h x c four each e w.2) h.q scratch word (omega arith) refl)
      refl refl;
  sum = λ d a b e. let c = Change (U.Sum d a b) in let w = within h.rank c e refl in
      obeying h x c d (sum_taken (low h.rank c e) old size (part h x c four each e w.1) (part h x c four each e w.2) refl) refl refl;
  scale = λ r v e. let c = Change (U.Scale r v) in
      obeying h x c r (scale_taken (low h.rank c e) old size v (part h x c four each e (within h.rank c e refl)) refl) refl refl;
  unit = λ r. refl;
  set = λ r i v. refl;
  begin = λ b. refl;
  end = (refl, refl);
  show = λ w. (refl, refl);
}
