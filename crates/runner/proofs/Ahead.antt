-- The commands of an accepted sheet from an offset on: the one that stands there, and those after it; each may run. Rests on sheet's Accepted
-- and Limit, and on operands' InRange and Allowed.
use mathlib.Core.Path.{◌≡◌, ap}
use mathlib.Core.Logic.{⊎_elim}
use mathlib.Core.Bool.{true, false}
use mathlib.Core.List.{List, [], ◌∷◌}
use Prim.Native.Nat.{ℕ, zero, suc, ◌-◌, ◌≤◌, ◌<◌}
use native.Mathlib.Omega.{arith}
use lib.ListN.{length}
use Rattle.lists.specs.Lists.{All}
use Rattle.sheet_format.specs.Format.{header}
use Rattle.sheet_format.specs.declared.Command.{Command}
use Rattle.sheet_format.proofs.Offsets.{found_within}
use Rattle.operands.specs.Operands.{may_run}
use Rattle.operands.proofs.InRange.{low}
use Rattle.operands.proofs.Allowed.{in_range_lem}
use Rattle.sheet.specs.Check.{is_end, placed_from, placed, commands, check_sheet}
use Rattle.sheet.proofs.Limit.{placed_enough}
use Rattle.sheet.proofs.CheckFrom.{check_from}
use Rattle.sheet.proofs.Accepted.{Next, accepted_start, accepted_next}
use Rattle.runner.specs.Turn.{ahead}
use Rattle.std.proofs.Common.{Ok}

module _ (s : List ℕ) where
  pub ahead_start : ahead s 0 ≡ commands (placed s)
  unfolding placed
  ahead_start = ap (λ n. commands (placed_from (suc n) s 0)) (omega arith)

  module _ (at : ℕ) (n : Next s at) where
    pub ahead_last : is_end n.command ≡ true → ahead s at ≡ n.command ∷ []
    unfolding placed_from commands
    ahead_last e = rw (n.stands, e)

    pub ahead_next : is_end n.command ≡ false → ahead s at ≡ n.command ∷ ahead s n.after
    unfolding placed_from commands
    ahead_next e = let w = found_within s at n.stands in
        rw (n.stands, e) (ap {B = List Command} (λ ps. n.command ∷ commands ps)
        (placed_enough (length s - at) (suc (length s - n.after)) s n.after (omega (arith, w)) (omega arith)))

  pub rank_low : check_sheet s ≡ Ok tt → (header s).rank ≤ 5
  rank_low a = let n = accepted_next s 0 (accepted_start s a).2 in
      low (header s).rank n.command (in_range_lem (header s) n.command n.runs)

  may_run_from : (k at : ℕ) → length s - at < k → check_from s at ≡ Ok tt → All (λ c. may_run (header s) c ≡ true) (ahead s at)
  may_run_from zero at h a = absurd (omega arith)
  may_run_from (suc k) at h a =
      let n = accepted_next s at a in
      let w = found_within s at n.stands in
      ⊎_elim (λ l. rw (ahead_last at n l.0) (n.runs, tt))
      (λ l. rw (ahead_next at n l.0) (n.runs, may_run_from k n.after (omega (arith, w)) l.1)) n.rest

  pub all_may_run : check_sheet s ≡ Ok tt → All (λ c. may_run (header s) c ≡ true) (commands (placed s))
  all_may_run a = rw (ahead_start) at (may_run_from (suc (length s)) 0 (omega arith) (accepted_start s a).2)
