-- The check of a sheet is the check from any offset that good commands lead to, and what that says of the end. Rests on Begun and Accepted.
use mathlib.Core.Path.{◌≡◌, refl, ap, subst, ◌∙◌}
use mathlib.Core.Logic.{◌≢◌}
use mathlib.Core.List.{List, [], ◌∷◌, ◌++◌}
use Prim.Native.Nat.{ℕ}
use native.Mathlib.Omega.{arith}
use lib.ListN.{length}
use Rattle.lists.specs.Lists.{less}
use Rattle.refusals.specs.Refusals.{unless}
use Rattle.refusals.specs.declared.Refusal.TheVariants.{Ending}
use Rattle.sheet_format.specs.declared.Command.{Command}
use Rattle.sheet_format.specs.declared.Command.TheVariants.{End}
use Rattle.sheet.specs.Check.{check_sheet}
use Rattle.sheet.specs.Table.{Good, Link, Leads, Reached, Ended}
use Rattle.sheet.proofs.CheckFrom.{check_from}
use Rattle.sheet.proofs.Cases.{taken_on, taken_end}
use Rattle.sheet.proofs.Begun.{Begun, goes_on, begun_on, taken}
use Rattle.sheet.proofs.Accepted.{sized}

led : (s : List ℕ) (at to : ℕ) (ls : List Link) → Begun s at → Leads s at ls to → (check_from s at ≡ check_from s to) × Begun s to
led s at to [] b h = (ap (check_from s) h, subst (Begun s) h b)
led s at to (l ∷ ls) b h = let rest = led s l.after to ls (begun_on h.0 b) h.2 in
    (taken_on s at (taken h.0 b) (goes_on l.command h.1) ∙ rest.0, rest.1)

pub reached : {s : List ℕ} {at : ℕ} → Reached s at → (check_sheet s ≡ check_from s at) × Begun s at
reached {s} {at} r = let way = led s 0 at r.links (λ l. absurd (omega arith)) r.leads in (sized s r.least r.most ∙ way.0, way.1)

module _ {s : List ℕ} {at : ℕ} {c : Command} {after : ℕ} (g : Good s at c after) (n : c ≢ End) where
  link : Link
  link = record { command = c; after = after }

  leads_on : (from : ℕ) (ls : List Link) → Leads s from ls at → Leads s from (ls ++ (link ∷ [])) after
  unfolding link
  leads_on from [] h = (rw h g, n, refl)
  leads_on from (l ∷ ls) h = (h.0, h.1, leads_on l.after ls h.2)

  pub reached_on : Reached s at → Reached s after
  reached_on r = record { least = r.least; most = r.most; links = r.links ++ (link ∷ []); leads = leads_on 0 r.links r.leads }

pub end_checked : {s : List ℕ} {after : ℕ} → Ended s after → check_sheet s ≡ unless (less after (length s)) (Ending after)
end_checked {s} e = let way = reached e.reached in way.0 ∙ taken_end s e.at (taken e.good way.1) refl
