-- The sum of the entries is that of the definition.
use Rattle.std.proofs.Common.{sym, refl, ◌∙◌, rules, tests}
use Rattle.std.proofs.lemmas.Iterator.{YieldsList-from_slice, YieldsList-from_map}
use Rattle.std.proofs.lemmas.Iterator.Consumers.{sum_by_from_yields_List}
use Rattle.std.proofs.lemmas.List.Recursion.{is_sum_by}
use Rattle.perms.specs.Tower.{total}
use Rattle.tower_words.proofs.entry_loops.total.Goals as goal

pub returns : goal.returns
unfolding total
returns c =
    let t = c.args.tower.now in
    sum_by_from_yields_List (λ a. a) t c.map.result _ c.sum.ensures.ran
    (YieldsList-from_map _ (λ a. a) (YieldsList-from_slice t cc) c.map.ensures.closure (λ x r q k. search (rules, tests))) ∙ sym (is_sum_by total (λ a. a) refl (λ a t. refl) t)
