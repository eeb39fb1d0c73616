-- Every row of the table of marked cases holds, by computation.
use mathlib.Core.Path.{refl}
use Rattle.ring.specs.Modular.{modular}
use Rattle.lists.specs.Lists.{All, same, less, range, first, tally}
use Rattle.lists.specs.Numbers.{factorial, series}
use Rattle.lists.specs.Sums.{onto, sum_by}
use Rattle.lists.specs.Blocks.{block, blocks}
use Rattle.lists.specs.Overwrite.{overwrite}
use Rattle.refusals.specs.Refusals.{ended}
use Rattle.perms.specs.Permutation.{product, identity, inverse, swap, generator, of_word, below, len, descent}
use Rattle.perms.specs.Tower.{above, entry, tower_of, cycle, of_cycles, images_of}
use Rattle.perms.specs.ShortestWord.{first_letters, shortest_word}
use Rattle.algebra.specs.Place.{place, join, perms}
use Rattle.algebra.specs.Element.{coefficient, element, plus, scale, sum_over, basis, unit}
use Rattle.algebra.specs.Product.{minus_one, letter, act, times}
use Rattle.algebra.specs.Nested.{operations, both, rising, falling, free, onward, ◌⧺◌, row, ◌⊞◌, ◌⊠◌, sum_along, part, level, nested_act, nested}
use Rattle.algebra.specs.Cost.{c_line, c, C}
use Rattle.algebra.specs.Pairing.{power, pairing}
use Rattle.ring.specs.Sum.{sum}
use Rattle.markov_trace.specs.Trace.{turned, trace}
use Rattle.ranks.specs.Ranks.{size, needed, scratch_size}
use Rattle.element_calls.specs.Coefficients.{modulus}
use Rattle.element_calls.specs.Calls.{rank_verdict, size_verdict, scratch_verdict, product_call, pairing_call, trace_call}
use Rattle.sheet_format.specs.Format.{byte, number, row as command-row, decode, header}
use Rattle.operands.specs.Operands.{is_register, update_in_range, query_in_range, operands_in_range, in_range, invertible, may_run}
use Rattle.sheet.specs.Check.{in_order, placed_from, placed, commands, first_refusal, check_sheet}
use Rattle.costs.specs.Costs.{update_cost, cost}
use Rattle.machine.specs.Registers.{register, zeros, element as register-element}
use Rattle.machine.specs.Step.{updated, obey}
use Rattle.runner.specs.Run.{obey_all, run_sheet}
use Rattle.runner.specs.Turn.{begin_call, fits, obeys, turn_call, turns}
use Rattle.output.specs.Text.{digits, decimal, pair_line, line, tagged_pair, coefficients}
use Rattle.output.specs.Printed.{shown, text, texts, printed}
use Rattle.marked.specs.Table.{Holds, table}

-- a row of the table, and the rows after it
infixr 30 ◌and◌
◌and◌ : {A B : Type 0} → A → B → A × B
a and b = (a, b)

pub marked : All Holds table
unfolding modular same less range first tally product identity swap generator of_word below len above entry tower_of cycle of_cycles
    images_of descent first_letters shortest_word factorial series block blocks place join perms coefficient element plus scale sum_over basis unit minus_one letter
    act times operations both rising falling onto sum_by free onward ◌⧺◌ row ◌⊞◌ ◌⊠◌ sum_along part level nested_act nested c_line c C
    rank_verdict size size_verdict needed scratch_size scratch_verdict modulus product_call inverse sum power pairing pairing_call turned trace trace_call
    byte number command-row decode header in_order is_register update_in_range query_in_range operands_in_range in_range invertible may_run placed_from placed commands
    first_refusal check_sheet register register-element overwrite zeros updated obey update_cost cost obey_all run_sheet begin_call fits obeys turn_call turns
    digits decimal pair_line line tagged_pair coefficients shown text texts printed ended
marked =
    (refl, refl)
    and (refl, refl)
    and (refl, refl, refl, refl)
    and (refl, refl, refl, refl)
    and (refl, refl, refl, refl)
    and (refl, refl, refl)
    and (refl, refl, refl)
    and (refl, refl, refl)
    and (refl, refl, refl)
    and refl
    and refl
    and refl
    and refl
    and (refl, refl, refl)
    and (refl, refl, refl, refl)
    and (refl, refl, refl)
    and (refl, refl, refl)
    and refl
    and (refl, refl)
    and (refl, refl)
    and (refl, refl)
    and (refl, refl)
    and refl
    and tt
