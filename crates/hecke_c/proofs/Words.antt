-- Every returned word tells the number and the place of what is refused, since no place is above 4,096. Rests on returned's Told, the records `Refusals`
-- of perm_calls and element_calls, sheet's Table and runner's Runs.
use Rattle.refusals.specs.Refusals.{verdict_of}
use Rattle.perm_calls.specs.Calls as P
use Rattle.perm_calls.proofs.Refusals as perms
use Rattle.element_calls.specs.Calls as E
use Rattle.element_calls.proofs.Refusals as elements
use Rattle.sheet.specs.Check.{check_sheet}
use Rattle.sheet.proofs.Table.{exactly}
use Rattle.runner.specs.Run.{run_call}
use Rattle.runner.proofs.Runs.{runs}
use Rattle.returned.proofs.Told.{verdict_tells, answer_tells, counted_tells, generators_tells}
use Rattle.hecke_c.specs.Words.{Words}

pub words : Words
words = record {
  tower_of_images_lem = λ w tower. verdict_tells (P.tower_of_call w tower).answer ((perms.refusals).tower_of_lem w tower).refuses;
  images_of_tower_lem = λ t images. verdict_tells (P.images_of_call t images).answer ((perms.refusals).images_of_lem t images).refuses;
  tower_inverse_lem = λ t result. verdict_tells (P.inverse_call t result).answer ((perms.refusals).inverse t result).refuses;
  tower_product_lem = λ t u result. verdict_tells (P.product_call t u result).answer ((perms.refusals).product t u result).refuses;
  tower_length_lem = λ t answer. counted_tells (P.length_call t) ((perms.refusals).lengths t);
  tower_word_lem = λ t x answer. counted_tells (P.standard_word_call t x).answer ((perms.refusals).word t x).refuses;
  tower_descents_lem = λ t answer. generators_tells (P.descents_call t) ((perms.refusals).descents t);
  sum = λ m h g result answer. answer_tells (E.sum_call m h g result).answer ((elements.refusals).sum m h g result).refuses;
  scale = λ m c h result answer. answer_tells (E.scale_call m c h result).answer ((elements.refusals).scale m c h result).refuses;
  act_word_lem = λ m q x h answer. answer_tells (E.act_word_call m q x h).answer ((elements.refusals).act_word_lem m q x h).refuses;
  act_signed_word_lem = λ m q x h answer. answer_tells (E.act_signed_word_call m q x h).answer ((elements.refusals).act_signed_word_lem m q x h).refuses;
  product = λ m q h g result scratch answer.
      answer_tells (E.product_call m q h g result scratch).answer ((elements.refusals).product m q h g result scratch).refuses;
  pairing = λ m q h g answer. verdict_tells (verdict_of (E.pairing_call m q h g)) ((elements.refusals).pairing m q h g);
  trace = λ m q z h scratch answer. verdict_tells (verdict_of (E.trace_call m q z h scratch).answer) ((elements.refusals).trace m q z h scratch).refuses;
  sheet_check_lem = λ s. verdict_tells (check_sheet s) (exactly s).report;
  run_sheet_lem = λ s registers answer. answer_tells (run_call s registers).answer ((runs s).lent registers).refuses;
}
