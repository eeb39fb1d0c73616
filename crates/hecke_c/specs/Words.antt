-- What the returned words tell, of every call and for all inputs (proofs/Words: `words`).
--
--   Words    the word that a call returns is the number of what is refused plus 256 times its place, and so tells both: 0 where nothing is refused
use Rattle.std.specs.Prelude.{List, ℕ, ℤ}
use Rattle.refusals.specs.Refusals.{verdict_report, answer_report}
use Rattle.perm_calls.specs.Calls.{tower_of_call, images_of_call, inverse_call, product_call, length_call, standard_word_call, descents_call, counted_report, generators_report}
use Rattle.element_calls.specs.Calls.{valued_report, sum_call, scale_call, act_word_call, act_signed_word_call, pairing_call, trace_call}
use Rattle.element_calls.specs.Calls as elements
use Rattle.sheet.specs.Check.{check_sheet}
use Rattle.runner.specs.Run.{run_call}
use Rattle.returned.specs.Returned.{Tells}
use Rattle.hecke_c.specs.Calls as calls

pub record Words : Type 0 where
  pub tower_of_images_lem : (w tower : List ℕ) → Tells (calls.tower_of_images w tower).word (verdict_report (tower_of_call w tower).answer)
  pub images_of_tower_lem : (t images : List ℕ) → Tells (calls.images_of_tower t images).word (verdict_report (images_of_call t images).answer)
  pub tower_inverse_lem : (t result : List ℕ) → Tells (calls.tower_inverse t result).word (verdict_report (inverse_call t result).answer)
  pub tower_product_lem : (t u result : List ℕ) → Tells (calls.tower_product t u result).word (verdict_report (product_call t u result).answer)
  pub tower_length_lem : (t answer : List ℕ) → Tells (calls.tower_length t answer).word (counted_report (length_call t))
  pub tower_word_lem : (t x answer : List ℕ) → Tells (calls.tower_word t x answer).word (counted_report (standard_word_call t x).answer)
  pub tower_descents_lem : (t answer : List ℕ) → Tells (calls.tower_descents t answer).word (generators_report (descents_call t))
  pub sum : (m : ℕ) (h g result answer : List ℕ) → Tells (calls.sum m h g result answer).word (answer_report (sum_call m h g result).answer)
  pub scale : (m c : ℕ) (h result answer : List ℕ) → Tells (calls.scale m c h result answer).word (answer_report (scale_call m c h result).answer)
  pub act_word_lem : (m q : ℕ) (x h answer : List ℕ) → Tells (calls.act_word m q x h answer).word (answer_report (act_word_call m q x h).answer)
  pub act_signed_word_lem : (m q : ℕ) (x : List ℤ) (h answer : List ℕ)
      → Tells (calls.act_signed_word m q x h answer).word (answer_report (act_signed_word_call m q x h).answer)
  pub product : (m q : ℕ) (h g result scratch answer : List ℕ)
      → Tells (calls.product m q h g result scratch answer).word (answer_report (elements.product_call m q h g result scratch).answer)
  pub pairing : (m q : ℕ) (h g answer : List ℕ) → Tells (calls.pairing m q h g answer).word (valued_report (pairing_call m q h g))
  pub trace : (m q z : ℕ) (h scratch answer : List ℕ) → Tells (calls.trace m q z h scratch answer).word (valued_report (trace_call m q z h scratch).answer)
  pub sheet_check_lem : (s : List ℕ) → Tells (calls.sheet_check s) (verdict_report (check_sheet s))
  pub run_sheet_lem : (s registers answer : List ℕ) → Tells (calls.run_sheet s registers answer).word (answer_report (run_call s registers).answer)
