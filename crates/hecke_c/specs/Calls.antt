-- The calls for C and Rust: for all inputs, the returned word, the lent slices and the answer.
--
--   verdict_call o                   what a call gives that answers with a verdict and ends as o
--   answered_call words o answer     the same of a call that answers, where `words` gives the words of its answer
--   tower_of_images, .., run_sheet   the calls hecke_tower_of_images to hecke_run_sheet, in the order of include/hecke.h
use Rattle.std.specs.Prelude.{List, ℕ, ℤ, Result}
use Rattle.refusals.specs.Refusals.{Verdict, verdict_report, Outcome}
use Rattle.refusals.specs.declared.Refusal.{Refusal}
use Rattle.perm_calls.specs.Calls.{tower_of_call, images_of_call, inverse_call, product_call, length_call, standard_word_call, descents_call}
use Rattle.element_calls.specs.Calls.{Buffers, sum_call, scale_call, act_word_call, act_signed_word_call, pairing_call, trace_call}
use Rattle.element_calls.specs.Calls as elements
use Rattle.sheet.specs.Check.{check_sheet}
use Rattle.runner.specs.Run.{run_call}
use Rattle.returned.specs.Returned.{word_of, number_words, count_words, set_words, Returned, Answered, returns}

abbrev pub verdict_call : {A : Type 0} → Outcome Verdict A → Returned A
verdict_call o = record { word = word_of (verdict_report o.answer); lent = o.lent }

abbrev pub answered_call : {A B : Type 0} → (A → List ℕ) → Outcome (Result A Refusal) B → List ℕ → Answered B
answered_call words o answer = let r = returns words o.answer answer in record { word = r.word; lent = o.lent; answer = r.lent }

-- ---- permutations and towers

abbrev pub tower_of_images : (images tower : List ℕ) → Returned (List ℕ)
tower_of_images images tower = verdict_call (tower_of_call images tower)

abbrev pub images_of_tower : (tower images : List ℕ) → Returned (List ℕ)
images_of_tower tower images = verdict_call (images_of_call tower images)

abbrev pub tower_inverse : (tower result : List ℕ) → Returned (List ℕ)
tower_inverse tower result = verdict_call (inverse_call tower result)

abbrev pub tower_product : (left right result : List ℕ) → Returned (List ℕ)
tower_product left right result = verdict_call (product_call left right result)

abbrev pub tower_length : (tower answer : List ℕ) → Returned (List ℕ)
tower_length tower answer = returns number_words (length_call tower) answer

abbrev pub tower_word : (tower word answer : List ℕ) → Answered (List ℕ)
tower_word tower word answer = answered_call number_words (standard_word_call tower word) answer

-- the mask, and the number of its set bits
abbrev pub tower_descents : (tower answer : List ℕ) → Returned (List ℕ)
tower_descents tower answer = returns set_words (descents_call tower) answer

-- ---- elements

abbrev pub sum : (m : ℕ) (left right result answer : List ℕ) → Answered (List ℕ)
sum m left right result answer = answered_call count_words (sum_call m left right result) answer

abbrev pub scale : (m c : ℕ) (element result answer : List ℕ) → Answered (List ℕ)
scale m c element result answer = answered_call count_words (scale_call m c element result) answer

abbrev pub act_word : (m q : ℕ) (word element answer : List ℕ) → Answered (List ℕ)
act_word m q word element answer = answered_call count_words (act_word_call m q word element) answer

abbrev pub act_signed_word : (m q : ℕ) (word : List ℤ) (element answer : List ℕ) → Answered (List ℕ)
act_signed_word m q word element answer = answered_call count_words (act_signed_word_call m q word element) answer

abbrev pub product : (m q : ℕ) (left right result scratch answer : List ℕ) → Answered Buffers
product m q left right result scratch answer = answered_call count_words (elements.product_call m q left right result scratch) answer

abbrev pub pairing : (m q : ℕ) (left right answer : List ℕ) → Returned (List ℕ)
pairing m q left right answer = returns number_words (pairing_call m q left right) answer

abbrev pub trace : (m q z : ℕ) (element scratch answer : List ℕ) → Answered (List ℕ)
trace m q z element scratch answer = answered_call number_words (trace_call m q z element scratch) answer

-- ---- sheets

abbrev pub sheet_check : List ℕ → ℕ
sheet_check sheet = word_of (verdict_report (check_sheet sheet))

abbrev pub run_sheet : (sheet registers answer : List ℕ) → Answered (List ℕ)
run_sheet sheet registers answer = answered_call count_words (run_call sheet registers) answer
