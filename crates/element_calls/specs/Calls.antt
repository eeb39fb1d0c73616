-- The element calls, whole: for all inputs, what a call answers and what its lent slices then hold (document 01, "Elements and their product" and
-- "Where each thing is checked", and document 02, Tickets 1, 2, 4 and 5).
--
--   rank_verdict m                1: on the rank
--   size_verdict m n              2: on an element's slice of n words
--   scratch_verdict m n           3: on a scratch slice of n words
--   first_bad_letter m x          the index of the first letter that is 0 or above m, else the number of letters
--   word_verdict m x              4: on a word
--   first_bad_signed m x          the same of signed letters: the first that is 0 or outside -m to m
--   signed_word_verdict m x       4: on a word of signed letters
--   first_below x                 the index of the first letter below 0, else the number of letters
--   inverse_verdict q x           15: on a word of signed letters, for q
--   signed_verdict m n q x        the checks of the action of such a word on a slice of n words
--   Buffers                       the result slice and the scratch that are lent to a product
--   write v old new n             what is lent becomes new and counts n, if nothing is refused
--   valued v x                    the answer of a call that gives the word x, if nothing is refused
--   valued_report a               the report of such an answer, which counts 0
--   give v x old new              what is lent becomes new and the answer is the word x, if nothing is refused
--   xCall                         the call x
--
-- A rank above 6 has the size 0: checks 2 and 3 are judged after check 1.
use Rattle.std.specs.Prelude.{not, ◌&&◌, ◌||◌, List, ◌++◌, ℕ, suc, ◌*◌, ◌/◌, length, get_or, drop, replicate, ℤ, pos, nat_abs, Result, Ok, Err}
use Rattle.ring.specs.Modular.{word_modulus, words}
use Rattle.lists.specs.Lists.{same, less, first}
use Rattle.lists.specs.Numbers.{factorial}
use Rattle.inverses.specs.Inverses.{has_inverse}
use Rattle.refusals.specs.Refusals.{Verdict, Answered, ◌then◌, unless, accepted, refused, verdict_of, Report, verdict_report, Outcome, ended}
use Rattle.refusals.specs.declared.Refusal.TheVariants.{Rank, Size, Scratch, Word, Letter, NoInverse}
use Rattle.refusals.specs.declared.Refusal.{Refusal}
use Rattle.algebra.specs.Element.{plus, scale}
use Rattle.algebra.specs.Product.{act, times}
use Rattle.algebra.specs.Nested.{operations, falling, nested}
use Rattle.algebra.specs.Pairing.{pairing}
use Rattle.signed_words.specs.Words.{is_below, signed_act}
use Rattle.markov_trace.specs.Trace.{trace}
use Rattle.ranks.specs.Ranks.{size, needed, scratch_size}
use Rattle.element_calls.specs.Coefficients.{ring, parameters_of, inverse_parameters}

-- ---- the checks

unfoldable pub rank_verdict : ℕ → Verdict
rank_verdict m = unless (less 6 m) Rank

unfoldable pub size_verdict : ℕ → ℕ → Verdict
size_verdict m n = unless (not (same n (size m))) Size

unfoldable pub scratch_verdict : ℕ → ℕ → Verdict
scratch_verdict m n = unless (less n (scratch_size m)) Scratch

unfoldable pub first_bad_letter : ℕ → List ℕ → ℕ
first_bad_letter m x = first (λ i. let letter = get_or x i 0 in same letter 0 || less m letter) 0 (length x)

unfoldable pub word_verdict : ℕ → List ℕ → Verdict
word_verdict m x = unless (less 4096 (length x)) Word then unless (less (first_bad_letter m x) (length x)) (Letter (first_bad_letter m x))

unfoldable pub first_bad_signed : ℕ → List ℤ → ℕ
first_bad_signed m x = first (λ i. let letter = nat_abs (get_or x i (pos 0)) in same letter 0 || less m letter) 0 (length x)

unfoldable pub signed_word_verdict : ℕ → List ℤ → Verdict
signed_word_verdict m x = unless (less 4096 (length x)) Word then unless (less (first_bad_signed m x) (length x)) (Letter (first_bad_signed m x))

unfoldable pub first_below : List ℤ → ℕ
first_below x = first (λ i. is_below (get_or x i (pos 0))) 0 (length x)

unfoldable pub inverse_verdict : ℕ → List ℤ → Verdict
inverse_verdict q x = unless (less (first_below x) (length x) && not (has_inverse word_modulus q)) (NoInverse (first_below x))

abbrev pub signed_verdict : (m n q : ℕ) → List ℤ → Verdict
signed_verdict m n q x = rank_verdict m then size_verdict m n then signed_word_verdict m x then inverse_verdict q x

-- ---- the calls

pub record Buffers : Type 0 where
  pub result : List ℕ
  pub scratch : List ℕ

abbrev pub write : {A : Type 0} → Verdict → A → A → ℕ → Outcome Answered A
write v old new n = ended v refused (accepted n) old new

abbrev pub valued : Verdict → ℕ → Result ℕ Refusal
valued (Ok _) x = Ok x
valued (Err why) x = Err why

abbrev pub valued_report : Result ℕ Refusal → Report
valued_report a = verdict_report (verdict_of a)

abbrev pub give : {A : Type 0} → Verdict → ℕ → A → A → Outcome (Result ℕ Refusal) A
give v x old new = ended v (λ why. valued (Err why) x) (valued (Ok tt) x) old new

unfoldable pub sum_call : (m : ℕ) (h g result : List ℕ) → Outcome Answered (List ℕ)
sum_call m h g result =
    write (rank_verdict m then size_verdict m (length h) then size_verdict m (length g) then size_verdict m (length result))
    result (plus ℕ words h g) (factorial (suc m))

unfoldable pub scale_call : (m c : ℕ) (h result : List ℕ) → Outcome Answered (List ℕ)
scale_call m c h result =
    write (rank_verdict m then size_verdict m (length h) then size_verdict m (length result))
    result (scale ℕ words c h) (factorial (suc m))

unfoldable pub act_word_call : (m q : ℕ) (x h : List ℕ) → Outcome Answered (List ℕ)
act_word_call m q x h =
    let p = parameters_of q in
    write (rank_verdict m then size_verdict m (length h) then word_verdict m x)
    h (act ℕ (ring p) p.q p.r m x h) (length x * (3 * factorial (suc m) / 2))

unfoldable pub act_signed_word_call : (m q : ℕ) (x : List ℤ) (h : List ℕ) → Outcome Answered (List ℕ)
act_signed_word_call m q x h =
    let p = parameters_of q in
    let p' = inverse_parameters q in
    write (signed_verdict m (length h) q x)
    h (signed_act ℕ (ring p) p.q p.r p'.q p'.r m x h) (length x * (3 * factorial (suc m) / 2))

unfoldable pub product_call : (m q : ℕ) (h g result scratch : List ℕ) → Outcome Answered Buffers
product_call m q h g result scratch =
    let p = parameters_of q in
    write (rank_verdict m then size_verdict m (length h) then size_verdict m (length g) then size_verdict m (length result) then scratch_verdict m (length scratch))
    (record { result = result; scratch = scratch })
    (record { result = times ℕ (ring p) p.q p.r m m h g; scratch = replicate (needed m) 0 ++ drop (needed m) scratch })
    (operations (nested ℕ (ring p) p.q p.r falling m m h g).count)

unfoldable pub pairing_call : (m q : ℕ) (h g : List ℕ) → Result ℕ Refusal
pairing_call m q h g =
    let p = parameters_of q in
    valued (rank_verdict m then size_verdict m (length h) then size_verdict m (length g)) (pairing ℕ (ring p) p.q m h g)

unfoldable pub trace_call : (m q z : ℕ) (h scratch : List ℕ) → Outcome (Result ℕ Refusal) (List ℕ)
trace_call m q z h scratch =
    let p = parameters_of q in
    give (rank_verdict m then size_verdict m (length h) then scratch_verdict m (length scratch))
    (trace ℕ (ring p) p.q p.r z m h) scratch (replicate (needed m) 0 ++ drop (needed m) scratch)
