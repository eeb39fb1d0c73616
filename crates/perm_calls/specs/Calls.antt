-- The calls on permutations and towers, whole: for all lists, what a call answers and what its buffer then holds.
--
--   found i n                     what a search among n numbers finds, where it ends at i: nothing if it ends at n
--   bad_image w i                 the image at an index is 0, too large or already seen
--   first_bad_image w             the index of the first such image, else the number of images
--   first_bad_entry t             the index of the first entry a_j above j, else the number of entries
--   images_verdict w              5 and 6: on an image list
--   entries_verdict t             7: on the entries of a tower
--   tower_verdict t               5 and 7: on a tower
--   towers_verdict t u            5 and 7: on two towers of one length
--   exact size n                  8: on the size of a buffer for a result of n bytes
--   room size n                   8: on the size of a buffer for a word of n letters
--   write v b x                   how a call ends that writes the list x into the buffer b
--   counted v n, spell v b x      the answer of a call that counts; the same with a word that is written, after whose letters the buffer stays
--   generators v p m              the answer of a call for a set of generators, those at which p holds
--   x_call                        the call x
--   counted_report a              number, place and count of the answer of a call that counts
--   generators_report a           the same of the answer for a set of generators
--   generators_mask a             its mask, 0 for a refusal
use Rattle.std.specs.Prelude.{Bool, not, ◌||◌, cond, List, ◌++◌, ℕ, suc, ◌+◌, length, get_or, take, drop, Option, Some, None, Result, Ok, Err}
use Rattle.lists.specs.Lists.{same, less, first, count}
use Rattle.refusals.specs.Refusals.{Verdict, ◌then◌, unless, Report, reported, Outcome, ended}
use Rattle.refusals.specs.declared.Refusal.{Refusal}
use Rattle.refusals.specs.declared.Refusal.TheVariants.{Length, Image, Entry, Buffer}
use Rattle.perms.specs.Permutation.{product, inverse, len, descent}
use Rattle.perms.specs.Tower.{tower_of, standard, images_of, mask, number}
use Rattle.perm_calls.specs.declared.Generators.{Generators}

-- ---- the checks

abbrev pub found : ℕ → ℕ → Option ℕ
found i n = cond (less i n) (Some i) None

unfoldable pub bad_image : List ℕ → ℕ → Bool
bad_image w i = let x = get_or w i 0 in same x 0 || less (length w) x || less 0 (count x (take i w))

unfoldable pub first_bad_image : List ℕ → ℕ
first_bad_image w = first (bad_image w) 0 (length w)

-- the entry at index i is a_(i+1)
unfoldable pub first_bad_entry : List ℕ → ℕ
first_bad_entry t = first (λ i. less (suc i) (get_or t i 0)) 0 (length t)

unfoldable pub images_verdict : List ℕ → Verdict
images_verdict w =
    unless (same (length w) 0 || less 64 (length w)) Length
    then unless (less (first_bad_image w) (length w)) (Image (first_bad_image w))

unfoldable pub entries_verdict : List ℕ → Verdict
entries_verdict t = unless (less (first_bad_entry t) (length t)) (Entry (first_bad_entry t))

unfoldable pub tower_verdict : List ℕ → Verdict
tower_verdict t = unless (less 63 (length t)) Length then entries_verdict t

unfoldable pub towers_verdict : List ℕ → List ℕ → Verdict
towers_verdict t u =
    unless (less 63 (length t) || less 63 (length u) || not (same (length t) (length u))) Length
    then entries_verdict t then entries_verdict u

unfoldable pub exact : ℕ → ℕ → Verdict
exact size n = unless (not (same size n)) Buffer

unfoldable pub room : ℕ → ℕ → Verdict
room size n = unless (less size n) Buffer

-- ---- the calls

abbrev pub write : Verdict → List ℕ → List ℕ → Outcome Verdict (List ℕ)
write v buffer result = ended v Err (Ok tt) buffer result

-- one entry less than there are images
unfoldable pub tower_of_call : List ℕ → List ℕ → Outcome Verdict (List ℕ)
tower_of_call w buffer = write (images_verdict w then exact (length buffer + 1) (length w)) buffer (tower_of w)

unfoldable pub images_of_call : List ℕ → List ℕ → Outcome Verdict (List ℕ)
images_of_call t buffer = write (tower_verdict t then exact (length buffer) (length t + 1)) buffer (images_of t)

unfoldable pub inverse_call : List ℕ → List ℕ → Outcome Verdict (List ℕ)
inverse_call t buffer = write (tower_verdict t then exact (length buffer) (length t)) buffer (tower_of (inverse (images_of t)))

unfoldable pub product_call : List ℕ → List ℕ → List ℕ → Outcome Verdict (List ℕ)
product_call t u buffer = write (towers_verdict t u then exact (length buffer) (length t)) buffer (tower_of (product (images_of t) (images_of u)))

abbrev pub counted : Verdict → ℕ → Result ℕ Refusal
counted (Ok _) n = Ok n
counted (Err why) n = Err why

unfoldable pub length_call : List ℕ → Result ℕ Refusal
length_call t = counted (tower_verdict t) (len (images_of t))

abbrev pub spell : Verdict → List ℕ → List ℕ → Outcome (Result ℕ Refusal) (List ℕ)
spell v buffer word = ended v Err (Ok (length word)) buffer (word ++ drop (length word) buffer)

unfoldable pub standard_word_call : List ℕ → List ℕ → Outcome (Result ℕ Refusal) (List ℕ)
standard_word_call t buffer = spell (tower_verdict t then room (length buffer) (len (images_of t))) buffer (standard t)

abbrev pub generators : Verdict → (ℕ → Bool) → ℕ → Result Generators Refusal
generators (Ok _) p m = Ok (record { mask = mask p m; count = number p m })
generators (Err why) p m = Err why

unfoldable pub descents_call : List ℕ → Result Generators Refusal
descents_call t = generators (tower_verdict t) (descent (length t) (images_of t)) (length t)

-- ---- what the answers say

abbrev pub counted_report : Result ℕ Refusal → Report
counted_report (Ok n) = reported (Ok tt) n
counted_report (Err why) = reported (Err why) 0

abbrev pub generators_report : Result Generators Refusal → Report
generators_report (Ok set) = reported (Ok tt) set.count
generators_report (Err why) = reported (Err why) 0

abbrev pub generators_mask : Result Generators Refusal → ℕ
generators_mask (Ok set) = set.mask
generators_mask (Err why) = 0
