-- What a call for C and Rust gives back: one word, what is lent to it, and words at the front of a lent answer.
--
--   word_of r                  0 where nothing is refused, else the refusal's number plus 256 times its place, modulo 2^64
--   fill xs answer             the words xs at the front of a list, as many as it has room for
--   number_words n             the words of a number, which is its own one
--   count_words a              the words of an answer that counts: its count
--   set_words s                the words of a set of generators: its mask, and the number of its set bits
--   told words r answer        the answer: with the words of what is answered at its front if nothing is refused, and else as it was
--   Tells w r                  the word w tells the number and the place of the report r
--   Returned A                 the word, and what is lent, as the call leaves it
--   Answered A                 the same with the answer
--   returns words r answer     what is returned and answered where r is what is answered or why it is refused
use Rattle.std.specs.Prelude.{◌≡◌, List, [], ◌∷◌, ℕ, ◌+◌, ◌*◌, ◌/◌, ◌%◌, ◌^◌, Result, Ok, Err}
use Rattle.refusals.specs.Refusals.{verdict_of, verdict_report, Report}
use Rattle.refusals.specs.declared.Refusal.{Refusal}
use Rattle.refusals.specs.declared.Answer.{Answer}
use Rattle.perm_calls.specs.declared.Generators.{Generators}

unfoldable pub word_of : Report → ℕ
word_of r = (r.number + 256 * r.place) % 2 ^ 64

unfoldable pub fill : List ℕ → List ℕ → List ℕ
fill [] answer = answer
fill (x ∷ xs) [] = []
fill (x ∷ xs) (old ∷ answer) = x ∷ fill xs answer

abbrev pub number_words : ℕ → List ℕ
number_words n = n ∷ []

abbrev pub count_words : Answer → List ℕ
count_words a = a.count ∷ []

abbrev pub set_words : Generators → List ℕ
set_words s = s.mask ∷ s.count ∷ []

abbrev pub told : {A : Type 0} → (A → List ℕ) → Result A Refusal → List ℕ → List ℕ
told words (Ok a) answer = fill (words a) answer
told words (Err why) answer = answer

pub record Tells (w : ℕ) (r : Report) : Type 0 where
  pub whole : w ≡ r.number + 256 * r.place
  pub number : w % 256 ≡ r.number
  pub place : w / 256 ≡ r.place

pub record Returned (A : Type 0) : Type 0 where
  pub word : ℕ
  pub lent : A

pub record Answered (A : Type 0) : Type 0 where
  pub word : ℕ
  pub lent : A
  pub answer : List ℕ

abbrev pub returns : {A : Type 0} → (A → List ℕ) → Result A Refusal → List ℕ → Returned (List ℕ)
returns words r answer = record { word = word_of (verdict_report (verdict_of r)); lent = told words r answer }
