-- Obeying a command is a call of the library, and what the command counts is what that call answers. The call is on the elements of the registers, as
-- they are before the command; a product is lent an old result and scratch, a sum and a multiple an old result, whatever these hold.
--
--   Words x                  x is a list of words
--   Obeying h x c a y        the call with the answer a is taken and counts what the command c counts, and c makes y of the registers x
--   Counts h x old scratch   the claim for one header h, registers x, an old result and scratch
--   Counted                  the claim
use Rattle.std.specs.Prelude.{◌≡◌, true, List, [], ◌∷◌, ℕ, suc, ◌^◌, ◌<◌, length, pos, neg_ℤ}
use Rattle.lists.specs.Lists.{All}
use Rattle.lists.specs.Numbers.{factorial}
use Rattle.refusals.specs.Refusals.{Answered, count_of}
use Rattle.element_calls.specs.Calls.{sum_call, scale_call, act_word_call, act_signed_word_call, product_call}
use Rattle.element_calls.specs.Claims.{Taken}
use Rattle.sheet_format.specs.declared.Header.{Header}
use Rattle.sheet_format.specs.declared.Update.TheVariants.{Unit, Set, Letter, InverseLetter, Product, Sum, Scale}
use Rattle.sheet_format.specs.declared.Query.{Query}
use Rattle.sheet_format.specs.declared.Command.{Command}
use Rattle.sheet_format.specs.declared.Command.TheVariants.{End, Begin, Change, Show}
use Rattle.operands.specs.Operands.{in_range, may_run}
use Rattle.costs.specs.Costs.{cost}
use Rattle.machine.specs.Registers.{element, put}
use Rattle.machine.specs.Step.{obey}

abbrev pub Words : List ℕ → Type 0
Words x = All (λ n. n < 2 ^ 64) x

pub record Obeying (h : Header) (x : List ℕ) (c : Command) (a : Answered) (y : List ℕ) : Type 0 where
  pub taken : Taken a
  pub counts : cost h.rank c ≡ count_of a
  pub makes : obey h c x ≡ y

pub record Counts (h : Header) (x old scratch : List ℕ) : Type 0 where
  pub letter : (r i : ℕ) → let c = Change (Letter r i) in in_range h.rank c ≡ true
      → let o = act_word_call h.rank h.q (i ∷ []) (element h.rank r x) in Obeying h x c o.answer (put r o.lent x)
  pub inverse_letter_lem : (r i : ℕ) → let c = Change (InverseLetter r i) in may_run h c ≡ true
      → let o = act_signed_word_call h.rank h.q (neg_ℤ (pos i) ∷ []) (element h.rank r x) in Obeying h x c o.answer (put r o.lent x)
  pub product : (d a b : ℕ) → let c = Change (Product d a b) in in_range h.rank c ≡ true
      → let o = product_call h.rank h.q (element h.rank a x) (element h.rank b x) old scratch in Obeying h x c o.answer (put d o.lent.result x)
  pub sum : (d a b : ℕ) → let c = Change (Sum d a b) in in_range h.rank c ≡ true
      → let o = sum_call h.rank (element h.rank a x) (element h.rank b x) old in Obeying h x c o.answer (put d o.lent x)
  pub scale : (r v : ℕ) → let c = Change (Scale r v) in in_range h.rank c ≡ true
      → let o = scale_call h.rank v (element h.rank r x) old in Obeying h x c o.answer (put r o.lent x)
  -- the others make no call and count nothing; the end and a show change nothing
  pub unit : (r : ℕ) → cost h.rank (Change (Unit r)) ≡ 0
  pub set : (r i v : ℕ) → cost h.rank (Change (Set r i v)) ≡ 0
  pub begin : (b : Header) → cost h.rank (Begin b) ≡ 0
  pub end : (cost h.rank End ≡ 0) × (obey h End x ≡ x)
  pub show : (w : Query) → (cost h.rank (Show w) ≡ 0) × (obey h (Show w) x ≡ x)

abbrev pub Counted : Type 0
Counted = (h : Header) (x old scratch : List ℕ) → h.q < 2 ^ 64 → length x ≡ 2880 → Words x → length old ≡ factorial (suc h.rank)
    → length scratch ≡ 7920 → Counts h x old scratch
