-- A command prints at most 18,004 bytes, where the registers, the count and the operand of begin are words. Rests on LineLengths,
-- operands' InRange and machine's Put.
use mathlib.Core.Path.{◌≡◌, refl}
use mathlib.Core.Bool.{true}
use mathlib.Core.List.{List, [], ◌∷◌}
use Prim.Native.Nat.{ℕ, zero, suc, ◌+◌, ◌^◌, ◌≤◌, ◌<◌}
use native.Mathlib.Nat.{mod-lt}
use native.Mathlib.Omega.{arith}
use lib.ListN.{length, length-append}
use Rattle.ring.specs.Sum.{sum}
use Rattle.ring.specs.Modular.{words, modular}
use Rattle.lists.specs.Lists.{bit, All, equal}
use Rattle.lists.specs.Numbers.{factorial}
use Rattle.lists.proofs.All.{all_get_or}
use Rattle.algebra.specs.Product.{minus_one}
use Rattle.algebra.specs.Pairing.{pairing}
use Rattle.markov_trace.specs.Trace.{trace}
use Rattle.sheet_format.specs.declared.Header.{Header}
use Rattle.sheet_format.specs.declared.Query.{Query}
use Rattle.sheet_format.specs.declared.Query.TheVariants.{Register, Pairing, Equality, Trace}
use Rattle.sheet_format.specs.declared.Command.{Command}
use Rattle.sheet_format.specs.declared.Command.TheVariants.{End, Begin, Change, Show}
use Rattle.operands.specs.Operands.{in_range}
use Rattle.operands.specs.Bounds.{QueryBounds}
use Rattle.operands.proofs.InRange.{low, within}
use Rattle.machine.specs.Registers.{element}
use Rattle.machine.specs.Steps.{Registers}
use Rattle.machine.proofs.Put.{small, words_element}
use Rattle.runner.specs.Run.{State}
use Rattle.output.specs.Text.{coefficients, text_room}
use Rattle.output.specs.Printed.{shown, text}
use Rattle.output.proofs.LineLengths.{bit_small, digit_line, line_short, tagged_pair_short, coefficients_short}

abbrev Word : ℕ → Type 0
Word n = n < 2 ^ 64

sum_word : {B : Type 0} (s : List B) (f : B → ℕ) → Word (sum ℕ words s f)
unfolding sum modular
sum_word [] f = omega arith
sum_word (x ∷ s) f = mod-lt (f x + sum ℕ words s f) (omega arith)

pairing_word : (q m : ℕ) (a b : List ℕ) → Word (pairing ℕ words q m a b)
unfolding pairing
pairing_word q m a b = sum_word _ _

trace_word : (q r z m : ℕ) (h : List ℕ) → All Word h → Word (trace ℕ words q r z m h)
unfolding trace modular
trace_word q r z zero [] a = omega arith
trace_word q r z zero (x ∷ h) a = a.0
trace_word q r z (suc m) h a = mod-lt _ (omega arith)

module _ {m : ℕ} {x : List ℕ} (z : Registers m (factorial (suc m)) x) {r : ℕ} (four : r < 4) where
  show_short : All Word x → length (coefficients 0 (element m r x)) ≤ 18000
  show_short a =
      let e = words_element z four (λ i l. all_get_or Word x i 0 l a) in
      omega (arith, e.size, small z, coefficients_short 0 (element m r x) (omega (arith, e.size, small z)) e.each)

module _ (h : Header) {x : List ℕ} (z : Registers h.rank (factorial (suc h.rank)) x) (a : All Word x) where
  abbrev at : ℕ → List ℕ
  at r = element h.rank r x

  shown_short : (w : Query) → QueryBounds w → length (shown h w x) ≤ text_room
  unfolding shown
  shown_short (Register r) four = simp length-append (omega (arith, digit_line 82 r (omega arith), show_short z four a))
  shown_short (Pairing g k) w =
      omega (arith, line_short 80 (pairing ℕ words h.q h.rank (at g) (at k)) (pairing_word h.q h.rank (at g) (at k)))
  shown_short (Equality g k) w = let b = equal (at g) (at k) in omega (arith, line_short 81 (bit b) (bit_small b))
  shown_short (Trace r y) four =
      let e = words_element z four (λ i l. all_get_or Word x i 0 l a) in
      omega (arith, line_short 84 _ (trace_word h.q (minus_one ℕ words h.q) y h.rank (at r) e.each))

module _ (h : Header) where
  pub text_short : (c : Command) (x : State) → in_range h.rank c ≡ true → length x.contents ≡ 2880 → All (λ n. n < 2 ^ 64) x.contents
      → x.count < 2 ^ 64 → ((b : Header) → c ≡ Begin b → b.q < 2 ^ 64) → length (text h c x) ≤ text_room
  unfolding text
  text_short End x e four a l w = omega (arith, line_short 78 x.count l)
  text_short (Begin b) x e four a l w = let m = h.rank in
      omega (arith, tagged_pair_short 72 b.rank b.q (omega (arith, within m (Begin b) e refl, low m (Begin b) e)) (w b refl))
  text_short (Change u) x e four a l w = omega arith
  text_short (Show q) x e four a l w = let m = h.rank in
      shown_short h (record { low = low m (Show q) e; whole = refl; four = four }) a q (within m (Show q) e refl)
