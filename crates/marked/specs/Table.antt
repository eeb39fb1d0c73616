-- The marked cases of document 01, and of document 02, Ticket 2, as a table of facts about the definitions. Document 02 marks no case for Ticket 4: the
-- rows on traces are the first values of its definition.
--
--   Case        a marked case: what is given, and what the document says of it
--   Holds c     the definitions give what the document says: the list of permutations and their places; the tower and its images; a square by the
--               product over permutations, by the nested method in the rising and in the falling order, and as the product call's outcome; C and
--               the counts that the nested method carries in these orders; the count that the product call answers; the run of a sheet, at once and
--               by turns, and what is printed for it; a pairing, the coefficient of the unit in the product, and the word that the call for the
--               pairing gives; a trace, and the word that the call for the trace gives, with the scratch that it leaves
--   table       the marked cases, in the documents' order, and the first traces
use Rattle.std.specs.Prelude.{◌≡◌, List, [], ◌∷◌, ◌++◌, map, ℕ, suc, ◌+◌, ◌-◌, ◌^◌, length, replicate, None, Ok}
use Rattle.ring.specs.Modular.{words}
use Rattle.lists.specs.Lists.{range}
use Rattle.lists.specs.Numbers.{factorial}
use Rattle.refusals.specs.Refusals.{Answered, accepted, Outcome}
use Rattle.perms.specs.Permutation.{identity, of_word}
use Rattle.perms.specs.Tower.{tower_of, images_of}
use Rattle.algebra.specs.Place.{place, perms}
use Rattle.algebra.specs.Element.{coefficient, basis, unit}
use Rattle.algebra.specs.Product.{minus_one, times}
use Rattle.algebra.specs.Nested.{operations, rising, falling, nested}
use Rattle.algebra.specs.Cost.{C}
use Rattle.algebra.specs.Pairing.{pairing}
use Rattle.markov_trace.specs.Trace.{trace}
use Rattle.ranks.specs.Ranks.{needed}
use Rattle.element_calls.specs.Calls.{Buffers, product_call, pairing_call, trace_call}
use Rattle.sheet_format.specs.Format.{header}
use Rattle.runner.specs.Run.{given, run_sheet}
use Rattle.runner.specs.Turn.{first, begin_call, turns}
use Rattle.output.specs.Printed.{printed}

pub data Case : Type 0 where
  -- a rank, and the permutations of the indices 0, 1, .. as words
  indices : ℕ → List (List ℕ) → Case
  -- an image list and its tower
  images_tower : List ℕ → List ℕ → Case
  -- a rank, q, a word of w, and the coefficients of T_w squared
  square : ℕ → ℕ → List ℕ → List ℕ → Case
  -- m, l and C(m, l)
  count : ℕ → ℕ → ℕ → Case
  -- m, and C(m, m) as a product of rank m answers it
  answered : ℕ → ℕ → Case
  -- the bytes of a sheet, the words at the front of register 0, the others being 0, the count, and what is printed
  run : List ℕ → List ℕ → ℕ → List ℕ → Case
  -- a rank, q, words of v and w, and the pairing of T_v with T_w
  paired : ℕ → ℕ → List ℕ → List ℕ → ℕ → Case
  -- a rank, q, z, a word of w, and the trace of T_w
  traced : ℕ → ℕ → ℕ → List ℕ → ℕ → Case
  -- the bytes of a sheet, and what is printed for it
  prints : List ℕ → List ℕ → Case

-- T of the permutation of a word
abbrev basis_of : ℕ → List ℕ → List ℕ
basis_of m x = basis ℕ words m (of_word m x)

-- the product call on a slice that holds 7s, with scratch of 7s that is one word longer than needed
abbrev called : (m q : ℕ) (h g : List ℕ) → Outcome Answered Buffers
called m q h g = product_call m q h g (replicate (factorial (suc m)) 7) (replicate (needed m + 1) 7)

-- registers in which the words h stand first, and then zeros
abbrev registers_of : List ℕ → List ℕ
registers_of h = h ++ replicate (2880 - length h) 0

abbrev pub Holds : Case → Type 0
Holds (indices m s) = (perms m ≡ map (of_word m) s) × (map place (map (of_word m) s) ≡ range 0 (factorial (suc m)))
Holds (images_tower w t) = (images_of t ≡ w) × (tower_of w ≡ t)
Holds (square m q x h) =
    (times ℕ words q (minus_one ℕ words q) m m (basis_of m x) (basis_of m x) ≡ h)
    × ((nested ℕ words q (minus_one ℕ words q) rising m m (basis_of m x) (basis_of m x)).value ≡ h)
    × ((nested ℕ words q (minus_one ℕ words q) falling m m (basis_of m x) (basis_of m x)).value ≡ h)
    × (called m q (basis_of m x) (basis_of m x) ≡ record { answer = accepted (C m m); lent = record { result = h; scratch = replicate (needed m) 0 ++ (7 ∷ []) } })
Holds (count m l n) =
    (C m l ≡ n)
    × (operations (nested ℕ words 3 2 rising m l (unit ℕ words m) (unit ℕ words l)).count ≡ n)
    × (operations (nested ℕ words 3 2 falling m l (unit ℕ words m) (unit ℕ words l)).count ≡ n)
Holds (answered m n) = (called m 3 (unit ℕ words m) (unit ℕ words m)).answer ≡ accepted n
Holds (run s h n t) =
    (run_sheet s ≡ given (Ok tt) (record { contents = registers_of h; count = n }))
    × (begin_call s ≡ Ok (header s, first))
    × (turns (length s) s (header s) first (registers_of []) ≡ record { cursor = record { at = length s - 1; count = n }; last = Ok None; contents = registers_of h })
    × (printed s ≡ t)
Holds (paired m q x y n) =
    (pairing ℕ words q m (basis_of m x) (basis_of m y) ≡ n)
    × (coefficient ℕ words (times ℕ words q (minus_one ℕ words q) m m (basis_of m x) (basis_of m y)) (identity m) ≡ n)
    × (pairing_call m q (basis_of m x) (basis_of m y) ≡ Ok n)
Holds (traced m q z x n) =
    (trace ℕ words q (minus_one ℕ words q) z m (basis_of m x) ≡ n)
    × (trace_call m q z (basis_of m x) (replicate (needed m + 1) 7)
    ≡ record { answer = Ok n; lent = replicate (needed m) 0 ++ (7 ∷ []) })
Holds (prints s t) = printed s ≡ t

abbrev pub table : List Case
table =
    indices 2 ([] ∷ (1 ∷ []) ∷ (2 ∷ []) ∷ (1 ∷ 2 ∷ []) ∷ (2 ∷ 1 ∷ []) ∷ (1 ∷ 2 ∷ 1 ∷ []) ∷ [])
    ∷ images_tower (2 ∷ 3 ∷ 1 ∷ []) (0 ∷ 2 ∷ [])
    ∷ square 2 2 (2 ∷ 1 ∷ []) (0 ∷ 0 ∷ 0 ∷ 2 ∷ 0 ∷ 1 ∷ [])
    ∷ square 1 0 (1 ∷ []) (0 ∷ (2 ^ 64 - 1) ∷ [])
    ∷ square 1 1 (1 ∷ []) (1 ∷ 0 ∷ [])
    ∷ count 0 0 1
    ∷ count 1 1 9
    ∷ count 2 2 118
    ∷ count 3 3 2152
    ∷ answered 0 1
    ∷ answered 1 9
    ∷ answered 2 118
    ∷ answered 3 2152
    ∷ count 2 1 27
    ∷ run
    (0x10 ∷ 0x01 ∷ 0x03 ∷ 0x00 ∷ 0x00 ∷ 0x00 ∷ 0x00 ∷ 0x00 ∷ 0x00 ∷ 0x00 ∷ 0x20 ∷ 0x00 ∷ 0x30 ∷ 0x00 ∷ 0x01 ∷ 0x30 ∷ 0x00 ∷ 0x01 ∷ 0x40 ∷ 0x00 ∷ 0x00 ∷ [])
    (3 ∷ 2 ∷ [])
    6
    -- H 1 3, R 0, 0 3, 1 2, N 6
    (72 ∷ 32 ∷ 49 ∷ 32 ∷ 51 ∷ 10 ∷ 82 ∷ 32 ∷ 48 ∷ 10 ∷ 48 ∷ 32 ∷ 51 ∷ 10 ∷ 49 ∷ 32 ∷ 50 ∷ 10 ∷ 78 ∷ 32 ∷ 54 ∷ 10 ∷ [])
    ∷ paired 2 2 (1 ∷ 2 ∷ []) (1 ∷ 2 ∷ []) 0
    ∷ paired 2 2 (1 ∷ 2 ∷ []) (2 ∷ 1 ∷ []) 4
    -- T of s_1 s_2 in register 0, T of s_2 s_1 in register 1; the pairing of the first with itself, and with the second
    ∷ prints
    (0x10 ∷ 0x02 ∷ 0x02 ∷ 0x00 ∷ 0x00 ∷ 0x00 ∷ 0x00 ∷ 0x00 ∷ 0x00 ∷ 0x00 ∷ 0x20 ∷ 0x00 ∷ 0x30 ∷ 0x00 ∷ 0x01 ∷ 0x30 ∷ 0x00 ∷ 0x02
    ∷ 0x20 ∷ 0x01 ∷ 0x30 ∷ 0x01 ∷ 0x02 ∷ 0x30 ∷ 0x01 ∷ 0x01 ∷ 0x41 ∷ 0x00 ∷ 0x00 ∷ 0x41 ∷ 0x00 ∷ 0x01 ∷ 0x00 ∷ [])
    -- H 2 2, P 0, P 4, N 36
    (72 ∷ 32 ∷ 50 ∷ 32 ∷ 50 ∷ 10 ∷ 80 ∷ 32 ∷ 48 ∷ 10 ∷ 80 ∷ 32 ∷ 52 ∷ 10 ∷ 78 ∷ 32 ∷ 51 ∷ 54 ∷ 10 ∷ [])
    ∷ traced 2 3 5 [] 1
    ∷ traced 2 3 5 (1 ∷ []) 5
    ∷ traced 2 3 5 (1 ∷ 2 ∷ []) 25
    ∷ traced 2 3 5 (1 ∷ 2 ∷ 1 ∷ []) 65
    -- T of s_1 s_2 in register 0, and its trace with z = 5
    ∷ prints
    (0x10 ∷ 0x02 ∷ 0x03 ∷ 0x00 ∷ 0x00 ∷ 0x00 ∷ 0x00 ∷ 0x00 ∷ 0x00 ∷ 0x00 ∷ 0x20 ∷ 0x00 ∷ 0x30 ∷ 0x00 ∷ 0x01 ∷ 0x30 ∷ 0x00 ∷ 0x02
    ∷ 0x43 ∷ 0x00 ∷ 0x05 ∷ 0x00 ∷ 0x00 ∷ 0x00 ∷ 0x00 ∷ 0x00 ∷ 0x00 ∷ 0x00 ∷ 0x00 ∷ [])
    -- H 2 3, T 25, N 18
    (72 ∷ 32 ∷ 50 ∷ 32 ∷ 51 ∷ 10 ∷ 84 ∷ 32 ∷ 50 ∷ 53 ∷ 10 ∷ 78 ∷ 32 ∷ 49 ∷ 56 ∷ 10 ∷ [])
    ∷ []
