-- Numbers and lines as text, in bytes of ASCII (document 01, "Run sheets").
--
--   digits k n              the digits of n in base ten, for n < k
--   decimal n               n in base ten
--   digits_value v t        the number that the digits t spell after the digits of v
--   Spells t n              t has digits alone, spells n, and begins with 0 only where it is 0
--   line tag a              a letter, a space, a number and a newline
--   pair_line a b           two numbers with a space between them, and a newline
--   tagged_pair tag a b     a letter, a space and such a pair
--   coefficients i h        a line of index and value for each nonzero coefficient of h, the first of which has the index i
--   text_room, error_room   bytes enough for what any command prints, 4 and 25 for each of 720 coefficients, and for the line of any refusal
use Rattle.std.specs.Prelude.{◌≡◌, cond, List, [], ◌∷◌, ◌++◌, ℕ, zero, suc, ◌+◌, ◌-◌, ◌*◌, ◌/◌, ◌%◌, ◌≤◌, get_or}
use Rattle.lists.specs.Lists.{same, less, All}

unfoldable pub digits : ℕ → ℕ → List ℕ
digits zero n = []
digits (suc k) n = let front = digits k (n / 10) in cond (less n 10) ((48 + n) ∷ []) (front ++ ((48 + n % 10) ∷ []))

unfoldable pub decimal : ℕ → List ℕ
decimal n = digits (suc n) n

unfoldable pub digits_value : ℕ → List ℕ → ℕ
digits_value v [] = v
digits_value v (d ∷ t) = digits_value (10 * v + (d - 48)) t

pub record Spells (t : List ℕ) (n : ℕ) : Type 0 where
  pub bytes : All (λ d. (48 ≤ d) × (d ≤ 57)) t
  pub number : digits_value 0 t ≡ n
  pub first : get_or t 0 48 ≡ 48 → t ≡ 48 ∷ []

unfoldable pub pair_line : ℕ → ℕ → List ℕ
pair_line a b = decimal a ++ (32 ∷ (decimal b ++ (10 ∷ [])))

unfoldable pub line : ℕ → ℕ → List ℕ
line tag a = tag ∷ 32 ∷ (decimal a ++ (10 ∷ []))

unfoldable pub tagged_pair : ℕ → ℕ → ℕ → List ℕ
tagged_pair tag a b = tag ∷ 32 ∷ pair_line a b

unfoldable pub coefficients : ℕ → List ℕ → List ℕ
coefficients i [] = []
coefficients i (x ∷ h) = cond (same x 0) [] (pair_line i x) ++ coefficients (suc i) h

abbrev pub text_room : ℕ
text_room = 4 + 25 * 720

abbrev pub error_room : ℕ
error_room = 26
