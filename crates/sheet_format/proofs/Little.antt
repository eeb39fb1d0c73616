-- A number and its bytes, the lowest first, each read off the other; and bytes and numbers one after another in a list. Rests on Numbers.
use mathlib.Core.Path.{◌≡◌, refl, sym, ap, ap₂, ◌∙◌}
use mathlib.Core.List.{List, [], ◌∷◌, ◌++◌}
use Prim.Native.Nat.{ℕ, zero, suc, ◌+◌, ◌*◌, ◌/◌, ◌%◌, ◌^◌, ◌≤◌, ◌<◌}
use native.Mathlib.Omega.{arith}
use lib.ListN.{length, get_or, take, drop}
use lib.Seq.{drop-cons, drop-drop, take-add}
use Rattle.sheet_format.specs.Format.{byte, number}
use Rattle.sheet_format.specs.Written.{little, Bytes, Fits}
use Rattle.sheet_format.proofs.Numbers.{number_fits}

number_past : (b : ℕ) (x : List ℕ) (i n : ℕ) → number (b ∷ x) (suc i) n ≡ number x i n
unfolding number byte
number_past b x i zero = refl
number_past b x i (suc n) = ap (λ k. byte x i + 256 * k) (number_past b x (suc i) n)

number_little : (n v : ℕ) (rest : List ℕ) → v < 256 ^ n → number (little n v ++ rest) 0 n ≡ v
unfolding number byte little
number_little zero v rest h = omega arith
number_little (suc n) v rest h =
    let ih = number_little n (v / 256) rest (omega arith) in omega (arith, number_past (v % 256) (little n (v / 256) ++ rest) 0 n)

pub byte_fits : (s : List ℕ) → Bytes s → (i : ℕ) → byte s i < 256
unfolding byte
byte_fits [] b i = omega arith
byte_fits (x ∷ s) b zero = b.0
byte_fits (x ∷ s) b (suc i) = byte_fits s b.1 i

-- ---- numbers after other operands

pub after_one : (a n v : ℕ) (rest : List ℕ) → v < 256 ^ n → number (a ∷ (little n v ++ rest)) 1 n ≡ v
after_one a n v rest h = number_past a (little n v ++ rest) 0 n ∙ number_little n v rest h

pub after_three : (a b c n v : ℕ) (rest : List ℕ) → v < 256 ^ n → number (a ∷ b ∷ c ∷ (little n v ++ rest)) 3 n ≡ v
after_three a b c n v rest h =
    number_past a (b ∷ c ∷ (little n v ++ rest)) 2 n ∙ number_past b (c ∷ (little n v ++ rest)) 1 n ∙ after_one c n v rest h

-- ---- operands at the front of a list of bytes

module _ (x : List ℕ) (bytes : (i : ℕ) → byte x i < 256) where
  little_number : (i n : ℕ) → i + n ≤ length x → little n (number x i n) ≡ take n (drop i x)
  unfolding number byte little
  little_number i zero h = refl
  little_number i (suc n) h =
      let m = number x (suc i) n in
      let low : (get_or x i 0 + 256 * m) % 256 ≡ get_or x i 0 = omega (arith, bytes i) in
      let high : (get_or x i 0 + 256 * m) / 256 ≡ m = omega (arith, bytes i) in
      ap₂ {C = List ℕ} (λ b t. b ∷ t) low (ap (little n) high ∙ little_number (suc i) n (omega arith))
      ∙ ap (take (suc n)) (sym (drop-cons x i 0 (omega arith)))

  then_byte : {t : List ℕ} (i n : ℕ) → t ≡ take n (drop (suc i) x) → i < length x → byte x i ∷ t ≡ take (suc n) (drop i x)
  unfolding byte
  then_byte {t} i n e h = ap {B = List ℕ} (λ r. get_or x i 0 ∷ r) e ∙ ap (take (suc n)) (sym (drop-cons x i 0 h))

  then_number : {t : List ℕ} (i n m : ℕ) → t ≡ take m (drop (i + n) x) → i + n ≤ length x → little n (number x i n) ++ t ≡ take (n + m) (drop i x)
  then_number {t} i n m e h =
      ap₂ {C = List ℕ} (λ a b. a ++ b) (little_number i n h) (e ∙ ap (take m) (sym (drop-drop n i x))) ∙ sym (take-add n m (drop i x))

  pub one_byte : 1 ≤ length x → (byte x 0 ∷ [] ≡ take 1 x) × Bytes (byte x 0 ∷ [])
  one_byte h = (then_byte 0 0 refl h, omega (arith, bytes 0))

  pub two_bytes : 2 ≤ length x → (byte x 0 ∷ byte x 1 ∷ [] ≡ take 2 x) × Bytes (byte x 0 ∷ byte x 1 ∷ [])
  two_bytes h = (then_byte 0 1 (then_byte 1 0 refl h) (omega arith), omega (arith, bytes 0, bytes 1))

  pub three_bytes : 3 ≤ length x → (byte x 0 ∷ byte x 1 ∷ byte x 2 ∷ [] ≡ take 3 x) × Bytes (byte x 0 ∷ byte x 1 ∷ byte x 2 ∷ [])
  three_bytes h = (then_byte 0 2 (then_byte 1 1 (then_byte 2 0 refl h) (omega arith)) (omega arith), omega (arith, bytes 0, bytes 1, bytes 2))

  pub byte_and_word : 9 ≤ length x → (byte x 0 ∷ little 8 (number x 1 8) ≡ take 9 x) × (Bytes (byte x 0 ∷ []) × Fits 8 (number x 1 8))
  unfolding byte
  byte_and_word h = (then_byte 0 8 (little_number 1 8 h) (omega arith), (omega (arith, bytes 0), number_fits x bytes 1 8))

  pub byte_pair_and_word : 11 ≤ length x → (byte x 0 ∷ (little 2 (number x 1 2) ++ little 8 (number x 3 8)) ≡ take 11 x)
      × (Bytes (byte x 0 ∷ []) × Fits 2 (number x 1 2) × Fits 8 (number x 3 8))
  unfolding byte
  byte_pair_and_word h = (
    then_byte 0 10 (then_number 1 2 8 (little_number 3 8 h) (omega arith)) (omega arith),
    (omega (arith, bytes 0), number_fits x bytes 1 2, number_fits x bytes 3 8),
  )
