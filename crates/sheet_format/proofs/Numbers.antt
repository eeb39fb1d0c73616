-- The number of some bytes, read from the last byte to the first: what a loop holds at byte k, and that it fits. Rests on the definitions alone.
use mathlib.Core.Path.{◌≡◌}
use mathlib.Core.List.{List}
use Prim.Native.Nat.{ℕ, zero, suc, ◌+◌, ◌*◌, ◌-◌, ◌^◌, ◌≤◌, ◌<◌}
use native.Mathlib.Omega.{arith}
use native.Mathlib.Nat.{pow-le-pow_right}
use lib.ListN.{get_or}
use Rattle.sheet_format.specs.Format.{byte, number}

-- value is the number of the last n - k of the n bytes from i on
pub record ReadTo (x : List ℕ) (i n value k : ℕ) : Type 0 where
  pub left : k ≤ n
  pub is : value ≡ number x (i + k) (n - k)

module _ (x : List ℕ) (i n : ℕ) where
  pub read_none : ReadTo x i n 0 n
  unfolding number
  read_none = record { left = omega arith; is = let e : n - n ≡ 0 = omega arith in rw e }

  pub read_more : {value k : ℕ} (j v : ℕ) → ReadTo x i n value k → k ≡ suc j → v ≡ value * 256 + byte x (i + j) → ReadTo x i n v j
  unfolding number
  read_more {value} {k} j v h e d =
      let at : i + k ≡ suc (i + j) = omega arith in
      let more : n - j ≡ suc (n - k) = omega (arith, h.left) in
      let rest : value ≡ number x (suc (i + j)) (n - k) = rw at at h.is in
      record { left = omega (arith, h.left); is = rw more (omega arith) }

module _ (x : List ℕ) (bytes : (i : ℕ) → get_or x i 0 < 2 ^ 8) where
  pub number_fits : (i n : ℕ) → number x i n < 256 ^ n
  unfolding number byte
  number_fits i zero = omega arith
  number_fits i (suc n) = omega (arith, bytes i, number_fits (suc i) n)

  pub read_fits : {i n value k : ℕ} → ReadTo x i n value k → n ≤ 8 → 0 < k → value < 256 ^ 7
  read_fits {i} {n} {value} {k} h m p =
      omega (arith, h.is, number_fits (i + k) (n - k), pow-le-pow_right {n = 256} (omega arith) {i = n - k} {j = 7} (omega arith))
