-- The words that the calls for the pairing and the trace give: 0 stands for a refusal; scratch of 7,920 words is enough for the trace of an element
-- of a sheet. Rests on ranks' Sizes.
use mathlib.Core.Path.{◌≡◌, refl}
use Prim.Native.Nat.{ℕ, suc, ◌+◌, ◌*◌, ◌≤◌}
use native.Mathlib.Nat.{mul-le-mul_right}
use native.Mathlib.Omega.{arith}
use Rattle.std.proofs.Common.{Result, Ok, Err}
use Rattle.std.specs.Result.{result_unwrap_or}
use Rattle.lists.specs.Numbers.{factorial}
use Rattle.ranks.proofs.Sizes.{sheet_size_small}
use Rattle.refusals.specs.Refusals.{value_of}
use Rattle.refusals.specs.declared.Refusal.{Refusal}

pub value : (r : Result ℕ Refusal) → result_unwrap_or r 0 ≡ value_of r
value (Ok x) = refl
value (Err why) = refl

pub enough : {m n : ℕ} → m ≤ 5 → 7920 ≤ n → (m + 6) * factorial (suc m) ≤ n
enough {m} low large =
    let few : (m + 6) * factorial (suc m) ≤ 11 * factorial (suc m) = mul-le-mul_right (factorial (suc m)) (omega (arith, low)) in
    omega (arith, few, sheet_size_small m low)
