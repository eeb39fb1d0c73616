-- At most 4,096 letters count at most 4,096 times 7,560, which is a word. Rests on ranks' Sizes.
use Rattle.std.proofs.Common.{arith, ◌≡◌, ap, ◌∙◌, ℕ, suc, ◌*◌, ◌/◌, ◌^◌, ◌≤◌, ◌<◌}
use Rattle.std.proofs.Math.Nat.{mul-le-mul_right}
use Rattle.lists.specs.Numbers.{factorial}
use Rattle.ranks.proofs.Sizes.{size_is, size_small}
use Rattle.word_actions.proofs.count_of_letters.Goals as goal

few : (n k : ℕ) → n ≤ 4096 → k ≤ 7560 → n * k < 2 ^ 64
few n k a b = let l : n * k ≤ 4096 * k = mul-le-mul_right k a in omega arith

pub overflow_mul-result : goal.overflow_mul-result
overflow_mul-result c =
    let size : c.size.result ≡ factorial (suc c.args.m) = c.size.ensures ∙ size_is _ c.requires.1 in
    record { fits = omega (arith, size_small _ c.requires.1) }

pub overflow_mul-result-2 : goal.overflow_mul-result-2
overflow_mul-result-2 c =
    let size : c.size.result ≡ factorial (suc c.args.m) = c.size.ensures ∙ size_is _ c.requires.1 in
    record { fits = few _ _ c.requires.0 (omega (arith, size_small _ c.requires.1)) }

pub returns : goal.returns
returns c = ap (λ (s : ℕ). c.args.n * (3 * s / 2)) (c.size.ensures ∙ size_is _ c.requires.1)
