-- The number of some bytes: what the library reads of eight bytes, and how large it is where the last bytes are zeros. Rests on the definitions alone.
use Rattle.std.proofs.Common.{◌≡◌, ℕ, zero, suc, ◌+◌, ◌*◌, ◌-◌, ◌^◌, ◌≤◌, ◌<◌, List, [], ◌∷◌, ◌++◌, length, get_or, take, drop, replicate, refl, ap, ◌∙◌, arith}
use Rattle.std.proofs.lemmas.List.{drop-replicate, drop_all}
use lib.Seq.{drop_at, length-take-le}
use Rattle.std.specs.Int.{w64, from_le_bytes}
use Rattle.vector_io.specs.Numbers.{number}

abbrev Bytes : List ℕ → Type 0
Bytes x = (i : ℕ) → get_or x i 0 < 2 ^ 8

pub zeros_after : (x : List ℕ) (n : ℕ) → Bytes x → number (drop n x) ≡ 0 → number x < 256 ^ n
unfolding number
zeros_after x zero b e = omega (arith, e)
zeros_after [] (suc n) b e = let h : 0 < 256 ^ n = zeros_after [] n b (ap number (drop_all n [] (omega arith))) in omega (arith, h)
zeros_after (y ∷ x) (suc n) b e = let h : number x < 256 ^ n = zeros_after x n (λ i. b (suc i)) e in omega (arith, b 0, h)

zeros : (m : ℕ) → number (replicate m 0) ≡ 0
unfolding number
zeros zero = refl
zeros (suc m) = omega (arith, zeros m)

-- of eight bytes, those after the first n are zeros
pub padded : (x : List ℕ) (n : ℕ) → n ≤ 8 → length x ≡ length (take (n - 0) (replicate {A = ℕ} 8 0)) → number (drop n (x ++ drop (n - 0) (replicate 8 0))) ≡ 0
padded x n h e =
    let all : n - 0 ≡ n = omega arith in
    let size : length x ≡ n = e ∙ length-take-le (n - 0) (replicate {A = ℕ} 8 0) (omega arith) ∙ all in
    ap number (drop_at x (drop (n - 0) (replicate 8 0)) n size ∙ drop-replicate {X = ℕ} (n - 0) 8 0) ∙ zeros (8 - (n - 0))

next : (x : List ℕ) (i : ℕ) → number (drop i x) ≡ get_or x i 0 + 256 * number (drop (suc i) x)
unfolding number
next [] zero = refl
next [] (suc i) = refl
next (y ∷ x) zero = refl
next (y ∷ x) (suc i) = next x i

pub eight_bytes : (x : List ℕ) → length x ≡ 8 → from_le_bytes w64 x ≡ number x
unfolding number
eight_bytes x l =
    let none : number (drop 8 x) ≡ 0 = ap number (drop_all 8 x (omega arith)) in
    omega (arith, next x 0, next x 1, next x 2, next x 3, next x 4, next x 5, next x 6, next x 7, none)
