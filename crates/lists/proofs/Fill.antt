-- A loop that stores f i at each index i of a list. Rests on nothing here.
use mathlib.Core.Path.{◌≡◌, refl, sym, ap, ◌∙◌}
use mathlib.Core.Logic.{⊎_elim}
use mathlib.Core.List.{List}
use Prim.Native.Nat.{ℕ, ◌+◌, ◌≤◌, ◌<◌}
use native.Mathlib.Nat.{le_of_suc-le-suc, eq-or-lt_of_le}
use native.Mathlib.Numerals.{add-one}
use native.Mathlib.Omega.{arith}
use lib.ListN.{length, get_or, set, length-set}
use lib.Seq.{get_or-set_same, get_or-set_other, ext_get_or}

-- the first i elements are f 0, .., f (i - 1), and the others as they were
pub record Filled (f : ℕ → ℕ) (xs₀ xs : List ℕ) (i : ℕ) : Type 0 where
  pub same : length xs ≡ length xs₀
  pub done : (k : ℕ) → k < i → get_or xs k 0 ≡ f k
  pub rest : (k : ℕ) → i ≤ k → get_or xs k 0 ≡ get_or xs₀ k 0

pub filled_none : (f : ℕ → ℕ) (xs : List ℕ) → Filled f xs xs 0
filled_none f xs = record { same = refl; done = λ k h. absurd (omega arith); rest = λ k h. refl }

pub filled_more : {f : ℕ → ℕ} {xs₀ xs : List ℕ} {i : ℕ} (v : ℕ) → Filled f xs₀ xs i → i < length xs₀ → v ≡ f i → Filled f xs₀ (set xs i v) (i + 1)
filled_more {f} {xs₀} {xs} {i} v h l e = record {
  same = length-set xs i v ∙ h.same;
  done = λ k lk. ⊎_elim
      (λ ek. ap (λ j. get_or (set xs i v) j 0) ek ∙ get_or-set_same xs i v 0 (omega (arith, h.same)) ∙ e ∙ ap f (sym ek))
      (λ lt. get_or-set_other xs i k v 0 (λ ek. omega arith) ∙ h.done k lt)
      (eq-or-lt_of_le (le_of_suc-le-suc {n = k} {m = i} (rw add-one at lk)));
  rest = λ k lk. get_or-set_other xs i k v 0 (λ ek. omega arith) ∙ h.rest k (omega arith);
}

pub filled_all : {f : ℕ → ℕ} {xs₀ xs : List ℕ} {i : ℕ} (ys : List ℕ) → Filled f xs₀ xs i → length xs₀ ≤ i → length ys ≡ length xs₀
    → ((k : ℕ) → k < length xs₀ → f k ≡ get_or ys k 0) → xs ≡ ys
filled_all {f} {xs₀} {xs} ys h past e at = ext_get_or 0 xs ys (h.same ∙ sym e) (λ k l. h.done k (omega (arith, h.same)) ∙ at k (omega (arith, h.same)))
