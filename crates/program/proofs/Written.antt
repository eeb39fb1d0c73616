-- What a writer holds, write after write and part after part. Rests on std's lemmas on known bytes.
--
--   Grown a b p i    what a writer holds, where that is known, has grown by the first i bytes of p: a before, b after
use mathlib.Core.Path.{◌≡◌, refl, sym, ap, subst, ◌∙◌}
use mathlib.Core.Bool.{Bool, true, false}
use mathlib.Core.List.{List}
use Prim.Native.Nat.{ℕ, ◌+◌, ◌-◌, ◌≤◌}
use native.Mathlib.Omega.{arith}
use lib.ListN.{length, take, drop, length-drop, length-take}
use lib.Seq.{take-take, take-add, take-length}
use Rattle.std.proofs.Common.{Result, Ok, Err}
use Rattle.std.specs.Result.{IsErr, is_ok}
use Rattle.std.specs.Io.KnownBytes.{Appends}
use Rattle.std.specs.declared.option.Option.{Option}
use Rattle.std.proofs.KnownBytes.{Appends-nil, Appends-trans}
use Rattle.program.specs.Pieces.{WritesFront}

pub record Grown (a b : Option (List ℕ)) (p : List ℕ) (i : ℕ) : Type 0 where
  pub bytes : Appends a b (take i p)

pub grown_none : {a : Option (List ℕ)} {p : List ℕ} → Grown a a p 0
grown_none {a} = record { bytes = Appends-nil a }

-- i bytes of p are written, and then n of those after them
pub grown_and : {a b c : Option (List ℕ)} {p : List ℕ} {i : ℕ} (n : ℕ) → Grown a b p i → Appends b c (take n (drop i p)) → Grown a c p (i + n)
grown_and {a} {b} {c} {p} {i} n f g = record {
  bytes = subst (λ q. Appends a c q) (sym (take-add i n p)) (Appends-trans a b c (take i p) (take n (drop i p)) f.bytes g);
}

-- the rest after i bytes of p is lent to a write, which takes n of them
pub grown_lent : {a b c : Option (List ℕ)} {p : List ℕ} {i : ℕ} (n : ℕ) → i ≤ length p → Grown a b p i → n ≤ length (take (length p - i) (drop i p))
    → Appends b c (take n (take (length p - i) (drop i p))) → (i + n ≤ length p) × Grown a c p (i + n)
grown_lent {a} {b} {c} {p} {i} n inside f bound g =
    let size = length-drop i p in
    let rest : take (length p - i) (drop i p) ≡ drop i p = ap (λ k. take k (drop i p)) (sym size) ∙ take-length (drop i p) in
    let short : n ≤ length (drop i p) = subst (λ q. n ≤ length q) rest bound in
    (omega (arith, short, size), grown_and n f (subst (λ q. Appends b c (take n q)) rest g))

-- the part after the first i bytes of p is handed over
module _ {a b c : Option (List ℕ)} {p part : List ℕ} {i : ℕ} (begun : Grown a b p i) (inside : i ≤ length p)
    (is : part ≡ take (length part) (drop i p)) where
  grown : {written : Bool} (w : WritesFront b c part written) → Grown a c p (i + w.taken)
  grown w =
      grown_and w.taken begun
      (subst (λ q. Appends b c q) (ap (take w.taken) is ∙ take-take w.taken (length part) (drop i p) w.within) w.grown)

  pub part_written : {j : ℕ} → j ≡ i + length part → WritesFront b c part true → Grown a c p j
  part_written sent w = subst (λ n. Grown a c p n) (omega (arith, w.whole refl, sent)) (grown w)

  pub front_written : (written : Bool) → (written ≡ true → i + length part ≡ length p) → WritesFront b c part written → WritesFront a c p written
  front_written written all w = record {
    taken = i + w.taken;
    within = omega (arith, w.within, ap length is, length-take (length part) (drop i p), length-drop i p, inside);
    grown = (grown w).bytes;
    whole = λ e. omega (arith, w.whole e, all e);
  }

  -- of a part that is not written whole, r is what is answered
  pub front_failed : {E : Type 0} (r : Result ℕ E) → IsErr r → WritesFront b c part false → WritesFront a c p (is_ok r)
  front_failed (Err why) e w = front_written false (λ t. let z : ◌≡◌ {A = ℕ} 0 1 = cc in absurd (omega arith)) w
  front_failed (Ok n) e w = let z : ◌≡◌ {A = ℕ} 0 1 = cc in absurd (omega arith)
