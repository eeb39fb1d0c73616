-- How a call ends that no check refuses, what it gives, and what a product counts. Rests on refusals' Ended, and algebra's Orders and Counts.
use mathlib.Core.Path.{◌≡◌, refl, sym, ap, ◌∙◌}
use mathlib.Core.List.{List}
use Prim.Native.Nat.{ℕ}
use native.Mathlib.Omega.{arith}
use Rattle.std.specs.Prelude.{Ok, Err}
use Rattle.refusals.specs.Refusals.{Verdict, accepted, ended, verdict_of, count_of, value_of}
use Rattle.refusals.proofs.Ended.{ended_done}
use Rattle.algebra.specs.Element.{Element}
use Rattle.algebra.specs.Nested.{operations, falling, nested}
use Rattle.algebra.specs.Cost.{C}
use Rattle.algebra.proofs.Orders.{falling_once}
use Rattle.algebra.proofs.Counts.{counts}
use Rattle.element_calls.specs.declared.Parameters.{Parameters}
use Rattle.element_calls.specs.Coefficients.{ring, Coefficient}
use Rattle.element_calls.specs.Calls.{write, valued, give}
use Rattle.element_calls.specs.Claims.{Taken, Given}

-- ---- a call that writes

module _ {A : Type 0} where
  pub write_done : {v : Verdict} {k : ℕ} (old new last : A) (n : ℕ) → v ≡ Ok tt → last ≡ new → k ≡ n
      → write v old new n ≡ record { answer = accepted k; lent = last }
  write_done old new last n e d g = ended_done _ old e (ap accepted g) d

  pub write_verdict : (v : Verdict) (old new : A) (n : ℕ) → verdict_of (write v old new n).answer ≡ v
  unfolding ended
  write_verdict (Ok _) old new n = refl
  write_verdict (Err why) old new n = refl

  pub write_lent : (v : Verdict) (old new : A) (n : ℕ) → Taken (write v old new n).answer → (write v old new n).lent ≡ new
  unfolding ended
  write_lent (Ok _) old new n t = refl
  write_lent (Err why) old new n t = let z : ◌≡◌ {A = ℕ} 0 1 = cc in absurd (omega arith)

  pub write_count : (v : Verdict) (old new : A) (n : ℕ) → Taken (write v old new n).answer → count_of (write v old new n).answer ≡ n
  unfolding ended
  write_count (Ok _) old new n t = refl
  write_count (Err why) old new n t = let z : ◌≡◌ {A = ℕ} 0 1 = cc in absurd (omega arith)

-- ---- a call that gives a word

pub valued_verdict : (v : Verdict) (x : ℕ) → verdict_of (valued v x) ≡ v
valued_verdict (Ok _) x = refl
valued_verdict (Err why) x = refl

pub valued_value : (v : Verdict) (x : ℕ) → Given (valued v x) → value_of (valued v x) ≡ x
valued_value (Ok _) x t = refl
valued_value (Err why) x t = let z : ◌≡◌ {A = ℕ} 0 1 = cc in absurd (omega arith)

pub valued_done : (v : Verdict) (x : ℕ) {y : ℕ} → v ≡ Ok tt → y ≡ x → Ok y ≡ valued v x
valued_done v x e f = ap Ok f ∙ sym (ap (λ v. valued v x) e)

-- ---- a call that writes and gives a word

module _ {A : Type 0} where
  pub give_done : {v : Verdict} {y : ℕ} (x : ℕ) (old new last : A) → v ≡ Ok tt → y ≡ x → last ≡ new
      → give v x old new ≡ record { answer = Ok y; lent = last }
  give_done x old new last e f g = ended_done _ old e (ap Ok f) g

  pub give_verdict : (v : Verdict) (x : ℕ) (old new : A) → verdict_of (give v x old new).answer ≡ v
  unfolding ended
  give_verdict (Ok _) x old new = refl
  give_verdict (Err why) x old new = refl

  pub give_value : (v : Verdict) (x : ℕ) (old new : A) → Given (give v x old new).answer → value_of (give v x old new).answer ≡ x
  unfolding ended
  give_value (Ok _) x old new t = refl
  give_value (Err why) x old new t = let z : ◌≡◌ {A = ℕ} 0 1 = cc in absurd (omega arith)

  pub give_lent : (v : Verdict) (x : ℕ) (old new : A) → Given (give v x old new).answer → (give v x old new).lent ≡ new
  unfolding ended
  give_lent (Ok _) x old new t = refl
  give_lent (Err why) x old new t = let z : ◌≡◌ {A = ℕ} 0 1 = cc in absurd (omega arith)

-- ---- the count of a product

pub product_counted : {m : ℕ} {h g : List ℕ} (p : Parameters) → Element (Coefficient p) m h → Element (Coefficient p) m g
    → operations (nested ℕ (ring p) p.q p.r falling m m h g).count ≡ C m m
product_counted {m} {h} {g} p eh eg = (counts ℕ (ring p) p.q p.r (Coefficient p) m).count falling falling_once m (omega arith) h g eh eg
