-- The claims hold for the integers modulo N ≥ 1, and so for words, at N = 2^64, with r = q - 1. The coefficients that are meant are the numbers below N.
-- Rests on Laws, Formula, PairingAtUnit, Orders, Method, Onto, Carry, CarryMethod, Closed and ring's Modular.
use mathlib.Core.Path.{◌≡◌, refl}
use Prim.Native.Nat.{ℕ, ◌^◌, ◌<◌}
use native.Mathlib.Nat.{mod-lt}
use native.Mathlib.Omega.{arith}
use Rattle.ring.specs.Modular.{modular, words, Residue, number, residues}
use Rattle.ring.proofs.Modular.{residues_ring, adds_modular, number_hom, words_pos}
use Rattle.algebra.specs.Product.{minus_one}
use Rattle.algebra.specs.Laws.{Formula, defined, Closed, Laws, Hecke}
use Rattle.algebra.specs.PairingLaws.{PairingLaws}
use Rattle.algebra.specs.Method.{Method, Orders}
use Rattle.algebra.proofs.Laws.{laws}
use Rattle.algebra.proofs.Formula.{formula}
use Rattle.algebra.proofs.PairingAtUnit.{pairing_laws}
use Rattle.algebra.proofs.Orders.{orders}
use Rattle.algebra.proofs.Method.{method}
use Rattle.algebra.proofs.Onto.{any, Onto}
use Rattle.algebra.proofs.Carry.{carry, carry_pairing}
use Rattle.algebra.proofs.CarryMethod.{carry_formula, carry_method}
use Rattle.algebra.proofs.Closed.{closed}

-- ---- the integers modulo N

pub numbers : (N : ℕ) → Onto (number N) any (λ n. n < N)
numbers N n h = record { of = (n, h); fit = tt; is = refl }

module _ (N : ℕ) (pos : 0 < N) (m q r : ℕ) (hq : q < N) (hr : r < N) where
  pub modular_laws : Laws ℕ (modular N) q r (λ n. n < N) m (defined ℕ (modular N) q r m)
  modular_laws = carry (number_hom N pos) (q, hq) (r, hr) (numbers N) m (laws (Residue N) (residues N pos) (q, hq) (r, hr) m (residues_ring N pos) any)

  pub modular_formula : Formula ℕ (modular N) q r (λ n. n < N) m
  modular_formula = carry_formula (number_hom N pos) (q, hq) (r, hr) (numbers N) m
      (formula (Residue N) (residues N pos) (q, hq) (r, hr) (residues_ring N pos) any m)

  pub modular_pairing_laws : PairingLaws ℕ (modular N) q r (λ n. n < N) m
  modular_pairing_laws = carry_pairing (number_hom N pos) (q, hq) (r, hr) (numbers N) m
      (pairing_laws (Residue N) (residues N pos) (q, hq) (r, hr) (residues_ring N pos) any m)

  pub modular_method : Method ℕ (modular N) q r (λ n. n < N) m
  modular_method = carry_method (number_hom N pos) (q, hq) (r, hr) (numbers N) m
      (method (Residue N) (residues N pos) (q, hq) (r, hr) (residues_ring N pos) any m)

  pub modular_orders : Orders ℕ (modular N) q r (λ n. n < N) m
  modular_orders = orders ℕ (modular N) q r (adds_modular N) (λ n. n < N) m

  pub modular_closed : Closed ℕ (modular N) (λ n. n < N) m (defined ℕ (modular N) q r m)
  modular_closed = closed (number_hom N pos) (q, hq) (r, hr) (numbers N) (λ a. a.1) m

-- ---- words

pub below : (q : ℕ) → minus_one ℕ words q < 2 ^ 64
unfolding minus_one modular
below q = mod-lt _ words_pos

pub one_less : (q : ℕ) → q < 2 ^ 64 → words.add (minus_one ℕ words q) words.one ≡ q
unfolding minus_one modular
one_less q h = omega arith

module _ (m q : ℕ) (hq : q < 2 ^ 64) where
  word_laws : Laws ℕ words q (minus_one ℕ words q) (λ n. n < 2 ^ 64) m (defined ℕ words q (minus_one ℕ words q) m)
  word_laws = modular_laws (2 ^ 64) words_pos m q (minus_one ℕ words q) hq (below q)

  pub word_hecke : Hecke ℕ words q (minus_one ℕ words q) (λ n. n < 2 ^ 64) m (defined ℕ words q (minus_one ℕ words q) m)
  word_hecke = record { minus_one_lem = one_less q hq; laws = word_laws }

  pub word_formula : Formula ℕ words q (minus_one ℕ words q) (λ n. n < 2 ^ 64) m
  word_formula = modular_formula (2 ^ 64) words_pos m q (minus_one ℕ words q) hq (below q)

  pub word_pairing_laws : PairingLaws ℕ words q (minus_one ℕ words q) (λ n. n < 2 ^ 64) m
  word_pairing_laws = modular_pairing_laws (2 ^ 64) words_pos m q (minus_one ℕ words q) hq (below q)

  pub word_method : Method ℕ words q (minus_one ℕ words q) (λ n. n < 2 ^ 64) m
  word_method = modular_method (2 ^ 64) words_pos m q (minus_one ℕ words q) hq (below q)

  pub word_orders : Orders ℕ words q (minus_one ℕ words q) (λ n. n < 2 ^ 64) m
  word_orders = modular_orders (2 ^ 64) words_pos m q (minus_one ℕ words q) hq (below q)

  pub word_closed : Closed ℕ words (λ n. n < 2 ^ 64) m (defined ℕ words q (minus_one ℕ words q) m)
  word_closed = modular_closed (2 ^ 64) words_pos m q (minus_one ℕ words q) hq (below q)
