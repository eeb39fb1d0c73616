-- For every N ≥ 1 the residues modulo N are a commutative ring, and taking the number of a residue is a map of operations to modular N.
-- So it is for words, at N = 2^64. Sums modulo N are commutative and associative on all numbers. Rests on the kit's laws of numbers and lists' Rearranged.
use Rattle.std.proofs.Common.{◌≡◌, ℕ, ◌+◌, ◌-◌, ◌*◌, ◌/◌, ◌%◌, ◌^◌, ◌<◌, sym, refl, ap, ◌∙◌, add_assoc, mod-lt, mod-eq_of_lt, mul_assoc, mul_comm, add_comm, one-mul, zero-add, mul-add, arith}
use mathlib.Core.HLevel.{Σ_prop_path, prop→set, Σ_set}
use native.Mathlib.Bridge.{le_prop}
use native.Mathlib.Nat.{ℕ_set, mod-add-mod, add-mod-mod, mod_self, add-mul-mod_self_right, mod-add-div'}
use Rattle.lists.specs.Sums.{Adds}
use Rattle.lists.proofs.Rearranged.{adds_all}
use Rattle.ring.specs.Ring.{Ring, Hom}
use Rattle.ring.specs.Modular.{modular, words, Residue, number, residues}

-- ---- numbers, with each result reduced modulo N

module _ (N : ℕ) where
  reduced : {a b : ℕ} → a ≡ b → a % N ≡ b % N
  reduced e = ap (λ x. x % N) e

  pub mul_mod_left : (a b : ℕ) → a % N * b % N ≡ a * b % N
  mul_mod_left a b = sym (reduced parts ∙ add-mul-mod_self_right (a % N * b) (a / N * b) N)
    where
      parts : a * b ≡ a % N * b + a / N * b * N
      parts = omega (arith, ap (λ x. x * b) (mod-add-div' a N))

  mul_mod_right : (a b : ℕ) → a * (b % N) % N ≡ a * b % N
  mul_mod_right a b = reduced (mul_comm a (b % N)) ∙ mul_mod_left b a ∙ reduced (mul_comm b a)

  add_assoc_mod : (a b c : ℕ) → ((a + b) % N + c) % N ≡ (a + (b + c) % N) % N
  add_assoc_mod a b c = mod-add-mod (a + b) N c ∙ reduced (add_assoc a b c) ∙ sym (add-mod-mod a (b + c) N)

  pub adds_modular : Adds (modular N).add (λ x. Unit {0})
  unfolding modular
  adds_modular = adds_all (λ a b. reduced (add_comm a b)) add_assoc_mod

  neg_add_mod : 0 < N → (a : ℕ) → ((N - a % N) % N + a) % N ≡ 0
  neg_add_mod pos a = sym (add-mod-mod ((N - a % N) % N) a N) ∙ mod-add-mod (N - a % N) N (a % N) ∙ reduced back ∙ mod_self N
    where
      back : N - a % N + a % N ≡ N
      back = omega (arith, mod-lt a pos)

  mul_assoc_mod : (a b c : ℕ) → a * b % N * c % N ≡ a * (b * c % N) % N
  mul_assoc_mod a b c = mul_mod_left (a * b) c ∙ reduced (mul_assoc a b c) ∙ sym (mul_mod_right a (b * c))

  pub one_mul_mod : (a : ℕ) → 1 % N * a % N ≡ a % N
  one_mul_mod a = mul_mod_left 1 a ∙ reduced (one-mul a)

  mul_add_mod : (a b c : ℕ) → a * ((b + c) % N) % N ≡ (a * b % N + a * c % N) % N
  mul_add_mod a b c = mul_mod_right a (b + c) ∙ reduced (mul-add a b c) ∙ sym (mod-add-mod (a * b) N (a * c % N) ∙ add-mod-mod (a * b) (a * c) N)

-- ---- residues

pub same_number : (N : ℕ) {a b : Residue N} → number N a ≡ number N b → a ≡ b
same_number N e = Σ_prop_path (λ n. le_prop) e

module _ (N : ℕ) (pos : 0 < N) where
  pub residues_ring : Ring (Residue N) (residues N pos)
  unfolding residues modular
  residues_ring = record {
    set = Σ_set ℕ_set (λ n. prop→set le_prop);
    add_assoc = λ a b c. same_number N (add_assoc_mod N a.0 b.0 c.0);
    add_comm = λ a b. same_number N (reduced N (add_comm a.0 b.0));
    zero_add = λ a. same_number N (reduced N (zero-add a.0) ∙ mod-eq_of_lt a.1);
    neg_add = λ a. same_number N (neg_add_mod N pos a.0);
    mul_assoc = λ a b c. same_number N (mul_assoc_mod N a.0 b.0 c.0);
    mul_comm = λ a b. same_number N (reduced N (mul_comm a.0 b.0));
    one_mul = λ a. same_number N (one_mul_mod N a.0 ∙ mod-eq_of_lt a.1);
    mul_add = λ a b c. same_number N (mul_add_mod N a.0 b.0 c.0);
  }

  pub number_hom : Hom (Residue N) ℕ (residues N pos) (modular N) (number N)
  unfolding residues
  number_hom = record { zero = refl; one = refl; add = λ a b. refl; mul = λ a b. refl; neg = λ a. refl }

-- ---- words

pub words_pos : 0 < 2 ^ 64
words_pos = omega arith

pub words_ring : Ring (Residue (2 ^ 64)) (residues (2 ^ 64) words_pos)
words_ring = residues_ring (2 ^ 64) words_pos

pub words_hom : Hom (Residue (2 ^ 64)) ℕ (residues (2 ^ 64) words_pos) words (number (2 ^ 64))
words_hom = number_hom (2 ^ 64) words_pos
