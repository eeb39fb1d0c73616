-- The integers modulo N; words are the case N = 2^64.
--
--   modular N       the operations on numbers that reduce their result modulo N
--   word_modulus    2^64
--   words           the operations on 64-bit words, which wrap modulo 2^64
--   Residue N       a number below N
--   number N a      the number of a residue
--   residues N      modular N on the residues, for N ≥ 1
use Rattle.std.specs.Prelude.{ℕ, ◌+◌, ◌-◌, ◌*◌, ◌%◌, ◌^◌, ◌<◌}
use Rattle.std.proofs.Math.Nat.{mod-lt}
use Rattle.ring.specs.Ring.{Ops}

unfoldable pub modular : ℕ → Ops ℕ
modular N = record {
  zero = 0;
  one = 1 % N;
  add = λ a b. (a + b) % N;
  mul = λ a b. a * b % N;
  neg = λ a. (N - a % N) % N;
}

abbrev pub word_modulus : ℕ
word_modulus = 2 ^ 64

abbrev pub words : Ops ℕ
words = modular word_modulus

abbrev pub Residue : ℕ → Type 0
Residue N = (n : ℕ) × (n < N)

abbrev pub number : (N : ℕ) → Residue N → ℕ
number N a = a.0

module _ (N : ℕ) (pos : 0 < N) where
  unfoldable pub residues : Ops (Residue N)
  unfolding modular
  residues = record {
    zero = ((modular N).zero, pos);
    one = ((modular N).one, mod-lt 1 pos);
    add = λ a b. ((modular N).add a.0 b.0, mod-lt (a.0 + b.0) pos);
    mul = λ a b. ((modular N).mul a.0 b.0, mod-lt (a.0 * b.0) pos);
    neg = λ a. ((modular N).neg a.0, mod-lt (N - a.0 % N) pos);
  }
