-- The laws of the trace hold for the integers modulo N ≥ 1, for any q, r and z, and so for words, with r = q - 1; and an embedded
-- element is an element. Rests on Laws, TraceCarry, TraceClosed, and ring's and algebra's Modular.
use mathlib.Core.List.{List}
use Prim.Native.Nat.{ℕ, suc, ◌^◌, ◌<◌}
use Rattle.ring.specs.Modular.{modular, words, Residue, residues}
use Rattle.ring.proofs.Modular.{residues_ring, number_hom, words_pos}
use Rattle.algebra.specs.Element.{Element}
use Rattle.algebra.specs.Product.{minus_one}
use Rattle.algebra.proofs.Modular.{numbers, below}
use Rattle.algebra.proofs.Onto.{any}
use Rattle.markov_trace.specs.Trace.{embed}
use Rattle.markov_trace.specs.Laws.{TraceLaws}
use Rattle.markov_trace.proofs.Laws.{trace_laws}
use Rattle.markov_trace.proofs.TraceCarry.{carry_trace}
use Rattle.markov_trace.proofs.TraceClosed.{embed_element}

pub modular_embed_element : (N : ℕ) → 0 < N → (m : ℕ) (h : List ℕ) → Element (λ n. n < N) m h → Element (λ n. n < N) (suc m) (embed ℕ (modular N) m h)
modular_embed_element N pos = embed_element (number_hom N pos) (0, pos) (0, pos) (0, pos) (numbers N) (λ a. a.1)

module _ (N : ℕ) (pos : 0 < N) (m q r z : ℕ) (hq : q < N) (hr : r < N) (hz : z < N) where
  pub modular_trace : TraceLaws ℕ (modular N) q r z (λ n. n < N) m
  modular_trace = carry_trace (number_hom N pos) (q, hq) (r, hr) (z, hz) (numbers N) m
      (trace_laws (Residue N) (residues N pos) (q, hq) (r, hr) (z, hz) (residues_ring N pos) any m)

-- ---- words

pub word_embed_element : (m : ℕ) {h : List ℕ} → Element (λ n. n < 2 ^ 64) m h → Element (λ n. n < 2 ^ 64) (suc m) (embed ℕ words m h)
word_embed_element m {h} = modular_embed_element (2 ^ 64) words_pos m h

module _ (m q z : ℕ) (hq : q < 2 ^ 64) (hz : z < 2 ^ 64) where
  abbrev r : ℕ
  r = minus_one ℕ words q

  pub word_trace : TraceLaws ℕ words q r z (λ n. n < 2 ^ 64) m
  word_trace = modular_trace (2 ^ 64) words_pos m q r z hq (below q) hz
