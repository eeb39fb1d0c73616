-- The trace from level to level: at rank 0 it is the one word, and an element of rank m has the trace of the one of rank m - 1 to which it is lowered. Rests on
-- markov_trace's TraceModular, ranks' Sizes and lists' Parts.
use mathlib.Core.Path.{◌≡◌, refl, sym, ap, ◌∙◌}
use mathlib.Core.List.{List}
use Prim.Native.Nat.{ℕ, zero, suc, ◌+◌, ◌-◌, ◌*◌, ◌^◌, ◌≤◌, ◌<◌}
use native.Mathlib.Omega.{arith}
use lib.ListN.{length, get_or, take}
use lib.Seq.{length-take-le}
use mir.Syntax.{w64}
use mir.Val.{Fits}
use Rattle.ring.specs.Modular.{modular}
use Rattle.ring.proofs.Modular.{words_pos}
use Rattle.lists.specs.Numbers.{factorial}
use Rattle.lists.proofs.Parts.{element_blocks, fits_block}
use Rattle.algebra.specs.Element.{Element}
use Rattle.algebra.proofs.WordSlices.{slice_element}
use Rattle.markov_trace.specs.Trace.{trace, lowered}
use Rattle.markov_trace.proofs.TraceModular.{modular_trace}
use Rattle.ranks.specs.Ranks.{size}
use Rattle.ranks.proofs.Sizes.{size_is}
use Rattle.element_calls.specs.declared.Parameters.{Parameters}
use Rattle.element_calls.specs.Coefficients.{modulus, ring}
use Rattle.traces.specs.Steps.{TracePre, LevelPre}

module _ (p : Parameters) (z : ℕ) where
  abbrev tr : ℕ → List ℕ → ℕ
  tr m x = trace ℕ (ring p) p.q p.r z m x

  pub trace_last : (m : ℕ) (x : List ℕ) → m ≡ 0 → get_or x 0 0 ≡ tr m x
  unfolding trace modular
  trace_last zero x e = refl
  trace_last (suc m) x e = absurd (omega arith)

  trace_lower : (m : ℕ) (x : List ℕ) → 1 ≤ m → p.q < 2 ^ 64 → p.r < 2 ^ 64 → z < 2 ^ 64 → Element (λ n. n < 2 ^ 64) m x
      → tr (m - 1) (lowered ℕ (ring p) p.q p.r z (m - 1) x) ≡ tr m x
  unfolding modulus
  trace_lower zero x l hq hr hz h = absurd (omega arith)
  trace_lower (suc m) x l hq hr hz h =
      let e : suc m - 1 ≡ m = omega arith in
      ap (λ n. tr n (lowered ℕ (ring p) p.q p.r z n x)) e
      ∙ sym ((modular_trace (2 ^ 64) words_pos m p.q p.r z hq hr hz).lowered x h)

  -- the first b words of what the level leaves
  pub traced_level : (m b : ℕ) (x y : List ℕ) → TracePre p m x → 1 ≤ m → z < 2 ^ 64
      → ((i : ℕ) → Fits w64 (get_or x i 0)) → take b y ≡ lowered ℕ (ring p) p.q p.r z (m - 1) x → tr (m - 1) (take (b - 0) y) ≡ tr m x
  unfolding modulus
  traced_level m b x y pre l hz f e =
      let d : b - 0 ≡ b = omega arith in
      ap (λ (n : ℕ). tr (m - 1) (take n y)) d ∙ ap (tr (m - 1)) e ∙ trace_lower m x l pre.q_fits pre.r_fits hz (slice_element pre.size f)

-- ---- sizes

pub one_word : {p : Parameters} {m : ℕ} {x : List ℕ} → TracePre p m x → m ≡ 0 → 0 < length x
unfolding factorial
one_word {m = m} pre e = let one : factorial (suc m) ≡ 1 = ap (λ (n : ℕ). factorial (suc n)) e in omega (arith, one, pre.size)

block_is : {p : Parameters} {m b : ℕ} {x : List ℕ} → TracePre p m x → b ≡ size (m - 1) → b ≡ factorial (suc (m - 1))
block_is {m = m} pre e = e ∙ size_is (m - 1) (omega (arith, pre.rank))

pub level_pre : {p : Parameters} {m b : ℕ} {x : List ℕ} → TracePre p m x → 1 ≤ m → b ≡ size (m - 1) → LevelPre (m - 1) b x
level_pre {m = m} {b} pre l e = record {
  rank = omega (arith, pre.rank);
  block_size = block_is pre e;
  size = let n : suc m ≡ m - 1 + 2 = omega arith in pre.size ∙ element_blocks m b l (block_is pre e) ∙ ap (λ k. k * b) n;
}

pub first_within : {m b : ℕ} {x : List ℕ} → LevelPre m b x → b ≤ length x
first_within {m} {b} {x} pre = omega (arith, fits_block 0 (m + 2) b (length x) (omega arith) (omega (arith, pre.size)))

pub first_pre : {p : Parameters} {m b : ℕ} {x : List ℕ} (y : List ℕ) → TracePre p m x → b ≡ size (m - 1) → b ≤ length y → TracePre p (m - 1) (take (b - 0) y)
first_pre {b = b} y pre e w = record {
  q_fits = pre.q_fits;
  r_fits = pre.r_fits;
  rank = omega (arith, pre.rank);
  size = length-take-le (b - 0) y (omega arith) ∙ omega (arith, block_is pre e);
}
