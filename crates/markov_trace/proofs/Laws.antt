-- The laws of the trace hold for the definitions on lists, in every commutative ring and for any q, r and z. Rests on Trace, TraceCycles, Markov and
-- Lowered.
use mathlib.Core.List.{List}
use Prim.Native.Nat.{ℕ}
use Rattle.ring.specs.Ring.{Ops, Ring}
use Rattle.algebra.specs.Element.{Element, T, unit as unitList}
use Rattle.markov_trace.specs.Laws.{TraceLaws}
use Rattle.markov_trace.proofs.Algebra.{H, plus, scale, base, times}
use Rattle.markov_trace.proofs.Blocks.{up}
use Rattle.markov_trace.proofs.Trace.{tr_plus, tr_scale}
use Rattle.markov_trace.proofs.TraceCycles.{tr_up, tr_unit}
use Rattle.markov_trace.proofs.Markov.{markov}
use Rattle.markov_trace.proofs.Lowered.{tr_lowered}

module _ (A : Type 0) (o : Ops A) (q r z : A) (𝓡 : Ring A o) where
  pub trace_laws : (ok : A → Type 0) (m : ℕ) → TraceLaws A o q r z ok m
  unfolding plus scale times base up T unitList
  trace_laws ok m = record {
    unit = tr_unit A o q r z 𝓡 m;
    sum = λ h g a b. tr_plus A o q r z 𝓡 (of a) (of b);
    multiple = λ c h k a. tr_scale A o q r z 𝓡 c (of a);
    markov = λ x y a b. markov A o q r z 𝓡 (of a) (of b);
    embedded = λ x a. tr_up A o q r z 𝓡 (of a);
    lowered = λ h a. tr_lowered A o q r z 𝓡 m h a.size;
  }
    where
      of : {h : List A} → Element ok m h → H A m
      of {h} a = record { list = h; size = a.size }
