-- The laws of the trace go over along a map of ring operations onto the coefficients that are meant. Rests on TraceMaps, and algebra's NestedMaps and
-- Onto.
use mathlib.Core.Path.{ap}
use mathlib.Core.List.{map}
use Prim.Native.Nat.{ℕ, suc}
use Rattle.ring.specs.Ring.{Ops, Hom}
use Rattle.algebra.specs.Element.{Element}
use Rattle.algebra.specs.Maps.{Maps}
use Rattle.algebra.proofs.NestedMaps.{maps}
use Rattle.algebra.proofs.Onto.{any, Onto, every, every2, elements}
use Rattle.markov_trace.specs.Laws.{TraceLaws}
use Rattle.markov_trace.specs.Maps.{TraceMaps}
use Rattle.markov_trace.proofs.TraceMaps.{trace_maps}

module _ {A B : Type 0} {o : Ops A} {p : Ops B} {f : A → B} (H : Hom A B o p f) (q r z : A) {ok : B → Type 0} (s : Onto f any ok) (m : ℕ) where
  M : Maps A B o p f q r
  M = maps H q r

  S : TraceMaps A B o p f q r z
  S = trace_maps H q r z

  E : Onto (map f) (Element any m) (Element ok m)
  E = elements s m

  pub carry_trace : TraceLaws A o q r z any m → TraceLaws B p (f q) (f r) (f z) ok m
  carry_trace L = record {
    unit = simp (S.trace, M.unit, H.one) at (ap f L.unit);
    sum = every2 E E _ (λ h g a b. simp (S.trace, M.plus, H.add) at (ap f (L.sum h g a b)));
    multiple = every2 s E _ (λ c h k a. simp (S.trace, M.scale, H.mul) at (ap f (L.multiple c h k a)));
    markov = every2 E E _ (λ x y a b. simp (S.trace, M.times, S.embed, M.T, H.mul) at (ap f (L.markov x y a b)));
    embedded = every E _ (λ x a. simp (S.trace, S.embed) at (ap f (L.embedded x a)));
    lowered = every (elements s (suc m)) _ (λ h a. simp (S.trace, S.lowered) at (ap f (L.lowered h a)));
  }
