-- Along a map of ring operations onto the coefficients that are meant, and no others, an embedded element is an element of the next rank. Rests on Lengths
-- and TraceMaps, and algebra's Onto and Closed.
use mathlib.Core.List.{List}
use Prim.Native.Nat.{ℕ, suc}
use Rattle.ring.specs.Ring.{Ops, Hom}
use Rattle.algebra.specs.Element.{Element}
use Rattle.algebra.proofs.Onto.{any, Onto, every, elements}
use Rattle.algebra.proofs.Closed.{mapped_element}
use Rattle.markov_trace.specs.Trace.{embed}
use Rattle.markov_trace.specs.Maps.{TraceMaps}
use Rattle.markov_trace.proofs.Lengths.{embed_length}
use Rattle.markov_trace.proofs.TraceMaps.{trace_maps}

module _ {A B : Type 0} {o : Ops A} {p : Ops B} {f : A → B} (H : Hom A B o p f) (q r z : A)
    {ok : B → Type 0} (s : Onto f any ok) (good : (a : A) → ok (f a)) (m : ℕ) where
  S : TraceMaps A B o p f q r z
  S = trace_maps H q r z

  pub embed_element : (h : List B) → Element ok m h → Element ok (suc m) (embed B p m h)
  embed_element = every (elements s m) _ (λ h a.
      mapped_element H q r s good (suc m) (embed A o m h) (S.embed m h) (embed_length A o m h a.size))
