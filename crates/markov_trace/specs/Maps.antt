-- Every definition on the trace that uses ring operations commutes with a map of them: one claim for each.
--
--   TraceMaps    the map f from A to B takes each definition over the operations o to that over p. This holds where f takes o to p (`Hom`).
--                The fields bear the names of the definitions
use Rattle.std.specs.Prelude.{◌≡◌, List, map, ℕ}
use Rattle.ring.specs.Ring.{Ops}
use Rattle.markov_trace.specs.Trace.{embed, sums, turned, trace, lowered}

pub record TraceMaps (A B : Type 0) (o : Ops A) (p : Ops B) (f : A → B) (q r z : A) : Type 0 where
  pub embed : (m : ℕ) (h : List A) → map f (embed A o m h) ≡ embed B p m (map f h)
  pub sums : (a n : ℕ) (x : ℕ → List A) → map f (sums A o a n x) ≡ sums B p a n (λ i. map f (x i))
  pub turned : (m : ℕ) (h : List A) (k : ℕ) → map f (turned A o q r m h k) ≡ turned B p (f q) (f r) m (map f h) k
  pub trace : (m : ℕ) (h : List A) → f (trace A o q r z m h) ≡ trace B p (f q) (f r) (f z) m (map f h)
  pub lowered : (m : ℕ) (h : List A) → map f (lowered A o q r z m h) ≡ lowered B p (f q) (f r) (f z) m (map f h)
