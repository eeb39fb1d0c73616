-- The trace, and what it is made of, commute with a map of ring operations. Rests on algebra's NestedMaps, lists' Blocks and ring's Hom.
use mathlib.Core.Path.{◌≡◌, refl, sym, ap, ap₂, ◌∙◌, fun_ext}
use mathlib.Core.List.{List, ◌∷◌, ◌++◌, map, map-append}
use Prim.Native.Nat.{ℕ, zero, suc, ◌+◌, ◌-◌, ◌*◌}
use lib.ListN.{get_or, replicate, get_or-map}
use Rattle.ring.specs.Ring.{Ops, Hom}
use Rattle.ring.specs.Sum.{sum}
use Rattle.ring.proofs.Hom.{hom_sum}
use Rattle.lists.specs.Lists.{range}
use Rattle.lists.specs.Numbers.{factorial}
use Rattle.lists.specs.Blocks.{block}
use Rattle.lists.proofs.Blocks.{map_block}
use Rattle.perms.specs.Tower.{cycle}
use Rattle.algebra.specs.Element.{plus, scale}
use Rattle.algebra.specs.Product.{act}
use Rattle.algebra.specs.Maps.{Maps}
use Rattle.algebra.proofs.NestedMaps.{maps}
use Rattle.markov_trace.specs.Trace.{embed, sums, turned, trace, lowered}
use Rattle.markov_trace.specs.Maps.{TraceMaps}

module _ {A B : Type 0} {o : Ops A} {p : Ops B} {f : A → B} (H : Hom A B o p f) (q r : A) where
  M : Maps A B o p f q r
  M = maps H q r

  map_replicate : (n : ℕ) (a : A) → map f (replicate n a) ≡ replicate n (f a)
  map_replicate zero a = refl
  map_replicate (suc n) a = ap {B = List B} (λ x. f a ∷ x) (map_replicate n a)

  map_embed : (m : ℕ) (h : List A) → map f (embed A o m h) ≡ embed B p m (map f h)
  unfolding embed
  map_embed m h =
      let n = suc m * factorial (suc m) in
      map-append f h (replicate n o.zero) ∙ ap {B = List B} (λ x. map f h ++ x) (map_replicate n o.zero ∙ ap (replicate n) H.zero)

  map_sums : (a n : ℕ) (x : ℕ → List A) → map f (sums A o a n x) ≡ sums B p a n (λ i. map f (x i))
  unfolding sums
  map_sums a zero x = refl
  map_sums a (suc n) x = M.plus (sums A o a n x) (x (a + suc n)) ∙ ap (λ s. plus B p s (map f (x (a + suc n)))) (map_sums a n x)

  map_turned : (m : ℕ) (h : List A) (k : ℕ) → map f (turned A o q r m h k) ≡ turned B p (f q) (f r) m (map f h) k
  unfolding turned
  map_turned m h k =
      let x = cycle m (k - 1) in
      M.act m x (block (factorial (suc m)) k h) ∙ ap (act B p (f q) (f r) m x) (map_block f (factorial (suc m)) k h)

  module _ (z : A) where
    map_trace : (m : ℕ) (h : List A) → f (trace A o q r z m h) ≡ trace B p (f q) (f r) (f z) m (map f h)
    unfolding trace
    map_trace zero h = sym (get_or-map f h 0 o.zero) ∙ ap (get_or (map f h) 0) H.zero
    map_trace (suc m) h =
        let tr = trace B p (f q) (f r) (f z) m in
        H.add _ _ ∙ ap₂ p.add
        (map_trace m (block (factorial (suc m)) 0 h) ∙ ap tr (map_block f (factorial (suc m)) 0 h))
        (H.mul z _ ∙ ap (p.mul (f z)) (hom_sum A B o p f H (range 1 (suc m)) _ ∙ ap (sum B p (range 1 (suc m))) (fun_ext (λ k.
        map_trace m (turned A o q r m h k) ∙ ap tr (map_turned m h k)))))

    map_lowered : (m : ℕ) (h : List A) → map f (lowered A o q r z m h) ≡ lowered B p (f q) (f r) (f z) m (map f h)
    unfolding lowered
    map_lowered m h =
        let s = sums A o 1 m (turned A o q r m h) in
        M.plus (block (factorial (suc m)) 0 h) (scale A o z s)
        ∙ ap₂ (plus B p) (map_block f (factorial (suc m)) 0 h)
        (M.scale z s ∙ ap (scale B p (f z)) (map_sums 1 m (turned A o q r m h) ∙ ap (sums B p 1 m) (fun_ext (map_turned m h))))

    pub trace_maps : TraceMaps A B o p f q r z
    trace_maps = record {
      embed = map_embed;
      sums = map_sums;
      turned = map_turned;
      trace = map_trace;
      lowered = map_lowered;
    }
