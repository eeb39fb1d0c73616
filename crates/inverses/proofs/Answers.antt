-- The inverse as the code answers. Rests on Search.
use Rattle.std.proofs.Common.{◌≡◌, ℕ, ◌<◌, Bool, false, cond, Option, Some, None, ap, ◌∙◌}
use Rattle.inverses.specs.Inverses.{IsInverse, inverse, has_inverse, inverse_of}
use Rattle.inverses.proofs.Search.{inverses}

module _ (N q : ℕ) where
  abbrev answer : Bool → Option ℕ
  answer b = cond b (Some (inverse N q)) None

  pub answer_is : {x : ℕ} → q < N → IsInverse N q x → inverse_of N q ≡ Some x
  unfolding inverse_of
  answer_is {x} hq i = let o = (inverses N q hq).only x i in ap answer o.0 ∙ ap Some o.1

  pub answer_none : has_inverse N q ≡ false → inverse_of N q ≡ None
  unfolding inverse_of
  answer_none f = ap answer f
