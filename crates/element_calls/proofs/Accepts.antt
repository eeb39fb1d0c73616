-- A call that is taken was given a rank, sizes and a word as document 01 and document 02, Tickets 1, 2 and 4, want them: the record `Accepts`.
-- Rests on Verdicts, SignedVerdicts and Answers.
use mathlib.Core.Path.{sym, ◌∙◌}
use lib.ListN.{length}
use Rattle.refusals.specs.Refusals.{◌then◌}
use Rattle.refusals.proofs.Verdicts.{accepts_first, accepts_next}
use Rattle.ranks.specs.Ranks.{needed}
use Rattle.element_calls.specs.Calls.{rank_verdict, size_verdict, word_verdict}
use Rattle.element_calls.specs.Claims.{Accepts}
use Rattle.element_calls.proofs.Verdicts.{one_accepted, two_accepted, three_accepted, trace_accepted, product_accepted, word_accepted}
use Rattle.element_calls.proofs.SignedVerdicts.{signed_accepted}
use Rattle.element_calls.proofs.Answers.{sum_verdict, scale_verdict, act_verdict, signed_verdict_lem, product_verdict, pairing_verdict, trace_verdict}

pub accepts : Accepts
unfolding needed
accepts = record {
  sum = λ m h g result t. three_accepted m (length h) (length g) (length result) (sym (sum_verdict m h g result) ∙ t);
  scale = λ m c h result t. two_accepted m (length h) (length result) (sym (scale_verdict m c h result) ∙ t);
  act_word_lem = λ m q x h t.
      let e = sym (act_verdict m q x h) ∙ t in
      let first = rank_verdict m then size_verdict m (length h) in
      let one = one_accepted m (length h) (accepts_first first (word_verdict m x) e) in
      let two = word_accepted m x (accepts_next first (word_verdict m x) e) in
      (one.0, one.1, two.0, two.1);
  act_signed_word_lem = λ m q x h t. signed_accepted m (length h) q x (sym (signed_verdict_lem m q x h) ∙ t);
  product = λ m q h g result scratch t.
      product_accepted m (length h) (length g) (length result) (length scratch) (sym (product_verdict m q h g result scratch) ∙ t);
  pairing = λ m q h g t. two_accepted m (length h) (length g) (sym (pairing_verdict m q h g) ∙ t);
  trace = λ m q z h scratch t. trace_accepted m (length h) (length scratch) (sym (trace_verdict m q z h scratch) ∙ t);
}
