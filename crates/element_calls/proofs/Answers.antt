-- What each call answers and leaves where it is taken: `xChecks` is the verdict of the call x. Rests on Calls.
use mathlib.Core.Path.{◌≡◌, ap}
use mathlib.Core.List.{List, ◌++◌}
use Prim.Native.Nat.{ℕ, suc, ◌+◌, ◌*◌, ◌/◌}
use lib.ListN.{length, drop, replicate}
use lib.IntN.{ℤ}
use Rattle.ring.specs.Modular.{words}
use Rattle.lists.specs.Numbers.{factorial}
use Rattle.refusals.specs.Refusals.{◌then◌, verdict_of, count_of, value_of}
use Rattle.algebra.specs.Element.{plus, scale}
use Rattle.algebra.specs.Product.{act, times}
use Rattle.algebra.specs.Nested.{operations, falling, nested}
use Rattle.algebra.specs.Pairing.{pairing}
use Rattle.signed_words.specs.Words.{signed_act}
use Rattle.markov_trace.specs.Trace.{trace}
use Rattle.ranks.specs.Ranks.{needed}
use Rattle.element_calls.specs.declared.Parameters.{Parameters}
use Rattle.element_calls.specs.Coefficients.{ring, parameters_of, inverse_parameters}
use Rattle.element_calls.specs.Calls.{rank_verdict, size_verdict, scratch_verdict, word_verdict, signed_verdict, sum_call, scale_call, act_word_call, act_signed_word_call, product_call, pairing_call, trace_call}
use Rattle.element_calls.specs.Claims.{Taken, Given}
use Rattle.element_calls.proofs.Calls.{write_verdict, write_lent, write_count, valued_verdict, valued_value, give_verdict, give_value, give_lent}
use Rattle.refusals.specs.Refusals.{Verdict}

module _ (m : ℕ) (h g result : List ℕ) where
  abbrev sum_checks : Verdict
  sum_checks = rank_verdict m then size_verdict m (length h) then size_verdict m (length g) then size_verdict m (length result)

  pub sum_verdict : verdict_of (sum_call m h g result).answer ≡ sum_checks
  unfolding sum_call
  sum_verdict = write_verdict sum_checks _ _ _

  pub sum_lent : Taken (sum_call m h g result).answer → (sum_call m h g result).lent ≡ plus ℕ words h g
  unfolding sum_call
  sum_lent t = write_lent sum_checks _ _ _ t

  pub sum_counted : Taken (sum_call m h g result).answer → count_of (sum_call m h g result).answer ≡ factorial (suc m)
  unfolding sum_call
  sum_counted t = write_count sum_checks _ _ _ t

module _ (m c : ℕ) (h result : List ℕ) where
  abbrev scale_checks : Verdict
  scale_checks = rank_verdict m then size_verdict m (length h) then size_verdict m (length result)

  pub scale_verdict : verdict_of (scale_call m c h result).answer ≡ scale_checks
  unfolding scale_call
  scale_verdict = write_verdict scale_checks _ _ _

  pub scale_lent : Taken (scale_call m c h result).answer → (scale_call m c h result).lent ≡ scale ℕ words c h
  unfolding scale_call
  scale_lent t = write_lent scale_checks _ _ _ t

  pub scale_counted : Taken (scale_call m c h result).answer → count_of (scale_call m c h result).answer ≡ factorial (suc m)
  unfolding scale_call
  scale_counted t = write_count scale_checks _ _ _ t

module _ (m q : ℕ) (x h : List ℕ) where
  abbrev p : Parameters
  p = parameters_of q

  abbrev act_checks : Verdict
  act_checks = rank_verdict m then size_verdict m (length h) then word_verdict m x

  pub act_verdict : verdict_of (act_word_call m q x h).answer ≡ act_checks
  unfolding act_word_call
  act_verdict = write_verdict act_checks _ _ _

  pub act_lent : Taken (act_word_call m q x h).answer → (act_word_call m q x h).lent ≡ act ℕ (ring p) p.q p.r m x h
  unfolding act_word_call
  act_lent t = write_lent act_checks _ _ _ t

  pub act_counted : Taken (act_word_call m q x h).answer → count_of (act_word_call m q x h).answer ≡ length x * (3 * factorial (suc m) / 2)
  unfolding act_word_call
  act_counted t = write_count act_checks _ _ _ t

module _ (m q : ℕ) (x : List ℤ) (h : List ℕ) where
  pub signed_verdict_lem : verdict_of (act_signed_word_call m q x h).answer ≡ signed_verdict m (length h) q x
  unfolding act_signed_word_call
  signed_verdict_lem = write_verdict (signed_verdict m (length h) q x) _ _ _

  pub signed_lent : Taken (act_signed_word_call m q x h).answer
      → let p = parameters_of q in
      let p' = inverse_parameters q in
      (act_signed_word_call m q x h).lent ≡ signed_act ℕ (ring p) p.q p.r p'.q p'.r m x h
  unfolding act_signed_word_call
  signed_lent t = write_lent (signed_verdict m (length h) q x) _ _ _ t

  pub signed_counted : Taken (act_signed_word_call m q x h).answer → count_of (act_signed_word_call m q x h).answer ≡ length x * (3 * factorial (suc m) / 2)
  unfolding act_signed_word_call
  signed_counted t = write_count (signed_verdict m (length h) q x) _ _ _ t

module _ (m q : ℕ) (h g result scratch : List ℕ) where
  abbrev product_checks : Verdict
  product_checks =
      rank_verdict m then size_verdict m (length h) then size_verdict m (length g) then size_verdict m (length result) then scratch_verdict m (length scratch)

  pub product_verdict : verdict_of (product_call m q h g result scratch).answer ≡ product_checks
  unfolding product_call
  product_verdict = write_verdict product_checks _ _ _

  pub product_lent : Taken (product_call m q h g result scratch).answer
      → let p = parameters_of q in (product_call m q h g result scratch).lent.result ≡ times ℕ (ring p) p.q p.r m m h g
  unfolding product_call
  product_lent t = ap (λ b. b.result) (write_lent product_checks _ _ _ t)

  pub product_cleared : Taken (product_call m q h g result scratch).answer
      → (product_call m q h g result scratch).lent.scratch ≡ replicate ((m + 6) * factorial (suc m)) 0 ++ drop ((m + 6) * factorial (suc m)) scratch
  unfolding product_call needed
  product_cleared t = ap (λ b. b.scratch) (write_lent product_checks _ _ _ t)

  pub product_counts : Taken (product_call m q h g result scratch).answer
      → let p = parameters_of q in count_of (product_call m q h g result scratch).answer ≡ operations (nested ℕ (ring p) p.q p.r falling m m h g).count
  unfolding product_call
  product_counts t = write_count product_checks _ _ _ t

module _ (m q : ℕ) (h g : List ℕ) where
  abbrev pub pairing_checks : Verdict
  pairing_checks = rank_verdict m then size_verdict m (length h) then size_verdict m (length g)

  pub pairing_verdict : verdict_of (pairing_call m q h g) ≡ pairing_checks
  unfolding pairing_call
  pairing_verdict = valued_verdict pairing_checks _

  pub pairing_value : Given (pairing_call m q h g) → let p = parameters_of q in value_of (pairing_call m q h g) ≡ pairing ℕ (ring p) p.q m h g
  unfolding pairing_call
  pairing_value t = valued_value pairing_checks _ t

module _ (m q z : ℕ) (h scratch : List ℕ) where
  abbrev pub trace_checks : Verdict
  trace_checks = rank_verdict m then size_verdict m (length h) then scratch_verdict m (length scratch)

  pub trace_verdict : verdict_of (trace_call m q z h scratch).answer ≡ trace_checks
  unfolding trace_call
  trace_verdict = give_verdict trace_checks _ _ _

  pub trace_value : Given (trace_call m q z h scratch).answer
      → let p = parameters_of q in value_of (trace_call m q z h scratch).answer ≡ trace ℕ (ring p) p.q p.r z m h
  unfolding trace_call
  trace_value t = give_value trace_checks _ _ _ t

  pub trace_cleared : Given (trace_call m q z h scratch).answer
      → (trace_call m q z h scratch).lent ≡ replicate ((m + 6) * factorial (suc m)) 0 ++ drop ((m + 6) * factorial (suc m)) scratch
  unfolding trace_call needed
  trace_cleared t = give_lent trace_checks _ _ _ t
