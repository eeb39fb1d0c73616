-- The call of a trace that passes its checks: the element is copied to the front of the scratch and traced there, and the scratch is
-- cleared. Rests on ranks' Sizes, element_calls' Verdicts and Calls, and word_lists' Into.
use mathlib.Core.Path.{◌≡◌, refl, sym, ap, ◌∙◌}
use mathlib.Core.List.{List, ◌++◌}
use Prim.Native.Nat.{ℕ, suc, ◌+◌, ◌-◌, ◌^◌, ◌≤◌, ◌<◌}
use native.Mathlib.Omega.{arith}
use lib.ListN.{length, take, drop, replicate}
use lib.Seq.{length-take-le, take_at, drop_at, drop-drop}
use borrow.Rule.Slice.PartMut.{same_len_mid}
use Rattle.lists.specs.Numbers.{factorial}
use Rattle.refusals.specs.Refusals.{◌then◌}
use Rattle.algebra.proofs.Modular.{below}
use Rattle.markov_trace.specs.Trace.{trace}
use Rattle.word_lists.specs.Into.{load_into}
use Rattle.word_lists.proofs.Into.{load_whole}
use Rattle.ranks.specs.Ranks.{size, needed, scratch_size}
use Rattle.ranks.proofs.Sizes.{size_is, scratch_size_is}
use Rattle.element_calls.specs.declared.Parameters.{Parameters}
use Rattle.element_calls.specs.Coefficients.{modulus, ring, parameters_of}
use Rattle.element_calls.specs.Calls.{rank_verdict, size_verdict, scratch_verdict, trace_call}
use Rattle.element_calls.proofs.Verdicts.{trace_accepted}
use Rattle.element_calls.proofs.Calls.{give_done}
use Rattle.traces.specs.Steps.{TracePre}
use Rattle.std.specs.Prelude.{Ok}

-- the first s words of w were lent and came back as v: from k on, the words are as they were
drop_back : (s k : ℕ) (w v : List ℕ) → s ≤ k → s ≤ length w → length v ≡ length (take (s - 0) w) → drop k (v ++ drop (s - 0) w) ≡ drop k w
drop_back s k w v h fits e =
    let lv : length v ≡ s - 0 = e ∙ length-take-le (s - 0) w (omega arith) in
    let at : k ≡ (s - 0) + (k - s) = omega arith in
    let back : (x : List ℕ) → drop k x ≡ drop (k - s) (drop (s - 0) x) = λ x. ap (λ (n : ℕ). drop n x) at ∙ sym (drop-drop (k - s) (s - 0) x) in
    back (v ++ drop (s - 0) w) ∙ ap (drop (k - s)) (drop_at v (drop (s - 0) w) (s - 0) lv) ∙ sym (back w)

-- the checks accept, and s words of scratch take the element
pub record Checked (m s : ℕ) (h w : List ℕ) : Type 0 where
  pub verdict : (rank_verdict m then size_verdict m (length h) then scratch_verdict m (length w)) ≡ Ok tt
  pub size : s ≡ size m

-- one check after another
pub checked : {m s : ℕ} {h w : List ℕ} → Ok tt ≡ rank_verdict m → Ok tt ≡ size_verdict m (length h) → Ok tt ≡ scratch_verdict m (length w) → s ≡ size m
    → Checked m s h w
checked a b c size = record { verdict = rw (← a, ← b, ← c) refl; size = size }

module _ {m s : ℕ} {h w : List ℕ} (c : Checked m s h w) where
  sizes : (m ≤ 6) × (length h ≡ factorial (suc m)) × (needed m ≤ length w)
  sizes = trace_accepted m (length h) (length w) c.verdict

  size_fits : s ≡ factorial (suc m)
  size_fits = c.size ∙ size_is m sizes.0

  within : s ≤ needed m
  unfolding needed
  within = omega (arith, size_fits)

  pub room : s ≤ length w
  room = omega (arith, within, sizes.2)

  part : length (take (s - 0) w) ≡ length h
  part = length-take-le (s - 0) w (omega (arith, room)) ∙ omega (arith, size_fits, sizes.1)

  -- n words are cleared
  need : {n : ℕ} → n ≡ scratch_size m → n ≡ needed m
  need e = e ∙ scratch_size_is m sizes.0

  pub enough : {n : ℕ} → n ≡ scratch_size m → n ≤ length w
  enough e = omega (arith, need e, sizes.2)

  -- the element is copied
  module _ (v : List ℕ) (ev : v ≡ load_into (take (s - 0) w) h 0) where
    abbrev w₁ : List ℕ
    w₁ = v ++ drop (s - 0) w

    copied : v ≡ h
    copied = ev ∙ load_whole (take (s - 0) w) h part

    copied_size : length v ≡ length (take (s - 0) w)
    copied_size = ap length copied ∙ sym part

    lent : take (s - 0) w₁ ≡ h
    lent = take_at v (drop (s - 0) w) (s - 0) (copied_size ∙ length-take-le (s - 0) w (omega (arith, room))) ∙ copied

    pub same_1 : length w₁ ≡ length w
    same_1 = same_len_mid 0 (s - 0) w v copied_size

    pub traced_pre : (q : ℕ) {p : Parameters} → p ≡ parameters_of q → q < 2 ^ 64 → TracePre p m (take (s - 0) w₁)
    unfolding modulus
    traced_pre q ep hq = rw ep (record { q_fits = hq; r_fits = below q; rank = sizes.0; size = ap length lent ∙ sizes.1 })

    -- it is traced, and comes back as u
    module _ (u : List ℕ) (eu : length u ≡ length (take (s - 0) w₁)) where
      abbrev w₂ : List ℕ
      w₂ = u ++ drop (s - 0) w₁

      pub same_2 : length w₂ ≡ length w
      same_2 = same_len_mid 0 (s - 0) w₁ u eu ∙ same_1

      rest : (k : ℕ) → s ≤ k → drop k w₂ ≡ drop k w
      rest k l = drop_back s k w₁ u l (omega (arith, room, same_1)) eu ∙ drop_back s k w v l room copied_size

      zeros : {n : ℕ} {t : List ℕ} → n ≡ scratch_size m → t ≡ replicate (length (take (n - 0) w₂)) 0
          → t ++ drop (n - 0) w₂ ≡ replicate (needed m) 0 ++ drop (needed m) w
      zeros {n} {t} en et =
          let d : n - 0 ≡ needed m = omega (arith, need en) in
          let l : length (take (n - 0) w₂) ≡ needed m = length-take-le (n - 0) w₂ (omega (arith, same_2, enough en)) ∙ d in
          (λ i. (et ∙ ap (λ (k : ℕ). replicate k 0) l) i ++ (ap (λ (k : ℕ). drop k w₂) d ∙ rest (needed m) within) i)

      pub call_done : (q z : ℕ) {n x : ℕ} {p : Parameters} {t : List ℕ} → p ≡ parameters_of q → n ≡ scratch_size m
          → x ≡ trace ℕ (ring p) p.q p.r z m (take (s - 0) w₁) → t ≡ replicate (length (take (n - 0) w₂)) 0
          → trace_call m q z h w ≡ record { answer = Ok x; lent = t ++ drop (n - 0) w₂ }
      unfolding trace_call
      call_done q z ep en ex et =
          let value = ex ∙ ap (λ (p : Parameters). trace ℕ (ring p) p.q p.r z m (take (s - 0) w₁)) ep ∙ ap (trace ℕ _ _ _ z m) lent in
          give_done _ _ _ _ c.verdict value (zeros en et)
