-- Demand 3 holds, with algebra's definitions as what the calls write. Rests on Verdicts, Calls, Answers, algebra's Modular and Bounds,
-- lists' Tally and perms' Reduced.
use mathlib.Core.Path.{◌≡◌, refl, sym, ap, ◌∙◌}
use mathlib.Core.List.{List, [], ◌∷◌}
use Prim.Native.Nat.{ℕ, suc, ◌*◌, ◌/◌, ◌≤◌}
use native.Mathlib.Nat.{mul_comm}
use native.Mathlib.Omega.{arith}
use lib.ListN.{length}
use Rattle.ring.specs.Modular.{words}
use Rattle.lists.specs.Lists.{less}
use Rattle.lists.specs.Numbers.{factorial}
use Rattle.lists.proofs.Tally.{tally_size}
use Rattle.perms.specs.Permutation.{Perm, below, len, Word, Shortest}
use Rattle.perms.proofs.Reduced.{short_perm}
use Rattle.algebra.specs.Cost.{bound}
use Rattle.algebra.specs.Laws.{defined}
use Rattle.algebra.proofs.Modular.{word_hecke, word_closed}
use Rattle.algebra.proofs.Bounds.{bounds}
use Rattle.ranks.specs.Ranks.{needed}
use Rattle.element_calls.specs.Coefficients.{modulus, parameters_of}
use Rattle.element_calls.specs.Calls.{rank_verdict, size_verdict, act_word_call}
use Rattle.element_calls.specs.Claims.{Taken}
use Rattle.element_calls.specs.Demand3.{E, Demand3}
use Rattle.element_calls.proofs.Verdicts.{rank_taken, size_taken, scratch_taken, word_taken}
use Rattle.element_calls.proofs.Calls.{product_counted}
use Rattle.element_calls.proofs.Answers.{sum_verdict, sum_lent, sum_counted, scale_verdict, scale_lent, scale_counted, act_verdict, act_lent, act_counted, product_verdict, product_lent, product_cleared, product_counts}
use Rattle.std.specs.Prelude.{Ok}

-- ---- a shortest word is within the limit

len_bound : (c : ℕ) (w : List ℕ) → length w ≤ c → len w ≤ c * length w
unfolding len below
len_bound c [] h = omega arith
len_bound c (x ∷ w) h = omega (arith, tally_size (λ y. less y x) w, len_bound c w (omega arith))

shortest_few : {m : ℕ} {x w : List ℕ} → m ≤ 6 → Shortest m x w → length x ≤ 4096
shortest_few {m} {x} {w} h s =
    let p : Perm m w = short_perm s in
    omega (arith, s.short, p.size, len_bound 7 w (omega (arith, p.size)))

-- ---- the claim

pub demand_3 : Demand3
unfolding bound modulus needed
demand_3 m q rank hq = record {
  calls = defined ℕ words q (parameters_of q).r m;
  sum_taken = λ h g result a b c. sum_verdict m h g result ∙ rw (fits, size a, size b, size_taken m (length result) rank c) refl;
  scale_taken = λ c h result a b. scale_verdict m c h result ∙ rw (fits, size a, size_taken m (length result) rank b) refl;
  act_taken = takes;
  product_taken = λ h g result scratch a b c n.
      product_verdict m q h g result scratch ∙ rw (fits, size a, size b, size_taken m (length result) rank c, scratch_taken m (length scratch) rank n) refl;
  sum_writes = sum_lent m;
  scale_writes = scale_lent m;
  act_writes = act_lent m q;
  product_writes = product_lent m q;
  product_clears = product_cleared m q;
  closed = word_closed m q hq;
  hecke = word_hecke m q hq;
  sum_count = sum_counted m;
  scale_count = scale_counted m;
  word_taken = λ w x h s a. takes x h s.word (shortest_few rank s) a;
  word_count = λ w x h s a.
      act_counted m q x h (takes x h s.word (shortest_few rank s) a) ∙ mul_comm (length x) each ∙ ap (λ n. each * n) (sym s.short);
  product_count_lem = λ h g result scratch a b t. product_counts m q h g result scratch t ∙ product_counted (parameters_of q) a b;
  bound = omega (arith, bounds m m (omega arith) rank);
}
  where
    each : ℕ
    each = 3 * factorial (suc m) / 2

    fits : rank_verdict m ≡ Ok tt
    fits = rank_taken m rank

    size : {h : List ℕ} → E m q h → size_verdict m (length h) ≡ Ok tt
    size {h} a = size_taken m (length h) rank a.size

    takes : (x h : List ℕ) → Word m x → length x ≤ 4096 → E m q h → Taken (act_word_call m q x h).answer
    takes x h w n a = act_verdict m q x h ∙ rw (fits, size a, word_taken m x w n) refl
