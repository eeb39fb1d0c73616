-- Formula 3.1, Proposition 3.2 and the values of the nested method go over along a map of ring operations onto the coefficients that are meant.
-- Rests on Generator, NestedMaps, Onto and lists' Blocks.
use mathlib.Core.Path.{sym, ap, ◌∙◌}
use mathlib.Core.List.{List, map}
use Prim.Native.Nat.{ℕ}
use Rattle.ring.specs.Ring.{Ops, Hom}
use Rattle.lists.proofs.Blocks.{map_block}
use Rattle.perms.specs.Tower.{cycle}
use Rattle.algebra.specs.Element.{Element}
use Rattle.algebra.specs.Laws.{Formula}
use Rattle.algebra.specs.Method.{Proposition3_2, Method}
use Rattle.algebra.specs.Maps.{mapped, Maps}
use Rattle.algebra.proofs.NestedMaps.{maps}
use Rattle.algebra.proofs.Onto.{any, Onto, every, every2, elements}
use Rattle.algebra.proofs.Generator.{letter_on_pairs}

module _ {A B : Type 0} {o : Ops A} {p : Ops B} {f : A → B} (H : Hom A B o p f) (q r : A) {ok : B → Type 0} (s : Onto f any ok) (m : ℕ) where
  M : Maps A B o p f q r
  M = maps H q r

  E : (l : ℕ) → Onto (map f) (Element any l) (Element ok l)
  E l = elements s l

  pub carry_formula : Formula A o q r any m → Formula B p (f q) (f r) ok m
  carry_formula F = record {
    basis_letter_lem = λ i w l c. simp (M.letter, M.basis, M.basis_letter) at (ap (map f) (F.basis_letter_lem i w l c));
    linear = λ i l. every (E m) _ (λ h a. simp (M.letter, M.sum_over, M.scale, M.coefficient, M.basis_letter) at (ap (map f) (F.linear i l h a)));
    on_pairs_lem = λ i h. letter_on_pairs B p (f q) (f r) m i h;
  }

  carry_proposition : (j l : ℕ) (h : List A) → Proposition3_2 A o q r m j l h → Proposition3_2 B p (f q) (f r) m j l (map f h)
  carry_proposition j l h P = record {
    line_1 = λ k a. simp (map_block f, M.act) at (ap (map f) (P.line_1 k a));
    line_2 = λ k a b. simp (map_block f, M.act, M.scale) at (ap (map f) (P.line_2 k a b));
    line_3 = simp (map_block f, M.act, M.plus, M.scale, M.sum_over) at (ap (map f) P.line_3);
    line_4 = λ k a b. simp (map_block f, M.act) at (ap (map f) (P.line_4 k a b));
  }

  pub carry_method : Method A o q r any m → Method B p (f q) (f r) ok m
  unfolding mapped
  carry_method N = record {
    by_words = λ l b x c. every2 (E m) (E l) _ (λ h g e d.
        simp (M.times, M.sum_over, M.scale, M.coefficient, M.act) at (ap (map f) (N.by_words l b x c h g e d)));
    cycle_times = λ j l b c. every (E m) _ (λ h e. simp (M.times, M.basis, M.act) at (ap (map f) (N.cycle_times j l b c h e)));
    proposition = λ j l b c d. every (E m) _ (λ h e. carry_proposition j l h (N.proposition j l b c d h e));
    act_value = λ j l b c. every (E m) _ (λ h e.
        sym (ap (λ x. x.value) (M.nested_act m j l h)) ∙ ap (map f) (N.act_value j l b c h e) ∙ M.act m (cycle j l) h);
    recursion = λ l b c. every2 (E m) (E l) _ (λ h g e d. simp (M.times, M.sum_over, M.act, map_block f) at (ap (map f) (N.recursion l b c h g e d)));
    value = λ order any l b. every2 (E m) (E l) _ (λ h g e d.
        sym (ap (λ x. x.value) (M.nested order m l h g)) ∙ ap (map f) (N.value order any l b h g e d) ∙ M.times m l h g);
  }
