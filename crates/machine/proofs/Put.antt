-- Elements in the registers: their size, a part of the list that is lent and comes back, and a store. Rests on ranks' Sizes, and lists' All and
-- Overwrite.
--
--   Part m p h    the list p is h, an element of rank m
use mathlib.Core.Path.{◌≡◌, refl, sym, ap, ◌∙◌, subst}
use mathlib.Core.List.{List, ◌++◌}
use Prim.Native.Nat.{ℕ, suc, ◌+◌, ◌*◌, ◌-◌, ◌^◌, ◌≤◌, ◌<◌}
use native.Mathlib.Omega.{arith}
use lib.ListN.{length, get_or, take, drop, set, length-set}
use lib.Seq.{length-take-le, take-take, set-append_left, get_or-take, get_or-drop}
use borrow.Rule.Slice.PartMut.{mid_of, put_mid, Post-is, mid_len, set_mid_at}
use Rattle.lists.specs.Numbers.{factorial}
use Rattle.lists.specs.Overwrite.{overwrite}
use Rattle.lists.proofs.All.{all_index}
use Rattle.lists.proofs.Overwrite.{set_next}
use Rattle.algebra.specs.Element.{Element}
use Rattle.ranks.specs.Ranks.{size}
use Rattle.ranks.proofs.Sizes.{size_is, sheet_size_small}
use Rattle.machine.specs.Registers.{register, element, put}
use Rattle.machine.specs.Steps.{Registers}

-- ---- the registers of a sheet

-- n is what `ranks::size` answers
pub registers : {m n : ℕ} {x : List ℕ} → m ≤ 5 → length x ≡ 2880 → n ≡ size m → Registers m n x
registers {m} low four is = record { low = low; whole = is ∙ size_is m (omega arith); four = four }

-- the registers of rank m and M itself
pub whole : {m : ℕ} {x : List ℕ} → m ≤ 5 → length x ≡ 2880 → Registers m (factorial (suc m)) x
whole low four = record { low = low; whole = refl; four = four }

-- ---- the list with h in register r

-- a store in h
pub put_set : (r i v : ℕ) (h x : List ℕ) → 720 * r ≤ length x → i < length h → set (put r h x) (720 * r + i) v ≡ put r (set h i v) x
unfolding overwrite
put_set r i v h x le l =
    let rest = drop (720 * r + length h) x in
    set_next (take (720 * r) x) (h ++ rest) (720 * r) i v (length-take-le (720 * r) x le)
    ∙ ap (λ (t : List ℕ). take (720 * r) x ++ t)
    (set-append_left h rest i v l ∙ ap (λ n. set h i v ++ drop (720 * r + n) x) (sym (length-set h i v)))

-- ---- the element of register r

pub record Part (m : ℕ) (p h : List ℕ) : Type 0 where
  pub is : p ≡ h
  pub fit : Element (λ n. n < 2 ^ 64) m h

module _ {m size : ℕ} {x : List ℕ} (z : Registers m size x) where
  pub small : size ≤ 720
  small = omega (arith, z.whole, sheet_size_small m z.low)

  module _ {r : ℕ} (four : r < 4) where
    pub inside : 720 * r + size ≤ length x
    inside = omega (arith, small, z.four)

    -- as it is lent
    pub lent_size : length (mid_of (720 * r) (720 * r + size - 720 * r) x) ≡ factorial (suc m)
    lent_size = mid_len (720 * r) (720 * r + size) x inside ∙ omega (arith, z.whole)

    pub lent_is : mid_of (720 * r) (720 * r + size - 720 * r) x ≡ element m r x
    unfolding element
    lent_is = let e : 720 * r + size - 720 * r ≡ factorial (suc m) = omega (arith, z.whole) in ap (λ n. take n (drop (720 * r) x)) e

    pub element_size : length (element m r x) ≡ factorial (suc m)
    element_size = sym (ap length lent_is) ∙ lent_size

    -- it came back as h
    back : {last h : List ℕ} → length last ≡ length (mid_of (720 * r) (720 * r + size - 720 * r) x) → last ≡ h
        → put_mid (720 * r) (720 * r + size - 720 * r) x last ≡ put r h x
    unfolding overwrite
    back {last} {h} l e =
        ap (λ t. take (720 * r) x ++ (last ++ t))
        (Post-is (720 * r) (720 * r + size) x (omega arith) ∙ ap (λ n. drop (720 * r + n) x) (z.whole ∙ sym (l ∙ lent_size)))
        ∙ ap (λ v. put r v x) e

    -- the same from `start` to `end`
    module _ {start end : ℕ} (s : start ≡ 720 * r) (e : end ≡ 720 * r + size) where
      pub lent_size_at : length (mid_of start (end - start) x) ≡ factorial (suc m)
      lent_size_at = rw (s, e) lent_size

      pub back_at : {last h : List ℕ} → length last ≡ length (mid_of start (end - start) x) → last ≡ h → put_mid start (end - start) x last ≡ put r h x
      back_at = rw (s, e) back

    pub set_element : (i v : ℕ) → i < size → set x (720 * r + i) v ≡ put r (set (element m r x) i v) x
    set_element i v l =
        sym (set_mid_at (720 * r) (720 * r + size - 720 * r) i x v (omega (arith, z.whole, lent_size)))
        ∙ back (length-set (mid_of (720 * r) (720 * r + size - 720 * r) x) i v) (ap (λ h. set h i v) lent_is)

    pub words_element : ((i : ℕ) → i < length x → get_or x i 0 < 2 ^ 64) → Element (λ n. n < 2 ^ 64) m (element m r x)
    unfolding element
    words_element word = record {
      size = element_size;
      each = all_index (λ n. n < 2 ^ 64) (element m r x) 0 (λ i l.
          subst (λ n. n < 2 ^ 64)
          (sym (get_or-take (factorial (suc m)) (drop (720 * r) x) i 0 (omega (arith, element_size)) ∙ get_or-drop (720 * r) x i 0))
          (word (720 * r + i) (omega (arith, inside, z.whole, element_size))));
    }

    module _ (known : (i : ℕ) → get_or x i 0 < 2 ^ 64) where
      lent : Part m (mid_of (720 * r) (720 * r + size - 720 * r) x) (element m r x)
      lent = record { is = lent_is; fit = words_element (λ i l. known i) }

      pub lent_at : {start end : ℕ} → start ≡ 720 * r → end ≡ 720 * r + size → Part m (mid_of start (end - start) x) (element m r x)
      lent_at s e = rw (s, e) lent

      -- d is a copy of the register
      pub copied : {d : List ℕ} {k : ℕ} → d ≡ register r x → k ≡ size → Part m (take k d) (element m r x)
      unfolding register element
      copied {d} {k} e is =
          let n : k ≡ factorial (suc m) = is ∙ z.whole in record {
            is = (λ i. take (n i) (e i)) ∙ take-take (factorial (suc m)) 720 (drop (720 * r) x) (omega (arith, small, z.whole));
            fit = words_element (λ i l. known i);
          }
