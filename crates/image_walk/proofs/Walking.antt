-- A loop that stores the entry of each image at its index, with a mask of the images seen, holds what the walk holds, up to a bad image or to the end.
-- Rests on Held, lists' Search, perms' Prefix and perm_calls' Seen.
use Rattle.std.proofs.Common.{◌≡◌, ℕ, ◌+◌, ◌<◌, ◌≤◌, true, false, List, [], length, get_or, take, drop, set, sym, refl, ap, ◌∙◌, arith, length-drop, length-set, length-take-le, get_or-drop, get_or-set_other, get_or-take, get_or-set_same, ext_get_or}
use lib.Seq.{take-set-le}
use Rattle.lists.specs.Lists.{first}
use Rattle.lists.proofs.Test.{SameView, is, isnt, LessView, lt, ge, same?, less?, less_yes, less_no}
use Rattle.lists.proofs.Search.{first_there, first_more}
use Rattle.perms.specs.Tower.{entry, tower_of}
use Rattle.perms.proofs.Prefix.{get_or_tower_prefix, length_tower_prefix}
use Rattle.perm_calls.specs.Calls.{bad_image, first_bad_image}
use Rattle.perm_calls.proofs.Seen.{Seen, seen_none}
use Rattle.image_walk.specs.Walk.{Entries, Bad, held, holding, Walked}
use Rattle.std.specs.Prelude.{Some, None}
use Rattle.image_walk.proofs.Held.{Good, held_good, held_bad, held_entries}

-- after i images, none of them bad: the entries a_0, a_1, .. of these, so that what was held after each j of them still stands, and their mask
pub record Walking (w entries : List ℕ) (seen i : ℕ) : Type 0 where
  pub within : i ≤ length w
  pub room : length entries ≡ 64
  pub holds : (j : ℕ) → j ≤ i → held w j ≡ Entries (drop 1 (take j entries))
  pub mask : Seen w seen i

-- one more entry
entry_more : (w entries : List ℕ) (i v : ℕ) → i < length w → i < length entries → drop 1 (take i entries) ≡ tower_of (take i w) → v ≡ entry i w
    → tower_of (take (i + 1) w) ≡ drop 1 (take (i + 1) (set entries i v))
entry_more w entries i v h l t e = ext_get_or 0 (tower_of (take (i + 1) w)) (drop 1 (take (i + 1) next)) (size ∙ sym long) (λ k f. at k (omega (arith, size)) (same? (1 + k) i))
  where
    next : List ℕ
    next = set entries i v

    size : length (tower_of (take (i + 1) w)) ≡ i
    size = length_tower_prefix w (i + 1) (omega arith) ∙ omega arith

    long : length (drop 1 (take (i + 1) next)) ≡ i
    long = length-drop 1 (take (i + 1) next) ∙ omega (arith, length-take-le (i + 1) next (omega (arith, length-set entries i v)))

    read : (k : ℕ) → k < i → get_or (drop 1 (take (i + 1) next)) k 0 ≡ get_or next (1 + k) 0
    read k f = get_or-drop 1 (take (i + 1) next) k 0 ∙ get_or-take (i + 1) next (1 + k) 0 (omega arith)

    at : (k : ℕ) → k < i → SameView (1 + k) i → get_or (tower_of (take (i + 1) w)) k 0 ≡ get_or (drop 1 (take (i + 1) next)) k 0
    at k f (is p q) =
        get_or_tower_prefix w (i + 1) k (omega arith) (omega arith)
        ∙ sym (read k f ∙ ap (λ n. get_or next n 0) p ∙ get_or-set_same entries i v 0 l ∙ e ∙ ap (λ n. entry n w) (omega arith))
    at k f (isnt p q) =
        get_or_tower_prefix w (i + 1) k (omega arith) (omega arith)
        ∙ sym (get_or_tower_prefix w i k (omega arith) (omega arith))
        ∙ ap (λ u. get_or u k 0) (sym t) ∙ get_or-drop 1 (take i entries) k 0 ∙ get_or-take i entries (1 + k) 0 (omega arith)
        ∙ sym (read k f ∙ get_or-set_other entries i (1 + k) v 0 p)

pub walking_none : (w entries : List ℕ) → length entries ≡ 64 → Walking w entries 0 0
walking_none w entries e = record { within = omega arith; room = e; holds = λ j h. go j (omega arith); mask = seen_none w }
  where
    none : length (tower_of (take 0 w)) ≡ 0
    none = length_tower_prefix w 0 (omega arith)

    go : (j : ℕ) → j ≡ 0 → held w j ≡ Entries (drop 1 (take j entries))
    go j z = rw z (held_good w 0 (omega arith) ∙ ap Entries (ext_get_or 0 (tower_of (take 0 w)) [] none (λ k h. absurd (omega (arith, none)))))

module _ {w entries : List ℕ} {seen i : ℕ} (g : Walking w entries seen i) where
  -- a good image
  pub walking_more : {next : ℕ} (v : ℕ) → i < length w → length w ≤ 64 → bad_image w i ≡ false → v ≡ entry i w → Seen w next (i + 1)
      → Walking w (set entries i v) next (i + 1)
  walking_more v h l e f s = record {
    within = omega arith;
    room = length-set entries i v ∙ g.room;
    holds = λ j k. go j k (same? j (i + 1));
    mask = s;
  }
    where
      told : Good w i × (drop 1 (take i entries) ≡ tower_of (take i w))
      told = held_entries w i (g.holds i (omega arith))

      go : (j : ℕ) → j ≤ i + 1 → SameView j (i + 1) → held w j ≡ Entries (drop 1 (take j (set entries i v)))
      go j k (is p q) = rw p
          (held_good w (i + 1) (first_more (bad_image w) i told.0 e) ∙ ap Entries (entry_more w entries i v h (omega (arith, g.room)) told.1 f))
      go j k (isnt p q) = g.holds j (omega arith) ∙ ap (λ t. Entries (drop 1 t)) (sym (take-set-le j entries i v (omega arith)))

  -- a bad image
  pub walking_bad : i < length w → bad_image w i ≡ true → Walked w entries (Some i)
  unfolding holding first_bad_image
  walking_bad h e = record { index = rw (there (length w) h, less_yes h); holds = λ j l. go j (less? i j) }
    where
      there : (j : ℕ) → i < j → first (bad_image w) 0 j ≡ i
      there j k = first_there (bad_image w) j i k (held_entries w i (g.holds i (omega arith))).0 e

      go : (j : ℕ) → LessView i j → held w j ≡ holding j (Some i) entries
      go j (lt k f) = held_bad w j (omega (arith, there j k)) ∙ ap Bad (there j k) ∙ rw f refl
      go j (ge k f) = g.holds j k ∙ rw f refl

  -- all images
  pub walking_all : length w ≤ i → Walked w entries None
  unfolding holding first_bad_image
  walking_all h = record {
    index = rw (less_no (held_entries w (length w) (g.holds (length w) (omega arith))).0);
    holds = λ j l. g.holds j (omega arith);
  }
