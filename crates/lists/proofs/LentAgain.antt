-- A part of a list that came back as v, and is lent again. Rests on the definitions alone.
use mathlib.Core.Path.{◌≡◌, ap, ap₂, ◌∙◌}
use mathlib.Core.List.{List, ◌++◌}
use Prim.Native.Nat.{ℕ, ◌≤◌}
use lib.ListN.{length, take, drop}
use lib.Seq.{take_at, drop_at, length-take-le}
use borrow.Rule.Slice.PartMut.{mid_of, post_of, put_mid, take_put}

module _ (a k : ℕ) (x v : List ℕ) (h : a ≤ length x) (e : length v ≡ k) where
  drop_part : drop a (put_mid a k x v) ≡ v ++ post_of a k x
  drop_part = drop_at (take a x) (v ++ post_of a k x) a (length-take-le a x h)

  pub part_put : mid_of a k (put_mid a k x v) ≡ v
  part_put = ap (take k) drop_part ∙ take_at v (post_of a k x) k e

  pub put_put : (u : List ℕ) → put_mid a k (put_mid a k x v) u ≡ put_mid a k x u
  put_put u =
      ap₂ {C = List ℕ} (λ p s. p ++ (u ++ s)) (take_put a k x v h) (ap (drop k) drop_part ∙ drop_at v (post_of a k x) k e)
