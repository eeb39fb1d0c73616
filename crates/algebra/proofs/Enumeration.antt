-- The permutations of rank m + 1 from those of rank m: u a(m + 1, k) makes room for the value m + 2 - k in u and puts it last, it is a permutation,
-- and each is of this kind. So the elements of `perms m` are permutations. Rests on lists' All, and perms' ImagesOf and Split.
use mathlib.Core.Path.{◌≡◌, sym, ap, ◌∙◌}
use mathlib.Core.List.{List, map}
use Prim.Native.Nat.{ℕ, zero, suc, ◌+◌, ◌-◌, ◌≤◌, ◌<◌}
use native.Mathlib.Omega.{arith}
use Rattle.lists.specs.Lists.{All}
use Rattle.lists.specs.Blocks.{blocks}
use Rattle.lists.proofs.All.{all_append, all_map}
use Rattle.perms.specs.Permutation.{Perm}
use Rattle.perms.specs.Extend.{extend}
use Rattle.perms.proofs.Identity.{perm_identity}
use Rattle.perms.proofs.Split.{Tail, perm_extend, Apart, split}
use Rattle.perms.proofs.ImagesOf.{extend_product}
use Rattle.algebra.specs.Place.{join, perms}

pub join_extend : {m : ℕ} (k : ℕ) (u : List ℕ) → k ≤ suc m → Perm m u → join m k u ≡ extend (m + 2 - k) u
unfolding join
join_extend k u h p = extend_product k u p h

pub perm_join : {m : ℕ} (k : ℕ) (u : List ℕ) → k ≤ suc m → Perm m u → Perm (suc m) (join m k u)
perm_join k u h p = rw (join_extend k u h p) (perm_extend record { low = omega arith; high = omega arith; rest = p })

-- w is u a(m + 1, k) with k the last entry of its tower
pub record Joined (m : ℕ) (w : List ℕ) : Type 0 where
  pub last : ℕ
  pub rest : List ℕ
  pub small : last ≤ suc m
  pub perm : Perm m rest
  pub whole : w ≡ join m last rest

pub joined : {m : ℕ} (w : List ℕ) → Perm (suc m) w → Joined m w
joined {m} w p = go (split w p)
  where
    go : Apart m w → Joined m w
    go a = let t : Tail m a.top a.rest = a.fit in record {
      last = m + 2 - a.top;
      rest = a.rest;
      small = omega arith;
      perm = t.rest;
      whole = a.whole ∙ ap (λ c. extend c a.rest) (omega arith) ∙ sym (join_extend (m + 2 - a.top) a.rest (omega arith) t.rest);
    }

all_blocks : {B : Type 0} (P : B → Type 0) (n : ℕ) (f : ℕ → List B) → ((k : ℕ) → k < n → All P (f k)) → All P (blocks n f)
unfolding blocks
all_blocks P zero f h = tt
all_blocks P (suc n) f h = all_append P (blocks n f) (f n) (all_blocks P n f (λ k l. h k (omega arith))) (h n (omega arith))

pub perms_perm : (m : ℕ) → All (Perm m) (perms m)
unfolding perms
perms_perm zero = (perm_identity 0, tt)
perms_perm (suc m) =
    all_blocks (Perm (suc m)) (m + 2) (λ k. map (join m k) (perms m))
    (λ k h. all_map (Perm m) (Perm (suc m)) (join m k) (λ u p. perm_join k u (omega arith) p) (perms m) (perms_perm m))
