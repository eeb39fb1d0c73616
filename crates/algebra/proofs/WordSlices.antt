-- The elements of a slice of 64-bit words are below 2^64, so a slice of M words is an element. Rests on lists' All.
use mathlib.Core.Path.{◌≡◌}
use mathlib.Core.List.{List}
use Prim.Native.Nat.{ℕ, suc, ◌^◌, ◌<◌}
use mir.Syntax.{w64}
use mir.Val.{Fits}
use lib.ListN.{length, get_or}
use Rattle.lists.specs.Numbers.{factorial}
use Rattle.lists.proofs.All.{all_index}
use Rattle.algebra.specs.Element.{Element}

pub slice_element : {m : ℕ} {x : List ℕ} → length x ≡ factorial (suc m) → ((i : ℕ) → Fits w64 (get_or x i 0)) → Element (λ n. n < 2 ^ 64) m x
slice_element {x = x} e f = record { size = e; each = all_index (λ n. n < 2 ^ 64) x 0 (λ i l. (f i).fits) }
