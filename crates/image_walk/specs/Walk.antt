-- One walk over an image list w: what it holds after the first j images, for every j.
--
--   Held             entries of a tower, or the index of a bad image
--   held w j         for j up to the size of w: the tower of the first j images while none of them is bad, and from the first bad one on its index
--   holding j r es   what code holds after j images, if it finds r, the index of a bad image or none, and has the entries a_0, a_1, .. in es
--   Walked w es r    r is the index of the first bad image of w, if there is one; and r and es show what is held, for every j up to the size of w
--   Vetted w es v    v is the verdict on w by checks 5 and 6, and if it accepts w, then es holds the tower of w after a_0
--   Walk w j         for j up to the size of w. before, after: the entries held are a_1 to a_(j-1) of the tower of w up to its first bad image, and from
--                    there on the index of that image is held. prefix, alone: these entries depend on the first j images alone, and what is held
--                    on these and on the size of w
--   TowerCall w b    for w of 1 to 64 images: what the call answers and leaves in the buffer b, by what the walk holds in the end
use Rattle.std.specs.Prelude.{◌≡◌, ℕ, pred, ◌+◌, ◌<◌, ◌≤◌, cond, ◌≢◌, List, length, take, drop, Option, Some, None, Ok, Err}
use Rattle.lists.specs.Lists.{less, first}
use Rattle.refusals.specs.Refusals.{Verdict}
use Rattle.refusals.specs.declared.Refusal.TheVariants.{Image, Buffer}
use Rattle.perms.specs.Tower.{tower_of}
use Rattle.perm_calls.specs.Calls.{found, bad_image, first_bad_image, images_verdict, tower_of_call}

pub data Held : Type 0 where
  Entries : List ℕ → Held
  Bad : ℕ → Held

unfoldable pub held : List ℕ → ℕ → Held
held w j =
    let bad = first (bad_image w) 0 j in
    cond (less bad j) (Bad bad) (Entries (tower_of (take j w)))

unfoldable pub holding : ℕ → Option ℕ → List ℕ → Held
holding j None entries = Entries (drop 1 (take j entries))
holding j (Some r) entries = cond (less r j) (Bad r) (Entries (drop 1 (take j entries)))

pub record Walked (w entries : List ℕ) (r : Option ℕ) : Type 0 where
  pub index : r ≡ found (first_bad_image w) (length w)
  pub holds : (j : ℕ) → j ≤ length w → held w j ≡ holding j r entries

pub record Vetted (w entries : List ℕ) (v : Verdict) : Type 0 where
  pub verdict : v ≡ images_verdict w
  pub tower : v ≡ Ok tt → drop 1 (take (length w) entries) ≡ tower_of w

pub record Walk (w : List ℕ) (j : ℕ) : Type 0 where
  pub before : j ≤ first_bad_image w → held w j ≡ Entries (take (pred j) (tower_of w))
  pub after : first_bad_image w < j → held w j ≡ Bad (first_bad_image w)
  pub prefix : take (pred j) (tower_of w) ≡ tower_of (take j w)
  pub alone : (v : List ℕ) → length v ≡ length w → take j v ≡ take j w → held v j ≡ held w j

pub record TowerCall (w buffer : List ℕ) : Type 0 where
  pub refused : (i : ℕ) → held w (length w) ≡ Bad i → tower_of_call w buffer ≡ record { answer = Err (Image i); lent = buffer }
  pub unfit : (t : List ℕ) → held w (length w) ≡ Entries t → length buffer + 1 ≢ length w → tower_of_call w buffer ≡ record { answer = Err Buffer; lent = buffer }
  pub done : (t : List ℕ) → held w (length w) ≡ Entries t → length buffer + 1 ≡ length w → tower_of_call w buffer ≡ record { answer = Ok tt; lent = t }
