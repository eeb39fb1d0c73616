-- Permutations as the reference program has them, and what it finds of them: written by `python3 -m reference.vectors`.
--
--   vector w t v n x d    w has the tower t, the inverse v, the length n, the standard word x, and a descent set with the mask d
--   pair u v w            the product of u and v is w
use mathlib.Core.List.{List, [], ◌∷◌}
use Prim.Native.Nat.{ℕ}

pub record Vector : Type 0 where
  pub images : List ℕ
  pub tower : List ℕ
  pub inverse : List ℕ
  pub length : ℕ
  pub word : List ℕ
  pub descents : ℕ

abbrev vector : List ℕ → List ℕ → List ℕ → ℕ → List ℕ → ℕ → Vector
vector w t v n x d = record { images = w; tower = t; inverse = v; length = n; word = x; descents = d }

pub record Pair : Type 0 where
  pub left : List ℕ
  pub right : List ℕ
  pub product : List ℕ

abbrev pair : List ℕ → List ℕ → List ℕ → Pair
pair u v w = record { left = u; right = v; product = w }

abbrev pub vectors : List Vector
vectors =
    vector (1 ∷ []) ([]) (1 ∷ []) 0 ([]) 0
    ∷ vector (1 ∷ 2 ∷ []) (0 ∷ []) (1 ∷ 2 ∷ []) 0 ([]) 0
    ∷ vector (2 ∷ 1 ∷ []) (1 ∷ []) (2 ∷ 1 ∷ []) 1 (1 ∷ []) 1
    ∷ vector (1 ∷ 2 ∷ 3 ∷ []) (0 ∷ 0 ∷ []) (1 ∷ 2 ∷ 3 ∷ []) 0 ([]) 0
    ∷ vector (1 ∷ 3 ∷ 2 ∷ []) (0 ∷ 1 ∷ []) (1 ∷ 3 ∷ 2 ∷ []) 1 (2 ∷ []) 2
    ∷ vector (2 ∷ 1 ∷ 3 ∷ []) (1 ∷ 0 ∷ []) (2 ∷ 1 ∷ 3 ∷ []) 1 (1 ∷ []) 1
    ∷ vector (2 ∷ 3 ∷ 1 ∷ []) (0 ∷ 2 ∷ []) (3 ∷ 1 ∷ 2 ∷ []) 2 (2 ∷ 1 ∷ []) 2
    ∷ vector (3 ∷ 1 ∷ 2 ∷ []) (1 ∷ 1 ∷ []) (2 ∷ 3 ∷ 1 ∷ []) 2 (1 ∷ 2 ∷ []) 1
    ∷ vector (3 ∷ 2 ∷ 1 ∷ []) (1 ∷ 2 ∷ []) (3 ∷ 2 ∷ 1 ∷ []) 3 (1 ∷ 2 ∷ 1 ∷ []) 3
    ∷ vector (3 ∷ 1 ∷ 2 ∷ 4 ∷ []) (1 ∷ 1 ∷ 0 ∷ []) (2 ∷ 3 ∷ 1 ∷ 4 ∷ []) 2 (1 ∷ 2 ∷ []) 1
    ∷ vector (3 ∷ 1 ∷ 4 ∷ 2 ∷ []) (1 ∷ 0 ∷ 2 ∷ []) (2 ∷ 4 ∷ 1 ∷ 3 ∷ []) 3 (1 ∷ 3 ∷ 2 ∷ []) 5
    ∷ vector (1 ∷ 2 ∷ 4 ∷ 3 ∷ []) (0 ∷ 0 ∷ 1 ∷ []) (1 ∷ 2 ∷ 4 ∷ 3 ∷ []) 1 (3 ∷ []) 4
    ∷ vector (2 ∷ 3 ∷ 1 ∷ 4 ∷ []) (0 ∷ 2 ∷ 0 ∷ []) (3 ∷ 1 ∷ 2 ∷ 4 ∷ []) 2 (2 ∷ 1 ∷ []) 2
    ∷ vector (3 ∷ 4 ∷ 1 ∷ 2 ∷ []) (0 ∷ 2 ∷ 2 ∷ []) (3 ∷ 4 ∷ 1 ∷ 2 ∷ []) 4 (2 ∷ 1 ∷ 3 ∷ 2 ∷ []) 2
    ∷ vector (3 ∷ 4 ∷ 2 ∷ 1 ∷ 5 ∷ []) (0 ∷ 2 ∷ 3 ∷ 0 ∷ []) (4 ∷ 3 ∷ 1 ∷ 2 ∷ 5 ∷ []) 5 (2 ∷ 1 ∷ 3 ∷ 2 ∷ 1 ∷ []) 6
    ∷ vector (3 ∷ 1 ∷ 4 ∷ 5 ∷ 2 ∷ []) (1 ∷ 0 ∷ 0 ∷ 3 ∷ []) (2 ∷ 5 ∷ 1 ∷ 3 ∷ 4 ∷ []) 4 (1 ∷ 4 ∷ 3 ∷ 2 ∷ []) 9
    ∷ vector (5 ∷ 4 ∷ 2 ∷ 3 ∷ 1 ∷ []) (1 ∷ 2 ∷ 2 ∷ 4 ∷ []) (5 ∷ 3 ∷ 4 ∷ 2 ∷ 1 ∷ []) 9 (1 ∷ 2 ∷ 1 ∷ 3 ∷ 2 ∷ 4 ∷ 3 ∷ 2 ∷ 1 ∷ []) 11
    ∷ vector (5 ∷ 1 ∷ 4 ∷ 2 ∷ 3 ∷ []) (1 ∷ 1 ∷ 2 ∷ 2 ∷ []) (2 ∷ 4 ∷ 5 ∷ 3 ∷ 1 ∷ []) 6 (1 ∷ 2 ∷ 3 ∷ 2 ∷ 4 ∷ 3 ∷ []) 5
    ∷ vector (8 ∷ 4 ∷ 1 ∷ 6 ∷ 2 ∷ 7 ∷ 5 ∷ 10 ∷ 9 ∷ 3 ∷ []) (1 ∷ 2 ∷ 1 ∷ 3 ∷ 1 ∷ 3 ∷ 0 ∷ 1 ∷ 7 ∷ []) (3 ∷ 5 ∷ 10 ∷ 2 ∷ 7 ∷ 4 ∷ 6 ∷ 1 ∷ 9 ∷ 8 ∷ []) 19 (1 ∷ 2 ∷ 1 ∷ 3 ∷ 4 ∷ 3 ∷ 2 ∷ 5 ∷ 6 ∷ 5 ∷ 4 ∷ 8 ∷ 9 ∷ 8 ∷ 7 ∷ 6 ∷ 5 ∷ 4 ∷ 3 ∷ []) 427
    ∷ []

abbrev pub pairs : List Pair
pairs =
    pair (1 ∷ 2 ∷ []) (2 ∷ 1 ∷ []) (2 ∷ 1 ∷ [])
    ∷ pair (1 ∷ 2 ∷ 3 ∷ []) (1 ∷ 3 ∷ 2 ∷ []) (1 ∷ 3 ∷ 2 ∷ [])
    ∷ pair (1 ∷ 3 ∷ 2 ∷ []) (2 ∷ 1 ∷ 3 ∷ []) (2 ∷ 3 ∷ 1 ∷ [])
    ∷ pair (2 ∷ 1 ∷ 3 ∷ []) (2 ∷ 3 ∷ 1 ∷ []) (3 ∷ 2 ∷ 1 ∷ [])
    ∷ pair (2 ∷ 3 ∷ 1 ∷ []) (3 ∷ 1 ∷ 2 ∷ []) (1 ∷ 2 ∷ 3 ∷ [])
    ∷ pair (3 ∷ 1 ∷ 2 ∷ []) (3 ∷ 2 ∷ 1 ∷ []) (1 ∷ 3 ∷ 2 ∷ [])
    ∷ pair (3 ∷ 1 ∷ 2 ∷ 4 ∷ []) (3 ∷ 1 ∷ 4 ∷ 2 ∷ []) (4 ∷ 3 ∷ 1 ∷ 2 ∷ [])
    ∷ pair (3 ∷ 1 ∷ 4 ∷ 2 ∷ []) (1 ∷ 2 ∷ 4 ∷ 3 ∷ []) (4 ∷ 1 ∷ 3 ∷ 2 ∷ [])
    ∷ pair (1 ∷ 2 ∷ 4 ∷ 3 ∷ []) (2 ∷ 3 ∷ 1 ∷ 4 ∷ []) (2 ∷ 3 ∷ 4 ∷ 1 ∷ [])
    ∷ pair (2 ∷ 3 ∷ 1 ∷ 4 ∷ []) (3 ∷ 4 ∷ 1 ∷ 2 ∷ []) (4 ∷ 1 ∷ 3 ∷ 2 ∷ [])
    ∷ pair (3 ∷ 4 ∷ 2 ∷ 1 ∷ 5 ∷ []) (3 ∷ 1 ∷ 4 ∷ 5 ∷ 2 ∷ []) (4 ∷ 5 ∷ 1 ∷ 3 ∷ 2 ∷ [])
    ∷ pair (3 ∷ 1 ∷ 4 ∷ 5 ∷ 2 ∷ []) (5 ∷ 4 ∷ 2 ∷ 3 ∷ 1 ∷ []) (2 ∷ 5 ∷ 3 ∷ 1 ∷ 4 ∷ [])
    ∷ pair (5 ∷ 4 ∷ 2 ∷ 3 ∷ 1 ∷ []) (5 ∷ 1 ∷ 4 ∷ 2 ∷ 3 ∷ []) (3 ∷ 2 ∷ 1 ∷ 4 ∷ 5 ∷ [])
    ∷ pair (8 ∷ 4 ∷ 1 ∷ 6 ∷ 2 ∷ 7 ∷ 5 ∷ 10 ∷ 9 ∷ 3 ∷ []) (8 ∷ 4 ∷ 1 ∷ 6 ∷ 2 ∷ 7 ∷ 5 ∷ 10 ∷ 9 ∷ 3 ∷ []) (10 ∷ 6 ∷ 8 ∷ 7 ∷ 4 ∷ 5 ∷ 2 ∷ 3 ∷ 9 ∷ 1 ∷ [])
    ∷ pair (8 ∷ 4 ∷ 1 ∷ 6 ∷ 2 ∷ 7 ∷ 5 ∷ 10 ∷ 9 ∷ 3 ∷ []) (3 ∷ 5 ∷ 10 ∷ 2 ∷ 7 ∷ 4 ∷ 6 ∷ 1 ∷ 9 ∷ 8 ∷ []) (1 ∷ 2 ∷ 3 ∷ 4 ∷ 5 ∷ 6 ∷ 7 ∷ 8 ∷ 9 ∷ 10 ∷ [])
    ∷ []
