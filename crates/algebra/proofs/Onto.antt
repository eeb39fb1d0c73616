-- A map onto what is meant: what holds of its values holds of all that is meant. A map onto the coefficients that are meant is one onto the elements.
-- Rests on the definitions alone.
--
--   any               every value is meant
--   From f good y     y is f(x) for an x that is good
--   Onto f good ok    so is every y that is ok
use mathlib.Core.Path.{◌≡◌, refl, sym, ap, ap₂, ◌∙◌, subst}
use mathlib.Core.List.{List, [], ◌∷◌, map}
use Prim.Native.Nat.{ℕ, suc}
use lib.ListN.{length, length-map}
use Rattle.lists.specs.Lists.{All}
use Rattle.lists.specs.Numbers.{factorial}
use Rattle.algebra.specs.Element.{Element}

abbrev pub any : {A : Type 0} → A → Type 0
any a = Unit {0}

pub record From {X Y : Type 0} (f : X → Y) (good : X → Type 0) (y : Y) : Type 0 where
  pub of : X
  pub fit : good of
  pub is : f of ≡ y

abbrev pub Onto : {X Y : Type 0} → (X → Y) → (X → Type 0) → (Y → Type 0) → Type 0
Onto {Y} f good ok = (y : Y) → ok y → From f good y

-- ---- properties of one, two and three values

module _ {X Y : Type 0} {f : X → Y} {good : X → Type 0} {ok : Y → Type 0} (s : Onto f good ok) where
  pub every : (P : Y → Type 0) → ((x : X) → good x → P (f x)) → (y : Y) → ok y → P y
  every P k y e = let x = s y e in subst P x.is (k x.of x.fit)

  module _ {X' Y' : Type 0} {f' : X' → Y'} {good' : X' → Type 0} {ok' : Y' → Type 0} (s' : Onto f' good' ok') where
    pub every2 : (P : Y → Y' → Type 0) → ((x : X) (x' : X') → good x → good' x' → P (f x) (f' x')) → (y : Y) (y' : Y') → ok y → ok' y' → P y y'
    every2 P k y y' e e' = let x = s' y' e' in subst (P y) x.is (every (λ y. P y (f' x.of)) (λ z a. k z x.of a x.fit) y e)

    module _ {X'' Y'' : Type 0} {f'' : X'' → Y''} {good'' : X'' → Type 0} {ok'' : Y'' → Type 0} (s'' : Onto f'' good'' ok'') where
      pub every3 : (P : Y → Y' → Y'' → Type 0) → ((x : X) (x' : X') (x'' : X'') → good x → good' x' → good'' x'' → P (f x) (f' x') (f'' x''))
          → (y : Y) (y' : Y') (y'' : Y'') → ok y → ok' y' → ok'' y'' → P y y' y''
      every3 P k y y' y'' e e' e'' = let x = s'' y'' e'' in
          subst (P y y') x.is (every2 (λ y y'. P y y' (f'' x.of)) (λ z z' a a'. k z z' x.of a a' x.fit) y y' e e')

-- ---- elements

everything : {A : Type 0} (h : List A) → All any h
everything [] = tt
everything (a ∷ h) = (tt, everything h)

-- where every coefficient is meant, a list of (m + 1)! of them is an element
pub sized : {A : Type 0} {m : ℕ} {h : List A} → length h ≡ factorial (suc m) → Element any m h
sized {h = h} e = record { size = e; each = everything h }

module _ {A B : Type 0} {f : A → B} {ok : B → Type 0} (s : Onto f any ok) where
  lists : (h : List B) → All ok h → From (map f) (All any) h
  lists [] a = record { of = []; fit = tt; is = refl }
  lists (b ∷ h) a = let x = s b a.0 in let y = lists h a.1 in
      record { of = x.of ∷ y.of; fit = (tt, y.fit); is = ap₂ {C = List B} (λ c d. c ∷ d) x.is y.is }

  pub elements : (m : ℕ) → Onto (map f) (Element any m) (Element ok m)
  elements m h e = let x = lists h e.each in
      record { of = x.of; fit = record { size = sym (length-map x.of f) ∙ ap length x.is ∙ e.size; each = x.fit }; is = x.is }
