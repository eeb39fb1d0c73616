-- What is left of a list that passes its checks: from 1 to 64 images, and the tower in the entries after a_0. Rests on perm_calls' ImageVerdicts.
use Rattle.std.proofs.Common.{◌≡◌, ◌-◌, ◌≤◌, List, ℕ, length, take, drop, sym, ap, ◌∙◌, arith}
use Rattle.std.proofs.lemmas.List.{drop-take}
use Rattle.std.specs.Prelude.{Ok}
use Rattle.refusals.specs.Refusals.{Verdict}
use Rattle.perms.specs.Tower.{tower_of}
use Rattle.perm_calls.proofs.ImageVerdicts.{images_accepted}
use Rattle.image_walk.specs.Walk.{Vetted}

module _ {v : Verdict} {w entries : List ℕ} (e : Vetted w entries v) (a : v ≡ Ok tt) where
  pub sized : (1 ≤ length w) × (length w ≤ 64)
  sized = let good = images_accepted w (sym e.verdict ∙ a) in (good.0, good.1)

  pub tower_left : take (length w - 1) (drop 1 entries) ≡ tower_of w
  tower_left = sym (drop-take 1 (length w - 1) entries) ∙ ap (λ n. drop 1 (take n entries)) (omega (arith, sized)) ∙ e.tower a
