-- On registers of another size a step does nothing. Rests on lists' Test.
use Rattle.std.proofs.Common.{◌≡◌, ◌≢◌, refl, ℕ, List, length}
use Rattle.std.proofs.Math.Bool.{and-false}
use Rattle.lists.proofs.Test.{same_no}
use Rattle.sheet_format.specs.declared.Header.{Header}
use Rattle.sheet_format.specs.declared.Command.{Command}
use Rattle.machine.specs.Step.{not_obeyed, step_call}

pub step_unsized : (h : Header) (c : Command) (x : List ℕ) → length x ≢ 2880 → step_call h c x ≡ record { answer = not_obeyed {A = ℕ}; lent = x }
unfolding step_call
step_unsized h c x n = rw (same_no {x = length x} {a = 2880} n, and-false) refl
