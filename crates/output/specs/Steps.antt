-- What inner contracts cite.
--
--   Overwritten at x t u next   u is the list t with x in the place of its elements from the index at on, and next is the index after x
--   Room n t                    the buffer of the text t has room for n bytes more
--   Puts x t u                  u is the text t with x put after it, in the same buffer
use Rattle.std.specs.Prelude.{◌≡◌, List, ℕ, ◌+◌, ◌≤◌, length}
use Rattle.lists.specs.Overwrite.{overwrite}
use Rattle.output.specs.declared.lines.Text.{Text}

pub record Overwritten (at : ℕ) (x t u : List ℕ) (next : ℕ) : Type 0 where
  pub text : u ≡ overwrite at x t
  pub ends : next ≡ at + length x

pub record Room (n : ℕ) (t : Text) : Type 0 where
  pub within : t.size + n ≤ length t.bytes.now

pub record Puts (x : List ℕ) (t u : Text) : Type 0 where
  pub put : Overwritten t.size x t.bytes.now u.bytes.now u.size
  pub room : length u.bytes.now ≡ length t.bytes.now
  pub within : u.size ≤ length u.bytes.now
  pub same : u.bytes.ghost_name ≡ t.bytes.ghost_name
