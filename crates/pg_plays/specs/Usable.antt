-- Theorems with which scripts can be run.
use Rattle.std.specs.Prelude.{◌≡◌, ◌<◌, ◌^◌, true}
use Rattle.pg_logic.specs.Tree.{Fm, nodes_of}
use Rattle.pg_logic.specs.Signature as logic

-- it is closed and fits what is declared, and its nodes are fewer than 2^32
pub record IsUsableTheorem (s : logic.Signature) (a : Fm) : Type 0 where
  pub fits : logic.fits s 0 0 a ≡ true
  pub nodes : nodes_of a < 2 ^ 32
