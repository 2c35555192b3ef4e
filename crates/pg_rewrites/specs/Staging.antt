-- What a walk along a formula has taken off, and what it takes off yet.
use Rattle.std.specs.Prelude.{ℕ, List, ◌++◌, drop, map}
use Rattle.pg_moves.specs.Frames.{Stage}
use Rattle.pg_frames.specs.View.{stage_of}
use Rattle.pg_terms.specs.declared.term.Term.{Term}
use Rattle.pg_terms.specs.View.{terms, formula}
use Rattle.pg_rewrites.specs.Applying.{stages}
use Rattle.pg_rewrites.specs.declared.staging.Partial.{Partial}

-- the stages so far, and so many more
abbrev pub made : List Term → ℕ → Partial → List Stage
made by k p = map stage_of p.stages ++ stages k (terms (drop p.used by)) (formula p.rest)
