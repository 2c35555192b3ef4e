-- Predicates that are unfolded at the head of a formula.
use Rattle.std.specs.Prelude.{length, List}
use Rattle.pg_logic.specs.Tree.{Fm}
use Rattle.pg_logic.specs.Declarations.{signature_of}
use Rattle.pg_logic.specs.Kernel.{Pf, hyp}
use Rattle.pg_moves.specs.Goals.{Goal}
use Rattle.pg_moves.specs.Lookup.{Lookup}
use Rattle.pg_moves.specs.Assuming.{Found}
use Rattle.pg_moves.specs.Frames.{Frame, predis, predes, way}

-- the formulas on the way from one to its unfolded form
abbrev pub way_down : Lookup → Fm → List Fm
way_down l a = let s = signature_of l.declared in way (length s.predicates) s a

-- the frames that unfold the target
abbrev pub opening : Lookup → Goal → List Frame
opening l g = predis (length (way_down l g.target))

-- a proof of the unfolded form of a hypothesis
abbrev pub opened_proof : Lookup → Found → Pf
opened_proof l f = predes (way_down l f.hyp.formula) (hyp f.number)
