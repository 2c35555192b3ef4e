use Rattle.std.proofs.Common.{ap, sym, ◌∙◌}
use Rattle.std.specs.Prelude.{option_map}
use Rattle.pg_kernel.specs.View.{proof}
use Rattle.pg_goal.specs.View.{lookup_of}
use Rattle.pg_frames.specs.View.{frames_of}
use Rattle.pg_runs.proofs.Ending.{is_proof, no_none}
use Rattle.pg_runs.proofs.running.proof_of.Goals as goal

pub unreachable-requires : goal.unreachable-requires
unreachable-requires c =
    no_none (lookup_of c.args.lookup.now) c.args.statement.now (frames_of c.args.frames) c.requires (ap (option_map proof) (sym c.in-None.is) ∙ c.in_ok-proof.ensures)

pub returns : goal.returns
returns c =
    is_proof (lookup_of c.args.lookup.now) c.args.statement.now (frames_of c.args.frames) c.in-Some.proof c.requires (ap (option_map proof) (sym c.in-Some.is) ∙ c.in_ok-proof.ensures)
