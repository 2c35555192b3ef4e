use Rattle.matchit.specs.Route.{parse_route}
use Rattle.pg_paths.proofs.RouteLemmas.{with_read-inserts}
use Rattle.pg_paths.proofs.routing.add.Goals as goal
use Rattle.pg_paths.proofs.routing.add.Goals.{in-Ok, in-Err}

pub returns : goal.returns
returns c = elim c.match-insert.branch [
  | in-Ok w ↦ rw w.result-is (with_read-inserts (parse_route c.args.text.now) c.args.kind c.args.router.now c.insert.new.self (rw w.in-Ok.is at c.insert.ensures))
  | in-Err w ↦ rw w.result-is tt
]
