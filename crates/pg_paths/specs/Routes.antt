-- The routes of the server.
use Rattle.std.specs.Prelude.{ℕ, List, [], Result, Ok, Err, codes}
use Rattle.matchit.specs.Rows.{RowsOf}
use Rattle.matchit.specs.Order.{placed}
use Rattle.matchit.specs.Route.{Scan, parse_route}
use Rattle.matchit.specs.Router.{RouteOf, route_from}
use Rattle.matchit.specs.declared.error.InsertError.{InsertError}
use Rattle.pg_paths.specs.declared.routing.Kind.{Kind}
use Rattle.pg_paths.specs.declared.routing.Kind.TheVariants.{Game, Me, Level, Transcript, Certificate, Try, Submit}

abbrev pub with_read : Result Scan InsertError → Kind → RowsOf (RouteOf Kind) → RowsOf (RouteOf Kind)
with_read (Ok s) kind rows = placed (s.pattern, route_from s kind) rows
with_read (Err e) kind rows = rows

-- the rows with one more route
abbrev pub with_route : List ℕ → Kind → RowsOf (RouteOf Kind) → RowsOf (RouteOf Kind)
with_route text kind rows = with_read (parse_route text) kind rows

-- all routes
abbrev pub route_rows : RowsOf (RouteOf Kind)
route_rows =
    with_route (codes "/submit") Submit (with_route (codes "/try") Try
    (with_route (codes "/certificate/{no}") Certificate (with_route (codes "/transcript/{no}") Transcript
    (with_route (codes "/level/{world}/{n}") Level (with_route (codes "/me") Me
    (with_route (codes "/game") Game []))))))
