-- What an insert that succeeds does.
use Rattle.std.proofs.Common.{◌≡◌, Result, Ok, Err, inl, inr}
use Rattle.matchit.specs.Rows.{RowsOf}
use Rattle.matchit.specs.Route.{Scan}
use Rattle.matchit.specs.Router.{RouteOf, InsertsRead}
use Rattle.matchit.specs.declared.error.InsertError.{InsertError}
use Rattle.pg_paths.specs.declared.routing.Kind.{Kind}
use Rattle.pg_paths.specs.Routes.{with_read}

pub with_read-inserts : (x : Result Scan InsertError) (kind : Kind) (old new : RowsOf (RouteOf Kind)) → InsertsRead x kind old new (Ok tt) → new ≡ with_read x kind old
with_read-inserts (Ok s) kind old new h = h.1
with_read-inserts (Err e) kind old new h = elim h.1 [
  | inl a ↦ cc
  | inr a ↦ cc
]
