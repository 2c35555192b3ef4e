-- What verbs and routes stand for.
use Rattle.pg_messages.specs.Paths as paths
use Rattle.pg_paths.specs.declared.path.Verb.{Verb}
use Rattle.pg_paths.specs.declared.path.Verb.TheVariants.{Get, Post}
use Rattle.pg_paths.specs.declared.path.Route.{Route}
use Rattle.pg_paths.specs.declared.path.Route.TheVariants.{Game, Me, Level, Try, Submit, Transcript, Certificate}

abbrev pub verb_view : Verb → paths.Verb
verb_view Get = paths.get
verb_view Post = paths.post

abbrev pub route_view : Route → paths.Route
route_view Game = paths.game
route_view Me = paths.me
route_view (Level world number) = paths.level world.now number
route_view Try = paths.try_script
route_view Submit = paths.submit
route_view (Transcript number) = paths.transcript number
route_view (Certificate number) = paths.certificate number
