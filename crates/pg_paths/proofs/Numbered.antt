-- The walk of matchit over the routes gives the kind of a path.
use Rattle.std.proofs.Common.{◌≡◌, ℕ, List, [], ◌∷◌, ◌++◌, cond, refl, ◌==◌, codes, Result, Ok, Err}
use Rattle.matchit.specs.Rows.{Rows, prepend, param_token}
use Rattle.matchit.specs.Route.{Scan, scan, parse_route}
use Rattle.matchit.specs.Router.{RouteOf, route_from, rename}
use Rattle.matchit.specs.declared.error.InsertError.{InsertError}
use Rattle.pg_paths.specs.declared.routing.Kind.{Kind}
use Rattle.pg_paths.specs.declared.routing.Kind.TheVariants.{Game, Me, Level, Transcript, Certificate, Try, Submit}
use Rattle.pg_paths.specs.Routes.{route_rows}

abbrev pub number_of : Kind → ℕ
number_of Game = 1
number_of Me = 2
number_of Level = 3
number_of Transcript = 4
number_of Certificate = 5
number_of Try = 6
number_of Submit = 7

abbrev pub kind_at : ℕ → Kind
kind_at n =
    cond (n == 1) Game (cond (n == 2) Me (cond (n == 3) Level (cond (n == 4) Transcript (cond (n == 5) Certificate (cond (n == 6) Try Submit)))))

abbrev pub text_at : ℕ → List ℕ
text_at n =
    cond (n == 1) (codes "/game") (cond (n == 2) (codes "/me") (cond (n == 3) (codes "/level/{world}/{n}") (cond (n == 4) (codes "/transcript/{no}")
    (cond (n == 5) (codes "/certificate/{no}") (cond (n == 6) (codes "/try") (codes "/submit"))))))

abbrev pub entry_of : Result Scan InsertError → Kind → RouteOf Kind
entry_of (Ok s) kind = route_from s kind
entry_of (Err e) kind = record { pattern = []; text = []; names = []; value = kind }

abbrev pub entry_at : ℕ → RouteOf Kind
entry_at n = entry_of (parse_route (text_at n)) (kind_at n)

abbrev pub one : ℕ → Rows
one k = ([], k) ∷ []

abbrev pub part : ℕ → Rows
part k = (param_token ∷ [], k) ∷ []

abbrev pub parts : ℕ → Rows
parts k = (param_token ∷ 47 ∷ param_token ∷ [], k) ∷ []

abbrev pub r7 : Rows
r7 = prepend (codes "try") (one 6)

abbrev pub r6 : Rows
r6 = prepend (codes "tr") (prepend (codes "anscript/") (part 4) ++ prepend (codes "y") (one 6))

abbrev pub r5 : Rows
r5 = prepend (codes "submit") (one 7) ++ r6

abbrev pub r4 : Rows
r4 = prepend (codes "me") (one 2) ++ r5

abbrev pub r3 : Rows
r3 = prepend (codes "level/") (parts 3) ++ r4

abbrev pub r2 : Rows
r2 = prepend (codes "game") (one 1) ++ r3

abbrev pub r1 : Rows
r1 = prepend (codes "certificate/") (part 5) ++ r2

pub rows-are : route_rows ≡ rename entry_at (prepend (codes "/") r1)
unfolding scan
rows-are = refl
