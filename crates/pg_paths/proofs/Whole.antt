-- The walk of matchit over the routes gives the kind of a path.
use Rattle.std.proofs.Common.{◌≡◌, ℕ, MatchOption, List, drop, Option, Some, None, cond, refl, ap, ◌∙◌, nat_eq, codes, Result, Ok, Err, option_map}
use Rattle.std.specs.List.{starts_with}
use Rattle.matchit.specs.Rows.{prepend}
use Rattle.matchit.specs.Seek.{first}
use Rattle.matchit.specs.Level.{IsText}
use Rattle.matchit.specs.Route.{Scan, parse_route}
use Rattle.matchit.specs.Router.{map_key}
use Rattle.matchit.specs.declared.error.InsertError.{InsertError}
use Rattle.matchit.proofs.RenameLemmas.{first-rename}
use Rattle.pg_paths.specs.declared.routing.Kind.{Kind}
use Rattle.pg_paths.specs.Routes.{route_rows}
use Rattle.pg_paths.specs.Plain.{after, route_behind, kind_of_path}
use Rattle.pg_paths.proofs.Numbered.{number_of, kind_at, entry_of, entry_at, text_at, r1, rows-are}
use Rattle.pg_paths.proofs.Behind.{behind, under}
use Rattle.pg_paths.proofs.Told.{told, cond-told}

-- the walk over all routes
abbrev number_route : List ℕ → Option ℕ
number_route p = after (codes "/") (route_behind number_of) p

walked : (p : List ℕ) → IsText p → first route_rows p ≡ map_key entry_at (number_route p)
walked p ok =
    ap (λ rows. first rows p) rows-are ∙ first-rename entry_at (prepend (codes "/") r1) p ∙ ap (map_key entry_at) (under (codes "/") r1 (route_behind number_of) refl behind p ok)

kinds : (p : List ℕ) → option_map kind_at (number_route p) ≡ kind_of_path p
kinds p =
    cond-told kind_at (starts_with nat_eq p (codes "/")) (route_behind number_of (drop 1 p))
    ∙ ap (λ o. cond (starts_with nat_eq p (codes "/")) o None) (told kind_at number_of (drop 1 p))

value-is : (x : Result Scan InsertError) (kind : Kind) → (entry_of x kind).value ≡ kind
value-is (Ok s) kind = refl
value-is (Err e) kind = refl

answer : (r o : _) → MatchOption (map_key entry_at o) (r ≡ None) (λ route. r ≡ Some route.value) → r ≡ option_map kind_at o
answer r None h = h
answer r (Some n) h = h ∙ ap Some (value-is (parse_route (text_at n)) (kind_at n))

-- what is answered from the first route is the kind of the path
pub kind-answered : (r : Option Kind) (p : List ℕ) → IsText p → MatchOption (first route_rows p) (r ≡ None) (λ route. r ≡ Some route.value) → r ≡ kind_of_path p
kind-answered r p ok h = answer r (number_route p) (rw (walked p ok) at h) ∙ kinds p
