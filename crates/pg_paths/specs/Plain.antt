-- Which route a path has, said of the text alone.
use Rattle.std.specs.Prelude.{ℕ, List, [], ◌∷◌, Option, Some, None, Bool, cond, not, ◌&&◌, ltb, codes, drop, length, nat_eq}
use Rattle.std.specs.List.{starts_with}
use Rattle.matchit.specs.Seek.{has_slash, or_else, segment}
use Rattle.pg_paths.specs.declared.routing.Kind.{Kind}
use Rattle.pg_paths.specs.declared.routing.Kind.TheVariants.{Game, Me, Level, Transcript, Certificate, Try, Submit}

-- what stands behind a front
abbrev pub after : {A : Type 0} → List ℕ → (List ℕ → Option A) → List ℕ → Option A
after w go path = cond (starts_with nat_eq path w) (go (drop (length w) path)) None

-- nothing is left
abbrev pub ends : {A : Type 0} → A → List ℕ → Option A
ends k [] = Some k
ends k (b ∷ path) = None

-- one part is left: some bytes with no slash
abbrev pub is_part : List ℕ → Bool
is_part path = ltb 0 (length path) && not (has_slash path)

abbrev pub one_part : {A : Type 0} → A → List ℕ → Option A
one_part k path = cond (is_part path) (Some k) None

-- a part, a slash and a part are left
abbrev pub two_parts : {A : Type 0} → A → List ℕ → Option A
two_parts k path = cond (has_slash path && ltb 1 (length (segment path))) (one_part k (drop (length (segment path)) path)) None

-- what is told of the route behind the first slash
abbrev pub route_behind : {A : Type 0} → (Kind → A) → List ℕ → Option A
route_behind tell path =
    or_else (after (codes "certificate/") (one_part (tell Certificate)) path)
    (or_else (after (codes "game") (ends (tell Game)) path)
    (or_else (after (codes "level/") (two_parts (tell Level)) path)
    (or_else (after (codes "me") (ends (tell Me)) path)
    (or_else (after (codes "submit") (ends (tell Submit)) path)
    (or_else (after (codes "transcript/") (one_part (tell Transcript)) path)
    (after (codes "try") (ends (tell Try)) path))))))

-- the kind of a path
abbrev pub kind_of_path : List ℕ → Option Kind
kind_of_path path = after (codes "/") (route_behind (λ kind. kind)) path
