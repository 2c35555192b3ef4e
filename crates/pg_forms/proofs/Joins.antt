-- What is told of a name, its parameters and what stands behind them is what is told of all.
use Rattle.std.proofs.Common.{◌≡◌, ℕ, Bool, true, false, ◌||◌, if◌then◌else◌, [], List, Option, None, Some, Ok, Err, Result, refl}
use Rattle.std.specs.Borrow.{Bor}
use Rattle.pg_base.specs.declared.token.Token.{Token}
use Rattle.pg_base.specs.Tokens.{Word}
use Rattle.pg_script.specs.Data.{Part}
use Rattle.pg_script.specs.View.{words}
use Rattle.pg_gametext.specs.Forms.{Told, Equation, FunctionText, PredicateText, predicate_assigned, predicate_params, second_equation, function_params, equation_taken, token_taken, is_assign, is_predicate_sign, begins_open, parameters_taken, predicate_named}
use Rattle.pg_forms.specs.Taken.{parameters_or_none, predicate_of, taken_behind, assigned_body, body_at}
use Rattle.pg_forms.specs.Equations.{Pair, second_at, equations_at}

abbrev pub with_body : Word → List Word → Told (Option Part) → Told PredicateText
with_body p names b = record { value = record { name = Some p; params = names; body = b.value }; stuck = b.stuck }

assigned : (p : Word) (names : List Word) (end : ℕ) (v : Option Word) (s : Option ℕ) (ws : List Word)
    → predicate_assigned p names end (record { value = v; stuck = s; rest = ws }) ≡ with_body p names (assigned_body end (record { value = v; stuck = s; rest = ws }))
assigned p names end v None ws = refl
assigned p names end v (Some at) ws = refl

cases : (p : Word) (end : ℕ) (ws : List Word) (opens : Bool) →
    (if opens then predicate_params end p (parameters_taken false end ws) else predicate_assigned p [] end (token_taken is_assign end ws)) ≡ predicate_params end p (if opens then parameters_taken false end ws else record { value = []; stuck = None; rest = ws })
cases p end ws true = refl
cases p end ws false = refl

behind : (p : Word) (is_sign : Bool) (end : ℕ) (ws : List Word)
    → (if is_sign || begins_open ws then predicate_params end p (parameters_taken is_sign end ws) else predicate_assigned p [] end (token_taken is_assign end ws)) ≡ predicate_params end p (parameters_or_none is_sign end ws)
behind p true end ws = refl
behind p false end ws = cases p end ws (begins_open ws)

-- with a name the parameters follow
pub predicate_begun : (p : Word) (end : ℕ) (ws : List Word) → predicate_named end (record { value = Some p; stuck = None; rest = ws }) ≡ predicate_of p end ws
predicate_begun p end ws = behind p (is_predicate_sign p) end ws

pub predicate_joined : (p : Word) (names : List Word) (end : ℕ) (r : Result (Bor (List Token)) ℕ) → predicate_params end p (taken_behind names r) ≡ with_body p names (body_at end r)
predicate_joined p names end (Ok rest) = let a = token_taken is_assign end (words rest.now) in assigned p names end a.value a.stuck a.rest
predicate_joined p names end (Err at) = refl

abbrev pub with_equations : Word → List Word → Told Pair → Told FunctionText
with_equations f names e = record { value = record { name = Some f; params = names; at_zero = e.value.0; at_succ = e.value.1 }; stuck = e.stuck }

second : (f : Word) (names : List Word) (end : ℕ) (v : Option Equation) (s : Option ℕ) (ws : List Word)
    → second_equation end f names (record { value = v; stuck = s; rest = ws }) ≡ with_equations f names (second_at end (record { value = v; stuck = s; rest = ws }))
second f names end v None ws = refl
second f names end v (Some at) ws = refl

pub function_joined : (f : Word) (names : List Word) (end : ℕ) (r : Result (Bor (List Token)) ℕ) → function_params end f (taken_behind names r) ≡ with_equations f names (equations_at end r)
function_joined f names end (Ok rest) = let e = equation_taken end (words rest.now) in second f names end e.value e.stuck e.rest
function_joined f names end (Err at) = refl
