-- The faults of predicates and functions stand within them.
use Rattle.std.proofs.Common.{ℕ, zero, suc, ◌<◌, ◌≤◌, Bool, true, false, ◌&&◌, ◌||◌, List, [], ◌∷◌, length, map, take, drop, arith, Option, Some, None, if◌then◌else◌}
use Rattle.std.specs.Prelude.{◌==◌, nat_lt, flat_map}
use Rattle.pg_base.specs.Tokens.{Word}
use Rattle.pg_logic.specs.Tree.{Fm}
use Rattle.pg_logic.specs.Declarations.{Declarations, arity_limit}
use Rattle.pg_script.specs.Data.{Part}
use Rattle.pg_script.specs.Marks.{place}
use Rattle.pg_gametext.specs.Commands.{is_plain}
use Rattle.pg_gametext.specs.Faults.{Kind, LimitName, one_over, fault, fault_if, stuck_fault, rank, Limit, Predicates, Arity, answer_faults, answer_value}
use Rattle.pg_gametext.specs.Forms.{Told, Taken, token_taken, is_open, is_close, is_assign, is_predicate_sign, begins_open, names_length, at_most_two, parameters_behind, parameters_taken, PredicateText, predicate_assigned, predicate_params, predicate_named, predicate_told}
use Rattle.pg_gametext.specs.Placed.{predicate}
use Rattle.pg_gametext.specs.Before.{Given, given_by, names, bound_names, bound_name, predicate_count, first_place}
use Rattle.pg_gametext.specs.Reading.{texts, declarations, formula_of_part, scope}
use Rattle.pg_gametext.specs.Checks.{clash_fault, given_faults, differing_faults, parameter_faults, part_place, predicate_size, predicate_body_faults, predicate_faults}
use Rattle.pg_gametext.specs.Laws.{Each, IsWithin, StandsWithin, AreInside, AreOrdered, StaysWithin}
use Rattle.pg_gametext.proofs.Join.{each_append, each_more}
use Rattle.pg_gametext.proofs.Within.{missing_at, stands_at, maybe, inside_of}
use Rattle.pg_gametext.proofs.Formulas.{ReadsRight, formula_within}
use Rattle.pg_gametext.proofs.Declared.{IsTaken, OneStands, token_is, back_after, place_up, within_more, taken_within, size_within, PartStands, clash_within_at, GivenStands, given_within, name_alone}

-- ---- parameters

some_of : (two : Bool) (from to : ℕ) (ws : List Word) → AreInside from to ws → AreInside from to (at_most_two two ws)
some_of true from to ws h = taken_within from to 2 ws h
some_of false from to ws h = h

pub record ParametersStand (from to : ℕ) (t : Taken (List Word)) : Type 0 where
  pub taken : IsTaken from to t
  pub names : AreInside from to t.value

behind_stand : (two : Bool) (from to : ℕ) (ws : List Word) → from < to → AreOrdered from to ws → ParametersStand from to (parameters_behind two to ws)
behind_stand two from to ws l h =
    let inside = some_of two from to (take (names_length ws) ws) (taken_within from to (names_length ws) ws (inside_of from to ws h)) in
    let back = back_after from to (length (at_most_two two (take (names_length ws) ws))) ws h in
    let up = place_up from to _ l back in
    let t = (token_is is_close from to _ l back).0 in
    elim ((length (at_most_two two (take (names_length ws) ws)) == 0) || (two && nat_lt (length (at_most_two two (take (names_length ws) ws))) 2)) as (λ b. ParametersStand from to (
    if b then record { value = at_most_two two (take (names_length ws) ws); stuck = Some (place to (drop (length (at_most_two two (take (names_length ws) ws))) ws)); rest = [] }
    else (let u = token_taken is_close to (drop (length (at_most_two two (take (names_length ws) ws))) ws) in record { value = at_most_two two (take (names_length ws) ws); stuck = u.stuck; rest = u.rest }))) [
      | true ↦ record { taken = record { stuck = (missing_at from to _ (omega (arith, up.0)) up.1, tt); rest = tt }; names = inside }
      | false ↦ record { taken = record { stuck = t.stuck; rest = t.rest }; names = inside }
    ]

pub parameters_stand : (two : Bool) (from to : ℕ) (ws : List Word) → from < to → AreOrdered from to ws → ParametersStand from to (parameters_taken two to ws)
parameters_stand two from to ws l h =
    let o = (token_is is_open from to ws l h).0 in
    elim (token_taken is_open to ws).stuck as (λ s. Each (IsWithin from to) (stuck_fault s) → ParametersStand from to (elim s as (λ _. Taken (List Word)) [
      | Some at ↦ record { value = []; stuck = Some at; rest = [] }
      | None ↦ parameters_behind two to (token_taken is_open to ws).rest
    ])) [
      | Some at ↦ λ s. record { taken = record { stuck = s; rest = tt }; names = tt }
      | None ↦ λ s. behind_stand two from to (token_taken is_open to ws).rest l o.rest
    ] o.stuck

abbrev BoundStands : ℕ → ℕ → List Word → Type 0
BoundStands from to ws = GivenStands from to (map bound_name ws)

pub bound_stand : (from to : ℕ) (ws : List Word) → AreInside from to ws → GivenStands from to (map bound_name ws)
bound_stand from to [] h = tt
bound_stand from to (w ∷ ws) h = ((omega (arith, h.0.0), h.0.1), bound_stand from to ws h.1)

pub differing_within : (from to : ℕ) (taken gs : List Given) → GivenStands from to gs → Each (IsWithin from to) (differing_faults taken gs)
differing_within from to taken [] h = tt
differing_within from to taken (g ∷ gs) h =
    each_append (IsWithin from to) (clash_fault g.at (first_place g.name taken)) (differing_faults (g ∷ taken) gs) (clash_within_at from to g.at _ h.0.0 h.0.1) (differing_within from to (g ∷ taken) gs h.1)

pub parameters_within : (from to : ℕ) (ws : List Word) → AreInside from to ws → Each (IsWithin from to) (parameter_faults ws)
parameters_within from to ws h = differing_within from to [] (map bound_name ws) (bound_stand from to ws h)

each_word : (from to : ℕ) (k : Kind) (ws : List Word) → 0 < rank k → AreInside from to ws → Each (IsWithin from to) (flat_map (λ (w : Word). fault w.at k ∷ []) ws)
each_word from to k [] r h = tt
each_word from to k (w ∷ ws) r h = (stands_at from to w.at k (omega (arith, h.0.0)) h.0.1 r, each_word from to k ws r h.1)

dropped : (from to n : ℕ) (ws : List Word) → AreInside from to ws → AreInside from to (drop n ws)
dropped from to zero ws h = h
dropped from to (suc n) [] h = h
dropped from to (suc n) (w ∷ ws) h = dropped from to n ws h.1

pub over_within : (what : LimitName) (from to n : ℕ) (ws : List Word) → AreInside from to ws → Each (IsWithin from to) (one_over what n ws)
over_within what from to n ws h = each_word from to (Limit what (suc n)) (take 1 (drop n ws)) (omega arith) (taken_within from to 1 (drop n ws) (dropped from to n ws h))

-- ---- predicates

-- a body without tokens is none, and has no size
size_of : (d : Declarations) (params : List Word) (from to at : ℕ) (p : Part) → from ≤ at → at < to → AreInside at p.end p.tokens → p.end ≤ to → at < p.end →
    Each (IsWithin from to) (predicate_size (part_place p) (answer_value (formula_of_part (texts params) d p)))
size_of d params from to at p l h inside up lp = by_tokens p.end p.tokens inside up lp
  where
    sized : (there : ℕ) (o : Option Fm) → from ≤ there → there < to → Each (IsWithin from to) (predicate_size there o)
    sized there None l h = tt
    sized there (Some a) l h = size_within from to there a l h

    by_tokens : (end : ℕ) (ws : List Word) → AreInside at end ws → end ≤ to → at < end →
        Each (IsWithin from to) (predicate_size (place end ws) (answer_value (formula_of_part (texts params) d (record { tokens = ws; end = end }))))
    by_tokens end [] inside up lp = tt
    by_tokens end (w ∷ ws) inside up lp = sized w.at (answer_value (formula_of_part (texts params) d (record { tokens = w ∷ ws; end = end }))) (omega (arith, l, inside.0.0)) (omega (arith, inside.0.1, up))

body_within : ReadsRight → (d : Declarations) (params : List Word) (from to : ℕ) (o : Option Part) → from < to → PartStands from to o → Each (IsWithin from to) (predicate_body_faults d params o)
body_within right d params from to None l h = tt
body_within right d params from to (Some p) l h =
    each_append (IsWithin from to) (answer_faults (formula_of_part (texts params) d p)) (predicate_size (part_place p) (answer_value (formula_of_part (texts params) d p)))
    (each_more (IsWithin from p.end) (IsWithin from to) (λ f w. within_more from p.end to f h.1 w) _ (formula_within right (scope (texts params) d) from p.end p.tokens h.0 h.2))
    (size_of d params from to from p (omega arith) l h.2 h.1 h.0)

record PredicateStands (from to : ℕ) (t : Told PredicateText) : Type 0 where
  stuck : Each (IsWithin from to) (stuck_fault t.stuck)
  name : OneStands from to t.value.name
  params : AreInside from to t.value.params
  body : PartStands from to t.value.body

assigned_stands : (from to : ℕ) (p : Word) (params : List Word) (t : Taken (Option Word)) → from < to → StandsWithin from to p → AreInside from to params → IsTaken from to t
    → PredicateStands from to (predicate_assigned p params to t)
assigned_stands from to p params t l hp hs ht =
    elim t.stuck as (λ s. Each (IsWithin from to) (stuck_fault s) → PredicateStands from to (elim s as (λ _. Told PredicateText) [
      | Some at ↦ record { value = record { name = Some p; params = params; body = None }; stuck = Some at }
      | None ↦ record { value = record { name = Some p; params = params; body = Some (record { tokens = t.rest; end = to }) }; stuck = None }
    ])) [
      | Some at ↦ λ s. record { stuck = s; name = hp; params = hs; body = tt }
      | None ↦ λ s. record { stuck = tt; name = hp; params = hs; body = (l, omega arith, inside_of from to t.rest ht.rest) }
    ] ht.stuck

params_stands : (from to : ℕ) (p : Word) (t : Taken (List Word)) → from < to → StandsWithin from to p → ParametersStand from to t → PredicateStands from to (predicate_params to p t)
params_stands from to p t l hp ht =
    elim t.stuck as (λ s. Each (IsWithin from to) (stuck_fault s) → PredicateStands from to (elim s as (λ _. Told PredicateText) [
      | Some at ↦ record { value = record { name = Some p; params = t.value; body = None }; stuck = Some at }
      | None ↦ predicate_assigned p t.value to (token_taken is_assign to t.rest)
    ])) [
      | Some at ↦ λ s. record { stuck = s; name = hp; params = ht.names; body = tt }
      | None ↦ λ s. assigned_stands from to p t.value (token_taken is_assign to t.rest) l hp ht.names (token_is is_assign from to t.rest l ht.taken.rest).0
    ] ht.taken.stuck

named_stands : (from to : ℕ) (t : Taken (Option Word)) → from < to → IsTaken from to t → OneStands from to t.value → PredicateStands from to (predicate_named to t)
named_stands from to t l ht hv =
    elim t.value as (λ o. OneStands from to o → PredicateStands from to (elim o as (λ _. Told PredicateText) [
      | None ↦ record { value = record { name = None; params = []; body = None }; stuck = t.stuck }
      | Some p ↦
          if is_predicate_sign p || begins_open t.rest then predicate_params to p (parameters_taken (is_predicate_sign p) to t.rest)
          else predicate_assigned p [] to (token_taken is_assign to t.rest)
    ])) [
      | None ↦ λ s. record { stuck = ht.stuck; name = tt; params = tt; body = tt }
      | Some p ↦ λ s.
          elim (is_predicate_sign p || begins_open t.rest) as (λ b. PredicateStands from to (
          if b then predicate_params to p (parameters_taken (is_predicate_sign p) to t.rest)
          else predicate_assigned p [] to (token_taken is_assign to t.rest))) [
            | true ↦ params_stands from to p _ l s (parameters_stand (is_predicate_sign p) from to t.rest l ht.rest)
            | false ↦ assigned_stands from to p [] _ l s tt (token_is is_assign from to t.rest l ht.rest).0
          ]
    ] hv

pub predicate_within : ReadsRight → StaysWithin (λ end ws. predicate (predicate_told end ws))
predicate_within right before at end ws l h =
    let t = token_is (λ w. is_plain w || is_predicate_sign w) at end ws l h in
    let s = named_stands at end (token_taken (λ w. is_plain w || is_predicate_sign w) end ws) l t.0 t.1 in
    let v = (predicate_told end ws).value in
    each_append (IsWithin at end) (stuck_fault (predicate_told end ws).stuck) _ s.stuck
    (each_append (IsWithin at end) (given_faults (names before) (bound_names before) (given_by true v.name)) (predicate_faults before at v)
    (given_within at end (names before) (bound_names before) _ (name_alone at end true v.name s.name))
    (each_append (IsWithin at end) (fault_if (predicate_count before == 32) at (Limit Predicates 33)) _ (maybe at end at (Limit Predicates 33) _ (omega arith) l (omega arith))
    (each_append (IsWithin at end) (parameter_faults v.params) _ (parameters_within at end v.params s.params)
    (each_append (IsWithin at end) (one_over Arity arity_limit v.params) _ (over_within Arity at end arity_limit v.params s.params)
    (body_within right (declarations before) v.params at end v.body l s.body)))))
