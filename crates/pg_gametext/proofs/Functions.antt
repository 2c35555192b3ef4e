-- The faults of functions stand within them.
use Rattle.std.proofs.Common.{◌≡◌, ℕ, zero, suc, ◌<◌, ◌≤◌, Bool, true, false, ◌||◌, List, [], ◌∷◌, ◌++◌, length, map, drop, refl, arith, Option, Some, None}
use Rattle.std.specs.Prelude.{◌==◌}
use Rattle.pg_base.specs.Tokens.{Word}
use Rattle.pg_logic.specs.Tree.{Fm, falsum, eq, pred, and, or, imp, all, ex}
use Rattle.pg_logic.specs.Axioms.{quantified}
use Rattle.pg_logic.specs.Declarations.{Name, Declarations, arity_limit}
use Rattle.pg_grammar.specs.Faults.{Reading as ShapeReading, Read, Refused}
use Rattle.pg_grammar.specs.Machine.{read}
use Rattle.pg_shape.specs.Symbols.{symbol}
use Rattle.pg_shape.specs.Answers.{limits, Shaped, Broken, answer, shape_answer}
use Rattle.pg_script.specs.Data.{Part}
use Rattle.pg_syntax.specs.Answers.{Answer, Read as WasRead, Misshapen, Meaningless}
use Rattle.pg_gametext.specs.Commands.{is_plain}
use Rattle.pg_gametext.specs.Faults.{one_over, fault, fault_if, stuck_fault, Expected, Limit, Functions, Arity, NotRecursive, shape_kind, answer_faults}
use Rattle.pg_gametext.specs.Forms.{Told, Taken, token_taken, is_colon, is_bar, is_function_sign, length_before, part_taken, parameters_taken, Equation, FunctionText, equation_named, equation_of_name, equation_taken, both_equations, second_equation, function_params, function_named, function_told}
use Rattle.pg_gametext.specs.Placed.{function}
use Rattle.pg_gametext.specs.Before.{given_by, equation_name, function_names, names, bound_names, function_count}
use Rattle.pg_gametext.specs.Reading.{texts, declarations, formula_of_part, scope, Opens, Closes, Equals, Joins, Negates, Quantifies, outside, no_equation, Sides, sides, no_sides, sides_of, sides_faults, equation_sides, with_new, leading, equation_read, zero_sides, succ_sides, axiom_faults, zero_faults, succ_faults, name_or_none}
use Rattle.pg_gametext.specs.Checks.{given_faults, parameter_faults, zero_equation_faults, succ_equation_faults, function_faults}
use Rattle.pg_gametext.specs.Laws.{Each, IsWithin, StandsWithin, AreInside, AreOrdered, StaysWithin}
use Rattle.pg_gametext.proofs.Join.{each_append, each_more}
use Rattle.pg_gametext.proofs.Within.{missing_at, maybe, or_ended_within, inside_of}
use Rattle.pg_gametext.proofs.Formulas.{ReadsRight, formula_within, refused_within}
use Rattle.pg_gametext.proofs.Declared.{IsTaken, OneStands, token_is, front_before, back_after, place_up, within_more, size_within, PartStands, given_within, name_stands, name_alone}
use Rattle.pg_gametext.proofs.Predicates.{ParametersStand, parameters_stand, parameters_within, over_within}

-- ---- equations

abbrev PlaceStands : ℕ → ℕ → Option ℕ → Type 0
PlaceStands from to None = Unit {0}
PlaceStands from to (Some at) = (from ≤ at) × (at ≤ to)

no_equation_stands : (seen : Bool) (n from to : ℕ) (ws : List Word) → from < to → AreInside from to ws → PlaceStands from to (no_equation seen n to ws)
no_equation_stands true n from to [] l h = tt
no_equation_stands false n from to [] l h = (omega (arith, l), omega arith)
no_equation_stands seen (suc n) from to (w ∷ ws) l h =
    elim (outside w) as (λ o. PlaceStands from to (elim o as (λ _. Option ℕ) [ Opens ↦ no_equation seen (suc (suc n)) to ws | Closes ↦ no_equation seen n to ws | _ ↦ no_equation seen (suc n) to ws ])) [
      | Opens ↦ no_equation_stands seen (suc (suc n)) from to ws l h.1
      | Closes ↦ no_equation_stands seen n from to ws l h.1
      | _ ↦ no_equation_stands seen (suc n) from to ws l h.1
    ]
no_equation_stands false zero from to (w ∷ ws) l h =
    elim (outside w) as (λ o. PlaceStands from to (elim o as (λ _. Option ℕ) [
      | Opens ↦ no_equation false 1 to ws
      | Equals ↦ no_equation true 0 to ws
      | Joins ↦ Some w.at
      | Negates ↦ Some w.at
      | Quantifies ↦ Some w.at
      | _ ↦ no_equation false 0 to ws
    ])) [
      | Opens ↦ no_equation_stands false 1 from to ws l h.1
      | Equals ↦ no_equation_stands true 0 from to ws l h.1
      | Joins ↦ (omega (arith, h.0.0), omega (arith, h.0.1))
      | Negates ↦ (omega (arith, h.0.0), omega (arith, h.0.1))
      | Quantifies ↦ (omega (arith, h.0.0), omega (arith, h.0.1))
      | _ ↦ no_equation_stands false 0 from to ws l h.1
    ]
no_equation_stands true zero from to (w ∷ ws) l h =
    elim (outside w) as (λ o. PlaceStands from to (elim o as (λ _. Option ℕ) [
      | Opens ↦ no_equation true 1 to ws
      | Equals ↦ Some w.at
      | Joins ↦ Some w.at
      | Quantifies ↦ None
      | _ ↦ no_equation true 0 to ws
    ])) [
      | Opens ↦ no_equation_stands true 1 from to ws l h.1
      | Equals ↦ (omega (arith, h.0.0), omega (arith, h.0.1))
      | Joins ↦ (omega (arith, h.0.0), omega (arith, h.0.1))
      | Quantifies ↦ tt
      | _ ↦ no_equation_stands true 0 from to ws l h.1
    ]

broken_within : ReadsRight → (from to at : ℕ) (ws : List Word) → from < to → AreInside from to ws → from ≤ at → at ≤ to
    → Each (IsWithin from to) (sides_faults (elim (shape_answer to ws) as (λ _. Sides) [ Shaped s ↦ no_sides (fault at Expected ∷ []) | Broken f there ↦ no_sides (fault there (shape_kind f) ∷ fault at Expected ∷ []) ]))
broken_within right from to at ws l h low up =
    elim (read limits (map symbol ws)) as (λ (r : ShapeReading). read limits (map symbol ws) ≡ r →
    Each (IsWithin from to) (sides_faults (elim (answer to ws r) as (λ _. Sides) [ Shaped s ↦ no_sides (fault at Expected ∷ []) | Broken f there ↦ no_sides (fault there (shape_kind f) ∷ fault at Expected ∷ []) ]))) [
      | Read s ↦ λ e. (missing_at from to at low up, tt)
      | Refused f rest ↦ λ e. (refused_within from to ws f rest l h (right _ (Refused f rest) e), (missing_at from to at low up, tt))
    ] refl

of_sides : (from to : ℕ) (a : Answer Fm) → Each (IsWithin from to) (answer_faults a) → Each (IsWithin from to) (sides_faults (sides_of a))
of_sides from to (WasRead (eq l r)) h = tt
of_sides from to (WasRead falsum) h = tt
of_sides from to (WasRead (pred p ts)) h = tt
of_sides from to (WasRead (and a b)) h = tt
of_sides from to (WasRead (or a b)) h = tt
of_sides from to (WasRead (imp a b)) h = tt
of_sides from to (WasRead (all x a)) h = tt
of_sides from to (WasRead (ex x a)) h = tt
of_sides from to (Misshapen f at) h = h
of_sides from to (Meaningless f) h = h

sides_within : ReadsRight → (vars : List Name) (d : Declarations) (from : ℕ) (p : Part) → from < p.end → AreInside from p.end p.tokens → Each (IsWithin from p.end) (sides_faults (equation_sides vars d p))
sides_within right vars d from p l h =
    elim (no_equation false 0 p.end p.tokens) as (λ o. PlaceStands from p.end o → Each (IsWithin from p.end) (sides_faults (elim o as (λ _. Sides) [
      | None ↦ sides_of (formula_of_part vars d p)
      | Some at ↦ elim (shape_answer p.end p.tokens) as (λ _. Sides) [ Shaped s ↦ no_sides (fault at Expected ∷ []) | Broken f there ↦ no_sides (fault there (shape_kind f) ∷ fault at Expected ∷ []) ]
    ]))) [
      | None ↦ λ s. of_sides from p.end (formula_of_part vars d p) (formula_within right (scope vars d) from p.end p.tokens l h)
      | Some at ↦ λ s. broken_within right from p.end at p.tokens l h s.0 s.1
    ] (no_equation_stands false 0 from p.end p.tokens l h)

read_within : ReadsRight → (d : Declarations) (params : List Word) (from to : ℕ) (o : Option Part) → from < to → PartStands from to o → Each (IsWithin from to) (sides_faults (equation_read d params o))
read_within right d params from to None l h = tt
read_within right d params from to (Some p) l h = each_more (IsWithin from p.end) (IsWithin from to) (λ f w. within_more from p.end to f h.1 w) _ (sides_within right (texts params) d from p h.0 h.2)

zero_within : (f : ℕ) (params : List Word) (from to at : ℕ) (s : Sides) → from ≤ at → at < to → Each (IsWithin from to) (sides_faults s) → Each (IsWithin from to) (zero_faults f params at s)
zero_within f params from to at (no_sides fs) low up h = h
zero_within f params from to at (sides l r) low up h =
    each_append (IsWithin from to) (axiom_faults at (leading params) l r) _ (size_within from to at (quantified (texts (leading params)) (eq l r)) low up) (maybe from to at NotRecursive _ low up (omega arith))

succ_within : (f : ℕ) (params : List Word) (from to at : ℕ) (s : Sides) → from ≤ at → at < to → Each (IsWithin from to) (sides_faults s) → Each (IsWithin from to) (succ_faults f params at s)
succ_within f params from to at (no_sides fs) low up h = h
succ_within f params from to at (sides l r) low up h =
    each_append (IsWithin from to) (axiom_faults at params l r) _ (size_within from to at (quantified (texts params) (eq l r)) low up) (maybe from to at NotRecursive _ low up (omega arith))

-- ---- parts

abbrev EquationStands : ℕ → ℕ → Option Equation → Type 0
EquationStands from to None = Unit {0}
EquationStands from to (Some e) = StandsWithin from to e.name × PartStands from to e.says

record EquationTaken (from to : ℕ) (t : Taken (Option Equation)) : Type 0 where
  taken : IsTaken from to t
  value : EquationStands from to t.value

named_taken : (from to : ℕ) (n : Word) (ws : List Word) → from < to → StandsWithin from to n → AreOrdered from to ws → EquationTaken from to (equation_named to n ws)
named_taken from to n ws l hn h =
    let c = (token_is is_colon from to ws l h).0 in
    elim (token_taken is_colon to ws).stuck as (λ s. Each (IsWithin from to) (stuck_fault s) → EquationTaken from to (elim s as (λ _. Taken (Option Equation)) [
      | Some at ↦ record { value = Some (record { name = n; says = None }); stuck = Some at; rest = [] }
      | None ↦ let p = part_taken is_bar to (token_taken is_colon to ws).rest in record { value = Some (record { name = n; says = Some p.value }); stuck = None; rest = p.rest }
    ])) [
      | Some at ↦ λ s. record { taken = record { stuck = s; rest = tt }; value = (hn, tt) }
      | None ↦ λ s.
          let rest = (token_taken is_colon to ws).rest in
          let k = length_before is_bar rest in
          let back = back_after from to k rest c.rest in
          let up = place_up from to (drop k rest) l back in
          record { taken = record { stuck = tt; rest = back }; value = (hn, (up.0, up.1, front_before from to k rest c.rest)) }
    ] c.stuck

of_name_taken : (from to : ℕ) (t : Taken (Option Word)) → from < to → IsTaken from to t → OneStands from to t.value → EquationTaken from to (equation_of_name to t)
of_name_taken from to t l ht hv =
    elim t.value as (λ o. OneStands from to o → EquationTaken from to (elim o as (λ _. Taken (Option Equation)) [ None ↦ record { value = None; stuck = t.stuck; rest = [] } | Some n ↦ equation_named to n t.rest ])) [
      | None ↦ λ s. record { taken = record { stuck = ht.stuck; rest = tt }; value = tt }
      | Some n ↦ λ s. named_taken from to n t.rest l s ht.rest
    ] hv

equation_stands : (from to : ℕ) (ws : List Word) → from < to → AreOrdered from to ws → EquationTaken from to (equation_taken to ws)
equation_stands from to ws l h =
    let b = (token_is is_bar from to ws l h).0 in
    elim (token_taken is_bar to ws).stuck as (λ s. Each (IsWithin from to) (stuck_fault s) → EquationTaken from to (elim s as (λ _. Taken (Option Equation)) [
      | Some at ↦ record { value = None; stuck = Some at; rest = [] }
      | None ↦ equation_of_name to (token_taken is_plain to (token_taken is_bar to ws).rest)
    ])) [
      | Some at ↦ λ s. record { taken = record { stuck = s; rest = tt }; value = tt }
      | None ↦ λ s. (let n = token_is is_plain from to (token_taken is_bar to ws).rest l b.rest in of_name_taken from to _ l n.0 n.1)
    ] b.stuck

record FunctionStands (from to : ℕ) (t : Told FunctionText) : Type 0 where
  stuck : Each (IsWithin from to) (stuck_fault t.stuck)
  name : OneStands from to t.value.name
  params : AreInside from to t.value.params
  at_zero : EquationStands from to t.value.at_zero
  at_succ : EquationStands from to t.value.at_succ

second_stands : (from to : ℕ) (f : Word) (params : List Word) (t : Taken (Option Equation)) → from < to → StandsWithin from to f → AreInside from to params → EquationTaken from to t
    → FunctionStands from to (second_equation to f params t)
second_stands from to f params t l hf hp ht =
    elim t.stuck as (λ s. Each (IsWithin from to) (stuck_fault s) → FunctionStands from to (elim s as (λ _. Told FunctionText) [
      | Some at ↦ record { value = record { name = Some f; params = params; at_zero = t.value; at_succ = None }; stuck = Some at }
      | None ↦ both_equations f params t.value (equation_taken to t.rest)
    ])) [
      | Some at ↦ λ s. record { stuck = s; name = hf; params = hp; at_zero = ht.value; at_succ = tt }
      | None ↦ λ s.
          let n = equation_stands from to t.rest l ht.taken.rest in
          record {
            stuck = or_ended_within from to (equation_taken to t.rest).stuck (equation_taken to t.rest).rest n.taken.stuck (inside_of from to _ n.taken.rest);
            name = hf;
            params = hp;
            at_zero = ht.value;
            at_succ = n.value;
          }
    ] ht.taken.stuck

params_stands : (from to : ℕ) (f : Word) (p : Taken (List Word)) → from < to → StandsWithin from to f → ParametersStand from to p → FunctionStands from to (function_params to f p)
params_stands from to f p l hf hp =
    elim p.stuck as (λ s. Each (IsWithin from to) (stuck_fault s) → FunctionStands from to (elim s as (λ _. Told FunctionText) [
      | Some at ↦ record { value = record { name = Some f; params = p.value; at_zero = None; at_succ = None }; stuck = Some at }
      | None ↦ second_equation to f p.value (equation_taken to p.rest)
    ])) [
      | Some at ↦ λ s. record { stuck = s; name = hf; params = hp.names; at_zero = tt; at_succ = tt }
      | None ↦ λ s. second_stands from to f p.value (equation_taken to p.rest) l hf hp.names (equation_stands from to p.rest l hp.taken.rest)
    ] hp.taken.stuck

named_stands : (from to : ℕ) (t : Taken (Option Word)) → from < to → IsTaken from to t → OneStands from to t.value → FunctionStands from to (function_named to t)
named_stands from to t l ht hv =
    elim t.value as (λ o. OneStands from to o → FunctionStands from to (elim o as (λ _. Told FunctionText) [
      | None ↦ record { value = record { name = None; params = []; at_zero = None; at_succ = None }; stuck = t.stuck }
      | Some f ↦ function_params to f (parameters_taken (is_function_sign f) to t.rest)
    ])) [
      | None ↦ λ s. record { stuck = ht.stuck; name = tt; params = tt; at_zero = tt; at_succ = tt }
      | Some f ↦ λ s. params_stands from to f _ l s (parameters_stand (is_function_sign f) from to t.rest l ht.rest)
    ] hv

-- ---- all

zero_part : ReadsRight → (d : Declarations) (f : FunctionText) (from to : ℕ) (o : Option Equation) → from < to → EquationStands from to o → Each (IsWithin from to) (zero_equation_faults d f o)
zero_part right d f from to None l h = tt
zero_part right d f from to (Some e) l h =
    zero_within (length d.functions) f.params from to e.name.at (zero_sides d (name_or_none f.name) f.params e) (omega (arith, h.0.0)) h.0.1
    (read_within right (with_new d (name_or_none f.name) f.params) (leading f.params) from to e.says l h.1)

succ_part : ReadsRight → (d : Declarations) (f : FunctionText) (from to : ℕ) (o : Option Equation) → from < to → EquationStands from to o → Each (IsWithin from to) (succ_equation_faults d f o)
succ_part right d f from to None l h = tt
succ_part right d f from to (Some e) l h =
    succ_within (length d.functions) f.params from to e.name.at (succ_sides d (name_or_none f.name) f.params e) (omega (arith, h.0.0)) h.0.1
    (read_within right (with_new d (name_or_none f.name) f.params) f.params from to e.says l h.1)

equation_name_stands : (from to : ℕ) (o : Option Equation) → EquationStands from to o → OneStands from to (equation_name o)
equation_name_stands from to None h = tt
equation_name_stands from to (Some e) h = h.0

pub function_within : ReadsRight → StaysWithin (λ end ws. function (function_told end ws))
function_within right before at end ws l h =
    let t = token_is (λ w. is_plain w || is_function_sign w) at end ws l h in
    let s = named_stands at end (token_taken (λ w. is_plain w || is_function_sign w) end ws) l t.0 t.1 in
    let v = (function_told end ws).value in
    let d = declarations before in
    let z = equation_name_stands at end v.at_zero s.at_zero in
    let u = equation_name_stands at end v.at_succ s.at_succ in
    each_append (IsWithin at end) (stuck_fault (function_told end ws).stuck) _ s.stuck
    (each_append (IsWithin at end) (given_faults (names before) (bound_names before) (function_names v)) (function_faults before at v)
    (given_within at end (names before) (bound_names before) _
    (name_stands at end true v.name (given_by false (equation_name v.at_zero) ++ given_by false (equation_name v.at_succ)) s.name
    (name_stands at end false (equation_name v.at_zero) (given_by false (equation_name v.at_succ)) z (name_alone at end false (equation_name v.at_succ) u))))
    (each_append (IsWithin at end) (fault_if (function_count before == 64) at (Limit Functions 65)) _ (maybe at end at (Limit Functions 65) _ (omega arith) l (omega arith))
    (each_append (IsWithin at end) (parameter_faults v.params) _ (parameters_within at end v.params s.params)
    (each_append (IsWithin at end) (one_over Arity arity_limit v.params) _ (over_within Arity at end arity_limit v.params s.params)
    (each_append (IsWithin at end) (zero_equation_faults d v v.at_zero) (succ_equation_faults d v v.at_succ) (zero_part right d v at end v.at_zero l s.at_zero) (succ_part right d v at end v.at_succ l s.at_succ))))))
