-- The faults of lists of names, of worlds and of constants stand within them.
use Rattle.std.proofs.Common.{ℕ, zero, suc, ◌<◌, ◌≤◌, Bool, true, false, not, List, [], ◌∷◌, ◌++◌, length, take, drop, arith, Option, Some, None, if◌then◌else◌, codes}
use Rattle.std.specs.Prelude.{◌==◌, nat_lt}
use Rattle.std.specs.Str.{bytes_eq}
use Rattle.std.specs.List.{list_any}
use Rattle.pg_base.specs.Tokens.{Word}
use Rattle.pg_logic.specs.Tree.{Tm, Fm, nodes_of, height_of}
use Rattle.pg_logic.specs.Axioms.{constant_axiom}
use Rattle.pg_logic.specs.Declarations.{Declarations}
use Rattle.pg_script.specs.Data.{Part}
use Rattle.pg_worlds.specs.Moves.{word_of}
use Rattle.pg_script.specs.Marks.{place}
use Rattle.pg_gametext.specs.Commands.{is_text, is_plain, is_word}
use Rattle.pg_gametext.specs.Faults.{Fault, fault, fault_if, stuck_fault, LimitName, Expected, Unknown, Duplicate, Limit, Worlds, Functions, Nodes, Height, answer_faults, answer_value, size_faults, node_limit, height_limit, world_limit, one_more}
use Rattle.pg_gametext.specs.Forms.{Told, Taken, token_taken, one_token, is_assign, length_before, part_taken, ConstantText, can_name_constant, constant_behind, constant_assigned, constant_named, constant_told, names_length, names_told}
use Rattle.pg_gametext.specs.Placed.{Listed, world, tactics, theorems, constant, Placed}
use Rattle.pg_gametext.specs.Before.{text_of, is_world_name, in_level, lacks_statement, worlds, Given, given_by, names, bound_names, first_place, function_count}
use Rattle.pg_gametext.specs.Reading.{declarations, term_of_part, scope}
use Rattle.pg_gametext.specs.Checks.{moves, clash_fault, given_faults, move_faults, world_faults_of, world_faults, constant_size, constant_body_faults, constant_faults}
use Rattle.pg_gametext.specs.Laws.{Each, IsWithin, StandsWithin, AreInside, AreOrdered, StaysWithin}
use Rattle.pg_gametext.proofs.Join.{each_append, each_more}
use Rattle.pg_gametext.proofs.Within.{missing_at, stands_at, maybe, or_ended_within, one_within, inside_of, wider, lower}
use Rattle.pg_gametext.proofs.Formulas.{ReadsRight, term_within}

-- ---- parts

-- what is taken of ordered tokens: where it is stuck, and what is left
pub record IsTaken {X : Type 0} (from to : ℕ) (t : Taken X) : Type 0 where
  pub stuck : Each (IsWithin from to) (stuck_fault t.stuck)
  pub rest : AreOrdered from to t.rest

abbrev pub OneStands : ℕ → ℕ → Option Word → Type 0
OneStands from to None = Unit {0}
OneStands from to (Some w) = StandsWithin from to w

pub token_is : (good : Word → Bool) (from to : ℕ) (ws : List Word) → from < to → AreOrdered from to ws → IsTaken from to (token_taken good to ws) × OneStands from to (token_taken good to ws).value
token_is good from to [] l h = (record { stuck = (missing_at from to to (omega (arith, l)) (omega arith), tt); rest = tt }, tt)
token_is good from to (w ∷ ws) l h =
    elim (good w) as (λ b. let t : Taken (Option Word) = (if b then record { value = Some w; stuck = None; rest = ws } else record { value = None; stuck = Some w.at; rest = [] }) in IsTaken from to t × OneStands from to t.value) [
      | true ↦ (record { stuck = tt; rest = lower from w.at to ws (omega (arith, h.0.0)) h.2 }, h.0)
      | false ↦ (record { stuck = (missing_at from to w.at (omega (arith, h.0.0)) (omega (arith, h.0.1)), tt); rest = tt }, tt)
    ]

-- the first so many tokens stand before what is left of them
pub front_before : (from to n : ℕ) (ws : List Word) → AreOrdered from to ws → AreInside from (place to (drop n ws)) (take n ws)
front_before from to zero ws h = tt
front_before from to (suc n) [] h = tt
front_before from to (suc n) (w ∷ ws) h = ((h.0.0, next_after w.at to n ws h.0.1 h.2), wider from w.at _ (take n ws) (omega (arith, h.0.0)) (front_before w.at to n ws h.2))
  where
    next_after : (at to n : ℕ) (ws : List Word) → at < to → AreOrdered at to ws → at < place to (drop n ws)
    next_after at to zero [] l h = l
    next_after at to zero (v ∷ vs) l h = h.0.0
    next_after at to (suc n) [] l h = l
    next_after at to (suc n) (v ∷ vs) l h = next_after at to n vs l (lower at v.at to vs (omega (arith, h.0.0)) h.2)

pub back_after : (from to n : ℕ) (ws : List Word) → AreOrdered from to ws → AreOrdered from to (drop n ws)
back_after from to zero ws h = h
back_after from to (suc n) [] h = tt
back_after from to (suc n) (w ∷ ws) h = back_after from to n ws (lower from w.at to ws (omega (arith, h.0.0)) h.2)

pub place_up : (from to : ℕ) (ws : List Word) → from < to → AreOrdered from to ws → (from < place to ws) × (place to ws ≤ to)
place_up from to [] l h = (l, omega arith)
place_up from to (w ∷ ws) l h = (h.0.0, omega (arith, h.0.1))

-- what is within a part is within the command
pub within_more : (from mid to : ℕ) (f : Fault) → mid ≤ to → IsWithin from mid f → IsWithin from to f
within_more from mid to f l h = record { behind = h.behind; before = omega (arith, l, h.before); no_token = h.no_token; missing = λ e. h.missing (omega (arith, e, l, h.before)) }

-- ---- lists of names

pub taken_within : (from to n : ℕ) (ws : List Word) → AreInside from to ws → AreInside from to (take n ws)
taken_within from to zero ws h = tt
taken_within from to (suc n) [] h = tt
taken_within from to (suc n) (w ∷ ws) h = (h.0, taken_within from to n ws h.1)

names_within : (from to : ℕ) (ws : List Word) → from < to → AreOrdered from to ws → Each (IsWithin from to) (stuck_fault (names_told to ws).stuck)
names_within from to ws l h =
    let n = names_length ws in
    let up = place_up from to ws l h in
    or_ended_within from to (if n == 0 then Some (place to ws) else None) (drop n ws)
    (elim (n == 0) as (λ b. Each (IsWithin from to) (stuck_fault (if b then Some (place to ws) else None))) [ true ↦ (missing_at from to (place to ws) (omega (arith, up.0)) up.1, tt) | false ↦ tt ])
    (inside_of from to (drop n ws) (back_after from to n ws h))

moves_within : (from to : ℕ) (ws : List Word) → AreInside from to ws → Each (IsWithin from to) (move_faults ws)
moves_within from to [] h = tt
moves_within from to (w ∷ ws) h =
    each_append (IsWithin from to) (fault_if (not (list_any (λ t. bytes_eq w.text (word_of t)) moves)) w.at Unknown) (move_faults ws) (maybe from to w.at Unknown _ (omega (arith, h.0.0)) h.0.1 (omega arith)) (moves_within from to ws h.1)

pub tactics_within : (which : Listed) → StaysWithin (λ end ws. tactics which (names_told end ws))
tactics_within which before at end ws l h =
    each_append (IsWithin at end) (stuck_fault (names_told end ws).stuck) _ (names_within at end ws l h)
    (each_append (IsWithin at end) (fault_if (not (in_level before)) at Expected) (move_faults (take (names_length ws) ws)) (maybe at end at Expected _ (omega arith) l (omega arith))
    (moves_within at end (take (names_length ws) ws) (taken_within at end (names_length ws) ws (inside_of at end ws h))))

pub theorems_within : (which : Listed) → StaysWithin (λ end ws. theorems which (names_told end ws))
theorems_within which before at end ws l h =
    each_append (IsWithin at end) (stuck_fault (names_told end ws).stuck) (fault_if (not (in_level before)) at Expected) (names_within at end ws l h) (maybe at end at Expected _ (omega arith) l (omega arith))

-- ---- worlds

world_of_within : (before : List Placed) (from to : ℕ) (w : Word) → from < to → StandsWithin from to w → Each (IsWithin from to) (world_faults_of before from w)
world_of_within before from to w l h =
    elim (is_world_name (text_of w)) as (λ b. Each (IsWithin from to) (if b then (if list_any (bytes_eq (text_of w)) (worlds before) then [] else one_more Worlds world_limit (length (worlds before)) from) else fault w.at Expected ∷ [])) [
      | true ↦
          elim (list_any (bytes_eq (text_of w)) (worlds before)) as (λ b. Each (IsWithin from to) (if b then [] else one_more Worlds world_limit (length (worlds before)) from)) [
            | true ↦ tt
            | false ↦ maybe from to from (Limit Worlds 65) _ (omega arith) l (omega arith)
          ]
      | false ↦ (missing_at from to w.at (omega (arith, h.0)) (omega (arith, h.1)), tt)
    ]

world_own_within : (before : List Placed) (from to : ℕ) (o : Option Word) → from < to → OneStands from to o → Each (IsWithin from to) (world_faults before from o)
world_own_within before from to None l h = maybe from to from Expected (lacks_statement before) (omega arith) l (omega arith)
world_own_within before from to (Some w) l h =
    each_append (IsWithin from to) (fault_if (lacks_statement before) from Expected) (world_faults_of before from w) (maybe from to from Expected _ (omega arith) l (omega arith)) (world_of_within before from to w l h)

pub world_within : StaysWithin (λ end ws. world (one_token is_text end ws))
world_within before at end ws l h =
    each_append (IsWithin at end) (stuck_fault (one_token is_text end ws).stuck) _ (one_within is_text at end ws l (inside_of at end ws h))
    (world_own_within before at end (token_taken is_text end ws).value l (token_is is_text at end ws l h).1)

-- ---- constants

limit_positive : (from to at : ℕ) (what : LimitName) (n : ℕ) → from ≤ at → at < to → IsWithin from to (fault at (Limit what n))
limit_positive from to at what n l h = stands_at from to at (Limit what n) l h (omega arith)

pub size_within : (from to at : ℕ) (a : Fm) → from ≤ at → at < to → Each (IsWithin from to) (size_faults at a)
size_within from to at a l h =
    elim (nat_lt node_limit (nodes_of a)) as (λ b. Each (IsWithin from to) (if b then fault at (Limit Nodes (nodes_of a)) ∷ [] else fault_if (nat_lt height_limit (height_of a)) at (Limit Height (height_of a)))) [
      | true ↦ (limit_positive from to at Nodes (nodes_of a) l h, tt)
      | false ↦ maybe from to at (Limit Height (height_of a)) _ l h (omega arith)
    ]

constant_size_within : (number from to : ℕ) (o : Option Tm) → from < to → Each (IsWithin from to) (constant_size number from o)
constant_size_within number from to None l = tt
constant_size_within number from to (Some t) l = size_within from to from (constant_axiom number t) (omega arith) l

abbrev pub PartStands : ℕ → ℕ → Option Part → Type 0
PartStands from to None = Unit {0}
PartStands from to (Some p) = (from < p.end) × (p.end ≤ to) × AreInside from p.end p.tokens

body_within : ReadsRight → (d : Declarations) (from to : ℕ) (o : Option Part) → from < to → PartStands from to o → Each (IsWithin from to) (constant_body_faults d from o)
body_within right d from to None l h = tt
body_within right d from to (Some p) l h =
    each_append (IsWithin from to) (answer_faults (term_of_part [] d p)) (constant_size (length d.functions) from (answer_value (term_of_part [] d p)))
    (each_more (IsWithin from p.end) (IsWithin from to) (λ f w. within_more from p.end to f h.1 w) _ (term_within right (scope [] d) from p.end p.tokens h.0 h.2))
    (constant_size_within (length d.functions) from to (answer_value (term_of_part [] d p)) l)

pub clash_within_at : (from to at : ℕ) (o : Option ℕ) → from ≤ at → at < to → Each (IsWithin from to) (clash_fault at o)
clash_within_at from to at None l h = tt
clash_within_at from to at (Some first) l h = (stands_at from to at (Duplicate first) l h (omega arith), tt)

abbrev pub GivenStands : ℕ → ℕ → List Given → Type 0
GivenStands from to [] = Unit {0}
GivenStands from to (g ∷ gs) = ((from ≤ g.at) × (g.at < to)) × GivenStands from to gs

pub given_within : (from to : ℕ) (given bound gs : List Given) → GivenStands from to gs → Each (IsWithin from to) (given_faults given bound gs)
given_within from to given bound [] h = tt
given_within from to given bound (g ∷ gs) h =
    each_append (IsWithin from to) (clash_fault g.at (first_place g.name (if g.declared then given ++ bound else given))) (given_faults (g ∷ given) bound gs)
    (clash_within_at from to g.at _ h.0.0 h.0.1) (given_within from to (g ∷ given) bound gs h.1)

-- what is told of a constant
record ConstantStands (from to : ℕ) (t : Told ConstantText) : Type 0 where
  stuck : Each (IsWithin from to) (stuck_fault t.stuck)
  name : OneStands from to t.value.name
  body : PartStands from to t.value.body
  equation : OneStands from to t.value.equation_name

behind_stands : (from to : ℕ) (c : Word) (p : Part) (t : Taken (Option Word)) → from < to → StandsWithin from to c → PartStands from to (Some p) → IsTaken from to t → ConstantStands from to (constant_behind to c p t)
behind_stands from to c p t l hc hp ht =
    elim t.stuck as (λ o. Each (IsWithin from to) (stuck_fault o) → ConstantStands from to (elim o as (λ _. Told ConstantText) [
      | Some at ↦ record { value = record { name = Some c; body = Some p; equation_name = None }; stuck = Some at }
      | None ↦ let n = one_token is_plain to t.rest in record { value = record { name = Some c; body = Some p; equation_name = n.value }; stuck = n.stuck }
    ])) [
      | Some at ↦ λ s. record { stuck = s; name = hc; body = hp; equation = tt }
      | None ↦ λ s. record { stuck = one_within is_plain from to t.rest l (inside_of from to t.rest ht.rest); name = hc; body = hp; equation = (token_is is_plain from to t.rest l ht.rest).1 }
    ] ht.stuck

assigned_stands : (from to : ℕ) (c : Word) (t : Taken (Option Word)) → from < to → StandsWithin from to c → IsTaken from to t → ConstantStands from to (constant_assigned to c t)
assigned_stands from to c t l hc ht =
    elim t.stuck as (λ o. Each (IsWithin from to) (stuck_fault o) → ConstantStands from to (elim o as (λ _. Told ConstantText) [
      | Some at ↦ record { value = record { name = Some c; body = None; equation_name = None }; stuck = Some at }
      | None ↦ let p = part_taken (is_word (codes "as")) to t.rest in constant_behind to c p.value (token_taken (is_word (codes "as")) to p.rest)
    ])) [
      | Some at ↦ λ s. record { stuck = s; name = hc; body = tt; equation = tt }
      | None ↦ λ s.
          let n = length_before (is_word (codes "as")) t.rest in
          let back = back_after from to n t.rest ht.rest in
          let up = place_up from to (drop n t.rest) l back in
          behind_stands from to c (part_taken (is_word (codes "as")) to t.rest).value (token_taken (is_word (codes "as")) to (drop n t.rest)) l hc
          (up.0, up.1, front_before from to n t.rest ht.rest)
          (token_is (is_word (codes "as")) from to (drop n t.rest) l back).0
    ] ht.stuck

named_stands : (from to : ℕ) (t : Taken (Option Word)) → from < to → IsTaken from to t → OneStands from to t.value → ConstantStands from to (constant_named to t)
named_stands from to t l ht hv =
    elim t.value as (λ o. OneStands from to o → ConstantStands from to (elim o as (λ _. Told ConstantText) [
      | None ↦ record { value = record { name = None; body = None; equation_name = None }; stuck = t.stuck }
      | Some c ↦ constant_assigned to c (token_taken is_assign to t.rest)
    ])) [
      | None ↦ λ s. record { stuck = ht.stuck; name = tt; body = tt; equation = tt }
      | Some c ↦ λ s. assigned_stands from to c (token_taken is_assign to t.rest) l s (token_is is_assign from to t.rest l ht.rest).0
    ] hv

pub name_stands : (from to : ℕ) (declared : Bool) (o : Option Word) (gs : List Given) → OneStands from to o → GivenStands from to gs → GivenStands from to (given_by declared o ++ gs)
name_stands from to declared None gs h g = g
name_stands from to declared (Some w) gs h g = ((omega (arith, h.0), h.1), g)

pub name_alone : (from to : ℕ) (declared : Bool) (o : Option Word) → OneStands from to o → GivenStands from to (given_by declared o)
name_alone from to declared None h = tt
name_alone from to declared (Some w) h = ((omega (arith, h.0), h.1), tt)

pub constant_within : ReadsRight → StaysWithin (λ end ws. constant (constant_told end ws))
constant_within right before at end ws l h =
    let t = token_is can_name_constant at end ws l h in
    let s = named_stands at end (token_taken can_name_constant end ws) l t.0 t.1 in
    let v = (constant_told end ws).value in
    each_append (IsWithin at end) (stuck_fault (constant_told end ws).stuck) _ s.stuck
    (each_append (IsWithin at end) (given_faults (names before) (bound_names before) (given_by true v.name ++ given_by false v.equation_name)) (constant_faults before at v)
    (given_within at end (names before) (bound_names before) _ (name_stands at end true v.name (given_by false v.equation_name) s.name (name_alone at end false v.equation_name s.equation)))
    (each_append (IsWithin at end) (fault_if (function_count before == 64) at (Limit Functions 65)) (constant_body_faults (declarations before) at v.body)
    (maybe at end at (Limit Functions 65) _ (omega arith) l (omega arith)) (body_within right (declarations before) at end v.body l s.body)))
