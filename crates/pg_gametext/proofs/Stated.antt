-- The faults of statements stand within them.
use Rattle.std.proofs.Common.{ℕ, ◌<◌, false, not, List, [], ◌∷◌, ◌++◌, map, arith, Option, Some, None}
use Rattle.pg_base.specs.Tokens.{Word}
use Rattle.pg_logic.specs.Tree.{Fm}
use Rattle.pg_logic.specs.Declarations.{Name, Declarations}
use Rattle.pg_script.specs.Data.{Part}
use Rattle.pg_syntax.specs.Answers.{Answer, Read, Misshapen, Meaningless}
use Rattle.pg_gametext.specs.Faults.{stuck_fault, Expected, Variables, Hypotheses, variable_limit, hypothesis_limit, one_over, answer_faults}
use Rattle.pg_gametext.specs.Forms.{BinderText, variables, hypothesis, statement_told}
use Rattle.pg_gametext.specs.Placed.{statement}
use Rattle.pg_gametext.specs.Before.{given_by, in_level, statement_place, names, bound_names, bound_name, all_binder_words, only_declared}
use Rattle.pg_gametext.specs.Reading.{texts, formula_of_part, scope, declarations, Statement, closed, HalfRead, with_formula, binders_read, target_of, statement_with, target_faults, statement_size, formulas_faults}
use Rattle.pg_gametext.specs.Checks.{clash_fault, given_faults, differing_faults, out_of_place, variable_words, hypothesis_words, hints_over, block_faults, statement_faults}
use Rattle.pg_gametext.specs.Laws.{Each, IsWithin, AreInside, StaysWithin}
use Rattle.pg_gametext.proofs.Join.{each_append, each_more}
use Rattle.pg_gametext.proofs.Within.{maybe}
use Rattle.pg_gametext.proofs.Formulas.{ReadsRight, formula_within}
use Rattle.pg_gametext.proofs.Declared.{within_more, size_within, PartStands, clash_within_at, given_within, name_alone}
use Rattle.pg_gametext.proofs.Predicates.{bound_stand, differing_within, over_within}
use Rattle.pg_gametext.proofs.Statements.{BindersStand, statement_stands}
use Rattle.pg_gametext.proofs.Samples.{block_within, hints_within}

-- ---- names

inside_append : (from to : ℕ) (xs ys : List Word) → AreInside from to xs → AreInside from to ys → AreInside from to (xs ++ ys)
inside_append from to [] ys p q = q
inside_append from to (x ∷ xs) ys p q = (p.0, inside_append from to xs ys p.1 q)

all_inside : (from to : ℕ) (bs : List BinderText) → BindersStand from to bs → AreInside from to (all_binder_words bs)
all_inside from to [] h = tt
all_inside from to (variables ws ∷ bs) h = inside_append from to ws (all_binder_words bs) h.0 (all_inside from to bs h.1)
all_inside from to (hypothesis x p ∷ bs) h = (h.0.0, all_inside from to bs h.1)

variables_inside : (from to : ℕ) (bs : List BinderText) → BindersStand from to bs → AreInside from to (variable_words bs)
variables_inside from to [] h = tt
variables_inside from to (variables ws ∷ bs) h = inside_append from to ws (variable_words bs) h.0 (variables_inside from to bs h.1)
variables_inside from to (hypothesis x p ∷ bs) h = variables_inside from to bs h.1

hypotheses_inside : (from to : ℕ) (bs : List BinderText) → BindersStand from to bs → AreInside from to (hypothesis_words bs)
hypotheses_inside from to [] h = tt
hypotheses_inside from to (variables ws ∷ bs) h = hypotheses_inside from to bs h.1
hypotheses_inside from to (hypothesis x p ∷ bs) h = (h.0.0, hypotheses_inside from to bs h.1)

-- ---- formulas

part_within : ReadsRight → (d : Declarations) (vars : List Name) (from to : ℕ) (p : Part) → PartStands from to (Some p) → Each (IsWithin from to) (answer_faults (formula_of_part vars d p))
part_within right d vars from to p h = each_more (IsWithin from p.end) (IsWithin from to) (λ f w. within_more from p.end to f h.1 w) _ (formula_within right (scope vars d) from p.end p.tokens h.0 h.2)

with_within : (from to : ℕ) (x : Name) (vars : List Name) (a : Answer Fm) (rest : HalfRead) → Each (IsWithin from to) (answer_faults a) → Each (IsWithin from to) rest.faults → Each (IsWithin from to) (with_formula x vars a rest).faults
with_within from to x vars (Read a) rest p q = q
with_within from to x vars (Misshapen f at) rest p q = each_append (IsWithin from to) (answer_faults {X = Fm} (Misshapen f at)) rest.faults p q
with_within from to x vars (Meaningless f) rest p q = each_append (IsWithin from to) (answer_faults {X = Fm} (Meaningless f)) rest.faults p q

binders_within : ReadsRight → (d : Declarations) (vars : List Name) (from to : ℕ) (bs : List BinderText) → BindersStand from to bs → Each (IsWithin from to) (binders_read d vars bs).faults
binders_within right d vars from to [] h = tt
binders_within right d vars from to (variables ws ∷ bs) h = binders_within right d (vars ++ texts ws) from to bs h.1
binders_within right d vars from to (hypothesis x p ∷ bs) h =
    with_within from to x.text vars (formula_of_part vars d p) (binders_read d vars bs) (part_within right d vars from to p h.0.1) (binders_within right d vars from to bs h.1)

target_within : ReadsRight → (d : Declarations) (vars : List Name) (from to : ℕ) (o : Option Part) → PartStands from to o → Each (IsWithin from to) (target_faults (target_of d vars o))
target_within right d vars from to None h = tt
target_within right d vars from to (Some p) h = part_within right d vars from to p h

statement_size_within : (from to : ℕ) (o : Option Statement) → from < to → Each (IsWithin from to) (statement_size from o)
statement_size_within from to None l = tt
statement_size_within from to (Some s) l = size_within from to from (closed s) (omega arith) l

-- ---- all

pub statement_within : ReadsRight → StaysWithin (λ end ws. statement (statement_told end ws))
statement_within right before at end ws l h =
    let s = statement_stands at end ws l h in
    let v = (statement_told end ws).value in
    let d = declarations before in
    let half = binders_read d [] v.binders in
    let target = target_of d half.vars v.target in
    let bound = map bound_name (all_binder_words v.binders) in
    each_append (IsWithin at end) (stuck_fault (statement_told end ws).stuck) _ s.stuck
    (each_append (IsWithin at end) (given_faults (names before) (bound_names before) (given_by false v.name)) (statement_faults before at v)
    (given_within at end (names before) (bound_names before) _ (name_alone at end false v.name s.name))
    (each_append (IsWithin at end) (out_of_place (not (in_level before)) at) _ (maybe at end at Expected _ (omega arith) l (omega arith))
    (each_append (IsWithin at end) (clash_fault at (statement_place before)) _ (clash_within_at at end at _ (omega arith) l)
    (each_append (IsWithin at end) (differing_faults (only_declared (names before)) bound) _ (differing_within at end (only_declared (names before)) bound (bound_stand at end _ (all_inside at end v.binders s.binders)))
    (each_append (IsWithin at end) (one_over Variables variable_limit (variable_words v.binders)) _ (over_within Variables at end variable_limit _ (variables_inside at end v.binders s.binders))
    (each_append (IsWithin at end) (one_over Hypotheses hypothesis_limit (hypothesis_words v.binders)) _ (over_within Hypotheses at end hypothesis_limit _ (hypotheses_inside at end v.binders s.binders))
    (each_append (IsWithin at end) (formulas_faults d at v) _
    (each_append (IsWithin at end) half.faults _ (binders_within right d [] at end v.binders s.binders)
    (each_append (IsWithin at end) (target_faults target) _ (target_within right d half.vars at end v.target s.target) (statement_size_within at end (statement_with half target) l)))
    (each_append (IsWithin at end) (hints_over before v.block) (block_faults v.block) (hints_within before at end v.block s.block) (block_within at end v.block s.block)))))))))
