-- A signature with one more declaration.
use Rattle.std.proofs.Common.{◌≡◌, ℕ, ◌<◌, List, [], ◌∷◌, ◌++◌, length, None, arith, ap, sym, ◌∙◌, subst}
use Rattle.pg_logic.specs.Declarations.{HasParameters, AreDeclared, function_refusal, predicate_refusal}
use Rattle.pg_logic.proofs.Declaring.{map_push, declared-with_function, declared-with_predicate}
use Rattle.pg_arith.specs.declared.signature.Function.{Function}
use Rattle.pg_arith.specs.declared.signature.Predicate.{Predicate}
use Rattle.pg_arith.specs.View.{function, functions, predicate, predicates, declarations, IsSignature}

pub is_signature-function : (fs gs : List Function) (ps : List Predicate) (a b : List ℕ) (f : Function) (v : List Function × List Predicate) → IsSignature (fs, ps) a b → (fs, ps) ≡ v →
    gs ≡ fs ++ f ∷ [] → HasParameters (function f) → length (declarations v).functions < 65535 → function_refusal (declarations v) (function f) ≡ None → IsSignature (gs, ps) a b
is_signature-function fs gs ps a b f v s e made named room none =
    let small : length (functions fs) < 65535 = subst (λ v. length (declarations v).functions < 65535) (sym e) room in
    let free : function_refusal (declarations (fs, ps)) (function f) ≡ None = subst (λ v. function_refusal (declarations v) (function f) ≡ None) (sym e) none in
    let is : functions gs ≡ functions fs ++ function f ∷ [] = ap functions made ∙ map_push function fs f in
    record {
      declared = subst (λ l. AreDeclared (record { functions = l; predicates = predicates ps })) (sym is)
          (declared-with_function (declarations (fs, ps)) (function f) s.declared named (omega arith) free);
      first_name = s.first_name;
      second_name = s.second_name;
    }

pub is_signature-predicate : (fs : List Function) (ps qs : List Predicate) (a b : List ℕ) (p : Predicate) (v : List Function × List Predicate) → IsSignature (fs, ps) a b → (fs, ps) ≡ v →
    qs ≡ ps ++ p ∷ [] → (predicate p).functions_before ≡ length (declarations v).functions → length (declarations v).predicates < 65535 → predicate_refusal (declarations v) (predicate p) ≡ None → IsSignature (fs, qs) a b
is_signature-predicate fs ps qs a b p v s e made after room none =
    let next : (predicate p).functions_before ≡ length (functions fs) = subst (λ v. (predicate p).functions_before ≡ length (declarations v).functions) (sym e) after in
    let small : length (predicates ps) < 65535 = subst (λ v. length (declarations v).predicates < 65535) (sym e) room in
    let free : predicate_refusal (declarations (fs, ps)) (predicate p) ≡ None = subst (λ v. predicate_refusal (declarations v) (predicate p) ≡ None) (sym e) none in
    let is : predicates qs ≡ predicates ps ++ predicate p ∷ [] = ap predicates made ∙ map_push predicate ps p in
    record {
      declared = subst (λ l. AreDeclared (record { functions = functions fs; predicates = l })) (sym is)
          (declared-with_predicate (declarations (fs, ps)) (predicate p) s.declared next (omega arith) free);
      first_name = s.first_name;
      second_name = s.second_name;
    }
