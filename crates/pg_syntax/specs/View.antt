-- The scope that names, a signature and binders stand for.
use Rattle.std.specs.Prelude.{ℕ, ◌<◌, ◌^◌, List, length, reverse, Option}
use Rattle.pg_meaning.specs.Scope as meaning
use Rattle.pg_arith.specs.declared.signature.Function.{Function}
use Rattle.pg_arith.specs.declared.signature.Predicate.{Predicate}
use Rattle.pg_arith.specs.View.{declarations}
use Rattle.pg_syntax.specs.declared.names.Names.{Names}
use Rattle.pg_syntax.specs.declared.scope.Scope.{Scope}
use Rattle.pg_syntax.specs.declared.scope.Thing.{Thing}
use Rattle.pg_syntax.specs.declared.scope.Thing.TheVariants as things

-- the names of the free variables, by number
abbrev pub names : Names → List (Option (List ℕ))
names n = n.vars.items

-- binders are listed from the outermost
abbrev pub scope_of : Names → List Function × List Predicate → List (List ℕ) → meaning.Scope
scope_of ns sig binders = record { vars = names ns; binders = reverse binders; declared = declarations sig }

abbrev pub scope : Scope → meaning.Scope
scope s = scope_of s.names.now s.sig.now s.binders.now

-- numbers of 32 bits count the variables and the binders
abbrev pub HasRoom : Scope → Type 0
HasRoom s = (length s.names.now.vars.items < 2 ^ 32) × (length s.binders.now < 2 ^ 32)

abbrev pub thing : Thing → meaning.Thing
thing (things.Binder i) = meaning.Binder i
thing (things.Variable i) = meaning.Variable i
thing (things.Function f) = meaning.Function f
thing (things.Predicate p) = meaning.Predicate p
