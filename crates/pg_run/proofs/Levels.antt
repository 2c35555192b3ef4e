-- The level of a one-level game can be played.
use Rattle.std.proofs.Common.{◌≡◌, ◌⊎◌, ◌≤◌, ◌<◌, ◌+◌, ◌^◌, ℕ, zero, suc, true, false, Bool, List, [], ◌∷◌, Option, Some, None, refl, sym as flip, ◌∙◌, ap, subst, arith, length, map, take, slice_index, slice_get, option_map, ◌++◌, Result, Ok, Err, IfOk, IfSome, MatchOption, IsSome, IsTrue as IsYes, codes}
use Rattle.std.specs.List.{AllByRecursion}
use Rattle.std.proofs.lemmas.List.Elements.{All-from_recursion}
use Rattle.std.proofs.lemmas.Bool.{and_from}
use Rattle.pg_logic.specs.Tree.{Tm, nought, succ, nodes_of, eq, nodes}
use Rattle.pg_logic.specs.Axioms.{Axiom, axioms}
use Rattle.pg_logic.specs.Signature.{fits, fits_term, IsDeclared}
use Rattle.pg_logic.specs.Declarations.{Name, signature_of}
use Rattle.pg_terms.specs.View.{formula}
use Rattle.pg_worlds.specs.declared.tactic_name.TacticName.{TacticName}
use Rattle.pg_worlds.specs.Flags.{has}
use Rattle.pg_worlds.specs.Worlds.{worlds_of, needs_of, can_be_placed, IsFirstBelow, IsGraph, IsWorldOrder}
use Rattle.pg_worlds.specs.Course.{IsPlan}
use Rattle.pg_moves.specs.Laws.{IsSound}
use Rattle.pg_moves.specs.Lookup.{Lookup}
use Rattle.pg_syntax.specs.declared.statement.Binder.{Binder}
use Rattle.pg_syntax.specs.Statements.{AreFitting, closed, total}
use Rattle.pg_runs.specs.State.{IsUsable}
use Rattle.pg_moves.specs.First.{first_goal, first_vars}
use Rattle.pg_logic.specs.Tree.{Fm}
use Rattle.pg_logic.specs.Truth.{IsTrueOf}
use Rattle.pg_moves.specs.Runs.{Outcome, Closed, Open, Stopped}
use Rattle.pg_runs.specs.Asked.{IsTrueByTheorems}
use Rattle.pg_runs.specs.Running.{Ends}
use Rattle.pg_runs.specs.declared.running.Outcome as outcomes
use Rattle.pg_runs.specs.declared.running.Outcome.TheVariants as outcomes_of
use Rattle.pg_syntax.specs.declared.statement.Statement.{Statement}
use Rattle.pg_attempt.specs.Attempts.{CanAttempt, IsProved, attempted, goal}
use Rattle.pg_run.specs.declared.game.Sample.{Sample}
use Rattle.pg_run.specs.declared.level.Level.{Level}
use Rattle.pg_run.specs.declared.game.Sample.TheVariants as sample
use Rattle.pg_run.specs.Game.{Shape, Plain, Successor, SuccessorOf, Grouped, depth, meaning, Stated, stated, IsGame, IsGameText, Finds}
use Rattle.pg_run.specs.declared.game.Game.{Game}
use Rattle.pg_run.specs.declared.symbol.Symbol.{Symbol}
use Rattle.pg_run.specs.Level as level
use Rattle.pg_run.specs.Level.{course, nothing, looked, lookup_in, played, Decides, IsLevel, IsTrue, CanStand, SampleWins}
use Rattle.pg_run.proofs.Winning.{one-game}

-- ---- the course of one level

one-graph : IsGraph (worlds_of (1 ∷ []) ([] ∷ []))
one-graph = record { one_length = refl; at_most = omega arith; in_range = in-range } where
  in-range : (w v : ℕ) → IsYes (has (needs_of (worlds_of (1 ∷ []) ([] ∷ [])) w) v) → v < 1
  in-range zero v t = absurd (cc t)
  in-range (suc w) v t = absurd (cc t)

one-order : IsWorldOrder (worlds_of (1 ∷ []) ([] ∷ [])) (0 ∷ [])
one-order = record { every_world = every; first_each_time = each } where
  every : (w : ℕ) → w < 1 → IsYes (has (0 ∷ []) w)
  every zero lt = refl
  every (suc w) lt = absurd (omega (arith, lt))

  each : (i : ℕ) → i < 1 → IsFirstBelow 1 (can_be_placed (worlds_of (1 ∷ []) ([] ∷ [])) (has (take i (0 ∷ [])))) (slice_index (0 ∷ []) i)
  each zero lt = (omega arith, refl, λ v below. absurd (omega (arith, below)))
  each (suc i) lt = absurd (omega (arith, lt))

pub one-plan : (s : Sample) (tactics : List TacticName) → IsPlan (course s tactics)
one-plan s tactics = record { graph = one-graph; ordered = one-order; by_world = refl; numbered = omega arith }

-- ---- its look-up

nothing-declared : IsDeclared (signature_of nothing)
nothing-declared = record {
  functions = λ k f e. absurd (cc e);
  predicates = λ k p e. absurd (cc e);
  order = λ k p e. absurd (cc e);
}

usable : (g : Stated) → IsUsable (looked g)
usable g = record {
  sound = record {
    declared = nothing-declared;
    theorems = All-from_recursion (λ a. fits (signature_of nothing) 0 0 a ≡ true) (looked g).theorems (refl, (refl, tt));
  };
  names = omega arith;
  theorems = All-from_recursion (λ a. nodes_of a < 2 ^ 32) (looked g).theorems (omega arith, (omega arith, tt));
}

-- ---- its statement

-- a numeral as it is written has no variable, and a node for each `succ` and the `0`
fits-meaning : (s : Shape) → fits_term [] 0 0 (meaning s) ≡ true
fits-meaning Plain = refl
fits-meaning Successor = refl
fits-meaning (SuccessorOf s) = fits-meaning s
fits-meaning (Grouped s) = fits-meaning s

small-meaning : (s : Shape) → nodes (meaning s) ≤ depth s + 2
small-meaning Plain = omega arith
small-meaning Successor = omega arith
small-meaning (SuccessorOf s) = let h = small-meaning s in omega (arith, h)
small-meaning (Grouped s) = let h = small-meaning s in omega (arith, h)

pub stands : (symbols : List Symbol) (g : Stated) → IsGame symbols g → CanStand g
stands symbols g h =
    let l = small-meaning h.left in
    let r = small-meaning h.right in
    record {
      fits = ap (fits (signature_of nothing) 0 0) h.states ∙ and_from _ _ (fits-meaning h.left) (fits-meaning h.right);
      nodes = omega (arith, ap nodes_of h.states, l, r, h.left_nesting, h.right_nesting);
    }

-- ---- so it can be tried

pub can-attempt : (g : Stated) (level : Level) → IsLevel g level → CanStand g → CanAttempt (lookup_in level) level.statement
can-attempt g level is can =
    let L : Lookup → Type 0 = λ l. IsUsable l in
    let F : Lookup → Type 0 = λ l. AreFitting (signature_of l.declared) 0 level.statement.binders.items (formula level.statement.target) in
    let B : List Binder → Type 0 = λ b. AreFitting (signature_of nothing) 0 b (formula level.statement.target) in
    record {
      usable = subst L (flip is.lookup) (usable g);
      fits = subst F (flip is.lookup) (subst B (flip is.binders) (ap (fits (signature_of nothing) 0 0) is.target ∙ can.fits));
      nodes = omega (arith, ap (λ b. total b (formula level.statement.target)) is.binders, ap nodes_of is.target, can.nodes);
      vars = omega (arith, ap (λ b. length (first_vars b)) is.binders);
    }

-- ---- what it makes of a script

pub same-played : (g : Stated) (level : Level) (bytes : List ℕ) → IsLevel g level → attempted (lookup_in level) (goal level.statement) bytes ≡ played g bytes
same-played g level bytes is =
    ap (λ l. attempted l (goal level.statement) bytes) is.lookup
    ∙ ap (λ b. attempted (looked g) (first_goal b (formula level.statement.target)) bytes) is.binders
    ∙ ap (λ a. attempted (looked g) (first_goal [] a) bytes) is.target

-- a statement that is proved is true
pub proved-true : (g : Stated) (level : Level) → IsLevel g level → IsProved (lookup_in level) level.statement → IsTrue g
proved-true g level is proved =
    let P : Lookup → Type 0 = λ l. IsTrueByTheorems l level.statement proved.proof in
    let B : List Binder → Type 0 = λ b. IsTrueOf (signature_of nothing) [] (closed b (formula level.statement.target)) in
    let A : Fm → Type 0 = λ a. IsTrueOf (signature_of nothing) [] a in
    let here : IsTrueByTheorems (looked g) level.statement proved.proof = subst P is.lookup proved.truth in
    subst A is.target (subst B is.binders (here (λ k named. is.axioms k)))

-- whether an outcome is a closed run
abbrev is_closed : outcomes.Outcome → Bool
is_closed (outcomes_of.Closed c) = true
is_closed o = false

-- what an outcome says of a closed run
pub decides : (E : Type 0) (l : Lookup) (st : Statement) (want : Outcome) (o : outcomes.Outcome) → Ends {E = E} l st want (Ok o) → Decides (is_closed o) (want ≡ Closed)
decides E l st want (outcomes_of.Closed c) h = h.0
decides E l st want (outcomes_of.Unfinished gs) h = λ closed. absurd (cc (h, closed))
decides E l st Closed (outcomes_of.Stopped s) h = absurd h
decides E l st (Open gs) (outcomes_of.Stopped s) h = absurd h
decides E l st (Stopped w) (outcomes_of.Stopped s) h = λ closed. absurd (cc closed)

-- ---- whether its sample wins

pub no-sample : (g : Stated) (level : Level) → IsLevel g level → level.sample ≡ sample.Sorry → SampleWins g
no-sample g level is sorry = λ rfl. absurd (let e = flip rfl ∙ flip is.sample ∙ sorry in cc e)

pub sample-decides : (g : Stated) (level : Level) (won : Bool) → IsLevel g level → level.sample ≡ sample.Rfl → Decides won (played g (codes "rfl") ≡ Closed) → Decides won (SampleWins g)
sample-decides g level true is rfl h = λ _. h
sample-decides g level false is rfl h = λ wins. h (wins (flip is.sample ∙ rfl))

-- a text that spells a game whose sample does not win is none
pub no-game : (text : List ℕ) (g : Stated) → IsGameText text g → (SampleWins g → ⊥) → (other : Stated) → level.IsGame text other → ⊥
no-game text g spelled loses other h = loses (subst SampleWins (one-game text other g h.0 spelled) h.1)

-- ---- the names of the axioms

abbrev name_of : Axiom → Option Name
name_of x = Some x.name

next-name : (xs : List Axiom) (i : ℕ) (n : Name) → option_map (λ x. x.name) (slice_get xs i) ≡ Some n → map name_of (take (suc i) xs) ≡ map name_of (take i xs) ++ Some n ∷ []
next-name [] i n is = cc
next-name (x ∷ xs) zero n is = cc is
next-name (x ∷ xs) (suc i) n is = ap (λ l. Some x.name ∷ l) (next-name xs i n is)

-- one name more
pub named-more : (xs : List Axiom) (i : ℕ) (names new : List (Option Name)) (n : Name) → new ≡ names ++ Some n ∷ [] → names ≡ map (λ x. Some x.name) (take i xs)
    → option_map (λ x. x.name) (slice_get xs i) ≡ Some n → new ≡ map (λ x. Some x.name) (take (i + 1) xs)
named-more xs i names new n added e is =
    let next : suc i ≡ i + 1 = omega arith in
    added ∙ ap (λ l. l ++ Some n ∷ []) e ∙ flip (next-name xs i n is) ∙ ap (λ k. map name_of (take k xs)) next

-- ---- what was found in a text

pub found-stands : (symbols : List Symbol) (found : Option Game) → Finds found (IsGame symbols) → IfSome found (λ game. CanStand (stated game))
found-stands symbols None h = tt
found-stands symbols (Some game) h = stands symbols (stated game) h

-- where none was found there is no game
pub none-spelled : (found : Option Game) (text : List ℕ) → Finds found (IsGameText text) → found ≡ None → (g : Stated) → level.IsGame text g → ⊥
none-spelled None text finds e g h = finds g h.0
none-spelled (Some game) text finds e g h = cc e

-- what was found is spelled, and can stand
pub some-found : (found : Option Game) (game : Game) (text : List ℕ) → found ≡ Some game → Finds found (IsGameText text) → IfSome found (λ g. CanStand (stated g))
    → IsGameText text (stated game) × CanStand (stated game)
some-found found game text e finds stands =
    let F : Option Game → Type 0 = λ o. Finds o (IsGameText text) in
    let S : Option Game → Type 0 = λ o. IfSome o (λ g. CanStand (stated g)) in
    (subst F e finds, subst S e stands)
