-- What the rows of scripts share: a game, goals, and a script that is run from its characters.
use Rattle.std.proofs.Common.{ℕ, List, [], ◌∷◌, Bool, true, false}
use Rattle.std.specs.Prelude.{Some, codes, map, sum, not, ◌==◌, slice_index_or}
use Rattle.std.specs.Char.{len_utf8}
use Rattle.pg_base.specs.Tokens.{lexed_from, start}
use Rattle.pg_logic.specs.Tree.{Tm, free, bound, succ, app, none, arg, Fm, eq, pred, ex}
use Rattle.pg_logic.specs.Declarations.{Name, NamedPredicate, Declarations, by_recursion}
use Rattle.pg_logic.specs.Axioms.{axioms}
use Rattle.pg_script.specs.Scripts.{lexed_script}
use Rattle.pg_worlds.specs.Inventory.{Inventory}
use Rattle.pg_worlds.specs.Moves.{place_of}
use Rattle.pg_moves.specs.Goals.{Var, Hyp, Goal}
use Rattle.pg_moves.specs.Causes.{Cause}
use Rattle.pg_moves.specs.Lookup.{Lookup}
use Rattle.pg_moves.specs.Runs.{Outcome, Stopped, run_read}

-- ---- goals and outcomes

abbrev pub var : Name → Bool → Var
var x b = record { name = x; live = b }

abbrev pub hyp : Name → Fm → Bool → Hyp
hyp x a b = record { name = x; formula = a; live = b }

abbrev pub goal : List Var → List Hyp → Fm → Goal
goal vs hs a = record { vars = vs; hyps = hs; target = a }

abbrev pub stopped : (item part : ℕ) → Cause → List Goal → Outcome
stopped item part cause gs = Stopped (record { item = item; part = part; cause = cause; goals = gs })

-- ---- the game

-- s + t, s ≤ t, low s
abbrev pub plus : Tm → Tm → Tm
plus s t = app 0 (arg s (arg t none))

abbrev pub at_most : Tm → Tm → Fm
at_most s t = pred 0 (arg s (arg t none))

abbrev pub low : Tm → Fm
low s = pred 1 (arg s none)

-- `+` by recursion, with these predicates
abbrev pub sums : List NamedPredicate → Declarations
sums ps = record {
  functions = by_recursion (codes "+") 2 (codes "a" ∷ codes "d" ∷ []) (free 0) (succ (free 2)) (codes "add_zero") (codes "add_succ") ∷ [];
  predicates = ps;
}

-- `a ≤ b` is `∃ c, b = a + c`, and `low a` is `a ≤ a + a`
abbrev pub bounds : List NamedPredicate
bounds =
    record { name = 226 ∷ 137 ∷ 164 ∷ []; arity = 2; functions_before = 1; body = ex (codes "c") (eq (free 1) (plus (free 0) (bound 0))) }
    ∷ record { name = codes "low"; arity = 1; functions_before = 1; body = at_most (free 0) (plus (free 0) (free 0)) }
    ∷ []

-- the axioms are the theorems: `succ_inj`, `add_zero` and `add_succ` are available, `zero_ne_succ` is not
abbrev pub lookup_in : Declarations → Inventory → Lookup
lookup_in d a = record { declared = d; theorems = map (λ a. a.says) (axioms d); names = map (λ a. Some a.name) (axioms d); available = a }

abbrev pub some_theorems : ℕ → Bool
some_theorems k = slice_index_or (true ∷ false ∷ true ∷ true ∷ []) k false

-- without predicates and with all moves; with predicates and without `constructor`
abbrev pub plain : Lookup
plain = lookup_in (sums []) (record { tactic = λ t. true; theorem = some_theorems })

abbrev pub bounded : Lookup
bounded = lookup_in (sums bounds) (record { tactic = λ t. not (place_of t == 9); theorem = some_theorems })

-- ---- runs

-- these characters as a player's script, from this goal
abbrev pub played_in : Lookup → Goal → List ℕ → Outcome
played_in l g cs = let found = lexed_from 0 start cs in run_read l g (lexed_script found.words found.fault (sum (map len_utf8 cs)) false)

abbrev pub played : Goal → List ℕ → Outcome
played g cs = played_in plain g cs
