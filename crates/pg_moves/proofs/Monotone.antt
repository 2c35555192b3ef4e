-- Where more is available, what went well goes well with the same goals: a closed run stays closed.
use Rattle.std.proofs.Common.{◌≡◌, ℕ, zero, suc, ◌+◌, List, [], ◌∷◌, ◌++◌, Bool, true, false, Option, Some, None, refl, ap, ◌∙◌}
use Rattle.std.specs.Prelude.{Result, Ok, Err, if◌then◌else◌, slice_get}
use Rattle.pg_base.specs.Tokens.{Word}
use Rattle.pg_logic.specs.Tree.{Fm, falsum, eq, pred, and, or, imp, all, ex, same_formula}
use Rattle.pg_logic.specs.Declarations.{Name}
use Rattle.pg_script.specs.Data.{Part, Expression, Rule, Step, Entry, move, focus, branch, hint, Entries, none, entry, entries_of}
use Rattle.pg_script.specs.Blocks.{steps_of}
use Rattle.pg_worlds.specs.declared.tactic_name.TacticName.{TacticName}
use Rattle.pg_worlds.specs.Inventory.{Inventory}
use Rattle.pg_moves.specs.Goals.{Goal, hypothesis_named, aimed, with_hyp, live_names}
use Rattle.pg_moves.specs.Causes.{Tried, NotSame, NoGoal, NoInstance, NoSuchTactic, LockedTactic, and_then, wanted}
use Rattle.pg_moves.specs.Lookup.{Lookup, theorem_named, given_name}
use Rattle.pg_moves.specs.Acts.{Act, Rfl, Exact, Intro, Apply, ApplyAt, Rewrite, RewriteAt, Induction, Cases, Left, Right, Constructor, Witness, Symm, SymmAt, Exfalso, Assert, Have, Revert, ByCases, Unknown, move_named, acts_of}
use Rattle.pg_moves.specs.Expressions.{ExprFault, NoSuchName, Locked, Given, small, same_given, theorem_given, theorem_name_given, name_given, named_given, at_argument, at_arguments, gives_within, gives, token_count, read_term, read_expression, begins}
use Rattle.pg_moves.specs.Expressions as expr
use Rattle.pg_moves.specs.Closing.{tried, given, closed_by, formula_there}
use Rattle.pg_moves.specs.Assuming.{hypothesis_there, changed_to, said_or_given}
use Rattle.pg_moves.specs.Stripped.{unbound, fewest}
use Rattle.pg_moves.specs.Rewriting.{rewritten_by, rewritten, applied, forward}
use Rattle.pg_moves.specs.Measures.{within_limits}
use Rattle.pg_moves.specs.Steps.{new_goals, move_there, acted, step}
use Rattle.pg_moves.specs.Runs.{Ran, after_part, run_parts, after_focus, focused, branched, run_item, run_items, items_in, outcome, Closed, run}
use Rattle.pg_moves.specs.Laws.{Within, wider}
use Rattle.pg_moves.proofs.Sequents.{then-ok}

-- one result goes as well as another
abbrev Follows : {X E : Type 0} → Result X E → Result X E → Type 0
Follows {X} x y = (a : X) → x ≡ Ok a → y ≡ Ok a

first-part : {X Y E : Type 0} (x y : Result X E) (f : X → Result Y E) → Follows x y → Follows (and_then x f) (and_then y f)
first-part x y f h r e = let k = then-ok x f r e in ap (λ x. and_then x f) (h k.0 k.1) ∙ k.2

last-part : {X Y E : Type 0} (x : Result X E) (f g : X → Result Y E) → ((a : X) → Follows (f a) (g a)) → Follows (and_then x f) (and_then x g)
last-part x f g h r e = let k = then-ok x f r e in ap (λ x. and_then x g) k.1 ∙ h k.0 r k.2

module _ (l : Lookup) (b : Inventory) (more : Within l.available b) where
  abbrev w : Lookup
  w = wider l b

  theorem-follows : (at k : ℕ) → Follows (theorem_given l at k) (theorem_given w at k)
  theorem-follows at k a e = go (l.available.theorem k) refl e
    where
      go : (c : Bool) → l.available.theorem k ≡ c → (if c then wanted (slice_get l.theorems k) (NoSuchName at) else Err (Locked at k)) ≡ Ok a → theorem_given w at k ≡ Ok a
      go true is e = ap (λ c. if c then wanted (slice_get l.theorems k) (NoSuchName at) else Err (Locked at k)) (more.theorems k is) ∙ e
      go false is e = absurd (cc)

  theorem_name-follows : (at : ℕ) (o : Option ℕ) → Follows (theorem_name_given l at o) (theorem_name_given w at o)
  theorem_name-follows at None a e = e
  theorem_name-follows at (Some k) a e = theorem-follows at k a e

  name-follows : (g : Goal) (x : Word) (o : Option ℕ) → Follows (name_given l g x o) (name_given w g x o)
  name-follows g x (Some i) a e = e
  name-follows g x None a e = theorem_name-follows x.at (theorem_named l x.text) a e

  module _ (g : Goal) where
    module _ (inner inner' : Expression → Given) (h : (e : Expression) → Follows (inner e) (inner' e)) where
      argument-follows : (a : Fm) (p : Part) → Follows (at_argument l g inner a p) (at_argument w g inner' a p)
      argument-follows (all x a) p r e = e
      argument-follows (imp a c) p r e =
          last-part (wanted (read_expression p) (expr.WrongArgument (begins p))) (λ e. and_then (inner e) (λ d. and_then (same_given (begins p) a c d) small)) (λ e. and_then (inner' e) (λ d. and_then (same_given (begins p) a c d) small))
          (λ e. first-part (inner e) (inner' e) (λ d. and_then (same_given (begins p) a c d) small) (h e)) r e
      argument-follows falsum p r e = e
      argument-follows (eq t u) p r e = e
      argument-follows (pred q ts) p r e = e
      argument-follows (and a c) p r e = e
      argument-follows (or a c) p r e = e
      argument-follows (ex x a) p r e = e

      arguments-follow : (ps : List Part) (a : Fm) → Follows (at_arguments l g inner ps a) (at_arguments w g inner' ps a)
      arguments-follow [] a r e = e
      arguments-follow (p ∷ ps) a r e =
          let k = then-ok (at_argument l g inner a p) (at_arguments l g inner ps) r e in
          ap (λ x. and_then x (at_arguments w g inner' ps)) (argument-follows a p k.0 k.1) ∙ arguments-follow ps k.0 r k.2

    within-follows : (deep : ℕ) (e : Expression) → Follows (gives_within deep l g e) (gives_within deep w g e)
    within-follows zero e r q = absurd (cc)
    within-follows (suc deep) e r q =
        let k = then-ok (named_given l g e.name) (λ a. and_then (small a) (at_arguments l g (gives_within deep l g) e.args)) r q in
        ap (λ x. and_then x (λ a. and_then (small a) (at_arguments w g (gives_within deep w g) e.args))) (name-follows g e.name (hypothesis_named g e.name.text) k.0 k.1)
        ∙ last-part (small k.0) (at_arguments l g (gives_within deep l g) e.args) (at_arguments w g (gives_within deep w g) e.args)
        (arguments-follow (gives_within deep l g) (gives_within deep w g) (within-follows deep) e.args) r k.2

    tried-ok : (x : Given) (a : Fm) → tried x ≡ Ok a → x ≡ Ok a
    tried-ok (Ok c) a e = let q : c ≡ a = cc in ap Ok q
    tried-ok (Err f) a e = absurd (cc)

    given-follows : (e : Expression) → Follows (given l g e) (given w g e)
    unfolding gives
    given-follows e a q = ap tried (within-follows (suc (token_count e.args)) e a (tried-ok (gives_within (suc (token_count e.args)) l g e) a q))

    said-follows : (o : Option Part) (e : Expression) → Follows (said_or_given l g o e) (said_or_given w g o e)
    said-follows None e = given-follows e
    said-follows (Some p) e =
        last-part (formula_there l g p) (λ a. and_then (given l g e) (λ c. if same_formula c a then Ok a else Err (NotSame c))) (λ a. and_then (given w g e) (λ c. if same_formula c a then Ok a else Err (NotSame c)))
        (λ a. first-part (given l g e) (given w g e) (λ c. if same_formula c a then Ok a else Err (NotSame c)) (given-follows e))

    rewritten-follows : (r : Rule) (subject : Fm) → Follows (rewritten l g r subject) (rewritten w g r subject)
    rewritten-follows r subject = first-part (given l g r.expr) (given w g r.expr) (λ a. rewritten_by r.back (unbound [] a) subject) (given-follows r.expr)

    pub goals-follow : (a : Act) → Follows (new_goals l g a) (new_goals w g a)
    unfolding new_goals
    goals-follow (Exact e) = first-part (given l g e) (given w g e) (closed_by g.target) (given-follows e)
    goals-follow (Apply e) = first-part (given l g e) (given w g e) (λ a. and_then (wanted (fewest a g.target) NoInstance) (applied g)) (given-follows e)
    goals-follow (ApplyAt e h) =
        last-part (hypothesis_there g h) (λ f. and_then (given l g e) (λ a. and_then (forward (unbound [] a) (unbound [] a).rest f.hyp.formula) (λ b. Ok (changed_to g f b ∷ []))))
        (λ f. and_then (given w g e) (λ a. and_then (forward (unbound [] a) (unbound [] a).rest f.hyp.formula) (λ b. Ok (changed_to g f b ∷ []))))
        (λ f. first-part (given l g e) (given w g e) (λ a. and_then (forward (unbound [] a) (unbound [] a).rest f.hyp.formula) (λ b. Ok (changed_to g f b ∷ []))) (given-follows e))
    goals-follow (Rewrite r) = first-part (rewritten l g r g.target) (rewritten w g r g.target) (λ a. Ok (aimed a g ∷ [])) (rewritten-follows r g.target)
    goals-follow (RewriteAt r h) =
        last-part (hypothesis_there g h) (λ f. and_then (rewritten l g r f.hyp.formula) (λ a. Ok (changed_to g f a ∷ []))) (λ f. and_then (rewritten w g r f.hyp.formula) (λ a. Ok (changed_to g f a ∷ [])))
        (λ f. first-part (rewritten l g r f.hyp.formula) (rewritten w g r f.hyp.formula) (λ a. Ok (changed_to g f a ∷ [])) (rewritten-follows r f.hyp.formula))
    goals-follow (Have h p e) =
        first-part (said_or_given l g p e) (said_or_given w g p e) (λ a. and_then (given_name l (live_names g) h) (λ n. Ok (with_hyp n a g ∷ []))) (said-follows p e)
    goals-follow Rfl = λ new e. e
    goals-follow (Intro x) = λ new e. e
    goals-follow (Induction x ws) = λ new e. e
    goals-follow (Cases x ws) = λ new e. e
    goals-follow Left = λ new e. e
    goals-follow Right = λ new e. e
    goals-follow Constructor = λ new e. e
    goals-follow (Witness p) = λ new e. e
    goals-follow Symm = λ new e. e
    goals-follow (SymmAt h) = λ new e. e
    goals-follow Exfalso = λ new e. e
    goals-follow (Assert h p) = λ new e. e
    goals-follow (Revert x) = λ new e. e
    goals-follow (ByCases h p) = λ new e. e
    goals-follow Unknown = λ new e. e

  acted-follows : (gs : List Goal) (a : Act) → Follows (acted l gs a) (acted w gs a)
  acted-follows [] a r e = e
  acted-follows (g ∷ rest) a r e = first-part (new_goals l g a) (new_goals w g a) (λ new. within_limits new (new ++ rest)) (goals-follow g a) r e

  move-follows : (word : Name) → Follows (move_there l word) (move_there w word)
  move-follows word = last-part (wanted (move_named word) (NoSuchTactic word)) (λ t. if l.available.tactic t then Ok t else Err (LockedTactic word)) (λ t. if b.tactic t then Ok t else Err (LockedTactic word)) (λ t. go t)
    where
      go : (t : TacticName) → Follows (if l.available.tactic t then Ok t else Err (LockedTactic word)) (if b.tactic t then Ok t else Err (LockedTactic word))
      go t r e = by (l.available.tactic t) refl e
        where
          by : (c : Bool) → l.available.tactic t ≡ c → (if c then Ok t else Err (LockedTactic word)) ≡ Ok r → (if b.tactic t then Ok t else Err (LockedTactic word)) ≡ Ok r
          by true is e = ap (λ c. if c then Ok t else Err (LockedTactic word)) (more.tactics t is) ∙ e
          by false is e = absurd (cc)

  step-follows : (gs : List Goal) (m : Step) (part : ℕ) → Follows (step l gs m part) (step w gs m part)
  step-follows gs m part r e =
      let k = then-ok (move_there l m.head) (λ t. and_then (wanted (slice_get (acts_of m.head m.shape) part) NoGoal) (acted l gs)) r e in
      ap (λ x. and_then x (λ t. and_then (wanted (slice_get (acts_of m.head m.shape) part) NoGoal) (acted w gs))) (move-follows m.head k.0 k.1)
      ∙ last-part (wanted (slice_get (acts_of m.head m.shape) part) NoGoal) (acted l gs) (acted w gs) (acted-follows gs) r k.2

  -- ---- runs

  parts-follow : (count item part : ℕ) (m : Step) (gs : List Goal) → Follows (run_parts l item m count part gs) (run_parts w item m count part gs)
  parts-follow zero item part m gs r e = e
  parts-follow (suc n) item part m gs r e = go (step l gs m part) refl e (λ next. parts-follow n item (part + 1) m next r)
    where
      go : (o : Tried (List Goal)) → step l gs m part ≡ o → after_part item part gs (run_parts l item m n (part + 1)) o ≡ Ok r →
          ((next : List Goal) → run_parts l item m n (part + 1) next ≡ Ok r → run_parts w item m n (part + 1) next ≡ Ok r) → after_part item part gs (run_parts w item m n (part + 1)) (step w gs m part) ≡ Ok r
      go (Ok next) is e more' = ap (after_part item part gs (run_parts w item m n (part + 1))) (step-follows gs m part next is) ∙ more' next e
      go (Err c) is e more' = absurd (cc)

  focus-follows : (item : ℕ) (inner inner' : List Goal → Ran) (gs : List Goal) → ((gs : List Goal) → Follows (inner gs) (inner' gs)) → Follows (focused item inner gs) (focused item inner' gs)
  focus-follows item inner inner' [] h r e = e
  focus-follows item inner inner' (g ∷ rest) h r e = go (inner (g ∷ [])) refl e
    where
      go : (o : Ran) → inner (g ∷ []) ≡ o → after_focus item (g ∷ rest) rest o ≡ Ok r → after_focus item (g ∷ rest) rest (inner' (g ∷ [])) ≡ Ok r
      go (Ok []) is e = ap (after_focus item (g ∷ rest) rest) (h (g ∷ []) [] is) ∙ e
      go (Ok (x ∷ xs)) is e = absurd (cc)
      go (Err s) is e = absurd (cc)

  branch-follows : (gs : List Goal) (x y : Ran) → Follows x y → Follows (branched gs x) (branched gs y)
  branch-follows gs (Ok left) y h r e = ap (branched gs) (h left refl) ∙ e
  branch-follows gs (Err s) y h r e = absurd (cc)

  mutual
    item-follows : (x : Entry) (item : ℕ) (gs : List Goal) → Follows (run_item l x item gs) (run_item w x item gs)
    item-follows (move m) item gs = parts-follow (steps_of m.shape) item 0 m gs
    item-follows (focus es) item gs = focus-follows item (run_items l es (item + 1)) (run_items w es (item + 1)) gs (λ gs. items-follow es (item + 1) gs)
    item-follows (branch es) item gs = branch-follows gs (run_items l es (item + 1) gs) (run_items w es (item + 1) gs) (items-follow es (item + 1) gs)
    item-follows (hint h) item gs = λ r e. e

    items-follow : (es : Entries) (item : ℕ) (gs : List Goal) → Follows (run_items l es item gs) (run_items w es item gs)
    items-follow none item gs = λ r e. e
    items-follow (entry x es) item gs = λ r e.
        let k = then-ok (run_item l x item gs) (run_items l es (item + items_in x)) r e in
        ap (λ y. and_then y (run_items w es (item + items_in x))) (item-follows x item gs k.0 k.1) ∙ items-follow es (item + items_in x) k.0 r k.2

  -- a closed run stays closed
  pub stays-closed : (g : Goal) (items : List Entry) → run l g items ≡ Closed → run w g items ≡ Closed
  unfolding run
  stays-closed g items e = ap outcome (items-follow (entries_of items) 0 (g ∷ []) [] (closed-ok (run_items l (entries_of items) 0 (g ∷ [])) e))
    where
      closed-ok : (r : Ran) → outcome r ≡ Closed → r ≡ Ok []
      closed-ok (Ok []) e = refl
      closed-ok (Ok (x ∷ xs)) e = absurd (cc)
      closed-ok (Err s) e = absurd (cc)
