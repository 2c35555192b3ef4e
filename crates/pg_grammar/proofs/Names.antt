-- The names of a quantifier are taken, each as deep as it is nested.
use Rattle.std.proofs.Common.{◌≡◌, ℕ, suc, List, [], ◌∷◌, ◌++◌, sym as flip, ◌∙◌, ap, append_assoc}
use Rattle.std.proofs.lemmas.List.{append-nil, map-append}
use Rattle.pg_grammar.specs.Shapes.{Quantifier, Word, Sym, Close, Comma, Colon, NatSign, Group, Bracket, Binders, Plain, Typed, Grouped, names, plain, typed, bracketed, all_bracketed, binders}
use Rattle.pg_grammar.specs.Nesting.{level_with, bracket_depths, all_bracket_depths, binder_depths}
use Rattle.pg_grammar.specs.Machine.{Frame, InQuant, Wants, Binds, Unnamed, PlainNames, PlainTyped, GroupOpen, GroupNames, GroupClosed, alone, nesting}
use Rattle.pg_grammar.proofs.Trace.{Trace, added, trace, added-added}

abbrev with_names : Group → List Word → Group
with_names g ys = record { first = g.first; others = g.others ++ ys }

with_names-nil : (g : Group) → g ≡ with_names g []
with_names-nil g = ap (λ l. let r : Group = record { first = g.first; others = l } in r) (flip (append-nil g.others))

with_names-more : (g : Group) (y : Word) (ys : List Word) → with_names (with_names g (y ∷ [])) ys ≡ with_names g (y ∷ ys)
with_names-more g y ys = ap (λ l. let r : Group = record { first = g.first; others = l } in r) (append_assoc g.others (y ∷ []) ys)

plain-names : (frames : List Frame) (at : ℕ) (q : Quantifier) (g : Group) (ys : List Word) (rest : List Sym)
    → trace (Binds frames at q (PlainNames g)) (names ys ++ rest) ≡ added (level_with (suc (nesting frames)) (names ys)) (trace (Binds frames at q (PlainNames (with_names g ys))) rest)
plain-names frames at q g [] rest = ap (λ x. trace (Binds frames at q (PlainNames x)) rest) (with_names-nil g)
plain-names frames at q g (y ∷ ys) rest =
    let d : ℕ = suc (nesting frames) in
    ap (added (d ∷ [])) (plain-names frames at q (with_names g (y ∷ [])) ys rest)
    ∙ ap (λ x. added (d ∷ level_with d (names ys)) (trace (Binds frames at q (PlainNames x)) rest)) (with_names-more g y ys)

group-names : (frames : List Frame) (at : ℕ) (q : Quantifier) (bs : List Bracket) (i : ℕ) (g : Group) (ys : List Word) (rest : List Sym)
    → trace (Binds frames at q (GroupNames bs i g)) (names ys ++ rest) ≡ added (level_with (suc (suc (nesting frames))) (names ys)) (trace (Binds frames at q (GroupNames bs i (with_names g ys))) rest)
group-names frames at q bs i g [] rest = ap (λ x. trace (Binds frames at q (GroupNames bs i x)) rest) (with_names-nil g)
group-names frames at q bs i g (y ∷ ys) rest =
    let d : ℕ = suc (suc (nesting frames)) in
    ap (added (d ∷ [])) (group-names frames at q bs i (with_names g (y ∷ [])) ys rest)
    ∙ ap (λ x. added (d ∷ level_with d (names ys)) (trace (Binds frames at q (GroupNames bs i x)) rest)) (with_names-more g y ys)

level-typed : (d : ℕ) (g : Group) (t : Trace) → added (level_with d (plain g)) (added (d ∷ d ∷ []) t) ≡ added (level_with d (typed g)) t
level-typed d g t =
    added-added (level_with d (plain g)) (d ∷ d ∷ []) t ∙ ap (λ l. added l t) (flip (map-append (λ (sym : Sym). d) (plain g) (Colon ∷ NatSign ∷ [])))

plain-taken : (frames : List Frame) (at : ℕ) (q : Quantifier) (g : Group) (rest : List Sym)
    → trace (Binds frames at q Unnamed) (plain g ++ rest) ≡ added (level_with (suc (nesting frames)) (plain g)) (trace (Binds frames at q (PlainNames g)) rest)
plain-taken frames at q g rest = ap (added (suc (nesting frames) ∷ [])) (plain-names frames at q (alone g.first) g.others rest)

typed-taken : (frames : List Frame) (at : ℕ) (q : Quantifier) (g : Group) (rest : List Sym)
    → trace (Binds frames at q Unnamed) (typed g ++ rest) ≡ added (level_with (suc (nesting frames)) (typed g)) (trace (Binds frames at q (PlainTyped g)) rest)
typed-taken frames at q g rest =
    ap (trace (Binds frames at q Unnamed)) (append_assoc (plain g) (Colon ∷ NatSign ∷ []) rest)
    ∙ plain-taken frames at q g (Colon ∷ NatSign ∷ rest)
    ∙ level-typed (suc (nesting frames)) g (trace (Binds frames at q (PlainTyped g)) rest)

-- a group behind its parenthesis
group-taken : (frames : List Frame) (at : ℕ) (q : Quantifier) (bs : List Bracket) (b : Bracket) (rest : List Sym)
    → added (suc (nesting frames) ∷ []) (trace (Binds frames at q (GroupOpen bs b.at)) ((typed b.names ++ Close ∷ []) ++ rest))
    ≡ added (bracket_depths (suc (nesting frames)) b) (trace (Binds frames at q (GroupClosed bs b)) rest)
group-taken frames at q bs b rest =
    let d : ℕ = suc (nesting frames) in
    let g : Group = b.names in
    let t : Trace = trace (Binds frames at q (GroupClosed bs b)) rest in
    ap (λ l. added (d ∷ []) (trace (Binds frames at q (GroupOpen bs b.at)) l))
    (append_assoc (typed g) (Close ∷ []) rest ∙ append_assoc (plain g) (Colon ∷ NatSign ∷ []) (Close ∷ rest))
    ∙ ap (λ l. added (d ∷ []) (added (suc d ∷ []) l)) (group-names frames at q bs b.at (alone g.first) g.others (Colon ∷ NatSign ∷ Close ∷ rest))
    ∙ ap (added (d ∷ [])) (level-typed (suc d) g (added (d ∷ []) t) ∙ added-added (level_with (suc d) (typed g)) (d ∷ []) t)

groups-taken : (frames : List Frame) (at : ℕ) (q : Quantifier) (ds : List Bracket) (e : Bracket) (bs : List Bracket) (b : Bracket) (rest : List Sym)
    → trace (Binds frames at q (GroupClosed ds e)) ((all_bracketed bs ++ bracketed b) ++ rest)
    ≡ added (all_bracket_depths (suc (nesting frames)) bs ++ bracket_depths (suc (nesting frames)) b) (trace (Binds frames at q (GroupClosed (ds ++ e ∷ bs) b)) rest)
groups-taken frames at q ds e [] b rest = group-taken frames at q (ds ++ e ∷ []) b rest
groups-taken frames at q ds e (c ∷ bs) b rest =
    let d : ℕ = suc (nesting frames) in
    let t : Trace = trace (Binds frames at q (GroupClosed (ds ++ e ∷ c ∷ bs) b)) rest in
    ap (trace (Binds frames at q (GroupClosed ds e)))
    (append_assoc (bracketed c ++ all_bracketed bs) (bracketed b) rest ∙ append_assoc (bracketed c) (all_bracketed bs) (bracketed b ++ rest)
    ∙ ap (λ l. bracketed c ++ l) (flip (append_assoc (all_bracketed bs) (bracketed b) rest)))
    ∙ group-taken frames at q (ds ++ e ∷ []) c ((all_bracketed bs ++ bracketed b) ++ rest)
    ∙ ap (added (bracket_depths d c)) (groups-taken frames at q (ds ++ e ∷ []) c bs b rest
    ∙ ap (λ l. added (all_bracket_depths d bs ++ bracket_depths d b) (trace (Binds frames at q (GroupClosed l b)) rest)) (append_assoc ds (e ∷ []) (c ∷ bs)))
    ∙ added-added (bracket_depths d c) (all_bracket_depths d bs ++ bracket_depths d b) t
    ∙ ap (λ l. added l t) (flip (append_assoc (bracket_depths d c) (all_bracket_depths d bs) (bracket_depths d b)))

grouped-taken : (frames : List Frame) (at : ℕ) (q : Quantifier) (bs : List Bracket) (b : Bracket) (rest : List Sym)
    → trace (Binds frames at q Unnamed) ((all_bracketed bs ++ bracketed b) ++ rest)
    ≡ added (all_bracket_depths (suc (nesting frames)) bs ++ bracket_depths (suc (nesting frames)) b) (trace (Binds frames at q (GroupClosed bs b)) rest)
grouped-taken frames at q [] b rest = group-taken frames at q [] b rest
grouped-taken frames at q (c ∷ bs) b rest =
    let d : ℕ = suc (nesting frames) in
    let t : Trace = trace (Binds frames at q (GroupClosed (c ∷ bs) b)) rest in
    ap (trace (Binds frames at q Unnamed))
    (append_assoc (bracketed c ++ all_bracketed bs) (bracketed b) rest ∙ append_assoc (bracketed c) (all_bracketed bs) (bracketed b ++ rest)
    ∙ ap (λ l. bracketed c ++ l) (flip (append_assoc (all_bracketed bs) (bracketed b) rest)))
    ∙ group-taken frames at q [] c ((all_bracketed bs ++ bracketed b) ++ rest)
    ∙ ap (added (bracket_depths d c)) (groups-taken frames at q [] c bs b rest)
    ∙ added-added (bracket_depths d c) (all_bracket_depths d bs ++ bracket_depths d b) t
    ∙ ap (λ l. added l t) (flip (append_assoc (bracket_depths d c) (all_bracket_depths d bs) (bracket_depths d b)))

-- all names and the comma
pub binders-taken : (frames : List Frame) (at : ℕ) (q : Quantifier) (b : Binders) (rest : List Sym)
    → trace (Binds frames at q Unnamed) (binders b ++ Comma ∷ rest) ≡ added (binder_depths (suc (nesting frames)) b) (added (suc (nesting frames) ∷ []) (trace (Wants (InQuant at q b ∷ frames)) rest))
binders-taken frames at q (Plain g) rest = plain-taken frames at q g (Comma ∷ rest)
binders-taken frames at q (Typed g) rest = typed-taken frames at q g (Comma ∷ rest)
binders-taken frames at q (Grouped bs b) rest = grouped-taken frames at q bs b (Comma ∷ rest)
