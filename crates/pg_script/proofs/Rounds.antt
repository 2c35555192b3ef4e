-- The rules of `rw` and the terms of `use`, where they are begun, can be finished, and so can each form of a move.
use Rattle.std.proofs.Common.{◌≡◌, ◌∙◌, ℕ, zero, suc, Bool, true, false, List, [], ◌∷◌, ◌++◌, refl, ap, subst, Ok, Err, if◌then◌else◌, inl, inr}
use Rattle.pg_base.specs.declared.token.Sign.TheVariants as sign
use Rattle.pg_base.specs.declared.token.Wanted.TheVariants as wanted
use Rattle.pg_base.specs.Tokens.{Word}
use Rattle.pg_script.specs.declared.fault.ScriptFault.{ScriptFault}
use Rattle.pg_script.specs.declared.fault.ScriptFault.TheVariants.{Expected, TooMany}
use Rattle.pg_script.specs.declared.mark.Mark.{Mark}
use Rattle.pg_script.specs.declared.mark.Mark.TheVariants.{Open, Close, Free, LeftArrow, Comma, CloseBracket, OpenBracket}
use Rattle.pg_script.specs.declared.span.Until.TheVariants as until
use Rattle.pg_script.specs.declared.head.Head.{Head}
use Rattle.pg_script.specs.declared.head.Head.TheVariants as head
use Rattle.pg_script.specs.Data.{Part, Expression, Rule, plain, exact, rewrite, uses, symm}
use Rattle.pg_script.specs.Marks.{mark}
use Rattle.pg_script.specs.Lines.{Read, and_then, with_first, before, expr_at, rule_at, rule_end, rules_at, bracketed_rules, terms_after, terms_at, exact_at, shape_at}
use Rattle.pg_script.proofs.Found.{clash, inj}
use Rattle.pg_script.proofs.Standing.{At, stands_map, Reader, Fine, Extends, Answer, Ends, headed, by_head, goes_on, Fit, Takes, Reaches, IsSome, Whatever, PieceAnswer, Piece, HeadPiece, piece_head, piece_on, chained, fine_join, takes_join, Follows, then_ends, Leads, then_piece}
use Rattle.pg_script.proofs.Closings.{sign_word, some_name, Stop, Shut, part_reader, part_name, part_piece, expr_reader, expr_name, expr_piece}
use Rattle.pg_script.proofs.Finishes.{with_room, map_takes, map_piece, map_ends, ended_ends, exact_ends, apply_ends, intro_ends, split_ends, place_reader, place_ends, placed, placed_follows, placed_ends, have_ends, revert_ends, cases_ends, deep_answer}

-- ---- one step more

suc-fine : {M : Type 0} (f g : Reader M) (ws : List Word) → ((room end : ℕ) (zs : List Word) → g (suc room) end zs ≡ f room end zs) → Fine f ws → Fine g ws
suc-fine f g ws is h =
    λ n. let a = h n in
    let P : ℕ → Type 0 = λ room. g room n ws ≡ Ok a.1 in
    (suc a.0, a.1, λ room le. with_room P a.0 room (λ r l. is r n ws ∙ a.2 r l) le)

suc-answer : {M : Type 0} (f g : Reader M) (end : ℕ) (ws : List Word) (r : Read M) → ((room end : ℕ) (zs : List Word) → g (suc room) end zs ≡ f room end zs) → Answer f end ws r → Answer g end ws r
suc-answer f g end ws (Ok m) is h = suc-fine f g ws is h
suc-answer f g end ws (Err e) is h = stands_map (Extends f) (Extends g) end ws e (λ fr c. (c.0, c.1, suc-fine f g (fr ++ c.0) is c.2)) h

suc-takes : {X : Type 0} (f g : Reader (X × List Word)) (R : X → Type 0) (end : ℕ) (front tail : List Word) → ((room end : ℕ) (zs : List Word) → g (suc room) end zs ≡ f room end zs) → Takes f R end front tail → Takes g R end front tail
suc-takes {X} f g R end front tail is t =
    let P : ℕ → Type 0 = λ room. g room end (front ++ tail) ≡ Ok (t.1, tail) in
    (suc t.0, t.1, t.2, λ room le. with_room P t.0 room (λ r l. is r end (front ++ tail) ∙ t.3 r l) le)

suc-piece : {X : Type 0} (A F : List Word → Type 0) (R : X → X → Type 0) (f g : Reader (X × List Word)) (end : ℕ) (ws : List Word) (r : Read (X × List Word)) → ((room end : ℕ) (zs : List Word) → g (suc room) end zs ≡ f room end zs)
    → PieceAnswer A F R f end ws r → PieceAnswer A F R g end ws r
suc-piece A F R f g end ws (Ok p) is h = (h.0, h.1, h.2, λ n tail fit. suc-takes f g (R p.0) n h.0 tail is (h.3 n tail fit))
suc-piece A F R f g end ws (Err e) is h = stands_map (Reaches F f) (Reaches F g) end ws e (λ fr c. (c.0, c.1, λ n tail s. suc-takes f g (λ x. Unit {0}) n (fr ++ c.0) tail is (c.2 n tail s))) h

-- ---- terms

abbrev terms_reader : Reader (List Part)
terms_reader room n ws = terms_at room n ws

-- what stands behind a term
abbrev terms_more : Part → Reader (List Part)
terms_more x room n ws = terms_after x ws (λ rest. terms_at room n rest)

more-fine : (x : Part) → Fine (terms_more x) []
more-fine x = λ n. (0, x ∷ [], λ room le. refl)

abbrev others : {V : Type 0} → List V → List V
others [] = []
others (x ∷ xs) = xs

before-other : {V : Type 0} (x y : V) (m : List V) (r : Read (List V)) → before x r ≡ Ok m → before y r ≡ Ok (y ∷ others m)
before-other {V} x y m (Ok xs) h = let f : List V → Read (List V) = λ z. Ok (y ∷ others z) in ap f (inj (x ∷ xs) m h)
before-other x y m (Err e) h = absurd (clash e m h)

more-steady : (x y : Part) (ws : List Word) → Fine (terms_more x) ws → Fine (terms_more y) ws
more-steady x y [] h = more-fine y
more-steady x y (w ∷ ws) h = λ n. let a = h n in (a.0, y ∷ others a.1, λ room le. before-other x y a.1 (terms_at room n ws) (a.2 room le))

before-fine : (x : Part) (ws : List Word) → Fine terms_reader ws → Fine (λ room n zs. before x (terms_at room n zs)) ws
before-fine x ws h = λ n. let a = h n in (a.0, x ∷ a.1, λ room le. ap (before x) (a.2 room le))

before-answer : (x : Part) (end : ℕ) (ws : List Word) (r : Read (List Part)) → Answer terms_reader end ws r → Answer (λ room n zs. before x (terms_at room n zs)) end ws (before x r)
before-answer x end ws (Ok m) h = before-fine x ws h
before-answer x end ws (Err e) h = stands_map (Extends terms_reader) (Extends (λ room n zs. before x (terms_at room n zs))) end ws e (λ fr c. (c.0, c.1, before-fine x (fr ++ c.0) c.2)) h

more-ends : (x : Part) (room : ℕ) → Ends room terms_reader → Ends room (terms_more x)
more-ends x room h end [] = more-fine x
more-ends x room h end (w ∷ ws) =
    by_head (terms_more x) end w ws (before x (terms_at room end ws)) ([], tt, more-fine x)
    (goes_on (λ room n zs. before x (terms_at room n zs)) w.at end ws (before x (terms_at room end ws)) (before-answer x end ws (terms_at room end ws) (h end ws)))

term-follows : Follows (Stop until.Comma) (λ x y. Unit {0}) terms_more
term-follows = record { begin = []; fits = refl; inline = tt; fine = λ x. more-fine x; steady = λ x y ws r h. more-steady x y ws h }

terms-is : (room end : ℕ) (zs : List Word) → terms_at (suc room) end zs ≡ chained (part_reader wanted.Term until.Comma) terms_more room end zs
terms-is room end zs = refl

terms-begin : Extends terms_reader []
terms-begin = (
  some_name ∷ [],
  (refl, refl, tt),
  suc-fine (chained (part_reader wanted.Term until.Comma) terms_more) terms_reader (some_name ∷ []) terms-is
      (fine_join (part_reader wanted.Term until.Comma) terms_more (λ x. Unit {0}) (some_name ∷ []) [] (λ n. part_name wanted.Term until.Comma n [] refl) (λ x u. more-fine x)),
)

abbrev no_term_mark : Mark → (at : ℕ) → ScriptFault
no_term_mark m at = elim m [ Comma ↦ Expected at wanted.Term | Close ↦ Expected at wanted.Term | _ ↦ TooMany at ]

no-term-at : (m : Mark) (at : ℕ) → At at (no_term_mark m at)
no-term-at Comma at = refl
no-term-at Close at = refl
no-term-at m at = refl

pub terms-ends : (room : ℕ) → Ends room terms_reader
terms-ends zero end [] = (refl, terms-begin)
terms-ends zero end (w ∷ ws) = inl (no-term-at (mark w) w.at, terms-begin)
terms-ends (suc room) end ws =
    suc-answer (chained (part_reader wanted.Term until.Comma) terms_more) terms_reader end ws (terms_at (suc room) end ws) terms-is
    (then_ends IsSome (Stop until.Comma) (λ x y. Unit {0}) (part_reader wanted.Term until.Comma) terms_more term-follows room (part_piece wanted.Term until.Comma room) (λ x. more-ends x room (terms-ends room)) end ws)

-- ---- a rule

abbrev rule_reader : Reader (Rule × List Word)
rule_reader room n ws = rule_at n ws

abbrev forward : Expression → Rule
forward e = record { back = false; expr = e }

abbrev backward : Expression → Rule
backward e = record { back = true; expr = e }

abbrev ruled : (Expression → Rule) → Reader (Rule × List Word)
ruled k room n ws = and_then (expr_at n 0 ws) (λ p. Ok (k p.0, p.1))

rule-takes : (end : ℕ) (tail : List Word) → Shut tail → Takes rule_reader (λ x. Unit {0}) end (some_name ∷ []) tail
rule-takes end tail s = map_takes (expr_reader 0) forward end (some_name ∷ []) tail (expr_name 0 end tail s)

rule-begin : Reaches Shut rule_reader []
rule-begin = (some_name ∷ [], (refl, refl, tt), rule-takes)

first-is : (w u : Word) (ws us rest : List Word) → w ∷ ws ≡ (u ∷ us) ++ rest → u ≡ w
first-is w u ws us rest h = cc

others-are : (w u : Word) (ws us rest : List Word) → w ∷ ws ≡ (u ∷ us) ++ rest → ws ≡ us ++ rest
others-are w u ws us rest h = cc

unhead-ok : {X : Type 0} (F : List Word → Type 0) (R : X → X → Type 0) (f : Reader (X × List Word)) (w : Word) (ws : List Word) (p : X × List Word) (used : List Word) → IsSome used → w ∷ ws ≡ used ++ p.1
    → ((end : ℕ) (tail : List Word) → Fit F p.1 tail → Takes f (R p.0) end used tail) → HeadPiece F R (headed f w) w.at 0 ws (Ok p)
unhead-ok F R f w ws p [] s whole t = absurd s
unhead-ok F R f w ws p (u ∷ us) s whole t =
    (us, others-are w u ws us p.1 whole, λ n tail fit. let P : Word → Type 0 = λ z. Takes (headed f z) (R p.0) n us tail in subst P (first-is w u ws us p.1 whole) (t n tail fit))

unhead : {X : Type 0} (F : List Word → Type 0) (R : X → X → Type 0) (f : Reader (X × List Word)) (w : Word) (end : ℕ) (ws : List Word) (r : Read (X × List Word)) → PieceAnswer IsSome F R f end (w ∷ ws) r → HeadPiece F R (headed f w) w.at end ws r
unhead F R f w end ws (Ok p) h = unhead-ok F R f w ws p h.0 h.1 h.2 h.3
unhead F R f w end ws (Err e) (inl h) = inl h.0
unhead F R f w end ws (Err e) (inr h) = inr h

abbrev rule_mark : ℕ → Mark → Word → List Word → Read (Rule × List Word)
rule_mark end m w ws = elim m [
  | LeftArrow ↦ and_then (expr_at end 0 ws) (λ p. Ok ((let r : Rule = record { back = true; expr = p.0 } in r), p.1))
  | Free ↦ and_then (expr_at end 0 (w ∷ ws)) (λ p. Ok ((let r : Rule = record { back = false; expr = p.0 } in r), p.1))
  | Open ↦ and_then (expr_at end 0 (w ∷ ws)) (λ p. Ok ((let r : Rule = record { back = false; expr = p.0 } in r), p.1))
  | _ ↦ Err (Expected w.at wanted.Rule)
]

ruled-answer : (k : Expression → Rule) (end : ℕ) (ws : List Word) → PieceAnswer IsSome Shut (λ x y. Unit {0}) (ruled k) end ws (and_then (expr_at end 0 ws) (λ p. Ok (k p.0, p.1)))
ruled-answer k end ws = map_piece IsSome Shut (expr_reader 0) k end ws (expr_at end 0 ws) (expr_piece 0 0 end ws)

rule-head : (m : Mark) (w : Word) (end : ℕ) (ws : List Word) → HeadPiece Shut (λ x y. Unit {0}) (λ room n zs. rule_mark n m w zs) w.at end ws (rule_mark end m w ws)
rule-head LeftArrow w end ws = piece_on IsSome Shut (λ x y. Unit {0}) (ruled backward) w.at end ws (and_then (expr_at end 0 ws) (λ p. Ok (backward p.0, p.1))) (ruled-answer backward end ws)
rule-head Free w end ws = unhead Shut (λ x y. Unit {0}) (ruled forward) w end ws (and_then (expr_at end 0 (w ∷ ws)) (λ p. Ok (forward p.0, p.1))) (ruled-answer forward end (w ∷ ws))
rule-head Open w end ws = unhead Shut (λ x y. Unit {0}) (ruled forward) w end ws (and_then (expr_at end 0 (w ∷ ws)) (λ p. Ok (forward p.0, p.1))) (ruled-answer forward end (w ∷ ws))
rule-head m w end ws = inl refl

rule-piece : (room : ℕ) → Piece IsSome Shut (λ x y. Unit {0}) room rule_reader
rule-piece room end [] = (refl, rule-begin)
rule-piece room end (w ∷ ws) = piece_head Shut (λ x y. Unit {0}) rule_reader end w ws (rule_mark end (mark w) w ws) rule-begin (rule-head (mark w) w end ws)

-- ---- rules

abbrev rules_reader : Reader (List Rule × List Word)
rules_reader room n ws = rules_at room n ws

-- what stands behind a rule
abbrev rules_more : Rule → Reader (List Rule × List Word)
rules_more x room n ws = and_then (rule_end n ws) (λ q. if q.0 then with_first x (rules_at room n q.1) else Ok (x ∷ [], q.1))

abbrev bracket : List Word
bracket = sign_word sign.CloseBracket ∷ []

more-takes : (x : Rule) (end : ℕ) (tail : List Word) → Takes (rules_more x) (λ z. Unit {0}) end bracket tail
more-takes x end tail = (0, x ∷ [], tt, λ room le. refl)

more-begin : (x : Rule) → Reaches Whatever (rules_more x) []
more-begin x = (bracket, (refl, refl, tt), λ n tail s. more-takes x n tail)

abbrev rule_end_mark : Mark → (at : ℕ) → List Word → Read (Bool × List Word)
rule_end_mark m at ws = elim m [
  | Comma ↦ Ok (true, ws)
  | CloseBracket ↦ Ok (false, ws)
  | _ ↦ Err (Expected at wanted.CommaOrBracket)
]

abbrev rules_behind : Rule → (room end : ℕ) → Bool × List Word → Read (List Rule × List Word)
rules_behind x room end q = if q.0 then with_first x (rules_at room end q.1) else Ok (x ∷ [], q.1)

first-takes : (x : Rule) (end : ℕ) (front tail : List Word) → Takes rules_reader (λ z. Unit {0}) end front tail → Takes (λ room n zs. with_first x (rules_at room n zs)) (λ z. Unit {0}) end front tail
first-takes x end front tail t = (t.0, x ∷ t.1, tt, λ room le. ap (with_first x) (t.3 room le))

first-answer : (x : Rule) (at end : ℕ) (ws : List Word) (r : Read (List Rule × List Word)) → PieceAnswer IsSome Whatever (λ a b. Unit {0}) rules_reader end ws r
    → HeadPiece Whatever (λ a b. Unit {0}) (λ room n zs. with_first x (rules_at room n zs)) at end ws (with_first x r)
first-answer x at end ws (Ok p) h = (h.0, h.2, λ n tail fit. first-takes x n h.0 tail (h.3 n tail fit))
first-answer x at end ws (Err e) h = inr (stands_map (Reaches Whatever rules_reader) (Reaches Whatever (λ room n zs. with_first x (rules_at room n zs))) end ws e (λ fr c. (c.0, c.1, λ n tail s. first-takes x n (fr ++ c.0) tail (c.2 n tail s))) h)

more-head : (x : Rule) (room : ℕ) (m : Mark) (at end : ℕ) (ws : List Word) → Piece IsSome Whatever (λ a b. Unit {0}) room rules_reader
    → HeadPiece Whatever (λ a b. Unit {0}) (λ r n zs. and_then (rule_end_mark m at zs) (rules_behind x r n)) at end ws (and_then (rule_end_mark m at ws) (rules_behind x room end))
more-head x room Comma at end ws h = first-answer x at end ws (rules_at room end ws) (h end ws)
more-head x room CloseBracket at end ws h = ([], refl, λ n tail fit. (0, x ∷ [], tt, λ r le. refl))
more-head x room m at end ws h = inl refl

more-piece : (x : Rule) (room : ℕ) → Piece IsSome Whatever (λ a b. Unit {0}) room rules_reader → Piece IsSome Whatever (λ a b. Unit {0}) room (rules_more x)
more-piece x room h end [] = (refl, more-begin x)
more-piece x room h end (w ∷ ws) = piece_head Whatever (λ a b. Unit {0}) (rules_more x) end w ws (and_then (rule_end_mark (mark w) w.at ws) (rules_behind x room end)) (more-begin x) (more-head x room (mark w) w.at end ws h)

first-other : (x y : Rule) (z : List Rule) (tail : List Word) (r : Read (List Rule × List Word)) → with_first x r ≡ Ok (z, tail) → with_first y r ≡ Ok (y ∷ others z, tail)
first-other x y z tail (Ok (xs, rest)) h =
    let a : List Rule × List Word = (x ∷ xs, rest) in
    let b : List Rule × List Word = (z, tail) in
    let f : List Rule × List Word → Read (List Rule × List Word) = λ p. Ok (y ∷ others p.0, p.1) in
    ap f (inj a b h)
first-other x y z tail (Err e) h = let b : List Rule × List Word = (z, tail) in absurd (clash e b h)

more-other : (x y : Rule) (room end : ℕ) (z : List Rule) (tail : List Word) (r : Read (Bool × List Word)) → and_then r (rules_behind x room end) ≡ Ok (z, tail) → and_then r (rules_behind y room end) ≡ Ok (y ∷ others z, tail)
more-other x y room end z tail (Ok (true, ws)) h = first-other x y z tail (rules_at room end ws) h
more-other x y room end z tail (Ok (false, ws)) h =
    let a : List Rule × List Word = (x ∷ [], ws) in
    let b : List Rule × List Word = (z, tail) in
    let f : List Rule × List Word → Read (List Rule × List Word) = λ p. Ok (y ∷ others p.0, p.1) in
    ap f (inj a b h)
more-other x y room end z tail (Err e) h = let b : List Rule × List Word = (z, tail) in absurd (clash e b h)

more-loose : (x y : Rule) (end : ℕ) (front tail : List Word) → Takes (rules_more x) (λ z. Unit {0}) end front tail → Takes (rules_more y) (λ z. Unit {0}) end front tail
more-loose x y end front tail t = (t.0, y ∷ others t.1, tt, λ room le. more-other x y room end t.1 tail (rule_end end (front ++ tail)) (t.3 room le))

rules-lead : Leads {X = Rule} {Y = List Rule} Shut Whatever (λ x y. Unit {0}) (λ x y. Unit {0}) rules_more
rules-lead = record {
  begin = bracket;
  fits = λ tail. refl;
  inline = (refl, refl, tt);
  fine = λ x end tail q. more-takes x end tail;
  steady = λ x y z end front tail r t. more-loose x y end front tail t;
  loose = λ x y end front tail r t. more-loose x y end front tail t;
}

rules-is : (room end : ℕ) (zs : List Word) → rules_at (suc room) end zs ≡ chained rule_reader rules_more room end zs
rules-is room end zs = refl

rules-takes : (end : ℕ) (tail : List Word) → Takes rules_reader (λ z. Unit {0}) end (some_name ∷ bracket) tail
rules-takes end tail =
    suc-takes (chained rule_reader rules_more) rules_reader (λ z. Unit {0}) end (some_name ∷ bracket) tail rules-is
    (takes_join rule_reader rules_more (λ x. Unit {0}) (λ z. Unit {0}) end (some_name ∷ []) bracket tail (rule-takes end (bracket ++ tail) refl) (λ x u. more-takes x end tail))

rules-begin : Reaches Whatever rules_reader []
rules-begin = (some_name ∷ bracket, (refl, refl, (refl, refl, tt)), λ n tail s. rules-takes n tail)

abbrev no_rule_mark : Mark → (at : ℕ) → ScriptFault
no_rule_mark m at = elim m [ Free ↦ TooMany at | Open ↦ TooMany at | LeftArrow ↦ TooMany at | _ ↦ Expected at wanted.Rule ]

no-rule-at : (m : Mark) (at : ℕ) → At at (no_rule_mark m at)
no-rule-at Free at = refl
no-rule-at Open at = refl
no-rule-at LeftArrow at = refl
no-rule-at m at = refl

rules-piece : (room : ℕ) → Piece IsSome Whatever (λ a b. Unit {0}) room rules_reader
rules-piece zero end [] = (refl, rules-begin)
rules-piece zero end (w ∷ ws) = inl (no-rule-at (mark w) w.at, rules-begin)
rules-piece (suc room) end ws =
    suc-piece IsSome Whatever (λ a b. Unit {0}) (chained rule_reader rules_more) rules_reader end ws (rules_at (suc room) end ws) rules-is
    (then_piece IsSome Shut Whatever (λ x y. Unit {0}) (λ a b. Unit {0}) rule_reader rules_more rules-lead room (rule-piece room) (λ x. more-piece x room (rules-piece room)) end ws)

abbrev bracketed_reader : Reader (List Rule × List Word)
bracketed_reader room n ws = bracketed_rules room n ws

bracketed-begin : Reaches Whatever bracketed_reader []
bracketed-begin =
    (sign_word sign.OpenBracket ∷ some_name ∷ bracket, (refl, refl, (refl, refl, (refl, refl, tt))), λ n tail s. let t = rules-takes n tail in (t.0, t.1, tt, λ room le. t.3 room le))

abbrev bracket_mark : (room end : ℕ) → Mark → (at : ℕ) → List Word → Read (List Rule × List Word)
bracket_mark room end m at ws = elim m [ OpenBracket ↦ rules_at room end ws | _ ↦ Err (Expected at wanted.OpenBracket) ]

bracketed-head : (room : ℕ) (m : Mark) (at end : ℕ) (ws : List Word) → HeadPiece Whatever (λ a b. Unit {0}) (λ r n zs. bracket_mark r n m at zs) at end ws (bracket_mark room end m at ws)
bracketed-head room OpenBracket at end ws = piece_on IsSome Whatever (λ a b. Unit {0}) rules_reader at end ws (rules_at room end ws) (rules-piece room end ws)
bracketed-head room m at end ws = inl refl

bracketed-piece : (room : ℕ) → Piece IsSome Whatever (λ a b. Unit {0}) room bracketed_reader
bracketed-piece room end [] = (refl, bracketed-begin)
bracketed-piece room end (w ∷ ws) =
    piece_head Whatever (λ a b. Unit {0}) bracketed_reader end w ws (bracket_mark room end (mark w) w.at ws) bracketed-begin (bracketed-head room (mark w) w.at end ws)

rewrite-ends : (room : ℕ) → Ends room (λ room n ws. and_then (bracketed_rules room n ws) (λ p. placed rewrite p.0 room n p.1))
rewrite-ends room = then_ends IsSome Whatever (λ x y. Unit {0}) bracketed_reader (placed rewrite) (placed_follows Whatever rewrite tt) room (bracketed-piece room) (λ x. placed_ends rewrite room x)

-- ---- every form

pub shape_ends : (h : Head) (room : ℕ) → Ends room (λ room n ws. shape_at h room n ws)
shape_ends head.Plain room = ended_ends plain room
shape_ends head.Exact room = map_ends (λ room n ws. exact_at n ws) exact room (exact_ends room)
shape_ends head.Intro room = intro_ends room
shape_ends head.Apply room = apply_ends room
shape_ends head.Rw room = rewrite-ends room
shape_ends head.Split room = split_ends room
shape_ends head.Use room = map_ends terms_reader uses room (terms-ends room)
shape_ends head.Symm room = map_ends place_reader symm room (place_ends room)
shape_ends head.Have room = have_ends room
shape_ends head.Revert room = revert_ends room
shape_ends head.ByCases room = cases_ends room
shape_ends head.Unknown room = λ end ws. deep_answer 0 end ws
