-- A move is read exactly where it has its form and its steps may stand.
use Rattle.std.proofs.Common.{◌≡◌, ◌∙◌, ℕ, zero, suc, ◌<◌, ◌≤◌, true, false, List, [], ◌∷◌, ◌++◌, refl, sym, ap, subst, arith, append-nil, Some, None, Ok, Err, if◌then◌else◌, IsTrue, ◌==◌}
use Rattle.pg_base.specs.declared.token.Wanted.TheVariants as wanted
use Rattle.pg_base.specs.Tokens.{Word}
use Rattle.pg_script.specs.declared.fault.ScriptFault.TheVariants.{Expected, TooMany}
use Rattle.pg_script.specs.declared.mark.Mark.{Mark}
use Rattle.pg_script.specs.declared.mark.Mark.TheVariants.{OpenBracket, Colon, Assign, With}
use Rattle.pg_script.specs.declared.span.Until.TheVariants as until
use Rattle.pg_script.specs.declared.head.Head.{Head}
use Rattle.pg_script.specs.declared.head.Head.TheVariants as head
use Rattle.pg_script.specs.Data.{Part, Rule, Shape, plain, exact, intro, apply, rewrite, split, uses, symm, have, revert, by_cases, unknown, Step}
use Rattle.pg_script.specs.Marks.{mark, is_name}
use Rattle.pg_script.specs.Lines.{Read, and_then, unless_fault, stops, part_at, expr_at, ended, name_at, names_fault, steps_fault, place_at, deep_fault, rules_at, bracketed_rules, terms_at, exact_at, apply_at, rewrite_at, intro_at, names_after, split_at, have_after, have_formula, have_of, cases_of, shape_at, head_of}
use Rattle.pg_script.specs.Blocks.{steps_of, move_at}
use Rattle.pg_script.specs.Forms.{IsPiece, piece, IsForm, a_plain, an_exact, an_intro, an_apply, a_rewrite, a_split, a_split_with, a_use, a_symm, a_have, a_have_by, a_have_of, a_revert, a_by_cases, an_unknown, IsMove}
use Rattle.pg_script.proofs.Found.{clash, and_then_ok, inj}
use Rattle.pg_script.proofs.Pieces.{differ, Ends, part_read, part_found}
use Rattle.pg_script.proofs.Phrases.{expr_read, expr_found, ended_ok, exact_read, exact_found}
use Rattle.pg_script.proofs.Shallow.{shallow_read, shallow_found}
use Rattle.pg_script.proofs.Moves.{unless-ok, names-read, names-found, steps-read, steps-found, name-read, name-found, place-read, place-begins, place-found, RulesIn, rules-read, rules-some, rules-found, assign-stops, terms-read, terms-some, terms-found}

-- ---- what has a form is read

abbrev bracket_mark : (room end : ℕ) → Mark → (at : ℕ) → List Word → Read (List Rule × List Word)
bracket_mark room end m at ws = elim m [ OpenBracket ↦ rules_at room end ws | _ ↦ Err (Expected at wanted.OpenBracket) ]

abbrev with_mark : Mark → (at : ℕ) → List Word → Read (List Word)
with_mark m at ws = elim m [ With ↦ unless_fault (names_fault ws) ws | _ ↦ Err (Expected at wanted.WithOrEnd) ]

abbrev have_mark : ℕ → Word → Mark → (at : ℕ) → List Word → Read Shape
have_mark end name m at ws = elim m [
  | Colon ↦ have_formula end name ws
  | Assign ↦ and_then (exact_at end ws) (λ e. Ok (have name None (Some e)))
  | _ ↦ Err (Expected at wanted.ColonOrAssign)
]

abbrev cases_mark : ℕ → Word → Mark → (at : ℕ) → List Word → Read Shape
cases_mark end name m at ws = elim m [
  | Colon ↦ and_then (part_at wanted.Formula until.End end ws) (λ p. Ok (by_cases name p.0))
  | _ ↦ Err (Expected at wanted.Colon)
]

formula-read : (end : ℕ) (h c : Word) (ws rest : List Word) → IsTrue (is_name h) → mark c ≡ Colon → IsPiece until.Assign ws → Ends until.Assign rest
    → and_then (name_at end (h ∷ c ∷ ws ++ rest)) (λ p. have_of end p.0 p.1) ≡ have_after end h (piece end ws rest) rest
formula-read end h c ws rest hn hc i e =
    ap (λ r. and_then r (λ p. have_of end p.0 p.1)) (name-read end h (c ∷ ws ++ rest) hn)
    ∙ ap (λ m. have_mark end h m c.at (ws ++ rest)) hc
    ∙ ap (λ r. and_then r (λ p. have_after end h p.0 p.1)) (part_read wanted.Formula until.Assign end ws rest i e)

form-read : {end : ℕ} {h : Head} {ws : List Word} {s : Shape} (room : ℕ) → IsForm end h ws s → steps_of s ≤ room → shape_at h room end ws ≡ Ok s
form-read room a_plain le = refl
form-read {end = end} room (an_exact ws e i) le = ap (λ r. and_then r (λ x. Ok (exact x))) (exact_read end ws e i)
form-read room (an_intro w ws names) le = ap (λ f. unless_fault f (intro (w ∷ ws))) (steps-read room (w ∷ ws) names le)
form-read {end = end} room (an_apply ws vs e h i p) le =
    ap (λ r. and_then r (λ q. and_then (place_at end q.1) (λ x. Ok (apply q.0 x)))) (expr_read i (place-begins p)) ∙ ap (λ r. and_then r (λ x. Ok (apply e x))) (place-read end p)
form-read {end = end} room (a_rewrite b ws vs rs h hb k p) le =
    ap (λ m. and_then (bracket_mark room end m b.at (ws ++ vs)) (λ q. and_then (place_at end q.1) (λ x. Ok (rewrite q.0 x)))) hb
    ∙ ap (λ r. and_then r (λ q. and_then (place_at end q.1) (λ x. Ok (rewrite q.0 x)))) (rules-read room k le)
    ∙ ap (λ r. and_then r (λ x. Ok (rewrite rs x))) (place-read end p)
form-read {end = end} room (a_split x hx) le = ap (λ r. and_then r (λ p. and_then (names_after p.1) (λ names. Ok (split p.0 names)))) (name-read end x [] hx)
form-read {end = end} room (a_split_with x w ws hx hw names) le =
    ap (λ r. and_then r (λ p. and_then (names_after p.1) (λ names. Ok (split p.0 names)))) (name-read end x (w ∷ ws) hx)
    ∙ ap (λ m. and_then (with_mark m w.at ws) (λ names. Ok (split x names))) hw
    ∙ ap (λ f. and_then (unless_fault f ws) (λ names. Ok (split x names))) (names-read ws names)
form-read room (a_use ws ps t) le = ap (λ r. and_then r (λ terms. Ok (uses terms))) (terms-read room t le)
form-read {end = end} room (a_symm ws h p) le = ap (λ r. and_then r (λ x. Ok (symm x))) (place-read end p)
form-read {end = end} room (a_have h c ws hn hc i) le =
    ap (λ t. and_then (name_at end (h ∷ c ∷ t)) (λ p. have_of end p.0 p.1)) (sym (append-nil ws)) ∙ formula-read end h c ws [] hn hc i refl
form-read {end = end} room (a_have_by h a ws e hn ha i) le =
    ap (λ r. and_then r (λ p. have_of end p.0 p.1)) (name-read end h (a ∷ ws) hn)
    ∙ ap (λ m. have_mark end h m a.at ws) ha
    ∙ ap (λ r. and_then r (λ x. Ok (have h None (Some x)))) (exact_read end ws e i)
form-read {end = end} room (a_have_of h c a ws vs e hn hc i ha x) le =
    formula-read end h c ws (a ∷ vs) hn hc i (ap (stops until.Assign) ha) ∙ ap (λ r. and_then r (λ y. Ok (have h (Some (piece end ws (a ∷ vs))) (Some y)))) (exact_read end vs e x)
form-read {end = end} room (a_revert x hx) le = ap (λ r. and_then r (λ p. ended (revert p.0) p.1)) (name-read end x [] hx)
form-read {end = end} room (a_by_cases h c ws hn hc i) le =
    ap (λ r. and_then r (λ p. cases_of end p.0 p.1)) (name-read end h (c ∷ ws) hn)
    ∙ ap (λ m. cases_mark end h m c.at ws) hc
    ∙ ap (λ t. and_then (part_at wanted.Formula until.End end t) (λ p. Ok (by_cases h p.0))) (sym (append-nil ws))
    ∙ ap (λ r. and_then r (λ p. Ok (by_cases h p.0))) (part_read wanted.Formula until.End end ws [] i refl)
form-read room (an_unknown ws s) le = ap (λ f. unless_fault f unknown) (shallow_read ws s)

form-some : {end : ℕ} {h : Head} {ws : List Word} {s : Shape} → IsForm end h ws s → 0 < steps_of s
form-some a_plain = omega arith
form-some (an_exact ws e i) = omega arith
form-some (an_intro w ws names) = omega arith
form-some (an_apply ws vs e h i p) = omega arith
form-some (a_rewrite b ws vs rs h hb k p) = rules-some k
form-some (a_split x hx) = omega arith
form-some (a_split_with x w ws hx hw names) = omega arith
form-some (a_use ws ps t) = terms-some t
form-some (a_symm ws h p) = omega arith
form-some (a_have h c ws hn hc i) = omega arith
form-some (a_have_by h a ws e hn ha i) = omega arith
form-some (a_have_of h c a ws vs e hn hc i ha x) = omega arith
form-some (a_revert x hx) = omega arith
form-some (a_by_cases h c ws hn hc i) = omega arith
form-some (an_unknown ws s) = omega arith

-- ---- what is read has a form

abbrev Formed : (room end : ℕ) → Head → List Word → Shape → Type 0
Formed room end h ws s = IsForm end h ws s × (steps_of s ≤ room)

plain-found : (room end : ℕ) (ws : List Word) (s : Shape) → 0 < room → ended plain ws ≡ Ok s → Formed room end head.Plain ws s
plain-found room end ws s some h =
    let k = ended_ok plain s ws h in
    let P : List Word → Type 0 = λ t. Formed room end head.Plain t s in
    let Q : Shape → Type 0 = λ x. Formed room end head.Plain [] x in
    subst P (sym k.0) (subst Q k.1 (a_plain, some))

exact-found : (room end : ℕ) (ws : List Word) (s : Shape) → 0 < room → and_then (exact_at end ws) (λ e. Ok (exact e)) ≡ Ok s → Formed room end head.Exact ws s
exact-found room end ws s some h =
    let m = and_then_ok (exact_at end ws) (λ e. Ok (exact e)) s h in
    let P : Shape → Type 0 = Formed room end head.Exact ws in subst P (inj (exact m.0) s m.2) (an_exact ws m.0 (exact_found end ws m.0 m.1), some)

intro-found : (room end : ℕ) (ws : List Word) (s : Shape) → intro_at room end ws ≡ Ok s → Formed room end head.Intro ws s
intro-found room end [] s h = absurd (clash (Expected end wanted.Name) s h)
intro-found room end (w ∷ ws) s h =
    let k = unless-ok (steps_fault room (w ∷ ws)) (intro (w ∷ ws)) s h in
    let f = steps-found room (w ∷ ws) k.0 in
    let P : Shape → Type 0 = Formed room end head.Intro (w ∷ ws) in subst P k.1 (an_intro w ws f.0, f.1)

apply-found : (room end : ℕ) (ws : List Word) (s : Shape) → 0 < room → apply_at end ws ≡ Ok s → Formed room end head.Apply ws s
apply-found room end ws s some h =
    let m = and_then_ok (expr_at end 0 ws) (λ p. and_then (place_at end p.1) (λ x. Ok (apply p.0 x))) s h in
    let n = and_then_ok (place_at end m.0.1) (λ x. Ok (apply m.0.0 x)) s m.2 in
    let i = expr_found end 0 ws m.0 m.1 in
    let P : Shape → Type 0 = Formed room end head.Apply ws in
    let Q : List Word → Type 0 = λ t. IsForm end head.Apply t (apply m.0.0 n.0) in
    subst P (inj (apply m.0.0 n.0) s n.2) (subst Q (sym i.1) (an_apply i.0 m.0.1 m.0.0 n.0 i.2 (place-found end m.0.1 n.0 n.1)), some)

record BracketFound (room end : ℕ) (ws : List Word) (p : List Rule × List Word) : Type 0 where
  bracket : Word
  opens : mark bracket ≡ OpenBracket
  inside : List Word
  whole : ws ≡ bracket ∷ inside
  rules_in : RulesIn room end inside p

bracket-by : (room end : ℕ) (b : Word) (ws : List Word) (p : List Rule × List Word) (m : Mark) → mark b ≡ m → bracket_mark room end m b.at ws ≡ Ok p → BracketFound room end (b ∷ ws) p
bracket-by room end b ws p OpenBracket hm h = record { bracket = b; opens = hm; inside = ws; whole = refl; rules_in = rules-found room end ws p h }
bracket-by room end b ws p m hm h = absurd (clash (Expected b.at wanted.OpenBracket) p h)

bracket-found : (room end : ℕ) (ws : List Word) (p : List Rule × List Word) → bracketed_rules room end ws ≡ Ok p → BracketFound room end ws p
bracket-found room end [] p h = absurd (clash (Expected end wanted.OpenBracket) p h)
bracket-found room end (b ∷ ws) p h = bracket-by room end b ws p (mark b) refl h

rewrite-found : (room end : ℕ) (ws : List Word) (s : Shape) → rewrite_at room end ws ≡ Ok s → Formed room end head.Rw ws s
rewrite-found room end ws s h =
    let m = and_then_ok (bracketed_rules room end ws) (λ p. and_then (place_at end p.1) (λ x. Ok (rewrite p.0 x))) s h in
    let n = and_then_ok (place_at end m.0.1) (λ x. Ok (rewrite m.0.0 x)) s m.2 in
    let b = bracket-found room end ws m.0 m.1 in
    let r = b.rules_in in
    let whole : b.bracket ∷ r.front ++ m.0.1 ≡ ws = sym (b.whole ∙ ap (λ t. b.bracket ∷ t) r.whole) in
    let P : Shape → Type 0 = Formed room end head.Rw ws in
    let Q : List Word → Type 0 = λ t. IsForm end head.Rw t (rewrite m.0.0 n.0) in
    subst P (inj (rewrite m.0.0 n.0) s n.2) (subst Q whole (a_rewrite b.bracket r.front m.0.1 m.0.0 n.0 b.opens r.rules_are (place-found end m.0.1 n.0 n.1)), r.few)

names-by : (end : ℕ) (x w : Word) (ws names : List Word) (m : Mark) → IsTrue (is_name x) → mark w ≡ m → with_mark m w.at ws ≡ Ok names → IsForm end head.Split (x ∷ w ∷ ws) (split x names)
names-by end x w ws names With hx hm h =
    let k = unless-ok (names_fault ws) ws names h in
    let P : List Word → Type 0 = λ t. IsForm end head.Split (x ∷ w ∷ ws) (split x t) in subst P k.1 (a_split_with x w ws hx hm (names-found ws k.0))
names-by end x w ws names m hx hm h = absurd (clash (Expected w.at wanted.WithOrEnd) names h)

after-name : (end : ℕ) (x : Word) (ws names : List Word) → IsTrue (is_name x) → names_after ws ≡ Ok names → IsForm end head.Split (x ∷ ws) (split x names)
after-name end x [] names hx h = let P : List Word → Type 0 = λ t. IsForm end head.Split (x ∷ []) (split x t) in subst P (inj [] names h) (a_split x hx)
after-name end x (w ∷ ws) names hx h = names-by end x w ws names (mark w) hx refl h

split-found : (room end : ℕ) (ws : List Word) (s : Shape) → 0 < room → split_at end ws ≡ Ok s → Formed room end head.Split ws s
split-found room end ws s some h =
    let m = and_then_ok (name_at end ws) (λ p. and_then (names_after p.1) (λ names. Ok (split p.0 names))) s h in
    let n = and_then_ok (names_after m.0.1) (λ names. Ok (split m.0.0 names)) s m.2 in
    let f = name-found end ws m.0 m.1 in
    let P : Shape → Type 0 = Formed room end head.Split ws in
    let Q : List Word → Type 0 = λ t. IsForm end head.Split t (split m.0.0 n.0) in
    subst P (inj (split m.0.0 n.0) s n.2) (subst Q (sym f.whole) (after-name end m.0.0 m.0.1 n.0 f.name n.1), some)

use-found : (room end : ℕ) (ws : List Word) (s : Shape) → and_then (terms_at room end ws) (λ terms. Ok (uses terms)) ≡ Ok s → Formed room end head.Use ws s
use-found room end ws s h =
    let m = and_then_ok (terms_at room end ws) (λ terms. Ok (uses terms)) s h in
    let t = terms-found room end ws m.0 m.1 in
    let P : Shape → Type 0 = Formed room end head.Use ws in subst P (inj (uses m.0) s m.2) (a_use ws m.0 t.0, t.1)

symm-found : (room end : ℕ) (ws : List Word) (s : Shape) → 0 < room → and_then (place_at end ws) (λ h. Ok (symm h)) ≡ Ok s → Formed room end head.Symm ws s
symm-found room end ws s some h =
    let m = and_then_ok (place_at end ws) (λ x. Ok (symm x)) s h in
    let P : Shape → Type 0 = Formed room end head.Symm ws in subst P (inj (symm m.0) s m.2) (a_symm ws m.0 (place-found end ws m.0 m.1), some)

-- a formula alone, or an expression behind `:=` too
behind-formula : (room end : ℕ) (x c : Word) (front rest : List Word) (s : Shape) → 0 < room → IsTrue (is_name x) → mark c ≡ Colon → IsPiece until.Assign front → Ends until.Assign rest
    → have_after end x (piece end front rest) rest ≡ Ok s → Formed room end head.Have (x ∷ c ∷ front ++ rest) s
behind-formula room end x c front [] s some hx hc i e h =
    let P : Shape → Type 0 = Formed room end head.Have (x ∷ c ∷ front ++ []) in
    let Q : List Word → Type 0 = λ t. IsForm end head.Have (x ∷ c ∷ t) (have x (Some (piece end front [])) None) in
    subst P (inj (have x (Some (piece end front [])) None) s h) (subst Q (sym (append-nil front)) (a_have x c front hx hc i), some)
behind-formula room end x c front (a ∷ vs) s some hx hc i e h =
    let m = and_then_ok (exact_at end vs) (λ y. Ok (have x (Some (piece end front (a ∷ vs))) (Some y))) s h in
    let P : Shape → Type 0 = Formed room end head.Have (x ∷ c ∷ front ++ a ∷ vs) in
    subst P (inj (have x (Some (piece end front (a ∷ vs))) (Some m.0)) s m.2) (a_have_of x c a front vs m.0 hx hc i (assign-stops (mark a) e) (exact_found end vs m.0 m.1), some)

have-by : (room end : ℕ) (x c : Word) (ws : List Word) (s : Shape) (m : Mark) → 0 < room → IsTrue (is_name x) → mark c ≡ m → have_mark end x m c.at ws ≡ Ok s → Formed room end head.Have (x ∷ c ∷ ws) s
have-by room end x c ws s Colon some hx hm h =
    let m = and_then_ok (part_at wanted.Formula until.Assign end ws) (λ p. have_after end x p.0 p.1) s h in
    let f = part_found wanted.Formula until.Assign end ws m.0 m.1 in
    let P : List Word → Type 0 = λ t. Formed room end head.Have (x ∷ c ∷ t) s in
    subst P (sym f.whole) (behind-formula room end x c f.front f.rest s some hx hm f.inner f.ends (ap (λ q. have_after end x q.0 q.1) f.«is» ∙ m.2))
have-by room end x c ws s Assign some hx hm h =
    let m = and_then_ok (exact_at end ws) (λ y. Ok (have x None (Some y))) s h in
    let P : Shape → Type 0 = Formed room end head.Have (x ∷ c ∷ ws) in subst P (inj (have x None (Some m.0)) s m.2) (a_have_by x c ws m.0 hx hm (exact_found end ws m.0 m.1), some)
have-by room end x c ws s m some hx hm h = absurd (clash (Expected c.at wanted.ColonOrAssign) s h)

have-of-found : (room end : ℕ) (x : Word) (ws : List Word) (s : Shape) → 0 < room → IsTrue (is_name x) → have_of end x ws ≡ Ok s → Formed room end head.Have (x ∷ ws) s
have-of-found room end x [] s some hx h = absurd (clash (Expected end wanted.ColonOrAssign) s h)
have-of-found room end x (c ∷ ws) s some hx h = have-by room end x c ws s (mark c) some hx refl h

have-found : (room end : ℕ) (ws : List Word) (s : Shape) → 0 < room → and_then (name_at end ws) (λ p. have_of end p.0 p.1) ≡ Ok s → Formed room end head.Have ws s
have-found room end ws s some h =
    let m = and_then_ok (name_at end ws) (λ p. have_of end p.0 p.1) s h in
    let f = name-found end ws m.0 m.1 in
    let P : List Word → Type 0 = λ t. Formed room end head.Have t s in subst P (sym f.whole) (have-of-found room end m.0.0 m.0.1 s some f.name m.2)

revert-found : (room end : ℕ) (ws : List Word) (s : Shape) → 0 < room → and_then (name_at end ws) (λ p. ended (revert p.0) p.1) ≡ Ok s → Formed room end head.Revert ws s
revert-found room end ws s some h =
    let m = and_then_ok (name_at end ws) (λ p. ended (revert p.0) p.1) s h in
    let f = name-found end ws m.0 m.1 in
    let k = ended_ok (revert m.0.0) s m.0.1 m.2 in
    let whole : m.0.0 ∷ [] ≡ ws = sym (f.whole ∙ ap (λ t. m.0.0 ∷ t) k.0) in
    let P : List Word → Type 0 = λ t. Formed room end head.Revert t s in
    let Q : Shape → Type 0 = Formed room end head.Revert (m.0.0 ∷ []) in
    subst P whole (subst Q k.1 (a_revert m.0.0 f.name, some))

only-end : (ws : List Word) → Ends until.End ws → ws ≡ []
only-end [] e = refl
only-end (w ∷ ws) e = let clashes : false ≡ true = e in cc

cases-by : (room end : ℕ) (x c : Word) (ws : List Word) (s : Shape) (m : Mark) → 0 < room → IsTrue (is_name x) → mark c ≡ m → cases_mark end x m c.at ws ≡ Ok s → Formed room end head.ByCases (x ∷ c ∷ ws) s
cases-by room end x c ws s Colon some hx hm h =
    let m = and_then_ok (part_at wanted.Formula until.End end ws) (λ p. Ok (by_cases x p.0)) s h in
    let f = part_found wanted.Formula until.End end ws m.0 m.1 in
    let last = only-end f.rest f.ends in
    let whole : f.front ≡ ws = sym (f.whole ∙ ap (λ t. f.front ++ t) last ∙ append-nil f.front) in
    let same : piece end f.front [] ≡ m.0.0 = ap (piece end f.front) (sym last) ∙ ap (λ q. q.0) f.«is» in
    let P : Shape → Type 0 = Formed room end head.ByCases (x ∷ c ∷ ws) in
    let Q : List Word → Type 0 = λ t. IsForm end head.ByCases (x ∷ c ∷ t) (by_cases x m.0.0) in
    let R : Part → Type 0 = λ p. IsForm end head.ByCases (x ∷ c ∷ f.front) (by_cases x p) in
    subst P (inj (by_cases x m.0.0) s m.2) (subst Q whole (subst R same (a_by_cases x c f.front hx hm f.inner)), some)
cases-by room end x c ws s m some hx hm h = absurd (clash (Expected c.at wanted.Colon) s h)

cases-of-found : (room end : ℕ) (x : Word) (ws : List Word) (s : Shape) → 0 < room → IsTrue (is_name x) → cases_of end x ws ≡ Ok s → Formed room end head.ByCases (x ∷ ws) s
cases-of-found room end x [] s some hx h = absurd (clash (Expected end wanted.Colon) s h)
cases-of-found room end x (c ∷ ws) s some hx h = cases-by room end x c ws s (mark c) some hx refl h

cases-found : (room end : ℕ) (ws : List Word) (s : Shape) → 0 < room → and_then (name_at end ws) (λ p. cases_of end p.0 p.1) ≡ Ok s → Formed room end head.ByCases ws s
cases-found room end ws s some h =
    let m = and_then_ok (name_at end ws) (λ p. cases_of end p.0 p.1) s h in
    let f = name-found end ws m.0 m.1 in
    let P : List Word → Type 0 = λ t. Formed room end head.ByCases t s in subst P (sym f.whole) (cases-of-found room end m.0.0 m.0.1 s some f.name m.2)

unknown-found : (room end : ℕ) (ws : List Word) (s : Shape) → 0 < room → unless_fault (deep_fault 0 ws) unknown ≡ Ok s → Formed room end head.Unknown ws s
unknown-found room end ws s some h =
    let k = unless-ok (deep_fault 0 ws) unknown s h in
    let P : Shape → Type 0 = Formed room end head.Unknown ws in subst P k.1 (an_unknown ws (shallow_found ws k.0), some)

form-found : (h : Head) (room end : ℕ) (ws : List Word) (s : Shape) → 0 < room → shape_at h room end ws ≡ Ok s → Formed room end h ws s
form-found head.Plain room end ws s some e = plain-found room end ws s some e
form-found head.Exact room end ws s some e = exact-found room end ws s some e
form-found head.Intro room end ws s some e = intro-found room end ws s e
form-found head.Apply room end ws s some e = apply-found room end ws s some e
form-found head.Rw room end ws s some e = rewrite-found room end ws s e
form-found head.Split room end ws s some e = split-found room end ws s some e
form-found head.Use room end ws s some e = use-found room end ws s e
form-found head.Symm room end ws s some e = symm-found room end ws s some e
form-found head.Have room end ws s some e = have-found room end ws s some e
form-found head.Revert room end ws s some e = revert-found room end ws s some e
form-found head.ByCases room end ws s some e = cases-found room end ws s some e
form-found head.Unknown room end ws s some e = unknown-found room end ws s some e

-- ---- moves

abbrev made : Word → Shape → Step
made w s = record { at = w.at; head = w.text; shape = s }

pub move_read : (room end : ℕ) (w : Word) (ws : List Word) (m : Step) → IsMove room end w ws m → move_at room end w ws ≡ Ok m
move_read room end w ws m i =
    let at : w.at ≡ m.at = sym i.at in
    let word : w.text ≡ m.head = sym i.word in
    ap (λ b. if b then Err (TooMany w.at) else and_then (shape_at (head_of w.text) room end ws) (λ s. Ok (made w s))) (differ room 0 (omega (arith, i.steps, form-some i.form)))
    ∙ ap (λ r. and_then r (λ s. Ok (made w s))) (form-read room i.form i.steps)
    ∙ ap (λ a. Ok (let x : Step = record { at = a; head = w.text; shape = m.shape } in x)) at
    ∙ ap (λ t. Ok (let x : Step = record { at = m.at; head = t; shape = m.shape } in x)) word

some-room : (room : ℕ) → (room == 0) ≡ false → 0 < room
some-room zero h = let clashes : true ≡ false = h in cc
some-room (suc room) h = omega arith

pub move_found : (room end : ℕ) (w : Word) (ws : List Word) (m : Step) → move_at room end w ws ≡ Ok m → IsMove room end w ws m
move_found room end w ws m h =
    elim (room == 0) as (λ b. (room == 0) ≡ b → (if b then Err (TooMany w.at) else and_then (shape_at (head_of w.text) room end ws) (λ s. Ok (made w s))) ≡ Ok m → IsMove room end w ws m) [
      | true ↦ λ e g. absurd (clash (TooMany w.at) m g)
      | false ↦ λ e g.
          let k = and_then_ok (shape_at (head_of w.text) room end ws) (λ s. Ok (made w s)) m g in
          let f = form-found (head_of w.text) room end ws k.0 (some-room room e) k.1 in
          let P : Step → Type 0 = IsMove room end w ws in
          subst P (inj (made w k.0) m k.2) (record { at = refl; word = refl; form = f.0; steps = f.1 })
    ] refl h
