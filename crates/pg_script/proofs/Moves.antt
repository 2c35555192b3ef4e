-- Moves are read by their forms, and what is read has its form.
use Rattle.std.proofs.Common.{◌≡◌, ◌∙◌, ℕ, zero, suc, ◌<◌, ◌≤◌, Bool, true, false, List, [], ◌∷◌, ◌++◌, length, refl, sym, ap, subst, arith, append_assoc, append-nil, Option, Some, None, Ok, Err, if◌then◌else◌, IsTrue}
use Rattle.pg_base.specs.declared.token.Wanted.TheVariants as wanted
use Rattle.pg_base.specs.Tokens.{Word}
use Rattle.pg_script.specs.declared.fault.ScriptFault.{ScriptFault}
use Rattle.pg_script.specs.declared.fault.ScriptFault.TheVariants.{Expected, TooMany}
use Rattle.pg_script.specs.declared.mark.Mark.{Mark}
use Rattle.pg_script.specs.declared.mark.Mark.TheVariants.{Open, Free, CloseBracket, Comma, Assign, LeftArrow, At as AtWord}
use Rattle.pg_script.specs.declared.span.Until.TheVariants as until
use Rattle.pg_script.specs.Data.{Part, Expression, Rule}
use Rattle.pg_script.specs.Marks.{mark, is_name}
use Rattle.pg_script.specs.Lines.{Read, and_then, unless_fault, with_first, before, stops, part_at, expr_at, ended, name_at, names_fault, steps_fault, place_at, rule_at, no_rule, rule_end, rules_at, no_term, terms_after, terms_at}
use Rattle.pg_script.specs.Forms.{IsPiece, piece, IsExpression, applied, enclosed, AreNames, IsPlace, nowhere, at_name, IsRule, forwards, backwards, AreRules, last_rule, more_rules, AreTerms, last_term, more_terms}
use Rattle.pg_script.proofs.Found.{clash, and_then_ok, inj}
use Rattle.pg_script.proofs.Pieces.{other_way, Ends, part_read, part_found}
use Rattle.pg_script.proofs.Shallow.{some_none}
use Rattle.pg_script.proofs.Phrases.{BeginsNone, none_begins, expr_read, expr_found, ended_ok}

pub unless-ok : {V : Type 0} (f : Option ScriptFault) (x y : V) → unless_fault f x ≡ Ok y → (f ≡ None) × (x ≡ y)
unless-ok None x y h = (refl, inj x y h)
unless-ok (Some e) x y h = absurd (clash e y h)

-- ---- names

pub names-read : (ws : List Word) → AreNames ws → names_fault ws ≡ None
names-read [] h = refl
names-read (w ∷ ws) h = ap (λ b. if b then names_fault ws else Some (Expected w.at wanted.Name)) h.0 ∙ names-read ws h.1

pub names-found : (ws : List Word) → names_fault ws ≡ None → AreNames ws
names-found [] h = tt
names-found (w ∷ ws) h =
    elim (is_name w) as (λ b. is_name w ≡ b → (if b then names_fault ws else Some (Expected w.at wanted.Name)) ≡ None → AreNames (w ∷ ws)) [
      | true ↦ λ e g. (e, names-found ws g)
      | false ↦ λ e g. some_none (Expected w.at wanted.Name) g
    ] refl h

pub steps-read : (room : ℕ) (ws : List Word) → AreNames ws → length ws ≤ room → steps_fault room ws ≡ None
steps-read room [] h le = refl
steps-read zero (w ∷ ws) h le = absurd (omega (arith, le))
steps-read (suc room) (w ∷ ws) h le = ap (λ b. if b then steps_fault room ws else Some (Expected w.at wanted.Name)) h.0 ∙ steps-read room ws h.1 (omega (arith, le))

pub steps-found : (room : ℕ) (ws : List Word) → steps_fault room ws ≡ None → AreNames ws × (length ws ≤ room)
steps-found room [] h = (tt, omega arith)
steps-found zero (w ∷ ws) h =
    elim (is_name w) as (λ b. (if b then Some (TooMany w.at) else Some (Expected w.at wanted.Name)) ≡ None → AreNames (w ∷ ws) × (length (w ∷ ws) ≤ 0)) [
      | true ↦ λ g. some_none (TooMany w.at) g
      | false ↦ λ g. some_none (Expected w.at wanted.Name) g
    ] h
steps-found (suc room) (w ∷ ws) h =
    elim (is_name w) as (λ b. is_name w ≡ b → (if b then steps_fault room ws else Some (Expected w.at wanted.Name)) ≡ None → AreNames (w ∷ ws) × (length (w ∷ ws) ≤ suc room)) [
      | true ↦ λ e g. let f = steps-found room ws g in ((e, f.0), omega (arith, f.1))
      | false ↦ λ e g. some_none (Expected w.at wanted.Name) g
    ] refl h

pub name-read : (end : ℕ) (w : Word) (ws : List Word) → IsTrue (is_name w) → name_at end (w ∷ ws) ≡ Ok (w, ws)
name-read end w ws h = ap (λ b. if b then Ok (w, ws) else Err (Expected w.at wanted.Name)) h

pub record NameFound (ws : List Word) (p : Word × List Word) : Type 0 where
  pub name : IsTrue (is_name p.0)
  pub whole : ws ≡ p.0 ∷ p.1

pub name-found : (end : ℕ) (ws : List Word) (p : Word × List Word) → name_at end ws ≡ Ok p → NameFound ws p
name-found end [] p h = absurd (clash (Expected end wanted.Name) p h)
name-found end (w ∷ ws) p h =
    elim (is_name w) as (λ b. is_name w ≡ b → (if b then Ok (w, ws) else Err (Expected w.at wanted.Name)) ≡ Ok p → NameFound (w ∷ ws) p) [
      | true ↦ λ e g. let P : Word × List Word → Type 0 = NameFound (w ∷ ws) in subst P (inj (w, ws) p g) (record { name = e; whole = refl })
      | false ↦ λ e g. absurd (clash (Expected w.at wanted.Name) p g)
    ] refl h

-- ---- places

abbrev place_mark : ℕ → Mark → (at : ℕ) → List Word → Read (Option Word)
place_mark end m at ws = elim m [
  | AtWord ↦ and_then (name_at end ws) (λ p. ended (Some p.0) p.1)
  | _ ↦ Err (Expected at wanted.AtOrEnd)
]

pub place-read : {ws : List Word} {h : Option Word} (end : ℕ) → IsPlace ws h → place_at end ws ≡ Ok h
place-read end nowhere = refl
place-read end (at_name a x ha hx) =
    ap (λ m. place_mark end m a.at (x ∷ [])) ha ∙ ap (λ r. and_then r (λ p. ended (let o : Option Word = Some p.0 in o) p.1)) (name-read end x [] hx)

pub place-begins : {ws : List Word} {h : Option Word} → IsPlace ws h → BeginsNone ws
place-begins nowhere = tt
place-begins (at_name a x ha hx) = none_begins a (x ∷ []) AtWord ha refl

place-by : (end : ℕ) (w : Word) (ws : List Word) (h : Option Word) (m : Mark) → mark w ≡ m → place_mark end m w.at ws ≡ Ok h → IsPlace (w ∷ ws) h
place-by end w ws h AtWord hm e =
    let n = and_then_ok (name_at end ws) (λ p. ended (let o : Option Word = Some p.0 in o) p.1) h e in
    let f = name-found end ws n.0 n.1 in
    let k = ended_ok (Some n.0.0) h n.0.1 n.2 in
    let whole : n.0.0 ∷ [] ≡ ws = sym (f.whole ∙ ap (λ t. n.0.0 ∷ t) k.0) in
    let P : List Word → Type 0 = λ t. IsPlace (w ∷ t) h in
    let Q : Option Word → Type 0 = λ o. IsPlace (w ∷ n.0.0 ∷ []) o in
    subst P whole (subst Q k.1 (at_name w n.0.0 hm f.name))
place-by end w ws h m hm e = absurd (clash (Expected w.at wanted.AtOrEnd) h e)

pub place-found : (end : ℕ) (ws : List Word) (h : Option Word) → place_at end ws ≡ Ok h → IsPlace ws h
place-found end [] h e = let P : Option Word → Type 0 = IsPlace [] in subst P (inj None h e) nowhere
place-found end (w ∷ ws) h e = place-by end w ws h (mark w) refl e

-- ---- rules

abbrev rule_mark : ℕ → Mark → Word → List Word → Read (Rule × List Word)
rule_mark end m w ws = elim m [
  | LeftArrow ↦ and_then (expr_at end 0 ws) (λ p. Ok (record { back = true; expr = p.0 }, p.1))
  | Free ↦ and_then (expr_at end 0 (w ∷ ws)) (λ p. Ok (record { back = false; expr = p.0 }, p.1))
  | Open ↦ and_then (expr_at end 0 (w ∷ ws)) (λ p. Ok (record { back = false; expr = p.0 }, p.1))
  | _ ↦ Err (Expected w.at wanted.Rule)
]

forward-read : {end depth : ℕ} {ws next : List Word} {e : Expression} → IsExpression end depth ws next e → (rest : List Word) → rule_at end (ws ++ rest) ≡ and_then (expr_at end 0 (ws ++ rest)) (λ p. Ok ((let r : Rule = record { back = false; expr = p.0 } in r), p.1))
forward-read {end = end} (applied depth w ws next args h a) rest = ap (λ m. rule_mark end m w (ws ++ rest)) h
forward-read {end = end} (enclosed depth o c ws next e ho hc lt i) rest = ap (λ m. rule_mark end m o ((ws ++ c ∷ []) ++ rest)) ho

rule-read : {end : ℕ} {ws next : List Word} {r : Rule} → IsRule end ws next r → BeginsNone next → rule_at end (ws ++ next) ≡ Ok (r, next)
rule-read (forwards ws next e i) b = forward-read i next ∙ ap (λ r. and_then r (λ p. Ok ((let r : Rule = record { back = false; expr = p.0 } in r), p.1))) (expr_read i b)
rule-read {end = end} (backwards a ws next e ha i) b =
    ap (λ m. rule_mark end m a (ws ++ next)) ha ∙ ap (λ r. and_then r (λ p. Ok ((let r : Rule = record { back = true; expr = p.0 } in r), p.1))) (expr_read i b)

abbrev RuleIn : (end : ℕ) → List Word → Rule × List Word → Type 0
RuleIn end ws p = (front : List Word) × (ws ≡ front ++ p.1) × IsRule end front p.1 p.0

forward-found : (end : ℕ) (ws : List Word) (p : Rule × List Word) → and_then (expr_at end 0 ws) (λ q. Ok ((let r : Rule = record { back = false; expr = q.0 } in r), q.1)) ≡ Ok p → RuleIn end ws p
forward-found end ws p h =
    let m = and_then_ok (expr_at end 0 ws) (λ q. Ok ((let r : Rule = record { back = false; expr = q.0 } in r), q.1)) p h in
    let i = expr_found end 0 ws m.0 m.1 in
    let P : Rule × List Word → Type 0 = RuleIn end ws in
    subst P (inj ((let r : Rule = record { back = false; expr = m.0.0 } in r), m.0.1) p m.2) (i.0, i.1, forwards i.0 m.0.1 m.0.0 i.2)

rule-by : (end : ℕ) (w : Word) (ws : List Word) (p : Rule × List Word) (m : Mark) → mark w ≡ m → rule_mark end m w ws ≡ Ok p → RuleIn end (w ∷ ws) p
rule-by end w ws p LeftArrow hm h =
    let m = and_then_ok (expr_at end 0 ws) (λ q. Ok ((let r : Rule = record { back = true; expr = q.0 } in r), q.1)) p h in
    let i = expr_found end 0 ws m.0 m.1 in
    let P : Rule × List Word → Type 0 = RuleIn end (w ∷ ws) in
    subst P (inj ((let r : Rule = record { back = true; expr = m.0.0 } in r), m.0.1) p m.2) (w ∷ i.0, ap (λ t. w ∷ t) i.1, backwards w i.0 m.0.1 m.0.0 hm i.2)
rule-by end w ws p Free hm h = forward-found end (w ∷ ws) p h
rule-by end w ws p Open hm h = forward-found end (w ∷ ws) p h
rule-by end w ws p m hm h = absurd (clash (Expected w.at wanted.Rule) p h)

rule-found : (end : ℕ) (ws : List Word) (p : Rule × List Word) → rule_at end ws ≡ Ok p → RuleIn end ws p
rule-found end [] p h = absurd (clash (Expected end wanted.Rule) p h)
rule-found end (w ∷ ws) p h = rule-by end w ws p (mark w) refl h

abbrev end_mark : Mark → (at : ℕ) → List Word → Read (Bool × List Word)
end_mark m at ws = elim m [
  | Comma ↦ Ok (true, ws)
  | CloseBracket ↦ Ok (false, ws)
  | _ ↦ Err (Expected at wanted.CommaOrBracket)
]

abbrev rules_behind : (room end : ℕ) → Rule → Bool × List Word → Read (List Rule × List Word)
rules_behind room end r q = if q.0 then with_first r (rules_at room end q.1) else Ok (r ∷ [], q.1)

abbrev rules_after : (room end : ℕ) → Rule × List Word → Read (List Rule × List Word)
rules_after room end p = and_then (rule_end end p.1) (λ q. rules_behind room end p.0 q)

pub rules-read : {end : ℕ} {ws next : List Word} {rs : List Rule} (room : ℕ) → AreRules end ws next rs → length rs ≤ room → rules_at room end (ws ++ next) ≡ Ok (rs, next)
rules-read zero (last_rule ws next b r i hb) le = absurd (omega (arith, le))
rules-read zero (more_rules ws vs next c r rs i hc k) le = absurd (omega (arith, le))
rules-read {end = end} (suc room) (last_rule ws next b r i hb) le =
    ap (rules_at (suc room) end) (append_assoc ws (b ∷ []) next)
    ∙ ap (λ x. and_then x (rules_after room end)) (rule-read i (none_begins b next CloseBracket hb refl))
    ∙ ap (λ m. and_then (end_mark m b.at next) (rules_behind room end r)) hb
rules-read {end = end} (suc room) (more_rules ws vs next c r rs i hc k) le =
    ap (rules_at (suc room) end) (append_assoc ws (c ∷ vs) next)
    ∙ ap (λ x. and_then x (rules_after room end)) (rule-read i (none_begins c (vs ++ next) Comma hc refl))
    ∙ ap (λ m. and_then (end_mark m c.at (vs ++ next)) (rules_behind room end r)) hc
    ∙ ap (with_first r) (rules-read room k (omega (arith, le)))

pub rules-some : {end : ℕ} {ws next : List Word} {rs : List Rule} → AreRules end ws next rs → 0 < length rs
rules-some (last_rule ws next b r i hb) = omega arith
rules-some (more_rules ws vs next c r rs i hc k) = omega arith

pub record RulesIn (room end : ℕ) (ws : List Word) (p : List Rule × List Word) : Type 0 where
  pub front : List Word
  pub whole : ws ≡ front ++ p.1
  pub rules_are : AreRules end front p.1 p.0
  pub few : length p.0 ≤ room

-- what ends a rule
abbrev RuleEnd : Word → Bool → Type 0
RuleEnd c true = mark c ≡ Comma
RuleEnd c false = mark c ≡ CloseBracket

end-by : (c : Word) (cs : List Word) (q : Bool × List Word) (m : Mark) → mark c ≡ m → end_mark m c.at cs ≡ Ok q → RuleEnd c q.0 × (cs ≡ q.1)
end-by c cs q Comma hm h = let P : Bool × List Word → Type 0 = λ x. RuleEnd c x.0 × (cs ≡ x.1) in subst P (inj (true, cs) q h) (hm, refl)
end-by c cs q CloseBracket hm h = let P : Bool × List Word → Type 0 = λ x. RuleEnd c x.0 × (cs ≡ x.1) in subst P (inj (false, cs) q h) (hm, refl)
end-by c cs q m hm h = absurd (clash (Expected c.at wanted.CommaOrBracket) q h)

record EndFound (xs : List Word) (q : Bool × List Word) : Type 0 where
  sign : Word
  ends_so : RuleEnd sign q.0
  whole : xs ≡ sign ∷ q.1

end-found : (end : ℕ) (xs : List Word) (q : Bool × List Word) → rule_end end xs ≡ Ok q → EndFound xs q
end-found end [] q h = absurd (clash (Expected end wanted.CommaOrBracket) q h)
end-found end (c ∷ cs) q h = let e = end-by c cs q (mark c) refl h in record { sign = c; ends_so = e.0; whole = ap (λ t. c ∷ t) e.1 }

first-ok : {V : Type 0} (x : V) (r : Read (List V × List Word)) (p : List V × List Word) → with_first x r ≡ Ok p → (q : List V × List Word) × (r ≡ Ok q) × ((x ∷ q.0, q.1) ≡ p)
first-ok x (Ok q) p h = (q, refl, inj (x ∷ q.0, q.1) p h)
first-ok x (Err e) p h = absurd (clash e p h)

-- the rules behind one, and that one
behind-found : (room end : ℕ) (ws : List Word) (r : Rule) (behind : List Word) (c : Word) (b : Bool) (rest : List Word) (p : List Rule × List Word) → RuleIn end ws (r, behind) → behind ≡ c ∷ rest → RuleEnd c b
    → ((q : List Rule × List Word) → rules_at room end rest ≡ Ok q → RulesIn room end rest q) → rules_behind room end r (b, rest) ≡ Ok p → RulesIn (suc room) end ws p
behind-found room end ws r behind c true rest p i is hc rec h =
    let f = first-ok r (rules_at room end rest) p h in
    let k = rec f.0 f.1 in
    let next : behind ≡ c ∷ k.front ++ f.0.1 = is ∙ ap (λ t. c ∷ t) k.whole in
    let P : List Rule × List Word → Type 0 = RulesIn (suc room) end ws in
    let Q : List Word → Type 0 = λ t. IsRule end i.0 t r in
    subst P f.2 (record {
      front = i.0 ++ c ∷ k.front;
      whole = i.1 ∙ ap (λ t. i.0 ++ t) next ∙ sym (append_assoc i.0 (c ∷ k.front) f.0.1);
      rules_are = more_rules i.0 k.front f.0.1 c r f.0.0 (subst Q next i.2) hc k.rules_are;
      few = omega (arith, k.few);
    })
behind-found room end ws r behind c false rest p i is hc rec h =
    let P : List Rule × List Word → Type 0 = RulesIn (suc room) end ws in
    let Q : List Word → Type 0 = λ t. IsRule end i.0 t r in
    subst P (inj (r ∷ [], rest) p h) (record {
      front = i.0 ++ c ∷ [];
      whole = i.1 ∙ ap (λ t. i.0 ++ t) is ∙ sym (append_assoc i.0 (c ∷ []) rest);
      rules_are = last_rule i.0 rest c r (subst Q is i.2) hc;
      few = omega arith;
    })

pub rules-found : (room end : ℕ) (ws : List Word) (p : List Rule × List Word) → rules_at room end ws ≡ Ok p → RulesIn room end ws p
rules-found zero end ws p h = absurd (clash (no_rule end ws) p h)
rules-found (suc room) end ws p h =
    let m = and_then_ok (rule_at end ws) (rules_after room end) p h in
    let n = and_then_ok (rule_end end m.0.1) (rules_behind room end m.0.0) p m.2 in
    let e = end-found end m.0.1 n.0 n.1 in
    behind-found room end ws m.0.0 m.0.1 e.sign n.0.0 n.0.1 p (rule-found end ws m.0 m.1) e.whole e.ends_so (λ q g. rules-found room end n.0.1 q g) n.2

-- ---- terms

comma-stops : (m : Mark) → IsTrue (stops until.Comma m) → m ≡ Comma
comma-stops Comma h = refl
comma-stops m h = other_way h

pub assign-stops : (m : Mark) → IsTrue (stops until.Assign m) → m ≡ Assign
assign-stops Assign h = refl
assign-stops m h = other_way h

pub terms-read : {end : ℕ} {ws : List Word} {ps : List Part} (room : ℕ) → AreTerms end ws ps → length ps ≤ room → terms_at room end ws ≡ Ok ps
terms-read zero (last_term ws i) le = absurd (omega (arith, le))
terms-read zero (more_terms ws vs c ps i hc k) le = absurd (omega (arith, le))
terms-read {end = end} (suc room) (last_term ws i) le =
    ap (terms_at (suc room) end) (sym (append-nil ws)) ∙ ap (λ r. and_then r (λ p. terms_after p.0 p.1 (λ rest. terms_at room end rest))) (part_read wanted.Term until.Comma end ws [] i refl)
terms-read {end = end} (suc room) (more_terms ws vs c ps i hc k) le =
    ap (λ r. and_then r (λ p. terms_after p.0 p.1 (λ rest. terms_at room end rest))) (part_read wanted.Term until.Comma end ws (c ∷ vs) i (ap (stops until.Comma) hc))
    ∙ ap (before (piece end ws (c ∷ vs))) (terms-read room k (omega (arith, le)))

pub terms-some : {end : ℕ} {ws : List Word} {ps : List Part} → AreTerms end ws ps → 0 < length ps
terms-some (last_term ws i) = omega arith
terms-some (more_terms ws vs c ps i hc k) = omega arith

before-ok : {V : Type 0} (x : V) (r : Read (List V)) (ys : List V) → before x r ≡ Ok ys → (xs : List V) × (r ≡ Ok xs) × (x ∷ xs ≡ ys)
before-ok x (Ok xs) ys h = (xs, refl, inj (x ∷ xs) ys h)
before-ok x (Err e) ys h = absurd (clash e ys h)

after-found : (room end : ℕ) (front rest : List Word) (ps : List Part) → IsPiece until.Comma front → Ends until.Comma rest → ((ws : List Word) (qs : List Part) → terms_at room end ws ≡ Ok qs → AreTerms end ws qs × (length qs ≤ room))
    → terms_after (piece end front rest) rest (λ more. terms_at room end more) ≡ Ok ps → AreTerms end (front ++ rest) ps × (length ps ≤ suc room)
after-found room end front [] ps i e rec h =
    let P : List Part → Type 0 = λ qs. AreTerms end (front ++ []) qs × (length qs ≤ suc room) in
    let Q : List Word → Type 0 = λ t. AreTerms end t (piece end front [] ∷ []) in
    subst P (inj (piece end front [] ∷ []) ps h) (subst Q (sym (append-nil front)) (last_term front i), omega arith)
after-found room end front (c ∷ vs) ps i e rec h =
    let b = before-ok (piece end front (c ∷ vs)) (terms_at room end vs) ps h in
    let k = rec vs b.0 b.1 in
    let P : List Part → Type 0 = λ qs. AreTerms end (front ++ c ∷ vs) qs × (length qs ≤ suc room) in
    subst P b.2 (more_terms front vs c b.0 i (comma-stops (mark c) e) k.0, omega (arith, k.1))

pub terms-found : (room end : ℕ) (ws : List Word) (ps : List Part) → terms_at room end ws ≡ Ok ps → AreTerms end ws ps × (length ps ≤ room)
terms-found zero end ws ps h = absurd (clash (no_term end ws) ps h)
terms-found (suc room) end ws ps h =
    let m = and_then_ok (part_at wanted.Term until.Comma end ws) (λ p. terms_after p.0 p.1 (λ rest. terms_at room end rest)) ps h in
    let f = part_found wanted.Term until.Comma end ws m.0 m.1 in
    let P : List Word → Type 0 = λ t. AreTerms end t ps × (length ps ≤ suc room) in
    subst P (sym f.whole) (after-found room end f.front f.rest ps f.inner f.ends (λ vs qs g. terms-found room end vs qs g)
    (ap (λ q. terms_after q.0 q.1 (λ rest. terms_at room end rest)) f.«is» ∙ m.2))
