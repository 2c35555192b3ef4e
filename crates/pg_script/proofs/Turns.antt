-- The rules of `rw` and the terms of `use` are read one after the other.
use Rattle.std.proofs.Common.{◌≡◌, ◌∙◌, ℕ, suc, ◌+◌, ◌-◌, ◌<◌, Bool, true, false, List, [], ◌∷◌, ◌++◌, map, sym, ap, arith, subst, Result, Ok, Err, if◌then◌else◌}
use Rattle.std.proofs.lemmas.List.{map-append}
use Rattle.std.specs.Result.{IsErr, IsErrAnd}
use Rattle.pg_base.specs.declared.token.Wanted.TheVariants as wanted
use Rattle.pg_base.specs.Tokens.{Word}
use Rattle.pg_script.specs.declared.fault.ScriptFault.{ScriptFault}
use Rattle.pg_script.specs.declared.fault.ScriptFault.TheVariants.{OutOfMemory}
use Rattle.pg_script.specs.View.{Reads}
use Rattle.pg_script.specs.declared.span.Until.TheVariants as until
use Rattle.pg_script.specs.Data.{Part, Rule}
use Rattle.pg_script.specs.Joined.{joined, appended}
use Rattle.pg_script.specs.Lines.{Read, and_then, with_first, part_at, terms_after, terms_at, rule_at, rule_end, rules_at}
use Rattle.pg_script.proofs.Arguments.{joined_first, appended_first}

-- a list with one more at its end, seen as plain data
pub one_more : {A B : Type 0} (f : A → B) (xs ys : List A) (x : A) → ys ≡ xs ++ x ∷ [] → map f ys ≡ map f xs ++ f x ∷ []
one_more f xs ys x e = ap (map f) e ∙ map-append f xs (x ∷ [])

-- an error that is handed on
pub failed : {T V : Type 0} (view : T → V) (read : Read V) (e : ScriptFault) (result : Result T ScriptFault) → IsErr result × IsErrAnd result (λ x. x ≡ e) → ((e ≡ OutOfMemory → ⊥) → read ≡ Err e) → Reads view read result
failed view read e (Ok x) is h = cc
failed view read e (Err x) is h = let P : ScriptFault → Type 0 = λ z. (z ≡ OutOfMemory → ⊥) → read ≡ Err z in subst P (sym is.1) h

pub left : (room turn : ℕ) → turn < room → room - turn ≡ suc (room - (turn + 1))
left room turn lt = omega (arith, lt)

-- ---- terms

after-part : ℕ → ℕ → Read (Part × List Word) → Read (List Part)
after-part room end found = and_then found (λ p. terms_after p.0 p.1 (λ rest. terms_at room end rest))

terms-step : (room turn end : ℕ) (ws : List Word) (found : Read (Part × List Word)) → turn < room → part_at wanted.Term until.Comma end ws ≡ found
    → terms_at (room - turn) end ws ≡ after-part (room - (turn + 1)) end found
unfolding after-part
terms-step room turn end ws found lt is =
    ap (λ n. terms_at n end ws) (left room turn lt) ∙ ap (after-part (room - (turn + 1)) end) is

pub terms_wrong : (room turn end : ℕ) (ws : List Word) (ps : List Part) (e : ScriptFault) (all : Read (List Part)) → appended ps (terms_at (room - turn) end ws) ≡ all
    → turn < room → part_at wanted.Term until.Comma end ws ≡ Err e → all ≡ Err e
unfolding after-part
terms_wrong room turn end ws ps e all inv lt is = sym inv ∙ ap (appended ps) (terms-step room turn end ws (Err e) lt is)

pub terms_last : (room turn end : ℕ) (ws rest : List Word) (ps qs : List Part) (p : Part) (all : Read (List Part)) → appended ps (terms_at (room - turn) end ws) ≡ all
    → turn < room → part_at wanted.Term until.Comma end ws ≡ Ok (p, rest) → rest ≡ [] → qs ≡ ps ++ p ∷ [] → all ≡ Ok qs
unfolding after-part
terms_last room turn end ws rest ps qs p all inv lt is none qs_is =
    sym inv ∙ ap (appended ps) (terms-step room turn end ws (Ok (p, [])) lt (is ∙ ap (λ r. Ok (p, r)) none)) ∙ ap Ok (sym qs_is)

pub terms_more : (room turn end : ℕ) (ws rest behind : List Word) (w : Word) (ps qs : List Part) (p : Part) (all : Read (List Part)) → appended ps (terms_at (room - turn) end ws) ≡ all
    → turn < room → part_at wanted.Term until.Comma end ws ≡ Ok (p, rest) → rest ≡ w ∷ behind → qs ≡ ps ++ p ∷ []
    → appended qs (terms_at (room - (turn + 1)) end behind) ≡ all
unfolding after-part
terms_more room turn end ws rest behind w ps qs p all inv lt is more qs_is =
    ap (λ xs. appended xs (terms_at (room - (turn + 1)) end behind)) qs_is
    ∙ sym (appended_first ps p (terms_at (room - (turn + 1)) end behind))
    ∙ sym (ap (appended ps) (terms-step room turn end ws (Ok (p, w ∷ behind)) lt (is ∙ ap (λ r. Ok (p, r)) more)))
    ∙ inv

-- ---- rules

behind-rule : ℕ → ℕ → Rule → Read (Bool × List Word) → Read (List Rule × List Word)
behind-rule room end r found = and_then found (λ q. if q.0 then with_first r (rules_at room end q.1) else Ok (r ∷ [], q.1))

after-rule : ℕ → ℕ → Read (Rule × List Word) → Read (List Rule × List Word)
unfolding behind-rule
after-rule room end found = and_then found (λ p. behind-rule room end p.0 (rule_end end p.1))

rules-step : (room turn end : ℕ) (ws : List Word) (found : Read (Rule × List Word)) → turn < room → rule_at end ws ≡ found
    → rules_at (room - turn) end ws ≡ after-rule (room - (turn + 1)) end found
unfolding behind-rule after-rule
rules-step room turn end ws found lt is =
    ap (λ n. rules_at n end ws) (left room turn lt) ∙ ap (after-rule (room - (turn + 1)) end) is

rule-step : (room turn end : ℕ) (ws behind : List Word) (r : Rule) (found : Read (Bool × List Word)) → turn < room → rule_at end ws ≡ Ok (r, behind) → rule_end end behind ≡ found
    → rules_at (room - turn) end ws ≡ behind-rule (room - (turn + 1)) end r found
unfolding after-rule
rule-step room turn end ws behind r found lt is then_is =
    rules-step room turn end ws (Ok (r, behind)) lt is ∙ ap (behind-rule (room - (turn + 1)) end r) then_is

pub rules_wrong : (room turn end : ℕ) (ws : List Word) (rs : List Rule) (e : ScriptFault) (all : Read (List Rule × List Word)) → joined rs (rules_at (room - turn) end ws) ≡ all
    → turn < room → rule_at end ws ≡ Err e → all ≡ Err e
unfolding after-rule
rules_wrong room turn end ws rs e all inv lt is = sym inv ∙ ap (joined rs) (rules-step room turn end ws (Err e) lt is)

pub rules_broken : (room turn end : ℕ) (ws behind : List Word) (rs : List Rule) (r : Rule) (e : ScriptFault) (all : Read (List Rule × List Word)) → joined rs (rules_at (room - turn) end ws) ≡ all
    → turn < room → rule_at end ws ≡ Ok (r, behind) → rule_end end behind ≡ Err e → all ≡ Err e
unfolding behind-rule
rules_broken room turn end ws behind rs r e all inv lt is then_is = sym inv ∙ ap (joined rs) (rule-step room turn end ws behind r (Err e) lt is then_is)

pub rules_last : (room turn end : ℕ) (ws behind rest : List Word) (rs qs : List Rule) (r : Rule) (goes_on : Bool) (all : Read (List Rule × List Word)) → joined rs (rules_at (room - turn) end ws) ≡ all
    → turn < room → rule_at end ws ≡ Ok (r, behind) → rule_end end behind ≡ Ok (goes_on, rest) → goes_on ≡ false → qs ≡ rs ++ r ∷ [] → all ≡ Ok (qs, rest)
unfolding behind-rule
rules_last room turn end ws behind rest rs qs r goes_on all inv lt is then_is last qs_is =
    sym inv ∙ ap (joined rs) (rule-step room turn end ws behind r (Ok (false, rest)) lt is (then_is ∙ ap (λ b. Ok (b, rest)) last)) ∙ ap (λ xs. Ok (xs, rest)) (sym qs_is)

pub rules_more : (room turn end : ℕ) (ws behind rest : List Word) (rs qs : List Rule) (r : Rule) (goes_on : Bool) (all : Read (List Rule × List Word)) → joined rs (rules_at (room - turn) end ws) ≡ all
    → turn < room → rule_at end ws ≡ Ok (r, behind) → rule_end end behind ≡ Ok (goes_on, rest) → goes_on ≡ true → qs ≡ rs ++ r ∷ []
    → joined qs (rules_at (room - (turn + 1)) end rest) ≡ all
unfolding behind-rule
rules_more room turn end ws behind rest rs qs r goes_on all inv lt is then_is more qs_is =
    ap (λ xs. joined xs (rules_at (room - (turn + 1)) end rest)) qs_is
    ∙ sym (joined_first rs r (rules_at (room - (turn + 1)) end rest))
    ∙ sym (ap (joined rs) (rule-step room turn end ws behind r (Ok (true, rest)) lt is (then_is ∙ ap (λ b. Ok (b, rest)) more)))
    ∙ inv
