-- The reader finds the first fault of a text.
use Rattle.std.proofs.Common.{◌≡◌, ◌∙◌, ℕ, ◌<◌, ◌≤◌, true, false, List, [], ◌∷◌, ◌++◌, refl, ap, arith, Option, Some, None, nat_lt, if◌then◌else◌, ◌+◌}
use Rattle.pg_base.specs.declared.token.LexFault.{LexFault}
use Rattle.pg_base.specs.Spans.{AreTokens}
use Rattle.pg_base.specs.Tokens.{Word}
use Rattle.pg_logic.specs.Tree.{Fm, all, imp, closed_over_formula}
use Rattle.pg_terms.specs.View.{formula}
use Rattle.pg_script.specs.Scripts.{lex_place}
use Rattle.pg_syntax.specs.declared.statement.Binder.TheVariants.{Var, Hyp}
use Rattle.pg_gametext.specs.Commands.{standing}
use Rattle.pg_gametext.specs.Faults.{Fault, fault, BadToken, comes_before, earlier, least}
use Rattle.pg_gametext.specs.Placed.{commands}
use Rattle.pg_gametext.specs.Game.{faults_behind, token_faults, end_of}
use Rattle.pg_gametext.specs.Laws.{first_behind, ReaderLaw, unless_before, TextLaw, ClosedLaw}
use Rattle.pg_gametext.proofs.Join.{less_of, not_less, rank_below, laid-law}
use Rattle.pg_gametext.proofs.Laid.{laid}

pub reader-law : ReaderLaw
reader-law end ws t = laid-law end [] (commands end (standing ws)) (laid end ws t)

-- a fault of a token is the first of its place
with_token : (e : LexFault) (o : Option Fault) → (let r : Option Fault = Some (earlier (fault (lex_place e) BadToken) o) in r) ≡ unless_before (Some e) o
with_token e None = refl
with_token e (Some f) =
    let b = fault (lex_place e) BadToken in
    elim (nat_lt f.at (lex_place e)) as (λ c. nat_lt f.at (lex_place e) ≡ c → (let r : Option Fault = Some (if comes_before f b then f else b) in r) ≡ (if c then Some f else Some b)) [
      | true ↦ λ is. ap (λ c. let r : Option Fault = Some (if c then f else b) in r) (before (less_of f.at (lex_place e) is))
      | false ↦ λ is. ap (λ c. let r : Option Fault = Some (if c then f else b) in r) (behind (not_less f.at (lex_place e) is))
    ] refl
  where
    before : f.at < lex_place e → comes_before f (fault (lex_place e) BadToken) ≡ true
    before l = let low = rank_below f.kind in grind (arith, l, low)

    behind : lex_place e ≤ f.at → comes_before f (fault (lex_place e) BadToken) ≡ false
    behind l = grind (arith, l)

-- with or without such a fault
with_fault : (size : ℕ) (o : Option LexFault) (ws : List Word) → AreTokens (end_of size o) ws →
    least (token_faults o ++ faults_behind (end_of size o) [] (commands (end_of size o) (standing ws))) ≡ unless_before o (first_behind (end_of size o) [] (commands (end_of size o) (standing ws)))
with_fault size None ws t = reader-law size ws t
with_fault size (Some e) ws t = with_token e (least (faults_behind (lex_place e) [] (commands (lex_place e) (standing ws)))) ∙ ap (unless_before (Some e)) (reader-law (lex_place e) ws t)

pub text-law : TextLaw
text-law size tokens t = with_fault size tokens.fault tokens.words t

pub closed-law : ClosedLaw
closed-law n [] target = refl
closed-law n (Var x ∷ bs) target = ap (λ (a : Fm). all x (closed_over_formula n a)) (closed-law (n + 1) bs target)
closed-law n (Hyp h a ∷ bs) target = ap (imp (formula a)) (closed-law n bs target)
