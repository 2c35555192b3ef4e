-- The parts of a move whose tokens have texts of their kinds.
use Rattle.std.proofs.Common.{ℕ, List, [], ◌∷◌, All}
use Rattle.std.proofs.lemmas.List.Elements.{All-from_recursion, All-nil, All-cons}
use Rattle.std.specs.List.{AllByRecursion}
use Rattle.pg_base.specs.Tokens.{Word}
use Rattle.pg_script.specs.declared.head.Head.{Head}
use Rattle.pg_script.specs.Data.{Part, Expression, Rule, Shape}
use Rattle.pg_script.specs.Forms.{piece, AreArguments, no_argument, argument, IsExpression, applied, enclosed, IsRule, forwards, backwards, AreRules, last_rule, more_rules, AreTerms, last_term, more_terms, IsForm, a_plain, an_exact, an_intro, an_apply, a_rewrite, a_split, a_split_with, a_use, a_symm, a_have, a_have_by, a_have_of, a_revert, a_by_cases, an_unknown}
use Rattle.pg_runs.specs.Written.{IsNamed, HasTexts, HaveTexts, IsShapely}
use Rattle.pg_runs.proofs.Texts.{IsText, Texts, front, behind, all, name-some, names-some}

-- the tokens of a part
abbrev InPart : Part → Type 0
InPart p = All IsText p.tokens

abbrev InRule : Rule → Type 0
InRule r = HaveTexts r.expr

in-piece : (end : ℕ) (ws next : List Word) → Texts ws → HasTexts (piece end ws next)
in-piece end ws next t = All-cons InPart (piece end ws next) [] (all ws t) (All-nil InPart)

in-arguments : {end depth : ℕ} {ws next : List Word} {ps : List Part} → AreArguments end depth ws next ps → Texts ws → AllByRecursion InPart ps
in-arguments (no_argument next) t = tt
in-arguments (argument ws vs next ps i a) t = (all ws (front ws vs t), in-arguments a (behind ws vs t))

in-expression : {end depth : ℕ} {ws next : List Word} {e : Expression} → IsExpression end depth ws next e → Texts ws → HaveTexts e
in-expression (applied depth w ws next args m a) t = All-from_recursion InPart args (in-arguments a t.1)
in-expression (enclosed depth o c ws next e ho hc lt i) t = in-expression i (front ws (c ∷ []) t.1)

in-rule : {end : ℕ} {ws next : List Word} {r : Rule} → IsRule end ws next r → Texts ws → InRule r
in-rule (forwards ws next e i) t = in-expression i t
in-rule (backwards a ws next e m i) t = in-expression i t.1

in-rules : {end : ℕ} {ws next : List Word} {rs : List Rule} → AreRules end ws next rs → Texts ws → AllByRecursion InRule rs
in-rules (last_rule ws next b r i m) t = (in-rule i (front ws (b ∷ []) t), tt)
in-rules (more_rules ws vs next c r rs i m a) t = (in-rule i (front ws (c ∷ vs) t), in-rules a (behind ws (c ∷ vs) t).1)

in-terms : {end : ℕ} {ws : List Word} {ps : List Part} → AreTerms end ws ps → Texts ws → AllByRecursion InPart ps
in-terms (last_term ws p) t = (all ws t, tt)
in-terms (more_terms ws vs c ps p m a) t = (all ws (front ws (c ∷ vs) t), in-terms a (behind ws (c ∷ vs) t).1)

-- what stands behind a move's word
pub shapely : {end : ℕ} {h : Head} {ws : List Word} {s : Shape} → IsForm end h ws s → Texts ws → IsShapely s
shapely a_plain t = tt
shapely (an_exact ws e i) t = in-expression i t
shapely (an_intro w ws n) t = All-from_recursion IsNamed (w ∷ ws) (names-some (w ∷ ws) n t)
shapely (an_apply ws vs e h i p) t = in-expression i (front ws vs t)
shapely (a_rewrite b ws vs rs h m r p) t = All-from_recursion InRule rs (in-rules r (front ws vs t.1))
shapely (a_split x n) t = All-nil IsNamed
shapely (a_split_with x w ws n m ns) t = All-from_recursion IsNamed ws (names-some ws ns t.1.1)
shapely (a_use ws ps a) t = All-from_recursion InPart ps (in-terms a t)
shapely (a_symm ws h p) t = tt
shapely {end = end} (a_have h c ws n m p) t = (name-some h.kind h.text n t.0, in-piece end ws [] t.1.1, tt)
shapely (a_have_by h a ws e n m i) t = (name-some h.kind h.text n t.0, tt, in-expression i t.1.1)
shapely {end = end} (a_have_of h c a ws vs e n m p ma i) t =
    (name-some h.kind h.text n t.0, in-piece end ws (a ∷ vs) (front ws (a ∷ vs) t.1.1), in-expression i (behind ws (a ∷ vs) t.1.1).1)
shapely (a_revert x n) t = name-some x.kind x.text n t.0
shapely {end = end} (a_by_cases h c ws n m p) t = (name-some h.kind h.text n t.0, in-piece end ws [] t.1.1)
shapely (an_unknown ws s) t = tt
