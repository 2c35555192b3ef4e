-- Texts of words, and formulas under binders of these names.
use Rattle.std.proofs.Common.{◌≡◌, ℕ, ◌+◌, ◌<◌, ◌≤◌, List, [], ◌∷◌, ◌++◌, length, take, drop, get_or, refl, ap, ◌∙◌, sym, arith, append_assoc, length-append}
use Rattle.std.proofs.lemmas.List.{map-append, drop_more, take-append-le, drop-append-le}
use Rattle.pg_logic.specs.Tree.{Fm}
use Rattle.pg_grammar.specs.Shapes.{Quantifier, Word}
use Rattle.pg_meaning.specs.Meaning.{quantified}
use Rattle.pg_shape.specs.declared.shape.Word.{Word as RustWord}
use Rattle.pg_shape.specs.declared.shape.Bracket.{Bracket as RustBracket}
use Rattle.pg_syntax.specs.Steps.{AreTexts, texts, bound_names}

pub texts-append : (xs ys : List Word) → texts (xs ++ ys) ≡ texts xs ++ texts ys
texts-append xs ys = map-append (λ (x : Word). x.text) xs ys

pub are_texts_left : (xs ys : List Word) → AreTexts (xs ++ ys) → AreTexts xs
are_texts_left [] ys h = tt
are_texts_left (x ∷ xs) ys h = (h.0, are_texts_left xs ys h.1)

pub are_texts_right : (xs ys : List Word) → AreTexts (xs ++ ys) → AreTexts ys
are_texts_right [] ys h = h
are_texts_right (x ∷ xs) ys h = are_texts_right xs ys h.1

pub words_drop : (ws : List RustWord) (i : ℕ) (d : RustWord) → i < length ws → drop i ws ≡ get_or ws i d ∷ drop (i + 1) ws
words_drop ws i d lt = drop_more ws i d lt

pub brackets_drop : (bs : List RustBracket) (i : ℕ) (d : RustBracket) → i < length bs → drop i bs ≡ get_or bs i d ∷ drop (i + 1) bs
brackets_drop bs i d lt = drop_more bs i d lt

pub bound-last : (q : Quantifier) (xs : List (List ℕ)) (x : List ℕ) (a : Fm) → bound_names q (xs ++ x ∷ []) a ≡ bound_names q xs (quantified q x a)
bound-last q [] x a = refl
bound-last q (y ∷ xs) x a = ap (quantified q y) (bound-last q xs x a)

pub ruleset texts_rules = (texts-append, are_texts_left, are_texts_right, append_assoc, words_drop, brackets_drop)

-- one binder is taken off
pub bound_turn : (q : Quantifier) (outer : ℕ) (old new : List (List ℕ)) (x : List ℕ) (a b : Fm) → outer < length old → old ≡ new ++ x ∷ [] → b ≡ quantified q x a
    → (outer ≤ length new) × (take outer new ≡ take outer old) × (bound_names q (drop outer new) b ≡ bound_names q (drop outer old) a)
bound_turn q outer old new x a b lt e is =
    let few : outer ≤ length new = omega (arith, lt, ap length e, length-append new (x ∷ [])) in (
      few,
      sym (ap (take outer) e ∙ take-append-le outer new (x ∷ []) few),
      ap (bound_names q (drop outer new)) is ∙ sym (bound-last q (drop outer new) x a) ∙ sym (ap (λ l. bound_names q l a) (ap (drop outer) e ∙ drop-append-le outer new (x ∷ []) few)),
    )
