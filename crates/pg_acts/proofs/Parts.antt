-- The names of what a hypothesis is taken apart to.
use Rattle.std.proofs.Common.{◌≡◌, subst, ◌≢◌, ℕ, zero, suc, ◌+◌, List, [], ◌∷◌, length, drop, Some, None, refl, arith, ap, sym, ◌∙◌}
use Rattle.pg_moves.specs.Frames.{Frame}
use Rattle.pg_reduction.specs.declared.cause.ActFault.{ActFault}
use Rattle.pg_reduction.specs.declared.cause.ActFault.TheVariants.{Stop, OutOfMemory}
use Rattle.pg_reduction.specs.View.{itself}
use Rattle.pg_reduction.specs.declared.reduction.Reduction.{Reduction}
use Rattle.pg_reduction.specs.Doing.{Makes, Yields}
use Rattle.pg_acts.specs.Named.{second_part}
use Rattle.std.specs.Prelude.{Result, Ok, Err, IsErr, IsErrAnd, All, slice_get, slice_index_or}
use Rattle.pg_base.specs.Tokens.{Word, word}
use Rattle.pg_base.specs.declared.token.Token.{Token}
use Rattle.pg_script.specs.View.{words}
use Rattle.pg_logic.specs.Tree.{free, Fm, opened_formula}
use Rattle.pg_logic.specs.Declarations.{Name}
use Rattle.pg_moves.specs.Goals.{Goal, live_names, with_var, with_hyp}
use Rattle.pg_moves.specs.Causes.{WrongArgument, and_then}
use Rattle.pg_moves.specs.Lookup.{Lookup, new_name}
use Rattle.std.proofs.lemmas.List.{length-map}
use Rattle.pg_moves.specs.Assuming.{at_most, both_parts, either_part, some_part}

-- no more names than wanted
pub few : (n : ℕ) (ts : List Token) → None ≡ slice_get ts n → at_most n (words ts) ≡ Ok (words ts)
few n [] e = refl
few zero (t ∷ ts) e = absurd (cc)
few (suc n) (t ∷ ts) e = ap (λ r. and_then r (λ vs. Ok (word t ∷ vs))) (few n ts e)

-- the first one too many
pub many : (n : ℕ) (ts : List Token) (t : Token) → Some t ≡ slice_get ts n → at_most n (words ts) ≡ Err (WrongArgument t.at)
many n [] t e = absurd (cc)
many zero (u ∷ ts) t e = let q : t ≡ u = cc in ap (λ (t : Token). Err (WrongArgument t.at)) (sym q)
many (suc n) (u ∷ ts) t e = ap (λ r. and_then r (λ vs. Ok (word u ∷ vs))) (many n ts t e)

-- the other names
pub words-rest : (ts us : List Token) → us ≡ drop 1 ts → words us ≡ drop 1 (words ts)
words-rest [] us e = ap words e
words-rest (t ∷ ts) us e = ap words e

pub rest-texts : (ts us : List Token) → us ≡ drop 1 ts → All (λ (t : Token). t.text.now ≢ []) ts → All (λ (t : Token). t.text.now ≢ []) us
rest-texts [] us e h = λ k d lt. absurd (omega (arith, ap length e))
rest-texts (t ∷ ts) us e h = λ k d lt q. h (k + 1) d (omega (arith, ap length e)) (ap (λ (t : Token). t.text.now) (at-rest k d) ∙ q)
  where
    at-rest : (k : ℕ) (d : Token) → slice_index_or (t ∷ ts) (k + 1) d ≡ slice_index_or us k d
    at-rest k d = let s : k + 1 ≡ suc k = omega arith in ap (λ i. slice_index_or (t ∷ ts) i d) s ∙ ap (λ l. slice_index_or l k d) (sym e)

-- the first hypothesis, and then the second one
pub both-second : (l : Lookup) (g g1 : Goal) (h : Name) (ws : List Word) (a b : Fm) (x : Name) (fs : List Frame) (r : Result Reduction ActFault) → new_name l (live_names g) ws h ≡ Ok x → g1 ≡ with_hyp x a g →
    Makes (second_part l g1 h ws b) fs r → Makes (both_parts l g h ws a b) fs r
both-second l g g1 h ws a b x fs r ex eg m =
    subst (λ want. Makes want fs r)
    (ap (λ q. second_part l q h ws b) eg ∙ sym (ap (λ r. and_then r (λ x. second_part l (with_hyp x a g) h ws b)) ex)) m

pub second-made : (l : Lookup) (g : Goal) (h : Name) (ts us : List Token) (b : Fm) (y : Name) → us ≡ drop 1 ts → new_name l (live_names g) (words us) h ≡ Ok y → second_part l g h (words ts) b ≡ Ok (with_hyp y b g ∷ [])
second-made l g h ts us b y eu ey =
    ap (λ vs. and_then (new_name l (live_names g) vs h) (λ y. Ok (with_hyp y b g ∷ []))) (sym (words-rest ts us eu)) ∙ ap (λ r. and_then r (λ y. Ok (with_hyp y b g ∷ []))) ey

pub either-made : (l : Lookup) (g : Goal) (h : Name) (ts us : List Token) (a b : Fm) (x y : Name) → new_name l (live_names g) (words ts) h ≡ Ok x → us ≡ drop 1 ts →
    new_name l (live_names g) (words us) h ≡ Ok y → either_part l g h (words ts) a b ≡ Ok (with_hyp x a g ∷ with_hyp y b g ∷ [])
either-made l g h ts us a b x y ex eu ey =
    ap (λ r. and_then r (λ x. and_then (new_name l (live_names g) (drop 1 (words ts)) h) (λ y. Ok (with_hyp x a g ∷ with_hyp y b g ∷ [])))) ex
    ∙ ap (λ vs. and_then (new_name l (live_names g) vs h) (λ y. Ok (with_hyp x a g ∷ with_hyp y b g ∷ []))) (sym (words-rest ts us eu))
    ∙ ap (λ r. and_then r (λ y. Ok (with_hyp x a g ∷ with_hyp y b g ∷ []))) ey

pub some-made : (l : Lookup) (g g1 : Goal) (h z : Name) (ts us : List Token) (a : Fm) (x y : Name) (n : ℕ) → new_name l (live_names g) (words ts) z ≡ Ok x → g1 ≡ with_var x g → us ≡ drop 1 ts → n ≡ length g.vars →
    new_name l (live_names g1) (words us) h ≡ Ok y → some_part l g h (words ts) z a ≡ Ok (with_hyp y (opened_formula (free n) a) g1 ∷ [])
some-made l g g1 h z ts us a x y n ex eg eu en ey =
    let body = opened_formula (free (length g.vars)) a in
    ap (λ r. and_then r (λ x. and_then (new_name l (live_names (with_var x g)) (drop 1 (words ts)) h) (λ y. Ok (with_hyp y body (with_var x g) ∷ [])))) ex
    ∙ ap (λ q. and_then (new_name l (live_names q) (drop 1 (words ts)) h) (λ y. Ok (with_hyp y body q ∷ []))) (sym eg)
    ∙ ap (λ vs. and_then (new_name l (live_names g1) vs h) (λ y. Ok (with_hyp y body g1 ∷ []))) (sym (words-rest ts us eu))
    ∙ ap (λ r. and_then r (λ y. Ok (with_hyp y body g1 ∷ []))) ey
    ∙ ap (λ n. Ok (with_hyp y (opened_formula (free n) a) g1 ∷ [])) (sym en)

-- the name of the hypothesis is refused, behind the variable's
pub some-stops : (l : Lookup) (g g1 : Goal) (h z : Name) (ts us : List Token) (a : Fm) (x : Name) (fs : List Frame) (f : ActFault) (r : Result Reduction ActFault) → new_name l (live_names g) (words ts) z ≡ Ok x →
    g1 ≡ with_var x g → us ≡ drop 1 ts → Yields itself (new_name l (live_names g1) (words us) h) (Err f) → IsErr r × IsErrAnd r (λ e. e ≡ f) → Makes (some_part l g h (words ts) z a) fs r
some-stops l g g1 h z ts us a x fs f (Ok made) ex eg eu y is = cc
some-stops l g g1 h z ts us a x fs f (Err e) ex eg eu y is = subst (λ e. Makes (some_part l g h (words ts) z a) fs (Err e)) (sym is.1) (go f y)
  where
    body : Fm
    body = opened_formula (free (length g.vars)) a

    go : (f : ActFault) → Yields itself (new_name l (live_names g1) (words us) h) (Err f) → Makes (some_part l g h (words ts) z a) fs (Err f)
    go (Stop c) q =
        ap (λ r. and_then r (λ x. and_then (new_name l (live_names (with_var x g)) (drop 1 (words ts)) h) (λ y. Ok (with_hyp y body (with_var x g) ∷ [])))) ex
        ∙ ap (λ q. and_then (new_name l (live_names q) (drop 1 (words ts)) h) (λ y. Ok (with_hyp y body q ∷ []))) (sym eg)
        ∙ ap (λ vs. and_then (new_name l (live_names g1) vs h) (λ y. Ok (with_hyp y body g1 ∷ []))) (sym (words-rest ts us eu))
        ∙ ap (λ r. and_then r (λ y. Ok (with_hyp y body g1 ∷ []))) q
    go OutOfMemory q = tt
