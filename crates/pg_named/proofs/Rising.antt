-- Parts of tokens that stand one behind the other do so too.
use Rattle.std.proofs.Common.{◌≡◌, ℕ, zero, suc, ◌<◌, Bool, true, false, ◌||◌, ◌&&◌, List, [], ◌∷◌, ◌++◌, length, take, drop, Option, None, Some, if◌then◌else◌, refl, sym, subst, arith, inl, inr, ◌⊎◌}
use Rattle.std.specs.Prelude.{◌==◌, nat_lt, All}
use Rattle.std.proofs.lemmas.Str.{chars-nil}
use Rattle.std.proofs.lemmas.List.{append-nil}
use Rattle.pg_base.specs.declared.token.TokenKind.{TokenKind}
use Rattle.pg_base.specs.declared.token.TokenKind.TheVariants.{Name, Number, Text, Sign as SignToken}
use Rattle.pg_base.specs.Tokens.{Word}
use Rattle.pg_base.specs.Layout.{IsToken, written}
use Rattle.pg_base.specs.Spans.{IsTokenText, AreInOrder, token_end}
use Rattle.pg_script.specs.Marks.{place}
use Rattle.pg_gametext.specs.Commands.{is_plain, is_text}
use Rattle.pg_gametext.specs.Before.{all_binder_words}
use Rattle.pg_gametext.specs.Forms.{Told, Taken, token_taken, names_length, names_taken, is_open, is_close, is_colon, is_nat, is_function_sign, is_predicate_sign, begins_open, at_most_two, parameters_behind, parameters_taken, Equation, function_params, function_named, second_equation, equation_taken, PredicateText, predicate_assigned, predicate_params, predicate_named, is_assign, length_of_hypothesis, BinderText, variables, binder_closed, binder_followed, hypothesis_named, binder_typed, binder_colon, binder_named, binders_taken, statement_colon, statement_binders, statement_name, statement_told}
use Rattle.pg_named.specs.Bound.{Rises, RisesFrom}
use Rattle.pg_named.specs.Laws.{TokensRise, FunctionRises, PredicateRises, StatementRises}
use Rattle.pg_named.proofs.Differ.{lower, rises}

-- ---- tokens

longer_text : (kind : TokenKind) (c : ℕ) (cs : List ℕ) → 0 < length (written kind (c ∷ cs))
longer_text Name c cs = omega arith
longer_text Number c cs = omega arith
longer_text Text c cs = omega arith
longer_text (SignToken sign) c cs = omega arith

empty_text : (kind : TokenKind) → IsToken kind [] [] → 0 < length (written kind [])
empty_text Name h = let clashes : false ≡ true = h.0.0 in cc
empty_text Number h = absurd (omega (arith, h.0.0))
empty_text Text h = omega arith
empty_text (SignToken sign) (inl h) = absurd h
empty_text (SignToken sign) (inr h) = let clashes : false ≡ true = h.0.0 in cc

has_byte : (kind : TokenKind) (text : List ℕ) → IsTokenText kind text → 0 < length (written kind text)
has_byte kind (c ∷ cs) h = longer_text kind c cs
has_byte kind [] h = let P : List ℕ → Type 0 = λ cs. IsToken kind cs [] in empty_text kind (subst P chars-nil h)

rise_from : (at reached end : ℕ) (ws : List Word) → at < reached → AreInOrder reached end ws → All (λ (w : Word). IsTokenText w.kind w.text) ws → RisesFrom at ws
rise_from at reached end [] l h texts = tt
rise_from at reached end (w ∷ ws) l h texts =
    let some = has_byte w.kind w.text (texts 0 w (omega arith)) in
    (omega (arith, l, h.0), rise_from w.at (token_end w) end ws (omega (arith, some)) h.1 (λ k d lt. texts (suc k) d (omega (arith, lt))))

pub tokens_rise : TokensRise
tokens_rise end [] t = tt
tokens_rise end (w ∷ ws) t =
    let some = has_byte w.kind w.text (t.texts 0 w (omega arith)) in
    rise_from w.at (token_end w) end ws (omega (arith, some)) t.in_order.1 (λ k d lt. t.texts (suc k) d (omega (arith, lt)))

-- ---- parts

-- these tokens are among those, in their order
abbrev IsPart : List Word → List Word → Type 0
IsPart [] ys = Unit {0}
IsPart (x ∷ xs) [] = ⊥
IsPart (x ∷ xs) (y ∷ ys) = ((y ≡ x) × IsPart xs ys) ⊎ IsPart (x ∷ xs) ys

part_from : (at : ℕ) (xs ys : List Word) → RisesFrom at ys → IsPart xs ys → RisesFrom at xs
part_from at [] ys r p = tt
part_from at (x ∷ xs) [] r p = absurd p
part_from at (x ∷ xs) (y ∷ ys) r (inl p) = subst (λ (w : Word). (at < w.at) × RisesFrom w.at xs) p.0 (r.0, part_from y.at xs ys r.1 p.1)
part_from at (x ∷ xs) (y ∷ ys) r (inr p) = part_from at (x ∷ xs) ys (lower at y.at ys r.0 r.1) p

part_rises : (xs ys : List Word) → Rises ys → IsPart xs ys → Rises xs
part_rises [] ys r p = tt
part_rises (x ∷ xs) [] r p = absurd p
part_rises (x ∷ xs) (y ∷ ys) r (inl p) = subst (λ (w : Word). RisesFrom w.at xs) p.0 (part_from y.at xs ys r p.1)
part_rises (x ∷ xs) (y ∷ ys) r (inr p) = part_rises (x ∷ xs) ys (rises y.at ys r) p

skip : (xs : List Word) (y : Word) (ys : List Word) → IsPart xs ys → IsPart xs (y ∷ ys)
skip [] y ys p = tt
skip (x ∷ xs) y ys p = inr p

back : (n : ℕ) (xs ys : List Word) → IsPart xs (drop n ys) → IsPart xs ys
back zero xs ys p = p
back (suc n) xs [] p = p
back (suc n) xs (y ∷ ys) p = skip xs y ys (back n xs ys p)

front : (n : ℕ) (xs ys : List Word) → IsPart xs (drop n ys) → IsPart (take n ys ++ xs) ys
front zero xs ys p = p
front (suc n) xs [] p = p
front (suc n) xs (y ∷ ys) p = inl (refl, front n xs ys p)

begun : (n : ℕ) (ys : List Word) → IsPart (take n ys) ys
begun n ys = subst (λ xs. IsPart xs ys) (append-nil (take n ys)) (front n [] ys tt)

-- what stands behind one token
behind : (good : Word → Bool) (end : ℕ) (xs ys : List Word) → IsPart xs (token_taken good end ys).rest → IsPart xs ys
behind good end xs [] p = p
behind good end xs (y ∷ ys) p = cases (good y) p
  where
    nothing : (xs : List Word) → IsPart xs [] → IsPart xs (y ∷ ys)
    nothing [] p = tt
    nothing (x ∷ xs) p = absurd p

    cases : (b : Bool) → IsPart xs (let t : Taken (Option Word) = if b then record { value = Some y; stuck = None; rest = ys } else record { value = None; stuck = Some y.at; rest = [] } in t).rest → IsPart xs (y ∷ ys)
    cases true p = skip xs y ys p
    cases false p = nothing xs p

-- ---- parameters

some_part : (two : Bool) (n : ℕ) (ws : List Word) → IsPart (at_most_two two (take n ws)) ws
some_part false n ws = begun n ws
some_part true zero ws = tt
some_part true (suc n) [] = tt
some_part true (suc zero) (w ∷ ws) = inl (refl, tt)
some_part true (suc (suc n)) (w ∷ []) = inl (refl, tt)
some_part true (suc (suc n)) (w ∷ v ∷ ws) = inl (refl, inl (refl, tt))

named_are : (two : Bool) (end : ℕ) (ws : List Word) → (parameters_behind two end ws).value ≡ at_most_two two (take (names_length ws) ws)
named_are two end ws =
    let names = at_most_two two (take (names_length ws) ws) in
    let u = token_taken is_close end (drop (length names) ws) in
    elim ((length names == 0) || (two && nat_lt (length names) 2)) as (λ b. (let t : Taken (List Word) = if b then record { value = names; stuck = Some (place end (drop (length names) ws)); rest = [] } else record { value = names; stuck = u.stuck; rest = u.rest } in t).value ≡ names) [
      | true ↦ refl
      | false ↦ refl
    ]

parameters_part : (two : Bool) (end : ℕ) (ws : List Word) → IsPart (parameters_taken two end ws).value ws
parameters_part two end ws = cases (token_taken is_open end ws).stuck
  where
    inner : IsPart (parameters_behind two end (token_taken is_open end ws).rest).value ws
    inner =
        let rest = (token_taken is_open end ws).rest in
        subst (λ xs. IsPart xs ws) (sym (named_are two end rest)) (behind is_open end (at_most_two two (take (names_length rest) rest)) ws (some_part two (names_length rest) rest))

    cases : (s : Option ℕ) → IsPart (let t : Taken (List Word) = elim s [ Some at ↦ record { value = []; stuck = Some at; rest = [] } | None ↦ parameters_behind two end (token_taken is_open end ws).rest ] in t).value ws
    cases (Some at) = tt
    cases None = inner

second_are : (end : ℕ) (f : Word) (params : List Word) (value : Option Equation) (stuck : Option ℕ) (rest : List Word)
    → (second_equation end f params (record { value = value; stuck = stuck; rest = rest })).value.params ≡ params
second_are end f params value None rest = refl
second_are end f params value (Some at) rest = refl

params_are : (end : ℕ) (f : Word) (value : List Word) (stuck : Option ℕ) (rest : List Word) → (function_params end f (record { value = value; stuck = stuck; rest = rest })).value.params ≡ value
params_are end f value (Some at) rest = refl
params_are end f value None rest = let q = equation_taken end rest in second_are end f value q.value q.stuck q.rest

-- what is among these is among those
abbrev Among : (rest ws : List Word) → Type 0
Among rest ws = (xs : List Word) → IsPart xs rest → IsPart xs ws

function_part : (end : ℕ) (ws : List Word) (value : Option Word) (stuck : Option ℕ) (rest : List Word) → Among rest ws
    → IsPart (function_named end (record { value = value; stuck = stuck; rest = rest })).value.params ws
function_part end ws None stuck rest among = tt
function_part end ws (Some f) stuck rest among =
    let p = parameters_taken (is_function_sign f) end rest in
    subst (λ xs. IsPart xs ws) (sym (params_are end f p.value p.stuck p.rest)) (among p.value (parameters_part (is_function_sign f) end rest))

pub function_rises : FunctionRises
function_rises end ws r =
    let good : Word → Bool = λ w. is_plain w || is_function_sign w in
    let t = token_taken good end ws in
    part_rises _ ws r (function_part end ws t.value t.stuck t.rest (λ xs. behind good end xs ws))

assigned_are : (end : ℕ) (p : Word) (params : List Word) (value : Option Word) (stuck : Option ℕ) (rest : List Word)
    → (predicate_assigned p params end (record { value = value; stuck = stuck; rest = rest })).value.params ≡ params
assigned_are end p params value None rest = refl
assigned_are end p params value (Some at) rest = refl

predicate_are : (end : ℕ) (p : Word) (value : List Word) (stuck : Option ℕ) (rest : List Word) → (predicate_params end p (record { value = value; stuck = stuck; rest = rest })).value.params ≡ value
predicate_are end p value (Some at) rest = refl
predicate_are end p value None rest = let a = token_taken is_assign end rest in assigned_are end p value a.value a.stuck a.rest

predicate_part : (end : ℕ) (ws : List Word) (value : Option Word) (stuck : Option ℕ) (rest : List Word) → Among rest ws
    → IsPart (predicate_named end (record { value = value; stuck = stuck; rest = rest })).value.params ws
predicate_part end ws None stuck rest among = tt
predicate_part end ws (Some p) stuck rest among = cases (is_predicate_sign p || begins_open rest)
  where
    two : Bool
    two = is_predicate_sign p

    cases : (b : Bool) → IsPart (let t : Told PredicateText = if b then predicate_params end p (parameters_taken two end rest) else predicate_assigned p [] end (token_taken is_assign end rest) in t).value.params ws
    cases true =
        let q = parameters_taken two end rest in
        subst (λ xs. IsPart xs ws) (sym (predicate_are end p q.value q.stuck q.rest)) (among q.value (parameters_part two end rest))
    cases false = let a = token_taken is_assign end rest in subst (λ xs. IsPart xs ws) (sym (assigned_are end p [] a.value a.stuck a.rest)) tt

pub predicate_rises : PredicateRises
predicate_rises end ws r =
    let good : Word → Bool = λ w. is_plain w || is_predicate_sign w in
    let t = token_taken good end ws in
    part_rises _ ws r (predicate_part end ws t.value t.stuck t.rest (λ xs. behind good end xs ws))

-- ---- binders

abbrev More : Type 0
More = List Word → Taken (List BinderText)

-- what comes behind a binder is among the tokens there
abbrev Goes : More → Type 0
Goes more = (ws : List Word) → IsPart (all_binder_words (more ws).value) ws

followed_part : (more : More) (ws : List Word) (value : Option Word) (stuck : Option ℕ) (rest : List Word) → Goes more → Among rest ws
    → IsPart (all_binder_words (binder_followed more (record { value = value; stuck = stuck; rest = rest })).value) ws
followed_part more ws value (Some at) rest go among = tt
followed_part more ws value None rest go among = among (all_binder_words (more rest).value) (go rest)

-- the words of the binders behind a closing parenthesis
abbrev words_behind : ℕ → More → List Word → List Word
words_behind end more ws = all_binder_words (binder_followed more (token_taken is_close end ws)).value

closed_part : (end : ℕ) (more : More) (ws : List Word) → Goes more → IsPart (words_behind end more ws) ws
closed_part end more ws go = let t = token_taken is_close end ws in followed_part more ws t.value t.stuck t.rest go (λ xs. behind is_close end xs ws)

-- these names and what is among the tokens behind them are among all
abbrev Before : (names ws all : List Word) → Type 0
Before names ws all = (xs : List Word) → IsPart xs ws → IsPart (names ++ xs) all

hypothesis_part : (end : ℕ) (names : List Word) (more : More) (ws all : List Word) → Goes more → Before names ws all → IsPart (all_binder_words (hypothesis_named end names more ws).value) all
hypothesis_part end [] more ws all go before = tt
hypothesis_part end (x ∷ []) more ws all go before =
    let n = length_of_hypothesis 0 ws in
    before (words_behind end more (drop n ws)) (back n (words_behind end more (drop n ws)) ws (closed_part end more (drop n ws) go))
hypothesis_part end (x ∷ y ∷ names) more ws all go before = tt

typed_part : (end : ℕ) (names : List Word) (more : More) (ws all : List Word) → Goes more → Before names ws all → IsPart (all_binder_words (binder_typed end names more ws).value) all
typed_part end names more [] all go before = hypothesis_part end names more [] all go before
typed_part end names more (w ∷ ws) all go before =
    elim (is_nat w) as (λ b. IsPart (all_binder_words (if b then binder_closed end (variables names) more ws else hypothesis_named end names more (w ∷ ws)).value) all) [
      | true ↦ before (words_behind end more ws) (skip (words_behind end more ws) w ws (closed_part end more ws go))
      | false ↦ hypothesis_part end names more (w ∷ ws) all go before
    ]

colon_part : (end : ℕ) (names : List Word) (more : More) (all : List Word) (value : Option Word) (stuck : Option ℕ) (rest : List Word) → Goes more → Before names rest all
    → IsPart (all_binder_words (binder_colon end names more (record { value = value; stuck = stuck; rest = rest })).value) all
colon_part end names more all value (Some at) rest go before = tt
colon_part end names more all value None rest go before = typed_part end names more rest all go before

named_part : (end : ℕ) (ws : List Word) (more : More) (stuck : Option ℕ) → Goes more
    → IsPart (all_binder_words (binder_named end (record { value = take (names_length ws) ws; stuck = stuck; rest = drop (names_length ws) ws }) more).value) ws
named_part end ws more (Some at) go = tt
named_part end ws more None go =
    let n = names_length ws in
    let c = token_taken is_colon end (drop n ws) in
    colon_part end (take n ws) more ws c.value c.stuck c.rest go (λ xs p. front n xs ws (behind is_colon end xs (drop n ws) p))

binders_part : (turns end : ℕ) → Goes (binders_taken turns end)
binders_part zero end ws = tt
binders_part (suc turns) end [] = tt
binders_part (suc turns) end (w ∷ ws) =
    elim (is_open w) as (λ b. IsPart (all_binder_words (let t : Taken (List BinderText) = if b then binder_named end (names_taken end ws) (binders_taken turns end) else record { value = []; stuck = None; rest = w ∷ ws } in t).value) (w ∷ ws)) [
      | true ↦ skip (all_binder_words (binder_named end (names_taken end ws) (binders_taken turns end)).value) w ws (named_part end ws (binders_taken turns end) (names_taken end ws).stuck (binders_part turns end))
      | false ↦ tt
    ]

-- ---- statements

told_are : (end : ℕ) (name : Option Word) (binders : List BinderText) (value : Option Word) (stuck : Option ℕ) (rest : List Word)
    → (statement_colon end name binders (record { value = value; stuck = stuck; rest = rest })).value.binders ≡ binders
told_are end name binders value (Some at) rest = refl
told_are end name binders value None rest = refl

binders_are : (end : ℕ) (name : Option Word) (value : List BinderText) (stuck : Option ℕ) (rest : List Word)
    → (statement_binders end name (record { value = value; stuck = stuck; rest = rest })).value.binders ≡ value
binders_are end name value (Some at) rest = refl
binders_are end name value None rest = let c = token_taken is_colon end rest in told_are end name value c.value c.stuck c.rest

bound_part : (end turns : ℕ) (name : Option Word) (ws : List Word) → IsPart (all_binder_words (statement_binders end name (binders_taken turns end ws)).value.binders) ws
bound_part end turns name ws =
    let t = binders_taken turns end ws in
    subst (λ bs. IsPart (all_binder_words bs) ws) (sym (binders_are end name t.value t.stuck t.rest)) (binders_part turns end ws)

name_part : (end : ℕ) (ws : List Word) → IsPart (all_binder_words (statement_name end ws).value.binders) ws
name_part end [] = bound_part end 0 None []
name_part end (w ∷ ws) =
    elim (is_plain w) as (λ b. IsPart (all_binder_words (if b then statement_binders end (Some w) (binders_taken (length ws) end ws) else statement_binders end None (binders_taken (length (w ∷ ws)) end (w ∷ ws))).value.binders) (w ∷ ws)) [
      | true ↦ skip _ w ws (bound_part end (length ws) (Some w) ws)
      | false ↦ bound_part end (length (w ∷ ws)) None (w ∷ ws)
    ]

statement_part : (end : ℕ) (ws : List Word) → IsPart (all_binder_words (statement_told end ws).value.binders) ws
statement_part end [] = name_part end []
statement_part end (w ∷ ws) =
    elim (is_text w) as (λ b. IsPart (all_binder_words (if b then statement_name end ws else statement_name end (w ∷ ws)).value.binders) (w ∷ ws)) [
      | true ↦ skip _ w ws (name_part end ws)
      | false ↦ name_part end (w ∷ ws)
    ]

pub statement_rises : StatementRises
statement_rises end ws r = part_rises _ ws r (statement_part end ws)
