-- The words of binders: those that are too many, those up to a place, and their names.
use Rattle.std.proofs.Common.{◌≡◌, ◌∙◌, ℕ, zero, suc, ◌+◌, ◌-◌, ◌<◌, ◌≤◌, Bool, true, false, List, [], ◌∷◌, ◌++◌, Option, None, Some, Result, Ok, Err, if◌then◌else◌, refl, ap, sym, arith, add-one, append_assoc, map, drop, take, length, get_or}
use Rattle.std.proofs.Math.Seq.{drop-cons}
use Rattle.std.proofs.lemmas.List.{append-nil, drop_all}
use Rattle.std.specs.Prelude.{flat_map}
use Rattle.std.specs.Result.{result_err}
use Rattle.pg_base.specs.declared.token.Token.{Token}
use Rattle.pg_base.specs.Tokens.{Word, word}
use Rattle.pg_script.specs.View.{words}
use Rattle.pg_forms.specs.declared.parts.BinderText.{BinderText}
use Rattle.pg_forms.specs.View.{binder}
use Rattle.pg_faults.specs.View.{found}
use Rattle.pg_faults.specs.declared.fault.Fault as its
use Rattle.pg_gametext.specs.Faults.{Fault, fault, LimitName, Limit, least, one_over}
use Rattle.pg_gametext.specs.Forms.{BinderText as Binder, variables, hypothesis}
use Rattle.pg_gametext.specs.Before.{binder_words, all_binder_words}
use Rattle.pg_gametext.specs.Checks.{variable_words, hypothesis_words}
use Rattle.pg_named.specs.Bound.{stands_behind, up_to, room_behind, left}

-- ---- words that are too many

pub too_many_at : (what : LimitName) (limit room : ℕ) (ts : List Token) (d : Token) → room < length ts
    → room_behind what limit room (words ts) ≡ Err (fault (word (get_or ts room d)).at (Limit what (suc limit)))
too_many_at what limit room [] d lt = absurd (omega (arith, lt))
too_many_at what limit zero (t ∷ ts) d lt = refl
too_many_at what limit (suc room) (t ∷ ts) d lt = too_many_at what limit room ts d (omega (arith, lt))

pub fits : (what : LimitName) (limit room : ℕ) (ts : List Token) → length ts ≤ room → room_behind what limit room (words ts) ≡ Ok (room - length ts)
fits what limit room [] le = ap Ok (omega arith)
fits what limit zero (t ∷ ts) le = absurd (omega (arith, le))
fits what limit (suc room) (t ∷ ts) le = fits what limit room ts (omega (arith, le)) ∙ ap Ok (omega arith)

-- the room behind these words, where an answer was given of those before them
abbrev pub then_room : LimitName → (limit : ℕ) → Result ℕ Fault → List Word → Result ℕ Fault
then_room what limit (Ok room) ws = room_behind what limit room ws
then_room what limit (Err f) ws = Err f

joined : (what : LimitName) (limit room : ℕ) (xs ys : List Word) → room_behind what limit room (xs ++ ys) ≡ then_room what limit (room_behind what limit room xs) ys
joined what limit room [] ys = refl
joined what limit zero (x ∷ xs) ys = refl
joined what limit (suc room) (x ∷ xs) ys = joined what limit room xs ys

abbrev pub fault_of : Result ℕ Fault → Option Fault
fault_of (Ok room) = None
fault_of (Err f) = Some f

over_at : (what : LimitName) (limit room : ℕ) (ws : List Word)
    → least (flat_map (λ (w : Word). fault w.at (Limit what (suc limit)) ∷ []) (take 1 (drop room ws))) ≡ fault_of (room_behind what limit room ws)
over_at what limit zero [] = refl
over_at what limit (suc room) [] = refl
over_at what limit zero (w ∷ ws) = refl
over_at what limit (suc room) (w ∷ ws) = over_at what limit room ws

pub over_is : (what : LimitName) (limit : ℕ) (ws : List Word) → least (one_over what limit ws) ≡ fault_of (room_behind what limit limit ws)
over_is what limit ws = over_at what limit limit ws

-- ---- binders one behind the other

here : (bs : List BinderText) (i : ℕ) (d : BinderText) → i < length bs → map binder (drop i bs) ≡ binder (get_or bs i d) ∷ map binder (drop (i + 1) bs)
here bs i d lt = ap (map binder) (drop-cons bs i d lt ∙ ap (λ k. get_or bs i d ∷ drop k bs) (sym (add-one i)))

-- a count that goes binder by binder
abbrev pub Counts : (List Binder → List Word) → Type 0
Counts count = (b : Binder) (bs : List Binder) → count (b ∷ bs) ≡ count (b ∷ []) ++ count bs

pub variables_count : Counts variable_words
variables_count (variables ws) bs = ap (λ xs. xs ++ variable_words bs) (sym (append-nil ws))
variables_count (hypothesis h p) bs = refl

pub hypotheses_count : Counts hypothesis_words
hypotheses_count (variables ws) bs = refl
hypotheses_count (hypothesis h p) bs = refl

-- a turn of the loop over binders
pub turn : (count : List Binder → List Word) (what : LimitName) (limit room : ℕ) (bs : List BinderText) (i : ℕ) (d : BinderText) (r all : Result ℕ Fault)
    → Counts count → i < length bs
    → room_behind what limit room (count (map binder (drop i bs))) ≡ all → r ≡ room_behind what limit room (count (binder (get_or bs i d) ∷ []))
    → then_room what limit r (count (map binder (drop (i + 1) bs))) ≡ all
turn count what limit room bs i d r all splits lt before now =
    let more = map binder (drop (i + 1) bs) in
    let e = binder (get_or bs i d) in
    ap (λ q. then_room what limit q (count more)) now
    ∙ sym (joined what limit room (count (e ∷ [])) (count more))
    ∙ sym (ap (room_behind what limit room) (ap count (here bs i d lt) ∙ splits e more))
    ∙ before

-- a word that is too many is the first of all binders
pub over_here : (count : List Binder → List Word) (what : LimitName) (limit room : ℕ) (bs : List BinderText) (i : ℕ) (d : BinderText) (f : Fault)
    → Counts count → i < length bs
    → room_behind what limit room (count (map binder (drop i bs))) ≡ room_behind what limit limit (count (map binder bs))
    → Err f ≡ room_behind what limit room (count (binder (get_or bs i d) ∷ []))
    → Some f ≡ least (one_over what limit (count (map binder bs)))
over_here count what limit room bs i d f splits lt before now =
    ap fault_of (turn count what limit room bs i d (Err f) _ splits lt before now) ∙ sym (over_is what limit (count (map binder bs)))

pub none_over : (count : List Binder → List Word) (what : LimitName) (limit room : ℕ) (bs : List BinderText) (i : ℕ) → count [] ≡ [] → length bs ≤ i
    → room_behind what limit room (count (map binder (drop i bs))) ≡ room_behind what limit limit (count (map binder bs))
    → None ≡ least (one_over what limit (count (map binder bs)))
none_over count what limit room bs i none le before =
    ap (λ ws. fault_of (room_behind what limit room ws)) (sym (ap (λ cs. count (map binder cs)) (drop_all i bs le) ∙ none))
    ∙ ap fault_of before
    ∙ sym (over_is what limit (count (map binder bs)))

-- the fault in an answer, if there is one
pub err_over : (what : LimitName) (limit : ℕ) (ws : List Word) (r : Result ℕ its.Fault) (o : Option its.Fault) → o ≡ result_err r → left r ≡ room_behind what limit limit ws
    → found o ≡ least (one_over what limit ws)
err_over what limit ws r o is e = ap found is ∙ cases r ∙ ap fault_of e ∙ sym (over_is what limit ws)
  where
    cases : (r : Result ℕ its.Fault) → found (result_err r) ≡ fault_of (left r)
    cases (Ok room) = refl
    cases (Err f) = refl

-- ---- words up to a place

up_to_joined : (last : Option ℕ) (xs ys : List Word) → up_to last (xs ++ ys) ≡ up_to last xs ++ up_to last ys
up_to_joined last [] ys = refl
up_to_joined last (x ∷ xs) ys = cases (stands_behind last x) (up_to_joined last xs ys)
  where
    cases : (b : Bool) → up_to last (xs ++ ys) ≡ up_to last xs ++ up_to last ys
        → (if b then up_to last (xs ++ ys) else x ∷ up_to last (xs ++ ys)) ≡ (if b then up_to last xs else x ∷ up_to last xs) ++ up_to last ys
    cases true ih = ih
    cases false ih = ap (λ zs. x ∷ zs) ih

pub more_front : (last : Option ℕ) (bs : List BinderText) (i : ℕ) (d : BinderText) (before after all : List Word) → i < length bs
    → before ++ up_to last (all_binder_words (map binder (drop i bs))) ≡ all → after ≡ before ++ up_to last (binder_words (binder (get_or bs i d)))
    → after ++ up_to last (all_binder_words (map binder (drop (i + 1) bs))) ≡ all
more_front last bs i d before after all lt inv now =
    let more = all_binder_words (map binder (drop (i + 1) bs)) in
    let own = binder_words (binder (get_or bs i d)) in
    ap (λ xs. xs ++ up_to last more) now
    ∙ append_assoc before (up_to last own) (up_to last more)
    ∙ ap (λ xs. before ++ xs) (sym (up_to_joined last own more) ∙ sym (ap (λ zs. up_to last (all_binder_words zs)) (here bs i d lt)))
    ∙ inv

-- what a list of tokens is that began empty
pub front_is : (got items start : List Token) (ws : List Word) (p q : Option ℕ) → got ≡ items → words items ≡ words start ++ up_to p ws → start ≡ [] → p ≡ q
    → words got ≡ up_to q ws
front_is got items start ws p q a b c d = ap words a ∙ b ∙ ap (λ ts. words ts ++ up_to p ws) c ∙ ap (λ o. up_to o ws) d
