-- Lists of names and functions: what is told whole is what they are.
use Rattle.std.proofs.Common.{◌≡◌, ◌∙◌, ℕ, suc, ◌<◌, Bool, true, false, ◌||◌, List, [], ◌∷◌, ◌++◌, length, take, drop, refl, sym, ap, subst, arith, append-nil, Option, Some, None, if◌then◌else◌}
use Rattle.std.specs.Prelude.{◌==◌}
use Rattle.std.proofs.lemmas.List.{take-append-drop}
use Rattle.pg_base.specs.Tokens.{Word}
use Rattle.pg_script.specs.Marks.{place}
use Rattle.pg_gametext.specs.Commands.{is_plain}
use Rattle.pg_gametext.specs.Forms.{Mark, Plus, Star, Caret, is_colon, is_bar, is_function_sign, Told, Taken, ended, or_ended, names_length, names_told, length_before, parameters_taken, Equation, FunctionText, equation_said, equation_colon, equation_of_name, equation_bar, equation_taken, both_equations, second_equation, function_params, function_named, function_told}
use Rattle.pg_gametext.specs.Grammar.{AreAll, AreNames, AreParameters, IsEquation, equation, IsFunction, a_function, a_sign, whole, NamesLaw, FunctionLaw}
use Rattle.pg_gametext.proofs.Taking.{never, left_of, right_true, not_nothing, token_yes, stands, misses, taking, ended_nothing, Stops, none_before, part_is, plain_mark, all_plain, params_stand, params_miss, parameters_taking, parameters_are}

-- ---- names

names_all : (ws : List Word) → AreAll is_plain ws → names_length ws ≡ length ws
names_all [] h = refl
names_all (w ∷ ws) h = ap (λ b. if b then suc (names_length ws) else 0) h.0 ∙ ap suc (names_all ws h.1)

abbrev told_names : ℕ → ℕ → List Word → Told (List Word)
told_names n end ws = record { value = take n ws; stuck = or_ended (if n == 0 then Some (place end ws) else None) (drop n ws) }

pub no_rest : (n : ℕ) (ws : List Word) → drop n ws ≡ [] → take n ws ≡ ws
no_rest n ws e = sym (append-nil (take n ws)) ∙ ap (λ (x : List Word). take n ws ++ x) (sym e) ∙ take-append-drop n ws

some_length : (ws : List Word) → (length ws == 0) ≡ false → 0 < length ws
some_length [] e = absurd cc
some_length (w ∷ ws) e = omega arith

names_of : (end : ℕ) (ws names : List Word) → names_told end ws ≡ whole names → (ws ≡ names) × AreNames ws
names_of end ws names h =
    let n = names_length ws in
    elim (n == 0) as (λ b. (n == 0) ≡ b → (let t : Told (List Word) = record { value = take n ws; stuck = or_ended (if b then Some (place end ws) else None) (drop n ws) } in t) ≡ whole names → (ws ≡ names) × AreNames ws) [
      | true ↦ λ e h. never _ names (place end ws) h refl
      | false ↦ λ e h.
          let all : take n ws ≡ ws = no_rest n ws (ended_nothing (drop n ws) (ap (λ (t : Told (List Word)). t.stuck) h)) in
          let plain : AreAll is_plain ws = subst (AreAll is_plain) all (all_plain ws) in
          (sym all ∙ ap (λ (t : Told (List Word)). t.value) h, (some_length ws (ap (λ k. k == 0) (sym (names_all ws plain)) ∙ e), plain))
    ] refl h

take_all : (ws : List Word) → take (length ws) ws ≡ ws
take_all [] = refl
take_all (w ∷ ws) = ap (λ (x : List Word). w ∷ x) (take_all ws)

drop_all : (ws : List Word) → drop (length ws) ws ≡ []
drop_all [] = refl
drop_all (w ∷ ws) = drop_all ws

names_read : (end : ℕ) (ws : List Word) → AreNames ws → names_told end ws ≡ whole ws
names_read end ws h =
    ap (λ n. told_names n end ws) (names_all ws h.1)
    ∙ ap (λ b. let t : Told (List Word) = record { value = take (length ws) ws; stuck = or_ended (if b then Some (place end ws) else None) (drop (length ws) ws) } in t) (not_nothing (length ws) h.0)
    ∙ ap (λ (x : List Word). let t : Told (List Word) = record { value = x; stuck = ended (drop (length ws) ws) } in t) (take_all ws)
    ∙ ap (λ (x : List Word). let t : Told (List Word) = record { value = ws; stuck = ended x } in t) (drop_all ws)

pub names-law : NamesLaw
names-law end ws names = (names_of end ws names, λ h. names_read end ws h.1 ∙ ap whole h.0)

-- ---- equations

abbrev some_equation : Equation → List Word → Taken (Option Equation)
some_equation e next = record { value = Some e; stuck = None; rest = next }

data EquationTaking (end : ℕ) (ws : List Word) : Type 0 where
  eq_stands : (us vs : List Word) (e : Equation) → ws ≡ us ++ vs → IsEquation end us vs e → equation_taken end ws ≡ some_equation e vs → EquationTaking end ws
  eq_misses : (at : ℕ) (o : Option Equation) → equation_taken end ws ≡ record { value = o; stuck = Some at; rest = [] } → EquationTaking end ws

colon_taking : (end : ℕ) (b n c : Word) (body : List Word) → is_bar b ≡ true → is_plain n ≡ true → is_colon c ≡ true → EquationTaking end (b ∷ n ∷ c ∷ body)
colon_taking end b n c body gb gn gc =
    let k = length_before is_bar body in
    eq_stands (b ∷ n ∷ c ∷ take k body) (drop k body) (record { name = n; says = Some (record { tokens = take k body; end = place end (drop k body) }) })
    (ap (λ (x : List Word). b ∷ n ∷ c ∷ x) (sym (take-append-drop k body))) (equation b n c (take k body) (drop k body) gb gn gc (none_before is_bar body))
    (ap (equation_bar end) (token_yes is_bar end b (n ∷ c ∷ body) gb) ∙ ap (equation_of_name end) (token_yes is_plain end n (c ∷ body) gn) ∙ ap (equation_colon end n) (token_yes is_colon end c body gc))

named_taking : (end : ℕ) (b n : Word) (more : List Word) → is_bar b ≡ true → is_plain n ≡ true → EquationTaking end (b ∷ n ∷ more)
named_taking end b n more gb gn = elim (taking is_colon end more) [
  | misses at e ↦
      eq_misses at (Some (record { name = n; says = None }))
      (ap (equation_bar end) (token_yes is_bar end b (n ∷ more) gb) ∙ ap (equation_of_name end) (token_yes is_plain end n more gn) ∙ ap (equation_colon end n) e)
  | stands c body is gc e ↦ subst (λ (x : List Word). EquationTaking end (b ∷ n ∷ x)) (sym is) (colon_taking end b n c body gb gn gc)
]

bar_taking : (end : ℕ) (b : Word) (rest : List Word) → is_bar b ≡ true → EquationTaking end (b ∷ rest)
bar_taking end b rest gb = elim (taking is_plain end rest) [
  | misses at e ↦ eq_misses at None (ap (equation_bar end) (token_yes is_bar end b rest gb) ∙ ap (equation_of_name end) e)
  | stands n more is gn e ↦ subst (λ (x : List Word). EquationTaking end (b ∷ x)) (sym is) (named_taking end b n more gb gn)
]

equation_taking : (end : ℕ) (ws : List Word) → EquationTaking end ws
equation_taking end ws = elim (taking is_bar end ws) [
  | misses at e ↦ eq_misses at None (ap (equation_bar end) e)
  | stands b rest is gb e ↦ subst (EquationTaking end) (sym is) (bar_taking end b rest gb)
]

equation_are : (end : ℕ) (us vs : List Word) (e : Equation) → IsEquation end us vs e → Stops is_bar vs → equation_taken end (us ++ vs) ≡ some_equation e vs
equation_are end _ _ _ (equation b n c ws next gb gn gc none) s =
    ap (equation_bar end) (token_yes is_bar end b (n ∷ c ∷ ws ++ next) gb)
    ∙ ap (equation_of_name end) (token_yes is_plain end n (c ∷ ws ++ next) gn)
    ∙ ap (equation_colon end n) (token_yes is_colon end c (ws ++ next) gc)
    ∙ ap (equation_said n) (part_is is_bar end ws next none s)

begins_bar : (end : ℕ) (us vs : List Word) (e : Equation) → IsEquation end us vs e → Stops is_bar us
begins_bar end _ _ _ (equation b n c ws next gb gn gc none) = gb

-- ---- functions

abbrev can_name_function : Word → Bool
can_name_function w = is_plain w || is_function_sign w

abbrev computes : Mark → Bool
computes m = elim m as (λ _. Bool) [ Plus ↦ true | Star ↦ true | Caret ↦ true | _ ↦ false ]

plain_no_sign : (w : Word) → is_plain w ≡ true → is_function_sign w ≡ false
plain_no_sign w e = ap computes (plain_mark w e)

abbrev some_function : Word → List Word → Equation → Equation → FunctionText
some_function f params e0 e1 = record { name = Some f; params = params; at_zero = Some e0; at_succ = Some e1 }

-- how a function of this name is made
abbrev Makes : ℕ → Bool → Word → Type 0
Makes end two f =
    (ps us vs params : List Word) (e0 e1 : Equation) → AreParameters two ps params → IsEquation end us vs e0 → IsEquation end vs [] e1 → IsFunction end (f ∷ ps ++ (us ++ vs)) (some_function f params e0 e1)

equations_of : (end : ℕ) (f : Word) (two : Bool) (ps params us vs : List Word) (e0 : Equation) (t : FunctionText) → Makes end two f → AreParameters two ps params → IsEquation end us vs e0
    → both_equations f params (Some e0) (equation_taken end vs) ≡ whole t → IsFunction end (f ∷ ps ++ (us ++ vs)) t
equations_of end f two ps params us vs e0 t make are i0 h = elim (equation_taking end vs) [
  | eq_misses at o e ↦ never _ t at h (ap (λ (x : Taken (Option Equation)). (both_equations f params (Some e0) x).stuck) e)
  | eq_stands us1 vs1 e1 is i1 e ↦
      let g : both_equations f params (Some e0) (some_equation e1 vs1) ≡ whole t = sym (ap (both_equations f params (Some e0)) e) ∙ h in
      let none : vs1 ≡ [] = ended_nothing vs1 (ap (λ (x : Told FunctionText). x.stuck) g) in
      let alone : vs ≡ us1 = is ∙ ap (λ (x : List Word). us1 ++ x) none ∙ append-nil us1 in
      let last : IsEquation end vs [] e1 = subst (λ (x : List Word). IsEquation end x [] e1) (sym alone) (subst (λ (x : List Word). IsEquation end us1 x e1) none i1) in
      subst (IsFunction end (f ∷ ps ++ (us ++ vs))) (ap (λ (x : Told FunctionText). x.value) g) (make ps us vs params e0 e1 are i0 last)
]

params_of : (end : ℕ) (f : Word) (two : Bool) (rest : List Word) (t : FunctionText) → Makes end two f → function_params end f (parameters_taken two end rest) ≡ whole t → IsFunction end (f ∷ rest) t
params_of end f two rest t make h = elim (parameters_taking two end rest) [
  | params_miss at names e ↦ never _ t at h (ap (λ (x : Taken (List Word)). (function_params end f x).stuck) e)
  | params_stand ps params behind is are e ↦
      let g : second_equation end f params (equation_taken end behind) ≡ whole t = sym (ap (function_params end f) e) ∙ h in
      elim (equation_taking end behind) [
        | eq_misses at o m ↦ never _ t at g (ap (λ (x : Taken (Option Equation)). (second_equation end f params x).stuck) m)
        | eq_stands us vs e0 split i0 m ↦
            subst (λ (x : List Word). IsFunction end (f ∷ x) t) (ap (λ (x : List Word). ps ++ x) (sym split) ∙ sym is)
            (equations_of end f two ps params us vs e0 t make are i0 (sym (ap (second_equation end f params) m) ∙ g))
      ]
]

named_of : (end : ℕ) (f : Word) (rest : List Word) (t : FunctionText) (sign : Bool) → is_function_sign f ≡ sign → can_name_function f ≡ true → function_params end f (parameters_taken sign end rest) ≡ whole t → IsFunction end (f ∷ rest) t
named_of end f rest t true is gf h = params_of end f true rest t (λ ps us vs params e0 e1 are i0 i1. a_sign f ps us vs params e0 e1 is are i0 i1) h
named_of end f rest t false is gf h = params_of end f false rest t (λ ps us vs params e0 e1 are i0 i1. a_function f ps us vs params e0 e1 (left_of (is_plain f) (is_function_sign f) gf is) are i0 i1) h

function_of : (end : ℕ) (ws : List Word) (t : FunctionText) → function_told end ws ≡ whole t → IsFunction end ws t
function_of end ws t h = elim (taking can_name_function end ws) [
  | misses at e ↦ never _ t at h (ap (λ (x : Taken (Option Word)). (function_named end x).stuck) e)
  | stands f rest is gf e ↦ subst (λ (x : List Word). IsFunction end x t) (sym is) (named_of end f rest t (is_function_sign f) refl gf (sym (ap (function_named end) e) ∙ h))
]

params_read : (end : ℕ) (f : Word) (two : Bool) (ps us vs params : List Word) (e0 e1 : Equation) → AreParameters two ps params → IsEquation end us vs e0 → IsEquation end vs [] e1
    → function_params end f (parameters_taken two end (ps ++ (us ++ vs))) ≡ whole (some_function f params e0 e1)
params_read end f two ps us vs params e0 e1 are i0 i1 =
    ap (function_params end f) (parameters_are two end ps params (us ++ vs) are)
    ∙ ap (second_equation end f params) (equation_are end us vs e0 i0 (begins_bar end vs [] e1 i1))
    ∙ ap (λ (x : List Word). both_equations f params (Some e0) (equation_taken end x)) (sym (append-nil vs))
    ∙ ap (both_equations f params (Some e0)) (equation_are end vs [] e1 i1 tt)

function_read : (end : ℕ) (ws : List Word) (t : FunctionText) → IsFunction end ws t → function_told end ws ≡ whole t
function_read end _ _ (a_function f ps us vs params e0 e1 gf are i0 i1) =
    ap (function_named end) (token_yes can_name_function end f (ps ++ (us ++ vs)) (ap (λ b. b || is_function_sign f) gf))
    ∙ ap (λ s. function_params end f (parameters_taken s end (ps ++ (us ++ vs)))) (plain_no_sign f gf)
    ∙ params_read end f false ps us vs params e0 e1 are i0 i1
function_read end _ _ (a_sign f ps us vs params e0 e1 gf are i0 i1) =
    ap (function_named end) (token_yes can_name_function end f (ps ++ (us ++ vs)) (right_true (is_plain f) (is_function_sign f) gf))
    ∙ ap (λ s. function_params end f (parameters_taken s end (ps ++ (us ++ vs)))) gf
    ∙ params_read end f true ps us vs params e0 e1 are i0 i1

pub function-law : FunctionLaw
function-law end ws t = (function_of end ws t, function_read end ws t)
