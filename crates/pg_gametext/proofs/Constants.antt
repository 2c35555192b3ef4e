-- Constants and predicates: what is told whole is what they are.
use Rattle.std.proofs.Common.{◌≡◌, ◌∙◌, ℕ, Bool, true, false, ◌||◌, List, [], ◌∷◌, ◌++◌, take, drop, refl, sym, ap, subst, Option, Some, codes, if◌then◌else◌}
use Rattle.std.proofs.lemmas.List.{take-append-drop}
use Rattle.pg_base.specs.Tokens.{Word}
use Rattle.pg_script.specs.Data.{Part}
use Rattle.pg_script.specs.Marks.{place}
use Rattle.pg_gametext.specs.Commands.{is_plain, is_word}
use Rattle.pg_gametext.specs.Forms.{Mark, Open, AtMost, Below, mark, is_open, is_assign, is_predicate_sign, Told, Taken, token_taken, one_token, length_before, part_taken, parameters_taken, can_name_constant, ConstantText, constant_with, constant_behind, constant_part, constant_assigned, constant_named, constant_told, begins_open, PredicateText, predicate_assigned, predicate_params, predicate_named, predicate_told}
use Rattle.pg_gametext.specs.Grammar.{AreParameters, parameters, IsConstant, a_constant, IsPredicate, a_predicate, a_relation, a_proposition, whole, ConstantLaw, PredicateLaw}
use Rattle.pg_gametext.proofs.Taking.{never, left_of, right_true, opens, assigns, token_yes, stands, misses, taking, one_stands, one_is, none_before, part_is, plain_mark, params_stand, params_miss, parameters_taking, parameters_are}

-- ---- constants

abbrev is_as : Word → Bool
is_as = is_word (codes "as")

behind_of : (end : ℕ) (w a : Word) (body : List Word) (c : ConstantText) → can_name_constant w ≡ true → is_assign a ≡ true → constant_part end w (part_taken is_as end body) ≡ whole c → IsConstant (w ∷ a ∷ body) c
behind_of end w a body c gw ga h =
    let n = length_before is_as body in
    let part : Part = record { tokens = take n body; end = place end (drop n body) } in
    elim (taking is_as end (drop n body)) [
      | misses at e ↦ never _ c at h (ap (λ (t : Taken (Option Word)). (constant_behind end w part t).stuck) e)
      | stands s rest is gs e ↦
          let g : constant_with w part (one_token is_plain end rest) ≡ whole c = sym (ap (constant_behind end w part) e) ∙ h in
          let one = one_stands is_plain end rest (ap (λ (t : Told ConstantText). t.stuck) g) in
          let behind : drop n body ≡ s ∷ one.token ∷ [] = is ∙ ap (λ (x : List Word). s ∷ x) one.one.0 in
          let body_is : take n body ++ s ∷ one.token ∷ [] ≡ body = ap (λ (x : List Word). take n body ++ x) (sym behind) ∙ take-append-drop n body in
          let made = a_constant w a s one.token (take n body) gw ga (none_before is_as body) gs one.one.1 in
          let with_end = ap (λ (x : List Word). let t : ConstantText = record { name = Some w; body = Some (record { tokens = take n body; end = place end x }); equation_name = Some one.token } in t) (sym behind) in
          let with_name = ap (λ (o : Option Word). let t : ConstantText = record { name = Some w; body = Some part; equation_name = o } in t) (sym one.value) in
          subst (λ (x : List Word). IsConstant (w ∷ a ∷ x) c) body_is (subst (IsConstant (w ∷ a ∷ take n body ++ s ∷ one.token ∷ [])) (with_end ∙ with_name ∙ ap (λ (t : Told ConstantText). t.value) g) made)
    ]

assigned_of : (end : ℕ) (w : Word) (rest : List Word) (c : ConstantText) → can_name_constant w ≡ true → constant_assigned end w (token_taken is_assign end rest) ≡ whole c → IsConstant (w ∷ rest) c
assigned_of end w rest c gw h = elim (taking is_assign end rest) [
  | misses at e ↦ never _ c at h (ap (λ (t : Taken (Option Word)). (constant_assigned end w t).stuck) e)
  | stands a body is ga e ↦ subst (λ (x : List Word). IsConstant (w ∷ x) c) (sym is) (behind_of end w a body c gw ga (sym (ap (constant_assigned end w) e) ∙ h))
]

constant_of : (end : ℕ) (ws : List Word) (c : ConstantText) → constant_told end ws ≡ whole c → IsConstant ws c
constant_of end ws c h = elim (taking can_name_constant end ws) [
  | misses at e ↦ never _ c at h (ap (λ (t : Taken (Option Word)). (constant_named end t).stuck) e)
  | stands w rest is gw e ↦ subst (λ (x : List Word). IsConstant x c) (sym is) (assigned_of end w rest c gw (sym (ap (constant_named end) e) ∙ h))
]

constant_read : (end : ℕ) (ws : List Word) (c : ConstantText) → IsConstant ws c → constant_told end ws ≡ whole c
constant_read end _ _ (a_constant c a s n ws gc ga none gs gn) =
    let behind = s ∷ n ∷ [] in
    let part : Part = record { tokens = ws; end = s.at } in
    ap (constant_named end) (token_yes can_name_constant end c (a ∷ ws ++ behind) gc)
    ∙ ap (constant_assigned end c) (token_yes is_assign end a (ws ++ behind) ga)
    ∙ ap (constant_part end c) (part_is is_as end ws behind none gs)
    ∙ ap (constant_behind end c part) (token_yes is_as end s (n ∷ []) gs)
    ∙ ap (constant_with c part) (one_is is_plain end n gn)

pub constant-law : ConstantLaw
constant-law end ws c = (constant_of end ws c, constant_read end ws c)

-- ---- predicates

abbrev can_name_predicate : Word → Bool
can_name_predicate w = is_plain w || is_predicate_sign w

abbrev relates : Mark → Bool
relates m = elim m as (λ _. Bool) [ AtMost ↦ true | Below ↦ true | _ ↦ false ]

plain_no_sign : (w : Word) → is_plain w ≡ true → is_predicate_sign w ≡ false
plain_no_sign w e = ap relates (plain_mark w e)

abbrev some_predicate : ℕ → Word → (params ws : List Word) → PredicateText
some_predicate end p params ws = record { name = Some p; params = params; body = Some (record { tokens = ws; end = end }) }

-- behind the parameters
record Assigned (end : ℕ) (p : Word) (params ws : List Word) (t : PredicateText) : Type 0 where
  sign : Word
  body : List Word
  split : ws ≡ sign ∷ body
  good : is_assign sign ≡ true
  value : some_predicate end p params body ≡ t

predicate_assigned_of : (end : ℕ) (p : Word) (params ws : List Word) (t : PredicateText) → predicate_assigned p params end (token_taken is_assign end ws) ≡ whole t → Assigned end p params ws t
predicate_assigned_of end p params ws t h = elim (taking is_assign end ws) [
  | misses at e ↦ never _ t at h (ap (λ (x : Taken (Option Word)). (predicate_assigned p params end x).stuck) e)
  | stands a body is ga e ↦ record { sign = a; body = body; split = is; good = ga; value = ap (λ (x : Told PredicateText). x.value) (sym (ap (predicate_assigned p params end) e) ∙ h) }
]

-- with parameters
params_of : (end : ℕ) (p : Word) (two : Bool) (rest : List Word) (t : PredicateText)
    → ((a : Word) (ps params ws : List Word) → AreParameters two ps params → is_assign a ≡ true → IsPredicate end (p ∷ ps ++ a ∷ ws) (some_predicate end p params ws))
    → predicate_params end p (parameters_taken two end rest) ≡ whole t → IsPredicate end (p ∷ rest) t
params_of end p two rest t make h = elim (parameters_taking two end rest) [
  | params_miss at names e ↦ never _ t at h (ap (λ (x : Taken (List Word)). (predicate_params end p x).stuck) e)
  | params_stand ps params behind is are e ↦
      let s = predicate_assigned_of end p params behind t (sym (ap (predicate_params end p) e) ∙ h) in
      subst (λ (x : List Word). IsPredicate end (p ∷ x) t) (ap (λ (x : List Word). ps ++ x) (sym s.split) ∙ sym is) (subst (IsPredicate end (p ∷ ps ++ s.sign ∷ s.body)) s.value (make s.sign ps params s.body are s.good))
]

abbrev predicate_behind : ℕ → Word → List Word → Bool → Bool → Told PredicateText
predicate_behind end p rest sign parens = if sign || parens then predicate_params end p (parameters_taken sign end rest) else predicate_assigned p [] end (token_taken is_assign end rest)

predicate_behind_of : (end : ℕ) (p : Word) (rest : List Word) (t : PredicateText) (sign parens : Bool) → is_predicate_sign p ≡ sign → can_name_predicate p ≡ true → predicate_behind end p rest sign parens ≡ whole t → IsPredicate end (p ∷ rest) t
predicate_behind_of end p rest t true parens is gp h = params_of end p true rest t (λ a ps params ws are ga. a_relation p a ps params ws is are ga) h
predicate_behind_of end p rest t false true is gp h = params_of end p false rest t (λ a ps params ws are ga. a_predicate p a ps params ws (left_of (is_plain p) (is_predicate_sign p) gp is) are ga) h
predicate_behind_of end p rest t false false is gp h =
    let s = predicate_assigned_of end p [] rest t h in
    subst (λ (x : List Word). IsPredicate end (p ∷ x) t) (sym s.split) (subst (IsPredicate end (p ∷ s.sign ∷ s.body)) s.value (a_proposition p s.sign s.body (left_of (is_plain p) (is_predicate_sign p) gp is) s.good))

predicate_of : (end : ℕ) (ws : List Word) (t : PredicateText) → predicate_told end ws ≡ whole t → IsPredicate end ws t
predicate_of end ws t h = elim (taking can_name_predicate end ws) [
  | misses at e ↦ never _ t at h (ap (λ (x : Taken (Option Word)). (predicate_named end x).stuck) e)
  | stands p rest is gp e ↦ subst (λ (x : List Word). IsPredicate end x t) (sym is) (predicate_behind_of end p rest t (is_predicate_sign p) (begins_open rest) refl gp (sym (ap (predicate_named end) e) ∙ h))
]

opens_parameters : (two : Bool) (ps params rest : List Word) → AreParameters two ps params → begins_open (ps ++ rest) ≡ true
opens_parameters two _ _ rest (parameters o c ws go plain has gc) = go

assign_not_open : (a : Word) → is_assign a ≡ true → is_open a ≡ false
assign_not_open a e = elim (mark a) as (λ m. assigns m ≡ true → opens m ≡ false) [ Open ↦ λ e. absurd cc | _ ↦ λ e. refl ] e

params_read : (end : ℕ) (p a : Word) (two : Bool) (ps params ws : List Word) → AreParameters two ps params → is_assign a ≡ true → predicate_params end p (parameters_taken two end (ps ++ a ∷ ws)) ≡ whole (some_predicate end p params ws)
params_read end p a two ps params ws are ga =
    ap (predicate_params end p) (parameters_are two end ps params (a ∷ ws) are)
    ∙ ap (predicate_assigned p params end) (token_yes is_assign end a ws ga)

predicate_read : (end : ℕ) (ws : List Word) (t : PredicateText) → IsPredicate end ws t → predicate_told end ws ≡ whole t
predicate_read end _ _ (a_predicate p a ps params ws gp are ga) =
    let rest = ps ++ a ∷ ws in
    ap (predicate_named end) (token_yes can_name_predicate end p rest (ap (λ b. b || is_predicate_sign p) gp))
    ∙ ap (λ s. predicate_behind end p rest s (begins_open rest)) (plain_no_sign p gp)
    ∙ ap (predicate_behind end p rest false) (opens_parameters false ps params (a ∷ ws) are)
    ∙ params_read end p a false ps params ws are ga
predicate_read end _ _ (a_relation p a ps params ws gp are ga) =
    let rest = ps ++ a ∷ ws in
    ap (predicate_named end) (token_yes can_name_predicate end p rest (right_true (is_plain p) (is_predicate_sign p) gp))
    ∙ ap (λ s. predicate_behind end p rest s (begins_open rest)) gp
    ∙ params_read end p a true ps params ws are ga
predicate_read end _ _ (a_proposition p a ws gp ga) =
    let rest = a ∷ ws in
    ap (predicate_named end) (token_yes can_name_predicate end p rest (ap (λ b. b || is_predicate_sign p) gp))
    ∙ ap (λ s. predicate_behind end p rest s (begins_open rest)) (plain_no_sign p gp)
    ∙ ap (predicate_behind end p rest false) (assign_not_open a ga)
    ∙ ap (predicate_assigned p [] end) (token_yes is_assign end a ws ga)

pub predicate-law : PredicateLaw
predicate-law end ws t = (predicate_of end ws t, predicate_read end ws t)
