-- What stands behind the words of moves and behind `Hint`, in two lists that begin alike.
use Rattle.std.proofs.Common.{◌≡◌, ℕ, zero, suc, ◌+◌, ◌-◌, Bool, true, false, List, [], ◌∷◌, ◌++◌, refl, Option, Some, None, Ok, Err, if◌then◌else◌, nat_le}
use Rattle.pg_base.specs.declared.token.Wanted.TheVariants as wanted
use Rattle.pg_base.specs.Tokens.{Word}
use Rattle.pg_script.specs.declared.fault.ScriptFault.{ScriptFault}
use Rattle.pg_script.specs.declared.fault.ScriptFault.TheVariants.{Expected, TooMany, Deep}
use Rattle.pg_script.specs.declared.mark.Mark.{Mark}
use Rattle.pg_script.specs.declared.mark.Mark.TheVariants.{Open, Close, Free, Assign, At as AtWord, With, LeftArrow, Comma, CloseBracket, OpenBracket, Colon, Text}
use Rattle.pg_script.specs.declared.span.Until.TheVariants as until
use Rattle.pg_script.specs.declared.head.Head.{Head}
use Rattle.pg_script.specs.declared.head.Head.TheVariants as head
use Rattle.pg_script.specs.declared.hint.Flags.{Flags}
use Rattle.pg_script.specs.declared.hint.HintOption.{HintOption}
use Rattle.pg_script.specs.Data.{Part, Rule, Shape, plain, exact, intro, apply, rewrite, split, uses, symm, have, revert, by_cases, unknown, Remark}
use Rattle.pg_script.specs.Marks.{mark, is_name}
use Rattle.pg_script.specs.Lines.{Read, and_then, unless_fault, with_first, before, part_at, after_close, expr_at, ended, name_at, names_fault, steps_fault, place_at, deep_fault, rule_at, no_rule, rule_end, rules_at, bracketed_rules, no_term, terms_after, terms_at, exact_at, after_assign, option_of, value_of, with_option, expected_or, option_at, value_at, flag_at, maybe_flag, flags_at, is_given, text_at, hint_at, apply_at, rewrite_at, intro_at, names_after, split_at, have_after, have_formula, have_of, cases_of, shape_at}
use Rattle.pg_script.proofs.Alike.{Along, AtToken, Two, Alike, wrong, Local, ok_local, by_token, then_local, Passes, Stops, passed, faulty, Final, then_final, map_final, final_by_token, stops_moved, stops_map}
use Rattle.pg_script.proofs.Counts.{part_local}
use Rattle.pg_script.proofs.Readers.{map_alike, first_alike, close_local, expr_local}

-- ---- names, places and ends

name-choice : (c : Bool) (t : Two) (w : Word) (fs : List Word) → AtToken t.Front w.at → Along t.Front fs
    → Alike t (if c then Ok (w, fs ++ t.back) else Err (Expected w.at wanted.Name)) (if c then Ok (w, fs ++ t.other) else Err (Expected w.at wanted.Name))
name-choice true t w fs here a = ok_local w t fs a
name-choice false t w fs here a = wrong (Expected w.at wanted.Name) refl refl (here.0 wanted.Name)

name_local : Local (λ end ws. name_at end ws)
name_local = by_token (λ end ws. name_at end ws) (λ P end e. e _) (λ t w fs here a. name-choice (is_name w) t w fs here a)

pub ended_final : {V : Type 0} (x : V) → Final (λ end ws. ended x ws)
ended_final x = final_by_token (λ end ws. ended x ws) (λ P end e. tt) (λ t w fs here a. faulty (Expected w.at wanted.EndOfItem) refl refl (here.0 wanted.EndOfItem))

ok_final : {V : Type 0} (x : V) → Final (λ end ws. Ok x)
ok_final x t front a = passed tt

names-passes : {V : Type 0} (x : V) (P : ScriptFault → Type 0) (ws : List Word) → Along P ws → Passes P (unless_fault (names_fault ws) x)
names-passes x P [] a = tt
names-passes x P (w ∷ ws) a = elim (is_name w) as (λ c. Passes P (unless_fault (if c then names_fault ws else Some (Expected w.at wanted.Name)) x)) [
  | true ↦ names-passes x P ws a.1
  | false ↦ a.0.0 _
]

names-stop : {V : Type 0} (x y : V) (t : Two) (front : List Word) → Along t.Front front → Stops t (unless_fault (names_fault (front ++ t.back)) x) (unless_fault (names_fault (front ++ t.other)) y)
names-stop x y t [] a = passed (names-passes x t.Past t.back t.along)
names-stop x y t (w ∷ ws) a =
    elim (is_name w) as (λ c. Stops t (unless_fault (if c then names_fault (ws ++ t.back) else Some (Expected w.at wanted.Name)) x) (unless_fault (if c then names_fault (ws ++ t.other) else Some (Expected w.at wanted.Name)) y)) [
      | true ↦ names-stop x y t ws a.1
      | false ↦ faulty (Expected w.at wanted.Name) refl refl (a.0.0 wanted.Name)
    ]

steps-passes : {V : Type 0} (x : V) (room : ℕ) (P : ScriptFault → Type 0) (ws : List Word) → Along P ws → Passes P (unless_fault (steps_fault room ws) x)
steps-passes x room P [] a = tt
steps-passes x zero P (w ∷ ws) a = elim (is_name w) as (λ c. Passes P (unless_fault (if c then Some (TooMany w.at) else Some (Expected w.at wanted.Name)) x)) [
  | true ↦ a.0.1
  | false ↦ a.0.0 _
]
steps-passes x (suc room) P (w ∷ ws) a = elim (is_name w) as (λ c. Passes P (unless_fault (if c then steps_fault room ws else Some (Expected w.at wanted.Name)) x)) [
  | true ↦ steps-passes x room P ws a.1
  | false ↦ a.0.0 _
]

steps-stop : {V : Type 0} (x y : V) (room : ℕ) (t : Two) (front : List Word) → Along t.Front front → Stops t (unless_fault (steps_fault room (front ++ t.back)) x) (unless_fault (steps_fault room (front ++ t.other)) y)
steps-stop x y room t [] a = passed (steps-passes x room t.Past t.back t.along)
steps-stop x y zero t (w ∷ ws) a =
    elim (is_name w) as (λ c. Stops t (unless_fault (if c then Some (TooMany w.at) else Some (Expected w.at wanted.Name)) x) (unless_fault (if c then Some (TooMany w.at) else Some (Expected w.at wanted.Name)) y)) [
      | true ↦ faulty (TooMany w.at) refl refl a.0.1
      | false ↦ faulty (Expected w.at wanted.Name) refl refl (a.0.0 wanted.Name)
    ]
steps-stop x y (suc room) t (w ∷ ws) a =
    elim (is_name w) as (λ c. Stops t (unless_fault (if c then steps_fault room (ws ++ t.back) else Some (Expected w.at wanted.Name)) x) (unless_fault (if c then steps_fault room (ws ++ t.other) else Some (Expected w.at wanted.Name)) y)) [
      | true ↦ steps-stop x y room t ws a.1
      | false ↦ faulty (Expected w.at wanted.Name) refl refl (a.0.0 wanted.Name)
    ]

abbrev deep_mark : (depth at : ℕ) → Mark → (same deeper outer : Option ScriptFault) → Option ScriptFault
deep_mark depth at m same deeper outer = elim m [
  | Open ↦ if nat_le 100 depth then Some (Deep at) else deeper
  | Close ↦ outer
  | _ ↦ same
]

deep-choice : {V : Type 0} (x y : V) (depth at : ℕ) (m : Mark) (t : Two) (same deeper outer same' deeper' outer' : Option ScriptFault) → AtToken t.Front at → Stops t (unless_fault same x) (unless_fault same' y)
    → Stops t (unless_fault deeper x) (unless_fault deeper' y) → Stops t (unless_fault outer x) (unless_fault outer' y) → Stops t (unless_fault (deep_mark depth at m same deeper outer) x) (unless_fault (deep_mark depth at m same' deeper' outer') y)
deep-choice x y depth at Open t same deeper outer same' deeper' outer' here a b c =
    elim (nat_le 100 depth) as (λ z. Stops t (unless_fault (if z then Some (Deep at) else deeper) x) (unless_fault (if z then Some (Deep at) else deeper') y)) [
      | true ↦ faulty (Deep at) refl refl here.2
      | false ↦ b
    ]
deep-choice x y depth at Close t same deeper outer same' deeper' outer' here a b c = c
deep-choice x y depth at m t same deeper outer same' deeper' outer' here a b c = a

deep-passing : {V : Type 0} (x : V) (depth at : ℕ) (m : Mark) (P : ScriptFault → Type 0) (same deeper outer : Option ScriptFault) → AtToken P at → Passes P (unless_fault same x)
    → Passes P (unless_fault deeper x) → Passes P (unless_fault outer x) → Passes P (unless_fault (deep_mark depth at m same deeper outer) x)
deep-passing x depth at Open P same deeper outer here a b c =
    elim (nat_le 100 depth) as (λ z. Passes P (unless_fault (if z then Some (Deep at) else deeper) x)) [ true ↦ here.2 | false ↦ b ]
deep-passing x depth at Close P same deeper outer here a b c = c
deep-passing x depth at m P same deeper outer here a b c = a

deep-passes : {V : Type 0} (x : V) (depth : ℕ) (P : ScriptFault → Type 0) (ws : List Word) → Along P ws → Passes P (unless_fault (deep_fault depth ws) x)
deep-passes x depth P [] a = tt
deep-passes x depth P (w ∷ ws) a =
    deep-passing x depth w.at (mark w) P (deep_fault depth ws) (deep_fault (depth + 1) ws) (deep_fault (depth - 1) ws) a.0 (deep-passes x depth P ws a.1) (deep-passes x (depth + 1) P ws a.1) (deep-passes x (depth - 1) P ws a.1)

deep-stop : {V : Type 0} (x y : V) (depth : ℕ) (t : Two) (front : List Word) → Along t.Front front → Stops t (unless_fault (deep_fault depth (front ++ t.back)) x) (unless_fault (deep_fault depth (front ++ t.other)) y)
deep-stop x y depth t [] a = passed (deep-passes x depth t.Past t.back t.along)
deep-stop x y depth t (w ∷ ws) a =
    deep-choice x y depth w.at (mark w) t (deep_fault depth (ws ++ t.back)) (deep_fault (depth + 1) (ws ++ t.back)) (deep_fault (depth - 1) (ws ++ t.back))
    (deep_fault depth (ws ++ t.other)) (deep_fault (depth + 1) (ws ++ t.other)) (deep_fault (depth - 1) (ws ++ t.other)) a.0
    (deep-stop x y depth t ws a.1) (deep-stop x y (depth + 1) t ws a.1) (deep-stop x y (depth - 1) t ws a.1)

abbrev place_mark : ℕ → Mark → (at : ℕ) → List Word → Read (Option Word)
place_mark end m at ws = elim m [
  | AtWord ↦ and_then (name_at end ws) (λ p. ended (Some p.0) p.1)
  | _ ↦ Err (Expected at wanted.AtOrEnd)
]

place-begins : (t : Two) (m : Mark) (at : ℕ) (fs : List Word) → AtToken t.Front at → Along t.Front fs → Stops t (place_mark t.end m at (fs ++ t.back)) (place_mark t.other_end m at (fs ++ t.other))
place-begins t AtWord at fs here a = then_final (λ end ws. name_at end ws) (λ x end ws. ended (Some x) ws) name_local (λ x. ended_final (Some x)) t fs a
place-begins t m at fs here a = faulty (Expected at wanted.AtOrEnd) refl refl (here.0 wanted.AtOrEnd)

place_final : Final (λ end ws. place_at end ws)
place_final = final_by_token (λ end ws. place_at end ws) (λ P end e. tt) (λ t w fs here a. place-begins t (mark w) w.at fs here a)

-- ---- rules

abbrev rule_mark : ℕ → Mark → Word → List Word → Read (Rule × List Word)
rule_mark end m w ws = elim m [
  | LeftArrow ↦ and_then (expr_at end 0 ws) (λ p. Ok (record { back = true; expr = p.0 }, p.1))
  | Free ↦ and_then (expr_at end 0 (w ∷ ws)) (λ p. Ok (record { back = false; expr = p.0 }, p.1))
  | Open ↦ and_then (expr_at end 0 (w ∷ ws)) (λ p. Ok (record { back = false; expr = p.0 }, p.1))
  | _ ↦ Err (Expected w.at wanted.Rule)
]

rule-begins : (t : Two) (m : Mark) (w : Word) (fs : List Word) → AtToken t.Front w.at → Along t.Front fs → Alike t (rule_mark t.end m w (fs ++ t.back)) (rule_mark t.other_end m w (fs ++ t.other))
rule-begins t LeftArrow w fs here a = map_alike t (λ e. record { back = true; expr = e }) (expr_at t.end 0 (fs ++ t.back)) (expr_at t.other_end 0 (fs ++ t.other)) (expr_local 0 t fs a)
rule-begins t Free w fs here a = map_alike t (λ e. record { back = false; expr = e }) (expr_at t.end 0 (w ∷ fs ++ t.back)) (expr_at t.other_end 0 (w ∷ fs ++ t.other)) (expr_local 0 t (w ∷ fs) (here, a))
rule-begins t Open w fs here a = map_alike t (λ e. record { back = false; expr = e }) (expr_at t.end 0 (w ∷ fs ++ t.back)) (expr_at t.other_end 0 (w ∷ fs ++ t.other)) (expr_local 0 t (w ∷ fs) (here, a))
rule-begins t m w fs here a = wrong (Expected w.at wanted.Rule) refl refl (here.0 wanted.Rule)

rule_local : Local (λ end ws. rule_at end ws)
rule_local = by_token (λ end ws. rule_at end ws) (λ P end e. e _) (λ t w fs here a. rule-begins t (mark w) w fs here a)

abbrev no_rule_mark : Mark → (at : ℕ) → ScriptFault
no_rule_mark m at = elim m [ Free ↦ TooMany at | Open ↦ TooMany at | LeftArrow ↦ TooMany at | _ ↦ Expected at wanted.Rule ]

no-rule-at : (P : ScriptFault → Type 0) (m : Mark) (at : ℕ) → AtToken P at → P (no_rule_mark m at)
no-rule-at P Free at h = h.1
no-rule-at P Open at h = h.1
no-rule-at P LeftArrow at h = h.1
no-rule-at P m at h = h.0 _

no_rule_local : {V : Type 0} → Local (λ end ws. let r : Read (V × List Word) = Err (no_rule end ws) in r)
no_rule_local {V} = by_token (λ end ws. let r : Read (V × List Word) = Err (no_rule end ws) in r) (λ P end e. e _) (λ t w fs here a. wrong (no_rule_mark (mark w) w.at) refl refl (no-rule-at t.Front (mark w) w.at here))

abbrev rule_end_mark : Mark → (at : ℕ) → List Word → Read (Bool × List Word)
rule_end_mark m at ws = elim m [
  | Comma ↦ Ok (true, ws)
  | CloseBracket ↦ Ok (false, ws)
  | _ ↦ Err (Expected at wanted.CommaOrBracket)
]

rule-end-begins : (t : Two) (m : Mark) (at : ℕ) (fs : List Word) → AtToken t.Front at → Along t.Front fs → Alike t (rule_end_mark m at (fs ++ t.back)) (rule_end_mark m at (fs ++ t.other))
rule-end-begins t Comma at fs here a = ok_local true t fs a
rule-end-begins t CloseBracket at fs here a = ok_local false t fs a
rule-end-begins t m at fs here a = wrong (Expected at wanted.CommaOrBracket) refl refl (here.0 wanted.CommaOrBracket)

rule_end_local : Local (λ end ws. rule_end end ws)
rule_end_local = by_token (λ end ws. rule_end end ws) (λ P end e. e _) (λ t w fs here a. rule-end-begins t (mark w) w.at fs here a)

abbrev rules_more : (room : ℕ) → Rule → Bool → ℕ → List Word → Read (List Rule × List Word)
rules_more room x b end ws = if b then with_first x (rules_at room end ws) else Ok (x ∷ [], ws)

rules-more : (room : ℕ) (x : Rule) (b : Bool) → Local (λ end ws. rules_at room end ws) → Local (rules_more room x b)
rules-more room x true l t front a = first_alike t x (rules_at room t.end (front ++ t.back)) (rules_at room t.other_end (front ++ t.other)) (l t front a)
rules-more room x false l t front a = ok_local (x ∷ []) t front a

rules_local : (room : ℕ) → Local (λ end ws. rules_at room end ws)
rules_local zero = no_rule_local
rules_local (suc room) =
    then_local (λ end ws. rule_at end ws) (λ x end ws. and_then (rule_end end ws) (λ q. rules_more room x q.0 end q.1)) rule_local
    (λ x. then_local (λ end ws. rule_end end ws) (λ b. rules_more room x b) rule_end_local (λ b. rules-more room x b (rules_local room)))

abbrev bracket_mark : (room end : ℕ) → Mark → (at : ℕ) → List Word → Read (List Rule × List Word)
bracket_mark room end m at ws = elim m [ OpenBracket ↦ rules_at room end ws | _ ↦ Err (Expected at wanted.OpenBracket) ]

bracket-begins : (room : ℕ) (t : Two) (m : Mark) (at : ℕ) (fs : List Word) → AtToken t.Front at → Along t.Front fs → Alike t (bracket_mark room t.end m at (fs ++ t.back)) (bracket_mark room t.other_end m at (fs ++ t.other))
bracket-begins room t OpenBracket at fs here a = rules_local room t fs a
bracket-begins room t m at fs here a = wrong (Expected at wanted.OpenBracket) refl refl (here.0 wanted.OpenBracket)

bracketed_local : (room : ℕ) → Local (λ end ws. bracketed_rules room end ws)
bracketed_local room = by_token (λ end ws. bracketed_rules room end ws) (λ P end e. e _) (λ t w fs here a. bracket-begins room t (mark w) w.at fs here a)

-- ---- terms

abbrev no_term_mark : Mark → (at : ℕ) → ScriptFault
no_term_mark m at = elim m [ Comma ↦ Expected at wanted.Term | Close ↦ Expected at wanted.Term | _ ↦ TooMany at ]

no-term-at : (P : ScriptFault → Type 0) (m : Mark) (at : ℕ) → AtToken P at → P (no_term_mark m at)
no-term-at P Comma at h = h.0 _
no-term-at P Close at h = h.0 _
no-term-at P m at h = h.1

no_term_final : {V : Type 0} → Final (λ end ws. let r : Read V = Err (no_term end ws) in r)
no_term_final {V} = final_by_token (λ end ws. let r : Read V = Err (no_term end ws) in r) (λ P end e. e _) (λ t w fs here a. faulty (no_term_mark (mark w) w.at) refl refl (no-term-at t.Front (mark w) w.at here))

before-is : {V : Type 0} (x : V) (r : Read (List V)) → before x r ≡ and_then r (λ xs. Ok (x ∷ xs))
before-is x (Ok xs) = refl
before-is x (Err e) = refl

before-stops : {V : Type 0} (t : Two) (x : V) (r s : Read (List V)) → Stops t r s → Stops t (before x r) (before x s)
before-stops t x r s h = stops_moved t _ _ _ _ (before-is x r) (before-is x s) (stops_map t r s (λ xs. x ∷ xs) h)

terms-more : (room : ℕ) (p : Part) → Final (λ end ws. terms_at room end ws) → Final (λ end ws. terms_after p ws (λ rest. terms_at room end rest))
terms-more room p l =
    final_by_token (λ end ws. terms_after p ws (λ rest. terms_at room end rest)) (λ P end e. tt)
    (λ t w fs here a. before-stops t p (terms_at room t.end (fs ++ t.back)) (terms_at room t.other_end (fs ++ t.other)) (l t fs a))

terms_final : (room : ℕ) → Final (λ end ws. terms_at room end ws)
terms_final zero = no_term_final
terms_final (suc room) =
    then_final (λ end ws. part_at wanted.Term until.Comma end ws) (λ p end ws. terms_after p ws (λ rest. terms_at room end rest)) (part_local wanted.Term until.Comma)
    (λ p. terms-more room p (terms_final room))

-- ---- forms

exact_final : Final (λ end ws. exact_at end ws)
exact_final = then_final (λ end ws. expr_at end 0 ws) (λ e end ws. ended e ws) (expr_local 0) (λ e. ended_final e)

apply_final : Final (λ end ws. apply_at end ws)
apply_final = then_final (λ end ws. expr_at end 0 ws) (λ e end ws. and_then (place_at end ws) (λ h. Ok (apply e h))) (expr_local 0) (λ e. map_final (λ end ws. place_at end ws) (λ h. apply e h) place_final)

rewrite_final : (room : ℕ) → Final (λ end ws. rewrite_at room end ws)
rewrite_final room =
    then_final (λ end ws. bracketed_rules room end ws) (λ rules end ws. and_then (place_at end ws) (λ h. Ok (rewrite rules h))) (bracketed_local room)
    (λ rules. map_final (λ end ws. place_at end ws) (λ h. rewrite rules h) place_final)

intro_final : (room : ℕ) → Final (λ end ws. intro_at room end ws)
intro_final room = final_by_token (λ end ws. intro_at room end ws) (λ P end e. e _) (λ t w fs here a. steps-stop (intro (w ∷ fs ++ t.back)) (intro (w ∷ fs ++ t.other)) room t (w ∷ fs) (here, a))

abbrev with_mark : Mark → (at : ℕ) → List Word → Read (List Word)
with_mark m at ws = elim m [ With ↦ unless_fault (names_fault ws) ws | _ ↦ Err (Expected at wanted.WithOrEnd) ]

with-begins : (t : Two) (m : Mark) (at : ℕ) (fs : List Word) → AtToken t.Front at → Along t.Front fs → Stops t (with_mark m at (fs ++ t.back)) (with_mark m at (fs ++ t.other))
with-begins t With at fs here a = names-stop (fs ++ t.back) (fs ++ t.other) t fs a
with-begins t m at fs here a = faulty (Expected at wanted.WithOrEnd) refl refl (here.0 wanted.WithOrEnd)

with_final : Final (λ end ws. names_after ws)
with_final = final_by_token (λ end ws. names_after ws) (λ P end e. tt) (λ t w fs here a. with-begins t (mark w) w.at fs here a)

split_final : Final (λ end ws. split_at end ws)
split_final = then_final (λ end ws. name_at end ws) (λ x end ws. and_then (names_after ws) (λ names. Ok (split x names))) name_local (λ x. map_final (λ end ws. names_after ws) (λ names. split x names) with_final)

have_after_final : (name : Word) (formula : Part) → Final (λ end ws. have_after end name formula ws)
have_after_final name formula =
    final_by_token (λ end ws. have_after end name formula ws) (λ P end e. tt)
    (λ t w fs here a. map_final (λ end ws. exact_at end ws) (λ e. have name (Some formula) (Some e)) exact_final t fs a)

have_formula_final : (name : Word) → Final (λ end ws. have_formula end name ws)
have_formula_final name =
    then_final (λ end ws. part_at wanted.Formula until.Assign end ws) (λ p end ws. have_after end name p ws) (part_local wanted.Formula until.Assign) (λ p. have_after_final name p)

abbrev have_mark : ℕ → Word → Mark → (at : ℕ) → List Word → Read Shape
have_mark end name m at ws = elim m [
  | Colon ↦ have_formula end name ws
  | Assign ↦ and_then (exact_at end ws) (λ e. Ok (have name None (Some e)))
  | _ ↦ Err (Expected at wanted.ColonOrAssign)
]

have-begins : (name : Word) (t : Two) (m : Mark) (at : ℕ) (fs : List Word) → AtToken t.Front at → Along t.Front fs → Stops t (have_mark t.end name m at (fs ++ t.back)) (have_mark t.other_end name m at (fs ++ t.other))
have-begins name t Colon at fs here a = have_formula_final name t fs a
have-begins name t Assign at fs here a = map_final (λ end ws. exact_at end ws) (λ e. have name None (Some e)) exact_final t fs a
have-begins name t m at fs here a = faulty (Expected at wanted.ColonOrAssign) refl refl (here.0 wanted.ColonOrAssign)

have_final : (name : Word) → Final (λ end ws. have_of end name ws)
have_final name = final_by_token (λ end ws. have_of end name ws) (λ P end e. e _) (λ t w fs here a. have-begins name t (mark w) w.at fs here a)

abbrev cases_mark : ℕ → Word → Mark → (at : ℕ) → List Word → Read Shape
cases_mark end name m at ws = elim m [
  | Colon ↦ and_then (part_at wanted.Formula until.End end ws) (λ p. Ok (by_cases name p.0))
  | _ ↦ Err (Expected at wanted.Colon)
]

cases-begins : (name : Word) (t : Two) (m : Mark) (at : ℕ) (fs : List Word) → AtToken t.Front at → Along t.Front fs → Stops t (cases_mark t.end name m at (fs ++ t.back)) (cases_mark t.other_end name m at (fs ++ t.other))
cases-begins name t Colon at fs here a = then_final (λ end ws. part_at wanted.Formula until.End end ws) (λ p end ws. Ok (by_cases name p)) (part_local wanted.Formula until.End) (λ p. ok_final (by_cases name p)) t fs a
cases-begins name t m at fs here a = faulty (Expected at wanted.Colon) refl refl (here.0 wanted.Colon)

cases_final : (name : Word) → Final (λ end ws. cases_of end name ws)
cases_final name = final_by_token (λ end ws. cases_of end name ws) (λ P end e. e _) (λ t w fs here a. cases-begins name t (mark w) w.at fs here a)

pub shape_final : (h : Head) (room : ℕ) → Final (λ end ws. shape_at h room end ws)
shape_final head.Plain room = ended_final plain
shape_final head.Exact room = map_final (λ end ws. exact_at end ws) (λ e. exact e) exact_final
shape_final head.Intro room = intro_final room
shape_final head.Apply room = apply_final
shape_final head.Rw room = rewrite_final room
shape_final head.Split room = split_final
shape_final head.Use room = map_final (λ end ws. terms_at room end ws) (λ terms. uses terms) (terms_final room)
shape_final head.Symm room = map_final (λ end ws. place_at end ws) (λ h. symm h) place_final
shape_final head.Have room = then_final (λ end ws. name_at end ws) (λ x end ws. have_of end x ws) name_local (λ x. have_final x)
shape_final head.Revert room = then_final (λ end ws. name_at end ws) (λ x end ws. ended (revert x) ws) name_local (λ x. ended_final (revert x))
shape_final head.ByCases room = then_final (λ end ws. name_at end ws) (λ x end ws. cases_of end x ws) name_local (λ x. cases_final x)
shape_final head.Unknown room = λ t front a. deep-stop unknown unknown 0 t front a

-- ---- hints

option-choice : (o : Option HintOption) (t : Two) (at : ℕ) (fs : List Word) → AtToken t.Front at → Along t.Front fs → Alike t (and_then (expected_or wanted.HintOption at o) (λ x. Ok (x, fs ++ t.back))) (and_then (expected_or wanted.HintOption at o) (λ x. Ok (x, fs ++ t.other)))
option-choice None t at fs here a = wrong (Expected at wanted.HintOption) refl refl (here.0 wanted.HintOption)
option-choice (Some o) t at fs here a = ok_local o t fs a

option_local : (flags : Flags) → Local (λ end ws. option_at flags end ws)
option_local flags = by_token (λ end ws. option_at flags end ws) (λ P end e. e _) (λ t w fs here a. option-choice (option_of flags w) t w.at fs here a)

value-choice : (o : Option Bool) (t : Two) (at : ℕ) (fs : List Word) → AtToken t.Front at → Along t.Front fs → Alike t (and_then (expected_or wanted.TruthValue at o) (λ x. Ok (x, fs ++ t.back))) (and_then (expected_or wanted.TruthValue at o) (λ x. Ok (x, fs ++ t.other)))
value-choice None t at fs here a = wrong (Expected at wanted.TruthValue) refl refl (here.0 wanted.TruthValue)
value-choice (Some o) t at fs here a = ok_local o t fs a

value_local : Local (λ end ws. value_at end ws)
value_local = by_token (λ end ws. value_at end ws) (λ P end e. e _) (λ t w fs here a. value-choice (value_of w) t w.at fs here a)

abbrev assign_mark : Mark → (at : ℕ) → List Word → Read (List Word)
assign_mark m at ws = elim m [ Assign ↦ Ok ws | _ ↦ Err (Expected at wanted.Assign) ]

assign-begins : {V : Type 0} (g : ℕ → List Word → Read (V × List Word)) (l : Local g) (t : Two) (m : Mark) (at : ℕ) (fs : List Word) → AtToken t.Front at → Along t.Front fs
    → Alike t (and_then (assign_mark m at (fs ++ t.back)) (g t.end)) (and_then (assign_mark m at (fs ++ t.other)) (g t.other_end))
assign-begins g l t Assign at fs here a = l t fs a
assign-begins g l t m at fs here a = wrong (Expected at wanted.Assign) refl refl (here.0 wanted.Assign)

assign_local : {V : Type 0} (g : ℕ → List Word → Read (V × List Word)) → Local g → Local (λ end ws. and_then (after_assign end ws) (g end))
assign_local g l = by_token (λ end ws. and_then (after_assign end ws) (g end)) (λ P end e. e _) (λ t w fs here a. assign-begins g l t (mark w) w.at fs here a)

abbrev flag_value : Flags → HintOption → ℕ → List Word → Read (Flags × List Word)
flag_value flags o end ws = and_then (value_at end ws) (λ value. and_then (after_close end value.1) (λ rest. Ok (with_option o value.0 flags, rest)))

flag_value_local : (flags : Flags) (o : HintOption) → Local (flag_value flags o)
flag_value_local flags o =
    then_local (λ end ws. value_at end ws) (λ value end ws. and_then (after_close end ws) (λ rest. Ok (with_option o value flags, rest))) value_local (λ value. close_local (with_option o value flags))

flag_local : (flags : Flags) → Local (λ end ws. flag_at flags end ws)
flag_local flags =
    then_local (λ end ws. option_at flags end ws) (λ o end ws. and_then (after_assign end ws) (flag_value flags o end)) (option_local flags) (λ o. assign_local (flag_value flags o) (flag_value_local flags o))

abbrev flag_mark : Flags → ℕ → Mark → Word → List Word → Read (Flags × List Word)
flag_mark flags end m w ws = elim m [ Open ↦ flag_at flags end ws | _ ↦ Ok (flags, w ∷ ws) ]

flag-begins : (flags : Flags) (t : Two) (m : Mark) (w : Word) (fs : List Word) → AtToken t.Front w.at → Along t.Front fs → Alike t (flag_mark flags t.end m w (fs ++ t.back)) (flag_mark flags t.other_end m w (fs ++ t.other))
flag-begins flags t Open w fs here a = flag_local flags t fs a
flag-begins flags t m w fs here a = ok_local flags t (w ∷ fs) (here, a)

maybe_local : (flags : Flags) → Local (λ end ws. maybe_flag flags end ws)
maybe_local flags = by_token (λ end ws. maybe_flag flags end ws) (λ P end e. tt) (λ t w fs here a. flag-begins flags t (mark w) w fs here a)

flags_local : Local (λ end ws. flags_at end ws)
flags_local =
    then_local (λ end ws. maybe_flag (record { hidden = None; strict = None }) end ws) (λ flags end ws. maybe_flag flags end ws) (maybe_local (record { hidden = None; strict = None })) (λ flags. maybe_local flags)

abbrev text_mark : (at : ℕ) → Flags → Mark → Word → List Word → Read Remark
text_mark at flags m w ws = elim m [
  | Text ↦ ended (record { at = at; text = w.text; hidden = is_given flags.hidden; strict = is_given flags.strict }) ws
  | _ ↦ Err (Expected w.at wanted.Text)
]

text-begins : (at : ℕ) (flags : Flags) (t : Two) (m : Mark) (w : Word) (fs : List Word) → AtToken t.Front w.at → Along t.Front fs → Stops t (text_mark at flags m w (fs ++ t.back)) (text_mark at flags m w (fs ++ t.other))
text-begins at flags t Text w fs here a = ended_final (record { at = at; text = w.text; hidden = is_given flags.hidden; strict = is_given flags.strict }) t fs a
text-begins at flags t m w fs here a = faulty (Expected w.at wanted.Text) refl refl (here.0 wanted.Text)

text_final : (at : ℕ) (flags : Flags) → Final (λ end ws. text_at at flags end ws)
text_final at flags = final_by_token (λ end ws. text_at at flags end ws) (λ P end e. e _) (λ t w fs here a. text-begins at flags t (mark w) w fs here a)

pub hint_final : (at : ℕ) → Final (λ end ws. hint_at at end ws)
hint_final at = then_final (λ end ws. flags_at end ws) (λ flags end ws. text_at at flags end ws) flags_local (λ flags. text_final at flags)
