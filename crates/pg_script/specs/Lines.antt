-- Reading what stands in one item, token by token: how many tokens a part has, expressions, and the forms of moves.
use Rattle.std.specs.Prelude.{ℕ, zero, suc, ◌+◌, ◌-◌, Bool, true, false, ◌&&◌, List, [], ◌∷◌, take, drop, Option, Some, None, option_and_then, is_some, Result, Ok, Err, if◌then◌else◌, ◌==◌, nat_le, codes}
use Rattle.std.specs.Str.{bytes_eq}
use Rattle.pg_base.specs.declared.token.Wanted.{Wanted}
use Rattle.pg_base.specs.declared.token.Wanted.TheVariants as wanted
use Rattle.pg_base.specs.Tokens.{Word}
use Rattle.pg_script.specs.declared.fault.ScriptFault.{ScriptFault}
use Rattle.pg_script.specs.declared.fault.ScriptFault.TheVariants.{Expected, TooMany, Deep}
use Rattle.pg_script.specs.declared.mark.Mark.{Mark}
use Rattle.pg_script.specs.declared.mark.Mark.TheVariants.{Open, Close, OpenBracket, CloseBracket, Comma, Colon, Assign, LeftArrow, Free, With, At, Number, Text}
use Rattle.pg_script.specs.declared.span.Until.{Until}
use Rattle.pg_script.specs.declared.span.Until.TheVariants as until
use Rattle.pg_script.specs.declared.head.Head.{Head}
use Rattle.pg_script.specs.declared.head.Head.TheVariants as head
use Rattle.pg_script.specs.declared.hint.Flags.{Flags}
use Rattle.pg_script.specs.declared.hint.HintOption.{HintOption}
use Rattle.pg_script.specs.declared.hint.HintOption.TheVariants as option
use Rattle.pg_script.specs.Data.{Part, Expression, Rule, Shape, plain, exact, intro, apply, rewrite, split, uses, symm, have, revert, by_cases, unknown, Remark}
use Rattle.pg_script.specs.Marks.{mark, is_name, place}

-- what was read, or the first fault
abbrev pub Read : Type 0 → Type 0
Read V = Result V ScriptFault

abbrev pub and_then : {V W : Type 0} → Read V → (V → Read W) → Read W
and_then (Ok x) more = more x
and_then (Err e) more = Err e

abbrev pub unless_fault : {V : Type 0} → Option ScriptFault → V → Read V
unless_fault None x = Ok x
unless_fault (Some e) x = Err e

-- one more in front of the list that was read
abbrev pub with_first : {V : Type 0} → V → Read (List V × List Word) → Read (List V × List Word)
with_first x (Ok (xs, rest)) = Ok (x ∷ xs, rest)
with_first x (Err e) = Err e

abbrev pub before : {V : Type 0} → V → Read (List V) → Read (List V)
before x (Ok xs) = Ok (x ∷ xs)
before x (Err e) = Err e

-- ---- how many tokens a part has

abbrev pub stops : Until → Mark → Bool
stops until.Close Close = true
stops until.Comma Comma = true
stops until.Assign Assign = true
stops _ _ = false

abbrev pub may_end : Until → Bool
may_end until.Close = false
may_end _ = true

-- what ends such a part where it has a token
abbrev pub past_part : Until → Wanted
past_part until.Close = wanted.CloseParen
past_part until.Comma = wanted.CommaOrEnd
past_part until.Assign = wanted.AssignOrEnd
past_part until.End = wanted.EndOfItem

abbrev pub more : ℕ → Read ℕ → Read ℕ
more k (Ok n) = Ok (k + n)
more k (Err e) = Err e

-- one token of this mark at this place: `same`, `deeper` and `outer` say what follows it in as many parentheses, one more and one fewer
abbrev pub length_step : Until → (base depth at : ℕ) → Mark → (same deeper outer : Read ℕ) → Read ℕ
length_step until base depth at m same deeper outer =
    if (depth == base) && stops until m then Ok 0
    else (elim m [
      | Open ↦ if nat_le 100 depth then Err (Deep at) else more 1 deeper
      | Close ↦ if depth == base then Err (Expected at (past_part until)) else more 1 outer
      | _ ↦ more 1 same
    ])

-- So many tokens go before the one that stops, outside of the parentheses that they open. So many parentheses are open
-- before them, and now.
abbrev pub length_until : Until → (end base depth : ℕ) → List Word → Read ℕ
length_until until end base depth [] = if (depth == base) && may_end until then Ok 0 else Err (Expected end wanted.CloseParen)
length_until until end base depth (w ∷ ws) =
    length_step until base depth w.at (mark w) (length_until until end base depth ws) (length_until until end base (depth + 1) ws) (length_until until end base (depth - 1) ws)

abbrev pub part_of : ℕ → ℕ → List Word → Part
part_of end n ws = record { tokens = take n ws; end = place end (drop n ws) }

-- at least one token up to the one that stops, and what is left
abbrev pub some_part : Wanted → ℕ → ℕ → List Word → Read (Part × List Word)
some_part what end n ws = if n == 0 then Err (Expected (place end ws) what) else Ok (part_of end n ws, drop n ws)

-- a closing parenthesis is the first token
abbrev pub closes_first : List Word → Bool
closes_first [] = false
closes_first (w ∷ ws) = elim (mark w) [ Close ↦ true | _ ↦ false ]

abbrev pub part_at : Wanted → Until → ℕ → List Word → Read (Part × List Word)
part_at what until end ws =
    if closes_first ws then Err (Expected (place end ws) what) else and_then (length_until until end 0 0 ws) (λ n. some_part what end n ws)

-- ---- expressions

-- how many tokens the argument at the front has, 0 where there is none
abbrev pub arg_length : (end depth : ℕ) → List Word → Read ℕ
arg_length end depth [] = Ok 0
arg_length end depth (w ∷ ws) = elim (mark w) [
  | Free ↦ Ok 1
  | Number ↦ Ok 1
  | Open ↦ if nat_le 100 depth then Err (Deep w.at) else more 2 (length_until until.Close end (depth + 1) (depth + 1) ws)
  | _ ↦ Ok 0
]

abbrev pub arg_step : ℕ → List Word → (ℕ → Read (List Part × List Word)) → Read ℕ → Read (List Part × List Word)
arg_step end ws more (Err e) = Err e
arg_step end ws more (Ok n) = if n == 0 then Ok ([], ws) else with_first (part_of end n ws) (more n)

-- Arguments, as many as stand. The first so many tokens belong to the argument before.
abbrev pub args_from : (end depth skip : ℕ) → List Word → Read (List Part × List Word)
args_from end depth skip [] = Ok ([], [])
args_from end depth (suc skip) (w ∷ ws) = args_from end depth skip ws
args_from end depth zero (w ∷ ws) = arg_step end (w ∷ ws) (λ n. args_from end depth (n - 1) ws) (arg_length end depth (w ∷ ws))

abbrev pub with_name : Word → Read (List Part × List Word) → Read (Expression × List Word)
with_name w (Ok (args, rest)) = Ok (record { name = w; args = args }, rest)
with_name w (Err e) = Err e

-- what stands behind a closing parenthesis
abbrev pub after_close : ℕ → List Word → Read (List Word)
after_close end [] = Err (Expected end wanted.CloseParen)
after_close end (w ∷ ws) = elim (mark w) [ Close ↦ Ok ws | _ ↦ Err (Expected w.at wanted.CloseParen) ]

-- what was read, if a parenthesis is closed behind it
abbrev pub closed : ℕ → Read (Expression × List Word) → Read (Expression × List Word)
closed end (Ok (e, rest)) = and_then (after_close end rest) (λ behind. Ok (e, behind))
closed end (Err e) = Err e

-- an expression at the front, within so many parentheses
abbrev pub expr_at : (end depth : ℕ) → List Word → Read (Expression × List Word)
expr_at end depth [] = Err (Expected end wanted.Expression)
expr_at end depth (w ∷ ws) = elim (mark w) [
  | Free ↦ with_name w (args_from end depth 0 ws)
  | Open ↦ if nat_le 100 depth then Err (Deep w.at) else closed end (expr_at end (depth + 1) ws)
  | _ ↦ Err (Expected w.at wanted.Expression)
]

-- ---- names, places and ends

abbrev pub end_fault : List Word → Option ScriptFault
end_fault [] = None
end_fault (w ∷ ws) = Some (Expected w.at wanted.EndOfItem)

abbrev pub ended : {V : Type 0} → V → List Word → Read V
ended x ws = unless_fault (end_fault ws) x

abbrev pub name_at : ℕ → List Word → Read (Word × List Word)
name_at end [] = Err (Expected end wanted.Name)
name_at end (w ∷ ws) = if is_name w then Ok (w, ws) else Err (Expected w.at wanted.Name)

-- the first of these tokens that is no name
abbrev pub names_fault : List Word → Option ScriptFault
names_fault [] = None
names_fault (w ∷ ws) = if is_name w then names_fault ws else Some (Expected w.at wanted.Name)

-- the same, where so many more steps may stand and each name is one
abbrev pub steps_fault : ℕ → List Word → Option ScriptFault
steps_fault room [] = None
steps_fault zero (w ∷ ws) = if is_name w then Some (TooMany w.at) else Some (Expected w.at wanted.Name)
steps_fault (suc room) (w ∷ ws) = if is_name w then steps_fault room ws else Some (Expected w.at wanted.Name)

-- `at h`, or nothing
abbrev pub place_at : ℕ → List Word → Read (Option Word)
place_at end [] = Ok None
place_at end (w ∷ ws) = elim (mark w) [
  | At ↦ and_then (name_at end ws) (λ p. ended (Some p.0) p.1)
  | _ ↦ Err (Expected w.at wanted.AtOrEnd)
]

-- the first parenthesis that opens within 100 others
abbrev pub deep_fault : ℕ → List Word → Option ScriptFault
deep_fault depth [] = None
deep_fault depth (w ∷ ws) = elim (mark w) [
  | Open ↦ if nat_le 100 depth then Some (Deep w.at) else deep_fault (depth + 1) ws
  | Close ↦ deep_fault (depth - 1) ws
  | _ ↦ deep_fault depth ws
]

-- ---- the rules of `rw` and the terms of `use`: so many more steps may stand, and each is one

abbrev pub rule_at : ℕ → List Word → Read (Rule × List Word)
rule_at end [] = Err (Expected end wanted.Rule)
rule_at end (w ∷ ws) = elim (mark w) [
  | LeftArrow ↦ and_then (expr_at end 0 ws) (λ p. Ok (record { back = true; expr = p.0 }, p.1))
  | Free ↦ and_then (expr_at end 0 (w ∷ ws)) (λ p. Ok (record { back = false; expr = p.0 }, p.1))
  | Open ↦ and_then (expr_at end 0 (w ∷ ws)) (λ p. Ok (record { back = false; expr = p.0 }, p.1))
  | _ ↦ Err (Expected w.at wanted.Rule)
]

-- one step too many, if a rule can begin here
abbrev pub no_rule : ℕ → List Word → ScriptFault
no_rule end [] = Expected end wanted.Rule
no_rule end (w ∷ ws) = elim (mark w) [ Free ↦ TooMany w.at | Open ↦ TooMany w.at | LeftArrow ↦ TooMany w.at | _ ↦ Expected w.at wanted.Rule ]

-- what ends a rule: a comma, behind which another one stands, or the closing bracket
abbrev pub rule_end : ℕ → List Word → Read (Bool × List Word)
rule_end end [] = Err (Expected end wanted.CommaOrBracket)
rule_end end (w ∷ ws) = elim (mark w) [
  | Comma ↦ Ok (true, ws)
  | CloseBracket ↦ Ok (false, ws)
  | _ ↦ Err (Expected w.at wanted.CommaOrBracket)
]

-- rules with commas between them, up to the closing bracket
abbrev pub rules_at : (room end : ℕ) → List Word → Read (List Rule × List Word)
rules_at zero end ws = Err (no_rule end ws)
rules_at (suc room) end ws =
    and_then (rule_at end ws) (λ p. and_then (rule_end end p.1) (λ q. if q.0 then with_first p.0 (rules_at room end q.1) else Ok (p.0 ∷ [], q.1)))

abbrev pub bracketed_rules : (room end : ℕ) → List Word → Read (List Rule × List Word)
bracketed_rules room end [] = Err (Expected end wanted.OpenBracket)
bracketed_rules room end (w ∷ ws) = elim (mark w) [ OpenBracket ↦ rules_at room end ws | _ ↦ Err (Expected w.at wanted.OpenBracket) ]

abbrev pub no_term : ℕ → List Word → ScriptFault
no_term end [] = Expected end wanted.Term
no_term end (w ∷ ws) = elim (mark w) [ Comma ↦ Expected w.at wanted.Term | Close ↦ Expected w.at wanted.Term | _ ↦ TooMany w.at ]

abbrev pub terms_after : Part → List Word → (List Word → Read (List Part)) → Read (List Part)
terms_after p [] more = Ok (p ∷ [])
terms_after p (w ∷ ws) more = before p (more ws)

-- terms with commas between them, up to the end
abbrev pub terms_at : (room end : ℕ) → List Word → Read (List Part)
terms_at zero end ws = Err (no_term end ws)
terms_at (suc room) end ws = and_then (part_at wanted.Term until.Comma end ws) (λ p. terms_after p.0 p.1 (λ rest. terms_at room end rest))

-- ---- hints

-- the options that were given, and one more
abbrev pub given : HintOption → Flags → Option Bool
given option.Hidden flags = flags.hidden
given option.Strict flags = flags.strict

abbrev pub with_option : HintOption → Bool → Flags → Flags
with_option option.Hidden value flags = record { hidden = Some value; strict = flags.strict }
with_option option.Strict value flags = record { hidden = flags.hidden; strict = Some value }

abbrev pub option_named : List ℕ → Option HintOption
option_named text =
    if bytes_eq text (codes "hidden") then Some option.Hidden
    else (if bytes_eq text (codes "strict") then Some option.Strict else None)

abbrev pub value_named : List ℕ → Option Bool
value_named text =
    if bytes_eq text (codes "true") then Some true
    else (if bytes_eq text (codes "false") then Some false else None)

-- the text of a name that isn't reserved
abbrev pub free_text : Word → Option (List ℕ)
free_text w = elim (mark w) [ Free ↦ Some w.text | _ ↦ None ]

-- an option that wasn't given before
abbrev pub option_of : Flags → Word → Option HintOption
option_of flags w = option_and_then (λ o. if is_some (given o flags) then None else Some o) (option_and_then option_named (free_text w))

abbrev pub value_of : Word → Option Bool
value_of w = option_and_then value_named (free_text w)

abbrev pub expected_or : {V : Type 0} → Wanted → ℕ → Option V → Read V
expected_or what at None = Err (Expected at what)
expected_or what at (Some x) = Ok x

abbrev pub option_at : Flags → ℕ → List Word → Read (HintOption × List Word)
option_at flags end [] = Err (Expected end wanted.HintOption)
option_at flags end (w ∷ ws) = and_then (expected_or wanted.HintOption w.at (option_of flags w)) (λ o. Ok (o, ws))

abbrev pub value_at : ℕ → List Word → Read (Bool × List Word)
value_at end [] = Err (Expected end wanted.TruthValue)
value_at end (w ∷ ws) = and_then (expected_or wanted.TruthValue w.at (value_of w)) (λ value. Ok (value, ws))

abbrev pub after_assign : ℕ → List Word → Read (List Word)
after_assign end [] = Err (Expected end wanted.Assign)
after_assign end (w ∷ ws) = elim (mark w) [ Assign ↦ Ok ws | _ ↦ Err (Expected w.at wanted.Assign) ]

-- an option behind its opening parenthesis
abbrev pub flag_at : Flags → ℕ → List Word → Read (Flags × List Word)
flag_at flags end ws =
    and_then (option_at flags end ws) (λ o. and_then (after_assign end o.1) (λ behind. and_then (value_at end behind) (λ value.
    and_then (after_close end value.1) (λ rest. Ok (with_option o.0 value.0 flags, rest)))))

-- the options with the one at the front, if there is one
abbrev pub maybe_flag : Flags → ℕ → List Word → Read (Flags × List Word)
maybe_flag flags end [] = Ok (flags, [])
maybe_flag flags end (w ∷ ws) = elim (mark w) [ Open ↦ flag_at flags end ws | _ ↦ Ok (flags, w ∷ ws) ]

-- at most two options
abbrev pub flags_at : ℕ → List Word → Read (Flags × List Word)
flags_at end ws = and_then (maybe_flag (record { hidden = None; strict = None }) end ws) (λ p. maybe_flag p.0 end p.1)

abbrev pub is_given : Option Bool → Bool
is_given None = false
is_given (Some value) = value

abbrev pub text_at : ℕ → Flags → ℕ → List Word → Read Remark
text_at at flags end [] = Err (Expected end wanted.Text)
text_at at flags end (w ∷ ws) = elim (mark w) [
  | Text ↦ ended (record { at = at; text = w.text; hidden = is_given flags.hidden; strict = is_given flags.strict }) ws
  | _ ↦ Err (Expected w.at wanted.Text)
]

-- what stands behind the word `Hint`, which stands at this place
abbrev pub hint_at : (at end : ℕ) → List Word → Read Remark
hint_at at end ws = and_then (flags_at end ws) (λ p. text_at at p.0 end p.1)

-- ---- moves

abbrev pub head_rows : List (List ℕ × Head)
head_rows =
    (codes "rfl", head.Plain)
    ∷ (codes "left", head.Plain)
    ∷ (codes "right", head.Plain)
    ∷ (codes "constructor", head.Plain)
    ∷ (codes "exfalso", head.Plain)
    ∷ (codes "exact", head.Exact)
    ∷ (codes "intro", head.Intro)
    ∷ (codes "apply", head.Apply)
    ∷ (codes "rw", head.Rw)
    ∷ (codes "induction", head.Split)
    ∷ (codes "cases", head.Split)
    ∷ (codes "use", head.Use)
    ∷ (codes "symm", head.Symm)
    ∷ (codes "have", head.Have)
    ∷ (codes "revert", head.Revert)
    ∷ (codes "by_cases", head.ByCases)
    ∷ []

abbrev pub head_in : List (List ℕ × Head) → List ℕ → Head
head_in [] text = head.Unknown
head_in (row ∷ rows) text = if bytes_eq text row.0 then row.1 else head_in rows text

abbrev pub head_of : List ℕ → Head
head_of = head_in head_rows

abbrev pub exact_at : ℕ → List Word → Read Expression
exact_at end ws = and_then (expr_at end 0 ws) (λ p. ended p.0 p.1)

abbrev pub apply_at : ℕ → List Word → Read Shape
apply_at end ws = and_then (expr_at end 0 ws) (λ p. and_then (place_at end p.1) (λ h. Ok (apply p.0 h)))

abbrev pub rewrite_at : (room end : ℕ) → List Word → Read Shape
rewrite_at room end ws = and_then (bracketed_rules room end ws) (λ p. and_then (place_at end p.1) (λ h. Ok (rewrite p.0 h)))

abbrev pub intro_at : (room end : ℕ) → List Word → Read Shape
intro_at room end [] = Err (Expected end wanted.Name)
intro_at room end (w ∷ ws) = unless_fault (steps_fault room (w ∷ ws)) (intro (w ∷ ws))

abbrev pub names_after : List Word → Read (List Word)
names_after [] = Ok []
names_after (w ∷ ws) = elim (mark w) [ With ↦ unless_fault (names_fault ws) ws | _ ↦ Err (Expected w.at wanted.WithOrEnd) ]

abbrev pub split_at : ℕ → List Word → Read Shape
split_at end ws = and_then (name_at end ws) (λ p. and_then (names_after p.1) (λ names. Ok (split p.0 names)))

-- behind the formula of `have h : A`
abbrev pub have_after : ℕ → Word → Part → List Word → Read Shape
have_after end name formula [] = Ok (have name (Some formula) None)
have_after end name formula (w ∷ ws) = and_then (exact_at end ws) (λ e. Ok (have name (Some formula) (Some e)))

abbrev pub have_formula : ℕ → Word → List Word → Read Shape
have_formula end name ws = and_then (part_at wanted.Formula until.Assign end ws) (λ p. have_after end name p.0 p.1)

abbrev pub have_of : ℕ → Word → List Word → Read Shape
have_of end name [] = Err (Expected end wanted.ColonOrAssign)
have_of end name (w ∷ ws) = elim (mark w) [
  | Colon ↦ have_formula end name ws
  | Assign ↦ and_then (exact_at end ws) (λ e. Ok (have name None (Some e)))
  | _ ↦ Err (Expected w.at wanted.ColonOrAssign)
]

abbrev pub cases_of : ℕ → Word → List Word → Read Shape
cases_of end name [] = Err (Expected end wanted.Colon)
cases_of end name (w ∷ ws) = elim (mark w) [
  | Colon ↦ and_then (part_at wanted.Formula until.End end ws) (λ p. Ok (by_cases name p.0))
  | _ ↦ Err (Expected w.at wanted.Colon)
]

-- what stands behind a move's word, where so many more steps may stand, at least one
abbrev pub shape_at : Head → (room end : ℕ) → List Word → Read Shape
shape_at head.Plain room end ws = ended plain ws
shape_at head.Exact room end ws = and_then (exact_at end ws) (λ e. Ok (exact e))
shape_at head.Intro room end ws = intro_at room end ws
shape_at head.Apply room end ws = apply_at end ws
shape_at head.Rw room end ws = rewrite_at room end ws
shape_at head.Split room end ws = split_at end ws
shape_at head.Use room end ws = and_then (terms_at room end ws) (λ terms. Ok (uses terms))
shape_at head.Symm room end ws = and_then (place_at end ws) (λ h. Ok (symm h))
shape_at head.Have room end ws = and_then (name_at end ws) (λ p. have_of end p.0 p.1)
shape_at head.Revert room end ws = and_then (name_at end ws) (λ p. ended (revert p.0) p.1)
shape_at head.ByCases room end ws = and_then (name_at end ws) (λ p. cases_of end p.0 p.1)
shape_at head.Unknown room end ws = unless_fault (deep_fault 0 ws) unknown
