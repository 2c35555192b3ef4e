-- Hints are read by their options and text, and what is read as one has them.
use Rattle.std.proofs.Common.{◌≡◌, ◌∙◌, ℕ, Bool, true, false, List, [], ◌∷◌, ◌++◌, refl, sym, ap, subst, append_assoc, Option, Some, None, option_and_then, is_some, Ok, Err, if◌then◌else◌}
use Rattle.std.specs.Prelude.{codes}
use Rattle.std.specs.Str.{bytes_eq}
use Rattle.std.proofs.lemmas.Slice.Eq.{bytes_eq-Decides}
use Rattle.pg_base.specs.declared.token.Wanted.{Wanted}
use Rattle.pg_base.specs.declared.token.Wanted.TheVariants as wanted
use Rattle.pg_base.specs.Tokens.{Word}
use Rattle.pg_script.specs.declared.fault.ScriptFault.TheVariants.{Expected}
use Rattle.pg_script.specs.declared.mark.Mark.{Mark}
use Rattle.pg_script.specs.declared.mark.Mark.TheVariants.{Open, Close, Assign, Free, Text}
use Rattle.pg_script.specs.declared.hint.Flags.{Flags}
use Rattle.pg_script.specs.declared.hint.HintOption.{HintOption}
use Rattle.pg_script.specs.declared.hint.HintOption.TheVariants as option
use Rattle.pg_script.specs.Data.{Remark}
use Rattle.pg_script.specs.Marks.{mark}
use Rattle.pg_script.specs.Lines.{Read, and_then, ended, given, with_option, option_named, value_named, free_text, option_of, value_of, expected_or, option_at, value_at, after_assign, after_close, flag_at, maybe_flag, flags_at, is_given, text_at, hint_at}
use Rattle.pg_script.specs.Forms.{IsWord, value_text, IsOption, an_option, AreOptions, no_option, hidden_alone, strict_alone, hidden_first, strict_first, IsHint, a_hint_text}
use Rattle.pg_script.proofs.Found.{clash, and_then_ok, inj}
use Rattle.pg_script.proofs.Phrases.{ended_ok, after_close_ok}

abbrev option_text : HintOption → List ℕ
option_text option.Hidden = codes "hidden"
option_text option.Strict = codes "strict"

abbrev no_flags : Flags
no_flags = record { hidden = None; strict = None }

-- ---- options are read

abbrev free_mark : Mark → List ℕ → Option (List ℕ)
free_mark m text = elim m [ Free ↦ Some text | _ ↦ None ]

word-free : (w : Word) (text : List ℕ) → IsWord w text → free_text w ≡ Some text
word-free w text h = ap (λ m. free_mark m w.text) h.0 ∙ ap Some h.1

option-named : (o : HintOption) → option_named (option_text o) ≡ Some o
option-named option.Hidden = refl
option-named option.Strict = refl

value-named : (b : Bool) → value_named (value_text b) ≡ Some b
value-named true = refl
value-named false = refl

abbrev unless_given : Flags → HintOption → Option HintOption
unless_given flags o = if is_some (given o flags) then None else Some o

option-read : (flags : Flags) (o : HintOption) (n : Word) → IsWord n (option_text o) → given o flags ≡ None → option_of flags n ≡ Some o
option-read flags o n h g =
    ap (λ t. option_and_then (unless_given flags) (option_and_then option_named t)) (word-free n (option_text o) h)
    ∙ ap (option_and_then (unless_given flags)) (option-named o)
    ∙ ap (λ x. let r : Option HintOption = if is_some x then None else Some o in r) g

value-read : (b : Bool) (v : Word) → IsWord v (value_text b) → value_of v ≡ Some b
value-read b v h = ap (option_and_then value_named) (word-free v (value_text b) h) ∙ value-named b

abbrev assign_read : ℕ → Mark → List Word → Read (List Word)
assign_read at m ws = elim m [ Assign ↦ Ok ws | _ ↦ Err (Expected at wanted.Assign) ]

abbrev close_read : ℕ → Mark → List Word → Read (List Word)
close_read at m ws = elim m [ Close ↦ Ok ws | _ ↦ Err (Expected at wanted.CloseParen) ]

abbrev flag_mark : Flags → ℕ → Mark → Word → List Word → Read (Flags × List Word)
flag_mark flags end m w ws = elim m [ Open ↦ flag_at flags end ws | _ ↦ Ok (flags, w ∷ ws) ]

-- the rest of an option, behind its name, its sign and its value
abbrev after_value : Flags → HintOption → ℕ → Bool × List Word → Read (Flags × List Word)
after_value flags o end value = and_then (after_close end value.1) (λ rest. Ok (with_option o value.0 flags, rest))

abbrev after_sign : Flags → HintOption → ℕ → List Word → Read (Flags × List Word)
after_sign flags o end behind = and_then (value_at end behind) (after_value flags o end)

abbrev after_option : Flags → ℕ → HintOption × List Word → Read (Flags × List Word)
after_option flags end o = and_then (after_assign end o.1) (after_sign flags o.0 end)

flag-read : {b : Bool} {ws : List Word} (flags : Flags) (end : ℕ) (o : HintOption) (rest : List Word) → given o flags ≡ None → IsOption (option_text o) b ws → maybe_flag flags end (ws ++ rest) ≡ Ok (with_option o b flags, rest)
flag-read {b = b} flags end o rest g (an_option p n a v c hp hn ha hv hc) =
    ap (λ m. flag_mark flags end m p (n ∷ a ∷ v ∷ c ∷ rest)) hp
    ∙ ap (λ x. and_then (and_then (expected_or wanted.HintOption n.at x) (λ y. Ok (y, a ∷ v ∷ c ∷ rest))) (after_option flags end)) (option-read flags o n hn g)
    ∙ ap (λ m. and_then (assign_read a.at m (v ∷ c ∷ rest)) (after_sign flags o end)) ha
    ∙ ap (λ x. and_then (and_then (expected_or wanted.TruthValue v.at x) (λ y. Ok (y, c ∷ rest))) (after_value flags o end)) (value-read b v hv)
    ∙ ap (λ m. and_then (close_read c.at m rest) (λ behind. Ok (with_option o b flags, behind))) hc

no-flag-read : (flags : Flags) (end : ℕ) (t : Word) → mark t ≡ Text → maybe_flag flags end (t ∷ []) ≡ Ok (flags, t ∷ [])
no-flag-read flags end t ht = ap (λ m. flag_mark flags end m t []) ht

abbrev note : (at : ℕ) → Flags → Word → Remark
note at flags t = record { at = at; text = t.text; hidden = is_given flags.hidden; strict = is_given flags.strict }

abbrev text_mark : (at : ℕ) → Flags → Mark → Word → List Word → Read Remark
text_mark at flags m w ws = elim m [ Text ↦ ended (note at flags w) ws | _ ↦ Err (Expected w.at wanted.Text) ]

-- the options, and the text behind them
options-read : (at end : ℕ) (ws : List Word) (flags : Flags) (t : Word) → mark t ≡ Text → flags_at end ws ≡ Ok (flags, t ∷ []) → hint_at at end ws ≡ Ok (note at flags t)
options-read at end ws flags t ht h = ap (λ r. and_then r (λ p. text_at at p.0 end p.1)) h ∙ ap (λ m. text_mark at flags m t []) ht

one-read : (end : ℕ) (ws : List Word) (o : HintOption) (b : Bool) (t : Word) → IsOption (option_text o) b ws → mark t ≡ Text → given o no_flags ≡ None → flags_at end (ws ++ t ∷ []) ≡ Ok (with_option o b no_flags, t ∷ [])
one-read end ws o b t i ht g = ap (λ r. and_then r (λ p. maybe_flag p.0 end p.1)) (flag-read no_flags end o (t ∷ []) g i) ∙ no-flag-read (with_option o b no_flags) end t ht

two-read : (end : ℕ) (ws vs : List Word) (o u : HintOption) (b d : Bool) (t : Word) → IsOption (option_text o) b ws → IsOption (option_text u) d vs → given o no_flags ≡ None → given u (with_option o b no_flags) ≡ None
    → flags_at end ((ws ++ vs) ++ t ∷ []) ≡ Ok (with_option u d (with_option o b no_flags), t ∷ [])
two-read end ws vs o u b d t i k g h =
    ap (flags_at end) (append_assoc ws vs (t ∷ []))
    ∙ ap (λ r. and_then r (λ p. maybe_flag p.0 end p.1)) (flag-read no_flags end o (vs ++ t ∷ []) g i)
    ∙ flag-read (with_option o b no_flags) end u (t ∷ []) h k

by-options : {hidden strict : Bool} {ws : List Word} (at end : ℕ) (t : Word) → AreOptions ws hidden strict → mark t ≡ Text
    → hint_at at end (ws ++ t ∷ []) ≡ Ok (let r : Remark = record { at = at; text = t.text; hidden = hidden; strict = strict } in r)
by-options at end t no_option ht = options-read at end (t ∷ []) no_flags t ht (ap (λ r. and_then r (λ p. maybe_flag p.0 end p.1)) (no-flag-read no_flags end t ht) ∙ no-flag-read no_flags end t ht)
by-options at end t (hidden_alone ws b i) ht = options-read at end (ws ++ t ∷ []) (with_option option.Hidden b no_flags) t ht (one-read end ws option.Hidden b t i ht refl)
by-options at end t (strict_alone ws b i) ht = options-read at end (ws ++ t ∷ []) (with_option option.Strict b no_flags) t ht (one-read end ws option.Strict b t i ht refl)
by-options at end t (hidden_first ws vs b d i k) ht =
    options-read at end ((ws ++ vs) ++ t ∷ []) (with_option option.Strict d (with_option option.Hidden b no_flags)) t ht (two-read end ws vs option.Hidden option.Strict b d t i k refl refl)
by-options at end t (strict_first ws vs d b i k) ht =
    options-read at end ((ws ++ vs) ++ t ∷ []) (with_option option.Hidden d (with_option option.Strict b no_flags)) t ht (two-read end ws vs option.Strict option.Hidden b d t i k refl refl)

hint-read : {at : ℕ} {ws : List Word} {h : Remark} (end : ℕ) → IsHint at ws h → hint_at at end ws ≡ Ok h
hint-read {at = at} end (a_hint_text ws t hidden strict o ht) = by-options at end t o ht

pub hint_read : (at end : ℕ) (ws : List Word) (h : Remark) → IsHint at ws h → hint_at at end ws ≡ Ok h
hint_read at end ws h i = hint-read end i

-- ---- what is read has options

nothing-some : {V : Type 0} {A : Type 0} (x : V) → (let o : Option V = None in o) ≡ Some x → A
nothing-some x h = cc

some-nothing : {V : Type 0} {A : Type 0} (x : V) → (let o : Option V = Some x in o) ≡ None → A
some-nothing x h = cc

expected-ok : {V : Type 0} (what : Wanted) (at : ℕ) (o : Option V) (x : V) → expected_or what at o ≡ Ok x → o ≡ Some x
expected-ok what at None x h = absurd (clash (Expected at what) x h)
expected-ok what at (Some y) x h = ap Some (inj y x h)

-- a name that isn't reserved, with what its text gives
free-found : {V : Type 0} (f : List ℕ → Option V) (w : Word) (x : V) (m : Mark) → mark w ≡ m → option_and_then f (free_mark m w.text) ≡ Some x → (mark w ≡ Free) × (f w.text ≡ Some x)
free-found f w x Free hm h = (hm, h)
free-found f w x m hm h = nothing-some x h

and-then-some : {V W : Type 0} (f : V → Option W) (o : Option V) (y : W) → option_and_then f o ≡ Some y → (x : V) × (o ≡ Some x) × (f x ≡ Some y)
and-then-some f None y h = nothing-some y h
and-then-some f (Some x) y h = (x, refl, h)

same-some : {V : Type 0} (x y : V) → (let o : Option V = Some x in o) ≡ Some y → x ≡ y
same-some x y h = cc

strict-named : (text : List ℕ) (o : HintOption) → (if bytes_eq text (codes "strict") then Some option.Strict else None) ≡ Some o → text ≡ option_text o
strict-named text o h =
    elim (bytes_eq text (codes "strict")) as (λ b. bytes_eq text (codes "strict") ≡ b → (if b then Some option.Strict else None) ≡ Some o → text ≡ option_text o) [
      | true ↦ λ e g. (bytes_eq-Decides text (codes "strict")).0 e ∙ ap option_text (same-some option.Strict o g)
      | false ↦ λ e g. nothing-some o g
    ] refl h

named-found : (text : List ℕ) (o : HintOption) → option_named text ≡ Some o → text ≡ option_text o
named-found text o h =
    elim (bytes_eq text (codes "hidden")) as (λ b. bytes_eq text (codes "hidden") ≡ b → (if b then Some option.Hidden else (if bytes_eq text (codes "strict") then Some option.Strict else None)) ≡ Some o → text ≡ option_text o) [
      | true ↦ λ e g. (bytes_eq-Decides text (codes "hidden")).0 e ∙ ap option_text (same-some option.Hidden o g)
      | false ↦ λ e g. strict-named text o g
    ] refl h

false-named : (text : List ℕ) (b : Bool) → (if bytes_eq text (codes "false") then Some false else None) ≡ Some b → text ≡ value_text b
false-named text b h =
    elim (bytes_eq text (codes "false")) as (λ c. bytes_eq text (codes "false") ≡ c → (if c then Some false else None) ≡ Some b → text ≡ value_text b) [
      | true ↦ λ e g. (bytes_eq-Decides text (codes "false")).0 e ∙ ap value_text (same-some false b g)
      | false ↦ λ e g. nothing-some b g
    ] refl h

truth-named : (text : List ℕ) (b : Bool) → value_named text ≡ Some b → text ≡ value_text b
truth-named text b h =
    elim (bytes_eq text (codes "true")) as (λ c. bytes_eq text (codes "true") ≡ c → (if c then Some true else (if bytes_eq text (codes "false") then Some false else None)) ≡ Some b → text ≡ value_text b) [
      | true ↦ λ e g. (bytes_eq-Decides text (codes "true")).0 e ∙ ap value_text (same-some true b g)
      | false ↦ λ e g. false-named text b g
    ] refl h

not-given : (flags : Flags) (o u : HintOption) (g : Option Bool) → given o flags ≡ g → (if is_some g then None else Some o) ≡ Some u → (given o flags ≡ None) × (o ≡ u)
not-given flags o u None e h = (e, same-some o u h)
not-given flags o u (Some b) e h = nothing-some u h

option-found : (flags : Flags) (n : Word) (o : HintOption) → option_of flags n ≡ Some o → IsWord n (option_text o) × (given o flags ≡ None)
option-found flags n o h =
    let m = and-then-some (unless_given flags) (option_and_then option_named (free_text n)) o h in
    let f = free-found option_named n m.0 (mark n) refl m.1 in
    let k = not-given flags m.0 o (given m.0 flags) refl m.2 in
    let P : HintOption → Type 0 = λ x. IsWord n (option_text x) × (given x flags ≡ None) in
    subst P k.1 ((f.0, named-found n.text m.0 f.1), k.0)

value-found : (v : Word) (b : Bool) → value_of v ≡ Some b → IsWord v (value_text b)
value-found v b h = let f = free-found value_named v b (mark v) refl h in (f.0, truth-named v.text b f.1)

record OptionAt (flags : Flags) (ws : List Word) (p : HintOption × List Word) : Type 0 where
  name : Word
  whole : ws ≡ name ∷ p.1
  word : IsWord name (option_text p.0)
  free : given p.0 flags ≡ None

option-at-found : (flags : Flags) (end : ℕ) (ws : List Word) (p : HintOption × List Word) → option_at flags end ws ≡ Ok p → OptionAt flags ws p
option-at-found flags end [] p h = absurd (clash (Expected end wanted.HintOption) p h)
option-at-found flags end (n ∷ ws) p h =
    let m = and_then_ok (expected_or wanted.HintOption n.at (option_of flags n)) (λ o. Ok (o, ws)) p h in
    let f = option-found flags n m.0 (expected-ok wanted.HintOption n.at (option_of flags n) m.0 m.1) in
    let P : HintOption × List Word → Type 0 = OptionAt flags (n ∷ ws) in
    subst P (inj (m.0, ws) p m.2) (record { name = n; whole = refl; word = f.0; free = f.1 })

record ValueAt (ws : List Word) (p : Bool × List Word) : Type 0 where
  name : Word
  whole : ws ≡ name ∷ p.1
  word : IsWord name (value_text p.0)

value-at-found : (end : ℕ) (ws : List Word) (p : Bool × List Word) → value_at end ws ≡ Ok p → ValueAt ws p
value-at-found end [] p h = absurd (clash (Expected end wanted.TruthValue) p h)
value-at-found end (v ∷ ws) p h =
    let m = and_then_ok (expected_or wanted.TruthValue v.at (value_of v)) (λ b. Ok (b, ws)) p h in
    let P : Bool × List Word → Type 0 = ValueAt (v ∷ ws) in
    subst P (inj (m.0, ws) p m.2) (record { name = v; whole = refl; word = value-found v m.0 (expected-ok wanted.TruthValue v.at (value_of v) m.0 m.1) })

assign-by : (a : Word) (xs rest : List Word) (m : Mark) → mark a ≡ m → assign_read a.at m xs ≡ Ok rest → (mark a ≡ Assign) × (xs ≡ rest)
assign-by a xs rest Assign hm h = (hm, inj xs rest h)
assign-by a xs rest m hm h = absurd (clash (Expected a.at wanted.Assign) rest h)

assign-found : (end : ℕ) (ws rest : List Word) → after_assign end ws ≡ Ok rest → (a : Word) × (mark a ≡ Assign) × (ws ≡ a ∷ rest)
assign-found end [] rest h = absurd (clash (Expected end wanted.Assign) rest h)
assign-found end (a ∷ xs) rest h = let k = assign-by a xs rest (mark a) refl h in (a, k.0, ap (λ t. a ∷ t) k.1)

-- one more option, or none
data Maybe (flags : Flags) : List Word → Flags × List Word → Type 0 where
  none_more : (ws : List Word) → Maybe flags ws (flags, ws)
  one_more : (o : HintOption) (b : Bool) (ws rest : List Word) → given o flags ≡ None → IsOption (option_text o) b ws → Maybe flags (ws ++ rest) (with_option o b flags, rest)

flag-found : (flags : Flags) (end : ℕ) (w : Word) (ws : List Word) (q : Flags × List Word) → mark w ≡ Open → flag_at flags end ws ≡ Ok q → Maybe flags (w ∷ ws) q
flag-found flags end w ws q hw h =
    let m = and_then_ok (option_at flags end ws) (after_option flags end) q h in
    let a = and_then_ok (after_assign end m.0.1) (after_sign flags m.0.0 end) q m.2 in
    let v = and_then_ok (value_at end a.0) (after_value flags m.0.0 end) q a.2 in
    let c = and_then_ok (after_close end v.0.1) (λ rest. Ok (with_option m.0.0 v.0.0 flags, rest)) q v.2 in
    let n = option-at-found flags end ws m.0 m.1 in
    let s = assign-found end m.0.1 a.0 a.1 in
    let x = value-at-found end a.0 v.0 v.1 in
    let k = after_close_ok end v.0.1 c.0 c.1 in
    let whole : n.name ∷ s.0 ∷ x.name ∷ k.0 ∷ c.0 ≡ ws = sym (n.whole ∙ ap (λ t. n.name ∷ t) (s.2 ∙ ap (λ t. s.0 ∷ t) (x.whole ∙ ap (λ t. x.name ∷ t) k.2))) in
    let P : Flags × List Word → Type 0 = Maybe flags (w ∷ ws) in
    let Q : List Word → Type 0 = λ t. Maybe flags (w ∷ t) (with_option m.0.0 v.0.0 flags, c.0) in
    subst P (inj (with_option m.0.0 v.0.0 flags, c.0) q c.2)
    (subst Q whole (one_more m.0.0 v.0.0 (w ∷ n.name ∷ s.0 ∷ x.name ∷ k.0 ∷ []) c.0 n.free (an_option w n.name s.0 x.name k.0 hw n.word s.1 x.word k.1)))

flag-by : (flags : Flags) (end : ℕ) (w : Word) (ws : List Word) (q : Flags × List Word) (m : Mark) → mark w ≡ m → flag_mark flags end m w ws ≡ Ok q → Maybe flags (w ∷ ws) q
flag-by flags end w ws q Open hm h = flag-found flags end w ws q hm h
flag-by flags end w ws q m hm h = let P : Flags × List Word → Type 0 = Maybe flags (w ∷ ws) in subst P (inj (flags, w ∷ ws) q h) (none_more (w ∷ ws))

maybe-found : (flags : Flags) (end : ℕ) (ws : List Word) (q : Flags × List Word) → maybe_flag flags end ws ≡ Ok q → Maybe flags ws q
maybe-found flags end [] q h = let P : Flags × List Word → Type 0 = Maybe flags [] in subst P (inj (flags, []) q h) (none_more [])
maybe-found flags end (w ∷ ws) q h = flag-by flags end w ws q (mark w) refl h

-- the options in front of the rest
abbrev Options : List Word → Flags × List Word → Type 0
Options ws p = (front : List Word) × (ws ≡ front ++ p.1) × AreOptions front (is_given p.0.hidden) (is_given p.0.strict)

one-option : (o : HintOption) (b : Bool) (ws rest : List Word) → IsOption (option_text o) b ws → Options (ws ++ rest) (with_option o b no_flags, rest)
one-option option.Hidden b ws rest i = (ws, refl, hidden_alone ws b i)
one-option option.Strict b ws rest i = (ws, refl, strict_alone ws b i)

two-options : (o u : HintOption) (b d : Bool) (ws vs rest : List Word) → IsOption (option_text o) b ws → IsOption (option_text u) d vs → given u (with_option o b no_flags) ≡ None
    → Options (ws ++ (vs ++ rest)) (with_option u d (with_option o b no_flags), rest)
two-options option.Hidden option.Strict b d ws vs rest i k g = (ws ++ vs, sym (append_assoc ws vs rest), hidden_first ws vs b d i k)
two-options option.Strict option.Hidden b d ws vs rest i k g = (ws ++ vs, sym (append_assoc ws vs rest), strict_first ws vs d b i k)
two-options option.Hidden option.Hidden b d ws vs rest i k g = some-nothing b g
two-options option.Strict option.Strict b d ws vs rest i k g = some-nothing b g

first-alone : {ws : List Word} {q : Flags × List Word} → Maybe no_flags ws q → Options ws q
first-alone (none_more ws) = ([], refl, no_option)
first-alone (one_more o b ws rest g i) = one-option o b ws rest i

behind-first : {vs : List Word} {p : Flags × List Word} (o : HintOption) (b : Bool) (ws : List Word) → IsOption (option_text o) b ws → Maybe (with_option o b no_flags) vs p → Options (ws ++ vs) p
behind-first o b ws i (none_more vs) = one-option o b ws vs i
behind-first o b ws i (one_more u d vs rest g k) = two-options o u b d ws vs rest i k g

both-found : {ws : List Word} {q : Flags × List Word} (p : Flags × List Word) → Maybe no_flags ws q → Maybe q.0 q.1 p → Options ws p
both-found p (none_more ws) m = first-alone m
both-found p (one_more o b ws rest g i) m = behind-first o b ws i m

record TextAt (at : ℕ) (flags : Flags) (ws : List Word) (h : Remark) : Type 0 where
  text_is : Word
  marked : mark text_is ≡ Text
  whole : ws ≡ text_is ∷ []
  same : note at flags text_is ≡ h

text-by : (at : ℕ) (flags : Flags) (t : Word) (ws : List Word) (h : Remark) (m : Mark) → mark t ≡ m → text_mark at flags m t ws ≡ Ok h → TextAt at flags (t ∷ ws) h
text-by at flags t ws h Text hm e = let k = ended_ok (note at flags t) h ws e in record { text_is = t; marked = hm; whole = ap (λ xs. t ∷ xs) k.0; same = k.1 }
text-by at flags t ws h m hm e = absurd (clash (Expected t.at wanted.Text) h e)

text-found : (at : ℕ) (flags : Flags) (end : ℕ) (ws : List Word) (h : Remark) → text_at at flags end ws ≡ Ok h → TextAt at flags ws h
text-found at flags end [] h e = absurd (clash (Expected end wanted.Text) h e)
text-found at flags end (t ∷ ws) h e = text-by at flags t ws h (mark t) refl e

pub hint_found : (at end : ℕ) (ws : List Word) (h : Remark) → hint_at at end ws ≡ Ok h → IsHint at ws h
hint_found at end ws h e =
    let m = and_then_ok (flags_at end ws) (λ p. text_at at p.0 end p.1) h e in
    let f = and_then_ok (maybe_flag no_flags end ws) (λ p. maybe_flag p.0 end p.1) m.0 m.1 in
    let o = both-found m.0 (maybe-found no_flags end ws f.0 f.1) (maybe-found f.0.0 end f.0.1 m.0 f.2) in
    let t = text-found at m.0.0 end m.0.1 h m.2 in
    let whole : o.0 ++ t.text_is ∷ [] ≡ ws = sym (o.1 ∙ ap (λ xs. o.0 ++ xs) t.whole) in
    let P : Remark → Type 0 = IsHint at ws in
    let Q : List Word → Type 0 = λ xs. IsHint at xs (note at m.0.0 t.text_is) in
    subst P t.same (subst Q whole (a_hint_text o.0 t.text_is (is_given m.0.0.hidden) (is_given m.0.0.strict) o.2 t.marked))
