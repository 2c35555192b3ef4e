-- The faults of a sample and of its hints stand within it.
use Rattle.std.proofs.Common.{◌≡◌, ℕ, zero, suc, ◌+◌, ◌-◌, ◌<◌, ◌≤◌, Bool, true, false, List, [], ◌∷◌, ◌++◌, take, drop, refl, sym, ap, subst, arith, Option, Some, None, Ok, Err, if◌then◌else◌, nat_lt}
use Rattle.std.specs.Prelude.{flat_map}
use Rattle.pg_base.specs.Spans.{token_end}
use Rattle.pg_base.specs.Tokens.{Word}
use Rattle.pg_base.specs.declared.token.Wanted.TheVariants as wanted
use Rattle.pg_script.specs.declared.fault.ScriptFault.{ScriptFault}
use Rattle.pg_script.specs.declared.fault.ScriptFault.TheVariants as script
use Rattle.pg_script.specs.declared.mark.Mark.TheVariants.{Text}
use Rattle.pg_script.specs.Data.{Part, Entry, entries_of, Remark}
use Rattle.pg_script.specs.Marks.{mark}
use Rattle.pg_script.specs.declared.hint.Flags.{Flags}
use Rattle.pg_script.specs.Lines.{Read, and_then, unless_fault, ended, is_given, flags_at, text_at, hint_at}
use Rattle.pg_script.specs.Scripts.{entries_of_tokens, last_end, long_fault, items_of}
use Rattle.pg_script.specs.Grammar.{IsItem, a_move, a_hint, a_bullet, a_branch, IsBlock, last, line, semicolon, IsScript, empty, block}
use Rattle.pg_script.proofs.Alike.{Along, Passes}
use Rattle.pg_script.proofs.Starts.{script_passes}
use Rattle.pg_script.proofs.Found.{script_laid}
use Rattle.pg_gametext.specs.Faults.{fault, Limit, Nesting, ScriptBytes, Steps, Blocks, Hints, hint_limit}
use Rattle.pg_gametext.specs.Placed.{Placed}
use Rattle.pg_gametext.specs.Checks.{is_sorry, opens_at, span, script_faults, block_faults, hints_in, hints_in_all, is_hint_word, hint_words, hints_or_words, block_hints, hint_count, hints_over}
use Rattle.pg_gametext.specs.Laws.{Each, IsWithin, AreInside}
use Rattle.pg_gametext.proofs.Join.{less_of}
use Rattle.pg_gametext.proofs.Within.{missing_at, stands_at}
use Rattle.pg_gametext.proofs.Declared.{PartStands}
use Rattle.pg_gametext.proofs.Statements.{AreEnding, BlockStands}

-- ---- faults

-- the byte behind the last token
last_at_most : (at to : ℕ) (ws : List Word) → at ≤ to → AreEnding to ws → last_end at ws ≤ to
last_at_most at to [] l h = l
last_at_most at to (w ∷ ws) l h = last_at_most (token_end w) to ws h.0 h.1

-- the fault is within a command from one place to another
abbrev Fits : (from to : ℕ) → Part → ScriptFault → Type 0
Fits from to p e = Each (IsWithin from to) (script_faults p (Err e))

deep_fits : (from to : ℕ) (p : Part) (at : ℕ) → from ≤ at → at < to → Fits from to p (script.Deep at)
deep_fits from to p at l h =
    elim (opens_at at p.tokens) as (λ b. Each (IsWithin from to) (fault at (if b then Limit Nesting 101 else Limit Blocks 17) ∷ [])) [
      | true ↦ (stands_at from to at (Limit Nesting 101) l h (omega arith), tt)
      | false ↦ (stands_at from to at (Limit Blocks 17) l h (omega arith), tt)
    ]

along_fits : (from to mid : ℕ) (p : Part) (ws : List Word) → mid ≤ to → AreInside from mid ws → Along (Fits from to p) ws
along_fits from to mid p [] l h = tt
along_fits from to mid p (w ∷ ws) l h = (
  ((λ what. (missing_at from to w.at (omega (arith, h.0.0)) (omega (arith, h.0.1, l)), tt)), (stands_at from to w.at (Limit Steps 201) (omega (arith, h.0.0)) (omega (arith, h.0.1, l)) (omega arith), tt), deep_fits from to p w.at (omega (arith, h.0.0)) (omega (arith, h.0.1, l))),
  along_fits from to mid p ws l h.1,
)

passes_fit : (from to : ℕ) (p : Part) (r : Read (List Entry)) → Passes (Fits from to p) r → Each (IsWithin from to) (script_faults p r)
passes_fit from to p (Ok es) h = tt
passes_fit from to p (Err e) h = h

-- of a block that is not too long
short_fits : (from to : ℕ) (p : Part) → PartStands from to (Some p) → Each (IsWithin from to) (script_faults p (entries_of_tokens p.tokens p.end true))
short_fits from to p h =
    passes_fit from to p _ (script_passes true (Fits from to p) p.end p.tokens (along_fits from to p.end p p.tokens h.1 h.2) (λ what. (missing_at from to p.end (omega (arith, h.0)) h.1, tt)))

-- of one that may be
long_fits : (from to : ℕ) (p : Part) (ws : List Word) → AreInside from p.end ws → p.end ≤ to → AreEnding to ws → Each (IsWithin from to) (script_faults p (entries_of_tokens ws p.end true))
    → Each (IsWithin from to) (script_faults p (and_then (unless_fault (long_fault ws) ws) (λ short. entries_of_tokens short p.end true)))
long_fits from to p [] h l e short = short
long_fits from to p (w ∷ ws) h l e short =
    let long = nat_lt 16384 (last_end w.at (w ∷ ws) - w.at) in
    elim long as (λ b. long ≡ b
    → Each (IsWithin from to) (script_faults p (and_then (unless_fault (if b then Some (script.TooLong (w.at + 16384)) else None) (w ∷ ws)) (λ short. entries_of_tokens short p.end true)))) [
      | true ↦ λ is.
          let over : 16384 < last_end w.at (w ∷ ws) - w.at = less_of 16384 (last_end w.at (w ∷ ws) - w.at) is in
          let up : last_end w.at (w ∷ ws) ≤ to = last_at_most w.at to (w ∷ ws) (omega (arith, h.0.1, l)) e in
          (stands_at from to (w.at + 16384) (Limit ScriptBytes (span p.tokens)) (omega (arith, h.0.0)) (omega (arith, over, up)) (omega arith), tt)
      | false ↦ λ is. short
    ] refl

pub block_within : (from to : ℕ) (o : Option Part) → BlockStands from to o → Each (IsWithin from to) (block_faults o)
block_within from to None h = tt
block_within from to (Some p) h =
    elim (is_sorry p) as (λ b. Each (IsWithin from to) (if b then [] else script_faults p (items_of p.tokens p.end true))) [
      | true ↦ tt
      | false ↦ long_fits from to p p.tokens h.0.2 h.0.1 h.1 (short_fits from to p h.0)
    ]

-- ---- hints

-- each of some places is such
abbrev EachPlace : (ℕ → Type 0) → List ℕ → Type 0
EachPlace P [] = Unit {0}
EachPlace P (n ∷ ns) = P n × EachPlace P ns

abbrev EachToken : (ℕ → Type 0) → List Word → Type 0
EachToken P [] = Unit {0}
EachToken P (w ∷ ws) = P w.at × EachToken P ws

places_append : (P : ℕ → Type 0) (xs ys : List ℕ) → EachPlace P xs → EachPlace P ys → EachPlace P (xs ++ ys)
places_append P [] ys p q = q
places_append P (x ∷ xs) ys p q = (p.0, places_append P xs ys p.1 q)

tokens_left : (P : ℕ → Type 0) (xs ys : List Word) → EachToken P (xs ++ ys) → EachToken P xs
tokens_left P [] ys h = tt
tokens_left P (x ∷ xs) ys h = (h.0, tokens_left P xs ys h.1)

tokens_right : (P : ℕ → Type 0) (xs ys : List Word) → EachToken P (xs ++ ys) → EachToken P ys
tokens_right P [] ys h = h
tokens_right P (x ∷ xs) ys h = tokens_right P xs ys h.1

-- a remark stands at its word
ended_at : (h r : Remark) (ws : List Word) → ended r ws ≡ Ok h → h.at ≡ r.at
ended_at h r [] e = ap (λ (x : Remark). x.at) (sym (ok_is r h e))
  where
    ok_is : (r h : Remark) → (let x : Read Remark = Ok r in x) ≡ Ok h → r ≡ h
    ok_is r h e = cc
ended_at h r (w ∷ ws) e = absurd cc

text_stands : (at end : ℕ) (flags : Flags) (ws : List Word) (h : Remark) → text_at at flags end ws ≡ Ok h → h.at ≡ at
text_stands at end flags [] h e = absurd cc
text_stands at end flags (w ∷ ws) h e =
    elim (mark w) as (λ m. (elim m as (λ _. Read Remark) [ Text ↦ ended (record { at = at; text = w.text; hidden = is_given flags.hidden; strict = is_given flags.strict }) ws | _ ↦ Err (script.Expected w.at wanted.Text) ]) ≡ Ok h → h.at ≡ at) [
      | Text ↦ λ e. ended_at h (record { at = at; text = w.text; hidden = is_given flags.hidden; strict = is_given flags.strict }) ws e
      | _ ↦ λ e. absurd cc
    ] e

remark_stands : (at end : ℕ) (ws : List Word) (h : Remark) → hint_at at end ws ≡ Ok h → h.at ≡ at
remark_stands at end ws h e = by_flags (flags_at end ws) e
  where
    by_flags : (r : Read (Flags × List Word)) → and_then r (λ p. text_at at p.0 end p.1) ≡ Ok h → h.at ≡ at
    by_flags (Ok p) e = text_stands at end p.0 p.1 h e
    by_flags (Err f) e = absurd cc

-- the hints of an item stand at its tokens
mutual
  item_hints : (P : ℕ → Type 0) (sample : Bool) (end budget column room left : ℕ) (ws next : List Word) (x : Entry) → IsItem sample end budget column room left ws next x → EachToken P ws → EachPlace P (hints_in x)
  item_hints P sample end _ _ _ _ _ _ _ (a_move budget column room w ws next m k g e is) t = tt
  item_hints P sample end _ _ _ _ _ _ _ (a_hint budget column room w ws next h k g e is) t = (subst P (sym (remark_stands w.at _ ws h is)) t.0, tt)
  item_hints P sample end _ _ _ _ _ _ _ (a_bullet budget column room left w v vs next es k d b) t = block_of P sample end budget v.column room left (v ∷ vs) next es b t.1
  item_hints P sample end _ _ _ _ _ _ _ (a_branch budget column room left w v vs next es k d b) t = block_of P sample end budget v.column room left (v ∷ vs) next es b t.1

  block_of : (P : ℕ → Type 0) (sample : Bool) (end budget column room left : ℕ) (ws next : List Word) (es : List Entry) → IsBlock sample end budget column room left ws next es → EachToken P ws
      → EachPlace P (hints_in_all (entries_of es))
  block_of P sample end _ _ _ _ _ _ _ (last budget column room left ws next x i e) t = places_append P (hints_in x) [] (item_hints P sample end budget column room left ws next x i t) tt
  block_of P sample end _ _ _ _ _ _ _ (line budget column room between left ws vs next v x xs i b more) t =
      places_append P (hints_in x) (hints_in_all (entries_of xs)) (item_hints P sample end budget column room between ws (v ∷ vs ++ next) x i (tokens_left P ws (v ∷ vs) t))
      (block_of P sample end budget column between left (v ∷ vs) next xs more (tokens_right P ws (v ∷ vs) t))
  block_of P sample end _ _ _ _ _ _ _ (semicolon budget column room between left ws vs next s v x xs i sep off more) t =
      places_append P (hints_in x) (hints_in_all (entries_of xs)) (item_hints P sample end budget column room between ws (s ∷ v ∷ vs ++ next) x i (tokens_left P ws (s ∷ v ∷ vs) t))
      (block_of P sample end budget column between left (v ∷ vs) next xs more (tokens_right P ws (s ∷ v ∷ vs) t).1)

script_hints : (P : ℕ → Type 0) (end : ℕ) (ws : List Word) (es : List Entry) → IsScript true end ws es → EachToken P ws → EachPlace P (hints_in_all (entries_of es))
script_hints P end _ _ empty t = tt
script_hints P end _ _ (block left w ws es b) t = block_of P true end 15 w.column 200 left (w ∷ ws) [] es b t

word_hints : (P : ℕ → Type 0) (front ws : List Word) → EachToken P ws → EachPlace P (hint_words front ws)
word_hints P front [] t = tt
word_hints P front (w ∷ ws) t =
    elim (is_hint_word front w) as (λ b. EachPlace P (if b then w.at ∷ hint_words (front ++ w ∷ []) ws else hint_words (front ++ w ∷ []) ws)) [
      | true ↦ (t.0, word_hints P (front ++ w ∷ []) ws t.1)
      | false ↦ word_hints P (front ++ w ∷ []) ws t.1
    ]

read_hints : (P : ℕ → Type 0) (end : ℕ) (ws : List Word) → EachToken P ws → EachPlace P (hints_or_words ws (items_of ws end true))
read_hints P end ws t = by_read (items_of ws end true) refl
  where
    by_long : (o : Option ScriptFault) (es : List Entry) → and_then (unless_fault o ws) (λ short. entries_of_tokens short end true) ≡ Ok es → entries_of_tokens ws end true ≡ Ok es
    by_long None es e = e
    by_long (Some f) es e = absurd cc

    by_read : (r : Read (List Entry)) → items_of ws end true ≡ r → EachPlace P (hints_or_words ws r)
    by_read (Ok es) e = script_hints P end ws es (script_laid true end ws es (by_long (long_fault ws) es e)) t
    by_read (Err f) e = word_hints P [] ws t

abbrev Inside : ℕ → ℕ → ℕ → Type 0
Inside from to at = (from ≤ at) × (at < to)

tokens_inside : (from mid to : ℕ) (ws : List Word) → mid ≤ to → AreInside from mid ws → EachToken (Inside from to) ws
tokens_inside from mid to [] l h = tt
tokens_inside from mid to (w ∷ ws) l h = ((omega (arith, h.0.0), omega (arith, h.0.1, l)), tokens_inside from mid to ws l h.1)

hints_inside : (from to : ℕ) (o : Option Part) → BlockStands from to o → EachPlace (Inside from to) (block_hints o)
hints_inside from to None h = tt
hints_inside from to (Some p) h = read_hints (Inside from to) p.end p.tokens (tokens_inside from p.end to p.tokens h.0.1 h.0.2)

places_drop : (P : ℕ → Type 0) (n : ℕ) (xs : List ℕ) → EachPlace P xs → EachPlace P (drop n xs)
places_drop P zero xs h = h
places_drop P (suc n) [] h = tt
places_drop P (suc n) (x ∷ xs) h = places_drop P n xs h.1

one_within : (from to : ℕ) (xs : List ℕ) → EachPlace (Inside from to) xs → Each (IsWithin from to) (flat_map (λ at. fault at (Limit Hints (suc hint_limit)) ∷ []) (take 1 xs))
one_within from to [] h = tt
one_within from to (x ∷ xs) h = (stands_at from to x (Limit Hints (suc hint_limit)) h.0.0 h.0.1 (omega arith), tt)

pub hints_within : (before : List Placed) (from to : ℕ) (o : Option Part) → BlockStands from to o → Each (IsWithin from to) (hints_over before o)
hints_within before from to o h = one_within from to (drop (hint_limit - hint_count before) (block_hints o)) (places_drop (Inside from to) (hint_limit - hint_count before) (block_hints o) (hints_inside from to o h))
