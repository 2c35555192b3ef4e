-- A fault stands where no script goes on.
use Rattle.std.proofs.Common.{◌≡◌, ◌∙◌, ℕ, suc, ◌+◌, ◌-◌, ◌≤◌, ◌<◌, Bool, true, false, List, [], ◌∷◌, ◌++◌, length, refl, sym, ap, subst, arith, append_assoc, append-nil, Option, Some, None, Result, Ok, Err, ◌⊎◌, inl, inr, nat_lt, if◌then◌else◌}
use Rattle.std.specs.Prelude.{All}
use Rattle.std.proofs.lemmas.Bool.Decides.{nat_tests}
use Rattle.pg_base.specs.declared.token.TokenKind.TheVariants.{Name, Number, Text, Sign as SignToken}
use Rattle.pg_base.specs.declared.token.TokenKind.{TokenKind}
use Rattle.pg_base.specs.declared.token.LexFault.{LexFault}
use Rattle.pg_base.specs.Tokens.{Word, lexed}
use Rattle.pg_base.specs.Layout.{IsToken, written}
use Rattle.std.proofs.lemmas.Str.{chars-nil}
use Rattle.pg_base.specs.Spans.{IsTokenText, AreInOrder, AreTokens, AreTokensOf, token_end}
use Rattle.pg_script.specs.declared.fault.ScriptFault.{ScriptFault}
use Rattle.pg_script.specs.declared.fault.ScriptFault.TheVariants.{TooLong, Lex, Expected, TooMany, Deep, OutOfMemory}
use Rattle.pg_script.specs.declared.item.Script.{Script}
use Rattle.pg_script.specs.Data.{Entry}
use Rattle.pg_script.specs.View.{Reads}
use Rattle.pg_script.specs.Grammar.{IsScript}
use Rattle.pg_script.specs.Faults.{BeginsScript, BeginsNoScript, StopsAtToken, StopsInside, Stops, AreShort, AreLong, TokensFault, StopsInText, TextFault}
use Rattle.pg_script.specs.Lines.{Read, and_then, unless_fault}
use Rattle.pg_script.specs.Scripts.{script, entries_of_tokens, last_end, long_fault, items_of, lex_place, stands_before, broken_script, lexed_script, script_of}
use Rattle.pg_script.proofs.Alike.{Along, Two, Passes, Stops as Reading, passed, faulty}
use Rattle.pg_script.proofs.Laid.{script_read}
use Rattle.pg_script.proofs.Found.{clash}
use Rattle.pg_script.proofs.Starts.{script_alike, script_passes}
use Rattle.pg_script.proofs.Standing.{At, Missing, Stands, stands_map}
use Rattle.pg_script.proofs.Resumes.{begun_before}

-- ---- tokens in order begin at places of their own

longer-text : (kind : TokenKind) (c : ℕ) (cs : List ℕ) → 0 < length (written kind (c ∷ cs))
longer-text Name c cs = omega arith
longer-text Number c cs = omega arith
longer-text Text c cs = omega arith
longer-text (SignToken sign) c cs = omega arith

empty-text : (kind : TokenKind) → IsToken kind [] [] → 0 < length (written kind [])
empty-text Name h = let clashes : false ≡ true = h.0.0 in cc
empty-text Number h = absurd (omega (arith, h.0.0))
empty-text Text h = omega arith
empty-text (SignToken sign) (inl h) = absurd h
empty-text (SignToken sign) (inr h) = let clashes : false ≡ true = h.0.0 in cc

text-some : (kind : TokenKind) (text : List ℕ) → IsTokenText kind text → 0 < length (written kind text)
text-some kind (c ∷ cs) h = longer-text kind c cs
text-some kind [] h = let P : List ℕ → Type 0 = λ cs. IsToken kind cs [] in empty-text kind (subst P chars-nil h)

-- the tokens and the end stand at this byte or behind it, each behind the one before
abbrev Rising : (at end : ℕ) → List Word → Type 0
Rising at end [] = at ≤ end
Rising at end (w ∷ ws) = (at ≤ w.at) × Rising (suc w.at) end ws

rising-from : (low at end : ℕ) (ws : List Word) → low ≤ at → Rising at end ws → Rising low end ws
rising-from low at end [] le h = omega (arith, le, h)
rising-from low at end (w ∷ ws) le h = (omega (arith, le, h.0), h.1)

rising : (at end : ℕ) (ws : List Word) → AreInOrder at end ws → All (λ (w : Word). IsTokenText w.kind w.text) ws → Rising at end ws
rising at end [] h texts = h
rising at end (w ∷ ws) h texts =
    (h.0, rising-from (suc w.at) (token_end w) end ws (omega (arith, text-some w.kind w.text (texts 0 w (omega arith)))) (rising (token_end w) end ws h.1 (λ k d lt. texts (suc k) d (omega (arith, lt)))))

-- a byte at which one of the tokens begins
abbrev Among : List Word → ℕ → Type 0
Among [] at = ⊥
Among (w ∷ ws) at = (at ≡ w.at) ⊎ Among ws at

among-low : (low end : ℕ) (ws : List Word) (at : ℕ) → Rising low end ws → Among ws at → low ≤ at
among-low low end [] at r h = absurd h
among-low low end (w ∷ ws) at r (inl h) = omega (arith, r.0, h)
among-low low end (w ∷ ws) at r (inr h) = omega (arith, r.0, among-low (suc w.at) end ws at r.1 h)

end-low : (low end : ℕ) (ws : List Word) → Rising low end ws → low ≤ end
end-low low end [] r = r
end-low low end (w ∷ ws) r = omega (arith, r.0, end-low (suc w.at) end ws r.1)

-- the faults at these tokens, and at the end
abbrev Here : (end : ℕ) → List Word → ScriptFault → Type 0
Here end ws (Expected at what) = Among ws at ⊎ (at ≡ end)
Here end ws (TooMany at) = Among ws at
Here end ws (Deep at) = Among ws at
Here end ws _ = ⊥

here-more : (end : ℕ) (w : Word) (ws : List Word) (e : ScriptFault) → Here end ws e → Here end (w ∷ ws) e
here-more end w ws (Expected at what) (inl h) = inl (inr h)
here-more end w ws (Expected at what) (inr h) = inr h
here-more end w ws (TooMany at) h = inr h
here-more end w ws (Deep at) h = inr h
here-more end w ws (TooLong at) h = h
here-more end w ws (Lex fault) h = h
here-more end w ws OutOfMemory h = h

some-more : (P Q : ScriptFault → Type 0) (ws : List Word) → ((e : ScriptFault) → P e → Q e) → Along P ws → Along Q ws
some-more P Q [] f a = tt
some-more P Q (w ∷ ws) f a = (((λ what. f (Expected w.at what) (a.0.0 what)), f (TooMany w.at) a.0.1, f (Deep w.at) a.0.2), some-more P Q ws f a.1)

here-along : (end : ℕ) (ws : List Word) → Along (Here end ws) ws
here-along end [] = tt
here-along end (w ∷ ws) = (((λ what. inl (inl refl)), inl refl, inl refl), some-more (Here end ws) (Here end (w ∷ ws)) ws (here-more end w ws) (here-along end ws))

any-along : (ws : List Word) → Along (λ e. Unit {0}) ws
any-along [] = tt
any-along (w ∷ ws) = (((λ what. tt), tt, tt), any-along ws)

-- ---- no script begins with the tokens up to a fault

none-reads : (sample : Bool) (end : ℕ) (es : List Entry) (ws : List Word) (e : ScriptFault) → entries_of_tokens ws end sample ≡ Err e → IsScript sample end ws es → ⊥
none-reads sample end es ws e is h = clash e es (sym is ∙ script_read h)

passes-no : (P : ScriptFault → Type 0) (r : Read (List Entry)) (e : ScriptFault) → r ≡ Err e → Passes P r → P e
passes-no P r e is h = let Q : Read (List Entry) → Type 0 = Passes P in subst Q is h

none-alike : (sample : Bool) (t : Two) (ws : List Word) (end : ℕ) (es : List Entry) (r : Read (List Entry)) (e : ScriptFault) → r ≡ Err e → (t.Past e → ⊥) → IsScript sample end ws es → Reading t r (entries_of_tokens ws end sample) → ⊥
none-alike sample t ws end es r e is off h (passed p) = off (passes-no t.Past r e is p)
none-alike sample t ws end es r e is off h (faulty x one two at) = none-reads sample end es ws x two h

begins-none : (sample : Bool) (end : ℕ) (front back : List Word) (e : ScriptFault) → entries_of_tokens (front ++ back) end sample ≡ Err e → (Here end back e → ⊥) → BeginsNoScript sample front
begins-none sample end front back e is off more other_end es h =
    let t : Two = record { Front = λ x. Unit {0}; Past = Here end back; end = end; back = back; other_end = other_end; other = more; along = here-along end back; stands = λ what. inr refl } in
    none-alike sample t (front ++ more) other_end es (entries_of_tokens (front ++ back) end sample) e is off h (script_alike sample t front (any-along front))

token-stops : (sample : Bool) (end : ℕ) (front back : List Word) (w : Word) (ws : List Word) (e : ScriptFault) (at : ℕ) → ws ≡ front ++ w ∷ back → entries_of_tokens ws end sample ≡ Err e → at ≡ w.at → (Here end back e → ⊥)
    → BeginsScript sample front → StopsAtToken sample ws at
token-stops sample end front back w ws e at whole is here off begun =
    let same : (front ++ w ∷ []) ++ back ≡ ws = append_assoc front (w ∷ []) back ∙ sym whole in
    record { front = front; token = w; back = back; whole = whole; place = sym here; begun = begun; none = begins-none sample end (front ++ w ∷ []) back e (ap (λ z. entries_of_tokens z end sample) same ∙ is) off }

at-here : (end : ℕ) (w : Word) (ws : List Word) (e : ScriptFault) → At w.at e → Here end (w ∷ ws) e
at-here end w ws (Expected at what) h = inl (inl h)
at-here end w ws (TooMany at) h = inl h
at-here end w ws (Deep at) h = inl h
at-here end w ws (TooLong at) h = h
at-here end w ws (Lex fault) h = h
at-here end w ws OutOfMemory h = h

missing-here : (end : ℕ) (e : ScriptFault) → Missing end e → Here end [] e
missing-here end (Expected at what) h = inr h
missing-here end (TooMany at) h = h
missing-here end (Deep at) h = h
missing-here end (TooLong at) h = h
missing-here end (Lex fault) h = h
missing-here end OutOfMemory h = h

stands-here : (C : List Word → Type 0) (end : ℕ) (ws : List Word) (e : ScriptFault) → Stands C end ws e → Here end ws e
stands-here C end [] e s = missing-here end e s.0
stands-here C end (w ∷ ws) e (inl s) = at-here end w ws e s.0
stands-here C end (w ∷ ws) e (inr s) = here-more end w ws e (stands-here (λ fr. C (w ∷ fr)) end ws e s)

not-behind : (end : ℕ) (back : List Word) (at : ℕ) → Rising (suc at) end back → Among back at → ⊥
not-behind end back at r h = omega (arith, among-low (suc at) end back at r h)

-- the fault stands at this place alone
abbrev Only : ScriptFault → ℕ → Type 0
Only e at = (n : ℕ) → At n e → at ≡ n

-- the tokens before this one begin a script, since the fault stands no further back
begun-here : (sample : Bool) (stop end : ℕ) (e : ScriptFault) (at : ℕ) (front : List Word) (w : Word) (rest : List Word) → ((back : List Word) → Rising (suc at) end back → Here stop back e → ⊥) → Rising (suc at) end rest
    → Stands (λ fr. BeginsScript sample (front ++ fr)) stop (w ∷ rest) e → BeginsScript sample front
begun-here sample stop end e at front w rest off r (inl s) = let P : List Word → Type 0 = BeginsScript sample in subst P (append-nil front) s.1
begun-here sample stop end e at front w rest off r (inr s) = absurd (off rest r (stands-here (λ fr. BeginsScript sample (front ++ w ∷ fr)) stop rest e s))

begun-on : (sample : Bool) (stop end : ℕ) (e : ScriptFault) (at : ℕ) (front : List Word) (w : Word) (rest : List Word) → Only e at → Rising (suc w.at) end rest → Among rest at
    → Stands (λ fr. BeginsScript sample (front ++ fr)) stop (w ∷ rest) e → Stands (λ fr. BeginsScript sample ((front ++ w ∷ []) ++ fr)) stop rest e
begun-on sample stop end e at front w rest o r h (inl s) = absurd (omega (arith, o w.at s.0, among-low (suc w.at) end rest at r h))
begun-on sample stop end e at front w rest o r h (inr s) =
    let P : List Word → Type 0 = BeginsScript sample in
    stands_map (λ fr. BeginsScript sample (front ++ w ∷ fr)) (λ fr. BeginsScript sample ((front ++ w ∷ []) ++ fr)) stop rest e (λ fr c. subst P (sym (append_assoc front (w ∷ []) fr)) c) s

-- One of these tokens, of those that are left, has the fault. They are read up to one end and stand in order up to another.
find : (sample : Bool) (stop end : ℕ) (e : ScriptFault) (at : ℕ) (ws : List Word) → entries_of_tokens ws stop sample ≡ Err e → Only e at → ((back : List Word) → Rising (suc at) end back → Here stop back e → ⊥)
    → (low : ℕ) (front rest : List Word) → ws ≡ front ++ rest → Rising low end rest → Among rest at → Stands (λ fr. BeginsScript sample (front ++ fr)) stop rest e → StopsAtToken sample ws at
find sample stop end e at ws is o off low front [] whole r h s = absurd h
find sample stop end e at ws is o off low front (w ∷ rest) whole r (inl h) s =
    let R : ℕ → Type 0 = λ n. Rising (suc n) end rest in
    let q = subst R (sym h) r.1 in
    token-stops sample stop front rest w ws e at whole is h (off rest q) (begun-here sample stop end e at front w rest off q s)
find sample stop end e at ws is o off low front (w ∷ rest) whole r (inr h) s =
    find sample stop end e at ws is o off (suc w.at) (front ++ w ∷ []) rest (whole ∙ sym (append_assoc front (w ∷ []) rest)) r.1 h (begun-on sample stop end e at front w rest o r.1 h s)

-- the tokens begin a script where the fault stands at the end
begun-end : (C : List Word → Type 0) (low end : ℕ) (ws : List Word) (e : ScriptFault) → Rising low end ws → Only e end → Stands C end ws e → C ws
begun-end C low end [] e r o s = s.1
begun-end C low end (w ∷ ws) e r o (inl s) = absurd (omega (arith, o w.at s.0, end-low (suc w.at) end ws r.1))
begun-end C low end (w ∷ ws) e r o (inr s) = begun-end (λ fr. C (w ∷ fr)) (suc w.at) end ws e r.1 o s

not-behind-or-end : (end : ℕ) (back : List Word) (at : ℕ) → Rising (suc at) end back → Among back at ⊎ (at ≡ end) → ⊥
not-behind-or-end end back at r (inl h) = not-behind end back at r h
not-behind-or-end end back at r (inr h) = omega (arith, end-low (suc at) end back r, h)

-- a fault of tokens in order stands where no script goes on
stops : (sample : Bool) (low end : ℕ) (ws : List Word) (e : ScriptFault) → Rising low end ws → entries_of_tokens ws end sample ≡ Err e → Here end ws e → Stops sample end ws e
stops sample low end ws (Expected at what) r is (inl h) =
    inl (find sample end end (Expected at what) at ws is (λ n q. q) (λ back b. λ x. not-behind-or-end end back at b x) low [] ws refl r h (begun_before sample end ws (Expected at what) is))
stops sample low end ws (Expected at what) r is (inr h) =
    inr (h, begun-end (BeginsScript sample) low end ws (Expected at what) r (λ n q. sym h ∙ q) (begun_before sample end ws (Expected at what) is), λ es g. none-reads sample end es ws (Expected at what) is g)
stops sample low end ws (TooMany at) r is h =
    find sample end end (TooMany at) at ws is (λ n q. q) (λ back b. λ x. not-behind end back at b x) low [] ws refl r h (begun_before sample end ws (TooMany at) is)
stops sample low end ws (Deep at) r is h =
    find sample end end (Deep at) at ws is (λ n q. q) (λ back b. λ x. not-behind end back at b x) low [] ws refl r h (begun_before sample end ws (Deep at) is)
stops sample low end ws (TooLong at) r is h = h
stops sample low end ws (Lex fault) r is h = h
stops sample low end ws OutOfMemory r is h = h

pub tokens_stop : (sample : Bool) (end : ℕ) (ws : List Word) (e : ScriptFault) → AreTokens end ws → entries_of_tokens ws end sample ≡ Err e → Stops sample end ws e
tokens_stop sample end ws e t is =
    stops sample 0 end ws e (rising 0 end ws t.in_order t.texts) is (passes-no (Here end ws) (entries_of_tokens ws end sample) e is (script_passes sample (Here end ws) end ws (here-along end ws) (λ what. inr refl)))

-- ---- of tokens

lt-true : (a b : ℕ) → nat_lt a b ≡ true → a < b
lt-true a b h = grind (arith, nat_tests, h)

lt-false : (a b : ℕ) → nat_lt a b ≡ false → b ≤ a
lt-false a b h = grind (arith, nat_tests, h)

data Length (ws : List Word) : Type 0 where
  short : long_fault ws ≡ None → AreShort ws → Length ws
  long : (at : ℕ) → long_fault ws ≡ Some (TooLong at) → AreLong ws at → Length ws

length-is : (w : Word) (ws : List Word) (c : Bool) → nat_lt 16384 (last_end w.at (w ∷ ws) - w.at) ≡ c → Length (w ∷ ws)
length-is w ws true e =
    long (w.at + 16384) (ap (λ c. if c then Some (TooLong (w.at + 16384)) else None) e) (refl, omega (arith, lt-true 16384 (last_end w.at (w ∷ ws) - w.at) e))
length-is w ws false e =
    short (ap (λ c. if c then Some (TooLong (w.at + 16384)) else None) e) (omega (arith, lt-false 16384 (last_end w.at (w ∷ ws) - w.at) e))

length-of : (ws : List Word) → Length ws
length-of [] = short refl tt
length-of (w ∷ ws) = length-is w ws (nat_lt 16384 (last_end w.at (w ∷ ws) - w.at)) refl

by-length : (ws : List Word) (end : ℕ) (sample : Bool) (o : Option ScriptFault) → long_fault ws ≡ o → items_of ws end sample ≡ and_then (unless_fault o ws) (λ zs. entries_of_tokens zs end sample)
by-length ws end sample o e = ap (λ x. and_then (unless_fault x ws) (λ zs. entries_of_tokens zs end sample)) e

too-long-is : (a b : ℕ) → (let r : Read (List Entry) = Err (TooLong a) in r) ≡ Err (TooLong b) → b ≡ a
too-long-is a b h = cc

long-only : (ws : List Word) (sample : Bool) (end at : ℕ) (e : ScriptFault) → AreLong ws at → ((e ≡ OutOfMemory → ⊥) → (let r : Read (List Entry) = Err (TooLong at) in r) ≡ Err e) → TokensFault sample end ws (Err e)
long-only ws sample end at (TooLong b) a h = let P : ℕ → Type 0 = AreLong ws in subst P (sym (too-long-is at b (h (λ x. cc)))) a
long-only ws sample end at OutOfMemory a h = tt
long-only ws sample end at (Lex fault) a h = let z : (let r : Read (List Entry) = Err (TooLong at) in r) ≡ Err (Lex fault) = h (λ x. cc) in cc
long-only ws sample end at (Expected b what) a h = let z : (let r : Read (List Entry) = Err (TooLong at) in r) ≡ Err (Expected b what) = h (λ x. cc) in cc
long-only ws sample end at (TooMany b) a h = let z : (let r : Read (List Entry) = Err (TooLong at) in r) ≡ Err (TooMany b) = h (λ x. cc) in cc
long-only ws sample end at (Deep b) a h = let z : (let r : Read (List Entry) = Err (TooLong at) in r) ≡ Err (Deep b) = h (λ x. cc) in cc

short-only : (ws : List Word) (sample : Bool) (end : ℕ) (e : ScriptFault) → AreShort ws → AreTokens end ws → ((e ≡ OutOfMemory → ⊥) → entries_of_tokens ws end sample ≡ Err e) → TokensFault sample end ws (Err e)
short-only ws sample end OutOfMemory a t h = tt
short-only ws sample end (TooLong b) a t h = absurd (tokens_stop sample end ws (TooLong b) t (h (λ x. cc)))
short-only ws sample end (Lex fault) a t h = absurd (tokens_stop sample end ws (Lex fault) t (h (λ x. cc)))
short-only ws sample end (Expected b what) a t h = (a, tokens_stop sample end ws (Expected b what) t (h (λ x. cc)))
short-only ws sample end (TooMany b) a t h = (a, tokens_stop sample end ws (TooMany b) t (h (λ x. cc)))
short-only ws sample end (Deep b) a t h = (a, tokens_stop sample end ws (Deep b) t (h (λ x. cc)))

fault-by : (sample : Bool) (end : ℕ) (ws : List Word) (result : Result Script ScriptFault) → AreTokens end ws → Reads script (items_of ws end sample) result → Length ws → TokensFault sample end ws result
fault-by sample end ws (Ok s) t h (short is a) = a
fault-by sample end ws (Ok s) t h (long at is a) = absurd (clash (TooLong at) (script s) (sym (by-length ws end sample (Some (TooLong at)) is) ∙ h))
fault-by sample end ws (Err e) t h (short is a) = short-only ws sample end e a t (λ x. sym (by-length ws end sample None is) ∙ h x)
fault-by sample end ws (Err e) t h (long at is a) = long-only ws sample end at e a (λ x. sym (by-length ws end sample (Some (TooLong at)) is) ∙ h x)

pub items_fault : (sample : Bool) (end : ℕ) (ws : List Word) (result : Result Script ScriptFault) → AreTokens end ws → Reads script (items_of ws end sample) result → TokensFault sample end ws result
items_fault sample end ws result t h = fault-by sample end ws result t h (length-of ws)

-- ---- of a text

before-off : (stop end : ℕ) (back : List Word) (at : ℕ) → Rising (suc at) end back → at < stop → Among back at ⊎ (at ≡ stop) → ⊥
before-off stop end back at r lt (inl h) = not-behind end back at r h
before-off stop end back at r lt (inr h) = omega (arith, lt, h)

-- a fault before the end up to which the tokens are read
before-stop : (sample : Bool) (stop end : ℕ) (ws : List Word) (e : ScriptFault) → Rising 0 end ws → entries_of_tokens ws stop sample ≡ Err e → Here stop ws e → stands_before e stop ≡ true → StopsInside sample ws e
before-stop sample stop end ws (Expected at what) r is (inl h) b =
    find sample stop end (Expected at what) at ws is (λ n q. q) (λ back q x. before-off stop end back at q (lt-true at stop b) x) 0 [] ws refl r h (begun_before sample stop ws (Expected at what) is)
before-stop sample stop end ws (Expected at what) r is (inr h) b = absurd (omega (arith, lt-true at stop b, h))
before-stop sample stop end ws (TooMany at) r is h b =
    find sample stop end (TooMany at) at ws is (λ n q. q) (λ back q x. not-behind end back at q x) 0 [] ws refl r h (begun_before sample stop ws (TooMany at) is)
before-stop sample stop end ws (Deep at) r is h b =
    find sample stop end (Deep at) at ws is (λ n q. q) (λ back q x. not-behind end back at q x) 0 [] ws refl r h (begun_before sample stop ws (Deep at) is)
before-stop sample stop end ws (TooLong at) r is h b = h
before-stop sample stop end ws (Lex fault) r is h b = h
before-stop sample stop end ws OutOfMemory r is h b = h

lex-is : (a b : LexFault) → (let r : Read (List Entry) = Err (Lex a) in r) ≡ Err (Lex b) → a ≡ b
lex-is a b h = cc

lex-only : (sample : Bool) (source : List ℕ) (fault : LexFault) (e : ScriptFault) → length source ≤ 16384 → (lexed source).fault ≡ Some fault → ((e ≡ OutOfMemory → ⊥) → (let r : Read (List Entry) = Err (Lex fault) in r) ≡ Err e) → TextFault sample source (Err e)
lex-only sample source fault OutOfMemory le is h = tt
lex-only sample source fault (Lex f) le is h = (le, is ∙ ap Some (lex-is fault f (h (λ x. cc))))
lex-only sample source fault (TooLong b) le is h = let z : (let r : Read (List Entry) = Err (Lex fault) in r) ≡ Err (TooLong b) = h (λ x. cc) in cc
lex-only sample source fault (Expected b what) le is h = let z : (let r : Read (List Entry) = Err (Lex fault) in r) ≡ Err (Expected b what) = h (λ x. cc) in cc
lex-only sample source fault (TooMany b) le is h = let z : (let r : Read (List Entry) = Err (Lex fault) in r) ≡ Err (TooMany b) = h (λ x. cc) in cc
lex-only sample source fault (Deep b) le is h = let z : (let r : Read (List Entry) = Err (Lex fault) in r) ≡ Err (Deep b) = h (λ x. cc) in cc

same-fault : (x e : ScriptFault) → (let r : Read (List Entry) = Err x in r) ≡ Err e → x ≡ e
same-fault x e h = cc

inside-of : (sample : Bool) (source : List ℕ) (fault : LexFault) (e : ScriptFault) → length source ≤ 16384 → (lexed source).fault ≡ Some fault → StopsInside sample (lexed source).words e → TextFault sample source (Err e)
inside-of sample source fault OutOfMemory le is h = tt
inside-of sample source fault (Lex f) le is h = absurd h
inside-of sample source fault (TooLong b) le is h = absurd h
inside-of sample source fault (Expected b what) le is h = (le, let P : Option LexFault → Type 0 = λ o. StopsInText sample (length source) (lexed source).words o (Expected b what) in subst P (sym is) h)
inside-of sample source fault (TooMany b) le is h = (le, let P : Option LexFault → Type 0 = λ o. StopsInText sample (length source) (lexed source).words o (TooMany b) in subst P (sym is) h)
inside-of sample source fault (Deep b) le is h = (le, let P : Option LexFault → Type 0 = λ o. StopsInText sample (length source) (lexed source).words o (Deep b) in subst P (sym is) h)

-- either want of memory, or the fault that was read
memory-or : (e : ScriptFault) → (e ≡ OutOfMemory) ⊎ (e ≡ OutOfMemory → ⊥)
memory-or OutOfMemory = inl refl
memory-or (Lex f) = inr (λ x. cc)
memory-or (TooLong b) = inr (λ x. cc)
memory-or (Expected b what) = inr (λ x. cc)
memory-or (TooMany b) = inr (λ x. cc)
memory-or (Deep b) = inr (λ x. cc)

inside-only : (sample : Bool) (source : List ℕ) (fault : LexFault) (x e : ScriptFault) → length source ≤ 16384 → (lexed source).fault ≡ Some fault → StopsInside sample (lexed source).words x
    → ((e ≡ OutOfMemory → ⊥) → (let r : Read (List Entry) = Err x in r) ≡ Err e) → TextFault sample source (Err e)
inside-only sample source fault x e le is h g = elim (memory-or e) as (λ z. TextFault sample source (Err e)) [
  | inl m ↦ (let P : ScriptFault → Type 0 = λ y. TextFault sample source (Err y) in subst P (sym m) tt)
  | inr m ↦ (let P : ScriptFault → Type 0 = λ y. TextFault sample source (Err y) in subst P (same-fault x e (g m)) (inside-of sample source fault x le is h))
]

broken-fault : (sample : Bool) (source : List ℕ) (fault : LexFault) (r : Read (List Entry)) (e : ScriptFault) → length source ≤ 16384 → (lexed source).fault ≡ Some fault
    → ((x : ScriptFault) → r ≡ Err x → stands_before x (lex_place fault) ≡ true → StopsInside sample (lexed source).words x) → ((e ≡ OutOfMemory → ⊥) → broken_script fault r ≡ Err e) → TextFault sample source (Err e)
broken-fault sample source fault (Ok es) e le is inside h = lex-only sample source fault e le is (λ x. h x)
broken-fault sample source fault (Err x) e le is inside h =
    elim (stands_before x (lex_place fault)) as (λ c. stands_before x (lex_place fault) ≡ c → ((e ≡ OutOfMemory → ⊥) → (let q : Read (List Entry) = if c then Err x else Err (Lex fault) in q) ≡ Err e) → TextFault sample source (Err e)) [
      | true ↦ λ b g. inside-only sample source fault x e le is (inside x refl b) g
      | false ↦ λ b g. lex-only sample source fault e le is g
    ] refl h

whole-of : (sample : Bool) (source : List ℕ) (e : ScriptFault) → length source ≤ 16384 → (lexed source).fault ≡ None → Stops sample (length source) (lexed source).words e → TextFault sample source (Err e)
whole-of sample source OutOfMemory le is h = tt
whole-of sample source (Lex f) le is h = absurd h
whole-of sample source (TooLong b) le is h = absurd h
whole-of sample source (Expected b what) le is h = (le, let P : Option LexFault → Type 0 = λ o. StopsInText sample (length source) (lexed source).words o (Expected b what) in subst P (sym is) h)
whole-of sample source (TooMany b) le is h = (le, let P : Option LexFault → Type 0 = λ o. StopsInText sample (length source) (lexed source).words o (TooMany b) in subst P (sym is) h)
whole-of sample source (Deep b) le is h = (le, let P : Option LexFault → Type 0 = λ o. StopsInText sample (length source) (lexed source).words o (Deep b) in subst P (sym is) h)

whole-only : (sample : Bool) (source : List ℕ) (e : ScriptFault) → length source ≤ 16384 → (lexed source).fault ≡ None → AreTokens (length source) (lexed source).words
    → ((e ≡ OutOfMemory → ⊥) → entries_of_tokens (lexed source).words (length source) sample ≡ Err e) → TextFault sample source (Err e)
whole-only sample source e le is t g = elim (memory-or e) as (λ z. TextFault sample source (Err e)) [
  | inl m ↦ (let P : ScriptFault → Type 0 = λ y. TextFault sample source (Err y) in subst P (sym m) tt)
  | inr m ↦ whole-of sample source e le is (tokens_stop sample (length source) (lexed source).words e t (g m))
]

broken-clash : (fault : LexFault) (r : Read (List Entry)) (es : List Entry) → broken_script fault r ≡ Ok es → ⊥
broken-clash fault (Ok xs) es h = clash (Lex fault) es h
broken-clash fault (Err e) es h =
    elim (stands_before e (lex_place fault)) as (λ b. (if b then Err e else Err (Lex fault)) ≡ Ok es → ⊥) [
      | true ↦ λ g. clash e es g
      | false ↦ λ g. clash (Lex fault) es g
    ] h

inside-all : (sample : Bool) (source : List ℕ) (fault : LexFault) → AreTokens (length source) (lexed source).words
    → (x : ScriptFault) → entries_of_tokens (lexed source).words (lex_place fault) sample ≡ Err x → stands_before x (lex_place fault) ≡ true → StopsInside sample (lexed source).words x
inside-all sample source fault t x is b =
    before-stop sample (lex_place fault) (length source) (lexed source).words x (rising 0 (length source) (lexed source).words t.in_order t.texts) is
    (passes-no (Here (lex_place fault) (lexed source).words) (entries_of_tokens (lexed source).words (lex_place fault) sample) x is
    (script_passes sample (Here (lex_place fault) (lexed source).words) (lex_place fault) (lexed source).words (here-along (lex_place fault) (lexed source).words) (λ what. inr refl))) b

text-by : (sample : Bool) (source : List ℕ) (o : Option LexFault) (result : Result Script ScriptFault) → length source ≤ 16384 → (lexed source).fault ≡ o → AreTokens (length source) (lexed source).words
    → Reads script (lexed_script (lexed source).words o (length source) sample) result → TextFault sample source result
text-by sample source None (Ok s) le is t h = (le, is)
text-by sample source None (Err e) le is t h = whole-only sample source e le is t h
text-by sample source (Some fault) (Ok s) le is t h = absurd (broken-clash fault (entries_of_tokens (lexed source).words (lex_place fault) sample) (script s) h)
text-by sample source (Some fault) (Err e) le is t h =
    broken-fault sample source fault (entries_of_tokens (lexed source).words (lex_place fault) sample) e le is (inside-all sample source fault t) h

too-long-only : (sample : Bool) (source : List ℕ) (e : ScriptFault) → 16384 < length source → ((e ≡ OutOfMemory → ⊥) → (let r : Read (List Entry) = Err (TooLong 16384) in r) ≡ Err e) → TextFault sample source (Err e)
too-long-only sample source e lt g = elim (memory-or e) as (λ z. TextFault sample source (Err e)) [
  | inl m ↦ (let P : ScriptFault → Type 0 = λ y. TextFault sample source (Err y) in subst P (sym m) tt)
  | inr m ↦ (let P : ScriptFault → Type 0 = λ y. TextFault sample source (Err y) in subst P (same-fault (TooLong 16384) e (g m)) (refl, lt))
]

text-length : (sample : Bool) (source : List ℕ) (c : Bool) (result : Result Script ScriptFault) → nat_lt 16384 (length source) ≡ c → (length source ≤ 16384 → AreTokens (length source) (lexed source).words)
    → Reads script (if c then Err (TooLong 16384) else lexed_script (lexed source).words (lexed source).fault (length source) sample) result → TextFault sample source result
text-length sample source true (Ok s) is t h = absurd (clash (TooLong 16384) (script s) h)
text-length sample source true (Err e) is t h = too-long-only sample source e (lt-true 16384 (length source) is) h
text-length sample source false result is t h =
    let le = lt-false 16384 (length source) is in text-by sample source (lexed source).fault result le refl (t le) h

pub text_fault : (sample : Bool) (source : List ℕ) (result : Result Script ScriptFault) → (length source ≤ 16384 → AreTokensOf source (lexed source).words) → Reads script (script_of source sample) result → TextFault sample source result
text_fault sample source result t h = text-length sample source (nat_lt 16384 (length source)) result refl (λ le. (t le).tokens) h
