-- What the reader answers is right.
use Rattle.std.proofs.Common.{◌≡◌, ℕ, ◌+◌, ◌-◌, ◌<◌, ◌≤◌, List, [], ◌∷◌, length, drop, map, get_or, Some, None, Result, Ok, Err, sym as flip, ◌∙◌, ap, subst, arith}
use Rattle.std.proofs.lemmas.List.{length-drop, length-map, drop-map, drop_more, drop_all, get_or_default}
use Rattle.pg_base.specs.Tokens.{Word, word}
use Rattle.pg_base.specs.declared.token.Token.{Token}
use Rattle.pg_grammar.specs.Shapes as grammar
use Rattle.pg_grammar.specs.Faults as faults
use Rattle.pg_grammar.specs.Machine.{Frame, State, Wants, step, ended, stopped, read_from, whole, read}
use Rattle.pg_grammar.proofs.Reader.{reading-good}
use Rattle.pg_shape.specs.View.{shape}
use Rattle.pg_shape.specs.Symbols.{symbol}
use Rattle.pg_shape.specs.Answers.{limits, place, last_words, Broken, answer, shape_answer, Gives, IsFaultAt, IsRight, judged, Takes, Ends}
use Rattle.pg_shape.specs.declared.shape.Shape.{Shape}
use Rattle.pg_shape.specs.declared.fault.ShapeFault.{ShapeFault}
use Rattle.pg_shape.specs.declared.fault.ShapeFault.TheVariants.{Expected, Deep, Long, OutOfMemory}
use Rattle.pg_shape.proofs.Reading.{refused_next, taken_next}

abbrev pub symbols : List Token → List grammar.Sym
symbols ts = map symbol (map word ts)

-- ---- right

fault-at : (end : ℕ) (words : List Word) (f kind : faults.Fault) (rest : List grammar.Sym) (at : ℕ) → faults.IsFirstFault limits (map symbol words) f rest
    → Broken f (place end (last_words words rest)) ≡ Broken kind at → IsFaultAt end words kind at
fault-at end words f kind rest at h e =
    let same : f ≡ kind = cc in
    let there : place end (last_words words rest) ≡ at = cc in
    let P : faults.Fault → Type 0 = λ x. faults.IsFirstFault limits (map symbol words) x rest in
    record { rest = rest; first = subst P same h; at_is = flip there }

right-of : (end : ℕ) (words : List Word) (r : faults.Reading) → faults.IsReading limits (map symbol words) r → (result : Result Shape ShapeFault) → Gives (answer end words r) result → IsRight end words result
right-of end words (faults.Read s) h (Ok x) e =
    let same : s ≡ shape x = cc in
    let P : grammar.Shape → Type 0 = λ y. faults.IsReading limits (map symbol words) (faults.Read y) in
    subst P same h
right-of end words (faults.Read s) h (Err (Expected at what)) e = cc
right-of end words (faults.Read s) h (Err (Deep at)) e = cc
right-of end words (faults.Read s) h (Err (Long at)) e = cc
right-of end words (faults.Refused f rest) h (Ok x) e = cc
right-of end words (faults.Refused f rest) h (Err (Expected at what)) e = fault-at end words f faults.Expected rest at h e
right-of end words (faults.Refused f rest) h (Err (Deep at)) e = fault-at end words f faults.Deep rest at h e
right-of end words (faults.Refused f rest) h (Err (Long at)) e = fault-at end words f faults.Long rest at h e
right-of end words r h (Err OutOfMemory) e = tt

pub right : (end : ℕ) (words : List Word) (result : Result Shape ShapeFault) → Gives (shape_answer end words) result → IsRight end words result
right end words result e = right-of end words (read limits (map symbol words)) (reading-good limits (map symbol words)) result e

-- ---- the loop

-- what is left to read decides the reading
abbrev pub Reads : ℕ → State → List Token → List Token → Type 0
Reads room st left tokens = whole (read_from 100 room st (symbols left)) ≡ read limits (symbols tokens)

pub reads_start : (tokens : List Token) (frames : List Frame) → frames ≡ [] → Reads 8192 (Wants frames) tokens tokens
reads_start tokens frames e = ap (λ l. whole (read_from 100 8192 (Wants l) (symbols tokens))) e

pub turn : (tokens : List Token) (i room : ℕ) (t : Token) (st next : State) → i < length tokens → get_or tokens i t ≡ t → Reads room st (drop i tokens) tokens
    → step st (symbol (word t)) ≡ Some next → judged room (step st (symbol (word t))) ≡ None → Reads (room - 1) next (drop (i + 1) tokens) tokens
turn tokens i room t st next lt is h e j =
    let rest : List grammar.Sym = symbols (drop (i + 1) tokens) in
    let parts : drop i tokens ≡ t ∷ drop (i + 1) tokens = drop_more tokens i t lt ∙ ap (λ x. x ∷ drop (i + 1) tokens) is in
    flip (ap whole (taken_next room (symbol (word t) ∷ rest) (ended st) (λ x. read_from 100 (room - 1) x rest) (step st (symbol (word t))) next e j))
    ∙ flip (ap (λ l. whole (read_from 100 room st (symbols l))) parts) ∙ h

at-last : (end : ℕ) (tokens : List Token) (i : ℕ) (t : Token) (later : List Token) (f : faults.Fault) → drop i tokens ≡ t ∷ later → i < length tokens → read limits (symbols tokens) ≡ faults.Refused f (symbols (t ∷ later))
    → shape_answer end (map word tokens) ≡ Broken f t.at
at-last end tokens i t later f parts lt e =
    let words : List Word = map word tokens in
    let size : length words - length (symbols (t ∷ later)) ≡ i =
    omega (arith, lt, length-map tokens word, length-map (map word (t ∷ later)) symbol, length-map (t ∷ later) word, ap length parts, length-drop i tokens) in
    let there : last_words words (symbols (t ∷ later)) ≡ map word (t ∷ later) = ap (λ n. drop n words) size ∙ drop-map word i tokens ∙ ap (map word) parts in
    ap (answer end words) e ∙ ap (λ l. Broken f (place end l)) there

pub stop : (end : ℕ) (tokens : List Token) (i room : ℕ) (t : Token) (st : State) (f : faults.Fault) → i < length tokens → get_or tokens i t ≡ t → Reads room st (drop i tokens) tokens
    → judged room (step st (symbol (word t))) ≡ Some f → shape_answer end (map word tokens) ≡ Broken f t.at
stop end tokens i room t st f lt is h j =
    let later : List Token = drop (i + 1) tokens in
    let parts : drop i tokens ≡ t ∷ later = drop_more tokens i t lt ∙ ap (λ x. x ∷ later) is in
    at-last end tokens i t later f parts lt
    (flip h ∙ ap (λ l. whole (read_from 100 room st (symbols l))) parts
    ∙ refused_next room (symbol (word t)) (symbols later) (ended st) (λ x. read_from 100 (room - 1) x (symbols later)) (step st (symbol (word t))) f j)

-- a fault of this token is the answer
pub fault_turn : (end : ℕ) (tokens : List Token) (i room : ℕ) (t : Token) (st : State) (fault : ShapeFault) → i < length tokens → get_or tokens i t ≡ t → Reads room st (drop i tokens) tokens
    → Takes (step st (symbol (word t))) room t.at (Err fault) → Gives (shape_answer end (map word tokens)) (Err fault)
fault_turn end tokens i room t st (Expected p what) lt is h k = stop end tokens i room t st faults.Expected lt is h k.0 ∙ ap (Broken faults.Expected) (flip k.1)
fault_turn end tokens i room t st (Deep p) lt is h k = stop end tokens i room t st faults.Deep lt is h k.0 ∙ ap (Broken faults.Deep) (flip k.1)
fault_turn end tokens i room t st (Long p) lt is h k = stop end tokens i room t st faults.Long lt is h k.0 ∙ ap (Broken faults.Long) (flip k.1)
fault_turn end tokens i room t st OutOfMemory lt is h k = tt

last-nothing : (end : ℕ) (words : List Word) → place end (last_words words []) ≡ end
last-nothing end words = ap (place end) (drop_all (length words - 0) words (omega arith))

pub end_turn : (end : ℕ) (tokens : List Token) (room : ℕ) (st : State) (result : Result Shape ShapeFault) → Reads room st [] tokens → Ends (ended st) end result → Gives (shape_answer end (map word tokens)) result
end_turn end tokens room st (Ok s) h k = ap (answer end (map word tokens)) (flip h ∙ ap (λ o. whole (stopped [] o)) k)
end_turn end tokens room st (Err (Expected p what)) h k =
    ap (answer end (map word tokens)) (flip h ∙ ap (λ o. whole (stopped [] o)) k.0)
    ∙ ap (Broken faults.Expected) (last-nothing end (map word tokens) ∙ flip k.1)
end_turn end tokens room st (Err OutOfMemory) h k = tt
end_turn end tokens room st (Err (Deep p)) h k = absurd k
end_turn end tokens room st (Err (Long p)) h k = absurd k

-- ---- by the number of the token

pub fault_index : (end : ℕ) (tokens : List Token) (i room : ℕ) (d : Token) (st : State) (fault : ShapeFault) → i < length tokens → Reads room st (drop i tokens) tokens
    → Takes (step st (symbol (word (get_or tokens i d)))) room (get_or tokens i d).at (Err fault) → Gives (shape_answer end (map word tokens)) (Err fault)
fault_index end tokens i room d st fault lt h k =
    let t : Token = get_or tokens i d in
    fault_turn end tokens i room t st fault lt (get_or_default tokens i t d lt) h k

pub end_index : (end : ℕ) (tokens : List Token) (i room : ℕ) (st : State) (result : Result Shape ShapeFault) → length tokens ≤ i → Reads room st (drop i tokens) tokens → Ends (ended st) end result
    → Gives (shape_answer end (map word tokens)) result
end_index end tokens i room st result le h k = end_turn end tokens room st result (flip (ap (λ l. whole (read_from 100 room st (symbols l))) (drop_all i tokens le)) ∙ h) k
