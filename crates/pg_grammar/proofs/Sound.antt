-- Each state is reached by symbols that begin a shape.
use Rattle.std.proofs.Common.{◌≡◌, ℕ, ◌≤◌, Bool, true, false, ◌&&◌, ◌||◌, cond, List, [], ◌∷◌, ◌++◌, Option, Some, None, option_map, nat_le, sym as flip, ◌∙◌, ap, refl, subst, arith, append_assoc}
use Rattle.std.proofs.lemmas.List.{append-nil}
use Rattle.std.proofs.lemmas.Bool.Decides.{nat_tests}
use Rattle.pg_grammar.specs.Shapes.{Op, Quantifier, Word, level, left_min, Sym, Name, Number, FalseWord, SuccWord, Sign, NotSign, QuantSign, Open, Close, Comma, Colon, NatSign, Group, Bracket, Binders, Plain, Typed, Grouped, names, plain, typed, bracketed, all_bracketed, binders, Shape, Named, Numeral, Falsum, Paren, App, Quant, spelled, strength, closed, can_apply, IsShape}
use Rattle.pg_grammar.specs.Faults.{IsShapeOf, Begins}
use Rattle.pg_grammar.specs.Machine.{Heading, Unnamed, PlainNames, PlainColon, PlainTyped, GroupOpen, GroupNames, GroupColon, GroupTyped, GroupClosed, alone, with_name, bracket, heading_step, binders_of, Frame, InParen, InNext, InArg, InNeg, InQuant, InBinary, State, Wants, Has, Binds, place, wanted, is_paren, leaving, takes, goes_on, Operand, reduced, settled, on_sign, close_in, end_in, when, step, ended}
use Rattle.pg_grammar.proofs.Table.{right-fits}

pub by_test : {X : Type 0} (P : X → Type 0) (b : Bool) (x y : X) → (b ≡ true → P x) → (b ≡ false → P y) → P (cond b x y)
by_test P true x y f g = f refl
by_test P false x y f g = g refl

and_left : (a b : Bool) → (a && b) ≡ true → a ≡ true
and_left true b h = refl
and_left false b h = h

and_right : (a b : Bool) → (a && b) ≡ true → b ≡ true
and_right true b h = h
and_right false b h = cc

or_left : (a b : Bool) → (a || b) ≡ false → a ≡ false
or_left true b h = cc
or_left false b h = refl

takes-level : (min : ℕ) (left : Shape) (op : Op) → takes min left op ≡ true → min ≤ level op
takes-level min left op h = let e = and_left (nat_le min (level op)) (nat_le (left_min op) (strength left) && closed left) h in grind (arith, nat_tests)

takes-left : (min : ℕ) (left : Shape) (op : Op) → takes min left op ≡ true → left_min op ≤ strength left
takes-left min left op h =
    let e = and_left (nat_le (left_min op) (strength left)) (closed left) (and_right (nat_le min (level op)) (nat_le (left_min op) (strength left) && closed left) h) in
    grind (arith, nat_tests)

takes-closed : (min : ℕ) (left : Shape) (op : Op) → takes min left op ≡ true → closed left ≡ true
takes-closed min left op h = and_right (nat_le (left_min op) (strength left)) (closed left) (and_right (nat_le min (level op)) (nat_le (left_min op) (strength left) && closed left) h)

-- ---- the names of a quantifier

abbrev pub heading : Heading → List Sym
heading Unnamed = []
heading (PlainNames g) = plain g
heading (PlainColon g) = plain g ++ Colon ∷ []
heading (PlainTyped g) = typed g
heading (GroupOpen bs at) = all_bracketed bs ++ Open at ∷ []
heading (GroupNames bs at g) = all_bracketed bs ++ Open at ∷ plain g
heading (GroupColon bs at g) = all_bracketed bs ++ Open at ∷ (plain g ++ Colon ∷ [])
heading (GroupTyped bs at g) = all_bracketed bs ++ Open at ∷ typed g
heading (GroupClosed bs b) = all_bracketed bs ++ bracketed b

names-next : (xs : List Word) (y : Word) → names (xs ++ y ∷ []) ≡ names xs ++ Name y ∷ []
names-next [] y = refl
names-next (x ∷ xs) y = ap (λ l. Name x ∷ l) (names-next xs y)

plain-next : (g : Group) (y : Word) → plain (with_name g y) ≡ plain g ++ Name y ∷ []
plain-next g y = ap (λ l. Name g.first ∷ l) (names-next g.others y)

bracketed-next : (bs : List Bracket) (b : Bracket) → all_bracketed (bs ++ b ∷ []) ≡ all_bracketed bs ++ bracketed b
bracketed-next [] b = append-nil (bracketed b)
bracketed-next (c ∷ bs) b = ap (λ l. bracketed c ++ l) (bracketed-next bs b) ∙ flip (append_assoc (bracketed c) (all_bracketed bs) (bracketed b))

abbrev IsHeading : List Sym → Option Heading → Type 0
IsHeading front None = Unit {0}
IsHeading front (Some h) = heading h ≡ front

heading-next : (h : Heading) (sym : Sym) → IsHeading (heading h ++ sym ∷ []) (heading_step h sym)
heading-next Unnamed (Name x) = refl
heading-next Unnamed (Open at) = refl
heading-next (PlainNames g) (Name y) = plain-next g y
heading-next (PlainNames g) Colon = refl
heading-next (PlainColon g) NatSign = flip (append_assoc (plain g) (Colon ∷ []) (NatSign ∷ []))
heading-next (GroupOpen bs at) (Name x) = flip (append_assoc (all_bracketed bs) (Open at ∷ []) (Name x ∷ []))
heading-next (GroupNames bs at g) (Name y) =
    ap (λ l. all_bracketed bs ++ Open at ∷ l) (plain-next g y) ∙ flip (append_assoc (all_bracketed bs) (Open at ∷ plain g) (Name y ∷ []))
heading-next (GroupNames bs at g) Colon = flip (append_assoc (all_bracketed bs) (Open at ∷ plain g) (Colon ∷ []))
heading-next (GroupColon bs at g) NatSign =
    ap (λ l. all_bracketed bs ++ Open at ∷ l) (flip (append_assoc (plain g) (Colon ∷ []) (NatSign ∷ [])))
    ∙ flip (append_assoc (all_bracketed bs) (Open at ∷ (plain g ++ Colon ∷ [])) (NatSign ∷ []))
heading-next (GroupTyped bs at g) Close = flip (append_assoc (all_bracketed bs) (Open at ∷ typed g) (Close ∷ []))
heading-next (GroupClosed bs b) (Open at) = ap (λ l. l ++ Open at ∷ []) (bracketed-next bs b)
heading-next _ _ = tt

-- a completion of the names
abbrev some_word : Word
some_word = record { at = 0; text = [] }

abbrev missing : Heading → List Sym
missing Unnamed = Name some_word ∷ []
missing (PlainNames g) = []
missing (PlainColon g) = NatSign ∷ []
missing (PlainTyped g) = []
missing (GroupOpen bs at) = Name some_word ∷ Colon ∷ NatSign ∷ Close ∷ []
missing (GroupNames bs at g) = Colon ∷ NatSign ∷ Close ∷ []
missing (GroupColon bs at g) = NatSign ∷ Close ∷ []
missing (GroupTyped bs at g) = Close ∷ []
missing (GroupClosed bs b) = []

abbrev named : Heading → Binders
named Unnamed = Plain (alone some_word)
named (PlainNames g) = Plain g
named (PlainColon g) = Typed g
named (PlainTyped g) = Typed g
named (GroupOpen bs at) = Grouped bs (bracket at (alone some_word))
named (GroupNames bs at g) = Grouped bs (bracket at g)
named (GroupColon bs at g) = Grouped bs (bracket at g)
named (GroupTyped bs at g) = Grouped bs (bracket at g)
named (GroupClosed bs b) = Grouped bs b

named-spelled : (h : Heading) → heading h ++ missing h ≡ binders (named h)
named-spelled Unnamed = refl
named-spelled (PlainNames g) = append-nil (plain g)
named-spelled (PlainColon g) = append_assoc (plain g) (Colon ∷ []) (NatSign ∷ [])
named-spelled (PlainTyped g) = append-nil (typed g)
named-spelled (GroupOpen bs at) = append_assoc (all_bracketed bs) (Open at ∷ []) (Name some_word ∷ Colon ∷ NatSign ∷ Close ∷ [])
named-spelled (GroupNames bs at g) =
    append_assoc (all_bracketed bs) (Open at ∷ plain g) (Colon ∷ NatSign ∷ Close ∷ [])
    ∙ ap (λ l. all_bracketed bs ++ Open at ∷ l) (flip (append_assoc (plain g) (Colon ∷ NatSign ∷ []) (Close ∷ [])))
named-spelled (GroupColon bs at g) =
    append_assoc (all_bracketed bs) (Open at ∷ (plain g ++ Colon ∷ [])) (NatSign ∷ Close ∷ [])
    ∙ ap (λ l. all_bracketed bs ++ Open at ∷ l) (append_assoc (plain g) (Colon ∷ []) (NatSign ∷ Close ∷ []) ∙ flip (append_assoc (plain g) (Colon ∷ NatSign ∷ []) (Close ∷ [])))
named-spelled (GroupTyped bs at g) = append_assoc (all_bracketed bs) (Open at ∷ typed g) (Close ∷ [])
named-spelled (GroupClosed bs b) = append-nil (all_bracketed bs ++ bracketed b)

-- ---- what a state stands for

-- the symbols that opened a frame
abbrev pub opens : Frame → List Sym
opens (InParen at) = Open at ∷ []
opens (InNext at) = SuccWord at ∷ []
opens (InArg f) = spelled f
opens (InNeg at) = NotSign at ∷ []
opens (InQuant at q b) = QuantSign at q ∷ (binders b ++ Comma ∷ [])
opens (InBinary at op l) = spelled l ++ Sign at op ∷ []

abbrev pub opened : List Frame → List Sym
opened [] = []
opened (frame ∷ frames) = opened frames ++ opens frame

abbrev pub told : State → List Sym
told (Wants frames) = opened frames
told (Has frames s) = opened frames ++ spelled s
told (Binds frames at q h) = opened frames ++ QuantSign at q ∷ heading h

-- a frame stands where it may
abbrev pub MayStand : List Frame → Frame → Type 0
MayStand frames (InParen at) = Unit {0}
MayStand frames (InNext at) = wanted frames ≤ 100
MayStand frames (InArg f) = (wanted frames ≤ 100) × (can_apply f ≡ true) × IsShape f
MayStand frames (InNeg at) = wanted frames ≤ 40
MayStand frames (InQuant at q b) = wanted frames ≤ 100
MayStand frames (InBinary at op l) = (wanted frames ≤ level op) × (left_min op ≤ strength l) × IsShape l × (closed l ≡ true)

abbrev pub AreOpen : List Frame → Type 0
AreOpen [] = Unit {0}
AreOpen (frame ∷ frames) = MayStand frames frame × AreOpen frames

abbrev pub IsOperand : List Frame → Shape → Type 0
IsOperand frames s = AreOpen frames × IsShape s × (wanted frames ≤ strength s)

abbrev pub IsState : State → Type 0
IsState (Wants frames) = AreOpen frames
IsState (Has frames s) = IsOperand frames s × (wanted frames ≤ 100)
IsState (Binds frames at q h) = AreOpen frames × (wanted frames ≤ 100)

wanted-fits : (frames : List Frame) → wanted frames ≤ 101
wanted-fits [] = omega arith
wanted-fits (InParen at ∷ frames) = omega arith
wanted-fits (InNext at ∷ frames) = omega arith
wanted-fits (InArg f ∷ frames) = omega arith
wanted-fits (InNeg at ∷ frames) = omega arith
wanted-fits (InQuant at q b ∷ frames) = omega arith
wanted-fits (InBinary at op l ∷ frames) = omega (arith, right-fits op)

abbrev closes : Frame → List Sym
closes (InParen at) = Close ∷ []
closes _ = []

not-closing : (frame : Frame) → is_paren frame ≡ false → closes frame ≡ []
not-closing (InParen at) e = cc
not-closing _ e = refl

-- an operand that leaves its frame is one of the frames around it
leaves : (frame : Frame) (frames : List Frame) (s : Shape) → IsOperand (frame ∷ frames) s → IsOperand frames (leaving frame s)
leaves (InParen at) frames s h = (h.0.1, h.1, wanted-fits frames)
leaves (InNext at) frames s h = (h.0.1, (h.2, h.1), h.0.0)
leaves (InArg f) frames s h = (h.0.1, (h.0.0.1, h.2, h.0.0.2, h.1), h.0.0.0)
leaves (InNeg at) frames s h = (h.0.1, (h.2, h.1), h.0.0)
leaves (InQuant at q b) frames s h = (h.0.1, h.1, h.0.0)
leaves (InBinary at op l) frames s h = (h.0.1, (h.0.0.1, h.2, h.0.0.2, h.1, h.0.0.3), h.0.0.0)

leaves-told : (frame : Frame) (s : Shape) → spelled (leaving frame s) ≡ (opens frame ++ spelled s) ++ closes frame
leaves-told (InParen at) s = refl
leaves-told (InNext at) s = flip (append-nil (SuccWord at ∷ spelled s))
leaves-told (InArg f) s = flip (append-nil (spelled f ++ spelled s))
leaves-told (InNeg at) s = flip (append-nil (NotSign at ∷ spelled s))
leaves-told (InQuant at q b) s =
    ap (λ l. QuantSign at q ∷ l) (flip (append_assoc (binders b) (Comma ∷ []) (spelled s))) ∙ flip (append-nil ((QuantSign at q ∷ (binders b ++ Comma ∷ [])) ++ spelled s))
leaves-told (InBinary at op l) s = flip (append_assoc (spelled l) (Sign at op ∷ []) (spelled s)) ∙ flip (append-nil ((spelled l ++ Sign at op ∷ []) ++ spelled s))

-- ---- a completion

abbrev closing : List Frame → List Sym
closing [] = []
closing (frame ∷ frames) = closes frame ++ closing frames

abbrev filled : List Frame → Shape → Shape
filled [] s = s
filled (frame ∷ frames) s = filled frames (leaving frame s)

filled-good : (frames : List Frame) (s : Shape) → IsOperand frames s → IsShape (filled frames s)
filled-good [] s h = h.1
filled-good (frame ∷ frames) s h = filled-good frames (leaving frame s) (leaves frame frames s h)

-- a ++ ((o ++ s) ++ c) ++ z, bracketed anew
regrouped : (a o s c z : List Sym) → (a ++ ((o ++ s) ++ c)) ++ z ≡ ((a ++ o) ++ s) ++ (c ++ z)
regrouped a o s c z =
    append_assoc a ((o ++ s) ++ c) z ∙ ap (λ l. a ++ l) (append_assoc (o ++ s) c z ∙ append_assoc o s (c ++ z))
    ∙ flip (append_assoc a o (s ++ (c ++ z))) ∙ flip (append_assoc (a ++ o) s (c ++ z))

filled-spelled : (frames : List Frame) (s : Shape) → spelled (filled frames s) ≡ (opened frames ++ spelled s) ++ closing frames
filled-spelled [] s = flip (append-nil (spelled s))
filled-spelled (frame ∷ frames) s =
    filled-spelled frames (leaving frame s) ∙ ap (λ l. (opened frames ++ l) ++ closing frames) (leaves-told frame s)
    ∙ regrouped (opened frames) (opens frame) (spelled s) (closes frame) (closing frames)

completed-by : (frames : List Frame) (s : Shape) (front more : List Sym) → IsOperand frames s → opened frames ++ spelled s ≡ front ++ more → Begins front
completed-by frames s front more h e = record {
  shape = filled frames s;
  more = more ++ closing frames;
  whole = (filled-good frames s h, filled-spelled frames s ∙ ap (λ l. l ++ closing frames) e ∙ append_assoc front more (closing frames));
}

pub completed : (state : State) → IsState state → Begins (told state)
completed (Wants frames) h = completed-by frames (Falsum 0) (opened frames) (FalseWord 0 ∷ []) (h, tt, wanted-fits frames) refl
completed (Has frames s) h = completed-by frames s (opened frames ++ spelled s) [] h.0 (flip (append-nil (opened frames ++ spelled s)))
completed (Binds frames at q h) good =
    let more : List Sym = Comma ∷ FalseWord 0 ∷ [] in
    completed-by frames (Quant at q (named h) (Falsum 0)) (opened frames ++ QuantSign at q ∷ heading h) (missing h ++ more) (good.0, tt, good.1)
    (ap (λ l. opened frames ++ QuantSign at q ∷ (l ++ more)) (flip (named-spelled h))
    ∙ ap (λ l. opened frames ++ QuantSign at q ∷ l) (append_assoc (heading h) (missing h) more)
    ∙ flip (append_assoc (opened frames) (QuantSign at q ∷ heading h) (missing h ++ more)))

-- ---- each step keeps this

abbrev pub IsNext : List Sym → Option State → Type 0
IsNext front None = Unit {0}
IsNext front (Some next) = IsState next × (told next ≡ front)

-- where nothing closes, the symbols stay the same
open-told : (frames : List Frame) (frame : Frame) (s : Shape) → closes frame ≡ [] → opened frames ++ spelled (leaving frame s) ≡ (opened frames ++ opens frame) ++ spelled s
open-told frames frame s e =
    ap (λ l. opened frames ++ l) (leaves-told frame s ∙ ap (λ l. (opens frame ++ spelled s) ++ l) e ∙ append-nil (opens frame ++ spelled s)) ∙ flip (append_assoc (opened frames) (opens frame) (spelled s))

record Stands (front : List Sym) (o : Operand) : Type 0 where
  good : IsOperand o.frames o.shape
  tells : opened o.frames ++ spelled o.shape ≡ front

stands-as : (front all : List Sym) (o : Operand) → front ≡ all → Stands front o → Stands all o
stands-as front all o e h = let P : List Sym → Type 0 = λ x. Stands x o in subst P e h

reduced-stands : (sign : Option Op) (frames : List Frame) (s : Shape) → IsOperand frames s → Stands (opened frames ++ spelled s) (reduced sign frames s)
reduced-stands sign [] s h = record { good = h; tells = refl }
reduced-stands sign (frame ∷ frames) s h =
    let front : List Sym = (opened frames ++ opens frame) ++ spelled s in
    by_test (Stands front) (is_paren frame || goes_on sign (place frame) s) (record { frames = frame ∷ frames; shape = s }) (reduced sign frames (leaving frame s))
    (λ t. record { good = h; tells = refl })
    (λ t. stands-as (opened frames ++ spelled (leaving frame s)) front (reduced sign frames (leaving frame s))
    (open-told frames frame s (not-closing frame (or_left (is_paren frame) (goes_on sign (place frame) s) t)))
    (reduced-stands sign frames (leaving frame s) (leaves frame frames s h)))

when-next : (front : List Sym) (test : Bool) (next : State) → (test ≡ true → IsNext front (Some next)) → IsNext front (when test next)
when-next front test next f = by_test (IsNext front) test (Some next) None f (λ t. tt)

sign-next : (front : List Sym) (at : ℕ) (op : Op) (o : Operand) → Stands front o → IsNext (front ++ Sign at op ∷ []) (on_sign at op o)
sign-next front at op o h =
    let min : ℕ = wanted o.frames in
    when-next (front ++ Sign at op ∷ []) (takes min o.shape op) (Wants (InBinary at op o.shape ∷ o.frames))
    (λ t. (
      ((takes-level min o.shape op t, takes-left min o.shape op t, h.good.1, takes-closed min o.shape op t), h.good.0),
      flip (append_assoc (opened o.frames) (spelled o.shape) (Sign at op ∷ [])) ∙ ap (λ l. l ++ Sign at op ∷ []) h.tells,
    ))

settled-good : (frames : List Frame) (s : Shape) → IsOperand frames s → IsState (settled frames s)
settled-good [] s h = (h, omega arith)
settled-good (InParen at ∷ frames) s h = (h, omega arith)
settled-good (InNext at ∷ frames) s h = (leaves (InNext at) frames s h, h.0.0)
settled-good (InArg f ∷ frames) s h = (leaves (InArg f) frames s h, h.0.0.0)
settled-good (InNeg at ∷ frames) s h = (h, omega arith)
settled-good (InQuant at q b ∷ frames) s h = (h, omega arith)
settled-good (InBinary at op l ∷ frames) s h = (h, omega (arith, right-fits op))

settled-told : (frames : List Frame) (s : Shape) → told (settled frames s) ≡ opened frames ++ spelled s
settled-told (InNext at ∷ frames) s = flip (append_assoc (opened frames) (SuccWord at ∷ []) (spelled s))
settled-told (InArg f ∷ frames) s = flip (append_assoc (opened frames) (spelled f) (spelled s))
settled-told _ s = refl

close-next : (front : List Sym) (frames : List Frame) (s : Shape) → IsOperand frames s → opened frames ++ spelled s ≡ front → IsNext (front ++ Close ∷ []) (close_in frames s)
close-next front (InParen at ∷ frames) s h e = (
  settled-good frames (Paren at s) (leaves (InParen at) frames s h),
  settled-told frames (Paren at s)
      ∙ flip (append_assoc (opened frames ++ Open at ∷ []) (spelled s) (Close ∷ []) ∙ append_assoc (opened frames) (Open at ∷ []) (spelled s ++ Close ∷ []))
      ∙ ap (λ l. l ++ Close ∷ []) e,
)
close-next front _ s h e = tt

atom-next : (frames : List Frame) (s : Shape) (sym : Sym) → AreOpen frames → IsShape s → 101 ≤ strength s → spelled s ≡ sym ∷ [] → IsNext (opened frames ++ sym ∷ []) (Some (settled frames s))
atom-next frames s sym h good le e = (settled-good frames s (h, good, omega (arith, le, wanted-fits frames)), settled-told frames s ∙ ap (λ l. opened frames ++ l) e)

arg-next : (frames : List Frame) (f s : Shape) (sym : Sym) → IsState (Has frames f) → IsShape s → 101 ≤ strength s → spelled s ≡ sym ∷ []
    → IsNext ((opened frames ++ spelled f) ++ sym ∷ []) (when (can_apply f) (Has frames (App f s)))
arg-next frames f s sym h good le e =
    when-next ((opened frames ++ spelled f) ++ sym ∷ []) (can_apply f) (Has frames (App f s))
    (λ t. (((h.0.0, (t, le, h.0.1, good), h.1), h.1), flip (append_assoc (opened frames) (spelled f) (spelled s)) ∙ ap (λ l. (opened frames ++ spelled f) ++ l) e))

heading-state : (frames : List Frame) (at : ℕ) (q : Quantifier) (h : Heading) (sym : Sym) (o : Option Heading) → IsState (Binds frames at q h) → IsHeading (heading h ++ sym ∷ []) o
    → IsNext (told (Binds frames at q h) ++ sym ∷ []) (option_map (Binds frames at q) o)
heading-state frames at q h sym None good is = tt
heading-state frames at q h sym (Some next) good is =
    (good, ap (λ l. opened frames ++ QuantSign at q ∷ l) is ∙ flip (append_assoc (opened frames) (QuantSign at q ∷ heading h) (sym ∷ [])))

comma-next : (frames : List Frame) (at : ℕ) (q : Quantifier) (h : Heading) → IsState (Binds frames at q h)
    → IsNext (told (Binds frames at q h) ++ Comma ∷ []) (option_map (λ b. Wants (InQuant at q b ∷ frames)) (binders_of h))
comma-next frames at q (PlainNames g) good = ((good.1, good.0), flip (append_assoc (opened frames) (QuantSign at q ∷ plain g) (Comma ∷ [])))
comma-next frames at q (PlainTyped g) good = ((good.1, good.0), flip (append_assoc (opened frames) (QuantSign at q ∷ typed g) (Comma ∷ [])))
comma-next frames at q (GroupClosed bs b) good = ((good.1, good.0), flip (append_assoc (opened frames) (QuantSign at q ∷ (all_bracketed bs ++ bracketed b)) (Comma ∷ [])))
comma-next frames at q _ good = tt

pub step-next : (state : State) (sym : Sym) → IsState state → IsNext (told state ++ sym ∷ []) (step state sym)
step-next (Wants frames) (Name x) h = atom-next frames (Named x) (Name x) h tt (omega arith) refl
step-next (Wants frames) (Number n) h = atom-next frames (Numeral n) (Number n) h tt (omega arith) refl
step-next (Wants frames) (FalseWord at) h = atom-next frames (Falsum at) (FalseWord at) h tt (omega arith) refl
step-next (Wants frames) (SuccWord at) h =
    when-next (opened frames ++ SuccWord at ∷ []) (nat_le (wanted frames) 100) (Wants (InNext at ∷ frames)) (λ t. ((grind (arith, nat_tests, t), h), refl))
step-next (Wants frames) (NotSign at) h =
    when-next (opened frames ++ NotSign at ∷ []) (nat_le (wanted frames) 40) (Wants (InNeg at ∷ frames)) (λ t. ((grind (arith, nat_tests, t), h), refl))
step-next (Wants frames) (QuantSign at q) h =
    when-next (opened frames ++ QuantSign at q ∷ []) (nat_le (wanted frames) 100) (Binds frames at q Unnamed) (λ t. ((h, grind (arith, nat_tests, t)), refl))
step-next (Wants frames) (Open at) h = ((tt, h), refl)
step-next (Wants frames) _ h = tt
step-next (Has frames s) (Name x) h = arg-next frames s (Named x) (Name x) h tt (omega arith) refl
step-next (Has frames s) (Number n) h = arg-next frames s (Numeral n) (Number n) h tt (omega arith) refl
step-next (Has frames s) (FalseWord at) h = arg-next frames s (Falsum at) (FalseWord at) h tt (omega arith) refl
step-next (Has frames s) (Open at) h =
    when-next ((opened frames ++ spelled s) ++ Open at ∷ []) (can_apply s) (Wants (InParen at ∷ InArg s ∷ frames)) (λ t. ((tt, ((h.1, t, h.0.1), h.0.0)), refl))
step-next (Has frames s) (Sign at op) h = sign-next (opened frames ++ spelled s) at op (reduced (Some op) frames s) (reduced-stands (Some op) frames s h.0)
step-next (Has frames s) Close h =
    let r : Stands (opened frames ++ spelled s) (reduced None frames s) = reduced-stands None frames s h.0 in
    close-next (opened frames ++ spelled s) (reduced None frames s).frames (reduced None frames s).shape r.good r.tells
step-next (Has frames s) _ h = tt
step-next (Binds frames at q h) Comma good = comma-next frames at q h good
step-next (Binds frames at q h) sym good = heading-state frames at q h sym (heading_step h sym) good (heading-next h sym)

-- at the end
abbrev pub IsEnd : List Sym → Option Shape → Type 0
IsEnd syms None = Unit {0}
IsEnd syms (Some s) = IsShapeOf s syms

end-of : (front : List Sym) (frames : List Frame) (s : Shape) → IsOperand frames s → opened frames ++ spelled s ≡ front → IsEnd front (end_in frames s)
end-of front [] s h e = (h.1, e)
end-of front (frame ∷ frames) s h e = tt

pub ended-sound : (state : State) → IsState state → IsEnd (told state) (ended state)
ended-sound (Wants frames) h = tt
ended-sound (Has frames s) h =
    let r : Stands (opened frames ++ spelled s) (reduced None frames s) = reduced-stands None frames s h.0 in
    end-of (opened frames ++ spelled s) (reduced None frames s).frames (reduced None frames s).shape r.good r.tells
ended-sound (Binds frames at q h) good = tt
