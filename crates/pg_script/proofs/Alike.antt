-- Two lists of tokens that begin alike are read alike, as far as they are alike.
use Rattle.std.proofs.Common.{◌≡◌, ℕ, List, [], ◌∷◌, ◌++◌, refl, sym, ap, subst, Ok, Err}
use Rattle.pg_base.specs.declared.token.Wanted.{Wanted}
use Rattle.pg_base.specs.Tokens.{Word}
use Rattle.pg_script.specs.declared.fault.ScriptFault.{ScriptFault}
use Rattle.pg_script.specs.declared.fault.ScriptFault.TheVariants.{Expected, TooMany, Deep}
use Rattle.pg_script.specs.Marks.{place}
use Rattle.pg_script.specs.Lines.{Read, and_then}

-- ---- faults

-- these faults have all that can stand at a token of this place
abbrev pub AtToken : (ScriptFault → Type 0) → ℕ → Type 0
AtToken F at = ((what : Wanted) → F (Expected at what)) × F (TooMany at) × F (Deep at)

-- they have all that can stand at this end
abbrev pub AtEnd : (ScriptFault → Type 0) → ℕ → Type 0
AtEnd F end = (what : Wanted) → F (Expected end what)

-- they have all that can stand at these tokens
abbrev pub Along : (ScriptFault → Type 0) → List Word → Type 0
Along F [] = Unit {0}
Along F (w ∷ ws) = AtToken F w.at × Along F ws

-- What stands behind the tokens that the two lists share: in one of them tokens and an end, whose faults are all in
-- `Past`, in the other any. The faults of what they share are in `Front`.
pub record Two : Type 1 where
  pub Front : ScriptFault → Type 0
  pub Past : ScriptFault → Type 0
  pub end : ℕ
  pub back : List Word
  pub other_end : ℕ
  pub other : List Word
  pub along : Along Past back
  pub stands : AtEnd Past end

-- nothing is shared
abbrev pub apart : (P : ScriptFault → Type 0) (end : ℕ) (ws : List Word) → Along P ws → AtEnd P end → Two
apart P end ws along stands = record { Front = λ _. ⊥; Past = P; end = end; back = ws; other_end = end; other = ws; along = along; stands = stands }

pub along_append : (P : ScriptFault → Type 0) (xs ys : List Word) → Along P xs → Along P ys → Along P (xs ++ ys)
along_append P [] ys a b = b
along_append P (x ∷ xs) ys a b = (a.0, along_append P xs ys a.1 b)

pub along_some : (P Q : ScriptFault → Type 0) (xs : List Word) → ((n : ScriptFault) → P n → Q n) → Along P xs → Along Q xs
along_some P Q [] f a = tt
along_some P Q (x ∷ xs) f a = (((λ what. f (Expected x.at what) (a.0.0 what)), f (TooMany x.at) a.0.1, f (Deep x.at) a.0.2), along_some P Q xs f a.1)

pub along_place : (P : ScriptFault → Type 0) (end : ℕ) (ws : List Word) → Along P ws → AtEnd P end → AtEnd P (place end ws)
along_place P end [] a e = e
along_place P end (w ∷ ws) a e = a.0.0

-- ---- readers that leave tokens

-- the fault or the tokens that are left stand among these places
abbrev pub Leaves : {V : Type 0} → (ScriptFault → Type 0) → Read (V × List Word) → Type 0
Leaves P (Ok p) = Along P p.1
Leaves P (Err e) = P e

-- The first reading comes past what the two share; or both have one fault in it; or both leave one part of it.
pub data Alike (t : Two) {V : Type 0} (r s : Read (V × List Word)) : Type 0 where
  past : Leaves t.Past r → Alike t r s
  wrong : (e : ScriptFault) → r ≡ Err e → s ≡ Err e → t.Front e → Alike t r s
  kept : (x : V) (f : Word) (fs : List Word) → r ≡ Ok (x, f ∷ fs ++ t.back) → s ≡ Ok (x, f ∷ fs ++ t.other) → Along t.Front (f ∷ fs) → Alike t r s

abbrev pub Local : {V : Type 0} → (ℕ → List Word → Read (V × List Word)) → Type 1
Local f = (t : Two) (front : List Word) → Along t.Front front → Alike t (f t.end (front ++ t.back)) (f t.other_end (front ++ t.other))

pub moved : {V : Type 0} (t : Two) (r r' s s' : Read (V × List Word)) → r ≡ r' → s ≡ s' → Alike t r' s' → Alike t r s
moved t r r' s s' e g a = subst (λ x. Alike t x s) (sym e) (subst (λ y. Alike t r' y) (sym g) a)

from_apart : {V : Type 0} (P : ScriptFault → Type 0) (end : ℕ) (ws : List Word) (a : Along P ws) (e : AtEnd P end) (r s : Read (V × List Word)) → Alike (apart P end ws a e) r s → Leaves P r
from_apart P end ws a e r s (past h) = h
from_apart P end ws a e r s (wrong fault one two at) = absurd at
from_apart P end ws a e r s (kept x f fs one two along) = absurd along.0.1

-- of one list alone
pub leaves : {V : Type 0} (f : ℕ → List Word → Read (V × List Word)) → Local f → (P : ScriptFault → Type 0) (end : ℕ) (ws : List Word) → Along P ws → AtEnd P end → Leaves P (f end ws)
leaves f l P end ws a e = from_apart P end ws a e (f end ws) (f end ws) (l (apart P end ws a e) [] tt)

leaves_then : {V W : Type 0} (P : ScriptFault → Type 0) (r : Read (V × List Word)) (g : V × List Word → Read (W × List Word)) → Leaves P r → ((x : V) (ws : List Word) → Along P ws → Leaves P (g (x, ws))) → Leaves P (and_then r g)
leaves_then P (Ok p) g h f = f p.0 p.1 h
leaves_then P (Err e) g h f = h

pub chain : {V W : Type 0} (t : Two) (r s : Read (V × List Word)) (g k : V × List Word → Read (W × List Word)) → Alike t r s
    → ((x : V) (ws : List Word) → Along t.Past ws → Leaves t.Past (g (x, ws)))
    → ((x : V) (fs : List Word) → Along t.Front fs → Alike t (g (x, fs ++ t.back)) (k (x, fs ++ t.other))) → Alike t (and_then r g) (and_then s k)
chain t r s g k (past h) f a = past (leaves_then t.Past r g h f)
chain t r s g k (wrong e one two at) f a = wrong e (ap (λ z. and_then z g) one) (ap (λ z. and_then z k) two) at
chain t r s g k (kept x w ws one two along) f a = moved t _ _ _ _ (ap (λ z. and_then z g) one) (ap (λ z. and_then z k) two) (a x (w ∷ ws) along)

-- one reader, and another behind it
pub then_local : {V W : Type 0} (f : ℕ → List Word → Read (V × List Word)) (g : V → ℕ → List Word → Read (W × List Word)) → Local f → ((x : V) → Local (g x)) → Local (λ end ws. and_then (f end ws) (λ p. g p.0 end p.1))
then_local f g lf lg t front along =
    chain t (f t.end (front ++ t.back)) (f t.other_end (front ++ t.other)) (λ p. g p.0 t.end p.1) (λ p. g p.0 t.other_end p.1) (lf t front along)
    (λ x ws a. leaves (g x) (lg x) t.Past t.end ws a t.stands) (λ x fs a. lg x t fs a)

-- nothing is read
pub ok_local : {V : Type 0} (x : V) → Local (λ end ws. Ok (x, ws))
ok_local x t [] along = past t.along
ok_local x t (f ∷ fs) along = kept x f fs refl refl along

-- A reader that looks at the first token: it is enough to look at lists with one.
abbrev pub Begins : {V : Type 0} → (ℕ → List Word → Read (V × List Word)) → Type 1
Begins f = (t : Two) (w : Word) (fs : List Word) → AtToken t.Front w.at → Along t.Front fs → Alike t (f t.end (w ∷ fs ++ t.back)) (f t.other_end (w ∷ fs ++ t.other))

-- places that are all past
abbrev pub all_past : (P : ScriptFault → Type 0) (end : ℕ) (ws : List Word) → Along P ws → AtEnd P end → Two
all_past P end ws along stands = record { Front = P; Past = P; end = end; back = ws; other_end = end; other = ws; along = along; stands = stands }

pub at-one : {V : Type 0} (P : ScriptFault → Type 0) (end : ℕ) (ws : List Word) (a : Along P ws) (e : AtEnd P end) (r s : Read (V × List Word)) → Alike (all_past P end ws a e) r s → Leaves P r
at-one P end ws a e r s (past h) = h
at-one {V = V} P end ws a e r s (wrong fault one two at) = subst (λ (z : Read (V × List Word)). Leaves P z) (sym one) at
at-one {V = V} P end ws a e r s (kept x f fs one two along) = subst (λ (z : Read (V × List Word)). Leaves P z) (sym one) (along_append P (f ∷ fs) ws along a)

by_token-past : {V : Type 0} (f : ℕ → List Word → Read (V × List Word)) → ((P : ScriptFault → Type 0) (end : ℕ) → AtEnd P end → Leaves P (f end [])) → Begins f → (P : ScriptFault → Type 0) (end : ℕ) (ws : List Word) → Along P ws → AtEnd P end → Leaves P (f end ws)
by_token-past f none some P end [] a e = none P end e
by_token-past f none some P end (w ∷ ws) a e = at-one P end ws a.1 e (f end (w ∷ ws)) (f end (w ∷ ws)) (some (all_past P end ws a.1 e) w [] a.0 tt)

pub by_token : {V : Type 0} (f : ℕ → List Word → Read (V × List Word)) → ((P : ScriptFault → Type 0) (end : ℕ) → AtEnd P end → Leaves P (f end [])) → Begins f → Local f
by_token f none some t (w ∷ fs) along = some t w fs along.0 along.1
by_token f none some t [] along = past (by_token-past f none some t.Past t.end t.back t.along t.stands)

-- ---- readers that leave nothing

abbrev pub Passes : {V : Type 0} → (ScriptFault → Type 0) → Read V → Type 0
Passes P (Ok x) = Unit {0}
Passes P (Err e) = P e

pub data Stops (t : Two) {V : Type 0} (r s : Read V) : Type 0 where
  passed : Passes t.Past r → Stops t r s
  faulty : (e : ScriptFault) → r ≡ Err e → s ≡ Err e → t.Front e → Stops t r s

abbrev pub Final : {V : Type 0} → (ℕ → List Word → Read V) → Type 1
Final f = (t : Two) (front : List Word) → Along t.Front front → Stops t (f t.end (front ++ t.back)) (f t.other_end (front ++ t.other))

pub stops_moved : {V : Type 0} (t : Two) (r r' s s' : Read V) → r ≡ r' → s ≡ s' → Stops t r' s' → Stops t r s
stops_moved t r r' s s' e g a = subst (λ x. Stops t x s) (sym e) (subst (λ y. Stops t r' y) (sym g) a)

passes-apart : {V : Type 0} (P : ScriptFault → Type 0) (end : ℕ) (ws : List Word) (a : Along P ws) (e : AtEnd P end) (r s : Read V) → Stops (apart P end ws a e) r s → Passes P r
passes-apart P end ws a e r s (passed h) = h
passes-apart P end ws a e r s (faulty fault one two at) = absurd at

pub passes : {V : Type 0} (f : ℕ → List Word → Read V) → Final f → (P : ScriptFault → Type 0) (end : ℕ) (ws : List Word) → Along P ws → AtEnd P end → Passes P (f end ws)
passes f l P end ws a e = passes-apart P end ws a e (f end ws) (f end ws) (l (apart P end ws a e) [] tt)

passes_then : {V W : Type 0} (P : ScriptFault → Type 0) (r : Read (V × List Word)) (g : V × List Word → Read W) → Leaves P r → ((x : V) (ws : List Word) → Along P ws → Passes P (g (x, ws))) → Passes P (and_then r g)
passes_then P (Ok p) g h f = f p.0 p.1 h
passes_then P (Err e) g h f = h

pub stops-chain : {V W : Type 0} (t : Two) (r s : Read (V × List Word)) (g k : V × List Word → Read W) → Alike t r s
    → ((x : V) (ws : List Word) → Along t.Past ws → Passes t.Past (g (x, ws)))
    → ((x : V) (fs : List Word) → Along t.Front fs → Stops t (g (x, fs ++ t.back)) (k (x, fs ++ t.other))) → Stops t (and_then r g) (and_then s k)
stops-chain t r s g k (past h) f a = passed (passes_then t.Past r g h f)
stops-chain t r s g k (wrong e one two at) f a = faulty e (ap (λ z. and_then z g) one) (ap (λ z. and_then z k) two) at
stops-chain t r s g k (kept x w ws one two along) f a = stops_moved t _ _ _ _ (ap (λ z. and_then z g) one) (ap (λ z. and_then z k) two) (a x (w ∷ ws) along)

-- one reader, and behind it a last one
pub then_final : {V W : Type 0} (f : ℕ → List Word → Read (V × List Word)) (g : V → ℕ → List Word → Read W) → Local f → ((x : V) → Final (g x)) → Final (λ end ws. and_then (f end ws) (λ p. g p.0 end p.1))
then_final f g lf lg t front along =
    stops-chain t (f t.end (front ++ t.back)) (f t.other_end (front ++ t.other)) (λ p. g p.0 t.end p.1) (λ p. g p.0 t.other_end p.1) (lf t front along)
    (λ x ws a. passes (g x) (lg x) t.Past t.end ws a t.stands) (λ x fs a. lg x t fs a)

passes-map : {V W : Type 0} (P : ScriptFault → Type 0) (r : Read V) (k : V → W) → Passes P r → Passes P (and_then r (λ x. Ok (k x)))
passes-map P (Ok x) k h = tt
passes-map P (Err e) k h = h

pub stops_map : {V W : Type 0} (t : Two) (r s : Read V) (k : V → W) → Stops t r s → Stops t (and_then r (λ x. Ok (k x))) (and_then s (λ x. Ok (k x)))
stops_map t r s k (passed h) = passed (passes-map t.Past r k h)
stops_map t r s k (faulty e one two at) = faulty e (ap (λ z. and_then z (λ x. Ok (k x))) one) (ap (λ z. and_then z (λ x. Ok (k x))) two) at

pub map_final : {V W : Type 0} (f : ℕ → List Word → Read V) (k : V → W) → Final f → Final (λ end ws. and_then (f end ws) (λ x. Ok (k x)))
map_final f k l t front along = stops_map t (f t.end (front ++ t.back)) (f t.other_end (front ++ t.other)) k (l t front along)

abbrev pub FinalBegins : {V : Type 0} → (ℕ → List Word → Read V) → Type 1
FinalBegins f = (t : Two) (w : Word) (fs : List Word) → AtToken t.Front w.at → Along t.Front fs → Stops t (f t.end (w ∷ fs ++ t.back)) (f t.other_end (w ∷ fs ++ t.other))

pub stops-one : {V : Type 0} (P : ScriptFault → Type 0) (end : ℕ) (ws : List Word) (a : Along P ws) (e : AtEnd P end) (r s : Read V) → Stops (all_past P end ws a e) r s → Passes P r
stops-one P end ws a e r s (passed h) = h
stops-one {V = V} P end ws a e r s (faulty fault one two at) = subst (λ (z : Read V). Passes P z) (sym one) at

final-past : {V : Type 0} (f : ℕ → List Word → Read V) → ((P : ScriptFault → Type 0) (end : ℕ) → AtEnd P end → Passes P (f end [])) → FinalBegins f → (P : ScriptFault → Type 0) (end : ℕ) (ws : List Word) → Along P ws → AtEnd P end → Passes P (f end ws)
final-past f none some P end [] a e = none P end e
final-past f none some P end (w ∷ ws) a e = stops-one P end ws a.1 e (f end (w ∷ ws)) (f end (w ∷ ws)) (some (all_past P end ws a.1 e) w [] a.0 tt)

pub final_by_token : {V : Type 0} (f : ℕ → List Word → Read V) → ((P : ScriptFault → Type 0) (end : ℕ) → AtEnd P end → Passes P (f end [])) → FinalBegins f → Final f
final_by_token f none some t (w ∷ fs) along = some t w fs along.0 along.1
final_by_token f none some t [] along = passed (final-past f none some t.Past t.end t.back t.along t.stands)
