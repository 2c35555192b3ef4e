-- Symbols have one reading.
use Rattle.std.proofs.Common.{◌≡◌, ℕ, zero, suc, ◌≤◌, List, [], ◌∷◌, ◌++◌, length, take, Some, sym as flip, ◌∙◌, ap, ap₂, refl, subst, arith, append_assoc, length-append}
use Rattle.std.proofs.lemmas.List.{append-nil, take-take}
use Rattle.pg_grammar.specs.Shapes.{Sym, Shape, spelled}
use Rattle.pg_grammar.specs.Nesting.{depths, AreWithin}
use Rattle.pg_grammar.specs.Faults.{Limits, IsShapeOf, Begins, Fault, Expected, Deep, Long, IsFault, IsGood, IsFirstFault, Reading, Read, Refused, IsReading, Part, Found, Lost, IsBarred, IsPart}
use Rattle.pg_grammar.specs.Machine.{start, read, read_part}
use Rattle.pg_grammar.specs.Laws.{ShapeLaw, ReadingLaw, PartLaw, SpelledLaw}
use Rattle.pg_grammar.proofs.Trace.{Trace, trace}
use Rattle.pg_grammar.proofs.Taken.{all_taken, spelled-taken}
use Rattle.pg_grammar.proofs.Reader.{part-good, reading-good}

pub one-shape : ShapeLaw
one-shape s t p q e =
    let x : all_taken s ≡ all_taken t = flip (spelled-taken s p) ∙ ap (trace start) e ∙ spelled-taken t q in
    let y : Some s ≡ Some t = ap (λ (a : Trace). a.end) x in
    cc

-- ---- two ways to part the same symbols

data Compared (f a g b : List Sym) : Type 0 where
  same : f ≡ g → a ≡ b → Compared f a g b
  shorter : (t : Sym) (m : List Sym) → g ≡ f ++ t ∷ m → a ≡ t ∷ (m ++ b) → Compared f a g b
  longer : (t : Sym) (m : List Sym) → f ≡ g ++ t ∷ m → b ≡ t ∷ (m ++ a) → Compared f a g b

compared-next : (s : Sym) (f a g b : List Sym) → Compared f a g b → Compared (s ∷ f) a (s ∷ g) b
compared-next s f a g b (same d e) = same (ap (λ l. s ∷ l) d) e
compared-next s f a g b (shorter t m x y) = shorter t m (ap (λ l. s ∷ l) x) y
compared-next s f a g b (longer t m x y) = longer t m (ap (λ l. s ∷ l) x) y

compare : (f a g b : List Sym) → f ++ a ≡ g ++ b → Compared f a g b
compare [] a [] b e = same refl e
compare [] a (t ∷ m) b e = shorter t m refl e
compare (t ∷ m) a [] b e = longer t m refl (flip e)
compare (s ∷ f) a (t ∷ g) b e =
    let head : s ≡ t = cc in
    let tail : f ++ a ≡ g ++ b = cc in
    let P : Sym → Type 0 = λ x. Compared (s ∷ f) a (x ∷ g) b in
    subst P head (compared-next s f a g b (compare f a g b tail))

-- ---- where reading stops

-- no good front goes on with the next symbol
abbrev Halts : Limits → (front rest : List Sym) → Type 0
Halts limits front [] = Unit {0}
Halts limits front (next ∷ later) = IsGood limits (front ++ next ∷ []) → ⊥

record Stop (limits : Limits) (syms front rest : List Sym) : Type 0 where
  split : syms ≡ front ++ rest
  good : IsGood limits front
  halts : Halts limits front rest

within-take : (limit n : ℕ) (ds : List ℕ) → AreWithin limit ds → AreWithin limit (take n ds)
within-take limit zero ds h = tt
within-take limit (suc n) [] h = tt
within-take limit (suc n) (d ∷ ds) h = (h.0, within-take limit n ds h.1)

abbrev begins-shorter : (f : List Sym) (t : Sym) (m : List Sym) → Begins (f ++ t ∷ m) → Begins (f ++ t ∷ [])
begins-shorter f t m b = record {
  shape = b.shape;
  more = m ++ b.more;
  whole = (b.whole.0, b.whole.1 ∙ append_assoc f (t ∷ m) b.more ∙ flip (append_assoc f (t ∷ []) (m ++ b.more)));
}

good-shorter : (limits : Limits) (f : List Sym) (t : Sym) (m : List Sym) → IsGood limits (f ++ t ∷ m) → IsGood limits (f ++ t ∷ [])
good-shorter limits f t m h =
    let n : ℕ = length (f ++ t ∷ []) in
    let k : ℕ = length (f ++ t ∷ m) in
    let ds : List ℕ = depths 0 h.begins.0.shape in
    let le : n ≤ k = omega (arith, length-append f (t ∷ []), length-append f (t ∷ m)) in
    record {
      begins = (begins-shorter f t m h.begins.0, subst (AreWithin limits.nesting) (take-take n k ds le) (within-take limits.nesting n (take k ds) h.begins.1));
      few = omega (arith, le, h.few);
    }

stop-shorter : (limits : Limits) (f : List Sym) (t : Sym) (m g a b : List Sym) → g ≡ f ++ t ∷ m → a ≡ t ∷ (m ++ b) → IsGood limits g → Halts limits f a → ⊥
stop-shorter limits f t m g a b x y good halts =
    let P : List Sym → Type 0 = λ l. Halts limits f l in
    let at : Halts limits f (t ∷ (m ++ b)) = subst P y halts in
    at (good-shorter limits f t m (subst (IsGood limits) x good))

one-stop : (limits : Limits) (syms f a g b : List Sym) → Stop limits syms f a → Stop limits syms g b → (f ≡ g) × (a ≡ b)
one-stop limits syms f a g b x y = pick (compare f a g b (flip x.split ∙ y.split))
  where
    pick : Compared f a g b → (f ≡ g) × (a ≡ b)
    pick (same d e) = (d, e)
    pick (shorter t m p q) = absurd (stop-shorter limits f t m g a b p q y.good x.halts)
    pick (longer t m p q) = absurd (stop-shorter limits g t m f b a p q x.good y.halts)

fault-halts : (limits : Limits) (fault : Fault) (front rest : List Sym) → IsFault limits fault front rest → Halts limits front rest
fault-halts limits fault front [] h = tt
fault-halts limits Expected front (next ∷ later) h = λ good. h good.begins.0
fault-halts limits Deep front (next ∷ later) h = λ good. h.1 good.begins
fault-halts limits Long front (next ∷ later) h = λ good. omega (arith, good.few, h.1, length-append front (next ∷ []))

barred-halts : (limits : Limits) (front rest : List Sym) → IsBarred front rest → Halts limits front rest
barred-halts limits front [] h = tt
barred-halts limits front (next ∷ later) h = λ good. h good.begins.0

fault-stop : (limits : Limits) (syms rest : List Sym) (fault : Fault) → (h : IsFirstFault limits syms fault rest) → Stop limits syms h.front rest
fault-stop limits syms rest fault h = record { split = h.split; good = h.good; halts = fault-halts limits fault h.front rest h.broken }

-- at one place there is one fault
one-fault : (limits : Limits) (x y : Fault) (front rest : List Sym) → IsFault limits x front rest → IsFault limits y front rest → x ≡ y
one-fault limits Expected Expected front rest p q = refl
one-fault limits Deep Deep front rest p q = refl
one-fault limits Long Long front rest p q = refl
one-fault limits Expected Deep front [] p q = absurd q
one-fault limits Expected Deep front (next ∷ later) p q = absurd (p q.0)
one-fault limits Expected Long front [] p q = absurd q
one-fault limits Expected Long front (next ∷ later) p q = absurd (p q.0.0)
one-fault limits Deep Expected front [] p q = absurd p
one-fault limits Deep Expected front (next ∷ later) p q = absurd (q p.0)
one-fault limits Deep Long front [] p q = absurd p
one-fault limits Deep Long front (next ∷ later) p q = absurd (p.1 q.0)
one-fault limits Long Expected front [] p q = absurd p
one-fault limits Long Expected front (next ∷ later) p q = absurd (q p.0.0)
one-fault limits Long Deep front [] p q = absurd p
one-fault limits Long Deep front (next ∷ later) p q = absurd (q.1 p.0)

fault-at : (limits : Limits) (fault : Fault) (f g a b : List Sym) → f ≡ g → a ≡ b → IsFault limits fault f a → IsFault limits fault g b
fault-at limits fault f g a b d e h =
    let P : List Sym → Type 0 = λ l. IsFault limits fault l a in
    let Q : List Sym → Type 0 = λ l. IsFault limits fault g l in
    subst Q e (subst P d h)

-- ---- one reading

same-faults : (limits : Limits) (syms : List Sym) (x y : Fault) (a b : List Sym) → IsFirstFault limits syms x a → IsFirstFault limits syms y b → (x ≡ y) × (a ≡ b)
same-faults limits syms x y a b p q =
    let s : (p.front ≡ q.front) × (a ≡ b) = one-stop limits syms p.front a q.front b (fault-stop limits syms a x p) (fault-stop limits syms b y q) in
    (one-fault limits x y q.front b (fault-at limits x p.front q.front a b s.0 s.1 p.broken) q.broken, s.1)

-- a shape has no fault at its end
whole-fault : (limits : Limits) (front rest : List Sym) (fault : Fault) (s : Shape) → IsShapeOf s front → rest ≡ [] → IsFault limits fault front rest → ⊥
whole-fault limits front [] Expected s is e h = h s is
whole-fault limits front [] Deep s is e h = h
whole-fault limits front [] Long s is e h = h
whole-fault limits front (next ∷ later) fault s is e h = cc

shape-not-fault : (limits : Limits) (syms : List Sym) (s : Shape) (fault : Fault) (rest : List Sym) → IsShapeOf s syms → IsGood limits syms → IsFirstFault limits syms fault rest → ⊥
shape-not-fault limits syms s fault rest is good h =
    let stop : Stop limits syms syms [] = record { split = flip (append-nil syms); good = good; halts = tt } in
    let same : (syms ≡ h.front) × ([] ≡ rest) = one-stop limits syms syms [] h.front rest stop (fault-stop limits syms rest fault h) in
    whole-fault limits h.front rest fault s (is.0, is.1 ∙ same.0) (flip same.1) h.broken

one-reading : (limits : Limits) (syms : List Sym) (r t : Reading) → IsReading limits syms r → IsReading limits syms t → r ≡ t
one-reading limits syms (Read r) (Read t) p q = ap Read (one-shape r t p.0.0 q.0.0 (p.0.1 ∙ flip q.0.1))
one-reading limits syms (Read r) (Refused fault rest) p q = absurd (shape-not-fault limits syms r fault rest p.0 p.1 q)
one-reading limits syms (Refused fault rest) (Read t) p q = absurd (shape-not-fault limits syms t fault rest q.0 q.1 p)
one-reading limits syms (Refused x a) (Refused y b) p q = let s : (x ≡ y) × (a ≡ b) = same-faults limits syms x y a b p q in ap₂ Refused s.0 s.1

pub reading-law : ReadingLaw
reading-law limits syms r =
    (λ e. subst (IsReading limits syms) e (reading-good limits syms), λ h. one-reading limits syms (read limits syms) r (reading-good limits syms) h)

-- ---- one part

found-not-lost : (limits : Limits) (syms : List Sym) (s : Shape) (a : List Sym) (fault : Fault) (b : List Sym) → IsPart limits syms (Found s a) → IsPart limits syms (Lost fault b) → ⊥
found-not-lost limits syms s a fault b p q =
    let h : IsFirstFault limits syms fault b = q.first in
    let stop : Stop limits syms (spelled s) a = record { split = p.split; good = p.good; halts = barred-halts limits (spelled s) a p.barred } in
    let same : (spelled s ≡ h.front) × (a ≡ b) = one-stop limits syms (spelled s) a h.front b stop (fault-stop limits syms b fault h) in
    let P : List Sym → Type 0 = λ l. IsBarred l b in
    let Q : List Sym → Type 0 = λ l. IsBarred (spelled s) l in
    by_fault fault b h.front (subst P same.0 (subst Q same.1 p.barred)) (p.shape, same.0) h.broken q.unfinished
  where
    by_fault : (fault : Fault) (b front : List Sym) → IsBarred front b → IsShapeOf s front → IsFault limits fault front b → (fault ≡ Expected → (t : Shape) → IsShapeOf t front → ⊥) → ⊥
    by_fault Expected b front bar is broken unfinished = unfinished refl s is
    by_fault Deep [] front bar is broken unfinished = broken
    by_fault Deep (next ∷ later) front bar is broken unfinished = bar broken.0
    by_fault Long [] front bar is broken unfinished = broken
    by_fault Long (next ∷ later) front bar is broken unfinished = bar broken.0.0

one-part : (limits : Limits) (syms : List Sym) (r t : Part) → IsPart limits syms r → IsPart limits syms t → r ≡ t
one-part limits syms (Found r a) (Found t b) p q =
    let x : Stop limits syms (spelled r) a = record { split = p.split; good = p.good; halts = barred-halts limits (spelled r) a p.barred } in
    let y : Stop limits syms (spelled t) b = record { split = q.split; good = q.good; halts = barred-halts limits (spelled t) b q.barred } in
    let same : (spelled r ≡ spelled t) × (a ≡ b) = one-stop limits syms (spelled r) a (spelled t) b x y in
    ap₂ Found (one-shape r t p.shape q.shape same.0) same.1
one-part limits syms (Found r a) (Lost fault b) p q = absurd (found-not-lost limits syms r a fault b p q)
one-part limits syms (Lost fault a) (Found t b) p q = absurd (found-not-lost limits syms t b fault a q p)
one-part limits syms (Lost x a) (Lost y b) p q = let s : (x ≡ y) × (a ≡ b) = same-faults limits syms x y a b p.first q.first in ap₂ Lost s.0 s.1

pub spelled-law : SpelledLaw
spelled-law limits s good low few =
    let ds : List ℕ = depths 0 s in
    let b : Begins (spelled s) = record { shape = s; more = []; whole = (good, flip (append-nil (spelled s))) } in
    one-reading limits (spelled s) (read limits (spelled s)) (Read s) (reading-good limits (spelled s))
    ((good, refl), record { begins = (b, within-take limits.nesting (length (spelled s)) ds low); few = few })

pub part-law : PartLaw
part-law limits syms p =
    (λ e. subst (IsPart limits syms) e (part-good limits syms), λ h. one-part limits syms (read_part limits syms) p (part-good limits syms) h)
