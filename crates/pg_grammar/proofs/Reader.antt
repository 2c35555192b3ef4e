-- The reader gives a shape within the limits, or the first fault.
use Rattle.std.proofs.Common.{◌≡◌, ℕ, ◌+◌, ◌-◌, ◌<◌, ◌≤◌, ◌==◌, cond, List, [], ◌∷◌, ◌++◌, length, take, Option, Some, None, nat_lt, sym as flip, ◌∙◌, ap, refl, subst, arith, append_assoc, length-append}
use Rattle.std.proofs.lemmas.List.{append-nil, take_at}
use Rattle.std.proofs.lemmas.Bool.Decides.{nat_tests}
use Rattle.pg_grammar.specs.Shapes.{Sym, Shape, spelled}
use Rattle.pg_grammar.specs.Nesting.{depths, AreWithin}
use Rattle.pg_grammar.specs.Faults.{Limits, IsShapeOf, Begins, BeginsWithin, Expected, Deep, Long, IsFault, IsGood, IsReading, Part, Found, Lost, IsBarred, IsPart}
use Rattle.pg_grammar.specs.Machine.{State, start, step, ended, depth, stopped, with_next, read_from, read_part, whole, read}
use Rattle.pg_grammar.specs.Laws.{NestingLaw}
use Rattle.pg_grammar.proofs.Trace.{Trace, added, with_trace, trace, added-added}
use Rattle.pg_grammar.proofs.Taken.{all_taken, spelled-taken}
use Rattle.pg_grammar.proofs.Sound.{by_test, told, IsState, IsNext, IsEnd, completed, step-next, ended-sound}

-- after these symbols, nested so deep, the machine is in this state, whatever follows
record Reached (front : List Sym) (so_far : List ℕ) (state : State) : Type 0 where
  good : IsState state
  tells : told state ≡ front
  onward : (rest : List Sym) → trace start (front ++ rest) ≡ added so_far (trace state rest)
  size : length so_far ≡ length front

reached-next : (front : List Sym) (so_far : List ℕ) (state next : State) (sym : Sym) → Reached front so_far state → step state sym ≡ Some next → IsNext (told state ++ sym ∷ []) (Some next)
    → Reached (front ++ sym ∷ []) (so_far ++ depth next ∷ []) next
reached-next front so_far state next sym r e h = record {
  good = h.0;
  tells = h.1 ∙ ap (λ x. x ++ sym ∷ []) r.tells;
  onward = λ rest. ap (trace start) (append_assoc front (sym ∷ []) rest) ∙ r.onward (sym ∷ rest)
      ∙ ap (λ o. added so_far (with_trace (sym ∷ rest) (ended state) (λ x. trace x rest) o)) e ∙ added-added so_far (depth next ∷ []) (trace next rest);
  size = omega (arith, r.size, length-append so_far (depth next ∷ []), length-append front (sym ∷ []));
}

-- the depths of the front are those of each shape that begins so
depths-of : (front : List Sym) (so_far : List ℕ) (state : State) → Reached front so_far state → (s : Shape) (more : List Sym) → IsShapeOf s (front ++ more) → take (length front) (depths 0 s) ≡ so_far
depths-of front so_far state r s more is =
    ap (λ (t : Trace). take (length front) t.depths) (flip (spelled-taken s is.0) ∙ ap (trace start) is.1 ∙ r.onward more) ∙ take_at so_far (trace state more).depths (length front) r.size

begins-of : (front : List Sym) (so_far : List ℕ) (state : State) → Reached front so_far state → Begins front
begins-of front so_far state r = subst Begins r.tells (completed state r.good)

begins-within : (limit : ℕ) (front : List Sym) (so_far : List ℕ) (state : State) → Reached front so_far state → AreWithin limit so_far → BeginsWithin limit front
begins-within limit front so_far state r low =
    let b : Begins front = begins-of front so_far state r in
    (b, subst (AreWithin limit) (flip (depths-of front so_far state r b.shape b.more b.whole)) low)

-- ---- what can't be taken

-- refused at a symbol, whatever follows
refused-at : (front : List Sym) (so_far : List ℕ) (state : State) (next : Sym) → Reached front so_far state → step state next ≡ None → Begins (front ++ next ∷ []) → ⊥
refused-at front so_far state next r e b =
    let more : List Sym = b.more in
    let x : all_taken b.shape ≡ added so_far (record { depths = []; end = ended state; rest = next ∷ more }) =
    flip (spelled-taken b.shape b.whole.0) ∙ ap (trace start) (b.whole.1 ∙ append_assoc front (next ∷ []) more) ∙ r.onward (next ∷ more)
    ∙ ap (λ o. added so_far (with_trace (next ∷ more) (ended state) (λ s. trace s more) o)) e in
    let y : [] ≡ next ∷ more = ap (λ (t : Trace). t.rest) x in
    cc

refused-end : (front : List Sym) (so_far : List ℕ) (state : State) → Reached front so_far state → ended state ≡ None → (s : Shape) → IsShapeOf s front → ⊥
refused-end front so_far state r e s is =
    let x : all_taken s ≡ added so_far (trace state []) =
    flip (spelled-taken s is.0) ∙ ap (trace start) (is.1 ∙ flip (append-nil front)) ∙ r.onward [] in
    let y : Some s ≡ None = ap (λ (t : Trace). t.end) x ∙ e in
    cc

AreWithin-next : (limit d : ℕ) (ds : List ℕ) → AreWithin limit ds → d ≤ limit → AreWithin limit (ds ++ d ∷ [])
AreWithin-next limit d [] h le = (le, tt)
AreWithin-next limit d (x ∷ ds) h le = (h.0, AreWithin-next limit d ds h.1 le)

last-within : (limit d : ℕ) (ds : List ℕ) → AreWithin limit (ds ++ d ∷ []) → d ≤ limit
last-within limit d [] h = h.0
last-within limit d (x ∷ ds) h = last-within limit d ds h.1

-- ---- the reader

record Walked (limits : Limits) (front : List Sym) (so_far : List ℕ) (state : State) (room : ℕ) : Type 0 where
  reached : Reached front so_far state
  low : AreWithin limits.nesting so_far
  left : room + length front ≡ limits.tokens

good-of : (limits : Limits) (front : List Sym) (so_far : List ℕ) (state : State) (room : ℕ) → Walked limits front so_far state room → IsGood limits front
good-of limits front so_far state room w = record { begins = begins-within limits.nesting front so_far state w.reached w.low; few = omega (arith, w.left) }

is-part : (limits : Limits) (front all : List Sym) (p : Part) → front ≡ all → IsPart limits front p → IsPart limits all p
is-part limits front all p e h = let P : List Sym → Type 0 = λ x. IsPart limits x p in subst P e h

barred-expected : (limits : Limits) (front rest : List Sym) → ((s : Shape) → IsShapeOf s front → ⊥) → IsBarred front rest → IsFault limits Expected front rest
barred-expected limits front [] none bar = none
barred-expected limits front (next ∷ later) none bar = bar

stopped-part : (limits : Limits) (front rest : List Sym) (so_far : List ℕ) (state : State) (room : ℕ) (o : Option Shape) → Walked limits front so_far state room → ended state ≡ o
    → IsEnd (told state) o → IsBarred front rest → IsPart limits (front ++ rest) (stopped rest o)
stopped-part limits front rest so_far state room None w e h bar =
    let none : (s : Shape) → IsShapeOf s front → ⊥ = refused-end front so_far state w.reached e in
    record {
      first = record { front = front; split = refl; good = good-of limits front so_far state room w; broken = barred-expected limits front rest none bar };
      unfinished = λ is. none;
    }
stopped-part limits front rest so_far state room (Some s) w e h bar =
    let is : front ≡ spelled s = flip w.reached.tells ∙ flip h.1 in
    let B : List Sym → Type 0 = λ x. IsBarred x rest in
    record { split = ap (λ x. x ++ rest) is; shape = h.0; good = subst (IsGood limits) is (good-of limits front so_far state room w); barred = subst B is bar }

deep-part : (limits : Limits) (front rest : List Sym) (so_far : List ℕ) (state next : State) (room : ℕ) (sym : Sym) → Walked limits front so_far state room
    → Reached (front ++ sym ∷ []) (so_far ++ depth next ∷ []) next → limits.nesting < depth next → IsPart limits (front ++ sym ∷ rest) (Lost Deep (sym ∷ rest))
deep-part limits front rest so_far state next room sym w r over =
    let front-next : List Sym = front ++ sym ∷ [] in
    record {
      first = record {
        front = front;
        split = refl;
        good = good-of limits front so_far state room w;
        broken = (
          begins-of front-next (so_far ++ depth next ∷ []) next r,
          λ b. let low : depth next ≤ limits.nesting = last-within limits.nesting (depth next) so_far
              (subst (AreWithin limits.nesting) (depths-of front-next (so_far ++ depth next ∷ []) next r b.0.shape b.0.more b.0.whole) b.1) in
              omega (arith, low, over),
        );
      };
      unfinished = λ e. let x : Deep ≡ Expected = e in cc;
    }

long-part : (limits : Limits) (front rest : List Sym) (so_far : List ℕ) (state next : State) (room : ℕ) (sym : Sym) → Walked limits front so_far state room
    → Reached (front ++ sym ∷ []) (so_far ++ depth next ∷ []) next → depth next ≤ limits.nesting → room ≡ 0 → IsPart limits (front ++ sym ∷ rest) (Lost Long (sym ∷ rest))
long-part limits front rest so_far state next room sym w r low e = record {
  first = record {
    front = front;
    split = refl;
    good = good-of limits front so_far state room w;
    broken = (begins-within limits.nesting (front ++ sym ∷ []) (so_far ++ depth next ∷ []) next r (AreWithin-next limits.nesting (depth next) so_far w.low low), omega (arith, w.left, e));
  };
  unfinished = λ is. let x : Long ≡ Expected = is in cc;
}

walked-next : (limits : Limits) (front : List Sym) (so_far : List ℕ) (state next : State) (room : ℕ) (sym : Sym) → Walked limits front so_far state room
    → Reached (front ++ sym ∷ []) (so_far ++ depth next ∷ []) next → depth next ≤ limits.nesting → 0 < room → Walked limits (front ++ sym ∷ []) (so_far ++ depth next ∷ []) next (room - 1)
walked-next limits front so_far state next room sym w r low more = record {
  reached = r;
  low = AreWithin-next limits.nesting (depth next) so_far w.low low;
  left = omega (arith, w.left, more, length-append front (sym ∷ []));
}

next-part : (limits : Limits) (rest : List Sym) (sym : Sym) (front : List Sym) (so_far : List ℕ) (state : State) (room : ℕ) (o : Option State)
    → ((later : List Sym) (ds : List ℕ) (next : State) (left : ℕ) → Walked limits later ds next left → IsPart limits (later ++ rest) (read_from limits.nesting left next rest))
    → Walked limits front so_far state room → step state sym ≡ o → IsNext (told state ++ sym ∷ []) o
    → IsPart limits (front ++ sym ∷ rest) (with_next limits.nesting room (sym ∷ rest) (ended state) (λ next. read_from limits.nesting (room - 1) next rest) o)
next-part limits rest sym front so_far state room None go w e h =
    stopped-part limits front (sym ∷ rest) so_far state room (ended state) w refl (ended-sound state w.reached.good) (refused-at front so_far state sym w.reached e)
next-part limits rest sym front so_far state room (Some next) go w e h =
    let r : Reached (front ++ sym ∷ []) (so_far ++ depth next ∷ []) next = reached-next front so_far state next sym w.reached e h in
    let all : List Sym = front ++ sym ∷ rest in
    let later : Part = read_from limits.nesting (room - 1) next rest in
    by_test (IsPart limits all) (nat_lt limits.nesting (depth next)) (Lost Deep (sym ∷ rest)) (cond (room == 0) (Lost Long (sym ∷ rest)) later)
    (λ t. deep-part limits front rest so_far state next room sym w r (grind (arith, nat_tests, t)))
    (λ t. let low : depth next ≤ limits.nesting = grind (arith, nat_tests, t) in
    by_test (IsPart limits all) (room == 0) (Lost Long (sym ∷ rest)) later
    (λ z. long-part limits front rest so_far state next room sym w r low (grind (arith, nat_tests, z)))
    (λ z. is-part limits ((front ++ sym ∷ []) ++ rest) all later (append_assoc front (sym ∷ []) rest)
    (go (front ++ sym ∷ []) (so_far ++ depth next ∷ []) next (room - 1) (walked-next limits front so_far state next room sym w r low (grind (arith, nat_tests, z))))))

part-from : (limits : Limits) (syms front : List Sym) (so_far : List ℕ) (state : State) (room : ℕ) → Walked limits front so_far state room → IsPart limits (front ++ syms) (read_from limits.nesting room state syms)
part-from limits [] front so_far state room w = stopped-part limits front [] so_far state room (ended state) w refl (ended-sound state w.reached.good) tt
part-from limits (sym ∷ rest) front so_far state room w =
    next-part limits rest sym front so_far state room (step state sym) (part-from limits rest) w refl (step-next state sym w.reached.good)

pub part-good : (limits : Limits) (syms : List Sym) → IsPart limits syms (read_part limits syms)
part-good limits syms =
    part-from limits syms [] [] start limits.tokens
    (record { reached = record { good = tt; tells = refl; onward = λ rest. refl; size = refl }; low = tt; left = omega arith })

-- ---- all symbols are wanted

whole-good : (limits : Limits) (syms : List Sym) (p : Part) → IsPart limits syms p → IsReading limits syms (whole p)
whole-good limits syms (Found s []) h =
    let e : spelled s ≡ syms = flip (h.split ∙ append-nil (spelled s)) in
    ((h.shape, e), subst (IsGood limits) e h.good)
whole-good limits syms (Found s (sym ∷ rest)) h = record { front = spelled s; split = h.split; good = h.good; broken = h.barred }
whole-good limits syms (Lost fault rest) h = h.first

pub reading-good : (limits : Limits) (syms : List Sym) → IsReading limits syms (read limits syms)
reading-good limits syms = whole-good limits syms (read_part limits syms) (part-good limits syms)

-- ---- the depths of a front

-- front, and these symbols more, begin a shape, so the machine takes them
record Taken (front : List Sym) : Type 0 where
  so_far : List ℕ
  state : State
  reached : Reached front so_far state

taken-next : (front : List Sym) (sym : Sym) (so_far : List ℕ) (state : State) (o : Option State) → Reached front so_far state → Begins (front ++ sym ∷ []) → step state sym ≡ o
    → IsNext (told state ++ sym ∷ []) o → Taken (front ++ sym ∷ [])
taken-next front sym so_far state None r b e h = absurd (refused-at front so_far state sym r e b)
taken-next front sym so_far state (Some next) r b e h = record { so_far = so_far ++ depth next ∷ []; state = next; reached = reached-next front so_far state next sym r e h }

taken-more : (syms front more : List Sym) (s : Shape) → Taken front → IsShapeOf s ((front ++ syms) ++ more) → Taken (front ++ syms)
taken-more [] front more s t is = subst Taken (flip (append-nil front)) t
taken-more (sym ∷ syms) front more s t is =
    let later : List Sym = front ++ sym ∷ [] in
    let one : later ++ syms ≡ front ++ sym ∷ syms = append_assoc front (sym ∷ []) syms in
    let all : IsShapeOf s ((later ++ syms) ++ more) = (is.0, is.1 ∙ ap (λ l. l ++ more) (flip one)) in
    let b : Begins later = record { shape = s; more = syms ++ more; whole = (is.0, all.1 ∙ append_assoc later syms more) } in
    subst Taken one
    (taken-more syms later more s (taken-next front sym t.so_far t.state (step t.state sym) t.reached b refl (step-next t.state sym t.reached.good)) all)

pub nesting-law : NestingLaw
nesting-law front more other s t is also =
    let k : Taken front = taken-more front [] more s (record { so_far = []; state = start; reached = record { good = tt; tells = refl; onward = λ rest. refl; size = refl } }) is in
    depths-of front k.so_far k.state k.reached s more is ∙ flip (depths-of front k.so_far k.state k.reached t other also)
