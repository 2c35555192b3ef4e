-- Where a shape ends: which symbols don't go on it.
use Rattle.std.proofs.Common.{◌≡◌, ℕ, ◌<◌, ◌≤◌, true, List, [], ◌∷◌, arith}
use Rattle.pg_grammar.specs.Shapes.{Op, level, left_min, right_min, Sym, Name, Number, FalseWord, Sign, Open, Close, Shape, Named, Numeral, Falsum, Paren, Next, App, Neg, Quant, Binary, strength, closed, can_apply, IsShape}
use Rattle.pg_grammar.proofs.Table.{level-right, right-fits, not-inside, below-not}

-- this symbol doesn't go on an operand in a place that wants at least min
abbrev pub StopsAt : ℕ → Sym → Type 0
StopsAt min (Sign at op) = level op < min
StopsAt min (Name x) = ⊥
StopsAt min (Number n) = ⊥
StopsAt min (FalseWord at) = ⊥
StopsAt min (Open at) = ⊥
StopsAt min _ = Unit {0}

abbrev pub Stops : ℕ → List Sym → Type 0
Stops min [] = Unit {0}
Stops min (sym ∷ rest) = StopsAt min sym

abbrev pub Ends : Shape → List Sym → Type 0
Ends (Neg at s) rest = Stops 40 rest × Ends s rest
Ends (Quant at q b s) rest = Stops 0 rest × Ends s rest
Ends (Binary at op l r) rest = Stops (right_min op) rest × Ends r rest
Ends _ rest = Unit {0}

pub ends-close : (s : Shape) (rest : List Sym) → Ends s (Close ∷ rest)
ends-close (Neg at s) rest = (tt, ends-close s rest)
ends-close (Quant at q b s) rest = (tt, ends-close s rest)
ends-close (Binary at op l r) rest = (tt, ends-close r rest)
ends-close _ rest = tt

pub ends-nil : (s : Shape) → Ends s []
ends-nil (Neg at s) = (tt, ends-nil s)
ends-nil (Quant at q b s) = (tt, ends-nil s)
ends-nil (Binary at op l r) = (tt, ends-nil r)
ends-nil _ = tt

pub ends-sign : (s : Shape) (at : ℕ) (op : Op) (rest : List Sym) → IsShape s → left_min op ≤ strength s → closed s ≡ true → Ends s (Sign at op ∷ rest)
ends-sign (Neg i s) at op rest h le c = (below-not op le, ends-sign s at op rest h.1 (omega (arith, le, h.0)) c)
ends-sign (Quant i q b s) at op rest h le c = cc
ends-sign (Binary i other l r) at op rest h le c = (not-inside op other le, ends-sign r at op rest h.3 (omega (arith, le, h.1, level-right other)) c)
ends-sign _ at op rest h le c = tt

-- nothing goes on an atom, nor on what can be applied, but an argument
pub ends-strong : (s : Shape) (rest : List Sym) → 101 ≤ strength s → Ends s rest
ends-strong (Neg at s) rest le = absurd (omega (arith, le))
ends-strong (Quant at q b s) rest le = absurd (omega (arith, le))
ends-strong (Binary at op l r) rest le = absurd (omega (arith, le, level-right op, right-fits op))
ends-strong _ rest le = tt

pub ends-apply : (s : Shape) (rest : List Sym) → can_apply s ≡ true → Ends s rest
ends-apply (Neg at s) rest c = cc
ends-apply (Quant at q b s) rest c = cc
ends-apply (Binary at op l r) rest c = cc
ends-apply _ rest c = tt

pub apply-strong : (s : Shape) → can_apply s ≡ true → 100 ≤ strength s
apply-strong (Named x) c = omega arith
apply-strong (Numeral n) c = cc
apply-strong (Falsum at) c = cc
apply-strong (Paren at s) c = cc
apply-strong (Next at s) c = omega arith
apply-strong (App f s) c = omega arith
apply-strong (Neg at s) c = cc
apply-strong (Quant at q b s) c = cc
apply-strong (Binary at op l r) c = cc
