-- A quantifier's names go on with each symbol but the comma.
use Rattle.std.proofs.Common.{◌≡◌, ℕ, List, option_map, refl}
use Rattle.pg_grammar.specs.Shapes.{Quantifier as GrammarQuantifier}
use Rattle.pg_grammar.specs.Machine as machine
use Rattle.pg_shape.specs.Symbols.{sym}
use Rattle.pg_shape.specs.declared.symbol.Sym.{Sym}
use Rattle.pg_shape.specs.declared.symbol.Sym.TheVariants.{Name, Number, False, Succ, Infix, Not, Quantifier, Open, Close, Comma, Colon, Nat, Other}

pub binds_step : (frames : List machine.Frame) (at : ℕ) (q : GrammarQuantifier) (h : machine.Heading) (s : Sym) → (s ≡ Comma → ⊥)
    → option_map (machine.Binds frames at q) (machine.heading_step h (sym s)) ≡ machine.step (machine.Binds frames at q h) (sym s)
binds_step frames at q h (Name w) k = refl
binds_step frames at q h (Number w) k = refl
binds_step frames at q h (False i) k = refl
binds_step frames at q h (Succ i) k = refl
binds_step frames at q h (Infix i o) k = refl
binds_step frames at q h (Not i) k = refl
binds_step frames at q h (Quantifier i r) k = refl
binds_step frames at q h (Open i) k = refl
binds_step frames at q h Close k = refl
binds_step frames at q h Comma k = absurd (k refl)
binds_step frames at q h Colon k = refl
binds_step frames at q h Nat k = refl
binds_step frames at q h Other k = refl
