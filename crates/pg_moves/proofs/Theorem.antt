-- A closed run of a statement has a proof of its formula that the kernel accepts, which names available theorems only.
use Rattle.std.proofs.Common.{◌≡◌, ℕ, ◌+◌, ◌<◌, List, [], ◌∷◌, length, map, true, Some, None, arith}
use Rattle.std.specs.Prelude.{slice_get}
use Rattle.pg_logic.specs.Tree.{Fm}
use Rattle.pg_logic.specs.Signature.{Signature, IsDeclared, fits}
use Rattle.pg_logic.specs.Declarations.{signature_of}
use Rattle.pg_logic.specs.Kernel.{Pf, fault_of}
use Rattle.pg_logic.proofs.Fitting.{fits-le}
use Rattle.pg_terms.specs.View.{formula}
use Rattle.pg_script.specs.Data.{Entry, entries_of}
use Rattle.pg_syntax.specs.declared.statement.Binder.{Binder}
use Rattle.pg_syntax.specs.declared.statement.Binder.TheVariants as binder
use Rattle.pg_syntax.specs.Statements.{closed, AreFitting}
use Rattle.pg_moves.specs.First.{first_vars, first_hyps, first_goal}
use Rattle.pg_moves.specs.Lookup.{Lookup, IsAvailable}
use Rattle.pg_moves.specs.Runs.{Closed, run, parts_among}
use Rattle.pg_moves.specs.Proofs.{EachNamed, hyp_formula}
use Rattle.pg_moves.proofs.ByRecursion.{AllFit}
use Rattle.pg_moves.proofs.Reading.{sound}
use Rattle.pg_moves.proofs.Closed.{run-closed}

-- a hypothesis fits the variables before it, so it fits all
hyps-fit : (s : Signature) (k n : ℕ) (bs : List Binder) (c : Fm) → n ≡ k + length (first_vars bs) → AreFitting s k bs c → AllFit s n (map hyp_formula (first_hyps bs)) × (fits s n 0 c ≡ true)
hyps-fit s k n [] c e f = (tt, fits-le s k n 0 0 c (omega (arith, e)) (omega arith) f)
hyps-fit s k n (binder.Var x ∷ bs) c e f = hyps-fit s (k + 1) n bs c (omega (arith, e)) f
hyps-fit s k n (binder.Hyp h a ∷ bs) c e f = let r = hyps-fit s k n bs c e f.1 in ((fits-le s k n 0 0 (formula a) (omega (arith, e)) (omega arith) f.0, r.0), r.1)

-- Over a declared signature and theorems that fit, of a statement that fits: variables and parts of the script are
-- fewer than a context may have.
pub closed-run : (l : Lookup) → IsDeclared (signature_of l.declared) → ((k : ℕ) (a : Fm) → slice_get l.theorems k ≡ Some a → fits (signature_of l.declared) 0 0 a ≡ true) →
    (bs : List Binder) (c : Fm) → AreFitting (signature_of l.declared) 0 bs c → (items : List Entry) → length (first_vars bs) + parts_among (entries_of items) < 4294967295 →
    run l (first_goal bs c) items ≡ Closed → (p : Pf) × (fault_of (signature_of l.declared) l.theorems p 0 [] (closed bs c) 0 ≡ None) × EachNamed (IsAvailable l) p
closed-run l d t bs c f items room e =
    let k = hyps-fit (signature_of l.declared) 0 (length (first_vars bs)) bs c (omega arith) f in
    run-closed l (sound l d t) bs c items f room ((k.0, k.1), tt) e
