-- The laws, from what is shown of each act and of runs.
use Rattle.std.proofs.Common.{◌≡◌, ℕ, ◌+◌, ◌<◌, ◌≤◌, List, [], ◌∷◌, length, map, true, Some}
use Rattle.std.specs.Prelude.{All, Ok, slice_get}
use Rattle.std.specs.List.{AllByRecursion}
use Rattle.std.proofs.lemmas.List.Elements.{All-from_recursion, recursion_from_All}
use Rattle.pg_logic.specs.Tree.{Fm}
use Rattle.pg_logic.specs.Signature.{Signature, fits}
use Rattle.pg_logic.specs.Declarations.{signature_of}
use Rattle.pg_moves.specs.Goals.{Goal}
use Rattle.pg_moves.specs.Lookup.{Lookup}
use Rattle.pg_moves.specs.Proofs.{Sequent, sequent}
use Rattle.pg_moves.specs.Proofs as specs
use Rattle.pg_moves.specs.Frames.{Frame}
use Rattle.pg_moves.specs.Laws.{IsSound, Justifies, GivenLaw, ActLaw, ClosedRunLaw, StaysClosedLaw}
use Rattle.pg_moves.proofs.ByRecursion.{AllFitting, from_fits, to_fits}
use Rattle.pg_moves.proofs.Given.{Sound, fit_at, given-has}
use Rattle.pg_moves.proofs.Reading.{sound}
use Rattle.pg_moves.proofs.Good.{Good}
use Rattle.pg_moves.proofs.Works.{works}
use Rattle.pg_moves.proofs.Theorem.{closed-run}
use Rattle.pg_moves.proofs.Monotone.{stays-closed}

theorem-fits : (l : Lookup) → IsSound l → (k : ℕ) (a : Fm) → slice_get l.theorems k ≡ Some a → fits (signature_of l.declared) 0 0 a ≡ true
theorem-fits l ok k a e = fit_at (signature_of l.declared) 0 l.theorems k a (recursion_from_All (λ a. fits (signature_of l.declared) 0 0 a ≡ true) l.theorems ok.theorems) e

pub reads : (l : Lookup) → IsSound l → Sound l
reads l ok = sound l ok.declared (theorem-fits l ok)

all-fit : (s : Signature) (gs : List Sequent) → AllFitting s gs → All (specs.Fits s) gs
all-fit s gs f = All-from_recursion (specs.Fits s) gs (go gs f)
  where
    go : (gs : List Sequent) → AllFitting s gs → AllByRecursion (specs.Fits s) gs
    go [] f = tt
    go (g ∷ gs) f = (to_fits s g f.0, go gs f.1)

pub given-law : GivenLaw
given-law l ok g fit e a q = let k = given-has l (reads l ok) g (from_fits (signature_of l.declared) (sequent g) fit) e a q in (k.fitting, k.proof, k.proves)

-- what the frames of an act are good for justifies it
pub justified : (l : Lookup) (q : Sequent) (new : List Sequent) (fs : List Frame) → Good l q new fs → Justifies l q new fs
justified l q new fs w =
    record {
      turns = w.turns;
      fitting = all-fit (signature_of l.declared) new w.fitting;
      few = All-from_recursion (λ (r : Sequent). r.vars ≤ q.vars + 1) new w.few;
    }

pub act-law : ActLaw
act-law l ok g fit room a new e =
    let w = works l (reads l ok) g (from_fits (signature_of l.declared) (sequent g) fit) room a new e in (w.0, justified l (sequent g) (map sequent new) w.0 w.1)

pub closed-run-law : ClosedRunLaw
closed-run-law l ok binders target fit items room e = closed-run l ok.declared (theorem-fits l ok) binders target fit items room e

pub stays-closed-law : StaysClosedLaw
stays-closed-law l more within g items e = stays-closed l more within g items e
