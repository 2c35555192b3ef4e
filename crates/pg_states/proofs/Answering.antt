-- What the fault of an answer is in a game text.
use Rattle.std.proofs.Common.{◌≡◌, ℕ, [], ◌∷◌, ap}
use Rattle.pg_logic.specs.Tree.{Fm}
use Rattle.pg_grammar.specs.Faults as shapes
use Rattle.pg_meaning.specs.Faults as meaning
use Rattle.pg_syntax.specs.Answers.{Answer, Read, Misshapen, Meaningless, IsExpected}
use Rattle.pg_gametext.specs.Faults.{fault, Expected, answer_faults}

pub expected : (a : Answer Fm) (at : ℕ) → IsExpected a at → answer_faults a ≡ fault at Expected ∷ []
expected (Misshapen shapes.Expected p) at e = ap (λ (n : ℕ). fault n Expected ∷ []) e
expected (Meaningless (meaning.Expected p)) at e = ap (λ (n : ℕ). fault n Expected ∷ []) e
expected (Read _) at e = elim e [ ]
expected (Misshapen shapes.Deep p) at e = elim e [ ]
expected (Misshapen shapes.Long p) at e = elim e [ ]
expected (Meaningless (meaning.Unknown _)) at e = elim e [ ]
expected (Meaningless (meaning.Arity _ has needs)) at e = elim e [ ]
