-- Lists that are read from their end.
use Rattle.std.proofs.Common.{◌≡◌, ℕ, suc, ◌+◌, arith, List, [], ◌∷◌, ◌++◌, map, reverse, refl, ap, ◌∙◌}
use Rattle.std.proofs.lemmas.List.{reverse-append, map-append}
use Rattle.pg_logic.specs.Kernel.{Pf, impi}
use Rattle.pg_moves.specs.Frames as moves
use Rattle.pg_kernel.specs.declared.proof.Proof.{Proof}
use Rattle.pg_kernel.specs.View.{proof}
use Rattle.pg_frames.specs.declared.frame.Frame.{Frame}
use Rattle.pg_frames.specs.View.{frame_of, frames_of}
use Rattle.pg_frames.specs.Held.{held}

-- what is pushed is next
pub held-push : (ps : List Proof) (p : Proof) → held (ps ++ p ∷ []) ≡ proof p ∷ held ps
held-push ps p = ap reverse (map-append proof ps (p ∷ [])) ∙ reverse-append (map proof ps) (proof p ∷ [])

-- the last frame is the first that is filled
pub built-push : (fs : List Frame) (f : Frame) (ps : List Pf) → moves.built (frames_of (fs ++ f ∷ [])) ps ≡ moves.built (frames_of fs) (moves.filled (frame_of f) ps)
built-push [] f ps = refl
built-push (g ∷ fs) f ps = ap (moves.filled (frame_of g)) (built-push fs f ps)

-- one node more
pub impis-more : (k : ℕ) (p : Pf) → moves.impis (k + 1) p ≡ impi (moves.impis k p)
impis-more k p = let e : k + 1 ≡ suc k = omega arith in ap (λ k. moves.impis k p) e

pub ruleset holds = (held-push)

pub ruleset finishes = (held-push, built-push)

pub ruleset more_impis = (impis-more)
