-- The frames of a statement's binders.
use Rattle.std.proofs.Common.{◌≡◌, ℕ, ◌+◌, ◌<◌, List, [], ◌∷◌, ◌++◌, length, take, get_or, refl, ap, sym, ◌∙◌}
use Rattle.std.proofs.lemmas.List.{map-append}
use Rattle.std.proofs.lemmas.Grind.{take_at_read}
use Rattle.pg_frames.specs.View.{frame_of, frames_of}
use Rattle.pg_frames.specs.declared.frame.Frame.{Frame as RustFrame}
use Rattle.pg_syntax.specs.declared.statement.Binder.{Binder}
use Rattle.pg_syntax.specs.declared.statement.Binder.TheVariants.{Var, Hyp}
use Rattle.pg_moves.specs.Frames.{introduced, under_alli, under_impi}
use Rattle.pg_runs.specs.State.{introduces}

pub introduced_push : (bs : List Binder) (b : Binder) → introduced (bs ++ b ∷ []) ≡ introduced bs ++ introduces b ∷ []
introduced_push [] (Var x) = refl
introduced_push [] (Hyp h a) = refl
introduced_push (Var x ∷ bs) b = ap (λ fs. under_alli ∷ fs) (introduced_push bs b)
introduced_push (Hyp h a ∷ bs) b = ap (λ fs. under_impi ∷ fs) (introduced_push bs b)

-- one binder more
pub pushes : (bs : List Binder) (i : ℕ) (b : Binder) (old new : List RustFrame) (f : RustFrame) → i < length bs → b ≡ get_or bs i b →
    frames_of old ≡ introduced (take i bs) → new ≡ old ++ f ∷ [] → frame_of f ≡ introduces b → frames_of new ≡ introduced (take (i + 1) bs)
pushes bs i b old new f lt here was is made =
    ap frames_of is ∙ map-append frame_of old (f ∷ []) ∙ ap (λ fs. fs ++ frame_of f ∷ []) was ∙ ap (λ x. introduced (take i bs) ++ x ∷ []) made
    ∙ sym (introduced_push (take i bs) b) ∙ ap introduced (sym ((take_at_read bs i b lt).1 ∙ ap (λ x. take i bs ++ x ∷ []) (sym here)))
