-- Predicates that are unfolded one after the other.
use Rattle.std.proofs.Common.{◌≡◌, ℕ, zero, suc, ◌+◌, List, [], ◌∷◌, ◌++◌, Some, None, refl, arith, ap, sym, ◌∙◌, append_assoc, append-nil}
use Rattle.std.proofs.lemmas.List.{map-append}
use Rattle.pg_logic.specs.Tree.{Fm}
use Rattle.pg_logic.specs.Signature.{Signature}
use Rattle.pg_logic.specs.Kernel.{unfolded}
use Rattle.pg_frames.specs.declared.frame.Frame.{Frame}
use Rattle.pg_frames.specs.declared.frame.Frame.TheVariants.{UnderPredi}
use Rattle.pg_frames.specs.View.{frame_of, frames_of}
use Rattle.pg_moves.specs.Closing.{form_at, unfolded_within}
use Rattle.pg_moves.specs.Frames.{under_predi, predis, way_at, way}

predis-more : (k : ℕ) → predis k ++ under_predi ∷ [] ≡ predis (suc k)
predis-more zero = refl
predis-more (suc k) = ap (λ fs. under_predi ∷ fs) (predis-more k)

predis-push : (k : ℕ) → predis (k + 1) ≡ predis k ++ under_predi ∷ []
predis-push k = let e : k + 1 ≡ suc k = omega arith in ap predis e ∙ sym (predis-more k)

-- the frames that unfold one predicate more
pub opening-more : (fs gs : List Frame) (k : ℕ) → frames_of fs ≡ predis k → gs ≡ fs ++ UnderPredi ∷ [] → frames_of gs ≡ predis (k + 1)
opening-more fs gs k is e = ap frames_of e ∙ map-append frame_of fs (UnderPredi ∷ []) ∙ ap (λ l. l ++ under_predi ∷ []) is ∙ sym (predis-push k)

-- a step that unfolds
pub within-step : (s : Signature) (left k : ℕ) (a b : Fm) → left ≡ k + 1 → Some b ≡ unfolded s a → unfolded_within left s a ≡ unfolded_within k s b
within-step s left k a b is e = let q : left ≡ suc k = omega arith in ap (λ n. unfolded_within n s a) q ∙ ap (form_at a (unfolded_within k s)) (sym e)

pub way-step : (s : Signature) (left k : ℕ) (a b : Fm) → left ≡ k + 1 → Some b ≡ unfolded s a → way left s a ≡ a ∷ way k s b
way-step s left k a b is e = let q : left ≡ suc k = omega arith in ap (λ n. way n s a) q ∙ ap (way_at a (way k s)) (sym e)

-- the way so far goes on
pub way-on : (s : Signature) (left k : ℕ) (a b : Fm) (before all-of : List Fm) → left ≡ k + 1 → Some b ≡ unfolded s a → before ++ way left s a ≡ all-of → (before ++ a ∷ []) ++ way k s b ≡ all-of
way-on s left k a b before all-of is e w = append_assoc before (a ∷ []) (way k s b) ∙ ap (λ l. before ++ l) (sym (way-step s left k a b is e)) ∙ w

-- nothing is unfolded
pub within-stop : (s : Signature) (k : ℕ) (a : Fm) → None ≡ unfolded s a → unfolded_within k s a ≡ a
within-stop s zero a e = refl
within-stop s (suc k) a e = ap (form_at a (unfolded_within k s)) (sym e)

pub way-stop : (s : Signature) (k : ℕ) (a : Fm) → None ≡ unfolded s a → way k s a ≡ []
way-stop s zero a e = refl
way-stop s (suc k) a e = ap (way_at a (way k s)) (sym e)

-- the way is whole
pub way-whole : (s : Signature) (k : ℕ) (a : Fm) (before all-of : List Fm) → None ≡ unfolded s a → before ++ way k s a ≡ all-of → before ≡ all-of
way-whole s k a before all-of e w = sym (append-nil before) ∙ ap (λ l. before ++ l) (sym (way-stop s k a e)) ∙ w
