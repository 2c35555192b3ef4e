-- Tokens are cut into commands in one way.
use Rattle.std.proofs.Common.{◌≡◌, ◌∙◌, ℕ, zero, suc, Bool, true, false, List, [], ◌∷◌, ◌++◌, length, take, drop, refl, ap, subst, if◌then◌else◌}
use Rattle.std.proofs.lemmas.List.{take-append-drop}
use Rattle.pg_base.specs.Tokens.{Word}
use Rattle.pg_script.specs.Marks.{place}
use Rattle.pg_gametext.specs.Commands.{is_passed, ends_command, body_length, Piece, pieces_from, pieces}
use Rattle.pg_gametext.specs.Grammar.{GoesOn, Ends, IsCut, nothing, a_piece, CutLaw}

goes : (passed : Bool) (ws : List Word) → GoesOn passed (take (body_length passed ws) ws)
goes passed [] = tt
goes passed (w ∷ ws) =
    elim (ends_command passed w) as (λ b. ends_command passed w ≡ b → GoesOn passed (take (if b then 0 else suc (body_length passed ws)) (w ∷ ws))) [
      | true ↦ λ e. tt
      | false ↦ λ e. (e, goes passed ws)
    ] refl

ends : (passed : Bool) (ws : List Word) → Ends passed (drop (body_length passed ws) ws)
ends passed [] = tt
ends passed (w ∷ ws) =
    elim (ends_command passed w) as (λ b. ends_command passed w ≡ b → Ends passed (drop (if b then 0 else suc (body_length passed ws)) (w ∷ ws))) [
      | true ↦ λ e. e
      | false ↦ λ e. ends passed ws
    ] refl

pub cut : (skip end : ℕ) (ws : List Word) → IsCut end (drop skip ws) (pieces_from skip end ws)
cut zero end [] = nothing
cut (suc skip) end [] = nothing
cut (suc skip) end (w ∷ ws) = cut skip end ws
cut zero end (w ∷ ws) =
    let n = body_length (is_passed w) ws in
    subst (λ (x : List Word). IsCut end (w ∷ x) (pieces_from 0 end (w ∷ ws))) (take-append-drop n ws)
    (a_piece w (take n ws) (drop n ws) (pieces_from n end ws) (goes (is_passed w) ws) (ends (is_passed w) ws) (cut n end ws))

-- the length of what goes on
long : (passed : Bool) (ws next : List Word) → GoesOn passed ws → Ends passed next → body_length passed (ws ++ next) ≡ length ws
long passed [] [] g e = refl
long passed [] (v ∷ next) g e = ap (λ b. if b then 0 else suc (body_length passed next)) e
long passed (w ∷ ws) next g e = ap (λ b. if b then 0 else suc (body_length passed (ws ++ next))) g.0 ∙ ap suc (long passed ws next g.1 e)

pub taken : (ws next : List Word) → take (length ws) (ws ++ next) ≡ ws
taken [] next = refl
taken (w ∷ ws) next = ap (λ x. w ∷ x) (taken ws next)

pub left : (ws next : List Word) → drop (length ws) (ws ++ next) ≡ next
left [] next = refl
left (w ∷ ws) next = left ws next

skipped : (end : ℕ) (ws next : List Word) → pieces_from (length ws) end (ws ++ next) ≡ pieces_from 0 end next
skipped end [] next = refl
skipped end (w ∷ ws) next = skipped end ws next

abbrev at_front : ℕ → Word → List Word → ℕ → List Piece
at_front end w ws n = record { word = w; body = take n ws; end = place end (drop n ws) } ∷ pieces_from n end ws

only : (end : ℕ) (ws : List Word) (ps : List Piece) → IsCut end ws ps → pieces end ws ≡ ps
only end _ _ nothing = refl
only end _ _ (a_piece w ws next ps g e c) =
    ap (at_front end w (ws ++ next)) (long (is_passed w) ws next g e)
    ∙ ap (λ (x : List Word). record { word = w; body = x; end = place end (drop (length ws) (ws ++ next)) } ∷ pieces_from (length ws) end (ws ++ next)) (taken ws next)
    ∙ ap (λ (x : List Word). record { word = w; body = ws; end = place end x } ∷ pieces_from (length ws) end (ws ++ next)) (left ws next)
    ∙ ap (λ (x : List Piece). record { word = w; body = ws; end = place end next } ∷ x) (skipped end ws next ∙ only end next ps c)

pub cut-law : CutLaw
cut-law end ws ps = (λ e. subst (IsCut end ws) e (cut 0 end ws), only end ws ps)
