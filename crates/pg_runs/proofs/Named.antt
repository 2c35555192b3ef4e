-- The look-up of a move's word.
use Rattle.std.proofs.Common.{◌≡◌, true, false, cond, List, [], ◌∷◌, ◌++◌, Option, Some, None, refl, sym, ap, ◌∙◌}
use Rattle.std.specs.Prelude.{find, IfSome, Ok, Err, if◌then◌else◌}
use Rattle.std.specs.Str.{bytes_eq}
use Rattle.pg_logic.specs.Declarations.{Name}
use Rattle.pg_spelling.proofs.Places.{same, equal}
use Rattle.pg_worlds.specs.declared.tactic_name.TacticName.{TacticName}
use Rattle.pg_worlds.specs.declared.tactic_name.TacticName.TheVariants.{Rfl, Rw, Induction, Intro, Exact, Apply, Cases, Left, Right, Constructor, Use, Symm, Exfalso, Have, Revert, ByCases}
use Rattle.pg_worlds.specs.Moves.{word_of}
use Rattle.pg_moves.specs.Acts.{all_moves, move_named}
use Rattle.pg_moves.specs.Causes.{Tried, NoSuchTactic, LockedTactic, and_then, wanted}
use Rattle.pg_moves.specs.Lookup.{Lookup}
use Rattle.pg_moves.specs.Steps.{move_there}

-- what is found has the word
finds : (x : Name) (ts : List TacticName) (t : TacticName) → find (λ u. bytes_eq x (word_of u)) ts ≡ Some t → word_of t ≡ x
finds x [] t e = cc
finds x (u ∷ us) t e =
    elim (bytes_eq x (word_of u)) as (λ b. bytes_eq x (word_of u) ≡ b → cond b (Some u) (find (λ v. bytes_eq x (word_of v)) us) ≡ Some t → word_of t ≡ x) [
      | true ↦ λ is found. let here : u ≡ t = cc in ap word_of (sym here) ∙ sym (equal x (word_of u) is)
      | false ↦ λ _ found. finds x us t found
    ] refl e

-- where a move of the list has the word, one is found
misses : (x : Name) (us ts : List TacticName) (t : TacticName) → word_of t ≡ x → find (λ u. bytes_eq x (word_of u)) (us ++ t ∷ ts) ≡ None → ⊥
misses x [] ts t w e = let is : bytes_eq x (word_of t) ≡ true = ap (bytes_eq x) w ∙ same x in cc
misses x (u ∷ us) ts t w e =
    elim (bytes_eq x (word_of u)) as (λ b. cond b (Some u) (find (λ v. bytes_eq x (word_of v)) (us ++ t ∷ ts)) ≡ None → ⊥) [
      | true ↦ λ found. cc
      | false ↦ λ found. misses x us ts t w found
    ] e

-- the move that is looked up has the word, and is None where no move has it
pub named : (x : Name) (o : Option TacticName) → IfSome o (λ t. word_of t ≡ x) → ((t : TacticName) → word_of t ≡ x → o ≡ Some t) → move_named x ≡ o
named x o w inverse =
    elim (move_named x) as (λ r. move_named x ≡ r → r ≡ o) [
      | Some t ↦ λ is. sym (inverse t (finds x all_moves t is))
      | None ↦ λ is. none o w is
    ] refl
  where
    none : (o : Option TacticName) → IfSome o (λ t. word_of t ≡ x) → move_named x ≡ None → None ≡ o
    none None w is = refl
    none (Some t) w is = absurd (at t w is)
      where
        at : (t : TacticName) → word_of t ≡ x → move_named x ≡ None → ⊥
        at Rfl w is = misses x [] (Rw ∷ Induction ∷ Intro ∷ Exact ∷ Apply ∷ Cases ∷ Left ∷ Right ∷ Constructor ∷ Use ∷ Symm ∷ Exfalso ∷ Have ∷ Revert ∷ ByCases ∷ []) Rfl w is
        at Rw w is = misses x (Rfl ∷ []) (Induction ∷ Intro ∷ Exact ∷ Apply ∷ Cases ∷ Left ∷ Right ∷ Constructor ∷ Use ∷ Symm ∷ Exfalso ∷ Have ∷ Revert ∷ ByCases ∷ []) Rw w is
        at Induction w is = misses x (Rfl ∷ Rw ∷ []) (Intro ∷ Exact ∷ Apply ∷ Cases ∷ Left ∷ Right ∷ Constructor ∷ Use ∷ Symm ∷ Exfalso ∷ Have ∷ Revert ∷ ByCases ∷ []) Induction w is
        at Intro w is = misses x (Rfl ∷ Rw ∷ Induction ∷ []) (Exact ∷ Apply ∷ Cases ∷ Left ∷ Right ∷ Constructor ∷ Use ∷ Symm ∷ Exfalso ∷ Have ∷ Revert ∷ ByCases ∷ []) Intro w is
        at Exact w is = misses x (Rfl ∷ Rw ∷ Induction ∷ Intro ∷ []) (Apply ∷ Cases ∷ Left ∷ Right ∷ Constructor ∷ Use ∷ Symm ∷ Exfalso ∷ Have ∷ Revert ∷ ByCases ∷ []) Exact w is
        at Apply w is = misses x (Rfl ∷ Rw ∷ Induction ∷ Intro ∷ Exact ∷ []) (Cases ∷ Left ∷ Right ∷ Constructor ∷ Use ∷ Symm ∷ Exfalso ∷ Have ∷ Revert ∷ ByCases ∷ []) Apply w is
        at Cases w is = misses x (Rfl ∷ Rw ∷ Induction ∷ Intro ∷ Exact ∷ Apply ∷ []) (Left ∷ Right ∷ Constructor ∷ Use ∷ Symm ∷ Exfalso ∷ Have ∷ Revert ∷ ByCases ∷ []) Cases w is
        at Left w is = misses x (Rfl ∷ Rw ∷ Induction ∷ Intro ∷ Exact ∷ Apply ∷ Cases ∷ []) (Right ∷ Constructor ∷ Use ∷ Symm ∷ Exfalso ∷ Have ∷ Revert ∷ ByCases ∷ []) Left w is
        at Right w is = misses x (Rfl ∷ Rw ∷ Induction ∷ Intro ∷ Exact ∷ Apply ∷ Cases ∷ Left ∷ []) (Constructor ∷ Use ∷ Symm ∷ Exfalso ∷ Have ∷ Revert ∷ ByCases ∷ []) Right w is
        at Constructor w is = misses x (Rfl ∷ Rw ∷ Induction ∷ Intro ∷ Exact ∷ Apply ∷ Cases ∷ Left ∷ Right ∷ []) (Use ∷ Symm ∷ Exfalso ∷ Have ∷ Revert ∷ ByCases ∷ []) Constructor w is
        at Use w is = misses x (Rfl ∷ Rw ∷ Induction ∷ Intro ∷ Exact ∷ Apply ∷ Cases ∷ Left ∷ Right ∷ Constructor ∷ []) (Symm ∷ Exfalso ∷ Have ∷ Revert ∷ ByCases ∷ []) Use w is
        at Symm w is = misses x (Rfl ∷ Rw ∷ Induction ∷ Intro ∷ Exact ∷ Apply ∷ Cases ∷ Left ∷ Right ∷ Constructor ∷ Use ∷ []) (Exfalso ∷ Have ∷ Revert ∷ ByCases ∷ []) Symm w is
        at Exfalso w is = misses x (Rfl ∷ Rw ∷ Induction ∷ Intro ∷ Exact ∷ Apply ∷ Cases ∷ Left ∷ Right ∷ Constructor ∷ Use ∷ Symm ∷ []) (Have ∷ Revert ∷ ByCases ∷ []) Exfalso w is
        at Have w is = misses x (Rfl ∷ Rw ∷ Induction ∷ Intro ∷ Exact ∷ Apply ∷ Cases ∷ Left ∷ Right ∷ Constructor ∷ Use ∷ Symm ∷ Exfalso ∷ []) (Revert ∷ ByCases ∷ []) Have w is
        at Revert w is = misses x (Rfl ∷ Rw ∷ Induction ∷ Intro ∷ Exact ∷ Apply ∷ Cases ∷ Left ∷ Right ∷ Constructor ∷ Use ∷ Symm ∷ Exfalso ∷ Have ∷ []) (ByCases ∷ []) Revert w is
        at ByCases w is = misses x (Rfl ∷ Rw ∷ Induction ∷ Intro ∷ Exact ∷ Apply ∷ Cases ∷ Left ∷ Right ∷ Constructor ∷ Use ∷ Symm ∷ Exfalso ∷ Have ∷ Revert ∷ []) [] ByCases w is

abbrev there : Lookup → Name → Option TacticName → Tried TacticName
there l x o = and_then (wanted o (NoSuchTactic x)) (λ t. if l.available.tactic t then Ok t else Err (LockedTactic x))

-- no move has the word
pub no_move : (l : Lookup) (x : Name) → ((t : TacticName) → word_of t ≡ x → None ≡ Some t) → move_there l x ≡ Err (NoSuchTactic x)
no_move l x inverse = ap (there l x) (named x None tt inverse)

-- this one has it
pub is_move : (l : Lookup) (x : Name) (t : TacticName) → word_of t ≡ x → ((u : TacticName) → word_of u ≡ x → Some t ≡ Some u) →
    move_there l x ≡ (if l.available.tactic t then Ok t else Err (LockedTactic x))
is_move l x t w inverse = ap (there l x) (named x (Some t) w inverse)
