-- A name is free exactly where it stays as it is when made fresh.
use Rattle.std.proofs.Common.{◌≡◌, Bool, true, false, List, refl, sym, ap, ◌∙◌}
use Rattle.std.specs.Prelude.{Ok, Err, if◌then◌else◌}
use Rattle.std.proofs.lemmas.Bool.{true≢false}
use Rattle.std.specs.Str.{bytes_eq}
use Rattle.pg_base.specs.Tokens.{Word}
use Rattle.pg_logic.specs.Declarations.{Name}
use Rattle.pg_spelling.specs.Fresh.{is_taken, IsFresh}
use Rattle.pg_spelling.proofs.Places.{same}
use Rattle.pg_moves.specs.Causes.{NameTaken}
use Rattle.pg_moves.specs.Lookup.{Lookup, kept_names, given_name}

pub free_stays : (names : List Name) (x made : Name) → IsFresh names x made → made ≡ x → is_taken names x ≡ false
free_stays names x made f e = ap (is_taken names) (sym e) ∙ f.free

taken-or : (names : List Name) (x made : Name) (b : Bool) → is_taken names x ≡ b → IsFresh names x made → (made ≡ x → ⊥) → is_taken names x ≡ true
taken-or names x made true is f differ = is
taken-or names x made false is f differ = absurd (differ (f.stays is))

differ : (made x a b : Name) → a ≡ made → b ≡ x → false ≡ bytes_eq a b → made ≡ x → ⊥
differ made x a b from to other e = true≢false (sym (same x) ∙ ap (λ y. bytes_eq y x) (sym (from ∙ e)) ∙ ap (bytes_eq a) (sym to) ∙ sym other)

-- a name that changes is taken: a and b are the new name and the old one
pub taken_given : (l : Lookup) (used : List Name) (w : Word) (x made a b : Name) → x ≡ w.text → IsFresh (kept_names l used) x made →
    a ≡ made → b ≡ x → false ≡ bytes_eq a b → given_name l used w ≡ Err (NameTaken x)
taken_given l used w x made a b e f from to other =
    ap (λ y. if is_taken (kept_names l used) y then Err (NameTaken y) else Ok y) (sym e)
    ∙ ap (λ b. if b then Err (NameTaken x) else Ok x) (taken-or (kept_names l used) x made (is_taken (kept_names l used) x) refl f (differ made x a b from to other))
