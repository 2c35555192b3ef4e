-- The fields of a head, by the places of their names and values.
use Rattle.std.proofs.Common.{◌≡◌, true, false, cond, List, [], ◌∷◌, ℕ, map, take, ◌∙◌, ap, refl}
use Rattle.httparse.specs.Grammar.{Field, field_value}
use Rattle.httparse.specs.Spans.{name_and_value, header_bytes, AreFieldsAt}
use Rattle.httparse.specs.declared.spans.HeaderSpan.{HeaderSpan}
use Rattle.pg_messages.specs.Messages.{values_of, same_name}
use Rattle.pg_heads.specs.Told.{named}

named-values : (name : List ℕ) (fs : List Field) → named name (map name_and_value fs) ≡ values_of name fs
named-values name [] = refl
named-values name (f ∷ fs) =
    (elim (same_name f.name name) as (λ v. cond v (field_value f ∷ named name (map name_and_value fs)) (named name (map name_and_value fs)) ≡ cond v (field_value f ∷ values_of name fs) (values_of name fs)) [
      | true ↦ ap (λ r. field_value f ∷ r) (named-values name fs)
      | false ↦ named-values name fs
    ])

pub values-at : (name bytes : List ℕ) (headers slice fields : List HeaderSpan) (n : ℕ) (fs : List Field) → slice ≡ headers → fields ≡ take n slice
    → AreFieldsAt bytes headers n fs → named name (map (header_bytes bytes) fields) ≡ values_of name fs
values-at name bytes headers slice fields n fs same front are =
    ap (λ (hs : List HeaderSpan). named name (map (header_bytes bytes) hs)) (front ∙ ap (take n) same) ∙ ap (named name) are ∙ named-values name fs
