-- What reading a head tells.
use Rattle.std.specs.Prelude.{◌≡◌, ◌≤◌, ℕ, List, [], ◌∷◌, length, Option, Some, None, nat_lt, if◌then◌else◌, codes}
use Rattle.std.specs.List.{list_any}
use Rattle.httparse.specs.Grammar.{RequestHead}
use Rattle.pg_messages.specs.Head.{IsWholeHead}
use Rattle.pg_messages.specs.Messages.{values_of, same_name}
use Rattle.pg_heads.specs.declared.read.Found.{Found}
use Rattle.pg_heads.specs.declared.read.Found.TheVariants.{Absent, One, Many}
use Rattle.pg_heads.specs.declared.read.Head.{Head}

-- the values of the names that are this one, case aside
abbrev pub named : List ℕ → List (List ℕ × List ℕ) → List (List ℕ)
named name [] = []
named name (p ∷ pairs) = if same_name p.0 name then p.1 ∷ named name pairs else named name pairs

-- none, one or more of them
abbrev pub IsFound : Found → List (List ℕ) → Type 0
IsFound Absent values = values ≡ []
IsFound (One value) values = values ≡ value.now ∷ []
IsFound Many values = 2 ≤ length values

-- a head is what was told of it
pub record Tells (told : Head) (h : RequestHead) : Type 0 where
  pub method : told.method.now ≡ h.method
  pub target : told.target.now ≡ h.target
  pub minor : told.minor ≡ h.minor
  pub size : IsFound told.length (values_of (codes "content-length") h.fields)
  pub coded : told.coded ≡ nat_lt 0 (length (values_of (codes "transfer-encoding") h.fields))
  pub closes : told.closes ≡ list_any (λ value. same_name value (codes "close")) (values_of (codes "connection") h.fields)
  pub pass : IsFound told.pass (values_of (codes "proofgame-pass") h.fields)

-- the bytes are a head, which was told, or they are none
abbrev pub IsRead : List ℕ → Option Head → Type 0
IsRead bytes None = (h : RequestHead) → IsWholeHead bytes h → ⊥
IsRead bytes (Some told) = (h : RequestHead) × IsWholeHead bytes h × Tells told h
