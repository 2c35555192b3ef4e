-- What holds of every connection's messages.
use Rattle.std.specs.Prelude.{◌≡◌, ◌≤◌, ◌<◌, ℕ, true, false, List, ◌++◌, length, Some, None}
use Rattle.std.specs.List.{list_any}
use Rattle.pg_messages.specs.Messages.{Message, IsNext, End, AreMessages}

-- more bytes change nothing of a message that is decided
abbrev pub StaysLaw : Type 0
StaysLaw = (k : ℕ) (bytes more : List ℕ) (m : Message) → IsNext k bytes (Some m) → IsNext k (bytes ++ more) (Some m)

-- a decided message lies in its bytes
abbrev pub WithinLaw : Type 0
WithinLaw = (k : ℕ) (bytes : List ℕ) (m : Message) → IsNext k bytes (Some m) → m.size ≤ length bytes

-- so many bytes decide a message
abbrev pub DecidedLaw : Type 0
DecidedLaw = (k : ℕ) (bytes : List ℕ) → IsNext k bytes None → length bytes < 81920

-- the thousandth message is the last
abbrev pub EndsLaw : Type 0
EndsLaw = (k : ℕ) (bytes : List ℕ) (m : Message) → IsNext k bytes (Some m) → m.closes ≡ false → k ≡ 999 → ⊥

-- an input has one list of messages and one end
abbrev pub OneLaw : Type 0
OneLaw = (bytes : List ℕ) (ms ns : List Message) (e f : End) → AreMessages bytes ms e → AreMessages bytes ns f → (ms ≡ ns) × (e ≡ f)

-- what stands behind the last message of a connection changes nothing
abbrev pub LastLaw : Type 0
LastLaw = (bytes more : List ℕ) (ms : List Message) (e : End) → AreMessages bytes ms e
    → list_any (λ m. m.closes) ms ≡ true → AreMessages (bytes ++ more) ms e
