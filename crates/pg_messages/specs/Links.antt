-- What a link reads and writes, over any service.
use Rattle.std.specs.Prelude.{◌≡◌, ◌⊎◌, ℕ, false, ◌<◌, List, [], ◌∷◌, ◌++◌, length, take, Option, Some, None, ⊤}
use Rattle.std.specs.List.{list_any}
use Rattle.std.specs.Io.KnownBytes.{Consumes, Appends, IsAtEnd}
use Rattle.pg_messages.specs.Paths.{Verb}
use Rattle.pg_messages.specs.Replies.{Said, reply_bytes}
use Rattle.pg_messages.specs.Messages.{Ask, What, asks, refused, fatal, Message, End, AreMessages, Begin, IsNext}

-- how a service goes from what it holds to what it holds afterwards, by a request and its reply
abbrev pub Service : Type 0 → Type 1
Service S = S → Ask → Said → S → Type 0

-- the reply to one message: a request is handed to the service, and a refusal leaves it as it is
abbrev pub Answers : {S : Type 0} → Service S → S → What → Said → S → Type 0
Answers step old (asks ask) said new = step old ask said new
Answers step old (refused refusal allow) said new = (said ≡ refusal) × (new ≡ old)
Answers step old (fatal refusal) said new = (said ≡ refusal) × (new ≡ old)

-- the replies to messages in order, each handed over once
abbrev pub AnswersAll : {S : Type 0} → Service S → S → List Message → List Said → S → Type 0
AnswersAll step old [] [] new = new ≡ old
AnswersAll {S} step old (m ∷ ms) (said ∷ rest) new = (mid : S) × Answers step old m.what said mid × AnswersAll step mid ms rest new
AnswersAll step old [] (said ∷ rest) new = ⊥
AnswersAll step old (m ∷ ms) [] new = ⊥

-- the method that a refusal allows
abbrev pub allow_of : What → Option Verb
allow_of (asks ask) = None
allow_of (refused said allow) = allow
allow_of (fatal said) = None

-- the bytes of the replies to these messages
abbrev pub bytes_of : List Message → List Said → List ℕ
bytes_of [] replies = []
bytes_of (m ∷ ms) [] = []
bytes_of (m ∷ ms) (said ∷ replies) = reply_bytes said (allow_of m.what) m.closes ++ bytes_of ms replies

-- how serving a link ended
pub data LinkEnd : Type 0 where
  ended : End → LinkEnd
  read_fault write_fault memory : LinkEnd

-- where a connection stands: what its reads gave, the messages answered so far, their replies written whole, and the bytes behind them
pub record Going {S : Type 0} (step : Service S) (old new : S) (left left_now written written_now : Option (List ℕ))
    (number : ℕ) (rest : List ℕ) : Type 0 where
  pub input : List ℕ
  pub took : Consumes left left_now input
  pub messages : List Message
  pub split : Begin 0 input messages number rest
  pub replies : List Said
  pub answered : AnswersAll step old messages replies new
  pub wrote : Appends written written_now (bytes_of messages replies)

-- every message of the input was answered, and every reply written whole
pub record Whole {S : Type 0} (step : Service S) (old new : S) (left left_now written written_now : Option (List ℕ)) (end : End) : Type 0 where
  pub input : List ℕ
  pub took : Consumes left left_now input
  pub messages : List Message
  pub split : AreMessages input messages end
  pub replies : List Said
  pub answered : AnswersAll step old messages replies new
  pub wrote : Appends written written_now (bytes_of messages replies)

-- a proper prefix of the text was written
abbrev pub WrotePart : Option (List ℕ) → Option (List ℕ) → List ℕ → Type 0
WrotePart old new text = (n : ℕ) × (n < length text) × Appends old new (take n text)

-- one message more was answered, and a proper prefix of its reply written
pub record PartWritten {S : Type 0} (step : Service S) (old new : S) (left left_now written written_now : Option (List ℕ)) : Type 0 where
  pub number : ℕ
  pub rest : List ℕ
  pub mid : S
  pub written_mid : Option (List ℕ)
  pub going : Going step old mid left left_now written written_mid number rest
  pub message : Message
  pub is_next : IsNext number rest (Some message)
  pub said : Said
  pub answered : Answers step mid message.what said new
  pub part : WrotePart written_mid written_now (reply_bytes said (allow_of message.what) message.closes)

-- some first messages were answered, and all their replies written whole
pub record Stopped {S : Type 0} (step : Service S) (old new : S) (left left_now written written_now : Option (List ℕ)) : Type 0 where
  pub number : ℕ
  pub rest : List ℕ
  pub going : Going step old new left left_now written written_now number rest

-- nothing is left to read of bytes that were told
abbrev pub IsEmptied : Option (List ℕ) → Option (List ℕ) → Type 0
IsEmptied None left_now = ⊤
IsEmptied (Some bytes) left_now = IsAtEnd left_now

-- where no message ended the connection, nothing is left to read
abbrev pub IsReadOut : List Message → Option (List ℕ) → Option (List ℕ) → Type 0
IsReadOut messages left left_now = list_any (λ m. m.closes) messages ≡ false → IsEmptied left left_now

-- serving a link, by its end
abbrev pub ServesLink : {S : Type 0} → Service S → S → S → Option (List ℕ) → Option (List ℕ) → Option (List ℕ) → Option (List ℕ)
    → Type 0 → Type 0 → LinkEnd → Type 0
ServesLink step old new left left_now written written_now read_failed write_failed (ended end) =
    (all : Whole step old new left left_now written written_now end) × IsReadOut all.messages left left_now
ServesLink step old new left left_now written written_now read_failed write_failed read_fault =
    ((end : End) × Whole step old new left left_now written written_now end) × read_failed
ServesLink step old new left left_now written written_now read_failed write_failed write_fault =
    PartWritten step old new left left_now written written_now × write_failed
ServesLink step old new left left_now written written_now read_failed write_failed memory =
    PartWritten step old new left left_now written written_now ⊎ Stopped step old new left left_now written written_now
