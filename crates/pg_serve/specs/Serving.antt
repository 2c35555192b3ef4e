-- What answering a message did, and how serving a link ended.
use Rattle.std.specs.Prelude.{◌≡◌, ℕ, Bool, List, Option, Result, Ok, Err}
use Rattle.std.specs.Io.KnownBytes.{Appends}
use Rattle.pg_base.specs.declared.outside.OutFault.{OutFault}
use Rattle.pg_messages.specs.Messages.{What, asks, refused, fatal, Message, done, closed, truncated}
use Rattle.pg_messages.specs.Replies.{Said, reply_bytes}
use Rattle.pg_messages.specs.Links as links
use Rattle.pg_messages.specs.Links.{Service, Answers, allow_of, WrotePart}
use Rattle.pg_serve.specs.declared.serving.LinkEnd.{LinkEnd}
use Rattle.pg_serve.specs.declared.serving.LinkEnd.TheVariants.{Done, Closed, ReadFault, WriteFault, Truncated, OutOfMemory}

abbrev pub end_view : LinkEnd → links.LinkEnd
end_view Done = links.ended done
end_view (Closed status) = links.ended (closed status)
end_view ReadFault = links.read_fault
end_view WriteFault = links.write_fault
end_view (Truncated bytes) = links.ended (truncated bytes)
end_view OutOfMemory = links.memory

-- the text was written, or after a fault a proper prefix of it
abbrev pub Sends : {T : Type 0} → Option (List ℕ) → Option (List ℕ) → List ℕ → Result T OutFault → Type 0
Sends written written_now text (Ok x) = Appends written written_now text
Sends written written_now text (Err fault) = WrotePart written written_now text

-- this is the refusal's reply
abbrev pub Refuses : What → Said → Type 0
Refuses (asks ask) said = ⊥
Refuses (refused refusal allow) said = said ≡ refusal
Refuses (fatal refusal) said = said ≡ refusal

-- a refusal's reply was written, or after a fault a proper prefix of it
abbrev pub SendsRefusal : {T : Type 0} → What → Bool → Option (List ℕ) → Option (List ℕ) → Result T OutFault → Type 0
SendsRefusal what closes written written_now result =
    (said : Said) × Refuses what said × Sends written written_now (reply_bytes said (allow_of what) closes) result

-- a message was answered, and its reply written, or after a fault a proper prefix of it
pub record Replied {S T : Type 0} (step : Service S) (old new : S) (written written_now : Option (List ℕ)) (message : Message)
    (result : Result T OutFault) : Type 0 where
  pub said : Said
  pub answered : Answers step old message.what said new
  pub sent : Sends written written_now (reply_bytes said (allow_of message.what) message.closes) result
