-- What was written of a reply.
use Rattle.std.proofs.Common.{◌≡◌, ◌<◌, ℕ, Bool, List, length, Option, None, Result, sym as flip, subst, refl, arith}
use Rattle.pg_base.specs.declared.outside.OutFault.{OutFault}
use Rattle.pg_messages.specs.Paths.{Verb}
use Rattle.pg_messages.specs.Replies.{Said, reply_bytes}
use Rattle.pg_messages.specs.Links.{Service, Answers, allow_of, WrotePart}
use Rattle.pg_messages.proofs.Going.{appends-none}
use Rattle.pg_wire.specs.declared.service.Request.{Request}
use Rattle.pg_wire.specs.View.{ask_of}
use Rattle.pg_next.specs.View.{refusal_view, what_view, message_view}
use Rattle.pg_next.specs.declared.message.Message as told
use Rattle.pg_next.specs.declared.message.What.TheVariants.{Asks}
use Rattle.pg_next.specs.declared.message.Refusal.{Refusal}
use Rattle.pg_next.specs.declared.message.Refusal.TheVariants.{HeadLimit, Head, Length, Coding, TooLong, NoRoute, NotItsVerb}
use Rattle.pg_serve.specs.Serving.{Refuses, Sends, Replied}

-- each reply has bytes
reply-some : (said : Said) (allow : Option Verb) (closes : Bool) → 0 < length (reply_bytes said allow closes)
unfolding reply_bytes
reply-some said allow closes = omega arith

pub nothing-sent : (written : Option (List ℕ)) (said : Said) (allow : Option Verb) (closes : Bool) → WrotePart written written (reply_bytes said allow closes)
nothing-sent written said allow closes = (0, reply-some said allow closes, appends-none written)

-- each refusal has its reply
pub refuses-all : (why : Refusal) → (said : Said) × Refuses (refusal_view why) said
refuses-all HeadLimit = (_, refl)
refuses-all Head = (_, refl)
refuses-all Length = (_, refl)
refuses-all Coding = (_, refl)
refuses-all (TooLong digits) = (_, refl)
refuses-all NoRoute = (_, refl)
refuses-all (NotItsVerb verb) = (_, refl)

-- a request was answered
pub asked : {S T : Type 0} (step : Service S) (old new : S) (written written_now : Option (List ℕ)) (m : told.Message) (request : Request) (said : Said) (result : Result T OutFault)
    → m.what ≡ Asks request → step old (ask_of request) said new → Sends written written_now (reply_bytes said None m.closes) result
    → Replied step old new written written_now (message_view m) result
asked step old new written written_now m request said result is answered sent =
    record {
      said = said;
      answered = subst (λ w. Answers step old (what_view w) said new) (flip is) answered;
      sent = subst (λ w. Sends written written_now (reply_bytes said (allow_of (what_view w)) m.closes) result) (flip is) sent;
    }
