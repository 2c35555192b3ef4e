-- What messages stand for.
use Rattle.std.specs.Prelude.{◌≡◌, ◌<◌, ◌≤◌, ◌+◌, ℕ, List, length, Some, None, codes, ⊤}
use Rattle.httparse.specs.Grammar.{RequestHead}
use Rattle.pg_messages.specs.Messages as messages
use Rattle.pg_messages.specs.Replies.{in_json}
use Rattle.pg_messages.specs.Paths.{verb_of}
use Rattle.pg_paths.specs.View.{verb_view, route_view}
use Rattle.pg_wire.specs.View.{ask_of}
use Rattle.pg_next.specs.declared.message.Refusal.{Refusal}
use Rattle.pg_next.specs.declared.message.Refusal.TheVariants.{HeadLimit, Head, Length, Coding, TooLong, NoRoute, NotItsVerb}
use Rattle.pg_next.specs.declared.message.What.{What}
use Rattle.pg_next.specs.declared.message.What.TheVariants.{Asks, Refused}
use Rattle.pg_next.specs.declared.message.Message as told
use Rattle.pg_next.specs.declared.next.Next.{Next}
use Rattle.pg_next.specs.declared.next.Next.TheVariants as nexts

abbrev pub refusal_view : Refusal → messages.What
refusal_view HeadLimit = messages.fatal (in_json 431 (codes "{\"error\":\"head-limit\"}"))
refusal_view Head = messages.fatal (in_json 400 (codes "{\"error\":\"head\"}"))
refusal_view Length = messages.fatal (in_json 400 (codes "{\"error\":\"length\"}"))
refusal_view Coding = messages.fatal (in_json 501 (codes "{\"error\":\"transfer-coding\"}"))
refusal_view (TooLong digits) = messages.fatal (in_json 413 (messages.too_long_body digits.now))
refusal_view NoRoute = messages.refused (in_json 404 (codes "{\"error\":\"route\"}")) None
refusal_view (NotItsVerb verb) = messages.refused (in_json 405 (codes "{\"error\":\"method\"}")) (Some (verb_view verb))

abbrev pub what_view : What → messages.What
what_view (Asks request) = messages.asks (ask_of request)
what_view (Refused refusal) = refusal_view refusal

-- a request for the service has the verb of its route
abbrev pub IsRouted : What → Type 0
IsRouted (Asks request) = verb_view request.method ≡ verb_of (route_view request.route)
IsRouted (Refused refusal) = ⊤

abbrev pub message_view : told.Message → messages.Message
message_view m = record { what = what_view m.what; size = m.size; closes = m.closes }

abbrev pub AsksRouted : Next → Type 0
AsksRouted (nexts.Message m) = IsRouted m.what
AsksRouted (nexts.Wants size) = ⊤

-- the message at the front of the bytes, or so many bytes decide it at the earliest
abbrev pub IsNextTold : ℕ → List ℕ → Next → Type 0
IsNextTold number bytes (nexts.Message m) = messages.IsNext number bytes (Some (message_view m))
IsNextTold number bytes (nexts.Wants size) = messages.WaitsFor number bytes size

-- the message by its head and a body of so many bytes, or that many are wanting
abbrev pub IsBodied : ℕ → ℕ → List ℕ → RequestHead → ℕ → Next → Type 0
IsBodied number size rest h most (nexts.Message m) = Some (message_view m) ≡ messages.with_body number h size rest most
IsBodied number size rest h most (nexts.Wants wanted) = (length rest < most) × (wanted ≡ size + most)

-- the message by its head, or so many bytes of a body are wanting
abbrev pub IsTold : ℕ → ℕ → List ℕ → RequestHead → Next → Type 0
IsTold number size rest h (nexts.Message m) = Some (message_view m) ≡ messages.of_head number size rest (Some h)
IsTold number size rest h (nexts.Wants wanted) = (most : ℕ) × (most ≤ 65536) × (length rest < most) × (wanted ≡ size + most)
    × ((later : List ℕ) → messages.of_head number size later (Some h) ≡ messages.with_body number h size later most)
