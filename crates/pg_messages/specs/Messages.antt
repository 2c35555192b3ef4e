-- The messages of a connection's whole input.
use Rattle.std.specs.Prelude.{◌≡◌, ℕ, ◌+◌, ◌<◌, ◌≤◌, Bool, true, false, ◌||◌, ◌==◌, List, [], ◌∷◌, ◌++◌, length, take, drop, map, Option, Some, None, nat_lt, if◌then◌else◌, codes}
use Rattle.std.specs.List.{before_first, list_any}
use Rattle.std.specs.Char.{to_ascii_lowercase}
use Rattle.std.specs.Str.{is_utf8, bytes_eq}
use Rattle.std.specs.Str.Parse.{digits_value}
use Rattle.httparse.specs.Grammar.{RequestHead, Field, field_value}
use Rattle.pg_messages.specs.Head.{Scan, open_head, over_limit, ended, blank_len, head_scan, IsHead}
use Rattle.pg_messages.specs.Paths.{Verb, Route, verb_of, verb_word, is_digits, route_of}
use Rattle.pg_messages.specs.Replies.{Said, in_json}

-- ---- one message

-- a request as a service gets it; the pass stands where there is exactly one field of it, and that is a text
pub record Ask : Type 0 where
  pub route : Route
  pub pass : Option (List ℕ)
  pub body : List ℕ

-- a request; a refusal that its head alone, or its path or method, tells; the last two leave the connection open
pub data What : Type 0 where
  asks : Ask → What
  refused : Said → Option Verb → What
  fatal : Said → What

-- a message, how many bytes it has, and whether its reply says that the connection ends
pub record Message : Type 0 where
  pub what : What
  pub size : ℕ
  pub closes : Bool

abbrev pub same_name : List ℕ → List ℕ → Bool
same_name a b = bytes_eq (map to_ascii_lowercase a) (map to_ascii_lowercase b)

-- the values of the fields of a name, in order
abbrev pub values_of : List ℕ → List Field → List (List ℕ)
values_of name [] = []
values_of name (f ∷ fields) = if same_name f.name name then field_value f ∷ values_of name fields else values_of name fields

-- the digits of Content-Length, `0` where it doesn't stand, and None where it is no length
abbrev pub length_digits : List (List ℕ) → Option (List ℕ)
length_digits [] = Some (codes "0")
length_digits (digits ∷ []) = if is_digits digits then Some digits else None
length_digits (digits ∷ more ∷ rest) = None

abbrev pub one_text : List (List ℕ) → Option (List ℕ)
one_text [] = None
one_text (text ∷ []) = if is_utf8 text then Some text else None
one_text (text ∷ more ∷ rest) = None

-- the connection ends after a message with this head, which is number k from 0
abbrev pub is_last : ℕ → RequestHead → Bool
is_last k h =
    (h.minor == 0) || bytes_eq h.method (codes "HEAD") || (k == 999)
    || list_any (λ value. same_name value (codes "close")) (values_of (codes "connection") h.fields)

abbrev pub fatal_message : ℕ → ℕ → List ℕ → Message
fatal_message status size body = record { what = fatal (in_json status body); size = size; closes = true }

-- the path decides, and then the method
abbrev pub what_of_route : RequestHead → List ℕ → Option Route → What
what_of_route h body None = refused (in_json 404 (codes "{\"error\":\"route\"}")) None
what_of_route h body (Some route) =
    if bytes_eq h.method (verb_word (verb_of route))
    then asks (record { route = route; pass = one_text (values_of (codes "proofgame-pass") h.fields); body = body })
    else refused (in_json 405 (codes "{\"error\":\"method\"}")) (Some (verb_of route))

abbrev pub what_of : RequestHead → List ℕ → What
what_of h body = what_of_route h body (route_of (before_first (λ b. b == 63) h.target))

-- the body of so many bytes, where it has come; `rest` is what stands behind the head
abbrev pub with_body : ℕ → RequestHead → ℕ → List ℕ → ℕ → Option Message
with_body k h head_size rest n =
    if nat_lt (length rest) n then None
    else Some (record { what = what_of h (take n rest); size = head_size + n; closes = is_last k h })

abbrev pub too_long_body : List ℕ → List ℕ
too_long_body digits = codes "{\"error\":\"length-limit\",\"length\":\"" ++ (digits ++ codes "\"}")

-- the body has its length's bytes, and at most 65,536
abbrev pub with_length : ℕ → RequestHead → ℕ → List ℕ → List ℕ → Option Message
with_length k h head_size rest digits =
    if nat_lt 65536 (digits_value 10 digits) then Some (fatal_message 413 head_size (too_long_body digits))
    else with_body k h head_size rest (digits_value 10 digits)

abbrev pub with_lengths : ℕ → RequestHead → ℕ → List ℕ → Option (List ℕ) → Option Message
with_lengths k h head_size rest None = Some (fatal_message 400 head_size (codes "{\"error\":\"length\"}"))
with_lengths k h head_size rest (Some digits) =
    if nat_lt 0 (length (values_of (codes "transfer-encoding") h.fields))
    then Some (fatal_message 501 head_size (codes "{\"error\":\"transfer-coding\"}"))
    else with_length k h head_size rest digits

-- the message whose head was read so, where its body has come
abbrev pub of_head : ℕ → ℕ → List ℕ → Option RequestHead → Option Message
of_head k head_size rest None = Some (fatal_message 400 head_size (codes "{\"error\":\"head\"}"))
of_head k head_size rest (Some h) = with_lengths k h head_size rest (length_digits (values_of (codes "content-length") h.fields))

abbrev pub IsNextAt : ℕ → List ℕ → Scan → Option Message → Type 0
IsNextAt k bytes open_head next = next ≡ None
IsNextAt k bytes over_limit next = next ≡ Some (fatal_message 431 0 (codes "{\"error\":\"head-limit\"}"))
IsNextAt k bytes (ended blank n) next =
    (head : Option RequestHead) × IsHead (take n (drop blank bytes)) head
    × (next ≡ of_head k (blank + n) (drop (blank + n) bytes) head)

-- the message at the front of the bytes, number k from 0; None where they end before it is decided
abbrev pub IsNext : ℕ → List ℕ → Option Message → Type 0
IsNext k bytes next = IsNextAt k bytes (head_scan bytes) next

-- ---- all of them

-- the connection was answered to its end; it was closed after a refusal of this status; the input ended after so many bytes of a message
pub data End : Type 0 where
  done : End
  closed truncated : ℕ → End

abbrev pub end_of_rest : ℕ → ℕ → End
end_of_rest n size = if n == size then done else truncated size

-- the bytes end before another message is decided
abbrev pub IsEnd : ℕ → List ℕ → End → Type 0
IsEnd k bytes end = IsNext k bytes None × (end ≡ end_of_rest (blank_len bytes) (length bytes))

-- how a connection ends by its last message
abbrev pub end_after : What → End
end_after (fatal said) = closed said.status
end_after what = done

-- what comes after a message: nothing, where the connection ends by it
abbrev pub After : What → Bool → List Message → End → Type 0 → Type 0
After what true later end goes_on = (later ≡ []) × (end ≡ end_after what)
After what false later end goes_on = goes_on

-- the bytes are these messages, the first of which is number k, and end so
abbrev pub AreMessagesFrom : ℕ → List ℕ → List Message → End → Type 0
AreMessagesFrom k bytes [] end = IsEnd k bytes end
AreMessagesFrom k bytes (m ∷ later) end =
    IsNext k bytes (Some m) × After m.what m.closes later end (AreMessagesFrom (k + 1) (drop m.size bytes) later end)

-- the messages of a connection's whole input, and its end
abbrev pub AreMessages : List ℕ → List Message → End → Type 0
AreMessages = AreMessagesFrom 0

-- the bytes begin with these messages, none of which ends the connection; number n comes next, at `rest`
abbrev pub Begin : ℕ → List ℕ → List Message → ℕ → List ℕ → Type 0
Begin k bytes [] n rest = (n ≡ k) × (rest ≡ bytes)
Begin k bytes (m ∷ later) n rest =
    IsNext k bytes (Some m) × (m.closes ≡ false) × Begin (k + 1) (drop m.size bytes) later n rest

-- fewer bytes than `size` in all leave the message at the front undecided
abbrev pub WaitsFor : ℕ → List ℕ → ℕ → Type 0
WaitsFor k bytes size =
    (length bytes < size) × (size ≤ 81920) × ((more : List ℕ) → length bytes + length more < size → IsNext k (bytes ++ more) None)
