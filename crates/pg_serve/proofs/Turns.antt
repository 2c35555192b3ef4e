-- A turn of serving a link: a message that is answered, or bytes that are read.
use Rattle.std.proofs.Common.{◌≡◌, ◌≤◌, ◌<◌, ◌+◌, ◌-◌, ◌*◌, ℕ, true, false, List, [], ◌++◌, length, drop, Option, Some, None, Ok, sym as flip, ◌∙◌, ap, subst, refl, arith}
use Rattle.std.proofs.lemmas.List.{length-append, length-drop, drop-drop}
use Rattle.std.specs.Io.KnownBytes.{Consumes}
use Rattle.pg_base.specs.Outside.{Rose}
use Rattle.pg_link.specs.Filling.{Came}
use Rattle.pg_messages.specs.Head.{blank_len}
use Rattle.pg_messages.specs.Messages.{Message, End, IsNext, WaitsFor, end_of_rest, end_after}
use Rattle.pg_messages.specs.Links as links
use Rattle.pg_messages.specs.Links.{Service, Going, Whole, Stopped, PartWritten, IsEmptied, IsReadOut, ServesLink}
use Rattle.pg_messages.proofs.Going.{going-first, going-read, going-answer, whole-end, whole-last}
use Rattle.pg_messages.proofs.Laws.{within, ends}
use Rattle.pg_serve.specs.Serving.{Replied}

-- ---- a message

pub on-answered : {S T : Type 0} (step : Service S)
    → (old mid new : S) (left left_mid left_now written written_mid written_now : Option (List ℕ)) (n : ℕ) (rest rest_now : List ℕ) (m : Message) (x : T)
    → Going step old mid left left_mid written written_mid n rest → left_now ≡ left_mid → IsNext n rest (Some m) → m.closes ≡ false
    → Replied step mid new written_mid written_now m (Ok x) → rest_now ≡ drop m.size rest
    → Going step old new left left_now written written_now (n + 1) rest_now
on-answered step old mid new left left_mid left_now written written_mid written_now n rest rest_now m x g same is open_ replied behind =
    going-answer step old mid new left left_mid left_now written written_mid written_now n rest rest_now m replied.said g same is open_ replied.answered replied.sent behind

pub last-answered : {S T : Type 0} (step : Service S)
    → (old mid new : S) (left left_mid left_now written written_mid written_now : Option (List ℕ)) (n : ℕ) (rest : List ℕ) (m : Message) (x : T)
    → Going step old mid left left_mid written written_mid n rest → left_now ≡ left_mid → IsNext n rest (Some m) → m.closes ≡ true
    → Replied step mid new written_mid written_now m (Ok x)
    → (all : Whole step old new left left_now written written_now (end_after m.what)) × IsReadOut all.messages left left_now
last-answered step old mid new left left_mid left_now written written_mid written_now n rest m x g same is shut replied =
    whole-last step old mid new left left_mid left_now written written_mid written_now n rest m replied.said g same is shut replied.answered replied.sent

-- the bytes behind `start`, cut from a slice of them
pub behind : (start : ℕ) (rest slice items : List ℕ) → rest ≡ drop start slice → slice ≡ items → rest ≡ drop start items
behind start rest slice items cut is = cut ∙ ap (drop start) is

-- the bytes behind a message that stands behind `start`
pub drop-more : (start n : ℕ) (bytes : List ℕ) → drop (start + n) bytes ≡ drop n (drop start bytes)
drop-more start n bytes = flip (drop-drop n start bytes)

pub message-within : (k start : ℕ) (bytes : List ℕ) (m : Message) → IsNext k (drop start bytes) (Some m) → start ≤ length bytes → start + m.size ≤ length bytes
message-within k start bytes m is le = let lies = within k (drop start bytes) m is in omega (arith, lies, length-drop start bytes)

pub few-more : (k : ℕ) (bytes : List ℕ) (m : Message) → IsNext k bytes (Some m) → m.closes ≡ false → k ≤ 999 → k + 1 ≤ 999
few-more k bytes m is open_ le = let other : k ≡ 999 → ⊥ = ends k bytes m is open_ in omega arith

pub smaller : (k size a b : ℕ) → k + 1 ≤ 999 → (999 - (k + 1)) * 81921 + (81920 - (size - b)) < (999 - k) * 81921 + (81920 - (size - a))
smaller k size a b le = omega arith

-- ---- bytes that were read

pub on-read : {S : Type 0} (step : Service S)
    → (old new : S) (left left_mid left_now written written_mid written_now : Option (List ℕ)) (n : ℕ) (rest bytes : List ℕ)
    → Going step old new left left_mid written written_mid n rest → Came left_mid left_now rest bytes → written_now ≡ written_mid
    → Going step old new left left_now written written_now n bytes
on-read step old new left left_mid left_now written written_mid written_now n rest bytes g came same =
    subst (Going step old new left left_now written written_now n) (flip came.2) (going-read step old new left left_mid left_now written written_mid written_now n rest came.0 g came.1 same)

undecided : (n wanted : ℕ) (rest bytes : List ℕ) (left left_now : Option (List ℕ)) → WaitsFor n rest wanted → Came left left_now rest bytes → length bytes < wanted → IsNext n bytes None
undecided n wanted rest bytes left left_now waits came short =
    let few : length rest + length came.0 < wanted = omega (arith, short, ap length came.2, length-append rest came.0) in
    subst (λ b. IsNext n b None) (flip came.2) (waits.2 came.0 few)

-- no message is decided by all that was read
pub read-whole : {S : Type 0} (step : Service S)
    → (old new : S) (left left_mid left_now written written_mid written_now : Option (List ℕ)) (n wanted : ℕ) (rest bytes : List ℕ)
    → Going step old new left left_mid written written_mid n rest → WaitsFor n rest wanted → Came left_mid left_now rest bytes → length bytes < wanted → written_now ≡ written_mid
    → Whole step old new left left_now written written_now (end_of_rest (blank_len bytes) (length bytes))
read-whole step old new left left_mid left_now written written_mid written_now n wanted rest bytes g waits came short same =
    whole-end step old new left left_now written written_now n bytes (on-read step old new left left_mid left_now written written_mid written_now n rest bytes g came same)
    (undecided n wanted rest bytes left_mid left_now waits came short)

emptied-first : (left mid now : Option (List ℕ)) (input : List ℕ) → Consumes left mid input → IsEmptied mid now → IsEmptied left now
emptied-first None mid now input h e = tt
emptied-first (Some xs) None now input h e = absurd h
emptied-first (Some xs) (Some ys) now input h e = e

pub read-out : {S : Type 0} (step : Service S)
    → (old new : S) (left left_mid left_now written written_mid written_now : Option (List ℕ)) (n wanted : ℕ) (rest bytes : List ℕ)
    → Going step old new left left_mid written written_mid n rest → WaitsFor n rest wanted → Came left_mid left_now rest bytes → length bytes < wanted → written_now ≡ written_mid
    → IsEmptied left_mid left_now
    → (all : Whole step old new left left_now written written_now (end_of_rest (blank_len bytes) (length bytes))) × IsReadOut all.messages left left_now
read-out step old new left left_mid left_now written written_mid written_now n wanted rest bytes g waits came short same empty = (
  read-whole step old new left left_mid left_now written written_mid written_now n wanted rest bytes g waits came short same,
  λ none. emptied-first left left_mid left_now g.input g.took empty,
)

-- a piece that was read found no memory
pub read-lost : {S : Type 0} (step : Service S)
    → (old new : S) (left left_mid left_now written written_mid written_now : Option (List ℕ)) (n : ℕ) (rest piece : List ℕ)
    → Going step old new left left_mid written written_mid n rest → Consumes left_mid left_now piece → written_now ≡ written_mid
    → Stopped step old new left left_now written written_now
read-lost step old new left left_mid left_now written written_mid written_now n rest piece g took same =
    record { number = n; rest = rest ++ piece; going = going-read step old new left left_mid left_now written written_mid written_now n rest piece g took same }

pub nothing-read : {S : Type 0} (step : Service S) (s : S) (left written : Option (List ℕ)) → Stopped step s s left left written written
nothing-read step s left written = record { number = 0; rest = []; going = going-first step s left written [] refl }

-- ---- how it ended

pub served : {S : Type 0} (step : Service S) (old new : S) (left left_now written written_now : Option (List ℕ)) (read_failed write_failed : Type 0) (told : links.LinkEnd) (end : End)
    → told ≡ links.ended end → ((all : Whole step old new left left_now written written_now end) × IsReadOut all.messages left left_now)
    → ServesLink step old new left left_now written written_now read_failed write_failed told
served step old new left left_now written written_now read_failed write_failed told end is h =
    subst (ServesLink step old new left left_now written written_now read_failed write_failed) (flip is) h

-- how it ended by what the buffer held
pub inside : (told : links.LinkEnd) (held bytes : List ℕ) → told ≡ links.ended (end_of_rest (blank_len held) (length held)) → held ≡ bytes → told ≡ links.ended (end_of_rest (blank_len bytes) (length bytes))
inside told held bytes is same = is ∙ ap (λ b. links.ended (end_of_rest (blank_len b) (length b))) same

pub rose-before : (a b c : ℕ) → a ≤ b → Rose b c → Rose a c
rose-before a b c le h = omega arith
