-- A connection goes on by a piece that is read, and by a message that is answered.
use Rattle.std.proofs.Common.{◌≡◌, ℕ, ◌+◌, Bool, true, false, ◌||◌, List, [], ◌∷◌, ◌++◌, length, drop, Option, Some, None, sym as flip, ◌∙◌, ap, subst, refl, append_assoc}
use Rattle.std.proofs.lemmas.List.{drop-append-le, append-nil}
use Rattle.std.specs.List.{list_any}
use Rattle.std.specs.Io.KnownBytes.{Consumes, Appends, Keeps}
use Rattle.pg_messages.specs.Head.{blank_len}
use Rattle.pg_messages.specs.Replies.{Said, reply_bytes}
use Rattle.pg_messages.specs.Messages.{Message, IsNext, end_after, end_of_rest, After, AreMessagesFrom, Begin}
use Rattle.pg_messages.specs.Links.{Service, Answers, AnswersAll, allow_of, bytes_of, Going, Whole, PartWritten, WrotePart, IsReadOut}
use Rattle.pg_messages.proofs.Laws.{stays, within}

-- more bytes come behind those that are left
begin-more : (k : ℕ) (bytes : List ℕ) (ms : List Message) (n : ℕ) (rest more : List ℕ)
    → Begin k bytes ms n rest → Begin k (bytes ++ more) ms n (rest ++ more)
begin-more k bytes [] n rest more h = (h.0, ap (λ r. r ++ more) h.1)
begin-more k bytes (m ∷ ms) n rest more h =
    let e : drop m.size (bytes ++ more) ≡ drop m.size bytes ++ more = drop-append-le m.size bytes more (within k bytes m h.0) in
    let P : List ℕ → Type 0 = λ d. Begin (k + 1) d ms n (rest ++ more) in
    (stays k bytes more m h.0, h.1, subst P (flip e) (begin-more (k + 1) (drop m.size bytes) ms n rest more h.2))

-- one message more
begin-next : (k : ℕ) (bytes : List ℕ) (ms : List Message) (n : ℕ) (rest : List ℕ) (m : Message)
    → Begin k bytes ms n rest → IsNext n rest (Some m) → m.closes ≡ false → Begin k bytes (ms ++ m ∷ []) (n + 1) (drop m.size rest)
begin-next k bytes [] n rest m h is open_ =
    (subst (λ b. IsNext k b (Some m)) h.1 (subst (λ a. IsNext a rest (Some m)) h.0 is), open_, (ap (λ x. x + 1) h.0, ap (drop m.size) h.1))
begin-next k bytes (x ∷ ms) n rest m h is open_ =
    (h.0, h.1, begin-next (k + 1) (drop x.size bytes) ms n rest m h.2 is open_)

-- the messages are all of them, where no other is decided
begin-end : (k : ℕ) (bytes : List ℕ) (ms : List Message) (n : ℕ) (rest : List ℕ)
    → Begin k bytes ms n rest → IsNext n rest None → AreMessagesFrom k bytes ms (end_of_rest (blank_len rest) (length rest))
begin-end k bytes [] n rest h is =
    (subst (λ b. IsNext k b None) h.1 (subst (λ a. IsNext a rest None) h.0 is), ap (λ r. end_of_rest (blank_len r) (length r)) h.1)
begin-end k bytes (x ∷ ms) n rest h is =
    let end = end_of_rest (blank_len rest) (length rest) in
    let P : Bool → Type 0 = λ b. After x.what b ms end (AreMessagesFrom (k + 1) (drop x.size bytes) ms end) in
    (h.0, subst P (flip h.1) (begin-end (k + 1) (drop x.size bytes) ms n rest h.2 is))

-- they are all, where the last one ends the connection
begin-last : (k : ℕ) (bytes : List ℕ) (ms : List Message) (n : ℕ) (rest : List ℕ) (m : Message)
    → Begin k bytes ms n rest → IsNext n rest (Some m) → m.closes ≡ true → AreMessagesFrom k bytes (ms ++ m ∷ []) (end_after m.what)
begin-last k bytes [] n rest m h is shut =
    let end = end_after m.what in
    let P : Bool → Type 0 = λ b. After m.what b [] end (AreMessagesFrom (k + 1) (drop m.size bytes) [] end) in
    (subst (λ b. IsNext k b (Some m)) h.1 (subst (λ a. IsNext a rest (Some m)) h.0 is), subst P (flip shut) (refl, refl))
begin-last k bytes (x ∷ ms) n rest m h is shut =
    let end = end_after m.what in
    let P : Bool → Type 0 = λ b. After x.what b (ms ++ m ∷ []) end (AreMessagesFrom (k + 1) (drop x.size bytes) (ms ++ m ∷ []) end) in
    (h.0, subst P (flip h.1) (begin-last (k + 1) (drop x.size bytes) ms n rest m h.2 is shut))

-- the last message ends the connection
closes-last : (ms : List Message) (m : Message) → m.closes ≡ true → list_any (λ x. x.closes) (ms ++ m ∷ []) ≡ true
closes-last [] m shut = let P : Bool → Type 0 = λ b. (b || false) ≡ true in subst P (flip shut) refl
closes-last (x ∷ ms) m shut = (elim (x.closes) as (λ v. (v || list_any (λ y. y.closes) (ms ++ m ∷ [])) ≡ true) [ true ↦ refl | false ↦ closes-last ms m shut ])

-- one reply more
answers-next : {S : Type 0} (step : Service S) (old mid new : S) (ms : List Message) (rs : List Said) (m : Message) (r : Said)
    → AnswersAll step old ms rs mid → Answers step mid m.what r new → AnswersAll step old (ms ++ m ∷ []) (rs ++ r ∷ []) new
answers-next step old mid new [] [] m r h is = (new, subst (λ s. Answers step s m.what r new) h is, refl)
answers-next step old mid new [] (q ∷ rs) m r h is = absurd h
answers-next step old mid new (x ∷ ms) [] m r h is = absurd h
answers-next step old mid new (x ∷ ms) (q ∷ rs) m r h is = (h.0, h.1, answers-next step h.0 mid new ms rs m r h.2 is)

bytes-next : {S : Type 0} (step : Service S) (old mid : S) (ms : List Message) (rs : List Said) (m : Message) (r : Said) → AnswersAll step old ms rs mid
    → bytes_of (ms ++ m ∷ []) (rs ++ r ∷ []) ≡ bytes_of ms rs ++ reply_bytes r (allow_of m.what) m.closes
bytes-next step old mid [] [] m r h = append-nil (reply_bytes r (allow_of m.what) m.closes)
bytes-next step old mid [] (q ∷ rs) m r h = absurd h
bytes-next step old mid (x ∷ ms) [] m r h = absurd h
bytes-next step old mid (x ∷ ms) (q ∷ rs) m r h =
    ap (λ t. reply_bytes q (allow_of x.what) x.closes ++ t) (bytes-next step h.0 mid ms rs m r h.2)
    ∙ flip (append_assoc (reply_bytes q (allow_of x.what) x.closes) (bytes_of ms rs) (reply_bytes r (allow_of m.what) m.closes))

pub appends-then : (old mid new : Option (List ℕ)) (a b : List ℕ) → Appends old mid a → Appends mid new b → Appends old new (a ++ b)
appends-then None mid new a b h k = tt
appends-then (Some xs) None new a b h k = absurd h
appends-then (Some xs) (Some ys) None a b h k = absurd k
appends-then (Some xs) (Some ys) (Some zs) a b h k = k ∙ ap (λ r. r ++ b) h ∙ append_assoc xs a b

pub consumes-then : (old mid new : Option (List ℕ)) (a b : List ℕ) → Consumes old mid a → Consumes mid new b → Consumes old new (a ++ b)
consumes-then None mid new a b h k = tt
consumes-then (Some xs) None new a b h k = absurd h
consumes-then (Some xs) (Some ys) None a b h k = absurd k
consumes-then (Some xs) (Some ys) (Some zs) a b h k = h ∙ ap (λ r. a ++ r) k ∙ flip (append_assoc a b zs)

pub consumes-none : (left : Option (List ℕ)) → Consumes left left []
consumes-none None = tt
consumes-none (Some xs) = refl

pub appends-none : (written : Option (List ℕ)) → Appends written written []
appends-none None = tt
appends-none (Some xs) = flip (append-nil xs)

pub consumes-keeps : (old mid new : Option (List ℕ)) (a : List ℕ) → Consumes old mid a → Keeps mid new → Consumes old new a
consumes-keeps None mid new a h k = tt
consumes-keeps (Some xs) None new a h k = absurd h
consumes-keeps (Some xs) (Some ys) None a h k = absurd k
consumes-keeps (Some xs) (Some ys) (Some zs) a h k = h ∙ ap (λ r. a ++ r) (flip k)

-- ---- where a connection stands

-- nothing was read and nothing written
pub going-first : {S : Type 0} (step : Service S) (s : S) (left written : Option (List ℕ)) (rest : List ℕ) → rest ≡ []
    → Going step s s left left written written 0 rest
going-first step s left written rest e =
    record { input = []; took = consumes-none left; messages = []; split = (refl, e); replies = []; answered = refl; wrote = appends-none written }

-- a piece was read, and nothing written
pub going-read : {S : Type 0} (step : Service S)
    → (old new : S) (left mid left_now written written_mid written_now : Option (List ℕ)) (n : ℕ) (rest piece : List ℕ)
    → Going step old new left mid written written_mid n rest → Consumes mid left_now piece → written_now ≡ written_mid
    → Going step old new left left_now written written_now n (rest ++ piece)
going-read step old new left mid left_now written written_mid written_now n rest piece g took same =
    record {
      input = g.input ++ piece;
      took = consumes-then left mid left_now g.input piece g.took took;
      messages = g.messages;
      split = begin-more 0 g.input g.messages n rest piece g.split;
      replies = g.replies;
      answered = g.answered;
      wrote = subst (λ w. Appends written w (bytes_of g.messages g.replies)) (flip same) g.wrote;
    }

-- a reply was written, and nothing read
pub going-beside : {S : Type 0} (step : Service S)
    → (old new : S) (left left_mid left_now written written_now : Option (List ℕ)) (n : ℕ) (rest : List ℕ)
    → Going step old new left left_mid written written_now n rest → left_now ≡ left_mid
    → Going step old new left left_now written written_now n rest
going-beside step old new left left_mid left_now written written_now n rest g same =
    record { input = g.input; took = subst (λ x. Consumes left x g.input) (flip same) g.took; messages = g.messages; split = g.split; replies = g.replies; answered = g.answered; wrote = g.wrote }

-- a message was answered that doesn't end the connection, and its reply written
pub going-answer : {S : Type 0} (step : Service S)
    → (old mid new : S) (left left_mid left_now written written_mid written_now : Option (List ℕ)) (n : ℕ) (rest rest_now : List ℕ) (m : Message) (said : Said)
    → Going step old mid left left_mid written written_mid n rest → left_now ≡ left_mid → IsNext n rest (Some m) → m.closes ≡ false
    → Answers step mid m.what said new → Appends written_mid written_now (reply_bytes said (allow_of m.what) m.closes) → rest_now ≡ drop m.size rest
    → Going step old new left left_now written written_now (n + 1) rest_now
going-answer step old mid new left left_mid left_now written written_mid written_now n rest rest_now m said g same is open_ answered wrote behind =
    record {
      input = g.input;
      took = subst (λ x. Consumes left x g.input) (flip same) g.took;
      messages = g.messages ++ m ∷ [];
      split = subst (λ r. Begin 0 g.input (g.messages ++ m ∷ []) (n + 1) r) (flip behind) (begin-next 0 g.input g.messages n rest m g.split is open_);
      replies = g.replies ++ said ∷ [];
      answered = answers-next step old mid new g.messages g.replies m said g.answered answered;
      wrote = subst (Appends written written_now) (flip (bytes-next step old mid g.messages g.replies m said g.answered))
          (appends-then written written_mid written_now (bytes_of g.messages g.replies) (reply_bytes said (allow_of m.what) m.closes) g.wrote wrote);
    }

-- no other message is decided
pub whole-end : {S : Type 0} (step : Service S)
    → (old new : S) (left left_now written written_now : Option (List ℕ)) (n : ℕ) (rest : List ℕ)
    → Going step old new left left_now written written_now n rest → IsNext n rest None
    → Whole step old new left left_now written written_now (end_of_rest (blank_len rest) (length rest))
whole-end step old new left left_now written written_now n rest g is =
    record {
      input = g.input;
      took = g.took;
      messages = g.messages;
      split = begin-end 0 g.input g.messages n rest g.split is;
      replies = g.replies;
      answered = g.answered;
      wrote = g.wrote;
    }

-- the message that ends the connection was answered
pub whole-last : {S : Type 0} (step : Service S)
    → (old mid new : S) (left left_mid left_now written written_mid written_now : Option (List ℕ)) (n : ℕ) (rest : List ℕ) (m : Message) (said : Said)
    → Going step old mid left left_mid written written_mid n rest → left_now ≡ left_mid → IsNext n rest (Some m) → m.closes ≡ true
    → Answers step mid m.what said new → Appends written_mid written_now (reply_bytes said (allow_of m.what) m.closes)
    → (all : Whole step old new left left_now written written_now (end_after m.what)) × IsReadOut all.messages left left_now
whole-last step old mid new left left_mid left_now written written_mid written_now n rest m said g same is shut answered wrote = (
  record {
    input = g.input;
    took = subst (λ x. Consumes left x g.input) (flip same) g.took;
    messages = g.messages ++ m ∷ [];
    split = begin-last 0 g.input g.messages n rest m g.split is shut;
    replies = g.replies ++ said ∷ [];
    answered = answers-next step old mid new g.messages g.replies m said g.answered answered;
    wrote = subst (Appends written written_now) (flip (bytes-next step old mid g.messages g.replies m said g.answered))
        (appends-then written written_mid written_now (bytes_of g.messages g.replies) (reply_bytes said (allow_of m.what) m.closes) g.wrote wrote);
  },
  λ none. let all = closes-last g.messages m shut in absurd (apart all none),
)
  where
    apart : {b : Bool} → b ≡ true → b ≡ false → ⊥
    apart x y = cc

-- its reply was written in part
pub part-written : {S : Type 0} (step : Service S)
    → (old mid new : S) (left left_mid left_now written written_mid written_now : Option (List ℕ)) (n : ℕ) (rest : List ℕ) (m : Message) (said : Said)
    → Going step old mid left left_mid written written_mid n rest → left_now ≡ left_mid → IsNext n rest (Some m)
    → Answers step mid m.what said new → WrotePart written_mid written_now (reply_bytes said (allow_of m.what) m.closes)
    → PartWritten step old new left left_now written written_now
part-written step old mid new left left_mid left_now written written_mid written_now n rest m said g same is answered part =
    record {
      number = n;
      rest = rest;
      mid = mid;
      written_mid = written_mid;
      going = going-beside step old mid left left_mid left_now written written_mid n rest g same;
      message = m;
      is_next = is;
      said = said;
      answered = answered;
      part = part;
    }
