-- A hint that is begun can be finished.
use Rattle.std.proofs.Common.{◌≡◌, ℕ, Bool, true, false, List, [], ◌∷◌, refl, sym, ap, subst, Option, Some, None, Ok, Err, if◌then◌else◌, IsTrue, ◌⊎◌, inl, inr}
use Rattle.std.specs.Prelude.{is_some, codes}
use Rattle.pg_base.specs.declared.token.Sign.TheVariants as sign
use Rattle.pg_base.specs.declared.token.TokenKind.TheVariants as token
use Rattle.pg_base.specs.declared.token.Wanted.{Wanted}
use Rattle.pg_base.specs.declared.token.Wanted.TheVariants as wanted
use Rattle.pg_base.specs.Tokens.{Word}
use Rattle.pg_script.specs.declared.fault.ScriptFault.TheVariants.{Expected}
use Rattle.pg_script.specs.declared.mark.Mark.{Mark}
use Rattle.pg_script.specs.declared.mark.Mark.TheVariants.{Open, Assign, Text}
use Rattle.pg_script.specs.declared.hint.Flags.{Flags}
use Rattle.pg_script.specs.declared.hint.HintOption.{HintOption}
use Rattle.pg_script.specs.declared.hint.HintOption.TheVariants as option
use Rattle.pg_script.specs.Data.{Remark}
use Rattle.pg_script.specs.Marks.{mark}
use Rattle.pg_script.specs.Lines.{Read, and_then, after_close, ended, with_option, expected_or, option_of, value_of, option_at, value_at, after_assign, flag_at, maybe_flag, is_given, text_at, hint_at}
use Rattle.pg_script.proofs.Found.{inj, and_then_ok}
use Rattle.pg_script.proofs.Standing.{stands_map, Inline, Reader, Fine, Ends, HeadAnswer, headed, by_head, goes_on, same_ends, Fit, Takes, Reaches, IsSome, Whatever, PieceAnswer, Piece, HeadPiece, piece_head, piece_on, chained, takes_join, Follows, then_by, Leads, then_piece}
use Rattle.pg_script.proofs.Closings.{sign_word, name_word, close_word, close_reader, close_begin, close_piece}
use Rattle.pg_script.proofs.Finishes.{ended_reader, ended_ends}

-- ---- an option and its value

-- one token, of which something is known or not
abbrev chosen : {V : Type 0} → Wanted → ℕ → Option V → Reader (V × List Word)
chosen what at o room n ws = and_then (expected_or what at o) (λ v. Ok (v, ws))

choice-head : {V : Type 0} (what : Wanted) (o : Option V) (at end : ℕ) (ws : List Word) → HeadPiece Whatever (λ a b. a ≡ b) (chosen what at o) at end ws (and_then (expected_or what at o) (λ v. Ok (v, ws)))
choice-head what None at end ws = inl refl
choice-head what (Some v) at end ws = ([], refl, λ n tail fit. (0, v, refl, λ room le. refl))

same-leads : {X Y : Type 0} (T : Y → Y → Type 0) (g : X → Reader (Y × List Word)) (begin : List Word) → Inline begin → ((x : X) (end : ℕ) (tail : List Word) → Takes (g x) (λ y. Unit {0}) end begin tail)
    → Leads Whatever Whatever (λ x y. x ≡ y) T g
same-leads {X} T g begin i f = record {
  begin = begin;
  fits = λ tail. tt;
  inline = i;
  fine = λ x end tail q. f x end tail;
  steady = λ x y z end front tail r t. let P : X → Type 0 = λ v. Takes (g v) (T z) end front tail in subst P r t;
  loose = λ x y end front tail r t. let P : X → Type 0 = λ v. Takes (g v) (λ u. Unit {0}) end front tail in subst P r t;
}

abbrev value_reader : Reader (Bool × List Word)
value_reader room n ws = value_at n ws

abbrev true_word : Word
true_word = name_word (codes "true")

value-takes : (end : ℕ) (tail : List Word) → Takes value_reader (λ x. Unit {0}) end (true_word ∷ []) tail
value-takes end tail = (0, true, tt, λ room le. refl)

value-begin : Reaches Whatever value_reader []
value-begin = (true_word ∷ [], (refl, refl, tt), λ n tail s. value-takes n tail)

value-piece : (room : ℕ) → Piece IsSome Whatever (λ a b. a ≡ b) room value_reader
value-piece room end [] = (refl, value-begin)
value-piece room end (w ∷ ws) = piece_head Whatever (λ a b. a ≡ b) value_reader end w ws (and_then (expected_or wanted.TruthValue w.at (value_of w)) (λ v. Ok (v, ws))) value-begin (choice-head wanted.TruthValue (value_of w) w.at end ws)

-- the value and the closing parenthesis
abbrev valued : Flags → HintOption → Reader (Flags × List Word)
valued flags o = chained value_reader (λ v. close_reader (with_option o v flags))

value-lead : (flags : Flags) (o : HintOption) → Leads Whatever Whatever (λ a b. a ≡ b) (λ a b. a ≡ b) (λ v. close_reader (with_option o v flags))
value-lead flags o = same-leads (λ a b. a ≡ b) (λ v. close_reader (with_option o v flags)) (close_word ∷ []) (refl, refl, tt) (λ v end tail. close_begin (with_option o v flags) end tail)

valued-piece : (flags : Flags) (o : HintOption) (room : ℕ) → Piece IsSome Whatever (λ a b. a ≡ b) room (valued flags o)
valued-piece flags o room =
    then_piece IsSome Whatever Whatever (λ a b. a ≡ b) (λ a b. a ≡ b) value_reader (λ v. close_reader (with_option o v flags)) (value-lead flags o) room (value-piece room) (λ v. close_piece (λ a b. a ≡ b) (with_option o v flags) room refl)

valued-takes : (flags : Flags) (o : HintOption) (end : ℕ) (tail : List Word) → Takes (valued flags o) (λ x. Unit {0}) end (true_word ∷ close_word ∷ []) tail
valued-takes flags o end tail =
    takes_join value_reader (λ v. close_reader (with_option o v flags)) (λ x. Unit {0}) (λ x. Unit {0}) end (true_word ∷ []) (close_word ∷ []) tail (value-takes end (close_word ∷ tail)) (λ v u. close_begin (with_option o v flags) end tail)

-- `:=`, and what stands behind it
abbrev assigned : Flags → HintOption → Reader (Flags × List Word)
assigned flags o room n ws = and_then (after_assign n ws) (λ behind. valued flags o room n behind)

abbrev assign_mark : ℕ → Mark → List Word → Read (List Word)
assign_mark at m ws = elim m [ Assign ↦ Ok ws | _ ↦ Err (Expected at wanted.Assign) ]

abbrev assign_word : Word
assign_word = sign_word sign.Assign

assigned-takes : (flags : Flags) (o : HintOption) (end : ℕ) (tail : List Word) → Takes (assigned flags o) (λ x. Unit {0}) end (assign_word ∷ true_word ∷ close_word ∷ []) tail
assigned-takes flags o end tail = let t = valued-takes flags o end tail in (t.0, t.1, tt, λ room le. t.3 room le)

assigned-begin : (flags : Flags) (o : HintOption) → Reaches Whatever (assigned flags o) []
assigned-begin flags o = (assign_word ∷ true_word ∷ close_word ∷ [], (refl, refl, (refl, refl, (refl, refl, tt))), λ n tail s. assigned-takes flags o n tail)

assigned-head : (flags : Flags) (o : HintOption) (room : ℕ) (m : Mark) (at end : ℕ) (ws : List Word)
    → HeadPiece Whatever (λ a b. a ≡ b) (λ r n zs. and_then (assign_mark at m zs) (λ behind. valued flags o r n behind)) at end ws (and_then (assign_mark at m ws) (λ behind. valued flags o room end behind))
assigned-head flags o room Assign at end ws = piece_on IsSome Whatever (λ a b. a ≡ b) (valued flags o) at end ws (valued flags o room end ws) (valued-piece flags o room end ws)
assigned-head flags o room m at end ws = inl refl

assigned-piece : (flags : Flags) (o : HintOption) (room : ℕ) → Piece IsSome Whatever (λ a b. a ≡ b) room (assigned flags o)
assigned-piece flags o room end [] = (refl, assigned-begin flags o)
assigned-piece flags o room end (w ∷ ws) =
    piece_head Whatever (λ a b. a ≡ b) (assigned flags o) end w ws (and_then (assign_mark w.at (mark w) ws) (λ behind. valued flags o room end behind)) (assigned-begin flags o) (assigned-head flags o room (mark w) w.at end ws)

-- one of the options was not given yet
abbrev Spare : Flags → Type 0
Spare flags = (is_some flags.hidden ≡ false) ⊎ (is_some flags.strict ≡ false)

abbrev option_reader : Flags → Reader (HintOption × List Word)
option_reader flags room n ws = option_at flags n ws

option-begin : (flags : Flags) → Spare flags → Reaches Whatever (option_reader flags) []
option-begin flags (inl h) =
    (name_word (codes "hidden") ∷ [], (refl, refl, tt), λ n tail s. (0, option.Hidden, tt, λ room le. ap (λ c. chosen wanted.HintOption 0 (if c then None else Some option.Hidden) 0 n tail) h))
option-begin flags (inr h) =
    (name_word (codes "strict") ∷ [], (refl, refl, tt), λ n tail s. (0, option.Strict, tt, λ room le. ap (λ c. chosen wanted.HintOption 0 (if c then None else Some option.Strict) 0 n tail) h))

option-piece : (flags : Flags) (room : ℕ) → Spare flags → Piece IsSome Whatever (λ a b. a ≡ b) room (option_reader flags)
option-piece flags room s end [] = (refl, option-begin flags s)
option-piece flags room s end (w ∷ ws) =
    piece_head Whatever (λ a b. a ≡ b) (option_reader flags) end w ws (and_then (expected_or wanted.HintOption w.at (option_of flags w)) (λ v. Ok (v, ws))) (option-begin flags s) (choice-head wanted.HintOption (option_of flags w) w.at end ws)

flag-piece : (flags : Flags) (room : ℕ) → Spare flags → Piece IsSome Whatever (λ a b. a ≡ b) room (chained (option_reader flags) (assigned flags))
flag-piece flags room s =
    then_piece IsSome Whatever Whatever (λ a b. a ≡ b) (λ a b. a ≡ b) (option_reader flags) (assigned flags)
    (same-leads (λ a b. a ≡ b) (assigned flags) (assign_word ∷ true_word ∷ close_word ∷ []) (refl, refl, (refl, refl, (refl, refl, tt))) (λ o end tail. assigned-takes flags o end tail)) room
    (option-piece flags room s) (λ o. assigned-piece flags o room)

-- ---- the options

abbrev not_open : Mark → Bool
not_open Open = false
not_open m = true

abbrev Plain : List Word → Type 0
Plain [] = Unit {0}
Plain (w ∷ ws) = IsTrue (not_open (mark w))

plain-head : (rest tail : List Word) → Plain rest → Fit Plain rest tail → Plain tail
plain-head rest tail s (inl h) = h
plain-head [] [] s (inr h) = s
plain-head [] (w ∷ ws) s (inr h) = absurd h
plain-head (v ∷ vs) [] s (inr h) = absurd h
plain-head (v ∷ vs) (w ∷ ws) s (inr h) = let P : Word → Type 0 = λ z. IsTrue (not_open (mark z)) in subst P h s

abbrev maybe_reader : Flags → Reader (Flags × List Word)
maybe_reader flags room n ws = maybe_flag flags n ws

abbrev flag_mark : Flags → ℕ → Mark → Word → List Word → Read (Flags × List Word)
flag_mark flags end m w ws = elim m [ Open ↦ flag_at flags end ws | _ ↦ Ok (flags, w ∷ ws) ]

mark-plain : (flags : Flags) (end : ℕ) (m : Mark) (w : Word) (ws : List Word) → IsTrue (not_open m) → flag_mark flags end m w ws ≡ Ok (flags, w ∷ ws)
mark-plain flags end Open w ws h = let x : false ≡ true = h in cc
mark-plain flags end m w ws h = refl

plain-read : (flags : Flags) (end : ℕ) (tail : List Word) → Plain tail → maybe_flag flags end tail ≡ Ok (flags, tail)
plain-read flags end [] s = refl
plain-read flags end (w ∷ ws) s = mark-plain flags end (mark w) w ws s

maybe-begin : (flags : Flags) → Reaches Plain (maybe_reader flags) []
maybe-begin flags = ([], tt, λ n tail s. (0, flags, tt, λ room le. plain-read flags n tail s))

loose-fit : (F : List Word → Type 0) (rest tail : List Word) → Fit F rest tail → Fit Whatever rest tail
loose-fit F rest tail (inl h) = inl tt
loose-fit F rest tail (inr h) = inr h

loose-head : {X : Type 0} (F : List Word → Type 0) (R : X → X → Type 0) (f : Reader (X × List Word)) (at end : ℕ) (ws : List Word) (r : Read (X × List Word)) → HeadPiece Whatever R f at end ws r → HeadPiece F R f at end ws r
loose-head F R f at end ws (Ok p) h = (h.0, h.1, λ n tail fit. h.2 n tail (loose-fit F p.1 tail fit))
loose-head F R f at end ws (Err e) (inl h) = inl h
loose-head F R f at end ws (Err e) (inr h) = inr (stands_map (Reaches Whatever f) (Reaches F f) end ws e (λ fr c. (c.0, c.1, λ n tail s. c.2 n tail tt)) h)

maybe-head : (flags : Flags) (room : ℕ) (m : Mark) (w : Word) (end : ℕ) (ws : List Word) → Spare flags
    → HeadPiece Plain (λ a b. a ≡ b) (λ r n zs. flag_mark flags n m w zs) w.at end ws (flag_mark flags end m w ws) ⊎ (IsTrue (not_open m) × (flag_mark flags end m w ws ≡ Ok (flags, w ∷ ws)))
maybe-head flags room Open w end ws s =
    inl (loose-head Plain (λ a b. a ≡ b) (chained (option_reader flags) (assigned flags)) w.at end ws (flag_at flags end ws)
    (piece_on IsSome Whatever (λ a b. a ≡ b) (chained (option_reader flags) (assigned flags)) w.at end ws (flag_at flags end ws) (flag-piece flags room s end ws)))
maybe-head flags room m w end ws s = inr (refl, refl)

any-some : {X : Type 0} (F : List Word → Type 0) (R : X → X → Type 0) (f : Reader (X × List Word)) (end : ℕ) (ws : List Word) (r : Read (X × List Word)) → PieceAnswer IsSome F R f end ws r → PieceAnswer Whatever F R f end ws r
any-some F R f end ws (Ok p) h = (h.0, tt, h.2, h.3)
any-some F R f end ws (Err e) h = h

maybe-by : (flags : Flags) (w : Word) (end : ℕ) (ws : List Word) (r : Read (Flags × List Word)) → HeadPiece Plain (λ a b. a ≡ b) (headed (maybe_reader flags) w) w.at end ws r ⊎ (IsTrue (not_open (mark w)) × (r ≡ Ok (flags, w ∷ ws)))
    → PieceAnswer Whatever Plain (λ a b. a ≡ b) (maybe_reader flags) end (w ∷ ws) r
maybe-by flags w end ws r (inl h) = any-some Plain (λ a b. a ≡ b) (maybe_reader flags) end (w ∷ ws) r (piece_head Plain (λ a b. a ≡ b) (maybe_reader flags) end w ws r (maybe-begin flags) h)
maybe-by flags w end ws r (inr h) =
    let P : Read (Flags × List Word) → Type 0 = PieceAnswer Whatever Plain (λ a b. a ≡ b) (maybe_reader flags) end (w ∷ ws) in
    subst P (sym h.1) ([], tt, refl, λ n tail fit. (0, flags, refl, λ room le. plain-read flags n tail (plain-head (w ∷ ws) tail h.0 fit)))

maybe-piece : (flags : Flags) (room : ℕ) → Spare flags → Piece Whatever Plain (λ a b. a ≡ b) room (maybe_reader flags)
maybe-piece flags room s end [] = ([], tt, refl, λ n tail fit. (0, flags, refl, λ r le. plain-read flags n tail (plain-head [] tail tt fit)))
maybe-piece flags room s end (w ∷ ws) = maybe-by flags w end ws (flag_mark flags end (mark w) w ws) (maybe-head flags room (mark w) w end ws s)

-- ---- the text

abbrev text_reader : ℕ → Flags → Reader Remark
text_reader at flags room n ws = text_at at flags n ws

abbrev text_word : Word
text_word = record { kind = token.Text; text = []; at = 0; column = 0; first = false }

abbrev remark_of : ℕ → Flags → Word → Remark
remark_of at flags w = record { at = at; text = w.text; hidden = is_given flags.hidden; strict = is_given flags.strict }

text-fine : (at : ℕ) (flags : Flags) → Fine (text_reader at flags) (text_word ∷ [])
text-fine at flags = λ n. (0, remark_of at flags text_word, λ room le. refl)

abbrev text_mark : (at : ℕ) → Flags → Mark → Word → List Word → Read Remark
text_mark at flags m w ws = elim m [
  | Text ↦ ended (record { at = at; text = w.text; hidden = is_given flags.hidden; strict = is_given flags.strict }) ws
  | _ ↦ Err (Expected w.at wanted.Text)
]

text-head : (at : ℕ) (flags : Flags) (room : ℕ) (m : Mark) (w : Word) (end : ℕ) (ws : List Word) → HeadAnswer (λ r n zs. text_mark at flags m w zs) w.at end ws (text_mark at flags m w ws)
text-head at flags room Text w end ws = goes_on (ended_reader (remark_of at flags w)) w.at end ws (ended (remark_of at flags w) ws) (ended_ends (remark_of at flags w) room end ws)
text-head at flags room m w end ws = inl refl

text-ends : (at : ℕ) (flags : Flags) (room : ℕ) → Ends room (text_reader at flags)
text-ends at flags room end [] = (refl, (text_word ∷ [], (refl, refl, tt), text-fine at flags))
text-ends at flags room end (w ∷ ws) = by_head (text_reader at flags) end w ws (text_mark at flags (mark w) w ws) (text_word ∷ [], (refl, refl, tt), text-fine at flags) (text-head at flags room (mark w) w end ws)

-- ---- a hint

abbrev no_flags : Flags
no_flags = record { hidden = None; strict = None }

set-spare : (o : HintOption) (v : Bool) → Spare (with_option o v no_flags)
set-spare option.Hidden v = inr refl
set-spare option.Strict v = inl refl

flag-spare : (end : ℕ) (ws : List Word) (p : Flags × List Word) → flag_at no_flags end ws ≡ Ok p → Spare p.0
flag-spare end ws p h =
    let a = and_then_ok (option_at no_flags end ws) (λ o. and_then (after_assign end o.1) (λ behind. and_then (value_at end behind) (λ value. and_then (after_close end value.1) (λ rest. Ok (with_option o.0 value.0 no_flags, rest))))) p h in
    let b = and_then_ok (after_assign end a.0.1) (λ behind. and_then (value_at end behind) (λ value. and_then (after_close end value.1) (λ rest. Ok (with_option a.0.0 value.0 no_flags, rest)))) p a.2 in
    let c = and_then_ok (value_at end b.0) (λ value. and_then (after_close end value.1) (λ rest. Ok (with_option a.0.0 value.0 no_flags, rest))) p b.2 in
    let d = and_then_ok (after_close end c.0.1) (λ rest. Ok (with_option a.0.0 c.0.0 no_flags, rest)) p c.2 in
    let q : Flags × List Word = (with_option a.0.0 c.0.0 no_flags, d.0) in
    let P : Flags × List Word → Type 0 = λ z. Spare z.0 in
    subst P (inj q p d.2) (set-spare a.0.0 c.0.0)

mark-spare : (end : ℕ) (m : Mark) (w : Word) (ws : List Word) (p : Flags × List Word) → flag_mark no_flags end m w ws ≡ Ok p → Spare p.0
mark-spare end Open w ws p h = flag-spare end ws p h
mark-spare end m w ws p h = let q : Flags × List Word = (no_flags, w ∷ ws) in let P : Flags × List Word → Type 0 = λ z. Spare z.0 in subst P (inj q p h) (inl refl)

maybe-spare : (end : ℕ) (ws : List Word) (p : Flags × List Word) → maybe_flag no_flags end ws ≡ Ok p → Spare p.0
maybe-spare end [] p h = let q : Flags × List Word = (no_flags, []) in let P : Flags × List Word → Type 0 = λ z. Spare z.0 in subst P (inj q p h) (inl refl)
maybe-spare end (w ∷ ws) p h = mark-spare end (mark w) w ws p h

-- the second option, and the text
abbrev second : ℕ → Flags → Reader Remark
second at flags = chained (maybe_reader flags) (text_reader at)

second-fine : (at : ℕ) (flags : Flags) → Fine (second at flags) (text_word ∷ [])
second-fine at flags = λ n. (0, remark_of at flags text_word, λ room le. refl)

text-follows : (at : ℕ) → Follows Plain (λ a b. a ≡ b) (text_reader at)
text-follows at = record { begin = text_word ∷ []; fits = refl; inline = (refl, refl, tt); fine = λ x. text-fine at x; steady = λ x y ws r h. let P : Flags → Type 0 = λ z. Fine (text_reader at z) ws in subst P r h }

second-follows : (at : ℕ) → Follows Plain (λ a b. a ≡ b) (second at)
second-follows at = record { begin = text_word ∷ []; fits = refl; inline = (refl, refl, tt); fine = λ x. second-fine at x; steady = λ x y ws r h. let P : Flags → Type 0 = λ z. Fine (second at z) ws in subst P r h }

second-ends : (at : ℕ) (flags : Flags) (room : ℕ) → Spare flags → Ends room (second at flags)
second-ends at flags room s = λ end ws. then_by Whatever Plain (λ a b. a ≡ b) (maybe_reader flags) (text_reader at) (text-follows at) room end ws (maybe_flag flags end ws) (maybe-piece flags room s end ws) (λ p is. text-ends at p.0 room)

both-ends : (at room : ℕ) → Ends room (chained (maybe_reader no_flags) (second at))
both-ends at room =
    λ end ws. then_by Whatever Plain (λ a b. a ≡ b) (maybe_reader no_flags) (second at) (second-follows at) room end ws (maybe_flag no_flags end ws) (maybe-piece no_flags room (inl refl) end ws)
    (λ p is. second-ends at p.0 room (maybe-spare end ws p is))

regrouped : (at end : ℕ) (r : Read (Flags × List Word)) → and_then (and_then r (λ p. maybe_flag p.0 end p.1)) (λ p. text_at at p.0 end p.1) ≡ and_then r (λ p. and_then (maybe_flag p.0 end p.1) (λ q. text_at at q.0 end q.1))
regrouped at end (Ok p) = refl
regrouped at end (Err e) = refl

pub hint_ends : (at room : ℕ) → Ends room (λ r n ws. hint_at at n ws)
hint_ends at room = same_ends room (chained (maybe_reader no_flags) (second at)) (λ r n ws. hint_at at n ws) (λ r n ws. regrouped at n (maybe_flag no_flags n ws)) (both-ends at room)
