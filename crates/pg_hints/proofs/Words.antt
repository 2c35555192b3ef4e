-- The words of hints in a block that does not read.
use Rattle.std.proofs.Common.{◌≡◌, ◌^◌, ◌∙◌, ℕ, ◌+◌, ◌-◌, ◌<◌, ◌≤◌, Bool, true, false, List, [], ◌∷◌, ◌++◌, length, get_or, take, drop, Some, None, Result, Ok, Err, if◌then◌else◌, refl, sym, ap, subst, arith, add-one, append_assoc, nat_lt, nat_eq, ◌&&◌}
use Rattle.std.proofs.Math.Seq.{drop-cons}
use Rattle.std.proofs.lemmas.List.{map_more, map-append, take-append-drop}
use Rattle.std.proofs.lemmas.List.Elements.{All-from_recursion, recursion_from_All}
use Rattle.std.specs.List.{list_any, AllByRecursion}
use Rattle.std.specs.Str.{chars}
use Rattle.pg_base.specs.declared.token.Token.{Token}
use Rattle.pg_base.specs.Tokens.{Word, word}
use Rattle.pg_base.specs.Spans.{token_end, AreInOrder, AreTokens, IsTokenText}
use Rattle.pg_script.specs.declared.fault.ScriptFault.{ScriptFault}
use Rattle.pg_script.specs.declared.fault.ScriptFault.TheVariants.{TooLong}
use Rattle.pg_script.specs.Data.{Entry, entries_of}
use Rattle.pg_script.specs.View.{words}
use Rattle.pg_script.specs.Lines.{and_then, unless_fault}
use Rattle.pg_script.specs.Scripts.{entries_of_tokens, last_end, items_of}
use Rattle.pg_gametext.specs.Checks.{some_text, hints_of, hints_in_all, is_hint_word, hint_words}
use Rattle.pg_hints.specs.Counts.{left_of}
use Rattle.pg_hints.specs.Words.{word_hint, is_far, reads_hint}
use Rattle.pg_hints.proofs.Counts.{then_left, left_joined}

-- ---- one token after the other

one_word : (front : List Word) (w : Word) (ws : List Word) → hint_words front (w ∷ ws) ≡ word_hint front w ++ hint_words (front ++ w ∷ []) ws
one_word front w ws = cases (is_hint_word front w)
  where
    cases : (b : Bool) → (if b then w.at ∷ hint_words (front ++ w ∷ []) ws else hint_words (front ++ w ∷ []) ws) ≡ (if b then w.at ∷ [] else []) ++ hint_words (front ++ w ∷ []) ws
    cases true = refl
    cases false = refl

here : (ts : List Token) (i : ℕ) (d : Token) → i < length ts → words (drop i ts) ≡ word (get_or ts i d) ∷ words (drop (i + 1) ts)
here ts i d lt = ap words (drop-cons ts i d lt ∙ ap (λ k. get_or ts i d ∷ drop k ts) (sym (add-one i)))

pub turn : (ts front : List Token) (i left : ℕ) (d : Token) (r all : Result ℕ ℕ) → i < length ts
    → left_of left (hint_words (words (take i ts)) (words (drop i ts))) ≡ all → front ≡ take i ts → r ≡ left_of left (word_hint (words front) (word (get_or ts i d)))
    → then_left r (hint_words (words (take (i + 1) ts)) (words (drop (i + 1) ts))) ≡ all
turn ts front i left d r all lt before is own =
    let w = word (get_or ts i d) in
    let F = words (take i ts) in
    let more = words (drop (i + 1) ts) in
    ap (λ q. then_left q (hint_words (words (take (i + 1) ts)) more)) (own ∙ ap (λ fs. left_of left (word_hint (words fs) w)) is)
    ∙ ap (λ fs. then_left (left_of left (word_hint F w)) (hint_words fs more)) (map_more word ts i d lt)
    ∙ sym (left_joined left (word_hint F w) (hint_words (F ++ w ∷ []) more))
    ∙ sym (ap (left_of left) (ap (hint_words F) (here ts i d lt) ∙ one_word F w more))
    ∙ before

-- ---- a front of tokens, and a text behind it

abbrev IsText : Word → Type 0
IsText w = IsTokenText w.kind w.text

order_front : (at end : ℕ) (xs : List Word) (w : Word) (rest : List Word) → AreInOrder at end (xs ++ w ∷ rest) → AreInOrder at (token_end w) (xs ++ w ∷ [])
order_front at end [] w rest h = (h.0, omega arith)
order_front at end (x ∷ xs) w rest h = (h.0, order_front (token_end x) end xs w rest h.1)

texts_front : (xs : List Word) (w : Word) (rest : List Word) → AllByRecursion IsText (xs ++ w ∷ rest) → AllByRecursion IsText (xs ++ w ∷ [])
texts_front [] w rest h = (h.0, tt)
texts_front (x ∷ xs) w rest h = (h.0, texts_front xs w rest h.1)

front_tokens : (end : ℕ) (xs : List Word) (w : Word) (rest : List Word) → AreTokens end (xs ++ w ∷ rest) → AreTokens (token_end w) (xs ++ w ∷ [])
front_tokens end xs w rest h = record {
  in_order = order_front 0 end xs w rest h.in_order;
  texts = All-from_recursion IsText (xs ++ w ∷ []) (texts_front xs w rest (recursion_from_All IsText (xs ++ w ∷ rest) h.texts));
}

order_end : (at end : ℕ) (ws : List Word) → AreInOrder at end ws → at ≤ end
order_end at end [] h = h
order_end at end (w ∷ ws) h = omega (arith, h.0, order_end (token_end w) end ws h.1)

order_word : (at end : ℕ) (xs : List Word) (w : Word) (rest : List Word) → AreInOrder at end (xs ++ w ∷ rest) → token_end w ≤ end
order_word at end [] w rest h = order_end (token_end w) end rest h.1
order_word at end (x ∷ xs) w rest h = order_word (token_end x) end xs w rest h.1

-- the words of a list, at a token of it
at_token : (ts : List Token) (i : ℕ) (d : Token) → i < length ts → words ts ≡ words (take i ts) ++ word (get_or ts i d) ∷ words (drop (i + 1) ts)
at_token ts i d lt = ap words (sym (take-append-drop i ts)) ∙ map-append word (take i ts) (drop i ts) ∙ ap (λ zs. words (take i ts) ++ zs) (here ts i d lt)

pub tokens_at : (end : ℕ) (ts front : List Token) (i : ℕ) (d : Token) → i < length ts → front ≡ take i ts → AreTokens end (words ts)
    → AreTokens (token_end (word (get_or ts i d))) (words front ++ word (get_or ts i d) ∷ [])
tokens_at end ts front i d lt is h =
    let w = word (get_or ts i d) in
    subst (λ (fs : List Token). AreTokens (token_end w) (words fs ++ w ∷ [])) (sym is)
    (front_tokens end (words (take i ts)) w (words (drop (i + 1) ts)) (subst (AreTokens end) (at_token ts i d lt) h))

ends_at : (end : ℕ) (ts : List Token) (i : ℕ) (d : Token) → i < length ts → AreTokens end (words ts) → token_end (word (get_or ts i d)) ≤ end
ends_at end ts i d lt h =
    let w = word (get_or ts i d) in
    let g : AreTokens end (words (take i ts) ++ w ∷ words (drop (i + 1) ts)) = subst (AreTokens end) (at_token ts i d lt) h in
    order_word 0 end (words (take i ts)) w (words (drop (i + 1) ts)) g.in_order

order_more : (at : ℕ) (xs : List Word) (w : Word) → AreInOrder at (token_end w) (xs ++ w ∷ []) → AreInOrder at (token_end (some_text w)) (xs ++ w ∷ some_text w ∷ [])
order_more at [] w h = (h.0, (omega arith, omega arith))
order_more at (x ∷ xs) w h = (h.0, order_more (token_end x) xs w h.1)

text_is : (w : Word) → IsText (some_text w)
unfolding chars
text_is w = refl

texts_more : (xs : List Word) (w : Word) → AllByRecursion IsText (xs ++ w ∷ []) → AllByRecursion IsText (xs ++ w ∷ some_text w ∷ [])
texts_more [] w h = (h.0, (text_is w, tt))
texts_more (x ∷ xs) w h = (h.0, texts_more xs w h.1)

pub with_text : (xs : List Word) (w : Word) → AreTokens (token_end w) (xs ++ w ∷ []) → AreTokens (token_end (some_text w)) (xs ++ w ∷ some_text w ∷ [])
with_text xs w h = record {
  in_order = order_more 0 xs w h.in_order;
  texts = All-from_recursion IsText (xs ++ w ∷ some_text w ∷ []) (texts_more xs w (recursion_from_All IsText (xs ++ w ∷ []) h.texts));
}

-- ---- words too far from the first

last_text : (at : ℕ) (xs : List Word) (w : Word) → last_end at (xs ++ w ∷ some_text w ∷ []) ≡ token_end (some_text w)
last_text at [] w = refl
last_text at (x ∷ xs) w = last_text (token_end x) xs w

long_read : (from : Word) (ws all : List Word) (end : ℕ) (reached : ℕ) → last_end from.at (from ∷ ws) ≡ reached → nat_lt 16384 (reached - from.at) ≡ true
    → hints_of (items_of (from ∷ ws) end true) ≡ []
long_read from ws all end reached is far =
    ap (λ (b : Bool). hints_of (and_then (unless_fault (if b then Some (TooLong (from.at + 16384)) else None) (from ∷ ws)) (λ short. entries_of_tokens short end true)))
    (ap (λ n. nat_lt 16384 (n - from.at)) is ∙ far)

pub far_off : (front : List Word) (w : Word) → is_far front w ≡ true → false ≡ reads_hint front w
far_off [] w far = sym (ap (list_any (λ at. nat_eq at w.at)) (long_read w (some_text w ∷ []) [] (token_end (some_text w)) (token_end (some_text w)) refl far))
far_off (v ∷ vs) w far =
    sym (ap (list_any (λ at. nat_eq at w.at)) (long_read v (vs ++ w ∷ some_text w ∷ []) [] (token_end (some_text w)) (token_end (some_text w)) (last_text (token_end v) vs w) far))

-- ---- what was read

pub not_read : (front : List Word) (w : Word) (f : ScriptFault) → items_of (front ++ w ∷ some_text w ∷ []) (token_end (some_text w)) true ≡ Err f → false ≡ reads_hint front w
not_read front w f e = sym (ap (λ r. list_any (λ at. nat_eq at w.at) (hints_of r)) e)

pub read_is : (front ws : List Word) (w : Word) (n : ℕ) (es : List Entry) (b : Bool) → ws ≡ front ++ w ∷ some_text w ∷ [] → n ≡ token_end (some_text w) → items_of ws n true ≡ Ok es
    → b ≡ list_any (λ at. nat_eq at w.at) (hints_in_all (entries_of es)) → b ≡ reads_hint front w
read_is front ws w n es b ws_is n_is read is =
    is
    ∙ ap (λ r. list_any (λ at. nat_eq at w.at) (hints_of r)) (sym read)
    ∙ ap (λ us. list_any (λ at. nat_eq at w.at) (hints_of (items_of us n true))) ws_is
    ∙ ap (λ m. list_any (λ at. nat_eq at w.at) (hints_of (items_of (front ++ w ∷ some_text w ∷ []) m true))) n_is

pub end_is : (t s : Token) → word s ≡ some_text (word t) → s.at + 2 ≡ token_end (some_text (word t))
end_is t s is = ap (λ (v : Word). v.at + 2) is

pub words_are : (got front : List Token) (t s : Token) → got ≡ (front ++ t ∷ []) ++ s ∷ [] → word s ≡ some_text (word t) → words got ≡ words front ++ word t ∷ some_text (word t) ∷ []
words_are got front t s is text =
    ap words (is ∙ append_assoc front (t ∷ []) (s ∷ []))
    ∙ map-append word front (t ∷ s ∷ [])
    ∙ ap (λ (v : Word). words front ++ word t ∷ v ∷ []) text

pub tried : (got front : List Token) (t s : Token) → got ≡ (front ++ t ∷ []) ++ s ∷ [] → word s ≡ some_text (word t) → AreTokens (token_end (word t)) (words front ++ word t ∷ [])
    → AreTokens (s.at + 2) (words got)
tried got front t s is text h =
    subst (λ (n : ℕ). AreTokens n (words got)) (sym (end_is t s text))
    (subst (AreTokens (token_end (some_text (word t)))) (sym (words_are got front t s is text)) (with_text (words front) (word t) h))

pub not_both : (a b : Bool) → false ≡ b → false ≡ a && b
not_both true b e = e
not_both false b e = refl

-- a list of tokens that was made of these
pub made : (got c b a start front : List Token) (t s : Token) → got ≡ c → c ≡ b ++ s ∷ [] → b ≡ a ++ t ∷ [] → a ≡ start ++ front → start ≡ [] → got ≡ (front ++ t ∷ []) ++ s ∷ []
made got c b a start front t s g_is c_is b_is a_is start_is =
    g_is ∙ c_is ∙ ap (λ ts. ts ++ s ∷ []) (b_is ∙ ap (λ ts. ts ++ t ∷ []) (a_is ∙ ap (λ ts. ts ++ front) start_is))

pub room_at : (end : ℕ) (ts : List Token) (i : ℕ) (d : Token) → i < length ts → AreTokens end (words ts) → end + 2 < 2 ^ 32 → token_end (word (get_or ts i d)) + 2 < 2 ^ 32
room_at end ts i d lt h small = omega (arith, ends_at end ts i d lt h, small)
