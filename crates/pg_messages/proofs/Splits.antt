-- A connection's input is split in one way.
use Rattle.std.proofs.Common.{◌≡◌, ℕ, ◌+◌, Bool, true, false, ◌||◌, List, [], ◌∷◌, ◌++◌, drop, Some, None, sym as flip, ◌∙◌, subst, refl}
use Rattle.std.specs.List.{list_any}
use Rattle.std.proofs.lemmas.List.{drop-append-le}
use Rattle.pg_messages.specs.Messages.{Message, What, End, After, AreMessagesFrom, AreMessages}
use Rattle.pg_messages.proofs.Laws.{unique, stays, within}

some-none : (m : Message) → Some m ≡ None → ⊥
some-none m e = cc

some-same : {a b : Message} → Some a ≡ Some b → a ≡ b
some-same e = cc

split-from : (k : ℕ) (bytes : List ℕ) (ms ns : List Message) (e f : End) → AreMessagesFrom k bytes ms e → AreMessagesFrom k bytes ns f → (ms ≡ ns) × (e ≡ f)
split-from k bytes [] [] e f x y = (refl, x.1 ∙ flip y.1)
split-from k bytes [] (n ∷ ns) e f x y = absurd (some-none n (unique k bytes (Some n) None y.0 x.0))
split-from k bytes (m ∷ ms) [] e f x y = absurd (some-none m (unique k bytes (Some m) None x.0 y.0))
split-from k bytes (m ∷ ms) (n ∷ ns) e f x y =
    let same : m ≡ n = some-same (unique k bytes (Some m) (Some n) x.0 y.0) in
    let other = subst (λ z. After z.what z.closes ns f (AreMessagesFrom (k + 1) (drop z.size bytes) ns f)) (flip same) y.1 in
    let rest = after m.what m.closes (drop m.size bytes) ms ns e f x.1 other (λ a b. split-from (k + 1) (drop m.size bytes) ms ns e f a b) in
    (let one = same in let two = rest.0 in cc, rest.1)
  where
    after : (w : What) (closes : Bool) (bytes : List ℕ) (ms ns : List Message) (e f : End)
        → After w closes ms e (AreMessagesFrom (k + 1) bytes ms e) → After w closes ns f (AreMessagesFrom (k + 1) bytes ns f)
        → (AreMessagesFrom (k + 1) bytes ms e → AreMessagesFrom (k + 1) bytes ns f → (ms ≡ ns) × (e ≡ f)) → (ms ≡ ns) × (e ≡ f)
    after w true bytes ms ns e f x y go = (x.0 ∙ flip y.0, x.1 ∙ flip y.1)
    after w false bytes ms ns e f x y go = go x y

pub one-split : (bytes : List ℕ) (ms ns : List Message) (e f : End) → AreMessages bytes ms e → AreMessages bytes ns f → (ms ≡ ns) × (e ≡ f)
one-split bytes ms ns e f x y = split-from 0 bytes ms ns e f x y

last-from : (k : ℕ) (bytes more : List ℕ) (ms : List Message) (e : End) → AreMessagesFrom k bytes ms e → list_any (λ m. m.closes) ms ≡ true → AreMessagesFrom k (bytes ++ more) ms e
last-from k bytes more [] e x shut = let bad : ⊥ = cc in absurd bad
last-from k bytes more (m ∷ ms) e x shut =
    let back : drop m.size (bytes ++ more) ≡ drop m.size bytes ++ more = drop-append-le m.size bytes more (within k bytes m x.0) in
    (stays k bytes more m x.0, subst (λ d. After m.what m.closes ms e (AreMessagesFrom (k + 1) d ms e)) (flip back) (after m.closes x.1 shut (λ h any. last-from (k + 1) (drop m.size bytes) more ms e h any)))
  where
    after : (closes : Bool) → After m.what closes ms e (AreMessagesFrom (k + 1) (drop m.size bytes) ms e) → (closes || list_any (λ n. n.closes) ms) ≡ true
        → (AreMessagesFrom (k + 1) (drop m.size bytes) ms e → list_any (λ n. n.closes) ms ≡ true → AreMessagesFrom (k + 1) (drop m.size bytes ++ more) ms e)
        → After m.what closes ms e (AreMessagesFrom (k + 1) (drop m.size bytes ++ more) ms e)
    after true h any go = h
    after false h any go = go h any

pub last-stays : (bytes more : List ℕ) (ms : List Message) (e : End) → AreMessages bytes ms e → list_any (λ m. m.closes) ms ≡ true → AreMessages (bytes ++ more) ms e
last-stays bytes more ms e x shut = last-from 0 bytes more ms e x shut
