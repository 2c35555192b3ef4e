-- Writing a text, piece by piece.
use Rattle.std.proofs.Common.{◌≡◌, ℕ, List, ◌++◌, take, drop, ◌+◌, Option, Some, None, sym as flip, ◌∙◌, ap, arith, append_assoc}
use Rattle.std.proofs.lemmas.List.{take-append-drop, drop-take, take-take}
use Rattle.std.specs.Io.KnownBytes.{Appends}

take-split : (at n : ℕ) (text : List ℕ) → take at text ++ take n (drop at text) ≡ take (at + n) text
take-split at n text =
    let whole = take-append-drop at (take (at + n) text) in
    let back = drop-take at n text in
    let front : take at (take (at + n) text) ≡ take at text = take-take at (at + n) text (omega arith) in
    ap (λ f. f ++ take n (drop at text)) (flip front) ∙ ap (λ b. take at (take (at + n) text) ++ b) (flip back) ∙ whole

pub appends-more : (old mid new : Option (List ℕ)) (text : List ℕ) (at n : ℕ) → Appends old mid (take at text) → Appends mid new (take n (drop at text)) → Appends old new (take (at + n) text)
appends-more None mid new text at n h k = tt
appends-more (Some xs) None new text at n h k = absurd h
appends-more (Some xs) (Some ys) None text at n h k = absurd k
appends-more (Some xs) (Some ys) (Some zs) text at n h k =
    k ∙ ap (λ r. r ++ take n (drop at text)) h ∙ append_assoc xs (take at text) (take n (drop at text)) ∙ ap (λ r. xs ++ r) (take-split at n text)
