-- The items of a block are read one after the other.
use Rattle.std.proofs.Common.{◌≡◌, ◌∙◌, ℕ, zero, suc, ◌+◌, ◌-◌, ◌<◌, Bool, List, [], ◌∷◌, ◌++◌, length, refl, sym, ap, arith, append_assoc, Option, Some, None, Ok, Err}
use Rattle.pg_base.specs.Tokens.{Word}
use Rattle.pg_script.specs.declared.fault.ScriptFault.{ScriptFault}
use Rattle.pg_script.specs.Data.{Entry}
use Rattle.pg_script.specs.Joined.{joined_entries}
use Rattle.pg_script.specs.Lines.{Read, and_then}
use Rattle.pg_script.specs.Blocks.{ReadEntries, entry_at, next_at, with_entry, entries_after, entries_at, block_at}
use Rattle.pg_script.proofs.Turns.{left}

entries_first : (xs : List Entry) (e : Entry) (r : ReadEntries) → joined_entries xs (with_entry e r) ≡ joined_entries (xs ++ e ∷ []) r
entries_first xs e (Ok (ys, room, rest)) = ap (λ zs. Ok (zs, room, rest)) (sym (append_assoc xs (e ∷ []) ys))
entries_first xs e (Err fault) = refl

behind : (ℕ → List Word → ReadEntries) → Bool → (column end turns : ℕ) → Read (Entry × ℕ × List Word) → ReadEntries
behind inner sample column end turns found =
    and_then found (λ x. entries_after x.0 x.1 x.2 (λ next. entries_at inner sample column end turns x.1 next) (next_at column end x.2))

step : (inner : ℕ → List Word → ReadEntries) (sample : Bool) (column end turns turn room : ℕ) (ws : List Word) (found : Read (Entry × ℕ × List Word)) → turn < turns
    → entry_at inner sample column end room ws ≡ found → entries_at inner sample column end (turns - turn) room ws ≡ behind inner sample column end (turns - (turn + 1)) found
unfolding behind
step inner sample column end turns turn room ws found lt is =
    ap (λ n. entries_at inner sample column end n room ws) (left turns turn lt) ∙ ap (behind inner sample column end (turns - (turn + 1))) is

pub entries_wrong : (inner : ℕ → List Word → ReadEntries) (sample : Bool) (column end turns turn room : ℕ) (ws : List Word) (xs : List Entry) (fault : ScriptFault) (all : ReadEntries)
    → joined_entries xs (entries_at inner sample column end (turns - turn) room ws) ≡ all → turn < turns → entry_at inner sample column end room ws ≡ Err fault → all ≡ Err fault
unfolding behind
entries_wrong inner sample column end turns turn room ws xs fault all inv lt is =
    sym inv ∙ ap (joined_entries xs) (step inner sample column end turns turn room ws (Err fault) lt is)

then-step : (inner : ℕ → List Word → ReadEntries) (sample : Bool) (column end turns turn room : ℕ) (ws : List Word) (e : Entry) (after : ℕ) (rest : List Word) (next : Read (Option (List Word))) → turn < turns
    → entry_at inner sample column end room ws ≡ Ok (e, after, rest) → next_at column end rest ≡ next
    → entries_at inner sample column end (turns - turn) room ws ≡ entries_after e after rest (λ ns. entries_at inner sample column end (turns - (turn + 1)) after ns) next
unfolding behind
then-step inner sample column end turns turn room ws e after rest next lt is then_is =
    step inner sample column end turns turn room ws (Ok (e, after, rest)) lt is ∙ ap (entries_after e after rest (λ ns. entries_at inner sample column end (turns - (turn + 1)) after ns)) then_is

pub entries_broken : (inner : ℕ → List Word → ReadEntries) (sample : Bool) (column end turns turn room : ℕ) (ws : List Word) (xs : List Entry) (e : Entry) (after : ℕ) (rest : List Word) (fault : ScriptFault) (all : ReadEntries)
    → joined_entries xs (entries_at inner sample column end (turns - turn) room ws) ≡ all → turn < turns → entry_at inner sample column end room ws ≡ Ok (e, after, rest) → next_at column end rest ≡ Err fault → all ≡ Err fault
entries_broken inner sample column end turns turn room ws xs e after rest fault all inv lt is then_is =
    sym inv ∙ ap (joined_entries xs) (then-step inner sample column end turns turn room ws e after rest (Err fault) lt is then_is)

pub entries_last : (inner : ℕ → List Word → ReadEntries) (sample : Bool) (column end turns turn room : ℕ) (ws : List Word) (xs ys : List Entry) (e : Entry) (after : ℕ) (rest : List Word) (all : ReadEntries)
    → joined_entries xs (entries_at inner sample column end (turns - turn) room ws) ≡ all → turn < turns → entry_at inner sample column end room ws ≡ Ok (e, after, rest) → next_at column end rest ≡ Ok None
    → ys ≡ xs ++ e ∷ [] → all ≡ Ok (ys, after, rest)
entries_last inner sample column end turns turn room ws xs ys e after rest all inv lt is then_is ys_is =
    sym inv ∙ ap (joined_entries xs) (then-step inner sample column end turns turn room ws e after rest (Ok None) lt is then_is) ∙ ap (λ zs. Ok (zs, after, rest)) (sym ys_is)

pub entries_more : (inner : ℕ → List Word → ReadEntries) (sample : Bool) (column end turns turn room : ℕ) (ws : List Word) (xs ys : List Entry) (e : Entry) (after : ℕ) (rest next : List Word) (all : ReadEntries)
    → joined_entries xs (entries_at inner sample column end (turns - turn) room ws) ≡ all → turn < turns → entry_at inner sample column end room ws ≡ Ok (e, after, rest) → next_at column end rest ≡ Ok (Some next)
    → ys ≡ xs ++ e ∷ [] → joined_entries ys (entries_at inner sample column end (turns - (turn + 1)) after next) ≡ all
entries_more inner sample column end turns turn room ws xs ys e after rest next all inv lt is then_is ys_is =
    ap (λ zs. joined_entries zs (entries_at inner sample column end (turns - (turn + 1)) after next)) ys_is
    ∙ sym (entries_first xs e (entries_at inner sample column end (turns - (turn + 1)) after next))
    ∙ sym (ap (joined_entries xs) (then-step inner sample column end turns turn room ws e after rest (Ok (Some next)) lt is then_is))
    ∙ inv

-- a block within others
pub block_step : (budget : ℕ) (sample : Bool) (end room n : ℕ) (ws vs : List Word) (w : Word) → (budget ≡ 0 → ⊥) → ws ≡ w ∷ vs → n ≡ length ws
    → entries_at (block_at (budget - 1) sample end) sample w.column end n room ws ≡ block_at budget sample end room ws
unfolding block_at
block_step zero sample end room n ws vs w some ws_is n_is = absurd (some refl)
block_step (suc budget) sample end room n ws vs w some ws_is n_is =
    let e : suc budget - 1 ≡ budget = omega arith in
    ap (λ k. entries_at (block_at k sample end) sample w.column end n room ws) e
    ∙ ap (λ k. entries_at (block_at budget sample end) sample w.column end k room ws) (n_is ∙ ap length ws_is)
    ∙ ap (λ xs. entries_at (block_at budget sample end) sample w.column end (length (w ∷ vs)) room xs) ws_is
    ∙ ap (λ xs. block_at (suc budget) sample end room xs) (sym ws_is)
