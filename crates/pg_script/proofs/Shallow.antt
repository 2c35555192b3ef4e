-- Tokens that need not match: no parenthesis opens within 100 others exactly where no stretch opens over 100 more than it closes.
use Rattle.std.proofs.Common.{◌≡◌, ◌∙◌, ℕ, suc, ◌+◌, ◌-◌, ◌<◌, ◌≤◌, Bool, true, false, List, [], ◌∷◌, ◌++◌, refl, sym, ap, arith, Option, Some, None, if◌then◌else◌, nat_le, leb-false}
use Rattle.std.proofs.lemmas.Bool.{lt-leb}
use Rattle.pg_base.specs.Tokens.{Word}
use Rattle.pg_script.specs.declared.fault.ScriptFault.{ScriptFault}
use Rattle.pg_script.specs.declared.fault.ScriptFault.TheVariants.{Deep}
use Rattle.pg_script.specs.declared.mark.Mark.{Mark}
use Rattle.pg_script.specs.declared.mark.Mark.TheVariants.{Open, Close}
use Rattle.pg_script.specs.Marks.{mark}
use Rattle.pg_script.specs.Lines.{deep_fault}
use Rattle.pg_script.specs.Forms.{is_open, is_close, count, IsShallow}
use Rattle.pg_script.proofs.Pieces.{open_mark, close_mark}

pub some_none : {A : Type 0} (e : ScriptFault) → (let o : Option ScriptFault = Some e in o) ≡ None → A
some_none e h = cc

-- no front of these tokens, within so many parentheses, opens over 100 more than it closes
abbrev Fronts : ℕ → List Word → Type 0
Fronts depth ws = (ys zs : List Word) → ws ≡ ys ++ zs → depth + count is_open ys ≤ 100 + count is_close ys

abbrev pub deep_mark : (depth at : ℕ) → Mark → (same deeper outer : Option ScriptFault) → Option ScriptFault
deep_mark depth at m same deeper outer = elim m [
  | Open ↦ if nat_le 100 depth then Some (Deep at) else deeper
  | Close ↦ outer
  | _ ↦ same
]

first-is : (v w : Word) (vs ws : List Word) → v ∷ vs ≡ w ∷ ws → v ≡ w
first-is v w vs ws h = cc

others-are : (v w : Word) (vs ws : List Word) → v ∷ vs ≡ w ∷ ws → vs ≡ ws
others-are v w vs ws h = cc

nothing-more : {A : Type 0} (w : Word) (ws : List Word) → (let xs : List Word = [] in xs) ≡ w ∷ ws → A
nothing-more w ws h = cc

-- how many there are with one more in front
counted : (p : Word → Bool) (w y : Word) (ys : List Word) (b : Bool) → w ≡ y → p w ≡ b → count p (y ∷ ys) ≡ (if b then suc (count p ys) else count p ys)
counted p w y ys b e h = ap (λ c. if c then suc (count p ys) else count p ys) (ap p (sym e) ∙ h)

-- ---- from a front and what is behind the first token

fronts-none : (depth : ℕ) → depth ≤ 100 → Fronts depth []
fronts-none depth le [] zs h = omega (arith, le)
fronts-none depth le (y ∷ ys) zs h = nothing-more y (ys ++ zs) h

abbrev Step : (depth next : ℕ) → Bool → Bool → Type 0
Step depth next opened closed = (i j : ℕ) → next + i ≤ 100 + j → depth + (if opened then suc i else i) ≤ 100 + (if closed then suc j else j)

fronts-more : (depth next : ℕ) (w : Word) (ws : List Word) (a b : Bool) → depth ≤ 100 → is_open w ≡ a → is_close w ≡ b → Step depth next a b → Fronts next ws → Fronts depth (w ∷ ws)
fronts-more depth next w ws a b le ho hc step f [] zs h = omega (arith, le)
fronts-more depth next w ws a b le ho hc step f (y ∷ ys) zs h =
    let e : w ≡ y = first-is w y ws (ys ++ zs) h in
    let k = step (count is_open ys) (count is_close ys) (f ys zs (others-are w y ws (ys ++ zs) h)) in
    omega (arith, k, counted is_open w y ys a e ho, counted is_close w y ys b e hc)

stretches-more : (depth : ℕ) (w : Word) (ws : List Word) → Fronts depth (w ∷ ws) → IsShallow ws → IsShallow (w ∷ ws)
stretches-more depth w ws f s [] ys zs h = let k = f ys zs h in omega (arith, k)
stretches-more depth w ws f s (x ∷ xs) ys zs h = s xs ys zs (others-are w x ws (xs ++ (ys ++ zs)) h)

none-shallow : IsShallow []
none-shallow [] [] zs h = omega arith
none-shallow [] (y ∷ ys) zs h = nothing-more y (ys ++ zs) h
none-shallow (x ∷ xs) ys zs h = nothing-more x (xs ++ (ys ++ zs)) h

open-step : (depth : ℕ) → Step depth (depth + 1) true false
open-step depth i j le = omega (arith, le)

close-step : (depth : ℕ) → Step depth (depth - 1) false true
close-step depth i j le = omega (arith, le)

same-step : (depth : ℕ) → Step depth depth false false
same-step depth i j le = le

abbrev Both : ℕ → List Word → Type 0
Both depth ws = Fronts depth ws × IsShallow ws

both-more : (depth next : ℕ) (w : Word) (ws : List Word) (a b : Bool) → depth ≤ 100 → is_open w ≡ a → is_close w ≡ b → Step depth next a b → Both next ws → Both depth (w ∷ ws)
both-more depth next w ws a b le ho hc step h = let f = fronts-more depth next w ws a b le ho hc step h.0 in (f, stretches-more depth w ws f h.1)

by-mark : (depth : ℕ) (w : Word) (ws : List Word) (m : Mark) → mark w ≡ m → depth ≤ 100 → ((next : ℕ) → next ≤ 100 → deep_fault next ws ≡ None → Both next ws)
    → deep_mark depth w.at m (deep_fault depth ws) (deep_fault (depth + 1) ws) (deep_fault (depth - 1) ws) ≡ None → Both depth (w ∷ ws)
by-mark depth w ws Open hm le rec h =
    elim (nat_le 100 depth) as (λ b. nat_le 100 depth ≡ b → (if b then Some (Deep w.at) else deep_fault (depth + 1) ws) ≡ None → Both depth (w ∷ ws)) [
      | true ↦ λ e g. some_none (Deep w.at) g
      | false ↦ λ e g.
          let lt : depth < 100 = leb-false 100 depth e in
          both-more depth (depth + 1) w ws true false le (ap open_mark hm) (ap close_mark hm) (open-step depth) (rec (depth + 1) (omega (arith, lt)) g)
    ] refl h
by-mark depth w ws Close hm le rec h = both-more depth (depth - 1) w ws false true le (ap open_mark hm) (ap close_mark hm) (close-step depth) (rec (depth - 1) (omega (arith, le)) h)
by-mark depth w ws m hm le rec h = both-more depth depth w ws false false le (ap open_mark hm) (ap close_mark hm) (same-step depth) (rec depth le h)

both-found : (depth : ℕ) (ws : List Word) → depth ≤ 100 → deep_fault depth ws ≡ None → Both depth ws
both-found depth [] le h = (fronts-none depth le, none-shallow)
both-found depth (w ∷ ws) le h = by-mark depth w ws (mark w) refl le (λ next le2 g. both-found next ws le2 g) h

pub shallow_found : (ws : List Word) → deep_fault 0 ws ≡ None → IsShallow ws
shallow_found ws h = let b = both-found 0 ws (omega arith) h in b.1

-- ---- to what is behind the first token

stretches-rest : (w : Word) (ws : List Word) → IsShallow (w ∷ ws) → IsShallow ws
stretches-rest w ws s xs ys zs h = s (w ∷ xs) ys zs (ap (λ t. w ∷ t) h)

front-first : (depth : ℕ) (w : Word) (ws ys zs : List Word) (a b : Bool) → is_open w ≡ a → is_close w ≡ b → Fronts depth (w ∷ ws) → ws ≡ ys ++ zs
    → depth + (if a then suc (count is_open ys) else count is_open ys) ≤ 100 + (if b then suc (count is_close ys) else count is_close ys)
front-first depth w ws ys zs a b ho hc f h =
    let k = f (w ∷ ys) zs (ap (λ t. w ∷ t) h) in omega (arith, k, counted is_open w w ys a refl ho, counted is_close w w ys b refl hc)

mark-read : (depth : ℕ) (w : Word) (ws : List Word) (m : Mark) → mark w ≡ m → ((next : ℕ) → Fronts next ws → deep_fault next ws ≡ None) → Fronts depth (w ∷ ws) → IsShallow (w ∷ ws)
    → deep_mark depth w.at m (deep_fault depth ws) (deep_fault (depth + 1) ws) (deep_fault (depth - 1) ws) ≡ None
mark-read depth w ws Open hm rec f s =
    let one : depth + 1 ≤ 100 + 0 = front-first depth w ws [] ws true false (ap open_mark hm) (ap close_mark hm) f refl in
    ap (λ b. if b then Some (Deep w.at) else deep_fault (depth + 1) ws) (lt-leb 100 depth (omega (arith, one)))
    ∙ rec (depth + 1) (λ ys zs h. let k = front-first depth w ws ys zs true false (ap open_mark hm) (ap close_mark hm) f h in omega (arith, k))
mark-read depth w ws Close hm rec f s =
    rec (depth - 1) (λ ys zs h.
    let k = front-first depth w ws ys zs false true (ap open_mark hm) (ap close_mark hm) f h in
    let n = s (w ∷ []) ys zs (ap (λ t. w ∷ t) h) in
    omega (arith, k, n))
mark-read depth w ws m hm rec f s = rec depth (λ ys zs h. front-first depth w ws ys zs false false (ap open_mark hm) (ap close_mark hm) f h)

deep-read : (depth : ℕ) (ws : List Word) → Fronts depth ws → IsShallow ws → deep_fault depth ws ≡ None
deep-read depth [] f s = refl
deep-read depth (w ∷ ws) f s = mark-read depth w ws (mark w) refl (λ next g. deep-read next ws g (stretches-rest w ws s)) f s

pub shallow_read : (ws : List Word) → IsShallow ws → deep_fault 0 ws ≡ None
shallow_read ws s = deep-read 0 ws (λ ys zs h. let k = s [] ys zs h in omega (arith, k)) s
