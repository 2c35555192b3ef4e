-- Binders of statements: what is told whole is what they are.
use Rattle.std.proofs.Common.{◌≡◌, ◌∙◌, ℕ, zero, suc, ◌+◌, ◌<◌, ◌≤◌, Bool, true, false, List, [], ◌∷◌, ◌++◌, length, take, drop, refl, sym, ap, subst, arith, append_assoc, Option, Some, None, if◌then◌else◌}
use Rattle.std.specs.Prelude.{◌==◌}
use Rattle.std.proofs.lemmas.List.{take-append-drop, length-append}
use Rattle.pg_base.specs.Tokens.{Word}
use Rattle.pg_script.specs.Data.{Part}
use Rattle.pg_script.specs.Marks.{place}
use Rattle.pg_gametext.specs.Commands.{is_plain}
use Rattle.pg_gametext.specs.Forms.{Mark, Open, Close, Assign, Nat, mark, is_open, is_close, is_colon, is_assign, is_nat, Taken, token_taken, names_length, names_taken, length_of_hypothesis, BinderText, variables, hypothesis, with_binder, binder_followed, binder_closed, hypothesis_named, binder_typed, binder_colon, binder_named, binders_taken}
use Rattle.pg_gametext.specs.Grammar.{AreAll, Matches, no_token, a_token, nested, BeginsOther, IsBinder, some_variables, a_hypothesis, AreBinders, no_binder, a_binder}
use Rattle.pg_gametext.proofs.Cut.{taken, left}
use Rattle.pg_gametext.proofs.Taking.{not_nothing, opens, closes, assigns, colons, token_yes, stands, misses, taking, all_plain, plain_mark, some_part}

-- ---- kinds of tokens

abbrev nats : Mark → Bool
nats m = elim m as (λ _. Bool) [ Nat ↦ true | _ ↦ false ]

close_not_nat : (w : Word) → is_close w ≡ true → is_nat w ≡ false
close_not_nat w e = elim (mark w) as (λ m. closes m ≡ true → nats m ≡ false) [ Nat ↦ λ e. absurd cc | _ ↦ λ e. refl ] e

pub colon_not_open : (w : Word) → is_colon w ≡ true → is_open w ≡ false
colon_not_open w e = elim (mark w) as (λ m. colons m ≡ true → opens m ≡ false) [ Open ↦ λ e. absurd cc | _ ↦ λ e. refl ] e

colon_not_plain : (w : Word) → is_colon w ≡ true → is_plain w ≡ false
colon_not_plain w e = elim (is_plain w) as (λ b. is_plain w ≡ b → b ≡ false) [
  | true ↦ λ p. absurd (let g : false ≡ true = sym (ap colons (plain_mark w p)) ∙ e in cc)
  | false ↦ λ p. refl
] refl

-- ---- parentheses that match

-- Tokens in which so many parentheses are closed that opened before them, and none else is left open.
abbrev Layers : ℕ → List Word → Type 0
Layers zero ws = Matches ws
Layers (suc d) ws = (m : List Word) × (c : Word) × (rest : List Word) × (ws ≡ m ++ c ∷ rest) × Matches m × (is_close c ≡ true) × Layers d rest

front_token : (d : ℕ) (w : Word) (ws : List Word) → is_open w ≡ false → is_close w ≡ false → is_assign w ≡ false → Layers d ws → Layers d (w ∷ ws)
front_token zero w ws po pc pa h = a_token w ws po pc pa h
front_token (suc d) w ws po pc pa h = (w ∷ h.0, h.1, h.2, ap (λ (x : List Word). w ∷ x) h.3, a_token w h.0 po pc pa h.4, h.5, h.6)

front_close : (d : ℕ) (k : Word) (ws : List Word) → is_close k ≡ true → Layers d ws → Layers (suc d) (k ∷ ws)
front_close d k ws gk h = ([], k, ws, refl, no_token, gk, h)

front_group : (d : ℕ) (o : Word) (ws : List Word) → is_open o ≡ true → Layers (suc d) ws → Layers d (o ∷ ws)
front_group zero o ws go h = subst Matches (ap (λ (x : List Word). o ∷ x) (sym h.3)) (nested o h.1 h.0 h.2 go h.5 h.4 h.6)
front_group (suc d) o ws go h =
    let l = h.6 in (
      o ∷ h.0 ++ h.1 ∷ l.0,
      l.1,
      l.2,
      ap (λ (x : List Word). o ∷ x) (h.3 ∙ ap (λ (x : List Word). h.0 ++ h.1 ∷ x) l.3 ∙ sym (append_assoc h.0 (h.1 ∷ l.0) (l.1 ∷ l.2))),
      nested o h.1 h.0 l.0 go h.5 h.4 l.4,
      l.5,
      l.6,
    )

-- where they stop at a closing parenthesis
closes_front : (d : ℕ) (ws : List Word) (k : Word) (rest : List Word) → drop (length_of_hypothesis d ws) ws ≡ k ∷ rest → is_close k ≡ true → Layers d (take (length_of_hypothesis d ws) ws)
closes_front d [] k rest h gk = absurd (let g : drop (length_of_hypothesis d []) [] ≡ k ∷ rest = h in nothing_left d k rest g)
  where
    nothing_left : (d : ℕ) (k : Word) (rest : List Word) → drop (length_of_hypothesis d []) [] ≡ k ∷ rest → ⊥
    nothing_left zero k rest g = cc
    nothing_left (suc d) k rest g = cc
closes_front zero (w ∷ ws) k rest h gk =
    elim (mark w) as (λ m. mark w ≡ m → drop (elim m as (λ _. ℕ) [ Assign ↦ 0 | Open ↦ suc (length_of_hypothesis 1 ws) | Close ↦ 0 | _ ↦ suc (length_of_hypothesis 0 ws) ]) (w ∷ ws) ≡ k ∷ rest
    → Matches (take (elim m as (λ _. ℕ) [ Assign ↦ 0 | Open ↦ suc (length_of_hypothesis 1 ws) | Close ↦ 0 | _ ↦ suc (length_of_hypothesis 0 ws) ]) (w ∷ ws))) [
      | Assign ↦ λ e h. no_token
      | Open ↦ λ e h. front_group 0 w (take (length_of_hypothesis 1 ws) ws) (ap opens e) (closes_front 1 ws k rest h gk)
      | Close ↦ λ e h. no_token
      | _ ↦ λ e h. front_token 0 w (take (length_of_hypothesis 0 ws) ws) (ap opens e) (ap closes e) (ap assigns e) (closes_front 0 ws k rest h gk)
    ] refl h
closes_front (suc d) (w ∷ ws) k rest h gk =
    elim (mark w) as (λ m. mark w ≡ m → drop (elim m as (λ _. ℕ) [ Assign ↦ 0 | Open ↦ suc (length_of_hypothesis (suc (suc d)) ws) | Close ↦ suc (length_of_hypothesis d ws) | _ ↦ suc (length_of_hypothesis (suc d) ws) ]) (w ∷ ws) ≡ k ∷ rest
    → Layers (suc d) (take (elim m as (λ _. ℕ) [ Assign ↦ 0 | Open ↦ suc (length_of_hypothesis (suc (suc d)) ws) | Close ↦ suc (length_of_hypothesis d ws) | _ ↦ suc (length_of_hypothesis (suc d) ws) ]) (w ∷ ws))) [
      | Assign ↦ λ e h. absurd (let g : true ≡ false = sym gk ∙ ap is_close (sym (first_is w k ws rest h)) ∙ ap closes e in cc)
      | Open ↦ λ e h. front_group (suc d) w (take (length_of_hypothesis (suc (suc d)) ws) ws) (ap opens e) (closes_front (suc (suc d)) ws k rest h gk)
      | Close ↦ λ e h. front_close d w (take (length_of_hypothesis d ws) ws) (ap closes e) (closes_front d ws k rest h gk)
      | _ ↦ λ e h. front_token (suc d) w (take (length_of_hypothesis (suc d) ws) ws) (ap opens e) (ap closes e) (ap assigns e) (closes_front (suc d) ws k rest h gk)
    ] refl h
  where
    first_is : (w k : Word) (ws rest : List Word) → w ∷ ws ≡ k ∷ rest → w ≡ k
    first_is w k ws rest e = cc

token_step : (d : ℕ) (w : Word) (ws : List Word) → is_open w ≡ false → is_close w ≡ false → is_assign w ≡ false → length_of_hypothesis d (w ∷ ws) ≡ suc (length_of_hypothesis d ws)
token_step zero w ws po pc pa =
    elim (mark w) as (λ m. opens m ≡ false → closes m ≡ false → assigns m ≡ false → (elim m as (λ _. ℕ) [ Assign ↦ 0 | Open ↦ suc (length_of_hypothesis 1 ws) | Close ↦ 0 | _ ↦ suc (length_of_hypothesis 0 ws) ]) ≡ suc (length_of_hypothesis 0 ws)) [
      | Open ↦ λ o c a. absurd cc
      | Close ↦ λ o c a. absurd cc
      | Assign ↦ λ o c a. absurd cc
      | _ ↦ λ o c a. refl
    ] po pc pa
token_step (suc d) w ws po pc pa =
    elim (mark w) as (λ m. opens m ≡ false → closes m ≡ false → assigns m ≡ false
    → (elim m as (λ _. ℕ) [ Assign ↦ 0 | Open ↦ suc (length_of_hypothesis (suc (suc d)) ws) | Close ↦ suc (length_of_hypothesis d ws) | _ ↦ suc (length_of_hypothesis (suc d) ws) ]) ≡ suc (length_of_hypothesis (suc d) ws)) [
      | Open ↦ λ o c a. absurd cc
      | Close ↦ λ o c a. absurd cc
      | Assign ↦ λ o c a. absurd cc
      | _ ↦ λ o c a. refl
    ] po pc pa

open_step : (d : ℕ) (w : Word) (ws : List Word) → is_open w ≡ true → length_of_hypothesis d (w ∷ ws) ≡ suc (length_of_hypothesis (suc d) ws)
open_step zero w ws go =
    elim (mark w) as (λ m. opens m ≡ true → (elim m as (λ _. ℕ) [ Assign ↦ 0 | Open ↦ suc (length_of_hypothesis 1 ws) | Close ↦ 0 | _ ↦ suc (length_of_hypothesis 0 ws) ]) ≡ suc (length_of_hypothesis 1 ws)) [ Open ↦ λ o. refl | _ ↦ λ o. absurd cc ] go
open_step (suc d) w ws go =
    elim (mark w) as (λ m. opens m ≡ true
    → (elim m as (λ _. ℕ) [ Assign ↦ 0 | Open ↦ suc (length_of_hypothesis (suc (suc d)) ws) | Close ↦ suc (length_of_hypothesis d ws) | _ ↦ suc (length_of_hypothesis (suc d) ws) ]) ≡ suc (length_of_hypothesis (suc (suc d)) ws)) [ Open ↦ λ o. refl | _ ↦ λ o. absurd cc ] go

close_step : (d : ℕ) (w : Word) (ws : List Word) → is_close w ≡ true → length_of_hypothesis (suc d) (w ∷ ws) ≡ suc (length_of_hypothesis d ws)
close_step d w ws gc =
    elim (mark w) as (λ m. closes m ≡ true
    → (elim m as (λ _. ℕ) [ Assign ↦ 0 | Open ↦ suc (length_of_hypothesis (suc (suc d)) ws) | Close ↦ suc (length_of_hypothesis d ws) | _ ↦ suc (length_of_hypothesis (suc d) ws) ]) ≡ suc (length_of_hypothesis d ws)) [ Close ↦ λ o. refl | _ ↦ λ o. absurd cc ] gc

close_stop : (w : Word) (ws : List Word) → is_close w ≡ true → length_of_hypothesis 0 (w ∷ ws) ≡ 0
close_stop w ws gc =
    elim (mark w) as (λ m. closes m ≡ true → (elim m as (λ _. ℕ) [ Assign ↦ 0 | Open ↦ suc (length_of_hypothesis 1 ws) | Close ↦ 0 | _ ↦ suc (length_of_hypothesis 0 ws) ]) ≡ 0) [ Close ↦ λ o. refl | _ ↦ λ o. absurd cc ] gc

-- tokens whose parentheses match are passed
passes : (ws : List Word) → Matches ws → (d : ℕ) (next : List Word) → length_of_hypothesis d (ws ++ next) ≡ length ws + length_of_hypothesis d next
passes _ no_token d next = omega arith
passes _ (a_token w ws po pc pa h) d next = let more = passes ws h d next in let one = token_step d w (ws ++ next) po pc pa in omega (arith, more, one)
passes _ (nested o c inner ws go gc hi h) d next =
    let behind = c ∷ ws ++ next in
    let split : length_of_hypothesis d (o ∷ (inner ++ c ∷ ws) ++ next) ≡ length_of_hypothesis d (o ∷ inner ++ behind) = ap (λ (x : List Word). length_of_hypothesis d (o ∷ x)) (append_assoc inner (c ∷ ws) next) in
    let first = open_step d o (inner ++ behind) go in
    let inside = passes inner hi (suc d) behind in
    let last = close_step d c (ws ++ next) gc in
    let rest = passes ws h d next in
    let long = length-append inner (c ∷ ws) in
    omega (arith, split, first, inside, last, rest, long)

-- ---- what is told of binders

abbrev pub some_binders : List BinderText → List Word → Taken (List BinderText)
some_binders bs rest = record { value = bs; stuck = None; rest = rest }

pub data BindersTaking (end : ℕ) (ws : List Word) (t : Taken (List BinderText)) : Type 0 where
  binders_stand : (front : List Word) (binders : List BinderText) (rest : List Word) → ws ≡ front ++ rest → AreBinders front binders → t ≡ some_binders binders rest → BindersTaking end ws t
  binders_miss : (at : ℕ) → t.stuck ≡ Some at → BindersTaking end ws t

abbrev More : ℕ → (List Word → Taken (List BinderText)) → Type 0
More end more = (ws : List Word) → BindersTaking end ws (more ws)

closed_taking : (end : ℕ) (b : BinderText) (more : List Word → Taken (List BinderText)) (front ws : List Word) → More end more
    → ((k : Word) (rest : List Word) → ws ≡ k ∷ rest → is_close k ≡ true → IsBinder (front ++ k ∷ []) b) → BindersTaking end (front ++ ws) (binder_closed end b more ws)
closed_taking end b more front ws go make = elim (taking is_close end ws) [
  | misses at e ↦ binders_miss at (ap (λ (t : Taken (Option Word)). (with_binder b (binder_followed more t)).stuck) e)
  | stands k rest is gk e ↦
      let follows : binder_closed end b more ws ≡ with_binder b (more rest) = ap (λ (t : Taken (Option Word)). with_binder b (binder_followed more t)) e in
      elim (go rest) [
        | binders_miss at s ↦ binders_miss at (ap (λ (t : Taken (List BinderText)). t.stuck) follows ∙ s)
        | binders_stand f bs behind split are eq ↦
            let whole : front ++ ws ≡ ((front ++ k ∷ []) ++ f) ++ behind =
            ap (λ (x : List Word). front ++ x) (is ∙ ap (λ (x : List Word). k ∷ x) split) ∙ sym (append_assoc front (k ∷ f) behind) ∙ ap (λ (x : List Word). x ++ behind) (sym (append_assoc front (k ∷ []) f)) in
            binders_stand ((front ++ k ∷ []) ++ f) (b ∷ bs) behind whole (a_binder (front ++ k ∷ []) f b bs (make k rest is gk) are) (follows ∙ ap (with_binder b) eq)
      ]
]

other_front : (n : ℕ) (ws : List Word) → BeginsOther ws → BeginsOther (take n ws)
other_front zero ws h = tt
other_front (suc n) [] h = tt
other_front (suc n) (w ∷ ws) h = h

hypothesis_taking : (end : ℕ) (o c : Word) (names : List Word) (more : List Word → Taken (List BinderText)) (ws : List Word) → More end more → is_open o ≡ true → AreAll is_plain names → is_colon c ≡ true → BeginsOther ws
    → BindersTaking end (o ∷ names ++ c ∷ ws) (hypothesis_named end names more ws)
hypothesis_taking end o c [] more ws go gop plain gc other = binders_miss (place end ws) refl
hypothesis_taking end o c (x ∷ y ∷ names) more ws go gop plain gc other = binders_miss (place end ws) refl
hypothesis_taking end o c (x ∷ []) more ws go gop plain gc other =
    let n = length_of_hypothesis 0 ws in
    let p : Part = record { tokens = take n ws; end = place end (drop n ws) } in
    let make : (k : Word) (rest : List Word) → drop n ws ≡ k ∷ rest → is_close k ≡ true → IsBinder ((o ∷ x ∷ c ∷ take n ws) ++ k ∷ []) (hypothesis x p) =
    λ k rest is gk.
    let made = a_hypothesis o x c k (take n ws) gop plain.0 gc (other_front n ws other) (closes_front 0 ws k rest is gk) gk in
    subst (λ (y : List Word). IsBinder (o ∷ x ∷ c ∷ take n ws ++ k ∷ []) (hypothesis x (record { tokens = take n ws; end = place end y }))) (sym is) made in
    subst (λ (y : List Word). BindersTaking end (o ∷ x ∷ c ∷ y) (hypothesis_named end (x ∷ []) more ws)) (take-append-drop n ws)
    (closed_taking end (hypothesis x p) more (o ∷ x ∷ c ∷ take n ws) (drop n ws) go make)

typed_taking : (end : ℕ) (o c : Word) (names : List Word) (more : List Word → Taken (List BinderText)) (ws : List Word) → More end more → is_open o ≡ true → 0 < length names → AreAll is_plain names → is_colon c ≡ true
    → BindersTaking end (o ∷ names ++ c ∷ ws) (binder_typed end names more ws)
typed_taking end o c names more [] go gop some plain gc = hypothesis_taking end o c names more [] go gop plain gc tt
typed_taking end o c names more (n ∷ ws) go gop some plain gc =
    elim (is_nat n) as (λ b. is_nat n ≡ b → BindersTaking end (o ∷ names ++ c ∷ n ∷ ws) (if b then binder_closed end (variables names) more ws else hypothesis_named end names more (n ∷ ws))) [
      | true ↦ λ gn.
          let make : (k : Word) (rest : List Word) → ws ≡ k ∷ rest → is_close k ≡ true → IsBinder ((o ∷ names ++ c ∷ n ∷ []) ++ k ∷ []) (variables names) =
          λ k rest is gk. subst (λ (y : List Word). IsBinder (o ∷ y) (variables names)) (sym (append_assoc names (c ∷ n ∷ []) (k ∷ []))) (some_variables o c n k names gop (some, plain) gc gn gk) in
          subst (λ (y : List Word). BindersTaking end (o ∷ y) (binder_closed end (variables names) more ws)) (append_assoc names (c ∷ n ∷ []) ws)
          (closed_taking end (variables names) more (o ∷ names ++ c ∷ n ∷ []) ws go make)
      | false ↦ λ gn. hypothesis_taking end o c names more (n ∷ ws) go gop plain gc gn
    ] refl

some_taken : (ws : List Word) → (names_length ws == 0) ≡ false → 0 < length (take (names_length ws) ws)
some_taken [] e = absurd cc
some_taken (w ∷ ws) e =
    elim (is_plain w) as (λ b. ((if b then suc (names_length ws) else 0) == 0) ≡ false → 0 < length (take (if b then suc (names_length ws) else 0) (w ∷ ws))) [
      | true ↦ λ e. omega arith
      | false ↦ λ e. absurd cc
    ] e

-- names that were counted
abbrev counted : ℕ → Bool → ℕ → List Word → Taken (List Word)
counted end none n ws = record { value = take n ws; stuck = (if none then Some (place end ws) else None); rest = drop n ws }

named_taking : (end : ℕ) (o : Word) (ws : List Word) (more : List Word → Taken (List BinderText)) → More end more → is_open o ≡ true → BindersTaking end (o ∷ ws) (binder_named end (names_taken end ws) more)
named_taking end o ws more go gop =
    let n = names_length ws in
    elim (n == 0) as (λ b. (n == 0) ≡ b → BindersTaking end (o ∷ ws) (binder_named end (counted end b n ws) more)) [
      | true ↦ λ e. binders_miss (place end ws) refl
      | false ↦ λ e.
          elim (taking is_colon end (drop n ws)) [
            | misses at m ↦ binders_miss at (ap (λ (t : Taken (Option Word)). (binder_colon end (take n ws) more t).stuck) m)
            | stands c rest is gc m ↦
                let split : take n ws ++ c ∷ rest ≡ ws = ap (λ (x : List Word). take n ws ++ x) (sym is) ∙ take-append-drop n ws in
                subst (BindersTaking end (o ∷ ws)) (sym (ap (binder_colon end (take n ws) more) m))
                (subst (λ (y : List Word). BindersTaking end (o ∷ y) (binder_typed end (take n ws) more rest)) split (typed_taking end o c (take n ws) more rest go gop (some_taken ws e) (all_plain ws) gc))
          ]
    ] refl

pub binders_taking : (turns end : ℕ) (ws : List Word) → BindersTaking end ws (binders_taken turns end ws)
binders_taking zero end ws = binders_stand [] [] ws refl no_binder refl
binders_taking (suc turns) end [] = binders_stand [] [] [] refl no_binder refl
binders_taking (suc turns) end (w ∷ ws) =
    elim (is_open w) as (λ b. is_open w ≡ b → BindersTaking end (w ∷ ws) (if b then binder_named end (names_taken end ws) (binders_taken turns end) else some_binders [] (w ∷ ws))) [
      | true ↦ λ gw. named_taking end w ws (binders_taken turns end) (λ vs. binders_taking turns end vs) gw
      | false ↦ λ gw. binders_stand [] [] (w ∷ ws) refl no_binder refl
    ] refl

-- ---- and back

names_stop : (ws : List Word) (c : Word) (rest : List Word) → AreAll is_plain ws → is_plain c ≡ false → names_length (ws ++ c ∷ rest) ≡ length ws
names_stop [] c rest h gc = ap (λ b. if b then suc (names_length rest) else 0) gc
names_stop (w ∷ ws) c rest h gc = ap (λ b. if b then suc (names_length (ws ++ c ∷ rest)) else 0) h.0 ∙ ap suc (names_stop ws c rest h.1 gc)

-- the names of a binder and its colon
typed_read : (turns end : ℕ) (o c : Word) (names rest : List Word) → is_open o ≡ true → 0 < length names → AreAll is_plain names → is_colon c ≡ true
    → binders_taken (suc turns) end (o ∷ names ++ c ∷ rest) ≡ binder_typed end names (binders_taken turns end) rest
typed_read turns end o c names rest go some plain gc =
    let ws = names ++ c ∷ rest in
    let more = binders_taken turns end in
    ap (λ b. if b then binder_named end (names_taken end ws) more else some_binders [] (o ∷ ws)) go
    ∙ ap (λ n. binder_named end (counted end (n == 0) n ws) more) (names_stop names c rest plain (colon_not_plain c gc))
    ∙ ap (λ b. binder_named end (counted end b (length names) ws) more) (not_nothing (length names) some)
    ∙ ap (λ (x : List Word). binder_colon end x more (token_taken is_colon end (drop (length names) ws))) (taken names (c ∷ rest))
    ∙ ap (λ (x : List Word). binder_colon end names more (token_taken is_colon end x)) (left names (c ∷ rest))
    ∙ ap (binder_colon end names more) (token_yes is_colon end c rest gc)

closed_read : (end : ℕ) (b : BinderText) (more : List Word → Taken (List BinderText)) (k : Word) (rest : List Word) → is_close k ≡ true → binder_closed end b more (k ∷ rest) ≡ with_binder b (more rest)
closed_read end b more k rest gk = ap (λ (t : Taken (Option Word)). with_binder b (binder_followed more t)) (token_yes is_close end k rest gk)

abbrev hypothesis_with : ℕ → Word → (List Word → Taken (List BinderText)) → Taken Part → Taken (List BinderText)
hypothesis_with end x more p = binder_closed end (hypothesis x p.value) more p.rest

hypothesis_read : (end : ℕ) (x k : Word) (ws rest : List Word) (more : List Word → Taken (List BinderText)) → Matches ws → is_close k ≡ true
    → hypothesis_named end (x ∷ []) more (ws ++ k ∷ rest) ≡ with_binder (hypothesis x (record { tokens = ws; end = k.at })) (more rest)
hypothesis_read end x k ws rest more h gk =
    let all = ws ++ k ∷ rest in
    let stop = close_stop k rest gk in
    let pass = passes ws h 0 (k ∷ rest) in
    let long : length_of_hypothesis 0 all ≡ length ws = omega (arith, stop, pass) in
    ap (λ n. hypothesis_with end x more (some_part end (take n all) (drop n all))) long
    ∙ ap (λ (y : List Word). hypothesis_with end x more (some_part end y (drop (length ws) all))) (taken ws (k ∷ rest))
    ∙ ap (λ (y : List Word). hypothesis_with end x more (some_part end ws y)) (left ws (k ∷ rest))
    ∙ closed_read end (hypothesis x (record { tokens = ws; end = k.at })) more k rest gk

other_read : (end : ℕ) (names ws : List Word) (k : Word) (rest : List Word) (more : List Word → Taken (List BinderText)) → BeginsOther ws → is_close k ≡ true
    → binder_typed end names more (ws ++ k ∷ rest) ≡ hypothesis_named end names more (ws ++ k ∷ rest)
other_read end names [] k rest more other gk = ap (λ b. if b then binder_closed end (variables names) more rest else hypothesis_named end names more (k ∷ rest)) (close_not_nat k gk)
other_read end names (w ∷ ws) k rest more other gk = ap (λ b. if b then binder_closed end (variables names) more (ws ++ k ∷ rest) else hypothesis_named end names more (w ∷ ws ++ k ∷ rest)) other

binder_read : (turns end : ℕ) (ws : List Word) (b : BinderText) → IsBinder ws b → (rest : List Word) → binders_taken (suc turns) end (ws ++ rest) ≡ with_binder b (binders_taken turns end rest)
binder_read turns end _ _ (some_variables o c n k names go plain gc gn gk) rest =
    let more = binders_taken turns end in
    ap (λ (x : List Word). binders_taken (suc turns) end (o ∷ x)) (append_assoc names (c ∷ n ∷ k ∷ []) rest)
    ∙ typed_read turns end o c names (n ∷ k ∷ rest) go plain.0 plain.1 gc
    ∙ ap (λ b. if b then binder_closed end (variables names) more (k ∷ rest) else hypothesis_named end names more (n ∷ k ∷ rest)) gn
    ∙ closed_read end (variables names) more k rest gk
binder_read turns end _ _ (a_hypothesis o h c k ws go gh gc other hm gk) rest =
    let more = binders_taken turns end in
    ap (λ (x : List Word). binders_taken (suc turns) end (o ∷ h ∷ c ∷ x)) (append_assoc ws (k ∷ []) rest)
    ∙ typed_read turns end o c (h ∷ []) (ws ++ k ∷ rest) go (omega arith) (gh, tt) gc
    ∙ other_read end (h ∷ []) ws k rest more other gk
    ∙ hypothesis_read end h k ws rest more hm gk

-- no binder begins there
abbrev pub OpensNot : List Word → Type 0
OpensNot [] = Unit {0}
OpensNot (w ∷ ws) = is_open w ≡ false

nothing_read : (turns end : ℕ) (rest : List Word) → OpensNot rest → binders_taken turns end rest ≡ some_binders [] rest
nothing_read zero end rest h = refl
nothing_read (suc turns) end [] h = refl
nothing_read (suc turns) end (w ∷ ws) h = ap (λ b. if b then binder_named end (names_taken end ws) (binders_taken turns end) else some_binders [] (w ∷ ws)) h

has_token : (ws : List Word) (b : BinderText) → IsBinder ws b → 0 < length ws
has_token _ _ (some_variables o c n k names go plain gc gn gk) = omega arith
has_token _ _ (a_hypothesis o h c k ws go gh gc other hm gk) = omega arith

pub binders_read : (turns end : ℕ) (front : List Word) (bs : List BinderText) (rest : List Word) → AreBinders front bs → length front ≤ turns → OpensNot rest → binders_taken turns end (front ++ rest) ≡ some_binders bs rest
binders_read turns end _ _ rest no_binder l h = nothing_read turns end rest h
binders_read zero end _ _ rest (a_binder ws vs b bs is more) l h = let some = has_token ws b is in let long = length-append ws vs in absurd (omega (arith, l, some, long))
binders_read (suc turns) end _ _ rest (a_binder ws vs b bs is more) l h =
    let some = has_token ws b is in
    let long = length-append ws vs in
    ap (binders_taken (suc turns) end) (append_assoc ws vs rest)
    ∙ binder_read turns end ws b is (vs ++ rest)
    ∙ ap (with_binder b) (binders_read turns end vs bs rest more (omega (arith, l, some, long)) h)
