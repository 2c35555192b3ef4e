-- What is told of a statement stands within it.
use Rattle.std.proofs.Common.{ℕ, zero, suc, ◌<◌, ◌≤◌, List, [], ◌∷◌, length, take, drop, arith, true, false, Option, Some, None, if◌then◌else◌}
use Rattle.std.specs.Prelude.{◌==◌, codes}
use Rattle.pg_base.specs.Spans.{token_end}
use Rattle.pg_base.specs.Tokens.{Word}
use Rattle.pg_script.specs.Data.{Part}
use Rattle.pg_script.specs.Marks.{place}
use Rattle.pg_gametext.specs.Commands.{is_plain, is_text, is_word}
use Rattle.pg_gametext.specs.Faults.{stuck_fault}
use Rattle.pg_gametext.specs.Forms.{Told, Taken, token_taken, names_length, names_taken, is_open, is_close, is_colon, is_assign, is_nat, length_before, length_of_hypothesis, hypothesis_taken, BinderText, variables, hypothesis, StatementText, binders_stuck, with_binder, binder_closed, hypothesis_named, binder_typed, binder_named, binders_taken, ends_block, block_taken, proof_taken, target_told, statement_colon, statement_binders, statement_name, statement_told}
use Rattle.pg_gametext.specs.Laws.{Each, IsWithin, StandsWithin, AreInside, AreOrdered}
use Rattle.pg_gametext.proofs.Within.{missing_at, or_ended_within, inside_of}
use Rattle.pg_gametext.proofs.Declared.{IsTaken, OneStands, token_is, front_before, back_after, place_up, taken_within, PartStands}

-- ---- what stands within

abbrev pub BindersStand : ℕ → ℕ → List BinderText → Type 0
BindersStand from to [] = Unit {0}
BindersStand from to (variables ws ∷ bs) = AreInside from to ws × BindersStand from to bs
BindersStand from to (hypothesis h p ∷ bs) = (StandsWithin from to h × PartStands from to (Some p)) × BindersStand from to bs

-- each of some tokens ends there
abbrev pub AreEnding : ℕ → List Word → Type 0
AreEnding to [] = Unit {0}
AreEnding to (w ∷ ws) = (token_end w ≤ to) × AreEnding to ws

abbrev pub BlockStands : ℕ → ℕ → Option Part → Type 0
BlockStands from to None = Unit {0}
BlockStands from to (Some p) = PartStands from to (Some p) × AreEnding to p.tokens

record BindersTaken (from to : ℕ) (t : Taken (List BinderText)) : Type 0 where
  taken : IsTaken from to t
  value : BindersStand from to t.value

record BlockTaken (from to : ℕ) (t : Taken (Option Part)) : Type 0 where
  taken : IsTaken from to t
  value : BlockStands from to t.value

pub record StatementStands (from to : ℕ) (t : Told StatementText) : Type 0 where
  pub stuck : Each (IsWithin from to) (stuck_fault t.stuck)
  pub name : OneStands from to t.value.name
  pub binders : BindersStand from to t.value.binders
  pub target : PartStands from to t.value.target
  pub block : BlockStands from to t.value.block

ending : (from to n : ℕ) (ws : List Word) → AreOrdered from to ws → AreEnding to (take n ws)
ending from to zero ws h = tt
ending from to (suc n) [] h = tt
ending from to (suc n) (w ∷ ws) h = (h.1, ending w.at to n ws h.2)

-- ---- binders

stuck_binders : (from to at : ℕ) → from ≤ at → at ≤ to → BindersTaken from to (binders_stuck at)
stuck_binders from to at l h = record { taken = record { stuck = (missing_at from to at l h, tt); rest = tt }; value = tt }

-- where such a fault stands, nothing more is told
stuck_there : (from to at : ℕ) → Each (IsWithin from to) (stuck_fault (Some at)) → BindersTaken from to (binders_stuck at)
stuck_there from to at h = record { taken = record { stuck = h; rest = tt }; value = tt }

abbrev BinderStands : ℕ → ℕ → BinderText → Type 0
BinderStands from to b = BindersStand from to (b ∷ [])

in_front : (from to : ℕ) (b : BinderText) (t : Taken (List BinderText)) → BinderStands from to b → BindersTaken from to t → BindersTaken from to (with_binder b t)
in_front from to (variables ws) t hb ht = record { taken = record { stuck = ht.taken.stuck; rest = ht.taken.rest }; value = (hb.0, ht.value) }
in_front from to (hypothesis h p) t hb ht = record { taken = record { stuck = ht.taken.stuck; rest = ht.taken.rest }; value = (hb.0, ht.value) }

-- what comes behind a binder
abbrev Goes : ℕ → ℕ → (List Word → Taken (List BinderText)) → Type 0
Goes from to more = (ws : List Word) → AreOrdered from to ws → BindersTaken from to (more ws)

closed_stands : (from to : ℕ) (b : BinderText) (more : List Word → Taken (List BinderText)) (ws : List Word) → from < to → AreOrdered from to ws → BinderStands from to b → Goes from to more
    → BindersTaken from to (binder_closed to b more ws)
closed_stands from to b more ws l h hb go =
    let t = (token_is is_close from to ws l h).0 in
    in_front from to b _ hb (
    elim (token_taken is_close to ws).stuck as (λ s. Each (IsWithin from to) (stuck_fault s) → BindersTaken from to (elim s as (λ _. Taken (List BinderText)) [ Some at ↦ binders_stuck at | None ↦ more (token_taken is_close to ws).rest ])) [
      | Some at ↦ λ s. stuck_there from to at s
      | None ↦ λ s. go (token_taken is_close to ws).rest t.rest
    ] t.stuck)

hypothesis_part : (from to : ℕ) (ws : List Word) → from < to → AreOrdered from to ws → PartStands from to (Some (hypothesis_taken to ws).value)
hypothesis_part from to ws l h =
    let n = length_of_hypothesis 0 ws in
    let up = place_up from to (drop n ws) l (back_after from to n ws h) in
    (up.0, up.1, front_before from to n ws h)

hypothesis_stands : (from to : ℕ) (names : List Word) (more : List Word → Taken (List BinderText)) (ws : List Word) → from < to → AreInside from to names → AreOrdered from to ws → Goes from to more
    → BindersTaken from to (hypothesis_named to names more ws)
hypothesis_stands from to [] more ws l hn h go = let up = place_up from to ws l h in stuck_binders from to (place to ws) (omega (arith, up.0)) up.1
hypothesis_stands from to (x ∷ []) more ws l hn h go =
    closed_stands from to (hypothesis x (hypothesis_taken to ws).value) more (hypothesis_taken to ws).rest l (back_after from to (length_of_hypothesis 0 ws) ws h) ((hn.0, hypothesis_part from to ws l h), tt) go
hypothesis_stands from to (x ∷ y ∷ names) more ws l hn h go = let up = place_up from to ws l h in stuck_binders from to (place to ws) (omega (arith, up.0)) up.1

typed_stands : (from to : ℕ) (names : List Word) (more : List Word → Taken (List BinderText)) (ws : List Word) → from < to → AreInside from to names → AreOrdered from to ws → Goes from to more
    → BindersTaken from to (binder_typed to names more ws)
typed_stands from to names more [] l hn h go = hypothesis_stands from to names more [] l hn h go
typed_stands from to names more (w ∷ ws) l hn h go =
    elim (is_nat w) as (λ b. BindersTaken from to (if b then binder_closed to (variables names) more ws else hypothesis_named to names more (w ∷ ws))) [
      | true ↦ closed_stands from to (variables names) more ws l (back_after from to 1 (w ∷ ws) h) (hn, tt) go
      | false ↦ hypothesis_stands from to names more (w ∷ ws) l hn h go
    ]

names_stand : (from to : ℕ) (ws : List Word) → from < to → AreOrdered from to ws → IsTaken from to (names_taken to ws)
names_stand from to ws l h =
    let n = names_length ws in
    let back = back_after from to n ws h in
    let up = place_up from to ws l h in
    record {
      stuck = (elim (n == 0) as (λ b. Each (IsWithin from to) (stuck_fault (if b then Some (place to ws) else None))) [ true ↦ (missing_at from to (place to ws) (omega (arith, up.0)) up.1, tt) | false ↦ tt ]);
      rest = back;
    }

named_stands : (from to : ℕ) (ws : List Word) (more : List Word → Taken (List BinderText)) → from < to → AreOrdered from to ws → Goes from to more → BindersTaken from to (binder_named to (names_taken to ws) more)
named_stands from to ws more l h go =
    let names = names_taken to ws in
    let s = names_stand from to ws l h in
    let c = (token_is is_colon from to names.rest l s.rest).0 in
    elim names.stuck as (λ o. Each (IsWithin from to) (stuck_fault o) → BindersTaken from to (elim o as (λ _. Taken (List BinderText)) [
      | Some at ↦ binders_stuck at
      | None ↦ elim (token_taken is_colon to names.rest).stuck as (λ _. Taken (List BinderText)) [ Some at ↦ binders_stuck at | None ↦ binder_typed to names.value more (token_taken is_colon to names.rest).rest ]
    ])) [
      | Some at ↦ λ o. stuck_there from to at o
      | None ↦ λ o. elim (token_taken is_colon to names.rest).stuck as (λ q. Each (IsWithin from to) (stuck_fault q) → BindersTaken from to (elim q as (λ _. Taken (List BinderText)) [
        | Some at ↦ binders_stuck at
        | None ↦ binder_typed to names.value more (token_taken is_colon to names.rest).rest
      ])) [
        | Some at ↦ λ q. stuck_there from to at q
        | None ↦ λ q. typed_stands from to names.value more (token_taken is_colon to names.rest).rest l (taken_within from to (names_length ws) ws (inside_of from to ws h)) c.rest go
      ] c.stuck
    ] s.stuck

binders_stand : (turns from to : ℕ) (ws : List Word) → from < to → AreOrdered from to ws → BindersTaken from to (binders_taken turns to ws)
binders_stand zero from to ws l h = record { taken = record { stuck = tt; rest = h }; value = tt }
binders_stand (suc turns) from to [] l h = record { taken = record { stuck = tt; rest = tt }; value = tt }
binders_stand (suc turns) from to (w ∷ ws) l h =
    elim (is_open w) as (λ b. BindersTaken from to (if b then binder_named to (names_taken to ws) (binders_taken turns to) else record { value = []; stuck = None; rest = w ∷ ws })) [
      | true ↦ named_stands from to ws (binders_taken turns to) l (back_after from to 1 (w ∷ ws) h) (λ vs g. binders_stand turns from to vs l g)
      | false ↦ record { taken = record { stuck = tt; rest = h }; value = tt }
    ]

-- ---- target and block

block_stands : (from to : ℕ) (ws : List Word) → from < to → AreOrdered from to ws → BlockTaken from to (block_taken to ws)
block_stands from to [] l h = record { taken = record { stuck = (missing_at from to to (omega (arith, l)) (omega arith), tt); rest = tt }; value = tt }
block_stands from to (w ∷ ws) l h =
    let n = length_before (ends_block w.column) ws in
    let back = back_after from to (suc n) (w ∷ ws) h in
    let up = place_up from to (drop n ws) l back in
    record { taken = record { stuck = tt; rest = back }; value = ((up.0, up.1, front_before from to (suc n) (w ∷ ws) h), ending from to (suc n) (w ∷ ws) h) }

no_block : (from to at : ℕ) → Each (IsWithin from to) (stuck_fault (Some at)) → BlockTaken from to (record { value = None; stuck = Some at; rest = [] })
no_block from to at s = record { taken = record { stuck = s; rest = tt }; value = tt }

proof_stands : (from to : ℕ) (ws : List Word) → from < to → AreOrdered from to ws → BlockTaken from to (proof_taken to ws)
proof_stands from to ws l h =
    let a = (token_is is_assign from to ws l h).0 in
    let rest = (token_taken is_assign to ws).rest in
    let b = (token_is (is_word (codes "by")) from to rest l a.rest).0 in
    elim (token_taken is_assign to ws).stuck as (λ o. Each (IsWithin from to) (stuck_fault o) → BlockTaken from to (elim o as (λ _. Taken (Option Part)) [
      | Some at ↦ record { value = None; stuck = Some at; rest = [] }
      | None ↦ elim (token_taken (is_word (codes "by")) to rest).stuck as (λ _. Taken (Option Part)) [
        | Some at ↦ record { value = None; stuck = Some at; rest = [] }
        | None ↦ block_taken to (token_taken (is_word (codes "by")) to rest).rest
      ]
    ])) [
      | Some at ↦ λ s. no_block from to at s
      | None ↦ λ s. elim (token_taken (is_word (codes "by")) to rest).stuck as (λ o. Each (IsWithin from to) (stuck_fault o) → BlockTaken from to (elim o as (λ _. Taken (Option Part)) [
        | Some at ↦ record { value = None; stuck = Some at; rest = [] }
        | None ↦ block_taken to (token_taken (is_word (codes "by")) to rest).rest
      ])) [
        | Some at ↦ λ q. no_block from to at q
        | None ↦ λ q. block_stands from to (token_taken (is_word (codes "by")) to rest).rest l b.rest
      ] b.stuck
    ] a.stuck

target_stands : (from to : ℕ) (name : Option Word) (binders : List BinderText) (ws : List Word) → from < to → AreOrdered from to ws → OneStands from to name → BindersStand from to binders
    → StatementStands from to (target_told to name binders ws)
target_stands from to name binders ws l h hn hb =
    let n = length_before is_assign ws in
    let back = back_after from to n ws h in
    let up = place_up from to (drop n ws) l back in
    let b = proof_stands from to (drop n ws) l back in
    record {
      stuck = or_ended_within from to (proof_taken to (drop n ws)).stuck (proof_taken to (drop n ws)).rest b.taken.stuck (inside_of from to _ b.taken.rest);
      name = hn;
      binders = hb;
      target = (up.0, up.1, front_before from to n ws h);
      block = b.value;
    }

-- ---- all

told_binders : (from to : ℕ) (name : Option Word) (t : Taken (List BinderText)) → from < to → OneStands from to name → BindersTaken from to t → StatementStands from to (statement_binders to name t)
told_binders from to name t l hn ht =
    elim t.stuck as (λ o. Each (IsWithin from to) (stuck_fault o) → StatementStands from to (elim o as (λ _. Told StatementText) [
      | Some at ↦ record { value = record { name = name; binders = t.value; target = None; block = None }; stuck = Some at }
      | None ↦ statement_colon to name t.value (token_taken is_colon to t.rest)
    ])) [
      | Some at ↦ λ s. record { stuck = s; name = hn; binders = ht.value; target = tt; block = tt }
      | None ↦ λ s.
          let c = (token_is is_colon from to t.rest l ht.taken.rest).0 in
          elim (token_taken is_colon to t.rest).stuck as (λ o. Each (IsWithin from to) (stuck_fault o) → StatementStands from to (elim o as (λ _. Told StatementText) [
            | Some at ↦ record { value = record { name = name; binders = t.value; target = None; block = None }; stuck = Some at }
            | None ↦ target_told to name t.value (token_taken is_colon to t.rest).rest
          ])) [
            | Some at ↦ λ s. record { stuck = s; name = hn; binders = ht.value; target = tt; block = tt }
            | None ↦ λ s. target_stands from to name t.value (token_taken is_colon to t.rest).rest l c.rest hn ht.value
          ] c.stuck
    ] ht.taken.stuck

name_told : (from to : ℕ) (ws : List Word) → from < to → AreOrdered from to ws → StatementStands from to (statement_name to ws)
name_told from to [] l h = told_binders from to None (binders_taken 0 to []) l tt (binders_stand 0 from to [] l tt)
name_told from to (w ∷ ws) l h =
    elim (is_plain w) as (λ b. StatementStands from to (
    if b then statement_binders to (Some w) (binders_taken (length ws) to ws) else statement_binders to None (binders_taken (length (w ∷ ws)) to (w ∷ ws)))) [
      | true ↦ told_binders from to (Some w) _ l h.0 (binders_stand (length ws) from to ws l (back_after from to 1 (w ∷ ws) h))
      | false ↦ told_binders from to None _ l tt (binders_stand (length (w ∷ ws)) from to (w ∷ ws) l h)
    ]

pub statement_stands : (from to : ℕ) (ws : List Word) → from < to → AreOrdered from to ws → StatementStands from to (statement_told to ws)
statement_stands from to [] l h = name_told from to [] l h
statement_stands from to (w ∷ ws) l h =
    elim (is_text w) as (λ b. StatementStands from to (if b then statement_name to ws else statement_name to (w ∷ ws))) [
      | true ↦ name_told from to ws l (back_after from to 1 (w ∷ ws) h)
      | false ↦ name_told from to (w ∷ ws) l h
    ]
