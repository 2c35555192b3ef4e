-- Statements: what is told whole is what they are.
use Rattle.std.proofs.Common.{◌≡◌, ◌∙◌, ℕ, ◌≤◌, Bool, true, false, not, ◌&&◌, List, [], ◌∷◌, ◌++◌, length, take, drop, refl, sym, ap, subst, arith, append-nil, Option, Some, None, codes, if◌then◌else◌}
use Rattle.std.proofs.lemmas.List.{take-append-drop, length-append}
use Rattle.pg_base.specs.declared.token.TokenKind.{TokenKind}
use Rattle.pg_base.specs.declared.token.TokenKind.TheVariants as kind
use Rattle.pg_base.specs.Reserved.{is_reserved}
use Rattle.pg_base.specs.Tokens.{Word}
use Rattle.pg_script.specs.Data.{Part}
use Rattle.pg_script.specs.Marks.{place}
use Rattle.pg_gametext.specs.Commands.{is_text, is_text_kind, is_plain, is_word}
use Rattle.pg_gametext.specs.Forms.{Mark, is_colon, is_assign, kind_mark, mark, Told, Taken, or_ended, token_taken, length_before, part_taken, BinderText, StatementText, binders_taken, ends_block, block_taken, proof_by, proof_assigned, proof_taken, target_proved, target_part, target_told, statement_colon, statement_binders, statement_name, statement_told}
use Rattle.pg_gametext.specs.Grammar.{AreNone, AreBinders, no_binder, a_binder, some_variables, a_hypothesis, IsText, no_text, a_text, IsName, no_name, a_name, IsBlock, a_block, IsStatement, a_statement, whole, StatementLaw}
use Rattle.pg_gametext.proofs.Taking.{opens, colons, never, token_yes, stands, misses, taking, ended_nothing, none_before, part_is, plain_mark}
use Rattle.pg_gametext.proofs.Recursions.{no_rest}
use Rattle.pg_gametext.proofs.Bound.{binders_stand, binders_miss, binders_taking, colon_not_open, binders_read}

abbrev is_by : Word → Bool
is_by = is_word (codes "by")

abbrev some_statement : Option Word → List BinderText → Part → Part → StatementText
some_statement name binders target block = record { name = name; binders = binders; target = Some target; block = Some block }

-- ---- blocks

record BlockTold (end : ℕ) (ws : List Word) (o : Option Part) : Type 0 where
  block : Part
  is : IsBlock end ws block
  value : o ≡ Some block

block_of : (end : ℕ) (ws : List Word) → or_ended (block_taken end ws).stuck (block_taken end ws).rest ≡ None → BlockTold end ws (block_taken end ws).value
block_of end [] h = absurd cc
block_of end (w ∷ ws) h =
    let n = length_before (ends_block w.column) ws in
    let none : drop n ws ≡ [] = ended_nothing (drop n ws) h in
    let all : take n ws ≡ ws = no_rest n ws none in
    record {
      block = record { tokens = w ∷ ws; end = end };
      is = a_block w ws (subst (AreNone (ends_block w.column)) all (none_before (ends_block w.column) ws));
      value =
          ap (λ (x : List Word). let o : Option Part = Some (record { tokens = w ∷ x; end = place end (drop n ws) }) in o) all
          ∙ ap (λ (x : List Word). let o : Option Part = Some (record { tokens = w ∷ ws; end = place end x }) in o) none;
    }

-- `:=`, `by` and the block
record ProofTold (end : ℕ) (ws : List Word) (o : Option Part) : Type 0 where
  assign : Word
  by : Word
  rest : List Word
  split : ws ≡ assign ∷ by ∷ rest
  good_assign : is_assign assign ≡ true
  good_by : is_by by ≡ true
  told : BlockTold end rest o

abbrev IsWhole : Taken (Option Part) → Type 0
IsWhole t = or_ended t.stuck t.rest ≡ None

not_whole : {A : Type 0} (t : Taken (Option Part)) (at : ℕ) → t.stuck ≡ Some at → IsWhole t → A
not_whole t at e h = absurd (let g : or_ended (Some at) t.rest ≡ None = sym (ap (λ o. or_ended o t.rest) e) ∙ h in cc)

proof_of : (end : ℕ) (ws : List Word) → IsWhole (proof_taken end ws) → ProofTold end ws (proof_taken end ws).value
proof_of end ws h = elim (taking is_assign end ws) [
  | misses at e ↦ not_whole (proof_taken end ws) at (ap (λ (t : Taken (Option Word)). (proof_assigned end t).stuck) e) h
  | stands a more is ga e ↦
      let first : proof_taken end ws ≡ proof_by end (token_taken is_by end more) = ap (proof_assigned end) e in
      elim (taking is_by end more) [
        | misses at m ↦ not_whole (proof_taken end ws) at (ap (λ (t : Taken (Option Part)). t.stuck) first ∙ ap (λ (t : Taken (Option Word)). (proof_by end t).stuck) m) h
        | stands b rest split gb m ↦
            let second : proof_taken end ws ≡ block_taken end rest = first ∙ ap (proof_by end) m in
            let told = block_of end rest (subst IsWhole second h) in
            record {
              assign = a;
              by = b;
              rest = rest;
              split = is ∙ ap (λ (x : List Word). a ∷ x) split;
              good_assign = ga;
              good_by = gb;
              told = record { block = told.block; is = told.is; value = ap (λ (t : Taken (Option Part)). t.value) second ∙ told.value };
            }
      ]
]

abbrev block_with : Word → Taken Part → Taken (Option Part)
block_with w p = record { value = Some (record { tokens = w ∷ p.value.tokens; end = p.value.end }); stuck = None; rest = p.rest }

block_read : (end : ℕ) (w : Word) (ws : List Word) → AreNone (ends_block w.column) ws → block_taken end (w ∷ ws) ≡ record { value = Some (record { tokens = w ∷ ws; end = end }); stuck = None; rest = [] }
block_read end w ws none =
    ap (λ (x : List Word). block_with w (part_taken (ends_block w.column) end x)) (sym (append-nil ws)) ∙ ap (block_with w) (part_is (ends_block w.column) end ws [] none tt)

proof_read : (end : ℕ) (a b : Word) (vs : List Word) (block : Part) → is_assign a ≡ true → is_by b ≡ true → IsBlock end vs block → proof_taken end (a ∷ b ∷ vs) ≡ record { value = Some block; stuck = None; rest = [] }
proof_read end a b _ _ ga gb (a_block w ws none) =
    ap (proof_assigned end) (token_yes is_assign end a (b ∷ w ∷ ws) ga)
    ∙ ap (proof_by end) (token_yes is_by end b (w ∷ ws) gb)
    ∙ block_read end w ws none

-- ---- behind text and name

target_of : (end : ℕ) (ts ns front body : List Word) (c : Word) (name : Option Word) (binders : List BinderText) (t : StatementText) → IsText ts → IsName ns name → AreBinders front binders → is_colon c ≡ true
    → target_told end name binders body ≡ whole t → IsStatement end (ts ++ (ns ++ (front ++ c ∷ body))) t
target_of end ts ns front body c name binders t ht hn hb gc h =
    let n = length_before is_assign body in
    let target : Part = record { tokens = take n body; end = place end (drop n body) } in
    let p = proof_of end (drop n body) (ap (λ (x : Told StatementText). x.stuck) h) in
    let body_is : take n body ++ p.assign ∷ p.by ∷ p.rest ≡ body = ap (λ (x : List Word). take n body ++ x) (sym p.split) ∙ take-append-drop n body in
    let made = a_statement ts ns front (take n body) p.rest c p.assign p.by name binders p.told.block ht hn hb gc (none_before is_assign body) p.good_assign p.good_by p.told.is in
    let with_end = ap (λ (x : List Word). some_statement name binders (record { tokens = take n body; end = place end x }) p.told.block) (sym p.split) in
    let with_block = ap (λ (o : Option Part). let s : StatementText = record { name = name; binders = binders; target = Some target; block = o } in s) (sym p.told.value) in
    subst (λ (x : List Word). IsStatement end (ts ++ (ns ++ (front ++ c ∷ x))) t) body_is
    (subst (IsStatement end (ts ++ (ns ++ (front ++ (c ∷ take n body ++ p.assign ∷ p.by ∷ p.rest))))) (with_end ∙ with_block ∙ ap (λ (x : Told StatementText). x.value) h) made)

binders_of : (turns end : ℕ) (ts ns ws : List Word) (name : Option Word) (t : StatementText) → IsText ts → IsName ns name → statement_binders end name (binders_taken turns end ws) ≡ whole t → IsStatement end (ts ++ (ns ++ ws)) t
binders_of turns end ts ns ws name t ht hn h = elim (binders_taking turns end ws) [
  | binders_miss at e ↦ never _ t at h (stuck_there end name (binders_taken turns end ws) at e)
  | binders_stand front binders rest split are e ↦
      let g : statement_colon end name binders (token_taken is_colon end rest) ≡ whole t = sym (ap (statement_binders end name) e) ∙ h in
      elim (taking is_colon end rest) [
        | misses at m ↦ never _ t at g (ap (λ (x : Taken (Option Word)). (statement_colon end name binders x).stuck) m)
        | stands c body is gc m ↦
            subst (λ (x : List Word). IsStatement end (ts ++ (ns ++ x)) t) (ap (λ (x : List Word). front ++ x) (sym is) ∙ sym split)
            (target_of end ts ns front body c name binders t ht hn are gc (sym (ap (statement_colon end name binders) m) ∙ g))
      ]
]
  where
    stuck_there : (end : ℕ) (name : Option Word) (x : Taken (List BinderText)) (at : ℕ) → x.stuck ≡ Some at → (statement_binders end name x).stuck ≡ Some at
    stuck_there end name x at e = ap (λ o. (elim o as (λ _. Told StatementText) [
      | Some at ↦ record { value = record { name = name; binders = x.value; target = None; block = None }; stuck = Some at }
      | None ↦ statement_colon end name x.value (token_taken is_colon end x.rest)
    ]).stuck) e

name_of : (end : ℕ) (ts ws : List Word) (t : StatementText) → IsText ts → statement_name end ws ≡ whole t → IsStatement end (ts ++ ws) t
name_of end ts [] t ht h = binders_of 0 end ts [] [] None t ht no_name h
name_of end ts (w ∷ ws) t ht h =
    elim (is_plain w) as (λ b. is_plain w ≡ b → (if b then statement_binders end (Some w) (binders_taken (length ws) end ws) else statement_binders end None (binders_taken (length (w ∷ ws)) end (w ∷ ws))) ≡ whole t → IsStatement end (ts ++ w ∷ ws) t) [
      | true ↦ λ gw h. binders_of (length ws) end ts (w ∷ []) ws (Some w) t ht (a_name w gw) h
      | false ↦ λ gw h. binders_of (length (w ∷ ws)) end ts [] (w ∷ ws) None t ht no_name h
    ] refl h

statement_of : (end : ℕ) (ws : List Word) (t : StatementText) → statement_told end ws ≡ whole t → IsStatement end ws t
statement_of end [] t h = name_of end [] [] t no_text h
statement_of end (w ∷ ws) t h =
    elim (is_text w) as (λ b. is_text w ≡ b → (if b then statement_name end ws else statement_name end (w ∷ ws)) ≡ whole t → IsStatement end (w ∷ ws) t) [
      | true ↦ λ gw h. name_of end (w ∷ []) ws t (a_text w gw) h
      | false ↦ λ gw h. name_of end [] (w ∷ ws) t no_text h
    ] refl h

-- ---- and back

-- a sign is no text, and no name
sign_kind : (k : TokenKind) (P : Mark → Bool) → P (kind_mark kind.Name) ≡ false → P (kind_mark k) ≡ true → is_text_kind k ≡ false
sign_kind kind.Name P n e = refl
sign_kind kind.Number P n e = refl
sign_kind kind.Text P n e = absurd (let g : true ≡ false = sym e ∙ n in cc)
sign_kind (kind.Sign s) P n e = refl

not_text : (w : Word) (P : Mark → Bool) → P (kind_mark kind.Name) ≡ false → P (mark w) ≡ true → is_text w ≡ false
not_text w P n e = sign_kind w.kind P n e

not_plain : (w : Word) (P : Mark → Bool) → P (kind_mark kind.Name) ≡ false → P (mark w) ≡ true → is_plain w ≡ false
not_plain w P n e = elim (is_plain w) as (λ b. is_plain w ≡ b → b ≡ false) [
  | true ↦ λ p. absurd (let g : true ≡ false = sym e ∙ ap P (plain_mark w p) ∙ n in cc)
  | false ↦ λ p. refl
] refl

-- what stands behind the name begins with neither
abbrev BeginsSigned : List Word → Type 0
BeginsSigned [] = Unit {0}
BeginsSigned (w ∷ ws) = (is_text w ≡ false) × (is_plain w ≡ false)

signed : (front : List Word) (bs : List BinderText) (c : Word) (body : List Word) → AreBinders front bs → is_colon c ≡ true → BeginsSigned (front ++ c ∷ body)
signed _ _ c body no_binder gc = (not_text c colons refl gc, not_plain c colons refl gc)
signed _ _ c body (a_binder _ vs _ bs (some_variables o d n k names go plain gd gn gk) more) gc = (not_text o opens refl go, not_plain o opens refl go)
signed _ _ c body (a_binder _ vs _ bs (a_hypothesis o h d k ws go gh gd other hm gk) more) gc = (not_text o opens refl go, not_plain o opens refl go)

plain_text : (k : TokenKind) (b : Bool) → (elim k as (λ _. Bool) [ kind.Name ↦ true | _ ↦ false ]) && b ≡ true → is_text_kind k ≡ false
plain_text kind.Name b e = refl
plain_text kind.Number b e = refl
plain_text kind.Text b e = absurd cc
plain_text (kind.Sign s) b e = refl

plain_not_text : (w : Word) → is_plain w ≡ true → is_text w ≡ false
plain_not_text w e = plain_text w.kind (not (is_reserved w.text)) e

target_read : (end : ℕ) (name : Option Word) (bs : List BinderText) (ws vs : List Word) (a b : Word) (block : Part) → AreNone is_assign ws → is_assign a ≡ true → is_by b ≡ true → IsBlock end vs block
    → target_told end name bs (ws ++ a ∷ b ∷ vs) ≡ whole (some_statement name bs (record { tokens = ws; end = a.at }) block)
target_read end name bs ws vs a b block none ga gb hb =
    ap (target_part end name bs) (part_is is_assign end ws (a ∷ b ∷ vs) none ga)
    ∙ ap (target_proved name bs (record { tokens = ws; end = a.at })) (proof_read end a b vs block ga gb hb)

claim_read : (end turns : ℕ) (name : Option Word) (front : List Word) (bs : List BinderText) (ws vs : List Word) (c a b : Word) (block : Part) → AreBinders front bs → is_colon c ≡ true → AreNone is_assign ws → is_assign a ≡ true → is_by b ≡ true
    → IsBlock end vs block → length front ≤ turns
    → statement_binders end name (binders_taken turns end (front ++ (c ∷ ws ++ a ∷ b ∷ vs))) ≡ whole (some_statement name bs (record { tokens = ws; end = a.at }) block)
claim_read end turns name front bs ws vs c a b block are gc none ga gb hb l =
    let body = ws ++ a ∷ b ∷ vs in
    ap (statement_binders end name) (binders_read turns end front bs (c ∷ body) are l (colon_not_open c gc))
    ∙ ap (statement_colon end name bs) (token_yes is_colon end c body gc)
    ∙ target_read end name bs ws vs a b block none ga gb hb

abbrev named_of : ℕ → Bool → Word → List Word → Told StatementText
named_of end b w ws = if b then statement_binders end (Some w) (binders_taken (length ws) end ws) else statement_binders end None (binders_taken (length (w ∷ ws)) end (w ∷ ws))

name_signed : (end : ℕ) (ws : List Word) → BeginsSigned ws → statement_name end ws ≡ statement_binders end None (binders_taken (length ws) end ws)
name_signed end [] h = refl
name_signed end (w ∷ ws) h = ap (λ b. named_of end b w ws) h.1

name_named : (end : ℕ) (n : Word) (ws : List Word) → is_plain n ≡ true → statement_name end (n ∷ ws) ≡ statement_binders end (Some n) (binders_taken (length ws) end ws)
name_named end n ws h = ap (λ b. named_of end b n ws) h

abbrev texted : ℕ → Bool → Word → List Word → Told StatementText
texted end b w ws = if b then statement_name end ws else statement_name end (w ∷ ws)

told_signed : (end : ℕ) (ws : List Word) → BeginsSigned ws → statement_told end ws ≡ statement_name end ws
told_signed end [] h = refl
told_signed end (w ∷ ws) h = ap (λ b. texted end b w ws) h.0

-- behind the text, if there is one
name_read : (end : ℕ) (ns bs ws vs : List Word) (c a b : Word) (name : Option Word) (binders : List BinderText) (block : Part) → IsName ns name → AreBinders bs binders → is_colon c ≡ true → AreNone is_assign ws → is_assign a ≡ true
    → is_by b ≡ true → IsBlock end vs block → statement_name end (ns ++ (bs ++ (c ∷ ws ++ a ∷ b ∷ vs))) ≡ whole (some_statement name binders (record { tokens = ws; end = a.at }) block)
name_read end _ bs ws vs c a b _ binders block no_name hb gc none ga gb hk =
    let all = bs ++ (c ∷ ws ++ a ∷ b ∷ vs) in
    let long = length-append bs (c ∷ ws ++ a ∷ b ∷ vs) in
    name_signed end all (signed bs binders c (ws ++ a ∷ b ∷ vs) hb gc) ∙ claim_read end (length all) None bs binders ws vs c a b block hb gc none ga gb hk (omega (arith, long))
name_read end _ bs ws vs c a b _ binders block (a_name n gn) hb gc none ga gb hk =
    let all = bs ++ (c ∷ ws ++ a ∷ b ∷ vs) in
    let long = length-append bs (c ∷ ws ++ a ∷ b ∷ vs) in
    name_named end n all gn ∙ claim_read end (length all) (Some n) bs binders ws vs c a b block hb gc none ga gb hk (omega (arith, long))

statement_read : (end : ℕ) (ws : List Word) (t : StatementText) → IsStatement end ws t → statement_told end ws ≡ whole t
statement_read end _ _ (a_statement _ _ bs ws vs c a b _ binders block no_text no_name hb gc none ga gb hk) =
    told_signed end (bs ++ (c ∷ ws ++ a ∷ b ∷ vs)) (signed bs binders c (ws ++ a ∷ b ∷ vs) hb gc) ∙ name_read end [] bs ws vs c a b None binders block no_name hb gc none ga gb hk
statement_read end _ _ (a_statement _ _ bs ws vs c a b _ binders block no_text (a_name n gn) hb gc none ga gb hk) =
    ap (λ x. texted end x n (bs ++ (c ∷ ws ++ a ∷ b ∷ vs))) (plain_not_text n gn) ∙ name_read end (n ∷ []) bs ws vs c a b (Some n) binders block (a_name n gn) hb gc none ga gb hk
statement_read end _ _ (a_statement _ ns bs ws vs c a b name binders block (a_text t gt) hn hb gc none ga gb hk) =
    ap (λ x. texted end x t (ns ++ (bs ++ (c ∷ ws ++ a ∷ b ∷ vs)))) gt ∙ name_read end ns bs ws vs c a b name binders block hn hb gc none ga gb hk

pub statement-law : StatementLaw
statement-law end ws t = (statement_of end ws t, statement_read end ws t)
