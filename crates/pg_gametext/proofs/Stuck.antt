-- Where one token or a list of names is stuck, none begins so.
use Rattle.std.proofs.Common.{◌≡◌, ◌∙◌, ℕ, suc, ◌<◌, Bool, true, false, List, [], ◌∷◌, ◌++◌, length, take, drop, refl, sym, ap, subst, arith, append-nil, Option, Some, None, codes, if◌then◌else◌}
use Rattle.std.specs.Prelude.{◌==◌}
use Rattle.std.proofs.lemmas.List.{take-append-drop}
use Rattle.pg_base.specs.declared.token.TokenKind.TheVariants as kind
use Rattle.pg_base.specs.Tokens.{Word}
use Rattle.pg_script.specs.Marks.{place}
use Rattle.pg_gametext.specs.Commands.{is_plain}
use Rattle.pg_gametext.specs.Forms.{ended, or_ended, names_length}
use Rattle.pg_gametext.specs.Grammar.{AreAll, AreNames, IsStuck, IsOneOf, OneStuckLaw, NamesStuckLaw}
use Rattle.pg_gametext.proofs.Taking.{not_nothing, yes, no, all_plain}

at_of : (x y : ℕ) → (let o : Option ℕ = Some x in o) ≡ Some y → y ≡ x
at_of x y e = cc

clash : {A : Type 0} → true ≡ false → A
clash e = absurd cc

-- the token behind which nothing may stand
record Behind (ws : List Word) (at : ℕ) : Type 0 where
  token : Word
  rest : List Word
  split : ws ≡ token ∷ rest
  place_is : at ≡ token.at

behind : (ws : List Word) (at : ℕ) → ended ws ≡ Some at → Behind ws at
behind [] at e = absurd cc
behind (w ∷ ws) at e = record { token = w; rest = ws; split = refl; place_is = at_of _ _ e }

-- ---- one token

not_none : (good : Word → Bool) → IsOneOf good [] → ⊥
not_none good h = let e : [] ≡ h.0 ∷ [] = h.1.0 in cc

head_is : (w x : Word) (ws vs : List Word) → w ∷ ws ≡ x ∷ vs → w ≡ x
head_is w x ws vs e = cc

not_bad : (good : Word → Bool) (w : Word) (more : List Word) → good w ≡ false → IsOneOf good (w ∷ more) → ⊥
not_bad good w more e h = clash (sym h.1.1 ∙ ap good (sym (head_is w h.0 more [] h.1.0)) ∙ e)

not_two : (good : Word → Bool) (w v : Word) (more : List Word) → IsOneOf good (w ∷ v ∷ more) → ⊥
not_two good w v more h = let e : w ∷ v ∷ more ≡ h.0 ∷ [] = h.1.0 in cc

pub one_stuck-law : OneStuckLaw
one_stuck-law good some end [] at gs e =
    record { front = []; rest = []; split = refl; place_is = at_of _ _ e; more = some ∷ []; begins = (some, (refl, gs)); barred = not_none good }
one_stuck-law good some end (w ∷ ws) at gs e =
    elim (good w) as (λ b. good w ≡ b → or_ended (if b then yes w ws else no w.at).stuck (if b then yes w ws else no w.at).rest ≡ Some at → IsStuck end (w ∷ ws) (IsOneOf good) at) [
      | true ↦ λ gw e.
          let b = behind ws at e in
          record {
            front = w ∷ [];
            rest = b.token ∷ b.rest;
            split = ap (λ (x : List Word). w ∷ x) b.split;
            place_is = b.place_is;
            more = [];
            begins = (w, (refl, gw));
            barred = λ more h. not_two good w b.token more h;
          }
      | false ↦ λ gw e.
          record {
            front = [];
            rest = w ∷ ws;
            split = refl;
            place_is = at_of _ _ e;
            more = some ∷ [];
            begins = (some, (refl, gs));
            barred = λ more h. not_bad good w more gw h;
          }
    ] refl e

-- ---- names

abbrev some_name : Word
some_name = record { kind = kind.Name; text = codes "a"; at = 0; column = 0; first = false }

all_right : (xs ys : List Word) → AreAll is_plain (xs ++ ys) → AreAll is_plain ys
all_right [] ys h = h
all_right (x ∷ xs) ys h = all_right xs ys h.1

-- the token at which names end is none
ends_names : (ws : List Word) (v : Word) (rest : List Word) → drop (names_length ws) ws ≡ v ∷ rest → is_plain v ≡ false
ends_names [] v rest e = absurd cc
ends_names (w ∷ ws) v rest e =
    elim (is_plain w) as (λ b. is_plain w ≡ b → drop (if b then suc (names_length ws) else 0) (w ∷ ws) ≡ v ∷ rest → is_plain v ≡ false) [
      | true ↦ λ gw e. ends_names ws v rest e
      | false ↦ λ gw e. ap is_plain (sym (head_is w v ws rest e)) ∙ gw
    ] refl e

no_name_first : (w : Word) (ws : List Word) → (names_length (w ∷ ws) == 0) ≡ true → is_plain w ≡ false
no_name_first w ws e =
    elim (is_plain w) as (λ b. is_plain w ≡ b → ((if b then suc (names_length ws) else 0) == 0) ≡ true → b ≡ false) [
      | true ↦ λ gw e. absurd (no_suc (names_length ws) e)
      | false ↦ λ gw e. refl
    ] refl e
  where
    no_suc : (n : ℕ) → (suc n == 0) ≡ true → ⊥
    no_suc n e = clash (sym e ∙ not_nothing (suc n) (omega arith))

some_front : (ws : List Word) → (names_length ws == 0) ≡ false → 0 < length (take (names_length ws) ws)
some_front [] e = absurd cc
some_front (w ∷ ws) e =
    elim (is_plain w) as (λ b. ((if b then suc (names_length ws) else 0) == 0) ≡ false → 0 < length (take (if b then suc (names_length ws) else 0) (w ∷ ws))) [
      | true ↦ λ e. omega arith
      | false ↦ λ e. absurd cc
    ] e

nothing_named : (end : ℕ) (ws : List Word) (at : ℕ) → (names_length ws == 0) ≡ true → at ≡ place end ws → IsStuck end ws AreNames at
nothing_named end [] at e is = record { front = []; rest = []; split = refl; place_is = is; more = some_name ∷ []; begins = (omega arith, (refl, tt)); barred = λ h. omega (arith, h.0) }
nothing_named end (w ∷ ws) at e is =
    record {
      front = [];
      rest = w ∷ ws;
      split = refl;
      place_is = is;
      more = some_name ∷ [];
      begins = (omega arith, (refl, tt));
      barred = λ more h. clash (sym h.1.0 ∙ no_name_first w ws e);
    }

pub names_stuck-law : NamesStuckLaw
names_stuck-law end ws at e =
    let n = names_length ws in
    elim (n == 0) as (λ b. (n == 0) ≡ b → or_ended (if b then Some (place end ws) else None) (drop n ws) ≡ Some at → IsStuck end ws AreNames at) [
      | true ↦ λ none e. nothing_named end ws at none (at_of _ _ e)
      | false ↦ λ some e.
          let b = behind (drop n ws) at e in
          let front_names : AreNames (take n ws ++ []) = subst AreNames (sym (append-nil (take n ws))) (some_front ws some, all_plain ws) in
          record {
            front = take n ws;
            rest = b.token ∷ b.rest;
            split = sym (take-append-drop n ws) ∙ ap (λ (x : List Word). take n ws ++ x) b.split;
            place_is = b.place_is;
            more = [];
            begins = front_names;
            barred = λ more h. clash (sym (all_right (take n ws) (b.token ∷ more) h.1).0 ∙ ends_names ws b.token b.rest b.split);
          }
    ] refl e
