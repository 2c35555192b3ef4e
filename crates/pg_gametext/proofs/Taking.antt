-- Parts one behind the other: where one is told whole, and which tokens it is.
use Rattle.std.proofs.Common.{◌≡◌, ◌∙◌, ℕ, ◌<◌, zero, suc, Bool, true, false, not, ◌&&◌, ◌||◌, List, [], ◌∷◌, ◌++◌, length, take, drop, refl, sym, ap, subst, arith, append_assoc, Option, Some, None, nat_lt, if◌then◌else◌}
use Rattle.std.specs.Prelude.{◌==◌}
use Rattle.std.proofs.lemmas.Bool.Decides.{nat_tests}
use Rattle.pg_base.specs.declared.token.TokenKind.{TokenKind}
use Rattle.pg_base.specs.declared.token.TokenKind.TheVariants as kind
use Rattle.pg_base.specs.Tokens.{Word}
use Rattle.pg_base.specs.Reserved.{is_reserved}
use Rattle.pg_script.specs.Data.{Part}
use Rattle.pg_script.specs.Marks.{place}
use Rattle.pg_gametext.specs.Commands.{is_plain}
use Rattle.pg_gametext.specs.Forms.{Mark, Assign, Colon, Open, Close, kind_mark, mark, is_open, is_close, Told, Taken, ended, or_ended, token_taken, one_token, names_length, length_before, part_taken, at_most_two, are_few, parameters_closed, parameters_named, parameters_opened, parameters_taken}
use Rattle.pg_gametext.specs.Grammar.{AreAll, AreNone, IsOne, HasTwo, AreParameters, parameters, whole}
use Rattle.pg_gametext.proofs.Cut.{taken, left}

-- what is whole is not stuck
pub never : {X : Type 0} {A : Type 0} (t : Told X) (x : X) (at : ℕ) → t ≡ whole x → t.stuck ≡ Some at → A
never t x at e s = absurd (let n : t.stuck ≡ None = ap (λ (u : Told _). u.stuck) e in cc)

-- ---- truth values and counts

pub left_of : (a b : Bool) → a || b ≡ true → b ≡ false → a ≡ true
left_of true b e f = refl
left_of false b e f = absurd cc

pub right_true : (a b : Bool) → b ≡ true → a || b ≡ true
right_true true b e = refl
right_true false b e = e

pub not_nothing : (n : ℕ) → 0 < n → (n == 0) ≡ false
not_nothing n h = grind (arith, nat_tests, h)

-- ---- kinds of tokens

abbrev pub opens : Mark → Bool
opens m = elim m as (λ _. Bool) [ Open ↦ true | _ ↦ false ]

abbrev pub closes : Mark → Bool
closes m = elim m as (λ _. Bool) [ Close ↦ true | _ ↦ false ]

abbrev pub assigns : Mark → Bool
assigns m = elim m as (λ _. Bool) [ Assign ↦ true | _ ↦ false ]

abbrev pub colons : Mark → Bool
colons m = elim m as (λ _. Bool) [ Colon ↦ true | _ ↦ false ]

-- ---- one token

abbrev pub yes : Word → List Word → Taken (Option Word)
yes w rest = record { value = Some w; stuck = None; rest = rest }

abbrev pub no : ℕ → Taken (Option Word)
no at = record { value = None; stuck = Some at; rest = [] }

pub token_yes : (good : Word → Bool) (end : ℕ) (w : Word) (rest : List Word) → good w ≡ true → token_taken good end (w ∷ rest) ≡ yes w rest
token_yes good end w rest e = ap (λ b. if b then yes w rest else no w.at) e

pub data Taking (good : Word → Bool) (end : ℕ) (ws : List Word) : Type 0 where
  stands : (w : Word) (rest : List Word) → ws ≡ w ∷ rest → good w ≡ true → token_taken good end ws ≡ yes w rest → Taking good end ws
  misses : (at : ℕ) → token_taken good end ws ≡ no at → Taking good end ws

pub taking : (good : Word → Bool) (end : ℕ) (ws : List Word) → Taking good end ws
taking good end [] = misses end refl
taking good end (w ∷ ws) = elim (good w) as (λ b. good w ≡ b → Taking good end (w ∷ ws)) [
  | true ↦ λ e. stands w ws refl e (token_yes good end w ws e)
  | false ↦ λ e. misses w.at (ap (λ b. if b then yes w ws else no w.at) e)
] refl

pub ended_nothing : (ws : List Word) → ended ws ≡ None → ws ≡ []
ended_nothing [] e = refl
ended_nothing (w ∷ ws) e = absurd cc

-- one token and nothing behind it
pub record OneStands (good : Word → Bool) (end : ℕ) (ws : List Word) : Type 0 where
  pub token : Word
  pub one : IsOne good ws token
  pub value : (one_token good end ws).value ≡ Some token

pub one_stands : (good : Word → Bool) (end : ℕ) (ws : List Word) → (one_token good end ws).stuck ≡ None → OneStands good end ws
one_stands good end ws h = elim (taking good end ws) [
  | misses at e ↦ absurd (let g : or_ended (Some at) [] ≡ None = sym (ap (λ (t : Taken (Option Word)). or_ended t.stuck t.rest) e) ∙ h in cc)
  | stands w rest is good_w e ↦
      let none : rest ≡ [] = ended_nothing rest (sym (ap (λ (t : Taken (Option Word)). or_ended t.stuck t.rest) e) ∙ h) in
      record { token = w; one = (is ∙ ap (λ (x : List Word). w ∷ x) none, good_w); value = ap (λ (t : Taken (Option Word)). t.value) e }
]

pub one_is : (good : Word → Bool) (end : ℕ) (w : Word) → good w ≡ true → one_token good end (w ∷ []) ≡ whole (Some w)
one_is good end w e = ap (λ (t : Taken (Option Word)). let u : Told (Option Word) = record { value = t.value; stuck = or_ended t.stuck t.rest } in u) (token_yes good end w [] e)

-- ---- tokens before one of a kind

-- nothing, or one of the kind
abbrev pub Stops : (Word → Bool) → List Word → Type 0
Stops stops [] = Unit {0}
Stops stops (w ∷ ws) = stops w ≡ true

pub none_before : (stops : Word → Bool) (ws : List Word) → AreNone stops (take (length_before stops ws) ws)
none_before stops [] = tt
none_before stops (w ∷ ws) =
    elim (stops w) as (λ b. stops w ≡ b → AreNone stops (take (if b then 0 else suc (length_before stops ws)) (w ∷ ws))) [
      | true ↦ λ e. tt
      | false ↦ λ e. (e, none_before stops ws)
    ] refl

pub stops_behind : (stops : Word → Bool) (ws : List Word) → Stops stops (drop (length_before stops ws) ws)
stops_behind stops [] = tt
stops_behind stops (w ∷ ws) =
    elim (stops w) as (λ b. stops w ≡ b → Stops stops (drop (if b then 0 else suc (length_before stops ws)) (w ∷ ws))) [
      | true ↦ λ e. e
      | false ↦ λ e. stops_behind stops ws
    ] refl

before_length : (stops : Word → Bool) (ws next : List Word) → AreNone stops ws → Stops stops next → length_before stops (ws ++ next) ≡ length ws
before_length stops [] [] n s = refl
before_length stops [] (v ∷ next) n s = ap (λ b. if b then 0 else suc (length_before stops next)) s
before_length stops (w ∷ ws) next n s = ap (λ b. if b then 0 else suc (length_before stops (ws ++ next))) n.0 ∙ ap suc (before_length stops ws next n.1 s)

-- a part, and what is left
abbrev pub some_part : ℕ → (ws next : List Word) → Taken Part
some_part end ws next = record { value = record { tokens = ws; end = place end next }; stuck = None; rest = next }

abbrev cut_part : ℕ → ℕ → List Word → Taken Part
cut_part end n ws = some_part end (take n ws) (drop n ws)

pub part_is : (stops : Word → Bool) (end : ℕ) (ws next : List Word) → AreNone stops ws → Stops stops next → part_taken stops end (ws ++ next) ≡ some_part end ws next
part_is stops end ws next n s =
    ap (λ k. cut_part end k (ws ++ next)) (before_length stops ws next n s)
    ∙ ap (λ (x : List Word). some_part end x (drop (length ws) (ws ++ next))) (taken ws next)
    ∙ ap (some_part end ws) (left ws next)

-- ---- parameters

-- a name that isn't reserved is no sign
plain_kind : (k : TokenKind) (b : Bool) → (elim k as (λ _. Bool) [ kind.Name ↦ true | _ ↦ false ]) && b ≡ true → kind_mark k ≡ kind_mark kind.Name
plain_kind kind.Name b e = refl
plain_kind kind.Number b e = absurd cc
plain_kind kind.Text b e = absurd cc
plain_kind (kind.Sign s) b e = absurd cc

pub plain_mark : (w : Word) → is_plain w ≡ true → mark w ≡ kind_mark kind.Name
plain_mark w e = plain_kind w.kind (not (is_reserved w.text)) e

close_not_plain : (w : Word) → is_close w ≡ true → is_plain w ≡ false
close_not_plain w e = elim (is_plain w) as (λ b. is_plain w ≡ b → b ≡ false) [
  | true ↦ λ p. absurd (let g : false ≡ true = sym (ap closes (plain_mark w p)) ∙ e in cc)
  | false ↦ λ p. refl
] refl

pub all_plain : (ws : List Word) → AreAll is_plain (take (names_length ws) ws)
all_plain [] = tt
all_plain (w ∷ ws) =
    elim (is_plain w) as (λ b. is_plain w ≡ b → AreAll is_plain (take (if b then suc (names_length ws) else 0) (w ∷ ws))) [
      | true ↦ λ e. (e, all_plain ws)
      | false ↦ λ e. tt
    ] refl

all_front : (n : ℕ) (ws : List Word) → AreAll is_plain ws → AreAll is_plain (take n ws)
all_front zero ws h = tt
all_front (suc n) [] h = tt
all_front (suc n) (w ∷ ws) h = (h.0, all_front n ws h.1)

some_plain : (two : Bool) (ws : List Word) → AreAll is_plain (at_most_two two (take (names_length ws) ws))
some_plain false ws = all_plain ws
some_plain true ws = all_front 2 _ (all_plain ws)

front_of : (n : ℕ) (ws : List Word) → take n ws ++ drop (length (take n ws)) ws ≡ ws
front_of zero ws = refl
front_of (suc n) [] = refl
front_of (suc n) (w ∷ ws) = ap (λ (x : List Word). w ∷ x) (front_of n ws)

front_two : (m n : ℕ) (ws : List Word) → take m (take n ws) ++ drop (length (take m (take n ws))) ws ≡ ws
front_two zero n ws = refl
front_two (suc m) zero ws = refl
front_two (suc m) (suc n) [] = refl
front_two (suc m) (suc n) (w ∷ ws) = ap (λ (x : List Word). w ∷ x) (front_two m n ws)

some_front : (two : Bool) (n : ℕ) (ws : List Word) → let names = at_most_two two (take n ws) in names ++ drop (length names) ws ≡ ws
some_front false n ws = front_of n ws
some_front true n ws = front_two 2 n ws

-- two names where a sign is declared, and one at least
enough : (two : Bool) (ws : List Word) → are_few two (at_most_two two ws) ≡ false → HasTwo two (at_most_two two ws)
enough true [] e = absurd cc
enough true (a ∷ []) e = absurd cc
enough true (a ∷ b ∷ ws) e = refl
enough false [] e = absurd cc
enough false (a ∷ ws) e = omega arith

not_few : (two : Bool) (ws : List Word) → HasTwo two ws → are_few two ws ≡ false
not_few true [] h = absurd (omega (arith, h))
not_few true (a ∷ []) h = absurd (omega (arith, h))
not_few true (a ∷ b ∷ []) h = refl
not_few true (a ∷ b ∷ c ∷ ws) h = absurd (omega (arith, h))
not_few false [] h = absurd (omega (arith, h))
not_few false (a ∷ ws) h = ap (λ b. b || (false && nat_lt (suc (length ws)) 2)) (not_nothing (suc (length ws)) (omega arith))

as_many : (two : Bool) (ws : List Word) → HasTwo two ws → at_most_two two ws ≡ ws
as_many false ws h = refl
as_many true [] h = refl
as_many true (a ∷ []) h = refl
as_many true (a ∷ b ∷ []) h = refl
as_many true (a ∷ b ∷ c ∷ ws) h = absurd (omega (arith, h))

abbrev pub some_names : List Word → List Word → Taken (List Word)
some_names params rest = record { value = params; stuck = None; rest = rest }

pub data ParametersTaking (two : Bool) (end : ℕ) (ws : List Word) : Type 0 where
  params_stand : (ps params rest : List Word) → ws ≡ ps ++ rest → AreParameters two ps params → parameters_taken two end ws ≡ some_names params rest → ParametersTaking two end ws
  params_miss : (at : ℕ) (names : List Word) → parameters_taken two end ws ≡ record { value = names; stuck = Some at; rest = [] } → ParametersTaking two end ws

behind_taking : (two : Bool) (end : ℕ) (o : Word) (ws : List Word) → is_open o ≡ true → ParametersTaking two end (o ∷ ws)
behind_taking two end o ws go =
    let names = at_most_two two (take (names_length ws) ws) in
    let open_is : parameters_taken two end (o ∷ ws) ≡ parameters_named two end names ws = ap (parameters_opened two end) (token_yes is_open end o ws go) in
    elim (are_few two names) as (λ b. are_few two names ≡ b → ParametersTaking two end (o ∷ ws)) [
      | true ↦ λ e.
          params_miss (place end (drop (length names) ws)) names (
          open_is ∙ ap (λ b. if b then record { value = names; stuck = Some (place end (drop (length names) ws)); rest = [] } else parameters_closed names (token_taken is_close end (drop (length names) ws))) e)
      | false ↦ λ e.
          let named_is : parameters_taken two end (o ∷ ws) ≡ parameters_closed names (token_taken is_close end (drop (length names) ws)) =
          open_is ∙ ap (λ b. if b then record { value = names; stuck = Some (place end (drop (length names) ws)); rest = [] } else parameters_closed names (token_taken is_close end (drop (length names) ws))) e in
          elim (taking is_close end (drop (length names) ws)) [
            | misses at m ↦ params_miss at names (named_is ∙ ap (parameters_closed names) m)
            | stands c rest is gc t ↦
                params_stand (o ∷ names ++ c ∷ []) names rest
                (ap (λ (x : List Word). o ∷ x) (sym (some_front two (names_length ws) ws) ∙ ap (λ (x : List Word). names ++ x) is ∙ sym (append_assoc names (c ∷ []) rest)))
                (parameters o c names go (some_plain two ws) (enough two (take (names_length ws) ws) e) gc) (named_is ∙ ap (parameters_closed names) t)
          ]
    ] refl

pub parameters_taking : (two : Bool) (end : ℕ) (ws : List Word) → ParametersTaking two end ws
parameters_taking two end ws = elim (taking is_open end ws) [
  | misses at e ↦ params_miss at [] (ap (parameters_opened two end) e)
  | stands o rest is go e ↦ subst (ParametersTaking two end) (sym is) (behind_taking two end o rest go)
]

names_are : (ws : List Word) (c : Word) (rest : List Word) → AreAll is_plain ws → is_close c ≡ true → names_length (ws ++ c ∷ rest) ≡ length ws
names_are [] c rest h gc = ap (λ b. if b then suc (names_length rest) else 0) (close_not_plain c gc)
names_are (w ∷ ws) c rest h gc = ap (λ b. if b then suc (names_length (ws ++ c ∷ rest)) else 0) h.0 ∙ ap suc (names_are ws c rest h.1 gc)

pub parameters_are : (two : Bool) (end : ℕ) (ps params rest : List Word) → AreParameters two ps params → parameters_taken two end (ps ++ rest) ≡ some_names params rest
parameters_are two end _ _ rest (parameters o c ws go plain has gc) =
    let behind = ws ++ c ∷ rest in
    ap (λ (x : List Word). parameters_taken two end (o ∷ x)) (append_assoc ws (c ∷ []) rest)
    ∙ ap (parameters_opened two end) (token_yes is_open end o behind go)
    ∙ ap (λ n. parameters_named two end (at_most_two two (take n behind)) behind) (names_are ws c rest plain gc)
    ∙ ap (λ (x : List Word). parameters_named two end (at_most_two two x) behind) (taken ws (c ∷ rest))
    ∙ ap (λ (x : List Word). parameters_named two end x behind) (as_many two ws has)
    ∙ ap (λ b. if b then record { value = ws; stuck = Some (place end (drop (length ws) behind)); rest = [] } else parameters_closed ws (token_taken is_close end (drop (length ws) behind))) (not_few two ws has)
    ∙ ap (λ (x : List Word). parameters_closed ws (token_taken is_close end x)) (left ws (c ∷ rest))
    ∙ ap (parameters_closed ws) (token_yes is_close end c rest gc)
