-- One token, and the worlds of a dependency: what is told is what they are, and where none begins so.
use Rattle.std.proofs.Common.{◌≡◌, ◌∙◌, ℕ, Bool, true, false, List, [], ◌∷◌, ◌++◌, refl, sym, ap, subst, inl, inr, ◌⊎◌, Option, Some, None, if◌then◌else◌, codes}
use Rattle.std.specs.Prelude.{IsTrue}
use Rattle.pg_base.specs.declared.token.TokenKind.TheVariants as kind
use Rattle.pg_base.specs.declared.token.Sign.TheVariants as sign
use Rattle.pg_base.specs.Tokens.{Word}
use Rattle.pg_script.specs.Marks.{place}
use Rattle.pg_gametext.specs.Commands.{is_plain}
use Rattle.pg_gametext.specs.Forms.{Told, ended, only, one_token, is_arrow, Link, with_link, links_after, links_told}
use Rattle.pg_gametext.specs.Grammar.{IsOne, link, AreLinks, one_link, more_links, whole, OneLaw, LinksLaw, IsBarred, IsStuck, IsLinked, LinksStuckLaw}

-- ---- what was told

stuck_not : {X : Type 0} {A : Type 0} (t : Told X) (x : X) (at : ℕ) → t ≡ whole x → t.stuck ≡ Some at → A
stuck_not t x at e s = absurd (let n : t.stuck ≡ None = ap (λ (u : Told _). u.stuck) e in cc)

some_is : {X : Type 0} (x y : X) → (let o : Option X = Some x in o) ≡ Some y → x ≡ y
some_is x y e = cc

cons_ended : (ws : List Word) → ended ws ≡ None → ws ≡ []
cons_ended [] e = refl
cons_ended (w ∷ ws) e = absurd cc

-- ---- one token

one-of : (good : Word → Bool) (end : ℕ) (ws : List Word) (w : Word) → one_token good end ws ≡ whole (Some w) → IsOne good ws w
one-of good end [] w e = stuck_not _ _ end e refl
one-of good end (v ∷ ws) w e =
    elim (good v) as (λ b. good v ≡ b → only (if b then record { value = Some v; stuck = None; rest = ws } else record { value = None; stuck = Some v.at; rest = [] }) ≡ whole (Some w) → IsOne good (v ∷ ws) w) [
      | true ↦ λ g e.
          let is : v ≡ w = some_is v w (ap (λ (t : Told (Option Word)). t.value) e) in
          let none : ws ≡ [] = cons_ended ws (ap (λ (t : Told (Option Word)). t.stuck) e) in
          (ap (λ (x : Word). x ∷ ws) is ∙ ap (λ (x : List Word). w ∷ x) none, subst (λ x. good x ≡ true) is g)
      | false ↦ λ g e. stuck_not _ _ v.at e refl
    ] refl e

one-read : (good : Word → Bool) (end : ℕ) (ws : List Word) (w : Word) → IsOne good ws w → one_token good end ws ≡ whole (Some w)
one-read good end ws w is =
    ap (one_token good end) is.0 ∙ ap (λ b. only (if b then record { value = Some w; stuck = None; rest = [] } else record { value = None; stuck = Some w.at; rest = [] })) is.1

pub one-law : OneLaw
one-law good end ws w = (one-of good end ws w, one-read good end ws w)

-- ---- links

-- the links behind a world: none where one stands already and nothing follows
abbrev Follows : Bool → Word → List Word → List Link → Type 0
Follows some a ws ls = ((some ≡ true) × (ws ≡ []) × (ls ≡ [])) ⊎ AreLinks (a ∷ ws) ls

with_whole : (l : Link) (t : Told (List Link)) (ls : List Link) → with_link l t ≡ whole ls → (t ≡ whole t.value) × (l ∷ t.value ≡ ls)
with_whole l t ls e = (ap (λ (o : Option ℕ). record { value = t.value; stuck = o }) (ap (λ (u : Told (List Link)). u.stuck) e), ap (λ (u : Told (List Link)). u.value) e)

join_links : (a s b : Word) (ws : List Word) (ls : List Link) → IsTrue (is_plain a) → IsTrue (is_arrow s) → IsTrue (is_plain b) → Follows true b ws ls → AreLinks (a ∷ s ∷ b ∷ ws) (link a b ∷ ls)
join_links a s b ws ls pa ps pb (inl e) =
    subst (λ (x : List Word). AreLinks (a ∷ s ∷ b ∷ x) (link a b ∷ ls)) (sym e.1) (subst (λ (x : List Link). AreLinks (a ∷ s ∷ b ∷ []) (link a b ∷ x)) (sym e.2) (one_link a s b pa ps pb))
join_links a s b ws ls pa ps pb (inr h) = more_links a s b ws ls pa ps h

links-of : (some : Bool) (end : ℕ) (a : Word) (ws : List Word) (ls : List Link) → IsTrue (is_plain a) → links_after some end a ws ≡ whole ls → Follows some a ws ls
links-of true end a [] ls pa e = inl (refl, refl, sym (ap (λ (u : Told (List Link)). u.value) e))
links-of false end a [] ls pa e = stuck_not _ _ end e refl
links-of some end a (s ∷ []) ls pa e = stuck_not _ _ _ e refl
links-of some end a (s ∷ b ∷ ws) ls pa e =
    elim (is_arrow s) as (λ t. is_arrow s ≡ t →
    (if t then (if is_plain b then with_link (link a b) (links_after true end b ws) else record { value = []; stuck = Some b.at }) else record { value = []; stuck = Some s.at }) ≡ whole ls
    → Follows some a (s ∷ b ∷ ws) ls) [
      | true ↦ λ ps e.
          elim (is_plain b) as (λ t. is_plain b ≡ t → (if t then with_link (link a b) (links_after true end b ws) else record { value = []; stuck = Some b.at }) ≡ whole ls → Follows some a (s ∷ b ∷ ws) ls) [
            | true ↦ λ pb e.
                let t = links_after true end b ws in
                let w = with_whole (link a b) t ls e in
                inr (subst (AreLinks (a ∷ s ∷ b ∷ ws)) w.1 (join_links a s b ws t.value pa ps pb (links-of true end b ws t.value pb w.0)))
            | false ↦ λ pb e. stuck_not _ _ b.at e refl
          ] refl e
      | false ↦ λ ps e. stuck_not _ _ s.at e refl
    ] refl e

told-of : (end : ℕ) (ws : List Word) (ls : List Link) → links_told end ws ≡ whole ls → AreLinks ws ls
told-of end [] ls e = stuck_not _ _ end e refl
told-of end (a ∷ ws) ls e =
    elim (is_plain a) as (λ t. is_plain a ≡ t → (if t then links_after false end a ws else record { value = []; stuck = Some a.at }) ≡ whole ls → AreLinks (a ∷ ws) ls) [
      | true ↦ λ pa e. elim (links-of false end a ws ls pa e) [ inl n ↦ absurd (let no : (let b : Bool = false in b) ≡ true = n.0 in cc) | inr h ↦ h ]
      | false ↦ λ pa e. stuck_not _ _ a.at e refl
    ] refl e

-- behind the first of some tokens
abbrev after_first : Bool → ℕ → List Word → Told (List Link)
after_first some end [] = record { value = []; stuck = Some end }
after_first some end (a ∷ ws) = links_after some end a ws

abbrev FirstIsPlain : List Word → Type 0
FirstIsPlain [] = ⊥
FirstIsPlain (a ∷ ws) = is_plain a ≡ true

first_plain : (us : List Word) (ls : List Link) → AreLinks us ls → FirstIsPlain us
first_plain _ _ (one_link a s b pa ps pb) = pa
first_plain _ _ (more_links a s b ws ls pa ps h) = pa

step : (some : Bool) (end : ℕ) (a s b : Word) (ws : List Word) → is_arrow s ≡ true → is_plain b ≡ true → links_after some end a (s ∷ b ∷ ws) ≡ with_link (link a b) (links_after true end b ws)
step some end a s b ws ps pb =
    ap (λ t. if t then (if is_plain b then with_link (link a b) (links_after true end b ws) else record { value = []; stuck = Some b.at }) else record { value = []; stuck = Some s.at }) ps
    ∙ ap (λ t. if t then with_link (link a b) (links_after true end b ws) else record { value = []; stuck = Some b.at }) pb

links-read : (some : Bool) (end : ℕ) (us : List Word) (ls : List Link) → AreLinks us ls → after_first some end us ≡ whole ls
links-read some end _ _ (one_link a s b pa ps pb) = step some end a s b [] ps pb
links-read some end _ _ (more_links a s b ws ls pa ps h) = step some end a s b ws ps (first_plain (b ∷ ws) ls h) ∙ ap (with_link (link a b)) (links-read true end (b ∷ ws) ls h)

told-read : (end : ℕ) (us : List Word) (ls : List Link) → AreLinks us ls → links_told end us ≡ whole ls
told-read end [] ls h = absurd (first_plain [] ls h)
told-read end (a ∷ ws) ls h = ap (λ t. if t then links_after false end a ws else record { value = []; stuck = Some a.at }) (first_plain (a ∷ ws) ls h) ∙ links-read false end (a ∷ ws) ls h

pub links-law : LinksLaw
links-law end ws ls = (told-of end ws ls, told-read end ws ls)

-- ---- where it is stuck

-- a world's name and an arrow, to complete what has begun
abbrev some_name : Word
some_name = record { kind = kind.Name; text = codes "a"; at = 0; column = 0; first = false }

abbrev some_arrow : Word
some_arrow = record { kind = kind.Sign sign.Arrow; text = []; at = 0; column = 0; first = false }

-- what goes on with a world
record StuckBehind (end : ℕ) (a : Word) (ws : List Word) (at : ℕ) : Type 0 where
  front : List Word
  rest : List Word
  split : ws ≡ front ++ rest
  place_is : at ≡ place end rest
  more : List Word
  begins : IsLinked (a ∷ front ++ more)
  barred : IsBarred (a ∷ front) rest IsLinked

-- what stands behind an arrow is linked, where more stands there than one world
abbrev TailIsLinked : List Word → Type 0
TailIsLinked (a ∷ s ∷ b ∷ c ∷ ws) = IsLinked (b ∷ c ∷ ws)
TailIsLinked _ = Unit {0}

tail_linked : (us : List Word) (ls : List Link) → AreLinks us ls → TailIsLinked us
tail_linked _ _ (one_link a s b pa ps pb) = tt
tail_linked _ _ (more_links a s b [] ls pa ps h) = tt
tail_linked _ _ (more_links a s b (c ∷ ws) ls pa ps h) = (ls, h)

abbrev HasTwoMore : List Word → Type 0
HasTwoMore (a ∷ s ∷ b ∷ ws) = (is_arrow s ≡ true) × (is_plain b ≡ true)
HasTwoMore _ = ⊥

two_more : (us : List Word) (ls : List Link) → AreLinks us ls → HasTwoMore us
two_more _ _ (one_link a s b pa ps pb) = (ps, pb)
two_more _ _ (more_links a s b ws ls pa ps h) = (ps, first_plain (b ∷ ws) ls h)

at_of : (x y : ℕ) → (let o : Option ℕ = Some x in o) ≡ Some y → y ≡ x
at_of x y e = cc

no : {A : Type 0} → true ≡ false → A
no e = absurd cc

-- nothing stands behind the one world
stuck_end : (end : ℕ) (a : Word) (at : ℕ) → is_plain a ≡ true → at ≡ end → StuckBehind end a [] at
stuck_end end a at pa e =
    record { front = []; rest = []; split = refl; place_is = e; more = some_arrow ∷ some_name ∷ []; begins = (_, one_link a some_arrow some_name pa refl refl); barred = λ h. two_more (a ∷ []) h.0 h.1 }

-- no arrow stands behind it
stuck_sign : (end : ℕ) (a s : Word) (ws : List Word) (at : ℕ) → is_plain a ≡ true → is_arrow s ≡ false → at ≡ s.at → StuckBehind end a (s ∷ ws) at
stuck_sign end a s ws at pa ps e =
    record {
      front = [];
      rest = s ∷ ws;
      split = refl;
      place_is = e;
      more = some_arrow ∷ some_name ∷ [];
      begins = (_, one_link a some_arrow some_name pa refl refl);
      barred = λ more h. no_arrow more h;
    }
  where
    no_arrow : (more : List Word) → IsLinked (a ∷ s ∷ more) → ⊥
    no_arrow [] h = two_more (a ∷ s ∷ []) h.0 h.1
    no_arrow (c ∷ more) h = no (sym (two_more (a ∷ s ∷ c ∷ more) h.0 h.1).0 ∙ ps)

-- an arrow, and no world behind it
stuck_world : (end : ℕ) (a s : Word) (ws : List Word) (at : ℕ) → is_plain a ≡ true → is_arrow s ≡ true → (barred : IsBarred (a ∷ s ∷ []) ws IsLinked) → at ≡ place end ws → StuckBehind end a (s ∷ ws) at
stuck_world end a s ws at pa ps barred e =
    record { front = s ∷ []; rest = ws; split = refl; place_is = e; more = some_name ∷ []; begins = (_, one_link a s some_name pa ps refl); barred = barred }

-- a link, and what is stuck behind its second world
stuck_later : (end : ℕ) (a s b : Word) (ws : List Word) (at : ℕ) → is_plain a ≡ true → is_arrow s ≡ true → (ws ≡ [] → ⊥) → StuckBehind end b ws at → StuckBehind end a (s ∷ b ∷ ws) at
stuck_later end a s b ws at pa ps some r =
    record {
      front = s ∷ b ∷ r.front;
      rest = r.rest;
      split = ap (λ (x : List Word). s ∷ b ∷ x) r.split;
      place_is = r.place_is;
      more = r.more;
      begins = (_, more_links a s b (r.front ++ r.more) r.begins.0 pa ps r.begins.1);
      barred = further r.front r.rest (λ e. some (r.split ∙ e)) r.barred;
    }
  where
    further : (front rest : List Word) → (front ++ rest ≡ [] → ⊥) → IsBarred (b ∷ front) rest IsLinked → IsBarred (a ∷ s ∷ b ∷ front) rest IsLinked
    further [] [] any h = λ l. any refl
    further (c ∷ front) [] any h = λ l. h (tail_linked (a ∷ s ∷ b ∷ c ∷ front) l.0 l.1)
    further [] (w ∷ rest) any h = λ more l. h more (tail_linked (a ∷ s ∷ b ∷ w ∷ more) l.0 l.1)
    further (c ∷ front) (w ∷ rest) any h = λ more l. h more (tail_linked (a ∷ s ∷ b ∷ c ∷ front ++ w ∷ more) l.0 l.1)

-- where the flag stands, something stands behind the world
stuck-of : (some : Bool) (end : ℕ) (a : Word) (ws : List Word) (at : ℕ) → is_plain a ≡ true → (links_after some end a ws).stuck ≡ Some at → StuckBehind end a ws at
stuck-of true end a [] at pa e = absurd cc
stuck-of false end a [] at pa e = stuck_end end a at pa (at_of _ _ e)
stuck-of some end a (s ∷ []) at pa e =
    elim (is_arrow s) as (λ t. is_arrow s ≡ t → (let o : Option ℕ = Some (if t then end else s.at) in o) ≡ Some at → StuckBehind end a (s ∷ []) at) [
      | true ↦ λ ps e. stuck_world end a s [] at pa ps (λ h. two_more (a ∷ s ∷ []) h.0 h.1) (at_of _ _ e)
      | false ↦ λ ps e. stuck_sign end a s [] at pa ps (at_of _ _ e)
    ] refl e
stuck-of some end a (s ∷ b ∷ ws) at pa e =
    elim (is_arrow s) as (λ t. is_arrow s ≡ t →
    (if t then (if is_plain b then with_link (link a b) (links_after true end b ws) else record { value = []; stuck = Some b.at }) else record { value = []; stuck = Some s.at }).stuck ≡ Some at
    → StuckBehind end a (s ∷ b ∷ ws) at) [
      | true ↦ λ ps e.
          elim (is_plain b) as (λ t. is_plain b ≡ t → (if t then with_link (link a b) (links_after true end b ws) else record { value = []; stuck = Some b.at }).stuck ≡ Some at → StuckBehind end a (s ∷ b ∷ ws) at) [
            | true ↦ λ pb e. stuck_later end a s b ws at pa ps (not_empty end b ws at e) (stuck-of true end b ws at pb e)
            | false ↦ λ pb e. stuck_world end a s (b ∷ ws) at pa ps (λ more h. no (sym (two_more (a ∷ s ∷ b ∷ more) h.0 h.1).1 ∙ pb)) (at_of _ _ e)
          ] refl e
      | false ↦ λ ps e. stuck_sign end a s (b ∷ ws) at pa ps (at_of _ _ e)
    ] refl e
  where
    not_empty : (end : ℕ) (b : Word) (ws : List Word) (at : ℕ) → (links_after true end b ws).stuck ≡ Some at → ws ≡ [] → ⊥
    not_empty end b [] at e is = absurd cc
    not_empty end b (w ∷ ws) at e is = absurd cc

pub links_stuck-law : LinksStuckLaw
links_stuck-law end [] at e =
    record { front = []; rest = []; split = refl; place_is = at_of _ _ e; more = some_name ∷ some_arrow ∷ some_name ∷ []; begins = (_, one_link some_name some_arrow some_name refl refl refl); barred = λ h. first_plain [] h.0 h.1 }
links_stuck-law end (a ∷ ws) at e =
    elim (is_plain a) as (λ t. is_plain a ≡ t → (if t then links_after false end a ws else record { value = []; stuck = Some a.at }).stuck ≡ Some at → IsStuck end (a ∷ ws) IsLinked at) [
      | true ↦ λ pa e.
          let r = stuck-of false end a ws at pa e in
          record { front = a ∷ r.front; rest = r.rest; split = ap (λ (x : List Word). a ∷ x) r.split; place_is = r.place_is; more = r.more; begins = r.begins; barred = r.barred }
      | false ↦ λ pa e.
          record {
            front = [];
            rest = a ∷ ws;
            split = refl;
            place_is = at_of _ _ e;
            more = some_name ∷ some_arrow ∷ some_name ∷ [];
            begins = (_, one_link some_name some_arrow some_name refl refl refl);
            barred = λ more h. no (sym (first_plain (a ∷ more) h.0 h.1) ∙ pa);
          }
    ] refl e
