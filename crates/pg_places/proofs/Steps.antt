-- What one command more changes.
use Rattle.std.proofs.Common.{◌≡◌, ◌∙◌, ℕ, suc, ◌<◌, ◌≤◌, ◌==◌, Bool, true, false, not, ◌&&◌, List, [], ◌∷◌, ◌++◌, refl, sym, ap, subst, arith, Option, Some, None, if◌then◌else◌, add-one}
use Rattle.std.specs.Str.{bytes_eq}
use Rattle.std.specs.Option.{option_or}
use Rattle.std.specs.List.{list_any}
use Rattle.std.proofs.lemmas.Bool.Decides.{nat_tests}
use Rattle.std.proofs.lemmas.Slice.Eq.{bytes_eq-Decides}
use Rattle.pg_base.specs.Tokens.{Word}
use Rattle.pg_logic.specs.Declarations.{Name}
use Rattle.pg_gametext.specs.Faults.{level_limit}
use Rattle.pg_gametext.specs.Placed.{Which, Title, Introduction, Conclusion, Command, text, world, level, statement, Placed}
use Rattle.pg_gametext.specs.Before.{text_of, world_named, with_name, worlds, current_world, in_level, level_count, same_name, same_which, same_holder, Holder, holder, world_holder, of_game, of_world, of_level, text_place}
use Rattle.pg_places.specs.declared.texts.Texts.{Texts}
use Rattle.pg_places.specs.Held.{Held, place_of, with_place, with_text, no_texts, one_more_level, names_of, IsPlaceOf, read_named, read_at, its_levels, its_texts, changed_at, with_world}
use Rattle.pg_places.specs.There.{There, Stands, IsCurrent, counted_at, levels_at, HasRoom, IsWorldCalled, IsLevel, IsStatement, IsText, IsOther, OthersLaw, Follows}
use Rattle.pg_places.proofs.Lists.{names-changed, place-changed, read-place, read-left, read-changed, read-with, names-with}

-- ---- what is there before all commands

abbrev pub nothing : There
nothing = record { worlds = []; current = None; in_level = false; lacks_statement = false; statement = None; has_level = false; game = no_texts; level = no_texts }

no_place : (w : Which) → place_of w no_texts ≡ None
no_place Title = refl
no_place Introduction = refl
no_place Conclusion = refl

pub stands-nothing : Stands nothing []
stands-nothing = record {
  names = refl;
  current = tt;
  in_level = refl;
  lacks = refl;
  statement = refl;
  count = refl;
  levels = λ x. refl;
  few = λ x. omega arith;
  game_texts = no_place;
  world_texts = λ w x. no_place w;
  level_texts = no_place;
}

-- ---- levels that don't stand have no texts

differ_if_more : (n m : ℕ) → n < m → (m == n) ≡ false
differ_if_more n m l = grind (arith, nat_tests)

and_false : (b : Bool) → (b && false) ≡ false
and_false true = refl
and_false false = refl

no_level_holds : (m : ℕ) (h : Bool) (n : ℕ) (o : Option Name) → n < m → same_holder (of_level m) (if h then of_level n else world_holder o) ≡ false
no_level_holds m true n o l = differ_if_more n m l
no_level_holds m false n None l = refl
no_level_holds m false n (Some x) l = refl

no_level_at : (w : Which) (m at end : ℕ) (command : Command) (before : List Placed) → (level_count before < m → text_place w (of_level m) before ≡ None) →
    level_count (record { at = at; command = command; end = end } ∷ before) < m → text_place w (of_level m) (record { at = at; command = command; end = end } ∷ before) ≡ None
no_level_at w m at end (text v t) before none l = rw (no_level_holds m (in_level before) (level_count before) (current_world before) l, and_false (same_which w v)) (none l)
no_level_at w m at end (level t) before none l = none (omega arith)
no_level_at w m at end _ before none l = none l

pub no-level : (w : Which) (m : ℕ) (before : List Placed) → level_count before < m → text_place w (of_level m) before ≡ None
no-level w m [] l = refl
no-level w m (c ∷ before) l = no_level_at w m c.at c.end c.command before (no-level w m before) l

-- ---- worlds

abbrev pub with_world_there : Name → ℕ → There → There
with_world_there x i t = record {
  worlds = with_world x t.worlds;
  current = Some i;
  in_level = false;
  lacks_statement = false;
  statement = None;
  has_level = t.has_level;
  game = t.game;
  level = t.level;
}

stands_world : (t : There) (name : Word) (i : ℕ) → IsPlaceOf (text_of name) i (with_world (text_of name) t.worlds) →
    (before : List Placed) (at end : ℕ) (command : Command) → IsWorldCalled name command → Stands t before →
    Stands (with_world_there (text_of name) i t) (record { at = at; command = command; end = end } ∷ before)
stands_world t name i p before at end (world told) is s = record {
  names =
      names-with (text_of name) t.worlds
      ∙ ap (λ (ns : List Name). if list_any (bytes_eq (text_of name)) ns then ns else ns ++ text_of name ∷ []) s.names
      ∙ sym (ap (λ (v : Option Word). with_name (world_named v) (worlds before)) is);
  current = subst (λ (v : Option Word). IsCurrent (with_world (text_of name) t.worlds) (Some i) (world_named v)) (sym is) p;
  in_level = refl;
  lacks = refl;
  statement = refl;
  count = s.count;
  levels = λ y. read-with its_levels 0 (text_of name) refl y t.worlds ∙ s.levels y;
  few = λ y. subst (λ n. n ≤ level_limit) (sym (read-with its_levels 0 (text_of name) refl y t.worlds)) (s.few y);
  game_texts = s.game_texts;
  world_texts = λ w y. ap (place_of w) (read-with its_texts no_texts (text_of name) refl y t.worlds) ∙ s.world_texts w y;
  level_texts = s.level_texts;
}
stands_world t name i p before at end _ is s = absurd is

pub follows-world : (t : There) (name : Word) (at i : ℕ) → IsPlaceOf (text_of name) i (with_world (text_of name) t.worlds) →
    Follows t (with_world_there (text_of name) i t) at (IsWorldCalled name)
follows-world t name at i p before c e is s = stands_world t name i p before c.at c.end c.command is s

-- ---- levels

abbrev pub with_level_there : There → There
with_level_there t = record {
  worlds = counted_at t.current one_more_level t.worlds;
  current = t.current;
  in_level = true;
  lacks_statement = true;
  statement = None;
  has_level = true;
  game = t.game;
  level = no_texts;
}

names_counted : (o : Option ℕ) (ws : List Held) → names_of (counted_at o one_more_level ws) ≡ names_of ws
names_counted None ws = refl
names_counted (Some i) ws = names-changed one_more_level (λ w. refl) i ws

current_counted : (o : Option ℕ) (n : Option Name) (ws : List Held) → IsCurrent ws o n → IsCurrent (counted_at o one_more_level ws) o n
current_counted None None ws p = tt
current_counted None (Some x) ws p = absurd p
current_counted (Some i) None ws p = absurd p
current_counted (Some i) (Some x) ws p = place-changed one_more_level (λ w. refl) x i i ws p

levels_counted : (y : Name) (o : Option ℕ) (n : Option Name) (ws : List Held) → IsCurrent ws o n →
    read_named its_levels 0 y (counted_at o one_more_level ws) ≡ (if same_name (Some y) n then suc (read_named its_levels 0 y ws) else read_named its_levels 0 y ws)
levels_counted y None None ws p = refl
levels_counted y None (Some x) ws p = absurd p
levels_counted y (Some i) None ws p = absurd p
levels_counted y (Some i) (Some x) ws p = read-changed its_levels 0 one_more_level (λ n. suc n) (λ w. refl) (λ w. add-one w.levels) x y i ws p

few_counted : (y : Name) (o : Option ℕ) (n : Option Name) (ws : List Held) → IsCurrent ws o n → levels_at o ws < level_limit → read_named its_levels 0 y ws ≤ level_limit →
    (if same_name (Some y) n then suc (read_named its_levels 0 y ws) else read_named its_levels 0 y ws) ≤ level_limit
few_counted y None None ws p room few = few
few_counted y None (Some x) ws p room few = absurd p
few_counted y (Some i) None ws p room few = absurd p
few_counted y (Some i) (Some x) ws p room few =
    elim (bytes_eq y x) as (λ b. bytes_eq y x ≡ b → (if b then suc (read_named its_levels 0 y ws) else read_named its_levels 0 y ws) ≤ level_limit) [
      | true ↦ λ e. (let here : read_named its_levels 0 y ws ≡ read_at its_levels 0 i ws = ap (λ (z : Name). read_named its_levels 0 z ws) ((bytes_eq-Decides y x).0 e) ∙ read-place its_levels 0 x i ws p in omega arith)
      | false ↦ λ e. few
    ] refl

texts_counted : (y : Name) (o : Option ℕ) (ws : List Held) → read_named its_texts no_texts y (counted_at o one_more_level ws) ≡ read_named its_texts no_texts y ws
texts_counted y None ws = refl
texts_counted y (Some i) ws = read-left its_texts no_texts one_more_level (λ w. refl) (λ w. refl) y i ws

stands_level : (t : There) → HasRoom t → (before : List Placed) (at end : ℕ) (command : Command) → IsLevel command → Stands t before →
    Stands (with_level_there t) (record { at = at; command = command; end = end } ∷ before)
stands_level t room before at end (level told) is s = record {
  names = names_counted t.current t.worlds ∙ s.names;
  current = current_counted t.current (current_world before) t.worlds s.current;
  in_level = refl;
  lacks = refl;
  statement = refl;
  count = sym (ap not (differ_if_more 0 (suc (level_count before)) (omega arith)));
  levels =
      λ y. levels_counted y t.current (current_world before) t.worlds s.current
      ∙ ap (λ (n : ℕ). if same_name (Some y) (current_world before) then suc n else n) (s.levels y);
  few =
      λ y. subst
      (λ n. n ≤ level_limit)
      (sym (levels_counted y t.current (current_world before) t.worlds s.current))
      (few_counted y t.current (current_world before) t.worlds s.current room (s.few y));
  game_texts = s.game_texts;
  world_texts = λ w y. ap (place_of w) (texts_counted y t.current t.worlds) ∙ s.world_texts w y;
  level_texts = λ w. no_place w ∙ sym (no-level w (suc (level_count before)) before (omega arith));
}
stands_level t room before at end _ is s = absurd is

pub follows-level : (t : There) (at : ℕ) → HasRoom t → Follows t (with_level_there t) at IsLevel
follows-level t at room before c e is s = stands_level t room before c.at c.end c.command is s

-- ---- statements

abbrev pub with_statement_there : ℕ → There → There
with_statement_there at t = record {
  worlds = t.worlds;
  current = t.current;
  in_level = t.in_level;
  lacks_statement = false;
  statement = option_or t.statement (Some at);
  has_level = t.has_level;
  game = t.game;
  level = t.level;
}

stands_statement : (t : There) (before : List Placed) (at end : ℕ) (command : Command) → IsStatement command → Stands t before →
    Stands (with_statement_there at t) (record { at = at; command = command; end = end } ∷ before)
stands_statement t before at end (statement told) is s = record {
  names = s.names;
  current = s.current;
  in_level = s.in_level;
  lacks = refl;
  statement = ap (λ (o : Option ℕ). option_or o (Some at)) s.statement;
  count = s.count;
  levels = s.levels;
  few = s.few;
  game_texts = s.game_texts;
  world_texts = s.world_texts;
  level_texts = s.level_texts;
}
stands_statement t before at end _ is s = absurd is

pub follows-statement : (t : There) (at : ℕ) → Follows t (with_statement_there at t) at IsStatement
follows-statement t at before c e is s = subst (λ n. Stands (with_statement_there n t) (c ∷ before)) e (stands_statement t before c.at c.end c.command is s)

-- ---- commands of other kinds

stands_other : (t : There) (before : List Placed) (at end : ℕ) (command : Command) → IsOther command → Stands t before →
    Stands t (record { at = at; command = command; end = end } ∷ before)
stands_other t before at end (world told) is s = absurd is
stands_other t before at end (level told) is s = absurd is
stands_other t before at end (statement told) is s = absurd is
stands_other t before at end (text which told) is s = absurd is
stands_other t before at end _ is s = record {
  names = s.names;
  current = s.current;
  in_level = s.in_level;
  lacks = s.lacks;
  statement = s.statement;
  count = s.count;
  levels = s.levels;
  few = s.few;
  game_texts = s.game_texts;
  world_texts = s.world_texts;
  level_texts = s.level_texts;
}

pub others-law : OthersLaw
others-law t at before c e is s = stands_other t before c.at c.end c.command is s

-- ---- texts

held : (w v : Which) (b : Bool) (at : ℕ) (ts : Texts) →
    place_of w (if b then with_place v at ts else ts) ≡ (if same_which w v && b then option_or (place_of w ts) (Some at) else place_of w ts)
held Title Title true at ts = refl
held Title Introduction true at ts = refl
held Title Conclusion true at ts = refl
held Introduction Title true at ts = refl
held Introduction Introduction true at ts = refl
held Introduction Conclusion true at ts = refl
held Conclusion Title true at ts = refl
held Conclusion Introduction true at ts = refl
held Conclusion Conclusion true at ts = refl
held w v false at ts = sym (ap (λ (c : Bool). if c then option_or (place_of w ts) (Some at) else place_of w ts) (and_false (same_which w v)))

-- what a text's command changes of the texts of a holder
noted : (w v : Which) (h : Holder) (before : List Placed) (at : ℕ) (old new : Texts) → place_of w old ≡ text_place w h before →
    new ≡ (if same_holder h (holder before) then with_place v at old else old) →
    place_of w new ≡ (if same_which w v && same_holder h (holder before) then option_or (text_place w h before) (Some at) else text_place w h before)
noted w v h before at old new stood is =
    ap (place_of w) is ∙ held w v (same_holder h (holder before)) at old
    ∙ ap (λ (o : Option ℕ). if same_which w v && same_holder h (holder before) then option_or o (Some at) else o) stood

same_number : (n : ℕ) → (n == n) ≡ true
same_number n = grind (arith, nat_tests)

holder_level : (before : List Placed) → in_level before ≡ true → holder before ≡ of_level (level_count before)
holder_level before e = ap (λ (b : Bool). if b then of_level (level_count before) else world_holder (current_world before)) e

holder_outside : (before : List Placed) → in_level before ≡ false → holder before ≡ world_holder (current_world before)
holder_outside before e = ap (λ (b : Bool). if b then of_level (level_count before) else world_holder (current_world before)) e

-- of the level

abbrev pub with_level_text : Which → ℕ → There → There
with_level_text v at t = record {
  worlds = t.worlds;
  current = t.current;
  in_level = t.in_level;
  lacks_statement = t.lacks_statement;
  statement = t.statement;
  has_level = t.has_level;
  game = t.game;
  level = with_place v at t.level;
}

stands_level_text : (t : There) (v : Which) → t.in_level ≡ true → (before : List Placed) (at end : ℕ) (command : Command) → IsText v command → Stands t before →
    Stands (with_level_text v at t) (record { at = at; command = command; end = end } ∷ before)
stands_level_text t v inside before at end (text u told) is s =
    let here : holder before ≡ of_level (level_count before) = holder_level before (sym s.in_level ∙ inside) in
    record {
      names = s.names;
      current = s.current;
      in_level = s.in_level;
      lacks = s.lacks;
      statement = s.statement;
      count = s.count;
      levels = s.levels;
      few = s.few;
      game_texts = λ w. noted w u of_game before at t.game t.game (s.game_texts w) (rw here refl);
      world_texts =
          λ w y. noted w u (of_world y) before at (read_named its_texts no_texts y t.worlds) (read_named its_texts no_texts y t.worlds) (s.world_texts w y) (rw here refl);
      level_texts =
          λ w. noted w u (of_level (level_count before)) before at t.level (with_place v at t.level) (s.level_texts w)
          (rw (here, same_number (level_count before), is) refl);
    }
stands_level_text t v inside before at end _ is s = absurd is

pub follows-level_text : (t : There) (v : Which) (at : ℕ) → t.in_level ≡ true → Follows t (with_level_text v at t) at (IsText v)
follows-level_text t v at inside before c e is s = subst (λ n. Stands (with_level_text v n t) (c ∷ before)) e (stands_level_text t v inside before c.at c.end c.command is s)

-- of the game

abbrev pub with_game_text : Which → ℕ → There → There
with_game_text v at t = record {
  worlds = t.worlds;
  current = t.current;
  in_level = t.in_level;
  lacks_statement = t.lacks_statement;
  statement = t.statement;
  has_level = t.has_level;
  game = with_place v at t.game;
  level = t.level;
}

no_current : (ws : List Held) (o : Option ℕ) (n : Option Name) → o ≡ None → IsCurrent ws o n → n ≡ None
no_current ws o None e p = refl
no_current ws None (Some x) e p = absurd p
no_current ws (Some i) (Some x) e p = absurd (cc)

stands_game_text : (t : There) (v : Which) → t.in_level ≡ false → t.current ≡ None → (before : List Placed) (at end : ℕ) (command : Command) → IsText v command → Stands t before →
    Stands (with_game_text v at t) (record { at = at; command = command; end = end } ∷ before)
stands_game_text t v outside none before at end (text u told) is s =
    let here : holder before ≡ of_game = holder_outside before (sym s.in_level ∙ outside) ∙ ap world_holder (no_current t.worlds t.current (current_world before) none s.current) in
    record {
      names = s.names;
      current = s.current;
      in_level = s.in_level;
      lacks = s.lacks;
      statement = s.statement;
      count = s.count;
      levels = s.levels;
      few = s.few;
      game_texts = λ w. noted w u of_game before at t.game (with_place v at t.game) (s.game_texts w) (rw (here, is) refl);
      world_texts =
          λ w y. noted w u (of_world y) before at (read_named its_texts no_texts y t.worlds) (read_named its_texts no_texts y t.worlds) (s.world_texts w y) (rw here refl);
      level_texts = λ w. noted w u (of_level (level_count before)) before at t.level t.level (s.level_texts w) (rw here refl);
    }
stands_game_text t v outside none before at end _ is s = absurd is

pub follows-game_text : (t : There) (v : Which) (at : ℕ) → t.in_level ≡ false → t.current ≡ None → Follows t (with_game_text v at t) at (IsText v)
follows-game_text t v at outside none before c e is s =
    subst (λ n. Stands (with_game_text v n t) (c ∷ before)) e (stands_game_text t v outside none before c.at c.end c.command is s)

-- of a world

abbrev pub with_world_text : Which → ℕ → ℕ → There → There
with_world_text v at i t = record {
  worlds = changed_at (with_text v at) i t.worlds;
  current = t.current;
  in_level = t.in_level;
  lacks_statement = t.lacks_statement;
  statement = t.statement;
  has_level = t.has_level;
  game = t.game;
  level = t.level;
}

-- the world of this place, and where it stands
some_current : (ws : List Held) (i : ℕ) (o : Option ℕ) (n : Option Name) → o ≡ Some i → IsCurrent ws o n → (x : Name) × (n ≡ Some x) × IsPlaceOf x i ws
some_current ws i None None e p = absurd (cc)
some_current ws i None (Some x) e p = absurd p
some_current ws i (Some j) None e p = absurd p
some_current ws i (Some j) (Some x) e p = (x, refl, subst (λ k. IsPlaceOf x k ws) (let same : j ≡ i = cc in same) p)

current_kept : (v : Which) (at i : ℕ) (o : Option ℕ) (n : Option Name) (ws : List Held) → IsCurrent ws o n → IsCurrent (changed_at (with_text v at) i ws) o n
current_kept v at i None None ws p = tt
current_kept v at i None (Some x) ws p = absurd p
current_kept v at i (Some j) None ws p = absurd p
current_kept v at i (Some j) (Some x) ws p = place-changed (with_text v at) (λ w. refl) x j i ws p

stands_world_text : (t : There) (v : Which) (i : ℕ) → t.in_level ≡ false → t.current ≡ Some i → (before : List Placed) (at end : ℕ) (command : Command) → IsText v command → Stands t before →
    Stands (with_world_text v at i t) (record { at = at; command = command; end = end } ∷ before)
stands_world_text t v i outside some before at end (text u told) is s =
    let found = some_current t.worlds i t.current (current_world before) some s.current in
    let here : holder before ≡ of_world found.0 = holder_outside before (sym s.in_level ∙ outside) ∙ ap world_holder found.1 in
    record {
      names = names-changed (with_text v at) (λ w. refl) i t.worlds ∙ s.names;
      current = current_kept v at i t.current (current_world before) t.worlds s.current;
      in_level = s.in_level;
      lacks = s.lacks;
      statement = s.statement;
      count = s.count;
      levels = λ y. read-left its_levels 0 (with_text v at) (λ w. refl) (λ w. refl) y i t.worlds ∙ s.levels y;
      few = λ y. subst (λ n. n ≤ level_limit) (sym (read-left its_levels 0 (with_text v at) (λ w. refl) (λ w. refl) y i t.worlds)) (s.few y);
      game_texts = λ w. noted w u of_game before at t.game t.game (s.game_texts w) (rw here refl);
      world_texts =
          λ w y. noted w u (of_world y) before at
          (read_named its_texts no_texts y t.worlds)
          (read_named its_texts no_texts y (changed_at (with_text v at) i t.worlds))
          (s.world_texts w y)
          (rw (here, is) (read-changed its_texts no_texts (with_text v at) (with_place v at) (λ k. refl) (λ k. refl) found.0 y i t.worlds found.2));
      level_texts = λ w. noted w u (of_level (level_count before)) before at t.level t.level (s.level_texts w) (rw here refl);
    }
stands_world_text t v i outside some before at end _ is s = absurd is

pub follows-world_text : (t : There) (v : Which) (at i : ℕ) → t.in_level ≡ false → t.current ≡ Some i → Follows t (with_world_text v at i t) at (IsText v)
follows-world_text t v at i outside some before c e is s =
    subst (λ n. Stands (with_world_text v n i t) (c ∷ before)) e (stands_world_text t v i outside some before c.at c.end c.command is s)

-- ---- the same where the parts are equal to what they must be

pub follows-world_as : (t : There) (name : Word) (at i : ℕ) (x : Name) (hs : List Held) → x ≡ text_of name → hs ≡ with_world x t.worlds → IsPlaceOf x i hs →
    Follows t (record { worlds = hs; current = Some i; in_level = false; lacks_statement = false; statement = None; has_level = t.has_level; game = t.game; level = t.level }) at (IsWorldCalled name)
follows-world_as t name at i x hs xs same p =
    let all : hs ≡ with_world (text_of name) t.worlds = same ∙ ap (λ (y : Name). with_world y t.worlds) xs in
    subst
    (λ (ws : List Held).
    Follows t
    (record { worlds = ws; current = Some i; in_level = false; lacks_statement = false; statement = None; has_level = t.has_level; game = t.game; level = t.level })
    at
    (IsWorldCalled name))
    (sym all)
    (follows-world t name at i (subst (λ (ws : List Held). IsPlaceOf (text_of name) i ws) all (subst (λ (y : Name). IsPlaceOf y i hs) xs p)))

pub follows-level_as : (t : There) (at : ℕ) (hs : List Held) (ts : Texts) → HasRoom t → hs ≡ counted_at t.current one_more_level t.worlds → ts ≡ no_texts →
    Follows t (record { worlds = hs; current = t.current; in_level = true; lacks_statement = true; statement = None; has_level = true; game = t.game; level = ts }) at IsLevel
follows-level_as t at hs ts room same none =
    subst
    (λ (ws : List Held).
    Follows t (record { worlds = ws; current = t.current; in_level = true; lacks_statement = true; statement = None; has_level = true; game = t.game; level = ts }) at IsLevel)
    (sym same)
    (subst
    (λ (l : Texts).
    Follows t
    (record {
      worlds = counted_at t.current one_more_level t.worlds;
      current = t.current;
      in_level = true;
      lacks_statement = true;
      statement = None;
      has_level = true;
      game = t.game;
      level = l;
    })
    at
    IsLevel)
    (sym none)
    (follows-level t at room))

pub follows-world_text_as : (t : There) (v : Which) (at i : ℕ) (hs : List Held) → t.in_level ≡ false → t.current ≡ Some i → hs ≡ changed_at (with_text v at) i t.worlds →
    Follows t
    (record {
      worlds = hs;
      current = t.current;
      in_level = t.in_level;
      lacks_statement = t.lacks_statement;
      statement = t.statement;
      has_level = t.has_level;
      game = t.game;
      level = t.level;
    })
    at
    (IsText v)
follows-world_text_as t v at i hs outside some same =
    subst
    (λ (ws : List Held).
    Follows t
    (record {
      worlds = ws;
      current = t.current;
      in_level = t.in_level;
      lacks_statement = t.lacks_statement;
      statement = t.statement;
      has_level = t.has_level;
      game = t.game;
      level = t.level;
    })
    at
    (IsText v))
    (sym same)
    (follows-world_text t v at i outside some)
