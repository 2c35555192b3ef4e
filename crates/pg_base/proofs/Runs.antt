-- How far a name, a number, a line, a comment and a text reach, as a front and the rest.
use Rattle.std.proofs.Common.{◌≡◌, ℕ, suc, ◌+◌, ◌-◌, Bool, true, false, cond, ◌&&◌, ◌||◌, nat_le, List, [], ◌∷◌, ◌++◌, length, Option, Some, None, ◌==◌, sym, ◌∙◌, ap, refl, arith}
use Rattle.std.proofs.lemmas.Bool.Decides.{nat_tests}
use Rattle.std.specs.Char.{is_ascii_digit}
use Rattle.pg_base.specs.Characters.{character, is_letter, is_name_character, begins_with_letter, name_length, number_length, line_length, more, opens_comment, closes_comment, comment_length, text_length}

-- a front that the measure counts whole, and a rest of which it counts nothing
pub record Run (measure : List ℕ → ℕ) (cs : List ℕ) : Type 0 where
  pub front : List ℕ
  pub rest : List ℕ
  pub whole : cs ≡ front ++ rest
  pub count : length front ≡ measure cs
  pub all : measure front ≡ length front
  pub stops : measure rest ≡ 0

pub number_run : (cs : List ℕ) → Run number_length cs
number_run [] = record { front = []; rest = []; whole = refl; count = refl; all = refl; stops = refl }
number_run (c ∷ cs) = by_digit (is_ascii_digit c) refl (number_run cs)
  where
    by_digit : (b : Bool) → is_ascii_digit c ≡ b → Run number_length cs → Run number_length (c ∷ cs)
    by_digit true is r = record { front = c ∷ r.front; rest = r.rest; whole = ap (λ x. c ∷ x) r.whole; count = rw is (ap suc r.count); all = rw is (ap suc r.all); stops = r.stops }
    by_digit false is r = record { front = []; rest = c ∷ cs; whole = refl; count = rw is refl; all = refl; stops = rw is refl }

pub line_run : (cs : List ℕ) → Run line_length cs
line_run [] = record { front = []; rest = []; whole = refl; count = refl; all = refl; stops = refl }
line_run (c ∷ cs) = by_feed (c == 10) refl (line_run cs)
  where
    by_feed : (b : Bool) → (c == 10) ≡ b → Run line_length cs → Run line_length (c ∷ cs)
    by_feed false is r = record { front = c ∷ r.front; rest = r.rest; whole = ap (λ x. c ∷ x) r.whole; count = rw is (ap suc r.count); all = rw is (ap suc r.all); stops = r.stops }
    by_feed true is r = record { front = []; rest = c ∷ cs; whole = refl; count = rw is refl; all = refl; stops = rw is refl }

-- whether a character goes on a name before these
pub goes_on : ℕ → List ℕ → Bool
goes_on c cs = is_name_character c || ((c == character ".") && begins_with_letter cs)

pub name_length-cons : (c : ℕ) (cs : List ℕ) → name_length (c ∷ cs) ≡ cond (goes_on c cs) (suc (name_length cs)) 0
unfolding goes_on
name_length-cons c cs = refl

no_letter : (c : ℕ) (cs : List ℕ) → goes_on c cs ≡ false → is_letter c ≡ false
unfolding goes_on
no_letter c cs h = by_letter (is_letter c) refl
  where
    by_letter : (b : Bool) → is_letter c ≡ b → is_letter c ≡ false
    by_letter true is = let yes : is_name_character c ≡ true = rw is refl in cc
    by_letter false is = is

not_letter : (c : ℕ) (cs : List ℕ) → name_length (c ∷ cs) ≡ 0 → is_letter c ≡ false
not_letter c cs none = by_name (goes_on c cs) refl
  where
    by_name : (b : Bool) → goes_on c cs ≡ b → is_letter c ≡ false
    by_name true is = absurd (omega (arith, sym (rw is at (sym (name_length-cons c cs) ∙ none))))
    by_name false is = no_letter c cs is

-- a name's front begins with a letter where the characters do
pub front_letter : (cs front rest : List ℕ) → cs ≡ front ++ rest → name_length rest ≡ 0 → begins_with_letter front ≡ begins_with_letter cs
front_letter [] [] rest whole stops = refl
front_letter [] (f ∷ fs) rest whole stops = cc
front_letter (d ∷ ds) [] rest whole stops = sym (not_letter d ds (ap name_length whole ∙ stops))
front_letter (d ∷ ds) (f ∷ fs) rest whole stops = let same : f ≡ d = cc in ap is_letter same

pub same_goes_on : (c : ℕ) (cs ds : List ℕ) → begins_with_letter cs ≡ begins_with_letter ds → goes_on c cs ≡ goes_on c ds
unfolding goes_on
same_goes_on c cs ds same = ap (λ b. is_name_character c || ((c == character ".") && b)) same

pub name_run : (cs : List ℕ) → Run name_length cs
name_run [] = record { front = []; rest = []; whole = refl; count = refl; all = refl; stops = refl }
name_run (c ∷ cs) = by_name (goes_on c cs) refl (name_run cs)
  where
    by_name : (b : Bool) → goes_on c cs ≡ b → Run name_length cs → Run name_length (c ∷ cs)
    by_name true is r =
        let same : goes_on c r.front ≡ true = same_goes_on c r.front cs (front_letter cs r.front r.rest r.whole r.stops) ∙ is in
        record { front = c ∷ r.front; rest = r.rest; whole = ap (λ x. c ∷ x) r.whole; count = rw (name_length-cons c cs, is) (ap suc r.count); all = rw (name_length-cons c r.front, same) (ap suc r.all); stops = r.stops }
    by_name false is r = record { front = []; rest = c ∷ cs; whole = refl; count = rw (name_length-cons c cs, is) refl; all = refl; stops = rw (name_length-cons c cs, is) refl }

-- ---- texts and comments, which may have no end

-- a front that the measure counts whole, whatever stands behind it
pub record Reach (measure : List ℕ → Option ℕ) (n : ℕ) (cs : List ℕ) : Type 0 where
  pub front : List ℕ
  pub rest : List ℕ
  pub whole : cs ≡ front ++ rest
  pub count : length front ≡ n
  pub all : measure front ≡ Some n

-- what `more` counted
pub record More (k n : ℕ) (o : Option ℕ) : Type 0 where
  pub less : ℕ
  pub is : o ≡ Some less
  pub sum : k + less ≡ n

pub more_some : (k n : ℕ) (o : Option ℕ) → more k o ≡ Some n → More k n o
more_some k n None h = cc
more_some k n (Some i) h = record { less = i; is = refl; sum = cc }

-- a text's front is what is between the quotes, and the closing quote
pub record Quoted (escaped : Bool) (n : ℕ) (cs : List ℕ) : Type 0 where
  pub inside : List ℕ
  pub rest : List ℕ
  pub whole : cs ≡ inside ++ character "\"" ∷ rest
  pub count : length inside + 1 ≡ n
  pub all : text_length escaped (inside ++ character "\"" ∷ []) ≡ Some n

pub quoted : (escaped : Bool) (n : ℕ) (cs : List ℕ) → text_length escaped cs ≡ Some n → Quoted escaped n cs
quoted true n [] h = cc
quoted false n [] h = cc
quoted true n (c ∷ cs) h =
    let m = more_some 1 n (text_length false cs) h in
    let r = quoted false m.less cs m.is in
    record { inside = c ∷ r.inside; rest = r.rest; whole = ap (λ x. c ∷ x) r.whole; count = omega (arith, r.count, m.sum); all = ap (more 1) r.all ∙ ap Some m.sum }
quoted false n (c ∷ cs) h = by_quote (λ m. quoted (c == character "\\") m cs) (c == character "\"") refl h
  where
    by_quote : ((m : ℕ) → text_length (c == character "\\") cs ≡ Some m → Quoted (c == character "\\") m cs) → (b : Bool) → (c == character "\"") ≡ b → cond b (Some 1) (more 1 (text_length (c == character "\\") cs)) ≡ Some n → Quoted false n (c ∷ cs)
    by_quote go true is h =
        let same : c ≡ character "\"" = grind (arith, nat_tests, is) in
        record { inside = []; rest = cs; whole = ap (λ x. x ∷ cs) same; count = cc; all = h }
    by_quote go false is h =
        let m = more_some 1 n (text_length (c == character "\\") cs) h in
        let r = go m.less m.is in
        record { inside = c ∷ r.inside; rest = r.rest; whole = ap (λ x. c ∷ x) r.whole; count = omega (arith, r.count, m.sum); all = rw is (ap (more 1) r.all ∙ ap Some m.sum) }

-- one turn inside a comment
pub turn-opens : (depth c d : ℕ) (cs : List ℕ) → opens_comment c d ≡ true → comment_length depth (c ∷ d ∷ cs) ≡ more 2 (comment_length (depth + 1) cs)
turn-opens depth c d cs opens = rw opens refl

pub turn-ends : (depth c d : ℕ) (cs : List ℕ) → opens_comment c d ≡ false → closes_comment c d ≡ true → nat_le depth 1 ≡ true → comment_length depth (c ∷ d ∷ cs) ≡ Some 2
turn-ends depth c d cs opens closes last = rw (opens, closes, last) refl

pub turn-closes : (depth c d : ℕ) (cs : List ℕ) → opens_comment c d ≡ false → closes_comment c d ≡ true → nat_le depth 1 ≡ false → comment_length depth (c ∷ d ∷ cs) ≡ more 2 (comment_length (depth - 1) cs)
turn-closes depth c d cs opens closes deep = rw (opens, closes, deep) refl

pub turn-goes_on : (depth c d : ℕ) (cs : List ℕ) → opens_comment c d ≡ false → closes_comment c d ≡ false → comment_length depth (c ∷ d ∷ cs) ≡ more 1 (comment_length depth (d ∷ cs))
turn-goes_on depth c d cs opens closes = rw (opens, closes) refl

comment_turn : (depth n c d : ℕ) (cs : List ℕ)
    → ((e m : ℕ) → comment_length e cs ≡ Some m → Reach (comment_length e) m cs)
    → ((m : ℕ) → comment_length depth (d ∷ cs) ≡ Some m → Reach (comment_length depth) m (d ∷ cs))
    → (a b e : Bool) → opens_comment c d ≡ a → closes_comment c d ≡ b → nat_le depth 1 ≡ e
    → comment_length depth (c ∷ d ∷ cs) ≡ Some n → Reach (comment_length depth) n (c ∷ d ∷ cs)
comment_turn depth n c d cs behind next true b e opens closes deep h =
    let m = more_some 2 n (comment_length (depth + 1) cs) (sym (turn-opens depth c d cs opens) ∙ h) in
    let r = behind (depth + 1) m.less m.is in
    record {
      front = c ∷ d ∷ r.front;
      rest = r.rest;
      whole = ap (λ x. c ∷ d ∷ x) r.whole;
      count = omega (arith, r.count, m.sum);
      all = turn-opens depth c d r.front opens ∙ ap (more 2) r.all ∙ ap Some m.sum;
    }
comment_turn depth n c d cs behind next false true true opens closes deep h =
    let two : Some 2 ≡ Some n = sym (turn-ends depth c d cs opens closes deep) ∙ h in
    record { front = c ∷ d ∷ []; rest = cs; whole = refl; count = cc; all = turn-ends depth c d [] opens closes deep ∙ two }
comment_turn depth n c d cs behind next false true false opens closes deep h =
    let m = more_some 2 n (comment_length (depth - 1) cs) (sym (turn-closes depth c d cs opens closes deep) ∙ h) in
    let r = behind (depth - 1) m.less m.is in
    record {
      front = c ∷ d ∷ r.front;
      rest = r.rest;
      whole = ap (λ x. c ∷ d ∷ x) r.whole;
      count = omega (arith, r.count, m.sum);
      all = turn-closes depth c d r.front opens closes deep ∙ ap (more 2) r.all ∙ ap Some m.sum;
    }
comment_turn depth n c d cs behind next false false e opens closes deep h =
    let m = more_some 1 n (comment_length depth (d ∷ cs)) (sym (turn-goes_on depth c d cs opens closes) ∙ h) in
    let r = next m.less m.is in
    by_front m.less r.front r.rest r.whole r.count r.all m.sum
  where
    by_front : (k : ℕ) (front rest : List ℕ) → d ∷ cs ≡ front ++ rest → length front ≡ k → comment_length depth front ≡ Some k → 1 + k ≡ n → Reach (comment_length depth) n (c ∷ d ∷ cs)
    by_front k [] rest whole count all sum = cc
    by_front k (f ∷ fs) rest whole count all sum =
        let same : f ≡ d = cc in
        let opens_too : opens_comment c f ≡ false = ap (opens_comment c) same ∙ opens in
        let closes_too : closes_comment c f ≡ false = ap (closes_comment c) same ∙ closes in
        record {
          front = c ∷ f ∷ fs;
          rest = rest;
          whole = ap (λ x. c ∷ x) whole;
          count = omega (arith, count, sum);
          all = turn-goes_on depth c f fs opens_too closes_too ∙ ap (more 1) all ∙ ap Some sum;
        }

pub comment_reach : (depth n : ℕ) (cs : List ℕ) → comment_length depth cs ≡ Some n → Reach (comment_length depth) n cs
comment_reach depth n [] h = cc
comment_reach depth n (c ∷ []) h = cc
comment_reach depth n (c ∷ d ∷ cs) h =
    comment_turn depth n c d cs (λ e m. comment_reach e m cs) (λ m. comment_reach depth m (d ∷ cs)) _ _ _ refl refl refl h
