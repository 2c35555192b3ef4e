-- `won` is printed where the words, the game and the script are so, and nowhere else.
use Rattle.std.proofs.Common.{◌≡◌, ◌⊎◌, ℕ, true, false, List, [], ◌∷◌, ◌++◌, Option, Some, None, IsSome, inl, inr, refl, sym as flip, ◌∙◌, ap, subst, arith, take, slice_index, string_bytes}
use Rattle.std.proofs.lemmas.List.{append_cancel_left}
use Rattle.std.proofs.lemmas.Bool.{false≢true}
use Rattle.std.specs.Borrow.{Bor}
use Rattle.std.specs.Io.KnownBytes.{Appends}
use Rattle.pg_base.specs.Outside.{GivesFile, Told}
use Rattle.pg_moves.specs.Runs.{Outcome, Closed, Open, Stopped}
use Rattle.pg_attempt.specs.Lines.{lines_of}
use Rattle.pg_run.specs.declared.ending.Ending.{Ending}
use Rattle.pg_run.specs.declared.ending.Ending.TheVariants.{Words, File, OtherGame, Door, Memory, Played}
use Rattle.pg_run.specs.Ending.{text_of, status_of}
use Rattle.pg_run.specs.Game.{Stated, IsGameText}
use Rattle.pg_run.specs.Level.{IsGame, nothing, played}
use Rattle.pg_run.specs.Print.{Printed}
use Rattle.pg_run.specs.Script.{DoorGave, TookFront}
use Rattle.pg_run.specs.Words.{game_name}
use Rattle.pg_run.specs.Run.{Tells, Plays, EndsRun, Wins, won_text, PrintsWon, TellsScript, PrintsWonUnless}
use Rattle.pg_run.proofs.Games.{game_at-game}

-- ---- only where

-- no other outcome has this line
closed-alone : (o : Outcome) → lines_of nothing o ≡ won_text → o ≡ Closed
closed-alone Closed e = refl
closed-alone (Open gs) e = let first : 111 ≡ 119 = ap (λ t. slice_index t 0) e in absurd (omega (arith, first))
closed-alone (Stopped s) e = let first : 115 ≡ 119 = ap (λ t. slice_index t 0) e in absurd (omega (arith, first))

-- the lines of the ending are `won`, so the level is won
won-wins : (words : List (Bor (List ℕ))) (files : Option (List (List ℕ × List ℕ))) (coming : Option (List Told)) (file_failed door_failed : Type 0)
    (ending : Ending) → EndsRun words files coming file_failed door_failed ending → text_of ending ≡ won_text → Wins words files coming
won-wins words files coming file_failed door_failed Words h e = let third : 114 ≡ 110 = ap (λ t. slice_index t 2) e in absurd (omega (arith, third))
won-wins words files coming file_failed door_failed (File name) h e = let first : 102 ≡ 119 = ap (λ t. slice_index t 0) e in absurd (omega (arith, first))
won-wins words files coming file_failed door_failed OtherGame h e = let first : 103 ≡ 119 = ap (λ t. slice_index t 0) e in absurd (omega (arith, first))
won-wins words files coming file_failed door_failed Door h e = let first : 100 ≡ 119 = ap (λ t. slice_index t 0) e in absurd (omega (arith, first))
won-wins words files coming file_failed door_failed Memory h e = let first : 109 ≡ 119 = ap (λ t. slice_index t 0) e in absurd (omega (arith, first))
won-wins words files coming file_failed door_failed (Played lines) h e =
    let game = h.ends in
    let plays = game.plays in
    let closed : played game.stated plays.script ≡ Closed = closed-alone (played game.stated plays.script) (flip plays.tells.exact ∙ e) in
    record { name = h.name; named = h.named; text = h.text; gives = h.gives; stated = game.stated; game = game.game; script = plays.script; gave = plays.gave; won = closed; truth = plays.tells.truth closed }

-- with status 0 and this line appended, the lines of the ending are `won`
status-zero : (ending : Ending) (result : ℕ) (old new : Option (List ℕ)) (out_failed : Type 0) → PrintsWon result old new
    → Printed (text_of ending) (status_of ending) result old new out_failed ⊎ Printed (text_of Memory) 4 result old new out_failed → text_of ending ≡ won_text
status-zero ending result old new out_failed p (inl (inl h)) =
    let A : Option (List ℕ) → Type 0 = λ o. Appends o new (text_of ending) in
    let B : Option (List ℕ) → Type 0 = λ n. Appends (Some p.before) n (text_of ending) in
    let is : p.before ++ won_text ≡ p.before ++ text_of ending = subst B p.is (subst A p.was h.1) in
    flip (append_cancel_left p.before won_text (text_of ending) is)
status-zero ending result old new out_failed p (inl (inr (inl h))) = absurd (omega (arith, p.status, h.0))
status-zero ending result old new out_failed p (inl (inr (inr h))) = absurd (omega (arith, p.status, h.0))
status-zero ending result old new out_failed p (inr (inl h)) = absurd (omega (arith, p.status, h.0))
status-zero ending result old new out_failed p (inr (inr (inl h))) = absurd (omega (arith, p.status, h.0))
status-zero ending result old new out_failed p (inr (inr (inr h))) = absurd (omega (arith, p.status, h.0))

pub won-only : (words : List (Bor (List ℕ))) (files : Option (List (List ℕ × List ℕ))) (coming : Option (List Told)) (file_failed door_failed : Type 0)
    (ending : Ending) (result : ℕ) (old new : Option (List ℕ)) (out_failed : Type 0)
    → EndsRun words files coming file_failed door_failed ending
    → Printed (text_of ending) (status_of ending) result old new out_failed ⊎ Printed (text_of Memory) 4 result old new out_failed
    → PrintsWon result old new → Wins words files coming
won-only words files coming file_failed door_failed ending result old new out_failed ends printed p =
    won-wins words files coming file_failed door_failed ending ends (status-zero ending result old new out_failed p printed)

-- ---- wherever

-- a told file gives one text
one-text : (files : List (List ℕ × List ℕ)) (name : List ℕ) (s t : List ℕ) → GivesFile (Some files) name 1048576 s → GivesFile (Some files) name 1048576 t → s ≡ t
one-text files name s t g h =
    let same : g.0 ≡ h.0 = cc (g.1, h.1) in
    g.2 ∙ ap (λ x. take 1048577 x) same ∙ flip h.2

-- a text spells one game at most
pub one-game : (text : List ℕ) (a b : Stated) → IsGameText text a → IsGameText text b → a ≡ b
one-game text a b g h =
    let both : Some a ≡ Some b = flip (game_at-game _ a g.game) ∙ game_at-game _ b h.game in
    cc both

one-front : (left : Option (List ℕ)) (s t : List ℕ) → IsSome left → TookFront left s → TookFront left t → s ≡ t
one-front None s t told g h = absurd (false≢true told)
one-front (Some all) s t told g h = g ∙ flip h

-- a told door gives one script
one-script : (coming : Option (List Told)) (s t : List ℕ) → TellsScript coming → DoorGave coming s → DoorGave coming t → s ≡ t
one-script None s t told g h = absurd told
one-script (Some []) s t told g h = g ∙ flip h
one-script (Some (conn ∷ rest)) s t told g h = one-front conn.left s t told g h

-- the game and the script of a run are those with which the level is won
plays-won : (words : List (Bor (List ℕ))) (files : List (List ℕ × List ℕ)) (coming : Option (List Told)) (lines name text : List ℕ)
    → TellsScript coming → (w : Wins words (Some files) coming) → game_name words ≡ Some name → GivesFile (Some files) name 1048576 text
    → (g : Stated) → IsGame text g → Plays g coming lines → lines ≡ won_text
plays-won words files coming lines name text told w named gives g game plays =
    let same_name : name ≡ w.name = cc (named, w.named) in
    let G : List ℕ → Type 0 = λ n. GivesFile (Some files) n 1048576 text in
    let same_text : text ≡ w.text = one-text files w.name text w.text (subst G same_name gives) w.gives in
    let T : List ℕ → Type 0 = λ t. IsGameText t g in
    let same_game : g ≡ w.stated = one-game w.text g w.stated (subst T same_text game.0) w.game.0 in
    let same_script : plays.script ≡ w.script = one-script coming plays.script w.script told plays.gave w.gave in
    plays.tells.exact ∙ ap (λ x. lines_of nothing (played x plays.script)) same_game ∙ ap (λ s. lines_of nothing (played w.stated s)) same_script
    ∙ ap (lines_of nothing) w.won

abbrev WonWhere : Type 0 → Type 0 → Ending → Type 0
WonWhere file_failed door_failed ending = ((text_of ending ≡ won_text) × (status_of ending ≡ 0)) ⊎ (ending ≡ Memory) ⊎ file_failed ⊎ door_failed

-- the ending of a run where the level is won
ends-won : (words : List (Bor (List ℕ))) (files : List (List ℕ × List ℕ)) (coming : Option (List Told)) (file_failed door_failed : Type 0) (ending : Ending)
    → TellsScript coming → Wins words (Some files) coming → EndsRun words (Some files) coming file_failed door_failed ending → WonWhere file_failed door_failed ending
ends-won words files coming file_failed door_failed Words told w h = let no : Some w.name ≡ None = flip w.named ∙ h in cc
ends-won words files coming file_failed door_failed (File name) told w h = inr (inr (inl h.1))
ends-won words files coming file_failed door_failed OtherGame told w h =
    let same_name : h.name ≡ w.name = cc (h.named, w.named) in
    let G : List ℕ → Type 0 = λ n. GivesFile (Some files) n 1048576 h.text in
    let same_text : w.text ≡ h.text = flip (one-text files w.name h.text w.text (subst G same_name h.gives) w.gives) in
    let T : List ℕ → Type 0 = λ t. IsGame t w.stated in
    absurd (h.ends w.stated (subst T same_text w.game))
ends-won words files coming file_failed door_failed Door told w h = inr (inr (inr h.ends.plays))
ends-won words files coming file_failed door_failed Memory told w h = inr (inl refl)
ends-won words files coming file_failed door_failed (Played lines) told w h =
    inl (plays-won words files coming (string_bytes lines) h.name h.text told w h.named h.gives h.ends.stated h.ends.game h.ends.plays, refl)

prints-won : (ending : Ending) (file_failed door_failed : Type 0) (result : ℕ) (old new : Option (List ℕ)) (out_failed : Type 0)
    → WonWhere file_failed door_failed ending
    → Printed (text_of ending) (status_of ending) result old new out_failed → PrintsWonUnless file_failed door_failed result old new out_failed
prints-won ending file_failed door_failed result old new out_failed (inl e) p =
    let P : List ℕ → Type 0 = λ t. Printed t (status_of ending) result old new out_failed in
    let Q : ℕ → Type 0 = λ s. Printed won_text s result old new out_failed in
    inl (subst Q e.1 (subst P e.0 p))
prints-won ending file_failed door_failed result old new out_failed (inr (inl e)) p =
    let P : Ending → Type 0 = λ x. Printed (text_of x) (status_of x) result old new out_failed in inr (inl (subst P e p))
prints-won ending file_failed door_failed result old new out_failed (inr (inr (inl f))) p = inr (inr (inl f))
prints-won ending file_failed door_failed result old new out_failed (inr (inr (inr f))) p = inr (inr (inr f))

pub won-where : (words : List (Bor (List ℕ))) (files : Option (List (List ℕ × List ℕ))) (coming : Option (List Told)) (file_failed door_failed : Type 0)
    (ending : Ending) (result : ℕ) (old new : Option (List ℕ)) (out_failed : Type 0)
    → EndsRun words files coming file_failed door_failed ending
    → Printed (text_of ending) (status_of ending) result old new out_failed ⊎ Printed (text_of Memory) 4 result old new out_failed
    → Wins words files coming → IsSome files → TellsScript coming → PrintsWonUnless file_failed door_failed result old new out_failed
won-where words None coming file_failed door_failed ending result old new out_failed ends printed w some told = absurd (false≢true some)
won-where words (Some files) coming file_failed door_failed ending result old new out_failed ends (inr memory) w some told = inr (inl memory)
won-where words (Some files) coming file_failed door_failed ending result old new out_failed ends (inl printed) w some told =
    prints-won ending file_failed door_failed result old new out_failed (ends-won words files coming file_failed door_failed ending told w ends) printed
