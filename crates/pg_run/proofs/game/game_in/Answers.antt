use Rattle.std.proofs.Common.{◌≡◌, ◌∙◌, ap, sym as flip, map, List, ℕ, IfSome}
use Rattle.std.proofs.lemmas.Str.{is_utf8-from_IsUtf8}
use Rattle.pg_base.specs.Tokens.{lexed, word}
use Rattle.pg_run.specs.Symbols.{symbol_of}
use Rattle.pg_run.specs.Game.{IsGameText, Finds, stated}
use Rattle.pg_run.specs.Level.{CanStand}
use Rattle.pg_run.specs.Reading.{stated_of, game_at}
use Rattle.pg_run.proofs.Games.{not-utf8, ok-map, game-found, text-found}
use Rattle.pg_run.proofs.Levels.{found-stands}
use Rattle.pg_run.proofs.game.game_in.Goals as goal

pub returns-in_default-clause-finds : goal.returns-in_default-clause-finds
returns-in_default-clause-finds c = not-utf8 c.args.bytes.now c.in_default.ensures.cases.0

pub returns-in_ok-symbols-in-Ok-tokens_of-clause-finds : goal.returns-in_ok-symbols-in-Ok-tokens_of-clause-finds
returns-in_ok-symbols-in-Ok-tokens_of-clause-finds c =
    let text = c.in-Ok.ensures.cases in
    let symbols = c.deref-in-Ok-tokens_of.result.now in
    ok-map c.game_at.result (λ found. stated_of found ≡ game_at symbols) (λ found. Finds found (IsGameText c.args.bytes.now))
    (λ found h. text-found c.args.bytes.now symbols found c.if-bytes-gt-GAME_LIMIT.false (is_utf8-from_IsUtf8 c.args.bytes.now text.1)
    (ap (λ (t : List ℕ). (lexed t).fault) (flip text.0) ∙ c.in-Ok-tokens_of.ensures.tokens.1)
    (c.deref-in-Ok-tokens_of.ensures.value ∙ c.in_ok-symbols-in-Ok-tokens_of.ensures ∙ ap (λ ts. map symbol_of (map word ts)) c.deref.ensures.value
    ∙ ap (map symbol_of) c.in-Ok-tokens_of.ensures.tokens.0 ∙ ap (λ (t : List ℕ). map symbol_of (lexed t).words) text.0) (game-found symbols found h))
    c.game_at.ensures

pub returns-in_ok-symbols-in-Ok-tokens_of-clause-stands : goal.returns-in_ok-symbols-in-Ok-tokens_of-clause-stands
returns-in_ok-symbols-in-Ok-tokens_of-clause-stands c =
    let symbols = c.deref-in-Ok-tokens_of.result.now in
    ok-map c.game_at.result (λ found. stated_of found ≡ game_at symbols) (λ found. IfSome found (λ game. CanStand (stated game)))
    (λ found h. found-stands symbols found (game-found symbols found h)) c.game_at.ensures
