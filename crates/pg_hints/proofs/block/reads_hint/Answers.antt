use Rattle.std.proofs.Common.{◌+◌, ◌∙◌, ◌==◌, ap, map}
use Rattle.std.specs.List.{list_any}
use Rattle.pg_base.specs.Tokens.{word}
use Rattle.pg_script.specs.Data.{entries_of}
use Rattle.pg_script.specs.Scripts.{script}
use Rattle.pg_script.specs.View.{words, entry}
use Rattle.pg_gametext.specs.Checks.{hints_in_all}
use Rattle.pg_hints.proofs.Words.{made, tried, words_are, end_is, read_is}
use Rattle.pg_hints.proofs.block.reads_hint.Goals as goal

pub read_items-requires : goal.read_items-requires
read_items-requires c =
    let t = c.args.token.now in
    let s = c.some_text-text.result in
    let is = made c.deref.result.now _ _ _ _ c.args.front.now t s c.deref.ensures.value c.in_ok-push-2.ensures.items c.in_ok-push.ensures.items c.in_ok-extend_from_slice.ensures.items c.new-tried.ensures.items in
    record { tokens = tried c.deref.result.now c.args.front.now t s is c.some_text-text.ensures c.requires.tokens }

pub returns-in-Ok : goal.returns-in-Ok
returns-in-Ok c =
    let t = c.args.token.now in
    let s = c.some_text-text.result in
    let is = made c.deref.result.now _ _ _ _ c.args.front.now t s c.deref.ensures.value c.in_ok-push-2.ensures.items c.in_ok-push.ensures.items c.in_ok-extend_from_slice.ensures.items c.new-tried.ensures.items in
    let found = c.has_hint_at.ensures ∙ ap (λ items. list_any (λ a. a == t.at) (hints_in_all (entries_of (map entry items)))) c.as_slice.ensures in
    read_is (words c.args.front.now) (words c.deref.result.now) (word t) (s.at + 2) (script c.in-Ok.script) c.has_hint_at.result (words_are c.deref.result.now c.args.front.now t s is c.some_text-text.ensures)
    (end_is t s c.some_text-text.ensures) c.in-Ok.ensures.exact found
