use Rattle.std.proofs.Common.{◌≡◌, false, length, map}
use Rattle.pg_base.specs.Tokens.{word}
use Rattle.pg_script.specs.View.{words}
use Rattle.pg_gametext.specs.Forms.{links_after}
use Rattle.pg_forms.specs.View.{link}
use Rattle.pg_forms.specs.Links.{with_links}
use Rattle.pg_forms.proofs.link.links_after.Given as goal

abbrev pub invariant-loop-before : goal.invariant-loop-before
invariant-loop-before l =
    with_links (map link l.value.items) (links_after l.some l.end (word l.before) (words l.left.tokens.now)) ≡ links_after false l.end (word l.first) (words l.tokens)

abbrev pub decreases-loop-before : goal.decreases-loop-before
decreases-loop-before l = length l.left.tokens.now
