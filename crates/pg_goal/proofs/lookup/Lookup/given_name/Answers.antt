use Rattle.pg_base.specs.Tokens.{word as word_in}
use Rattle.pg_goal.specs.View.{lookup_of}
use Rattle.pg_goal.proofs.Names.{taken_given}
use Rattle.pg_goal.proofs.lookup.Lookup.given_name.Goals as goal

pub returns : goal.returns
returns c =
    taken_given (lookup_of c.args.self.now) c.args.used.now (word_in c.args.word.now) c.in_ok-name.name c.in_ok-free.free c.as_str.result.now c.as_str-2.result.now
    c.in_ok-name.ensures c.in_ok-free.ensures.free c.as_str.ensures c.as_str-2.ensures c.if-eq.ensures
