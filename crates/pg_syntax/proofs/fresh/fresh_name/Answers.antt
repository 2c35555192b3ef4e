use Rattle.std.proofs.Common.{◌≡◌, ◌∙◌, List, [], ◌++◌, reverse}
use Rattle.pg_logic.specs.Declarations.{Name}
use Rattle.pg_spelling.specs.Fresh.{fresh, IsFresh}
use Rattle.pg_spelling.specs.Named.{declared_names}
use Rattle.pg_arith.specs.View.{declarations}
use Rattle.pg_syntax.proofs.FreshNames.{fresh_turned}
use Rattle.pg_syntax.proofs.Lists.{fresh-turned}
use Rattle.pg_syntax.proofs.Weights.{if_ok}
use Rattle.pg_syntax.proofs.fresh.fresh_name.Goals as goal

pub returns-clause-is : goal.returns-clause-is
returns-clause-is c =
    let declared : List Name = declared_names (declarations c.args.sig.now) in
    if_ok c.fresh.result
    (λ (n : Name). n ≡ fresh (reverse c.args.taken.now ++ ([] ++ declared)) c.args.name.now) (λ (n : Name). n ≡ fresh (c.args.taken.now ++ declared) c.args.name.now)
    (λ n e. e ∙ fresh-turned c.args.taken.now declared c.args.name.now) c.fresh.ensures.is

pub returns-clause-free : goal.returns-clause-free
returns-clause-free c =
    let declared : List Name = declared_names (declarations c.args.sig.now) in
    if_ok c.fresh.result
    (λ (n : Name). IsFresh (reverse c.args.taken.now ++ ([] ++ declared)) c.args.name.now n) (λ (n : Name). IsFresh (c.args.taken.now ++ declared) c.args.name.now n)
    (λ n f. fresh_turned c.args.taken.now declared c.args.name.now n f) c.fresh.ensures.free
