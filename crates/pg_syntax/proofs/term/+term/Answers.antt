use Rattle.std.proofs.Common.{ap, ◌∙◌}
use Rattle.pg_shape.specs.View.{shape as shape_in, op as sign}
use Rattle.pg_meaning.specs.Faults as meaning
use Rattle.pg_syntax.specs.View.{scope as scope_in}
use Rattle.pg_terms.specs.View.{term as term_in, args}
use Rattle.pg_logic.specs.Tree.{app}
use Rattle.pg_syntax.proofs.Views.{shape-App, shape-Binary, term-App}
use Rattle.pg_syntax.proofs.Wholes.{call_means, sign_means}
use Rattle.pg_syntax.proofs.term.+term.Goals as goal

pub term-returns-in_ok-with_last-in-App : goal.term-returns-in_ok-with_last-in-App
term-returns-in_ok-with_last-in-App n c =
    let both = call_means (scope_in c.args.scope.now) (meaning.beginning (shape_in c.args.whole.now)) (shape_in c.in-App.f) (shape_in c.in-App.s) (shape_in c.args.shape.now)
    (shape_in c.get-in-App.result.now) (shape_in c.get-in-App-2.result.now) (shape_in c.get-in-App-3.result.now) (shape_in c.get-in-App-4.result.now)
    c.in_ok-id-in-App.id (args c.in_ok-ts-in-App.ts) (term_in c.in_ok-t-in-App.t)
    (ap shape_in c.in-App.is ∙ shape-App c.in-App.f c.in-App.s) (ap shape_in c.get-in-App.ensures) (ap shape_in c.get-in-App-2.ensures) (ap shape_in c.get-in-App-3.ensures) (ap shape_in c.get-in-App-4.ensures)
    c.in_ok-id-in-App.ensures c.in_ok-ts-in-App.ensures c.in_ok-t-in-App.ensures in
    (both.0, term-App c.in_ok-id-in-App.id c.in_ok-with_last-in-App.field-0 ∙ ap (app c.in_ok-id-in-App.id) c.in_ok-with_last-in-App.ensures ∙ both.1)

pub term-returns-in_ok-infix-in-Binary : goal.term-returns-in_ok-infix-in-Binary
term-returns-in_ok-infix-in-Binary n c =
    let both = sign_means (scope_in c.args.scope.now) (meaning.beginning (shape_in c.args.whole.now)) c.in-Binary.at (sign c.in-Binary.op) (shape_in c.in-Binary.l) (shape_in c.in-Binary.r) (shape_in c.args.shape.now)
    (shape_in c.get-in-Binary.result.now) (shape_in c.get-in-Binary-2.result.now) (shape_in c.get-in-Binary-3.result.now) (shape_in c.get-in-Binary-4.result.now)
    c.in_ok-id-in-Binary.id (term_in c.in_ok-left-in-Binary.left) (term_in c.in_ok-right-in-Binary.right)
    (ap shape_in c.in-Binary.is ∙ shape-Binary c.in-Binary.at c.in-Binary.op c.in-Binary.l c.in-Binary.r) (ap shape_in c.get-in-Binary.ensures) (ap shape_in c.get-in-Binary-2.ensures) (ap shape_in c.get-in-Binary-3.ensures) (ap shape_in c.get-in-Binary-4.ensures)
    c.in_ok-id-in-Binary.ensures.is c.in_ok-id-in-Binary.ensures.operands c.in_ok-left-in-Binary.ensures c.in_ok-right-in-Binary.ensures in
    (both.0, c.in_ok-infix-in-Binary.ensures ∙ both.1)
