use Rattle.std.proofs.Common.{◌∙◌, ◌-◌, sym, Some, arith}
use Rattle.pg_forms.specs.View.{part}
use Rattle.pg_gametext.specs.Faults.{hint_limit}
use Rattle.pg_gametext.specs.Checks.{block_hints}
use Rattle.pg_hints.proofs.Counts.{counted, no_fault, first_fault}
use Rattle.pg_hints.proofs.block.block_hints.Goals as goal

pub overflow_sub-result : goal.overflow_sub-result
overflow_sub-result c =
    let e = sym c.in-Ok-Ok.ensures ∙ c.in-Ok-Ok.field-0-is in
    omega (arith, counted (hint_limit - c.args.before) c.in-Ok-Ok.left (block_hints (Some (part c.args.block))) e)

pub returns-in-Ok-Ok : goal.returns-in-Ok-Ok
returns-in-Ok-Ok c =
    let e = sym c.in-Ok-Ok.ensures ∙ c.in-Ok-Ok.field-0-is in
    let ats = block_hints (Some (part c.args.block)) in
    (no_fault c.args.before c.in-Ok-Ok.left ats e, omega (arith, counted (hint_limit - c.args.before) c.in-Ok-Ok.left ats e, c.requires.room))

pub returns-in-Ok-Err : goal.returns-in-Ok-Err
returns-in-Ok-Err c =
    let e = sym c.in-Ok-Err.ensures ∙ c.in-Ok-Err.field-0-is in
    first_fault c.args.before c.in-Ok-Err.at (block_hints (Some (part c.args.block))) e
