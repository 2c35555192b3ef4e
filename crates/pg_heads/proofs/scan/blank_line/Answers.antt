use Rattle.std.proofs.Common.{◌≡◌, Bool, true, false, [], ◌∷◌, drop}
use Rattle.pg_heads.proofs.Lines.{blank-feed, blank-pair, blank-none, front-is}
use Rattle.pg_heads.proofs.scan.blank_line.Goals as goal

apart : (b : Bool) → b ≡ true → b ≡ false → ⊥
apart b x y = cc

pub returns-then-starts_with-clause-rest : goal.returns-then-starts_with-clause-rest
returns-then-starts_with-clause-rest c =
    blank-feed c.args.bytes.now (drop 1 c.args.bytes.now) ((front-is c.args.bytes.now (10 ∷ []) c.starts_with.result c.starts_with.ensures.value).0 c.if-starts_with.true)

pub returns-then-starts_with-2-clause-rest : goal.returns-then-starts_with-2-clause-rest
returns-then-starts_with-2-clause-rest c =
    blank-pair c.args.bytes.now (drop 2 c.args.bytes.now) ((front-is c.args.bytes.now (13 ∷ 10 ∷ []) c.starts_with-2.result c.starts_with-2.ensures.value).0 c.if-starts_with-2.true)

pub returns-clause-none : goal.returns-clause-none
returns-clause-none c =
    λ zero_. blank-none c.args.bytes.now
    (λ r e. apart c.starts_with.result ((front-is c.args.bytes.now (10 ∷ []) c.starts_with.result c.starts_with.ensures.value).1 r e) c.if-starts_with.false)
    (λ r e. apart c.starts_with-2.result ((front-is c.args.bytes.now (13 ∷ 10 ∷ []) c.starts_with-2.result c.starts_with-2.ensures.value).1 r e) c.if-starts_with-2.false)
