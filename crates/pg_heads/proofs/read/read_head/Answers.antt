use Rattle.std.proofs.Common.{◌≡◌, List, ℕ, ◌∙◌, ap, subst, rules, codes, length}
use Rattle.std.specs.Prelude.{nat_lt}
use Rattle.std.specs.List.{list_any}
use Rattle.pg_messages.specs.Messages.{same_name}
use Rattle.pg_heads.specs.Told.{IsFound}
use Rattle.pg_heads.proofs.Fields.{values-at}
use Rattle.pg_heads.proofs.read.read_head.Goals as goal

pub returns : goal.returns
returns c =
    let some = c.in_ok-spans.ensures.some in
    let h = some.0 in
    let at = some.2 in
    let values = λ (name : List ℕ). values-at name c.args.bytes.now c.spans_of.new.headers c.as_slice.result.now c.split_at.result.0.now c.in_ok-spans.spans.headers h.fields
    c.as_slice.ensures c.split_at.ensures.front at.fields in
    let text : c.in_ok-target.target.now ≡ c.of.result.now = search (rules, c.in_ok-target.was, c.ok.ensures.value, c.from_utf8.ensures.cases) in (
      h,
      some.1,
      record {
        method = c.of-2.ensures ∙ at.method;
        target = text ∙ c.of.ensures ∙ at.path;
        minor = at.version;
        size = subst (IsFound c.find.result) (values (codes "content-length")) c.find.ensures;
        coded = c.stands.ensures ∙ ap (λ (vs : List (List ℕ)). nat_lt 0 (length vs)) (values (codes "transfer-encoding"));
        closes = c.has_value.ensures ∙ ap (λ (vs : List (List ℕ)). list_any (λ v. same_name v (codes "close")) vs) (values (codes "connection"));
        pass = subst (IsFound c.find-2.result) (values (codes "proofgame-pass")) c.find-2.ensures;
      },
    )
