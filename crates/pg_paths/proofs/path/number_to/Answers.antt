use Rattle.std.proofs.Common.{◌≡◌, ◌≢◌, ℕ, get_or, subst, sym as flip, ◌∙◌, List}
use Rattle.pg_paths.proofs.Numbers.{number-told, no-plus}
use Rattle.pg_paths.proofs.path.number_to.Goals as goal

pub returns-in_default-clause-value : goal.returns-in_default-clause-value
returns-in_default-clause-value c =
    let P : List ℕ → Type 0 = λ t. c.in_ok-first.field-0.now ≡ get_or t 0 0 in
    let first : get_or c.args.text.now 0 0 ≡ c.in_ok-first.field-0.now = flip (subst P c.as_bytes.ensures.value (c.in_ok-first.ensures.item.3.1 0)) in
    let plus = no-plus (get_or c.args.text.now 0 0) c.in_ok-first.field-0.now first (flip c.is_ascii_digit.ensures.value ∙ c.if-not-is_ascii_digit.false) in
    let other : get_or c.args.text.now 0 0 ≢ 48 = λ e. c.if-first-eq48.false (flip first ∙ e) in
    let told = number-told c.args.top c.args.text.now c.parse.result c.parse.ensures.value.0 plus other c.ranges.top.fits in
    rw c.in_default.is at told

pub returns-then-number-top-clause-value : goal.returns-then-number-top-clause-value
returns-then-number-top-clause-value c =
    let P : List ℕ → Type 0 = λ t. c.in_ok-first.field-0.now ≡ get_or t 0 0 in
    let first : get_or c.args.text.now 0 0 ≡ c.in_ok-first.field-0.now = flip (subst P c.as_bytes.ensures.value (c.in_ok-first.ensures.item.3.1 0)) in
    let plus = no-plus (get_or c.args.text.now 0 0) c.in_ok-first.field-0.now first (flip c.is_ascii_digit.ensures.value ∙ c.if-not-is_ascii_digit.false) in
    let other : get_or c.args.text.now 0 0 ≢ 48 = λ e. c.if-first-eq48.false (flip first ∙ e) in
    let told = number-told c.args.top c.args.text.now c.parse.result c.parse.ensures.value.0 plus other c.ranges.top.fits in
    let here = rw c.in-Ok.is at told in
    here.0 c.if-number-top.true
