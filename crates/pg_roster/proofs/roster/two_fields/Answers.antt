use Rattle.std.proofs.Common.{◌≡◌, length, Some, None, rules}
use Rattle.csv.specs.Records.{field_at, fields_of}
use Rattle.pg_roster.proofs.Fields.{first-there, second-there, two-whole}
use Rattle.pg_roster.proofs.roster.two_fields.Goals as goal

pub returns-in_err-get : goal.returns-in_err-get
returns-in_err-get c =
    let two : length (fields_of c.args.row.now) ≡ 2 = search rules in
    let gone : field_at (fields_of c.args.row.now) 0 ≡ None = search rules in
    absurd (first-there (fields_of c.args.row.now) two gone)

pub returns-in_err-get-2 : goal.returns-in_err-get-2
returns-in_err-get-2 c =
    let two : length (fields_of c.args.row.now) ≡ 2 = search rules in
    let gone : field_at (fields_of c.args.row.now) 1 ≡ None = search rules in
    absurd (second-there (fields_of c.args.row.now) two gone)

pub returns : goal.returns
returns c =
    let two : length (fields_of c.args.row.now) ≡ 2 = search rules in
    let first : field_at (fields_of c.args.row.now) 0 ≡ Some c.in_ok-get.field-0.now = search rules in
    let second : field_at (fields_of c.args.row.now) 1 ≡ Some c.in_ok-get-2.field-0.now = search rules in
    two-whole (fields_of c.args.row.now) _ _ two first second
