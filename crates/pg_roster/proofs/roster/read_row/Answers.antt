use Rattle.std.proofs.Common.{◌≡◌, true, rules}
use Rattle.pg_roster.specs.Roster.{is_name, is_pass}
use Rattle.pg_roster.proofs.Texts.{name-text, pass-text}
use Rattle.pg_roster.proofs.roster.read_row.Goals as goal

pub text_of-requires : goal.text_of-requires
text_of-requires c = let good : is_name c.in-Some.name.now ≡ true = search rules in name-text _ good

pub text_of-requires-2 : goal.text_of-requires-2
text_of-requires-2 c = let good : is_pass c.in-Some.pass.now ≡ true = search rules in pass-text _ good
