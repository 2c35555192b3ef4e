use Rattle.pg_base.proofs.Decoding.{behind-line, behind-other}
use Rattle.pg_base.proofs.meaning.push_behind.Goals as goal

pub returns-in-Some-clause-meant : goal.returns-in-Some-clause-meant
returns-in-Some-clause-meant c = behind-line _ _ _ _ c.in-Some.ensures.front c.if-c-eq10.true

pub returns-in_ok-push_escaped-in-Some-2-clause-meant :
    goal.returns-in_ok-push_escaped-in-Some-2-clause-meant
returns-in_ok-push_escaped-in-Some-2-clause-meant c = behind-other _ _ _ _ _ c.in-Some.ensures.front c.if-c-eq10.false c.in_ok-push_escaped-in-Some-2.ensures
