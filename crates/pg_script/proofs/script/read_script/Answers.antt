use Rattle.pg_script.proofs.Places.{text_fault}
use Rattle.pg_script.proofs.Promises.{script_laid_out, script_all}
use Rattle.pg_script.proofs.script.read_script.Goals as goal

pub returns-clause-laid_out : goal.returns-clause-laid_out
returns-clause-laid_out c = script_laid_out c.args.sample c.args.source.now c.script_in.result c.script_in.ensures.exact

pub returns-clause-read : goal.returns-clause-read
returns-clause-read c = script_all c.args.sample c.args.source.now c.script_in.result c.script_in.ensures.exact

pub returns-clause-place : goal.returns-clause-place
returns-clause-place c = text_fault c.args.sample c.args.source.now c.script_in.result c.script_in.ensures.spans c.script_in.ensures.exact
