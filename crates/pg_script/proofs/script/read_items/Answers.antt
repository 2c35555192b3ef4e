use Rattle.pg_script.specs.View.{words}
use Rattle.pg_script.proofs.Places.{items_fault}
use Rattle.pg_script.proofs.Promises.{items_laid, items_all}
use Rattle.pg_script.proofs.script.read_items.Goals as goal

pub returns-clause-laid_out : goal.returns-clause-laid_out
returns-clause-laid_out c = items_laid c.args.sample c.args.end (words c.args.tokens.now) c.items_in.result c.items_in.ensures

pub returns-clause-read : goal.returns-clause-read
returns-clause-read c = items_all c.args.sample c.args.end (words c.args.tokens.now) c.items_in.result c.items_in.ensures

pub returns-clause-place : goal.returns-clause-place
returns-clause-place c = items_fault c.args.sample c.args.end (words c.args.tokens.now) c.items_in.result c.requires.tokens c.items_in.ensures
