-- `player::run::run` meets its contract.
use Rattle.player.proofs.Parts.{run-refused, run-form, run-begun}
use Rattle.player.proofs.run.run.Goals as goal

pub returns-in-Err : goal.returns-in-Err
returns-in-Err c = run-refused c.in-Err.ensures c.refused.ensures

pub returns-in-Err-form : goal.returns-in-Err-form
returns-in-Err-form c = run-form c.in_default.ensures c.in-Err-form.ensures c.refused-in-Err-form.ensures

pub returns : goal.returns
returns c = run-begun c.in_default.ensures c.in_default-form.ensures c.begin.ensures
