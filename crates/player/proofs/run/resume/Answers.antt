-- `player::run::resume` meets its contract.
use Rattle.player.proofs.Parts.{resume-refused, resume-form, resumed}
use Rattle.player.proofs.run.resume.Goals as goal

pub returns-in-Err : goal.returns-in-Err
returns-in-Err c = resume-refused c.in-Err.ensures c.refused.ensures

pub returns-in-Err-form : goal.returns-in-Err-form
returns-in-Err-form c = resume-form c.in_default.ensures c.in-Err-form.ensures c.refused-in-Err-form.ensures

pub returns : goal.returns
returns c = resumed c.in_default.ensures c.in_default-form.ensures c.go_on.ensures
