-- Each return is a law of `ClassLaws`.
use Rattle.std.proofs.lemmas.Result.{err_from_is_err_and}
use Rattle.declarations.proofs.ClassLaws.{members-next, members-stop}
use Rattle.declarations.proofs.classes.members.Goals as goal

pub returns : goal.returns
returns c = search (members-next, c.in_ok-fields.was)

pub returns-in_err-fields : goal.returns-in_err-fields
returns-in_err-fields c =
    let p = err_from_is_err_and c.from_residual.result c.from_residual.ensures.1 in
    rw (p.1, p.2) (search (members-stop, c.in_err-fields.was))
