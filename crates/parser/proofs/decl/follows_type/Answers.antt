-- `follows_type` meets its contract: each return is a law of `Variables`.
use Rattle.parser.proofs.Variables.{follows-in-class, follows-name, follows-mark, follows-other}
use Rattle.parser.proofs.decl.follows_type.Goals as goal

pub returns-then-in_class : goal.returns-then-in_class
returns-then-in_class c = search follows-in-class

pub returns-then-is_name : goal.returns-then-is_name
returns-then-is_name c = search follows-name

pub returns-then-k-eq-OPEN_BRACKET : goal.returns-then-k-eq-OPEN_BRACKET
returns-then-k-eq-OPEN_BRACKET c = search follows-mark

pub returns-else-k-eq-OPEN_BRACKET : goal.returns-else-k-eq-OPEN_BRACKET
returns-else-k-eq-OPEN_BRACKET c = search follows-other
