-- Each return is a law of `MenuLaws`.
use Rattle.menu.proofs.MenuLaws.{fill-short, fill-long, fill-never}
use Rattle.menu.proofs.menu.fill.Goals as goal

pub returns-then-strip-classes : goal.returns-then-strip-classes
returns-then-strip-classes c = search fill-short

pub returns-then-unwritten-ne0 : goal.returns-then-unwritten-ne0
returns-then-unwritten-ne0 c = search fill-never

pub returns : goal.returns
returns c = search fill-long
