-- What the functions of Join ensure.
use Rattle.std.specs.Prelude.{ℕ, ◌≡◌, List, Result}
use Rattle.base.specs.Outcome.{accepted}
use Rattle.parser.specs.Read.{Reading, reading}
use Rattle.reader.specs.promises.ReadPost.{Filling}
use Rattle.base.specs.Write.{WriteResult}
use Rattle.base.specs.promises.Answers.{write_result_of}
use Rattle.base.specs.declared.refusal.Refusal.{Refusal}

-- the answer and the strip are these
pub record JoinAnswered (x : WriteResult) (a : Result ℕ Refusal) (strip : List ℕ) : Type 0 where
  pub is : write_result_of a strip ≡ x

-- the table holds the tokens and the tree of a lesson
pub record LessonHeld (s tab : List ℕ) : Type 0 where
  pub found : Reading
  pub is : reading s ≡ accepted found
  pub held : Filling tab found
