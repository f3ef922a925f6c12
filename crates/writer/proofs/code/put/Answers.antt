-- Four words are written, one after another.
use native.Mathlib.Omega.{arith}
use Rattle.writer.proofs.PieceLaws.{put_four}
use Rattle.writer.proofs.code.put.Goals as goal

pub returns-then-at-lt-ROOM : goal.returns-then-at-lt-ROOM
returns-then-at-lt-ROOM c = search put_four

pub returns : goal.returns
returns c = record { within = omega arith; next = λ h. absurd (omega arith); says = λ h. absurd (omega arith) }
