-- `lexer::bytes::byte_kinds` meets its contract: the one test, computed over all 256 entries.
use mathlib.Core.Path.{refl}
use Rattle.lexer.specs.Bytes.{is_blank, is_letter, is_digit_lem}
use Rattle.lexer.specs.Kinds.{mark_kind_lem}
use Rattle.lexer.specs.ByteKinds.{is_mark, byte_kind}
use Rattle.lexer.proofs.bytes.byte_kinds.Goals as goal

pub returns : goal.returns
unfolding byte_kind is_letter is_digit_lem is_blank is_mark mark_kind_lem
returns c = record { test = refl }
