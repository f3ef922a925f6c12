-- `base::word::mul` meets its contract: the whole product of two words fits 64 bits.
use Rattle.std.proofs.Common.{rules}
use Rattle.base.specs.laws.WordLaws.{product-below}
use Rattle.base.proofs.word.mul.Goals as goal

pub overflow_mul-whole : goal.overflow_mul-whole
overflow_mul-whole c = record { fits = product-below 32 (search rules) (search rules) }
