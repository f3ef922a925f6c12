-- The product is of small numbers.
use Rattle.std.proofs.Common.{arith, refl}
use Rattle.encoder.proofs.FrameLaws.{product-few}
use Rattle.encoder.proofs.frame.table_line.Goals as goal

pub overflow_mul-before : goal.overflow_mul-before
overflow_mul-before c = let m = product-few c.args.p.few_classes c.requires.1 in omega (arith, m)

pub overflow_add-result : goal.overflow_add-result
overflow_add-result c = let m = product-few c.args.p.few_classes c.requires.1 in omega (arith, m)

pub returns : goal.returns
returns c = let m = product-few c.args.p.few_classes c.requires.1 in (refl, omega (arith, m))
