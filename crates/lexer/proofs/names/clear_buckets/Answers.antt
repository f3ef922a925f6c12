-- The heads of the buckets are one range of the table.
use Prim.Native.Nat.{ℕ}
use native.Mathlib.Omega.{arith}
use mathlib.Core.Path.{ap, ◌∙◌}
use lib.ListN.{drop, replicate, length-drop}
use Rattle.std.proofs.lemmas.List.{length-take-le}
use Rattle.lexer.proofs.Chains.{no-names-filled}
use Rattle.lexer.proofs.names.clear_buckets.Goals as goal

pub returns : goal.returns
returns c =
    no-names-filled c.args.table.now _ c.fill.new.self c.requires
    (c.fill.ensures.after (λ y e. e) ∙ ap (λ (n : ℕ). replicate n 0) (length-take-le 2048 (drop 10240 c.args.table.now) (omega (arith, c.requires, length-drop 10240 c.args.table.now))))
