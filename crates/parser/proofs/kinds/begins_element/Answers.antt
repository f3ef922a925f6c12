-- `begins_element` meets its contract: the first test that holds decides.
use Prim.Native.Nat.{ℕ}
use mathlib.Core.Path.{◌≡◌, sym, ◌∙◌}
use mathlib.Core.Logic.{◌≢◌}
use mathlib.Core.Bool.{Bool, ◌&&◌}
use Rattle.lexer.specs.Kinds.{is_name_lem, k_int, k_boolean}
use borrow.Author.Tests.{eq-eqb, ne_eqb}
use Rattle.parser.specs.promises.Post.{begins_element_lem}
use Rattle.parser.proofs.kinds.begins_element.Goals as goal

-- a kind that is neither `int` nor `boolean`
other : (k : ℕ) (named : Bool) → k ≢ k_int → k ≢ k_boolean → begins_element_lem k named ≡ (is_name_lem k && named)
unfolding begins_element_lem
other k named z z' = simp (ne_eqb _ _ z, ne_eqb _ _ z')

pub returns-then-k-eq-INT : goal.returns-then-k-eq-INT
unfolding begins_element_lem
returns-then-k-eq-INT c = simp (eq-eqb _ _ c.if-k-eq-INT.true)

pub returns-then-k-eq-BOOLEAN : goal.returns-then-k-eq-BOOLEAN
unfolding begins_element_lem
returns-then-k-eq-BOOLEAN c = simp (ne_eqb _ _ c.if-k-eq-INT.false, eq-eqb _ _ c.if-k-eq-BOOLEAN.true)

pub returns-then-is_name : goal.returns-then-is_name
returns-then-is_name c =
    simp (
      other c.args.k c.args.named c.if-k-eq-INT.false c.if-k-eq-BOOLEAN.false,
      sym c.is_name.ensures
          ∙ c.if-is_name.true,
    )

pub returns-else-is_name : goal.returns-else-is_name
returns-else-is_name c =
    simp (
      other c.args.k c.args.named c.if-k-eq-INT.false c.if-k-eq-BOOLEAN.false,
      c.if-is_name.false,
      sym
          c.is_name.ensures ∙ c.if-is_name.false,
    )
