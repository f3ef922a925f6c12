-- Menu's order of an accepted lesson's classes: each class exactly one time, each after the one that it extends, and in each place the
-- earliest class that may stand there; no other order is such. It holds since the names are distinct and the chains end.
use Rattle.std.specs.Prelude.{ℕ, ◌≡◌, true, length}
use Rattle.std.proofs.Math.Path.{ap}
use Rattle.std.proofs.Common.{◌∙◌}
use mathlib.Core.List.{List, [], ◌∷◌, ◌++◌, Permᴰ}
use Rattle.std.proofs.Math.Option.{some}
use Rattle.parser.specs.Tree.{Name, Class, Program}
use Rattle.typesystem.specs.ClassTable.{among}
use Rattle.typesystem.specs.TypingRules.{ProgramTyped}
use Rattle.typing.specs.laws.Distinctness.{distinct-rest}
use Rattle.typing.specs.laws.Agreement.{program-acyclic}
use Rattle.menu.specs.Menu.{writing, menu_order}
use Rattle.menu.specs.InOrder.{Earliest, InOrder}
use Rattle.menu.proofs.laws.Writing.{earliest-sound, earliest-complete, writing-places, places-writing, many-same, writing-once}

module _ {p : Program} (t : ProgramTyped p) where
  -- Each class stands exactly one time.
  pub each-once : Permᴰ (menu_order p.classes) p.classes
  unfolding menu_order
  each-once = writing-once p.classes (distinct-rest t.distinct) (program-acyclic t)

  -- In each place stands the earliest class that may stand there.
  pub earliest-first : (us : List Class) (k : Class) (vs : List Class) → menu_order p.classes ≡ us ++ k ∷ vs → Earliest us p.classes k
  unfolding menu_order
  earliest-first us k vs e = earliest-sound us p.classes (writing-places (length p.classes) p.classes [] us k vs e)

  -- A class stands after the one that it extends.
  pub after-parent : (us : List Class) (k : Class) (vs : List Class) → menu_order p.classes ≡ us ++ k ∷ vs
      → (q : Name) → k.parent ≡ some q → among q.text us ≡ true
  after-parent us k vs e = (earliest-first us k vs e).may.after

  -- No other order is such.
  pub only-order : (o : List Class) → InOrder p.classes o → o ≡ menu_order p.classes
  unfolding menu_order
  only-order o h =
      places-writing p.classes [] o (λ us k vs q. earliest-complete us p.classes (h.places us k vs q))
      ∙ ap (λ (n : ℕ). writing n p.classes []) (many-same h.each)

  pub in_order : InOrder p.classes (menu_order p.classes)
  in_order = record { each = each-once; places = earliest-first }
