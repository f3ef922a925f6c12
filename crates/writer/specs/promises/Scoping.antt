-- What a body sees, as the code has it, and what looking a name up there ensures.
use Rattle.std.specs.Prelude.{ℕ, ◌<◌, ◌≡◌, List}
use Rattle.base.specs.Word.{modulus}
use Rattle.lexer.specs.Tokens.{Token}
use Rattle.parser.specs.Tree.{Class}
use Rattle.typesystem.specs.ClassTable.{Context, meaning}
use Rattle.lookup.specs.promises.HeldClasses.{NameNumber}
use Rattle.bodies.specs.declared.scope.Scope.{Scope}
use Rattle.bodies.specs.promises.Scoping.{InScope}
use Rattle.writer.specs.promises.Words.{slot_of}
use Rattle.writer.specs.promises.Sizing.{SizesHeld}

-- What a body sees. `names` has, by the number of a name, what a field of that name means, and from `sizes_from` on how many fields an
-- object of a class of that name holds.
pub record Sees (tab names : List ℕ) (ts : List Token) (G : List Class) (Γ : Context) (s : Scope) : Type 0 where
  pub scope : InScope tab ts G Γ s
  pub sizes : SizesHeld ts G names

pub record SlotPost (tab : List ℕ) (s : Scope) (x : ℕ) (r : ℕ) : Type 0 where
  pub most : r < modulus
  pub says : (ts : List Token) (G : List Class) (Γ : Context) → InScope tab ts G Γ s → (text : List ℕ) → NameNumber ts text x
      → r ≡ slot_of (meaning G Γ text)
