-- What climbing a chain ensures, with an array that has the heights of the chains climbed before.
use Rattle.std.specs.Prelude.{ℕ, ◌≤◌, ◌≡◌, List, false, get_or, replicate, leb}
use Rattle.base.specs.laws.Lists.{get_d-replicate-same}
use Rattle.lexer.specs.Tokens.{Token}
use Rattle.parser.specs.Tree.{Class}
use Rattle.typesystem.specs.ClassTable.{ends_within}
use Rattle.lookup.specs.promises.HeldClasses.{NameNumber, ClassTableHeld}

-- the chain of the name of number c has h classes, whatever the tokens and the classes are that the table holds: it ends within h and not
-- within fewer
pub record Height (tab : List ℕ) (c h : ℕ) : Type 0 where
  pub says : (n : ℕ) (ts : List Token) (G : List Class) → ClassTableHeld tab n ts G → (name : List ℕ) → NameNumber ts name c → (left : ℕ)
      → ends_within left G name ≡ leb h left

-- it does not end within so many
pub record Higher (tab : List ℕ) (c left : ℕ) : Type 0 where
  pub says : (n : ℕ) (ts : List Token) (G : List Class) → ClassTableHeld tab n ts G → (name : List ℕ) → NameNumber ts name c
      → ends_within left G name ≡ false

-- each word of the array that is not 0 is the height of its number
pub record HeightsRight (tab heights : List ℕ) : Type 0 where
  pub says : (c : ℕ) → (get_or heights c 0 ≡ 0 → ⊥) → Height tab c (get_or heights c 0)

-- an array of zeros has none
pub none-known : (tab : List ℕ) (n : ℕ) → HeightsRight tab (replicate n 0)
none-known tab n = record { says = λ c other. absurd (other (get_d-replicate-same n c 0)) }

-- r is the height of c, where that is at most `left`, else 0
pub record HeightClimbed (tab : List ℕ) (left c : ℕ) (heights : List ℕ) (r : ℕ) : Type 0 where
  pub most : r ≤ left
  pub right : HeightsRight tab heights
  pub height : (r ≡ 0 → ⊥) → Height tab c r
  pub higher : r ≡ 0 → Higher tab c left
