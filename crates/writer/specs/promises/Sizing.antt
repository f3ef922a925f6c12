-- What counting the fields of each class's objects ensures: their number stands in an array behind the words of the fields, by the number
-- of the class's name.
use Rattle.std.specs.Prelude.{ℕ, ◌+◌, ◌≡◌, List, length, get_or}
use Rattle.std.proofs.Math.Option.{Option, none, some}
use Rattle.lexer.specs.Tokens.{Token}
use Rattle.parser.specs.Tree.{Class}
use Rattle.typesystem.specs.ClassTable.{class_named, fields_of}
use Rattle.lookup.specs.promises.HeldClasses.{NameNumber, ClassTableHeld}
use Rattle.declarations.specs.promises.Judgements.{ClassesAt}

-- how many words the array has
abbrev pub names_least : ℕ
names_least = 6144

-- where the numbers of fields begin in it
abbrev pub sizes_from : ℕ
sizes_from = 4096

-- how many fields an object of a class of each name holds
pub record SizesHeld (ts : List Token) (G : List Class) (names : List ℕ) : Type 0 where
  pub says : (c : List ℕ) (x : ℕ) → NameNumber ts c x → get_or names (sizes_from + x) 0 ≡ length (fields_of G c)

-- the word of the name x is written, and no other
pub record SizePost (tab : List ℕ) (n classes x : ℕ) (before after : List ℕ) : Type 0 where
  pub others : (j : ℕ) → (sizes_from + x ≡ j → ⊥) → get_or after j 0 ≡ get_or before j 0
  pub says : (ts : List Token) (G : List Class) → ClassTableHeld tab n ts G → length G ≡ classes → (c : List ℕ) → NameNumber ts c x
      → get_or after (sizes_from + x) 0 ≡ length (fields_of G c)

-- the word of a name after a class of that name was looked for
abbrev pub counted : (old new : ℕ) → Option Class → ℕ
counted old new none = old
counted old new (some k) = new

pub record SizesPost (tab : List ℕ) (n classes left row : ℕ) (before after : List ℕ) : Type 0 where
  pub says : (ts : List Token) (G : List Class) → ClassTableHeld tab n ts G → length G ≡ classes → (ks : List Class)
      → ClassesAt tab n ts ks left row
      → (c : List ℕ) (x : ℕ) → NameNumber ts c x
      → get_or after (sizes_from + x) 0 ≡ counted (get_or before (sizes_from + x) 0) (length (fields_of G c)) (class_named ks c)
