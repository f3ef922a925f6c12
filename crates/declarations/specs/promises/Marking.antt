-- The names that a list of members has declared, by the words of an array: the word of a name's number is the list's stamp just where the
-- name is declared.
use Rattle.std.specs.Prelude.{ℕ, ◌<◌, ◌≡◌, List, Bool, get_or, eqb}
use Rattle.lexer.specs.Tokens.{Token}
use Rattle.typesystem.specs.ClassTable.{occurs}
use Rattle.parser.specs.promises.Layout.{absent}
use Rattle.lookup.specs.promises.HeldClasses.{NameNumber}

-- all words are below a bound, so no name has a stamp that is not
pub record StampsBelow (bound : ℕ) (marks : List ℕ) : Type 0 where
  pub words : (i : ℕ) → get_or marks i 0 < bound

-- what is written is the stamp
abbrev pub Stays : (stamp : ℕ) (before after : List ℕ) → Type 0
Stays stamp before after = (bound : ℕ) → stamp < bound → StampsBelow bound before → StampsBelow bound after

-- just these names have the stamp
pub record Marked (ts : List Token) (marks : List ℕ) (stamp : ℕ) (earlier : List (List ℕ)) : Type 0 where
  pub says : (text : List ℕ) (x : ℕ) → NameNumber ts text x → eqb (get_or marks x 0) stamp ≡ occurs text earlier

pub record MarkPost (x stamp : ℕ) (before after : List ℕ) (r : Bool) : Type 0 where
  pub says : x < absent → r ≡ eqb (get_or before x 0) stamp
  pub here : x < absent → get_or after x 0 ≡ stamp
  pub others : (i : ℕ) → (x ≡ i → ⊥) → get_or after i 0 ≡ get_or before i 0
  pub below : Stays stamp before after
