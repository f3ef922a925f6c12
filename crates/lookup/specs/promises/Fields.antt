-- What a field of each name means to the bodies of a class, by two words of an array for each name, and what the functions ensure that
-- write them.
use Rattle.std.specs.Prelude.{ℕ, ◌+◌, ◌*◌, ◌≤◌, ◌<◌, ◌≡◌, List, length, get_or}
use Rattle.std.proofs.Math.Option.{Option, none, some}
use Rattle.base.specs.Choice.{option}
use Rattle.base.specs.Codes.{tokens_most, variables_most}
use Rattle.lexer.specs.Tokens.{Token}
use Rattle.parser.specs.Tree.{Variable, Class}
use Rattle.parser.specs.promises.Layout.{row_variables}
use Rattle.typesystem.specs.ClassTable.{Slot, moved, variable_named, layout, nearest_field}
use Rattle.lookup.specs.promises.HeldClasses.{Lexemes, NameNumber, MaybeNumber, no_type, Codes, VariablesHeld, ClassTableHeld, chain_from}

-- c is the number of the name of a class, or of none
pub record ObjectSize (tab : List ℕ) (n left c : ℕ) (r : ℕ) : Type 0 where
  pub most : r ≤ tokens_most * left
  pub says : (ts : List Token) (G : List Class) → ClassTableHeld tab n ts G → (name : Option (List ℕ)) → MaybeNumber ts name c
      → r ≡ length (layout (chain_from left G name))

-- TWO WORDS FOR EACH NAME

-- the words say what was found of a field: its type, by number, and its slot, which is `variables_most` and its place in the object
pub data Tells (ts : List Token) : Option Slot → (type slot : ℕ) → Type 0 where
  no_field : {t p : ℕ} → t ≡ no_type → Tells ts none t p
  a-field : {s : Slot} {t p : ℕ} → Codes ts s.type t → p ≡ variables_most + s.place → Tells ts (some s) t p

-- how many words the array has at least, and where the slots begin in it
abbrev pub fields_least : ℕ
fields_least = 4096

abbrev pub slots_from : ℕ
slots_from = 2048

-- the words of the name of number x
abbrev pub TellsAt : List Token → List ℕ → ℕ → Option Slot → Type 0
TellsAt ts fields x o = Tells ts o (get_or fields x 0) (get_or fields (slots_from + x) 0)

-- what a field of each name means to the bodies of a class, or to main, which has no name as owner; `left` classes upwards
pub record FieldsOf (ts : List Token) (G : List Class) (left : ℕ) (owner : Option (List ℕ)) (fields : List ℕ) : Type 0 where
  pub says : (text : List ℕ) (x : ℕ) → NameNumber ts text x → TellsAt ts fields x (nearest_field (chain_from left G owner) text)

-- the same of the class whose name has the number c, whatever the tokens and the classes are that the table holds
pub record FieldsHeld (tab : List ℕ) (n left c : ℕ) (fields : List ℕ) : Type 0 where
  pub says : (ts : List Token) (G : List Class) → ClassTableHeld tab n ts G → (name : Option (List ℕ)) → MaybeNumber ts name c
      → FieldsOf ts G left name fields

-- WRITING THEM

-- the words behind them stay
abbrev pub KeptBehind : (before after : List ℕ) → Type 0
KeptBehind before after = (j : ℕ) → fields_least ≤ j → get_or after j 0 ≡ get_or before j 0

-- the first n names have no field
abbrev pub NoFields : ℕ → List ℕ → Type 0
NoFields n fields = (x : ℕ) → x < n → get_or fields x 0 ≡ no_type

pub record Cleared (n : ℕ) (before after : List ℕ) : Type 0 where
  pub stays : KeptBehind before after
  pub empty : NoFields n after

-- a field of the list comes before what was found above
pub record OwnHeld (tab : List ℕ) (n left row at : ℕ) (before after : List ℕ) : Type 0 where
  pub stays : KeptBehind before after
  pub says : (ts : List Token) → Lexemes tab n ts → (vs : List Variable) → row_variables vs ≡ row → VariablesHeld tab ts vs
      → length vs ≤ left
      → (text : List ℕ) (x : ℕ) → NameNumber ts text x → (upper : Option Slot) → TellsAt ts before x upper
      → TellsAt ts after x (option (variable_named vs text) upper λ s. some (moved at s))

pub record FieldsClimbed (tab : List ℕ) (n left c : ℕ) (before after : List ℕ) (r : ℕ) : Type 0 where
  pub size : ObjectSize tab n left c r
  pub stays : KeptBehind before after
  pub held : NoFields n before → FieldsHeld tab n left c after

pub record FieldsFilled (tab : List ℕ) (n left c : ℕ) (before after : List ℕ) : Type 0 where
  pub stays : KeptBehind before after
  pub held : FieldsHeld tab n left c after
