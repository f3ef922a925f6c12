-- What the look-ups ensure, whatever the tokens and the classes are that the table holds.
use Rattle.std.specs.Prelude.{ℕ, ◌+◌, ◌-◌, ◌%◌, ◌≤◌, ◌<◌, ◌≡◌, List, [], ◌∷◌, Bool, false, ◌||◌, length, eqb, ltb}
use Rattle.std.proofs.Math.Option.{Option, none, some}
use Rattle.base.specs.Choice.{if◌then◌otherwise◌, option}
use Rattle.base.specs.Word.{modulus}
use Rattle.base.specs.promises.Table.{col, c_number, c_next}
use Rattle.lexer.specs.Tokens.{Token}
use Rattle.lexer.specs.promises.Rows.{first_named}
use Rattle.parser.specs.Tree.{Element, Ty, Variable, Method, Class}
use Rattle.parser.specs.promises.Layout.{absent, row_variables, row_methods}
use Rattle.reader.specs.promises.Matches.{ElementMatches, TypeMatches}
use Rattle.typesystem.specs.ClassTable.{Slot, Found, underlying, known, fits, variable_named, method_named_lem, nearest_method, occurs}
use Rattle.lookup.specs.promises.HeldClasses.{Lexemes, NameNumber, MaybeNumber, no_type, array_mark, ElementCodes, Codes, VariablesHeld, MethodsHeld, ClassHeld, ClassTableHeld, chain_from, parent_name}

-- TYPES

pub record ElementTypeOf (tab : List ℕ) (n row : ℕ) (r : ℕ) : Type 0 where
  pub low : r ≤ no_type
  pub says : (ts : List Token) → Lexemes tab n ts → (t : Element) → ElementMatches ts row t → ElementCodes ts t r

pub record TypeOf (tab : List ℕ) (n row : ℕ) (r : ℕ) : Type 0 where
  pub low : r ≤ no_type + array_mark
  pub says : (ts : List Token) → Lexemes tab n ts → (i : ℕ) → i ≡ row → (t : Ty) → TypeMatches ts i t → Codes ts t r

pub record ElementOf (w r : ℕ) : Type 0 where
  pub is : r ≡ (if ltb w array_mark then (λ _. w) otherwise λ _. w - array_mark)

pub record Knows (tab : List ℕ) (n w : ℕ) (r : Bool) : Type 0 where
  pub says : (ts : List Token) (G : List Class) → ClassTableHeld tab n ts G → (t : Ty) → Codes ts t w → r ≡ known G (underlying t)

pub record Fits (tab : List ℕ) (n classes v w : ℕ) (r : Bool) : Type 0 where
  pub says : (ts : List Token) (G : List Class) → ClassTableHeld tab n ts G → length G ≡ classes → (s t : Ty) → Codes ts s v
      → Codes ts t w → r ≡ fits G s t

-- MEMBERS

-- the type of what was looked for, by number
pub data LookedUp {A : Type 0} (ts : List Token) (type : A → Ty) : Option A → ℕ → Type 0 where
  untyped : {w : ℕ} → w ≡ no_type → LookedUp ts type none w
  typed : {a : A} {w : ℕ} → Codes ts (type a) w → LookedUp ts type (some a) w

-- of a variable
abbrev pub SlotTyped : List Token → Option Slot → ℕ → Type 0
SlotTyped ts o w = LookedUp ts (λ (s : Slot). s.type) o w

pub record VariableTyped (tab : List ℕ) (n left row x : ℕ) (r : ℕ) : Type 0 where
  pub says : (ts : List Token) → Lexemes tab n ts → (vs : List Variable) → row_variables vs ≡ row → VariablesHeld tab ts vs
      → length vs ≤ left
      → (text : List ℕ) → NameNumber ts text x → SlotTyped ts (variable_named vs text) r

abbrev pub row_method : Option Method → ℕ
row_method none = absent
row_method (some m) = m.name.row

pub record MethodRow (tab : List ℕ) (left row x : ℕ) (r : ℕ) : Type 0 where
  pub says : (n : ℕ) (ts : List Token) → Lexemes tab n ts → (ms : List Method) → row_methods ms ≡ row → MethodsHeld tab n ts ms
      → length ms ≤ left
      → (text : List ℕ) → NameNumber ts text x → r ≡ row_method (method_named_lem ms text)

-- the members of a list have these names, one after the other; more may follow
pub data Names (tab : List ℕ) (ts : List Token) : ℕ → List (List ℕ) → Type 0 where
  no_names : {row : ℕ} → Names tab ts row []
  more-names : {row next number : ℕ} {x : List ℕ} {xs : List (List ℕ)} → row < absent → col tab c_number row ≡ number → NameNumber ts x number
      → col tab c_next row ≡ next
      → Names tab ts next xs → Names tab ts row (x ∷ xs)

pub record Repeated (tab : List ℕ) (count row x : ℕ) (r : Bool) : Type 0 where
  pub says : (ts : List Token) (xs : List (List ℕ)) → Names tab ts row xs → length xs ≡ count → (text : List ℕ) → NameNumber ts text x
      → r ≡ occurs text xs

-- a list of so many members
pub data Many (tab : List ℕ) : ℕ → ℕ → Type 0 where
  many-none : {row : ℕ} → absent ≤ row → Many tab row 0
  many_more : {row next l : ℕ} → row < absent → col tab c_next row ≡ next → Many tab next l → Many tab row (ℕ.suc l)

pub record Counts (tab : List ℕ) (left row : ℕ) (r : ℕ) : Type 0 where
  pub most : r ≤ left
  pub says : (l : ℕ) → Many tab row l → l ≤ left → r ≡ l

-- CHAINS

pub record Above (tab : List ℕ) (class : ℕ) (r : ℕ) : Type 0 where
  pub says : (n : ℕ) (ts : List Token) → Lexemes tab n ts → (k : Class) → k.name.row ≡ class → ClassHeld tab n ts k
      → MaybeNumber ts (parent_name k.parent) r

-- a class of this number is among these
unfoldable pub among_numbers : List Token → ℕ → List Class → Bool
among_numbers ts d [] = false
among_numbers ts d (k ∷ ks) = eqb (first_named ts k.name.text) d || among_numbers ts d ks

pub record OnChain (tab : List ℕ) (left c d : ℕ) (r : Bool) : Type 0 where
  pub says : (n : ℕ) (ts : List Token) (G : List Class) → ClassTableHeld tab n ts G → (name : Option (List ℕ)) → MaybeNumber ts name c
      → r ≡ among_numbers ts d (chain_from left G name)

-- how many classes the search for a method visits: up to and including the first that has it
unfoldable pub visited : List Class → (method : List ℕ) → ℕ
visited [] m = 0
visited (k ∷ ks) m = option (method_named_lem k.methods m) (1 + visited ks m) λ _. 1

-- in 32 bits
pub record CountsVisits (tab : List ℕ) (n left c x : ℕ) (r : ℕ) : Type 0 where
  pub says : (ts : List Token) (G : List Class) → ClassTableHeld tab n ts G → (name : Option (List ℕ)) → MaybeNumber ts name c
      → (text : List ℕ) → NameNumber ts text x → r ≡ visited (chain_from left G name) text % modulus

abbrev pub row_found : Option Found → ℕ
row_found none = absent
row_found (some F) = F.method.name.row

pub record FindsMethod (tab : List ℕ) (n left c x : ℕ) (r : ℕ) : Type 0 where
  pub says : (ts : List Token) (G : List Class) → ClassTableHeld tab n ts G → (name : Option (List ℕ)) → MaybeNumber ts name c
      → (text : List ℕ) → NameNumber ts text x
      → r ≡ row_found (nearest_method (chain_from left G name) text)
