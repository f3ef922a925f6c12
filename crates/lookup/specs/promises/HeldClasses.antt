-- The class table as the work table holds it: the rows of the declarations match their tokens and lead to one another, no list of them is
-- longer than the tokens are many, and the index leads from the number of a name to the class of that name.
use Rattle.base.specs.Choice.{if◌then◌otherwise◌}
use Rattle.std.specs.Prelude.{ℕ, ◌+◌, ◌≤◌, ◌<◌, ◌≡◌, List, [], ◌∷◌, length, ltb}
use Rattle.std.proofs.Math.Option.{Option, none, some}
use Rattle.base.specs.promises.Table.{col, c_next, c_type, c_parent, c_parameters, c_locals, c_fields, c_methods, c_body, c_value, c_class}
use Rattle.base.specs.Codes.{tokens_most}
use Rattle.lexer.specs.Tokens.{Token}
use Rattle.lexer.specs.promises.Rows.{first_named, Rows}
use Rattle.parser.specs.Tree.{Name, Element, Element.int, Element.boolean, Element.fixed, Element.class, Ty, Ty.plain, Ty.array_of}
use Rattle.parser.specs.Tree.{Variable, Method, Class}
use Rattle.parser.specs.Measure.{nodes}
use Rattle.parser.specs.promises.Layout.{absent, row_of, row_variables, row_methods, row_parent, row_classes, head_of}
use Rattle.reader.specs.promises.Holds.{Holds}
use Rattle.reader.specs.promises.Spans.{Spans}
use Rattle.reader.specs.promises.Matches.{NameMatches, ParentMatches, Matches, VariableMatches, TokenIs}
use Rattle.lexer.specs.Kinds.{k_open}
use Rattle.typesystem.specs.ClassTable.{class_named, chain_within}

-- WORDS

-- column k of a row, `absent` past the last row
unfoldable pub word_at : List ℕ → (k row : ℕ) → ℕ
word_at tab k row = if ltb row absent then (λ _. col tab k row) otherwise λ _. absent

-- the table has n tokens
pub record Lexemes (tab : List ℕ) (n : ℕ) (ts : List Token) : Type 0 where
  pub count : length ts ≡ n
  pub few : n ≤ tokens_most
  pub rows : Rows tab ts

-- NUMBERS

-- the number of a name that the tokens have
pub record NameNumber (ts : List Token) (x : List ℕ) (number : ℕ) : Type 0 where
  pub first : first_named ts x ≡ number
  pub there : number < length ts

-- the number of a name, or of none
pub data MaybeNumber (ts : List Token) : Option (List ℕ) → ℕ → Type 0 where
  no_name : {c : ℕ} → absent ≤ c → MaybeNumber ts none c
  a-name : {x : List ℕ} {c : ℕ} → NameNumber ts x c → MaybeNumber ts (some x) c

-- element types by number: a class by its name's, the others above these
abbrev pub int_number : ℕ
int_number = 2048

abbrev pub boolean_number : ℕ
boolean_number = 2049

abbrev pub number_of_fixed : ℕ
number_of_fixed = 2050

abbrev pub element_code : List Token → Element → ℕ
element_code ts int = int_number
element_code ts boolean = boolean_number
element_code ts fixed = number_of_fixed
element_code ts (class c) = first_named ts c

-- the mark for array, above all of these
abbrev pub array_mark : ℕ
array_mark = 4096

-- types by number
abbrev pub code : List Token → Ty → ℕ
code ts (plain t) = element_code ts t
code ts (array_of t) = element_code ts t + array_mark

-- no type
abbrev pub no_type : ℕ
no_type = 8192

-- the number of an element type, and of a type, whose name the tokens have
pub data ElementCodes (ts : List Token) : Element → ℕ → Type 0 where
  code-int : {w : ℕ} → w ≡ int_number → ElementCodes ts int w
  code-boolean : {w : ℕ} → w ≡ boolean_number → ElementCodes ts boolean w
  code_fixed : {w : ℕ} → w ≡ number_of_fixed → ElementCodes ts fixed w
  code-class : {c : List ℕ} {w : ℕ} → NameNumber ts c w → ElementCodes ts (class c) w

pub data Codes (ts : List Token) : Ty → ℕ → Type 0 where
  code-plain : {t : Element} {w : ℕ} → ElementCodes ts t w → Codes ts (plain t) w
  code-array : {t : Element} {v w : ℕ} → ElementCodes ts t v → w ≡ v + array_mark → Codes ts (array_of t) w

-- DECLARATIONS

pub data VariablesHeld (tab : List ℕ) (ts : List Token) : List Variable → Type 0 where
  no-variables : VariablesHeld tab ts []
  more-variables : {v : Variable} {vs : List Variable} → VariableMatches ts v → col tab c_type v.name.row ≡ v.type.row
      → col tab c_next v.name.row ≡ row_variables vs → VariablesHeld tab ts vs → VariablesHeld tab ts (v ∷ vs)

-- a list of variables begins in a row
pub record ListedAt (tab : List ℕ) (n : ℕ) (ts : List Token) (row : ℕ) (vs : List Variable) : Type 0 where
  pub at : row_variables vs ≡ row
  pub stand : VariablesHeld tab ts vs
  pub few : length vs ≤ n

pub record MethodHeld (tab : List ℕ) (n : ℕ) (ts : List Token) (m : Method) : Type 0 where
  pub head : VariableMatches ts (head_of m)
  pub after : TokenIs ts (m.name.row + 1) k_open
  pub result : col tab c_type m.name.row ≡ m.result.row
  pub first : col tab c_parameters m.name.row ≡ row_variables m.parameters
  pub second : col tab c_locals m.name.row ≡ row_variables m.locals
  pub start : col tab c_body (m.name.row + 1) ≡ row_of m.body
  pub return : col tab c_value (m.name.row + 1) ≡ row_of m.value
  pub parameters : VariablesHeld tab ts m.parameters
  pub locals : VariablesHeld tab ts m.locals
  pub few-parameters : length m.parameters ≤ n
  pub few-locals : length m.locals ≤ n
  pub body : Holds tab m.body
  pub body-matches : Matches ts m.body
  pub body-within : Spans m.name.row n m.body
  pub body-nodes : nodes m.body ≤ n
  pub value : Holds tab m.value
  pub value-matches : Matches ts m.value
  pub value-within : Spans m.name.row n m.value
  pub value-nodes : nodes m.value ≤ n

pub data MethodsHeld (tab : List ℕ) (n : ℕ) (ts : List Token) : List Method → Type 0 where
  no-methods : MethodsHeld tab n ts []
  more-methods : {m : Method} {ms : List Method} → MethodHeld tab n ts m → col tab c_next m.name.row ≡ row_methods ms
      → MethodsHeld tab n ts ms
      → MethodsHeld tab n ts (m ∷ ms)

pub record ClassHeld (tab : List ℕ) (n : ℕ) (ts : List Token) (k : Class) : Type 0 where
  pub named : NameMatches ts k.name
  pub above : col tab c_parent k.name.row ≡ row_parent k.parent
  pub parent-matches : ParentMatches ts k.parent
  pub first : col tab c_fields k.name.row ≡ row_variables k.fields
  pub second : col tab c_methods k.name.row ≡ row_methods k.methods
  pub fields : VariablesHeld tab ts k.fields
  pub few-fields : length k.fields ≤ n
  pub methods : MethodsHeld tab n ts k.methods
  pub few-methods : length k.methods ≤ n

pub data ClassesHeld (tab : List ℕ) (n : ℕ) (ts : List Token) : List Class → Type 0 where
  no-classes : ClassesHeld tab n ts []
  more-classes : {k : Class} {ks : List Class} → ClassHeld tab n ts k → col tab c_next k.name.row ≡ row_classes ks → ClassesHeld tab n ts ks
      → ClassesHeld tab n ts (k ∷ ks)

-- THE CLASS TABLE

abbrev pub row_class : Option Class → ℕ
row_class none = absent
row_class (some k) = k.name.row

-- `c_class` of the row that is the number of a name leads to the class of that name
abbrev pub Indexed : List ℕ → List Token → List Class → Type 0
Indexed tab ts G = (c : List ℕ) (number : ℕ) → NameNumber ts c number → col tab c_class number ≡ row_class (class_named G c)

pub record ClassTableHeld (tab : List ℕ) (n : ℕ) (ts : List Token) (G : List Class) : Type 0 where
  pub tokens : Lexemes tab n ts
  pub classes : ClassesHeld tab n ts G
  pub few : length G ≤ n
  pub index : Indexed tab ts G

-- CHAINS

-- the class of a name, if there is a name
abbrev pub class_of : List Class → Option (List ℕ) → Option Class
class_of G none = none
class_of G (some c) = class_named G c

-- the chain that begins with a name, if there is one
abbrev pub chain_from : (most : ℕ) → List Class → Option (List ℕ) → List Class
chain_from most G none = []
chain_from most G (some c) = chain_within most G c

-- the name of a class's parent
abbrev pub parent_name : Option Name → Option (List ℕ)
parent_name none = none
parent_name (some p) = some p.text
