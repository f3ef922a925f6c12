-- Document 01, "Class table and types". The class table is the list of a program's classes without the main class, so the main class's name
-- can't be a type, be extended or be created.
use Rattle.std.specs.Prelude.{ℕ, zero, suc, ◌+◌, List, [], ◌∷◌, ◌++◌, Bool, true, false, ◌||◌, length}
use Rattle.std.proofs.Math.Option.{Option, none, some}
use Rattle.base.specs.Choice.{if◌then◌otherwise◌, option}
use Rattle.base.specs.Bytes.{same}
use Rattle.parser.specs.Tree.{Element, Element.int, Element.boolean, Element.fixed, Element.class, Ty, Ty.plain, Ty.array_of}
use Rattle.parser.specs.Tree.{Numeral, Numeral.int_literal, Numeral.fixed_literal, Variable, Method, Class}

-- a name stands in a list of names
unfoldable pub occurs : List ℕ → List (List ℕ) → Bool
occurs x [] = false
occurs x (y ∷ ys) = same y x || occurs x ys

abbrev pub text_of : Variable → List ℕ
text_of v = v.name.text

-- LOOK-UPS BY NAME: the first of that name

unfoldable pub class_named : List Class → List ℕ → Option Class
class_named [] c = none
class_named (k ∷ ks) c = if same k.name.text c then (λ _. some k) otherwise λ _. class_named ks c

unfoldable pub method_named_lem : List Method → List ℕ → Option Method
method_named_lem [] m = none
method_named_lem (x ∷ xs) m = if same x.name.text m then (λ _. some x) otherwise λ _. method_named_lem xs m

-- a variable's place in its list, and its type
pub record Slot : Type 0 where
  pub place : ℕ
  pub type : Ty

abbrev pub moved : ℕ → Slot → Slot
moved n s = record { place = n + s.place; type = s.type }

unfoldable pub variable_named : List Variable → List ℕ → Option Slot
variable_named [] x = none
variable_named (v ∷ vs) x =
    if same v.name.text x then (λ _. some (record { place = 0; type = v.type.type })) otherwise λ _.
    option (variable_named vs x) none λ s. some (moved 1 s)

-- CHAINS

-- a class and the classes above it, nearest first. In a table whose chains end none is longer than the table.
unfoldable pub chain_within : (most : ℕ) → List Class → List ℕ → List Class
chain_within zero G c = []
chain_within (suc n) G c = option (class_named G c) [] λ k. k ∷ option k.parent [] λ p. chain_within n G p.text

unfoldable pub chain : List Class → List ℕ → List Class
chain G c = chain_within (length G) G c

-- the chain of a class ends within so many classes
unfoldable pub ends_within : (most : ℕ) → List Class → List ℕ → Bool
ends_within zero G c = false
ends_within (suc n) G c = option (class_named G c) true λ k. option k.parent true λ p. ends_within n G p.text

-- TYPES

unfoldable pub same_element : Element → Element → Bool
same_element int int = true
same_element int boolean = false
same_element int fixed = false
same_element int (class d) = false
same_element boolean int = false
same_element boolean boolean = true
same_element boolean fixed = false
same_element boolean (class d) = false
same_element fixed int = false
same_element fixed boolean = false
same_element fixed fixed = true
same_element fixed (class d) = false
same_element (class c) int = false
same_element (class c) boolean = false
same_element (class c) fixed = false
same_element (class c) (class d) = same c d

unfoldable pub same_type : Ty → Ty → Bool
same_type (plain s) (plain t) = same_element s t
same_type (plain s) (array_of t) = false
same_type (array_of s) (plain t) = false
same_type (array_of s) (array_of t) = same_element s t

-- the type of a literal
abbrev pub numeral_type : Numeral → Ty
numeral_type (int_literal n) = plain int
numeral_type (fixed_literal n) = plain fixed

-- what an array of this type holds, and what any other type is itself
abbrev pub underlying : Ty → Element
underlying (plain t) = t
underlying (array_of t) = t

-- int, boolean, fixed or a class of the table
unfoldable pub known : List Class → Element → Bool
known G int = true
known G boolean = true
known G fixed = true
known G (class c) = option (class_named G c) false λ _. true

unfoldable pub among : List ℕ → List Class → Bool
among d [] = false
among d (k ∷ ks) = same k.name.text d || among d ks

-- a class fits every class on its `extends` chain
unfoldable pub on_chain_lem : List Class → Element → Element → Bool
on_chain_lem G int t = false
on_chain_lem G boolean t = false
on_chain_lem G fixed t = false
on_chain_lem G (class c) int = false
on_chain_lem G (class c) boolean = false
on_chain_lem G (class c) fixed = false
on_chain_lem G (class c) (class d) = among d (chain G c)

-- a type fits itself, and an array type only itself
unfoldable pub fits : List Class → Ty → Ty → Bool
fits G (plain s) (plain t) = same_element s t || on_chain_lem G s t
fits G (plain s) (array_of t) = false
fits G (array_of s) (plain t) = false
fits G (array_of s) (array_of t) = same_element s t

-- FIELDS AND METHODS

-- the fields that an object holds, the inherited ones first; a field that hides one from above stands beside it
unfoldable pub layout : List Class → List Variable
layout [] = []
layout (k ∷ ks) = layout ks ++ k.fields

unfoldable pub fields_of : List Class → List ℕ → List Variable
fields_of G c = layout (chain G c)

-- the nearest field of a name upwards
unfoldable pub nearest_field : List Class → List ℕ → Option Slot
nearest_field [] x = none
nearest_field (k ∷ ks) x = option (variable_named k.fields x) (nearest_field ks x) λ s. some (moved (length (layout ks)) s)

-- a method and the name of the class that declares it
pub record Found : Type 0 where
  pub owner : List ℕ
  pub method : Method

-- the first method of a name in the nearest class upwards that has one
unfoldable pub nearest_method : List Class → List ℕ → Option Found
nearest_method [] m = none
nearest_method (k ∷ ks) m = option (method_named_lem k.methods m) (nearest_method ks m) λ x. some (record { owner = k.name.text; method = x })

unfoldable pub method_of : List Class → List ℕ → List ℕ → Option Found
method_of G c m = nearest_method (chain G c) m

-- WHAT A NAME MEANS

-- where a body stands: the declaring class (none: main) and the parameters and locals, in this order
pub record Context : Type 0 where
  pub owner : Option (List ℕ)
  pub variables : List Variable

-- Main sees no names and no `this`.
abbrev pub main_context : Context
main_context = record { owner = none; variables = [] }

abbrev pub context_of : List ℕ → Method → Context
context_of c m = record { owner = some c; variables = m.parameters ++ m.locals }

pub data Meaning : Type 0 where
  of_row : Slot → Meaning
  of_object : Slot → Meaning

-- the local or parameter, else the nearest field upwards from the declaring class
unfoldable pub meaning : List Class → Context → List ℕ → Option Meaning
meaning G Γ x =
    option (variable_named Γ.variables x)
    (option Γ.owner none λ c. option (nearest_field (chain G c) x) none λ s. some (of_object s))
    λ s. some (of_row s)

abbrev pub meaning_type : Meaning → Ty
meaning_type (of_row s) = s.type
meaning_type (of_object s) = s.type
