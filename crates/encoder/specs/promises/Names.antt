-- Numbers of classes and of method names, in arrays by the number of the name.
use Rattle.std.specs.Prelude.{ℕ, ◌+◌, ◌*◌, ◌≤◌, ◌<◌, ◌≡◌, true, false, List, [], ◌∷◌, ◌++◌, map, length, get_or}
use Rattle.std.proofs.Math.Option.{some}
use Rattle.std.proofs.Math.ListN.{get_elem?}
use Rattle.base.specs.Bytes.{same}
use Rattle.base.specs.Choice.{if◌then◌otherwise◌}
use Rattle.lexer.specs.Tokens.{Token}
use Rattle.lexer.specs.promises.Rows.{first_named}
use Rattle.parser.specs.Tree.{Method, Class}
use Rattle.parser.specs.promises.Layout.{row_methods}
use Rattle.typesystem.specs.ClassTable.{occurs}
use Rattle.typesystem.specs.TypingRules.{class_name, method_name}
use Rattle.lookup.specs.promises.HeldClasses.{Lexemes, NameNumber, MethodsHeld}
use Rattle.declarations.specs.promises.Judgements.{ClassesAt}
use Rattle.frames.specs.Encode.{place_of, once}

-- how many words the arrays have: one for each token, and one for a name that no token has
abbrev pub numbers_least : ℕ
numbers_least = 2049

-- the word of a method name that is not declared
abbrev pub no_place : ℕ
no_place = 4294967295

-- CLASSES

-- the word of a name: the place of the first of the classes that has it, else as it was
unfoldable pub numbered : (old place : ℕ) → List Class → List ℕ → ℕ
numbered old i [] c = old
numbered old i (k ∷ ks) c = if same (class_name k) c then (λ _. i) otherwise λ _. numbered old (i + 1) ks c

pub record ClassesNumbered (tab : List ℕ) (left row place : ℕ) (before after : List ℕ) : Type 0 where
  pub long : length after ≡ length before
  pub says : numbers_least ≤ length before → (n : ℕ) (ts : List Token) → Lexemes tab n ts → (ks : List Class) → ClassesAt tab n ts ks left row
      → (c : List ℕ) → get_or after (first_named ts c) 0 ≡ numbered (get_or before (first_named ts c) 0) place ks c

-- METHOD NAMES

-- these names are declared, in this order
pub record Declared (ts : List Token) (done : List (List ℕ)) (marks names : List ℕ) (count : ℕ) : Type 0 where
  pub many : count ≡ length done
  pub seen : (c : List ℕ) → occurs c done ≡ true → get_or marks (first_named ts c) 0 ≡ place_of done c
  pub unseen : (c : List ℕ) → occurs c done ≡ false → get_or marks (first_named ts c) 0 ≡ no_place
  pub listed : (j : ℕ) (c : List ℕ) → get_elem? done j ≡ some c → NameNumber ts c (get_or names j 0)

-- with others
abbrev pub adding : (done xs : List (List ℕ)) → List (List ℕ)
adding done xs = done ++ once done xs

-- arrays of the same lengths
pub record Long (m n m' n' : List ℕ) : Type 0 where
  pub marks : length m' ≡ length m
  pub names : length n' ≡ length n

pub record DeclarePost (x count : ℕ) (marks names marks' names' : List ℕ) (r : ℕ) : Type 0 where
  pub within : r ≤ count + 1
  pub long : Long marks names marks' names'
  pub says : numbers_least ≤ length marks → (ts : List Token) → length ts ≤ 2048 → (c : List ℕ) → NameNumber ts c x → (done : List (List ℕ))
      → Declared ts done marks names count → length done < length names → Declared ts (adding done (c ∷ [])) marks' names' r

pub record MethodsPost (tab : List ℕ) (left row count : ℕ) (marks names marks' names' : List ℕ) (r : ℕ) : Type 0 where
  pub within : r ≤ count + left
  pub long : Long marks names marks' names'
  pub says : numbers_least ≤ length marks → (n : ℕ) (ts : List Token) → Lexemes tab n ts → (M : List Method) → row_methods M ≡ row
      → MethodsHeld tab n ts M → length M ≤ left → (done : List (List ℕ)) → Declared ts done marks names count
      → length done + length M ≤ length names → Declared ts (adding done (map method_name M)) marks' names' r

-- method names, class by class
unfoldable pub declared_by : List Class → List (List ℕ)
declared_by [] = []
declared_by (k ∷ ks) = map method_name k.methods ++ declared_by ks

pub record EachPost (tab : List ℕ) (n left row count : ℕ) (marks names marks' names' : List ℕ) (r : ℕ) : Type 0 where
  pub within : r ≤ count + 2048 * left
  pub long : Long marks names marks' names'
  pub says : numbers_least ≤ length marks → (ts : List Token) → Lexemes tab n ts → (ks : List Class) → ClassesAt tab n ts ks left row
      → (done : List (List ℕ)) → Declared ts done marks names count → length done + length (declared_by ks) ≤ length names
      → Declared ts (adding done (declared_by ks)) marks' names' r
