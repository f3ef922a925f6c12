-- How far a declaration or a statement is read: what each stage of reading one ensures, up to its end.
use Rattle.std.specs.Prelude.{ℕ, ◌+◌, ◌*◌, ◌-◌, ◌<◌, ◌≡◌, List, Bool}
use Rattle.std.proofs.Math.Option.{Option}
use Rattle.lexer.specs.Kinds.{k_open_brace}
use Rattle.lexer.specs.Tokens.{Token}
use Rattle.parser.specs.Tree.{Name, Sort.statement, Sort.statements, Part, Expression, Variable}
use Rattle.parser.specs.Stream.{name_at}
use Rattle.parser.specs.Parse.{Parsed, expect, variables_from, locals_from, body_from, returned_from, members_from, class_methods_from}
use Rattle.parser.specs.Parse.{parse_as, branches_from}
use Rattle.parser.specs.promises.Answers.{Answer}
use Rattle.parser.specs.promises.Layout.{given, row_of, store, store_variable, store_variables, row_variables, row_parent, list_top}
use Rattle.parser.specs.promises.Post.{TokensIn, part, Met, Within}
use Rattle.parser.specs.promises.Parts.{PiecePost}
use Rattle.parser.specs.promises.DeclarationPost.{declaration_stored, variable_list, a_method, a_class}

-- `{` and fields or locals
abbrev pub opened_from : (inClass : Bool) (j : ℕ) → (fuel : ℕ) → List Token → Parsed (List Variable)
opened_from inClass j f ts = expect ts k_open_brace j λ j. variables_from f inClass ts j

pub record OpenedPost (inClass : Bool) (n j : ℕ) (before : List ℕ) (r : Answer) (after : List ℕ) : Type 0 where
  pub piece : PiecePost (declaration_stored (variable_list inClass)) (opened_from inClass j) (16 * (n - j)) (j + 1) n list_top before r after

-- a method after its parameters, after its locals, and after its `return`; `base` is the table before its head was written
pub record LocalsPost (n name parameters j : ℕ) (before : List ℕ) (r : Answer) (after : List ℕ) : Type 0 where
  pub kept : given after ≡ given before
  pub within : Within (j + 1) n n r
  pub says : (head : Variable) (ps : List Variable) (base : List ℕ) → name ≡ head.name.row → parameters ≡ row_variables ps
      → before ≡ store_variables ps (store_variable head base)
      → (ts : List Token) → TokensIn before n ts → (f : ℕ) → 16 * (n - j) < f
      → Met (declaration_stored a_method) base after r (locals_from f ts head ps j)

pub record BodyPost (n name parameters locals j : ℕ) (before : List ℕ) (r : Answer) (after : List ℕ) : Type 0 where
  pub kept : given after ≡ given before
  pub within : Within (j + 1) n n r
  pub says : (head : Variable) (ps ls : List Variable) (base : List ℕ) → name ≡ head.name.row → parameters ≡ row_variables ps
      → locals ≡ row_variables ls
      → before ≡ store_variables ls (store_variables ps (store_variable head base))
      → (ts : List Token) → TokensIn before n ts → (f : ℕ) → 16 * (n - j) + 1 < f
      → Met (declaration_stored a_method) base after r (body_from f ts head ps ls j)

pub record ReturnedPost (n name parameters locals body j : ℕ) (before : List ℕ) (r : Answer) (after : List ℕ) : Type 0 where
  pub kept : given after ≡ given before
  pub within : Within (j + 1) n n r
  pub says : (head : Variable) (ps ls : List Variable) (ss : Part statements) (base : List ℕ) → name ≡ head.name.row
      → parameters ≡ row_variables ps
      → locals ≡ row_variables ls → body ≡ row_of ss → before ≡ store ss (store_variables ls (store_variables ps (store_variable head base)))
      → (ts : List Token) → TokensIn before n ts → (f : ℕ) → 16 * (n - j) + 6 < f
      → Met (declaration_stored a_method) base after r (returned_from f ts head ps ls ss j)

-- a class after its parent, and after its fields
pub record MembersPost (n name parent j : ℕ) (before : List ℕ) (r : Answer) (after : List ℕ) : Type 0 where
  pub kept : given after ≡ given before
  pub within : Within (j + 1) n n r
  pub says : (p : Option Name) → parent ≡ row_parent p
      → (ts : List Token) → TokensIn before n ts → (f : ℕ) → 16 * (n - j) < f
      → Met (declaration_stored a_class) before after r (members_from f ts (name_at ts name) p j)

pub record ClassMethodsPost (n name parent fields j : ℕ) (before : List ℕ) (r : Answer) (after : List ℕ) : Type 0 where
  pub kept : given after ≡ given before
  pub within : Within (j + 1) n n r
  pub says : (p : Option Name) (fs : List Variable) (base : List ℕ) → parent ≡ row_parent p → fields ≡ row_variables fs
      → before ≡ store_variables fs base
      → (ts : List Token) → TokensIn before n ts → (f : ℕ) → 16 * (n - j) + 3 < f
      → Met (declaration_stored a_class) base after r (class_methods_from f ts (name_at ts name) p fs j)

-- an `if` after its test, which was written over `base`
pub record BranchesPost (n i test j : ℕ) (before : List ℕ) (r : Answer) (after : List ℕ) : Type 0 where
  pub kept : given after ≡ given before
  pub within : Within (j + 1) n n r
  pub says : (e : Expression) (base : List ℕ) → test ≡ row_of e → before ≡ store e base → (ts : List Token) → TokensIn before n ts
      → (f : ℕ) → 16 * (n - j) < f
      → Met (part statement) base after r (branches_from ts (λ s m j. parse_as f ts m j) i e j)
