-- What writing methods ensures: their code one after another, and in an array by row where each begins.
use Rattle.std.specs.Prelude.{ℕ, suc, ◌≤◌, ◌≡◌, List, [], ◌∷◌, length, set}
use Rattle.lexer.specs.Tokens.{Token}
use Rattle.lexer.specs.promises.Rows.{first_named}
use Rattle.parser.specs.Tree.{Method, Class}
use Rattle.parser.specs.promises.Layout.{row_methods}
use Rattle.typesystem.specs.ClassTable.{context_of}
use Rattle.lookup.specs.promises.HeldClasses.{NameNumber, MethodHeld, MethodsHeld, ClassTableHeld}
use Rattle.codegen.specs.promises.Code.{return}
use Rattle.codegen.specs.promises.Compile.{emit, middle, value_end, end_methods, emit_methods}
use Rattle.writer.specs.declared.job.Job.{Job}
use Rattle.writer.specs.promises.Sizing.{SizesHeld}
use Rattle.writer.specs.promises.Posts.{room, Wrote}

-- What the bodies of a class see: the class table, the number of the class's name, how many fields the objects of each class hold.
pub record SeesClass (tab names : List ℕ) (n classes owner : ℕ) (ts : List Token) (G : List Class) (c : List ℕ) : Type 0 where
  pub world : ClassTableHeld tab n ts G
  pub many : length G ≡ classes
  pub declarer : NameNumber ts c owner
  pub sizes : SizesHeld ts G names

-- where methods begin, by the row of their names
unfoldable pub entered : List Method → ℕ → List ℕ → List ℕ
entered [] i E = E
entered (F ∷ M) i E = entered M (suc (value_end F i)) (set E F.name.row i)

pub record MethodPost (tab names : List ℕ) (n classes owner row at : ℕ) (c c' : List ℕ) (r : ℕ) : Type 0 where
  pub within : r ≤ room
  pub says : (ts : List Token) (G : List Class) (d : List ℕ) → SeesClass tab names n classes owner ts G d → (F : Method)
      → F.name.row ≡ row → MethodHeld tab n ts F → suc (value_end F at) ≤ room
      → Wrote (first_named ts) (λ k. emit G (context_of d F) F.body at (emit G (context_of d F) F.value (middle F at) (return ∷ k))) (suc (value_end F at)) at c c' r

pub record MethodsPost (tab names : List ℕ) (n classes owner : ℕ) (job : Job) (c c' E E' : List ℕ) (r : ℕ) : Type 0 where
  pub within : r ≤ room
  pub says : (ts : List Token) (G : List Class) (d : List ℕ) → SeesClass tab names n classes owner ts G d → (M : List Method)
      → row_methods M ≡ job.row → MethodsHeld tab n ts M → length M ≤ job.left
      → end_methods M job.at ≤ room
      → Wrote (first_named ts) (emit_methods G d M job.at) (end_methods M job.at) job.at c c' r × (E' ≡ entered M job.at E)
