-- What writing classes ensures: the code of their methods one class after another, and in an array by row where each method begins.
use Rattle.std.specs.Prelude.{ℕ, ◌≤◌, ◌≡◌, List, [], ◌∷◌, length}
use Rattle.lexer.specs.Tokens.{Token}
use Rattle.lexer.specs.promises.Rows.{first_named}
use Rattle.parser.specs.Tree.{Class}
use Rattle.lookup.specs.promises.HeldClasses.{ClassHeld, ClassTableHeld}
use Rattle.lookup.specs.promises.Fields.{KeptBehind}
use Rattle.declarations.specs.promises.Judgements.{ClassesAt}
use Rattle.codegen.specs.promises.Compile.{end_methods, emit_methods, emit_classes}
use Rattle.writer.specs.declared.job.Job.{Job}
use Rattle.writer.specs.promises.Words.{store}
use Rattle.writer.specs.promises.Sizing.{SizesHeld}
use Rattle.writer.specs.promises.Posts.{room, Wrote}
use Rattle.writer.specs.promises.Methods.{entered}

-- the place behind the code of classes
unfoldable pub end_classes : List Class → ℕ → ℕ
end_classes [] i = i
end_classes (k ∷ ks) i = end_classes ks (end_methods k.methods i)

-- where the methods of classes begin, by the row of their names
unfoldable pub entered_classes : List Class → ℕ → List ℕ → List ℕ
entered_classes [] i E = E
entered_classes (k ∷ ks) i E = entered_classes ks (end_methods k.methods i) (entered k.methods i E)

module _ (tab : List ℕ) (n classes : ℕ) where
  pub record ClassPost (row at : ℕ) (names names' c c' E E' : List ℕ) (r : ℕ) : Type 0 where
    pub within : r ≤ room
    pub stays : KeptBehind names names'
    pub says : (ts : List Token) (G : List Class) → ClassTableHeld tab n ts G → length G ≡ classes → SizesHeld ts G names → (k : Class)
        → k.name.row ≡ row → ClassHeld tab n ts k
        → end_methods k.methods at ≤ room
        → Wrote (first_named ts) (emit_methods G k.name.text k.methods at) (end_methods k.methods at) at c c' r × (E' ≡ entered k.methods at E)

  pub record ClassesPost (job : Job) (names c c' E E' : List ℕ) : Type 0 where
    pub says : (ts : List Token) (G : List Class) → ClassTableHeld tab n ts G → length G ≡ classes → SizesHeld ts G names
        → (ks : List Class) → ClassesAt tab n ts ks job.left job.row
        → end_classes ks job.at ≤ room
        → (c' ≡ store (first_named ts) (emit_classes G ks job.at) job.at c) × (E' ≡ entered_classes ks job.at E)
