-- What the walk over methods, classes and the program returns meets their contracts, and a turn of a loop goes on from one member to the
-- next: a law for each.
use Prim.Native.Nat.{ℕ, ◌+◌, ◌-◌, ◌≤◌, ◌<◌}
use mathlib.Core.Path.{◌≡◌, refl, sym, ap, ◌∙◌, subst}
use mathlib.Core.List.{List, [], ◌∷◌}
use mathlib.Core.Bool.{true, false}
use mathlib.Core.Option.{Option, none}
use native.Mathlib.Omega.{arith}
use native.Mathlib.Decide.{dec_lt}
use Rattle.base.specs.promises.Table.{col, c_next, c_methods, c_body, c_value, rows}
use Rattle.lexer.specs.Tokens.{Token}
use Rattle.parser.specs.Tree.{Method, Class}
use Rattle.parser.specs.promises.Layout.{absent, row_methods, row_classes, main_row}
use Rattle.parser.specs.Measure.{deep, methods_nodes, methods_deep, classes_nodes, classes_deep, program_nodes, program_deep}
use Rattle.parser.specs.promises.Post.{TokensIn}
use Rattle.reader.specs.promises.Holds.{HoldsMethods, HoldsClasses}
use Rattle.reader.specs.promises.Matches.{MethodsMatch, ClassesMatch}
use Rattle.reader.specs.promises.WalkPost.{MethodsOrdered, ClassesOrdered, nowhere, count_most, FoundPlace, WalkAnswers, Walkable, follower, Walks, WalksMethods, WalksClasses, WalksProgram}
use Rattle.reader.specs.declared.walk.Walked.{Walked}
use Rattle.reader.proofs.Depths.{least-assoc, Joins, nothing, joined, joined-nothing, same_answer}
use Rattle.reader.proofs.Lists.{follower-up}
use Rattle.reader.proofs.Nodes.{sound}

-- METHODS

module _ {tab : List ℕ} {n row : ℕ} {w : Walked} where
  pub methods-absent : Walkable tab n → rows - 1 ≤ row → w.count ≡ 0 → w.place ≡ nowhere → WalksMethods tab n row w
  unfolding HoldsMethods MethodsMatch MethodsOrdered methods_deep methods_nodes
  methods-absent r far c p = record { says = λ ts tok ms. go ts tok ms }
    where
      go : (ts : List Token) → TokensIn tab n ts → (ms : List Method) → row_methods ms ≡ row → HoldsMethods tab ms → MethodsMatch ts ms
          → MethodsOrdered ms
          → WalkAnswers (methods_deep ms) (methods_nodes ms) w
      go ts tok [] e h m o = nothing c p
      go ts tok (x ∷ xs) e h m o = absurd (omega (arith, m.0.after.there, tok.count, r.few))

  -- nothing was walked yet
  pub methods-none : {all rest : Walked} → all.count ≡ 0 → all.place ≡ nowhere → WalksMethods tab n row rest → Joins all rest w
      → WalksMethods tab n row w
  methods-none c p k j = record { says = λ ts tok ms e h m o. joined-nothing c p (k.says ts tok ms e h m o) j }

  module _ (near : row < rows - 1) where
    methods-wrong : col tab c_next row ≤ row → WalksMethods tab n row w
    unfolding HoldsMethods MethodsMatch MethodsOrdered methods_deep methods_nodes
    methods-wrong le = record { says = λ ts tok ms. go ts ms }
      where
        go : (ts : List Token) (ms : List Method) → row_methods ms ≡ row → HoldsMethods tab ms → MethodsMatch ts ms → MethodsOrdered ms
            → WalkAnswers (methods_deep ms) (methods_nodes ms) w
        go ts [] e h m o = absurd (omega arith)
        go ts (x ∷ xs) e h m o = absurd (omega (arith, o.0, h.1, ap (col tab c_next) e))

    module _ {left right : ℕ} {body value own rest : Walked} (l : left ≡ col tab c_body (row + 1)) (f : Walks tab n true left 1 body)
        (r : right ≡ col tab c_value (row + 1)) (g : Walks tab n false right 1 value) (j : Joins body value own) (i : Joins own rest w) where
      methods-more : WalksMethods tab n (col tab c_next row) rest → WalksMethods tab n row w
      unfolding HoldsMethods MethodsMatch MethodsOrdered methods_deep methods_nodes
      methods-more k = record { says = λ ts tok ms. go ts tok ms }
        where
          go : (ts : List Token) → TokensIn tab n ts → (ms : List Method) → row_methods ms ≡ row → HoldsMethods tab ms
              → MethodsMatch ts ms → MethodsOrdered ms
              → WalkAnswers (methods_deep ms) (methods_nodes ms) w
          go ts tok [] e h m o = absurd (omega arith)
          go ts tok (x ∷ xs) e h m o =
              same_answer (sym (least-assoc (deep 1 x.body) (deep 1 x.value) (methods_deep xs))) refl
              (joined
              (joined (f.says ts tok x.body 0 (sym h.0.start ∙ ap (λ (i : ℕ). col tab c_body (i + 1)) e ∙ sym l) (sound refl h.0.body m.0.body o.1))
              (g.says ts tok x.value 0 (sym h.0.return ∙ ap (λ (i : ℕ). col tab c_value (i + 1)) e ∙ sym r) (sound refl h.0.value m.0.value o.2)) j)
              (k.says ts tok xs (sym h.1 ∙ ap (col tab c_next) e) h.2 m.1 o.3) i)

      -- the method in this row, and those from the next on
      pub methods-step : {next : ℕ} → next ≡ follower tab true row → WalksMethods tab n next rest → WalksMethods tab n row w
      methods-step e k = elim (dec_lt row (col tab c_next row)) [
        | yes up ↦ methods-more (subst (λ (q : ℕ). WalksMethods tab n q rest) (e ∙ follower-up tab row up) k)
        | no wrong ↦ methods-wrong (omega arith)
      ]

-- CLASSES

module _ {tab : List ℕ} {n row : ℕ} {w : Walked} where
  pub classes-absent : Walkable tab n → absent ≤ row → w.count ≡ 0 → w.place ≡ nowhere → WalksClasses tab n row w
  unfolding HoldsClasses ClassesMatch ClassesOrdered classes_deep classes_nodes
  classes-absent r far c p = record { says = λ ts tok ks. go ts tok ks }
    where
      go : (ts : List Token) → TokensIn tab n ts → (ks : List Class) → row_classes ks ≡ row → HoldsClasses tab ks → ClassesMatch ts ks
          → ClassesOrdered ks
          → WalkAnswers (classes_deep ks) (classes_nodes ks) w
      go ts tok [] e h m o = nothing c p
      go ts tok (x ∷ xs) e h m o = absurd (omega (arith, m.0.name.token.there, tok.count, r.few))

  -- nothing was walked yet
  pub classes-none : {all rest : Walked} → all.count ≡ 0 → all.place ≡ nowhere → WalksClasses tab n row rest → Joins all rest w
      → WalksClasses tab n row w
  classes-none c p k j = record { says = λ ts tok ks e h m o. joined-nothing c p (k.says ts tok ks e h m o) j }

  module _ (near : row < absent) where
    classes-wrong : col tab c_next row ≤ row → WalksClasses tab n row w
    unfolding HoldsClasses ClassesMatch ClassesOrdered classes_deep classes_nodes
    classes-wrong le = record { says = λ ts tok ks. go ts ks }
      where
        go : (ts : List Token) (ks : List Class) → row_classes ks ≡ row → HoldsClasses tab ks → ClassesMatch ts ks → ClassesOrdered ks
            → WalkAnswers (classes_deep ks) (classes_nodes ks) w
        go ts [] e h m o = absurd (omega arith)
        go ts (x ∷ xs) e h m o = absurd (omega (arith, o.0, h.1, ap (col tab c_next) e))

    module _ {first : ℕ} {own rest : Walked} (l : first ≡ col tab c_methods row) (f : WalksMethods tab n first own) (j : Joins own rest w) where
      classes-more : WalksClasses tab n (col tab c_next row) rest → WalksClasses tab n row w
      unfolding HoldsClasses ClassesMatch ClassesOrdered classes_deep classes_nodes
      classes-more k = record { says = λ ts tok ks. go ts tok ks }
        where
          go : (ts : List Token) → TokensIn tab n ts → (ks : List Class) → row_classes ks ≡ row → HoldsClasses tab ks → ClassesMatch ts ks
              → ClassesOrdered ks
              → WalkAnswers (classes_deep ks) (classes_nodes ks) w
          go ts tok [] e h m o = absurd (omega arith)
          go ts tok (x ∷ xs) e h m o =
              joined (f.says ts tok x.methods (sym h.0.second ∙ ap (col tab c_methods) e ∙ sym l) h.0.methods m.0.methods o.1)
              (k.says ts tok xs (sym h.1 ∙ ap (col tab c_next) e) h.2 m.1 o.2) j

      -- the class in this row, and those from the next on
      pub classes-step : {next : ℕ} → next ≡ follower tab true row → WalksClasses tab n next rest → WalksClasses tab n row w
      classes-step e k = elim (dec_lt row (col tab c_next row)) [
        | yes up ↦ classes-more (subst (λ (q : ℕ). WalksClasses tab n q rest) (e ∙ follower-up tab row up) k)
        | no wrong ↦ classes-wrong (omega arith)
      ]

-- THE PROGRAM

exactly : {first : Option ℕ} {many : ℕ} {w : Walked} → many ≤ count_most → WalkAnswers first many w
    → FoundPlace first w.place × (first ≡ none → w.count ≡ many)
exactly few h = (h.place, λ e. omega (arith, h.count e))

pub program-whole : {tab : List ℕ} {n first : ℕ} {main rest w : Walked} → Walks tab n false main_row 1 main → first ≡ col tab c_next 0
    → WalksClasses tab n first rest
    → Joins main rest w → WalksProgram tab n w
unfolding program_deep program_nodes
program-whole f e g j =
    record {
      says = λ ts tok p h m o.
          exactly o.few
          (joined (f.says ts tok p.statement 0 o.row (sound refl h.statement m.statement o.statement))
          (g.says ts tok p.classes (sym h.first ∙ sym e) h.classes m.classes o.classes) j);
    }
