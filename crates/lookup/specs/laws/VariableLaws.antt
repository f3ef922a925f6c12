-- What the type of a variable that was looked for tells, a variable of two lists, and how many a list has.
use Rattle.std.specs.Prelude.{ℕ, ◌≤◌, ◌<◌, ◌≡◌, refl, List, [], ◌∷◌, ◌++◌, Bool, true, false, length}
use Rattle.std.proofs.Common.{arith}
use Rattle.std.proofs.Math.Option.{Option, none, some}
use Rattle.base.specs.Choice.{if◌then◌otherwise◌, option}
use Rattle.base.specs.Bytes.{same}
use Rattle.base.specs.Codes.{tokens_most}
use Rattle.lexer.specs.Tokens.{Token}
use Rattle.parser.specs.Tree.{Ty, Variable}
use Rattle.parser.specs.promises.Layout.{absent, row_variables}
use Rattle.typesystem.specs.ClassTable.{Slot, moved, variable_named}
use Rattle.typing.specs.laws.Choices.{none-some}
use Rattle.lookup.specs.promises.HeldClasses.{Lexemes, no_type, Codes, VariablesHeld, no-variables, more-variables}
use Rattle.lookup.specs.laws.HeldLaws.{row-there, codes-below}
use Rattle.lookup.specs.promises.Lookups.{LookedUp, SlotTyped, untyped, typed, Many, many-none, many_more}

pub typed-some : {A : Type 0} {ts : List Token} {type : A → Ty} {o : Option A} {t : ℕ} → t < no_type → LookedUp ts type o t
    → (a : A) × (o ≡ some a) × Codes ts (type a) t
typed-some low (untyped e) = absurd (omega arith)
typed-some low (typed {a = a} c) = (a, refl, c)

pub typed-none : {A : Type 0} {ts : List Token} {type : A → Ty} {o : Option A} {t : ℕ} → length ts ≤ tokens_most → no_type ≤ t
    → LookedUp ts type o t → o ≡ none
typed-none few high (untyped e) = refl
typed-none few high (typed c) = absurd (omega (arith, codes-below few c))

-- a variable of two lists is one of the first, or else of the second
pub variable-left : (vs ws : List Variable) (x : List ℕ) {s : Slot} → variable_named vs x ≡ some s → variable_named (vs ++ ws) x ≡ some s
unfolding variable_named
variable-left [] ws x e = absurd (none-some refl e)
variable-left (v ∷ vs) ws x {s} e = go (same v.name.text x) (variable_named vs x) (variable_named (vs ++ ws) x) _ (λ t q. variable-left vs ws x q) e
  where
    go : (b : Bool) (o o' : Option Slot) (a : Slot) → ((t : Slot) → o ≡ some t → o' ≡ some t)
        → (if b then (λ _. some a) otherwise λ _. option o none λ s. some (moved 1 s)) ≡ some s
        → (if b then (λ _. some a) otherwise λ _. option o' none λ s. some (moved 1 s)) ≡ some s
    go true o o' a f h = h
    go false none o' a f h = absurd (none-some refl h)
    go false (some t) o' a f h = rw (f t refl) h

pub typed-moved : {ts : List Token} (k : ℕ) {o : Option Slot} {r : ℕ} → SlotTyped ts o r
    → SlotTyped ts (option o none λ s. some (moved k s)) r
typed-moved k (untyped e) = untyped e
typed-moved k (typed c) = typed c

pub variable-right : {ts : List Token} (vs ws : List Variable) (x : List ℕ) {r : ℕ} → variable_named vs x ≡ none
    → SlotTyped ts (variable_named ws x) r → SlotTyped ts (variable_named (vs ++ ws) x) r
unfolding variable_named
variable-right [] ws x e h = h
variable-right {ts} (v ∷ vs) ws x {r} e h = go (same v.name.text x) (variable_named vs x) (variable_named (vs ++ ws) x) _ (λ q. variable-right vs ws x q h) e
  where
    go : (b : Bool) (o o' : Option Slot) (a : Slot) → (o ≡ none → SlotTyped ts o' r)
        → (if b then (λ _. some a) otherwise λ _. option o none λ s. some (moved 1 s)) ≡ none
        → SlotTyped ts (if b then (λ _. some a) otherwise λ _. option o' none λ s. some (moved 1 s)) r
    go true o o' a f h = absurd (none-some h refl)
    go false none o' a f h = typed-moved 1 (f refl)
    go false (some t) o' a f h = absurd (none-some h refl)

-- a list has as many members as the walk along it
pub variables-many : {tab : List ℕ} {n : ℕ} {ts : List Token} → Lexemes tab n ts → {vs : List Variable} → VariablesHeld tab ts vs
    → Many tab (row_variables vs) (length vs)
variables-many lx no-variables = many-none {row = absent} (omega arith)
variables-many lx (more-variables {v} m e₃ e₆ s) = many_more (row-there lx v.name.row m.name.token.there) e₆ (variables-many lx s)
