-- What the look-up of a name returns meets its contract: the parameters, then the locals, then the fields upwards from the declaring
-- class are searched.
use Prim.Native.Nat.{ℕ, ◌+◌, ◌≤◌, ◌<◌}
use native.Mathlib.Omega.{arith}
use mathlib.Core.Path.{◌≡◌}
use mathlib.Core.List.{List}
use mathlib.Core.Option.{Option, none, some}
use lib.ListN.{length, get_or}
use Rattle.base.specs.Choice.{option}
use Rattle.base.specs.Codes.{tokens_most}
use Rattle.lexer.specs.Tokens.{Token}
use Rattle.parser.specs.Tree.{Variable, Class}
use Rattle.parser.specs.promises.Layout.{absent}
use Rattle.typesystem.specs.ClassTable.{Slot, Context, of_object, variable_named, chain, nearest_field, meaning}
use Rattle.lookup.specs.promises.HeldClasses.{Lexemes, NameNumber, no_type, chain_from, ListedAt}
use Rattle.lookup.specs.promises.Lookups.{SlotTyped, untyped, typed, VariableTyped}
use Rattle.lookup.specs.promises.Fields.{Tells, no_field, a-field, FieldsHeld, slots_from}
use Rattle.lookup.specs.laws.VariableLaws.{typed-some, typed-none, variable-left, variable-right}
use Rattle.bodies.specs.declared.scope.Scope.{Scope}
use Rattle.bodies.specs.promises.Scoping.{InScope, Means, NameTyped}

-- what a list of variables says of a name
listed : {tab : List ℕ} {n x t : ℕ} (row : ℕ) → VariableTyped tab n n row x t → {ts : List Token} → Lexemes tab n ts
    → {vs : List Variable} → ListedAt tab n ts row vs
    → (text : List ℕ) → NameNumber ts text x → SlotTyped ts (variable_named vs text) t
listed row v {ts} lx {vs} l text sp = v.says ts lx vs l.at l.stand l.few text sp

-- a variable is what the name means
variable-means : {ts : List Token} (G : List Class) (Γ : Context) (text : List ℕ) {t : ℕ} → t < no_type
    → SlotTyped ts (variable_named Γ.variables text) t → Means ts (meaning G Γ text) t
unfolding meaning
variable-means G Γ text low h = let w = typed-some low h in rw w.1 (typed w.2)

-- else it is a field
field-means : {ts : List Token} (G : List Class) (Γ : Context) (text : List ℕ) {t p : ℕ} → variable_named Γ.variables text ≡ none
    → Tells ts (nearest_field (chain_from (length G) G Γ.owner) text) t p → Means ts (meaning G Γ text) t
unfolding meaning chain nearest_field
field-means {ts} G Γ text {t} {p} e h = rw e (go Γ.owner h)
  where
    pick : (o : Option Slot) → Tells ts o t p → Means ts (option o none λ s. some (of_object s)) t
    pick none (no_field q) = untyped q
    pick (some s) (a-field c q) = typed c

    go : (owner : Option (List ℕ)) → Tells ts (nearest_field (chain_from (length G) G owner) text) t p
        → Means ts (option owner none λ c. option (nearest_field (chain G c) text) none λ s. some (of_object s)) t
    go none (no_field q) = untyped q
    go (some c) h = pick (nearest_field (chain G c) text) h

module _ {tab : List ℕ} {s : Scope} {x t : ℕ} (first : VariableTyped tab s.tokens s.tokens s.parameters x t) where
  pub name-parameter : t < no_type → NameTyped tab s x t
  name-parameter low =
      record {
        says = λ ts G Γ i text sp.
            let w = typed-some low (listed s.parameters first i.world.tokens i.given-listed text sp) in
            variable-means G Γ text low (rw (i.seen, variable-left i.given i.own text w.1) (typed w.2));
      }

  module _ (high : no_type ≤ t) {u : ℕ} (second : VariableTyped tab s.tokens s.tokens s.locals x u) where
    -- what parameters and locals say
    both : {ts : List Token} {G : List Class} {Γ : Context} → InScope tab ts G Γ s → (text : List ℕ) → NameNumber ts text x
        → SlotTyped ts (variable_named Γ.variables text) u
    both {ts} i text sp =
        let few : length ts ≤ tokens_most = omega (arith, i.world.tokens.count, i.world.tokens.few) in
        rw i.seen
        (variable-right i.given i.own text (typed-none few high (listed s.parameters first i.world.tokens i.given-listed text sp))
        (listed s.locals second i.world.tokens i.own-listed text sp))

    pub name-local : u < no_type → NameTyped tab s x u
    name-local low = record { says = λ ts G Γ i text sp. variable-means G Γ text low (both i text sp) }

    module _ (far : no_type ≤ u) where
      -- a number of no name means nothing
      pub name-past : absent ≤ x → NameTyped tab s x no_type
      name-past high' =
          record { says = λ ts G Γ i text sp. absurd (omega (arith, sp.there, i.world.tokens.count, i.world.tokens.few)) }

      pub name-field : {fields : List ℕ} → FieldsHeld tab s.tokens s.classes s.owner fields → NameTyped tab s x (get_or fields x 0)
      name-field {fields} h =
          record {
            says = λ ts G Γ i text sp.
                let few : length ts ≤ tokens_most = omega (arith, i.world.tokens.count, i.world.tokens.few) in
                field-means G Γ text {p = get_or fields (slots_from + x) 0} (typed-none few far (both i text sp)) (rw i.many ((h.says ts G i.world Γ.owner i.declarer).says text x sp));
          }
