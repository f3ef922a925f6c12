-- What `slot` returns meets its contract: the variables that a body sees are its parameters and then its locals, and after these come the
-- fields.
use Prim.Native.Nat.{ℕ, ◌+◌, ◌≤◌, ◌<◌}
use native.Mathlib.Omega.{arith}
use mathlib.Core.Path.{◌≡◌, refl, sym, ap, ◌∙◌, subst}
use mathlib.Core.List.{List, [], ◌∷◌, ◌++◌}
use mathlib.Core.Bool.{Bool, true, false}
use mathlib.Core.Option.{Option, none, some}
use lib.ListN.{length, get_or}
use Rattle.base.specs.Choice.{if◌then◌otherwise◌, option}
use Rattle.base.specs.Bytes.{same}
use Rattle.base.specs.Codes.{tokens_most, variables_most}
use Rattle.base.specs.Word.{modulus}
use Rattle.lexer.specs.Tokens.{Token}
use Rattle.parser.specs.Tree.{Variable, Class}
use Rattle.typesystem.specs.ClassTable.{Slot, moved, Context, of_row, of_object, meaning, variable_named, nearest_field, chain}
use Rattle.typing.specs.laws.Choices.{none-some}
use Rattle.parser.specs.promises.Layout.{absent}
use Rattle.lookup.specs.promises.HeldClasses.{NameNumber, no_type, ClassTableHeld, chain_from, ListedAt}
use Rattle.lookup.specs.laws.HeldLaws.{codes-below}
use Rattle.lookup.specs.promises.Lookups.{Many, Counts}
use Rattle.lookup.specs.promises.Fields.{TellsAt, no_field, a-field, FieldsHeld, slots_from}
use Rattle.lookup.specs.laws.VariableLaws.{variable-left, variables-many}
use Rattle.bodies.specs.declared.scope.Scope.{Scope}
use Rattle.bodies.specs.promises.Scoping.{InScope}
use Rattle.writer.specs.promises.Words.{slot_of}
use Rattle.writer.specs.promises.Places.{place_from, PlacePost}
use Rattle.writer.specs.promises.Scoping.{SlotPost}
use Rattle.writer.proofs.PlaceLaws.{place-below}

-- THE MEANING OF A NAME

-- a field by number
abbrev object_slot : Option Slot → ℕ
object_slot none = absent
object_slot (some s) = variables_most + s.place

meaning-row : (G : List Class) (Γ : Context) (x : List ℕ) {s : Slot} → variable_named Γ.variables x ≡ some s
    → meaning G Γ x ≡ some (of_row s)
unfolding meaning
meaning-row G Γ x e = rw e

meaning-field : (G : List Class) (Γ : Context) (x : List ℕ) → variable_named Γ.variables x ≡ none
    → slot_of (meaning G Γ x) ≡ object_slot (nearest_field (chain_from (length G) G Γ.owner) x)
unfolding meaning chain nearest_field
meaning-field G Γ x e = rw e (go Γ.owner)
  where
    object : (o : Option Slot) → slot_of (option o none λ s. some (of_object s)) ≡ object_slot o
    object none = refl
    object (some s) = refl

    go : (o : Option (List ℕ))
        → slot_of (option o none λ c. option (nearest_field (chain G c) x) none λ s. some (of_object s)) ≡ object_slot (nearest_field (chain_from (length G) G o) x)
    go none = refl
    go (some c) = object (nearest_field (chain G c) x)

-- a variable of two lists that the first has not is one of the second
variable-second : (vs ws : List Variable) (x : List ℕ) → variable_named vs x ≡ none
    → variable_named (vs ++ ws) x ≡ option (variable_named ws x) none λ s. some (moved (length vs) s)
unfolding variable_named
variable-second [] ws x e = go (variable_named ws x)
  where
    go : (o : Option Slot) → o ≡ option o none λ s. some (moved 0 s)
    go none = refl
    go (some s) = ap some (same-slot s)
      where
        same-slot : (s : Slot) → s ≡ moved 0 s
        same-slot s = let z : s.place ≡ 0 + s.place = omega arith in ap (λ (i : ℕ). record { place = i; type = s.type }) z
variable-second (v ∷ vs) ws x e = go (same v.name.text x) (variable_named vs x) (λ q. variable-second vs ws x q) e
  where
    further : (o : Option Slot) (n : ℕ)
        → (option (option o none λ s. some (moved n s)) none λ s. some (moved 1 s)) ≡ option o none λ s. some (moved (1 + n) s)
    further none n = refl
    further (some s) n = let z : 1 + (n + s.place) ≡ 1 + n + s.place = omega arith in ap (λ (i : ℕ). some (record { place = i; type = s.type })) z

    go : (b : Bool) (o : Option Slot)
        → (o ≡ none → variable_named (vs ++ ws) x ≡ option (variable_named ws x) none λ s. some (moved (length vs) s))
        → (if b then (λ _. some (record { place = 0; type = v.type.type })) otherwise λ _. option o none λ s. some (moved 1 s)) ≡ none
        → (if b then (λ _. some (record { place = 0; type = v.type.type })) otherwise λ _. option (variable_named (vs ++ ws) x) none λ s. some (moved 1 s))
        ≡ option (variable_named ws x) none λ s. some (moved (length (v ∷ vs)) s)
    go true o f h = absurd (none-some h refl)
    go false none f h = let z : 1 + length vs ≡ length (v ∷ vs) = omega arith in rw (f refl) (further (variable_named ws x) (length vs) ∙ ap (λ (n : ℕ). option (variable_named ws x) none λ s. some (moved n s)) z)
    go false (some t) f h = absurd (none-some h refl)

-- THE RETURNS

-- what a place that was found, or not, tells
found : (i : ℕ) (o : Option Slot) → i < absent → i ≡ place_from 0 o → (s : Slot) × (o ≡ some s) × (i ≡ s.place)
found i none low e = absurd (omega (arith, e))
found i (some s) low e = (s, refl, omega (arith, e))

missing : (i : ℕ) (vs : List Variable) (x : List ℕ) → absent ≤ i → length vs ≤ tokens_most → i ≡ place_from 0 (variable_named vs x)
    → variable_named vs x ≡ none
missing i vs x high few e = go (variable_named vs x) (λ s q. place-below vs x q) e
  where
    go : (o : Option Slot) → ((s : Slot) → o ≡ some s → s.place < length vs) → i ≡ place_from 0 o → o ≡ none
    go none f e = refl
    go (some s) f e = absurd (omega (arith, f s refl, e))

-- the place of a variable in one of the lists
place_in : {tab : List ℕ} {n x : ℕ} {ts : List Token} {G : List Class} {i row : ℕ} {vs : List Variable} → ClassTableHeld tab n ts G
    → ListedAt tab n ts row vs → PlacePost tab n row x 0 i
    → (text : List ℕ) → NameNumber ts text x → i ≡ place_from 0 (variable_named vs text)
place_in {n = n} {ts = ts} {vs = vs} w l h text sp = h.says n ts w.tokens vs l.at l.stand l.few text sp

module _ {tab : List ℕ} {s : Scope} {x : ℕ} where
  pub slot-parameter : {i : ℕ} → PlacePost tab s.tokens s.parameters x 0 i → i < absent → SlotPost tab s x i
  slot-parameter {i} h low = record { most = omega arith; says = go }
    where
      go : (ts : List Token) (G : List Class) (Γ : Context) → InScope tab ts G Γ s → (text : List ℕ) → NameNumber ts text x
          → i ≡ slot_of (meaning G Γ text)
      go ts G Γ w text sp =
          let f = found i (variable_named w.given text) low (place_in w.world w.given-listed h text sp) in
          rw (meaning-row G Γ text (ap (λ (vs : List Variable). variable_named vs text) w.seen ∙ variable-left w.given w.own text f.1)) f.2

  module _ (few : s.tokens ≤ tokens_most) {i : ℕ} (h : PlacePost tab s.tokens s.parameters x 0 i) (high : absent ≤ i) where
    not-given : {ts : List Token} {G : List Class} {Γ : Context} (w : InScope tab ts G Γ s) (text : List ℕ) → NameNumber ts text x
        → variable_named w.given text ≡ none
    not-given w text sp =
        missing i w.given text high (omega (arith, w.given-listed.few)) (place_in w.world w.given-listed h text sp)

    pub slot-local : {j : ℕ} → PlacePost tab s.tokens s.locals x 0 j → j < absent → {n : ℕ} → Counts tab s.tokens s.parameters n
        → SlotPost tab s x (n + j)
    slot-local {j} h' low {n} c = record { most = omega (arith, c.most); says = go }
      where
        go : (ts : List Token) (G : List Class) (Γ : Context) → InScope tab ts G Γ s → (text : List ℕ) → NameNumber ts text x
            → n + j ≡ slot_of (meaning G Γ text)
        go ts G Γ w text sp =
            let f = found j (variable_named w.own text) low (place_in w.world w.own-listed h' text sp) in
            let many = subst (λ (i : ℕ). Many tab i (length w.given)) w.given-listed.at (variables-many w.world.tokens w.given-listed.stand) in
            let l = c.says (length w.given) many w.given-listed.few in
            let second = variable-second w.given w.own text (not-given w text sp) in
            let named : variable_named Γ.variables text ≡ some (moved (length w.given) f.0) = ap (λ (vs : List Variable). variable_named vs text) w.seen ∙ second ∙ ap (λ (o : Option Slot). option o none λ s. some (moved (length w.given) s)) f.1 in
            rw (meaning-row G Γ text named) (omega (arith, l, f.2))

    module _ {j : ℕ} (h' : PlacePost tab s.tokens s.locals x 0 j) (high' : absent ≤ j) where
      -- what a name that is no parameter or local means
      object : {ts : List Token} {G : List Class} {Γ : Context} (w : InScope tab ts G Γ s) (text : List ℕ) → NameNumber ts text x
          → slot_of (meaning G Γ text) ≡ object_slot (nearest_field (chain_from (length G) G Γ.owner) text)
      object {G = G} {Γ} w text sp =
          let own = missing j w.own text high' (omega (arith, w.own-listed.few)) (place_in w.world w.own-listed h' text sp) in
          let second = variable-second w.given w.own text (not-given w text sp) in
          let named : variable_named Γ.variables text ≡ none = ap (λ (vs : List Variable). variable_named vs text) w.seen ∙ second ∙ ap (λ (o : Option Slot). option o none λ s. some (moved (length w.given) s)) own in
          meaning-field G Γ text named

      module _ {names : List ℕ} (held : FieldsHeld tab s.tokens s.classes s.owner names) where
        -- the words of the name say what a field of it means
        tells : {ts : List Token} {G : List Class} {Γ : Context} (w : InScope tab ts G Γ s) (text : List ℕ) → NameNumber ts text x
            → TellsAt ts names x (nearest_field (chain_from (length G) G Γ.owner) text)
        tells {ts} {G} {Γ} w text sp =
            rw w.many ((held.says ts G w.world Γ.owner w.declarer).says text x sp)

        pub slot_held : get_or names x 0 < no_type → get_or names (slots_from + x) 0 < modulus → SlotPost tab s x (get_or names (slots_from + x) 0)
        slot_held known fits =
            record {
              most = fits;
              says = λ ts G Γ w text sp.
                  go (nearest_field (chain_from (length G) G Γ.owner) text) (tells w text sp) ∙ sym (object w text sp);
            }
          where
            go : {ts : List Token} (o : Option Slot) → TellsAt ts names x o → get_or names (slots_from + x) 0 ≡ object_slot o
            go none (no_field z) = absurd (omega (arith, z))
            go (some t) (a-field c z) = z

        pub slot-none : no_type ≤ get_or names x 0 → SlotPost tab s x absent
        slot-none unknown =
            record {
              most = omega arith;
              says = λ ts G Γ w text sp.
                  let short : length ts ≤ tokens_most = omega (arith, w.world.tokens.count, w.world.tokens.few) in
                  go short (nearest_field (chain_from (length G) G Γ.owner) text) (tells w text sp) ∙ sym (object w text sp);
            }
          where
            go : {ts : List Token} → length ts ≤ tokens_most → (o : Option Slot) → TellsAt ts names x o → absent ≡ object_slot o
            go short none h = refl
            go short (some t) (a-field c z) = absurd (omega (arith, codes-below short c))
