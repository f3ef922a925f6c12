-- What looking for a variable's place meets: a list is walked by `c_next`.
use Prim.Native.Nat.{ℕ, ◌+◌, ◌-◌, ◌≤◌, ◌<◌}
use native.Mathlib.Omega.{arith}
use mathlib.Core.Path.{◌≡◌, refl, sym, ap, ◌∙◌, subst}
use mathlib.Core.List.{List, [], ◌∷◌}
use mathlib.Core.Bool.{Bool, true, false}
use mathlib.Core.Option.{Option, none, some}
use lib.ListN.{length}
use Rattle.base.specs.Choice.{if◌then◌otherwise◌, option}
use Rattle.base.specs.Bytes.{same}
use Rattle.base.specs.promises.Table.{c_number, c_next, rows}
use Rattle.lexer.specs.Tokens.{Token}
use Rattle.parser.specs.Tree.{Variable}
use Rattle.parser.specs.promises.Layout.{absent, row_variables}
use Rattle.typesystem.specs.ClassTable.{Slot, moved, variable_named}
use Rattle.typing.specs.laws.Choices.{none-some}
use Rattle.lookup.specs.promises.HeldClasses.{word_at, Lexemes, NameNumber, VariablesHeld, more-variables}
use Rattle.lookup.specs.laws.HeldLaws.{word_in, name-word, row-there, same_names, other-names}
use Rattle.writer.specs.promises.Places.{place_from, PlacePost}

place-next-one : (at : ℕ) (o : Option Slot) → place_from (at + 1) o ≡ place_from at (option o none λ s. some (moved 1 s))
place-next-one at none = refl
place-next-one at (some s) = omega arith

module _ {tab : List ℕ} {left row x at : ℕ} where
  pub place-none-left : left ≡ 0 → PlacePost tab left row x at absent
  unfolding variable_named
  place-none-left e = record { most = omega arith; says = λ n ts lx vs d s few text sp. go vs few text }
    where
      go : (vs : List Variable) → length vs ≤ left → (text : List ℕ) → absent ≡ place_from at (variable_named vs text)
      go [] few text = refl
      go (v ∷ vs) few text = absurd (omega arith)

  pub place-absent : absent ≤ row → PlacePost tab left row x at absent
  unfolding variable_named
  place-absent far = record { most = omega arith; says = λ n ts lx vs d s few text sp. go n ts lx vs d s text }
    where
      go : (n : ℕ) (ts : List Token) → Lexemes tab n ts → (vs : List Variable) → row_variables vs ≡ row → VariablesHeld tab ts vs
          → (text : List ℕ)
          → absent ≡ place_from at (variable_named vs text)
      go n ts lx [] d s text = refl
      go n ts lx (v ∷ vs) d (more-variables m e₃ e₆ s) text = absurd (omega (arith, d, row-there lx v.name.row m.name.token.there))

  module _ (near : row < absent) {w : ℕ} (word : w ≡ word_at tab c_number row) where
    pub place_here : w ≡ x → at + left ≤ rows → PlacePost tab left row x at at
    unfolding variable_named
    place_here is low = record { most = omega arith; says = λ n ts lx vs d s few text sp. go n ts lx vs d s text sp }
      where
        go : (n : ℕ) (ts : List Token) → Lexemes tab n ts → (vs : List Variable) → row_variables vs ≡ row → VariablesHeld tab ts vs
            → (text : List ℕ) → NameNumber ts text x
            → at ≡ place_from at (variable_named vs text)
        go n ts lx [] d s text sp = absurd (omega (arith, d))
        go n ts lx (v ∷ vs) d (more-variables m c₃ c₆ s) text sp =
            rw (same_names (subst (NameNumber ts v.name.text) (ap (word_at tab c_number) d ∙ sym word) (name-word lx v.name.row m.name.token)) sp is) (omega arith)

    pub place-next : (w ≡ x → ⊥) → {next r : ℕ} → next ≡ word_at tab c_next row → PlacePost tab (left - 1) next x (at + 1) r
        → PlacePost tab left row x at r
    unfolding variable_named
    place-next other {next} {r} e₆ h = record { most = h.most; says = λ n ts lx vs d s few text sp. go n ts lx vs d s few text sp }
      where
        go : (n : ℕ) (ts : List Token) → Lexemes tab n ts → (vs : List Variable) → row_variables vs ≡ row → VariablesHeld tab ts vs
            → length vs ≤ left → (text : List ℕ)
            → NameNumber ts text x → r ≡ place_from at (variable_named vs text)
        go n ts lx [] d s few text sp = absurd (omega (arith, d))
        go n ts lx (v ∷ vs) d (more-variables m c₃ c₆ s) few text sp =
            rw (other-names (subst (NameNumber ts v.name.text) (ap (word_at tab c_number) d ∙ sym word) (name-word lx v.name.row m.name.token)) sp other)
            (h.says n ts lx vs (sym (word_in tab c_next v.name.row (omega (arith, d, near)) c₆) ∙ ap (word_at tab c_next) d ∙ sym e₆) s (omega arith) text sp
            ∙ place-next-one at (variable_named vs text))

-- a variable's place is one of its list
pub place-below : (vs : List Variable) (x : List ℕ) {s : Slot} → variable_named vs x ≡ some s → s.place < length vs
unfolding variable_named
place-below [] x e = absurd (none-some refl e)
place-below (v ∷ vs) x {s} e = go (same v.name.text x) (variable_named vs x) (λ t q. place-below vs x q) e
  where
    go : (b : Bool) (o : Option Slot) → ((t : Slot) → o ≡ some t → t.place < length vs)
        → (if b then (λ _. some (record { place = 0; type = v.type.type })) otherwise λ _. option o none λ s. some (moved 1 s)) ≡ some s
        → s.place < length (v ∷ vs)
    go true o f h = let z : 0 ≡ s.place = cc in omega (arith, z)
    go false none f h = absurd (none-some refl h)
    go false (some t) f h = let z : 1 + t.place ≡ s.place = cc in omega (arith, z, f t refl)
