-- Laws on the names declared earlier and on the row that is judged. The code looks for a parameter's or a local's name among the members
-- of a list from its front on; the definition keeps the latest name first; in both a name occurs just where a member has it.
use Prim.Native.Nat.{ℕ, ◌+◌, ◌<◌}
use native.Mathlib.Omega.{arith}
use mathlib.Core.Path.{◌≡◌, refl, sym, ap, ◌∙◌, subst}
use mathlib.Core.List.{List, [], ◌∷◌, ◌++◌, map, map-append, append_assoc, append-nil}
use mathlib.Core.Bool.{Bool, true, false, ◌||◌}
use lib.ListN.{length, length-append, length-map}
use Rattle.base.specs.Bytes.{same}
use Rattle.base.specs.promises.Table.{col, c_start, c_number, c_next, c_type}
use Rattle.lexer.specs.Tokens.{Token}
use Rattle.parser.specs.Tree.{Ty, Ty.plain, Ty.array_of, Variable, Method}
use Rattle.parser.specs.promises.Layout.{absent, row_variables, row_methods, head_of}
use Rattle.reader.specs.promises.Matches.{TypeMatches, VariableMatches}
use Rattle.typesystem.specs.ClassTable.{occurs, text_of}
use Rattle.lookup.specs.promises.HeldClasses.{word_at, Lexemes, NameNumber, VariablesHeld, more-variables, MethodHeld, MethodsHeld, more-methods}
use Rattle.lookup.specs.laws.HeldLaws.{element-there, word_in, start_word, spelt, name-word, row-there}
use Rattle.lookup.specs.promises.Lookups.{Names, no_names, more-names, Repeated}
use Rattle.declarations.specs.promises.Earlier.{onto, VariablesListed, Along}

-- NAMES

or_swap : (a b c : Bool) → ((a || b) || c) ≡ (b || (a || c))
or_swap true true c = refl
or_swap true false c = refl
or_swap false b c = refl

or-false : (a : Bool) → a ≡ (a || false)
or-false true = refl
or-false false = refl

pub onto-occurs : (x : List ℕ) (earlier xs : List (List ℕ)) → occurs x (onto earlier xs) ≡ (occurs x earlier || occurs x xs)
unfolding occurs
onto-occurs x earlier [] = or-false (occurs x earlier)
onto-occurs x earlier (y ∷ ys) = onto-occurs x (y ∷ earlier) ys ∙ or_swap (same y x) (occurs x earlier) (occurs x ys)

pub onto-length : (earlier xs : List (List ℕ)) → length (onto earlier xs) ≡ length earlier + length xs
onto-length earlier [] = omega arith
onto-length earlier (x ∷ xs) = let h = onto-length (x ∷ earlier) xs in omega (arith, h)

onto-last : (earlier xs : List (List ℕ)) (x : List ℕ) → onto earlier (xs ++ x ∷ []) ≡ x ∷ onto earlier xs
onto-last earlier [] x = refl
onto-last earlier (y ∷ ys) x = onto-last (y ∷ earlier) ys x

pub onto-next : {A : Type 0} (f : A → List ℕ) (earlier : List (List ℕ)) (us : List A) (v : A)
    → onto earlier (map f (us ++ v ∷ [])) ≡ f v ∷ onto earlier (map f us)
onto-next f earlier us v = ap (onto earlier) (map-append f us (v ∷ [])) ∙ onto-last earlier (map f us) (f v)

-- ROWS

type-there : (ts : List Token) (i : ℕ) (t : Ty) → TypeMatches ts i t → i < length ts
unfolding TypeMatches
type-there ts i (plain t) m = element-there ts i t m.0
type-there ts i (array_of t) m = element-there ts i t m.0

-- what the words of a row tell of the variable, or the method's head, that is declared there
pub record DeclaredAt (tab : List ℕ) (ts : List Token) (v : Variable) (row : ℕ) : Type 0 where
  pub matches : VariableMatches ts v
  pub type : word_at tab c_type row ≡ v.type.row
  pub type-start : word_at tab c_start v.type.row ≡ v.type.start
  pub number : NameNumber ts v.name.text (word_at tab c_number row)
  pub start : word_at tab c_start row ≡ v.name.start

module _ {tab : List ℕ} {n : ℕ} {ts : List Token} (lx : Lexemes tab n ts) where
  declared-at : (v : Variable) {row : ℕ} → v.name.row ≡ row → VariableMatches ts v → col tab c_type v.name.row ≡ v.type.row
      → DeclaredAt tab ts v row
  declared-at v {row} at m c₃ =
      let there = m.name.token.there in
      subst (DeclaredAt tab ts v) at (record {
        matches = m;
        type = word_in tab c_type v.name.row (row-there lx v.name.row there) c₃;
        type-start = start_word lx v.type.row (type-there ts v.type.row v.type.type m.type) ∙ m.start;
        number = name-word lx v.name.row m.name.token;
        start = start_word lx v.name.row there ∙ m.name.start;
      })

  -- the names of the members before a row
  pub variable-names : (us vs : List Variable) → VariablesHeld tab ts (us ++ vs) → Names tab ts (row_variables (us ++ vs)) (map text_of us)
  variable-names [] vs s = no_names
  variable-names (u ∷ us) vs (more-variables m c₃ c₆ s) =
      more-names (row-there lx u.name.row m.name.token.there) refl (spelt lx u.name.row m.name.token) c₆ (variable-names us vs s)

-- VARIABLES

-- whether a name is that of one of the variables of a list
pub listed-repeated : {tab : List ℕ} {n : ℕ} {ts : List Token} → Lexemes tab n ts → {first count : ℕ} (vs : List Variable)
    → VariablesListed tab ts vs first count → {x : ℕ} {r : Bool}
    → Repeated tab count first x r → (text : List ℕ) → NameNumber ts text x → r ≡ occurs text (map text_of vs)
listed-repeated {tab} {ts = ts} lx {first} vs l h text sp =
    let names = variable-names lx vs [] (subst (VariablesHeld tab ts) (sym (append-nil vs)) l.stand) in
    h.says ts (map text_of vs) (subst (λ (i : ℕ). Names tab ts i (map text_of vs)) (ap row_variables (append-nil vs) ∙ l.begins) names)
    (length-map vs text_of ∙ l.many) text sp

variables-from : {tab : List ℕ} {ts : List Token} (us vs : List Variable) → VariablesHeld tab ts (us ++ vs) → VariablesHeld tab ts vs
variables-from [] vs s = s
variables-from (u ∷ us) vs (more-variables m c₃ c₆ s) = variables-from us vs s

module _ {tab : List ℕ} {n : ℕ} {ts : List Token} (lx : Lexemes tab n ts) {first index row : ℕ} (us : List Variable) (v : Variable) (vs : List Variable)
    (a : Along tab ts us (v ∷ vs) first index row) where
  -- a row from which on there are variables is a row of the table
  pub variable-near : row < absent
  variable-near = go (variables-from us (v ∷ vs) a.stand)
    where
      go : VariablesHeld tab ts (v ∷ vs) → row < absent
      go (more-variables m c₃ c₆ s) = omega (arith, a.here, row-there lx v.name.row m.name.token.there)

  pub variable-declared : DeclaredAt tab ts v row
  variable-declared = go (variables-from us (v ∷ vs) a.stand)
    where
      go : VariablesHeld tab ts (v ∷ vs) → DeclaredAt tab ts v row
      go (more-variables m c₃ c₆ s) = declared-at lx v a.here m c₃

  pub variable-repeated : {x : ℕ} {r : Bool} → Repeated tab index first x r → (text : List ℕ) → NameNumber ts text x
      → r ≡ occurs text (map text_of us)
  variable-repeated {x} {r} h text sp =
      h.says ts (map text_of us) (subst (λ (i : ℕ). Names tab ts i (map text_of us)) a.begins (variable-names lx us (v ∷ vs) a.stand))
      (length-map us text_of ∙ a.before) text sp

  pub variable-step : {next : ℕ} → next ≡ word_at tab c_next row → Along tab ts (us ++ v ∷ []) vs first (index + 1) next
  variable-step {next} e₆ = go (variables-from us (v ∷ vs) a.stand)
    where
      go : VariablesHeld tab ts (v ∷ vs) → Along tab ts (us ++ v ∷ []) vs first (index + 1) next
      go (more-variables m c₃ c₆ s) = record {
        stand = subst (VariablesHeld tab ts) (sym (append_assoc us (v ∷ []) vs)) a.stand;
        begins = ap row_variables (append_assoc us (v ∷ []) vs) ∙ a.begins;
        before = length-append us (v ∷ []) ∙ ap (λ (i : ℕ). i + 1) a.before;
        here = sym (word_in tab c_next v.name.row (row-there lx v.name.row m.name.token.there) c₆) ∙ ap (word_at tab c_next) a.here ∙ sym e₆;
      }

-- THE FIRST OF A LIST

-- the variable that stands in a row, and where the next one does
pub record First (tab : List ℕ) (ts : List Token) (v : Variable) (vs : List Variable) (row : ℕ) : Type 0 where
  pub near : row < absent
  pub declared : DeclaredAt tab ts v row
  pub next : word_at tab c_next row ≡ row_variables vs
  pub rest : VariablesHeld tab ts vs

pub first_of : {tab : List ℕ} {n : ℕ} {ts : List Token} → Lexemes tab n ts → {v : Variable} {vs : List Variable} {row : ℕ}
    → v.name.row ≡ row → VariablesHeld tab ts (v ∷ vs)
    → First tab ts v vs row
first_of {tab} lx {v} {vs} at (more-variables m c₃ c₆ s) =
    let there = row-there lx v.name.row m.name.token.there in
    record { near = omega (arith, at, there); declared = declared-at lx v at m c₃; next = ap (word_at tab c_next) (sym at) ∙ word_in tab c_next v.name.row there c₆; rest = s }

-- and the method
pub record FirstMethod (tab : List ℕ) (n : ℕ) (ts : List Token) (m : Method) (ms : List Method) (row : ℕ) : Type 0 where
  pub near : row < absent
  pub stands : MethodHeld tab n ts m
  pub next : word_at tab c_next row ≡ row_methods ms
  pub rest : MethodsHeld tab n ts ms

pub first-method : {tab : List ℕ} {n : ℕ} {ts : List Token} → Lexemes tab n ts → {m : Method} {ms : List Method} {row : ℕ}
    → m.name.row ≡ row → MethodsHeld tab n ts (m ∷ ms)
    → FirstMethod tab n ts m ms row
first-method {tab} lx {m} {ms} at (more-methods h c₆ s) =
    let there = row-there lx m.name.row h.head.name.token.there in
    record { near = omega (arith, at, there); stands = h; next = ap (word_at tab c_next) (sym at) ∙ word_in tab c_next m.name.row there c₆; rest = s }

pub method-declared : {tab : List ℕ} {n : ℕ} {ts : List Token} → Lexemes tab n ts → (m : Method) {row : ℕ} → m.name.row ≡ row
    → MethodHeld tab n ts m
    → DeclaredAt tab ts (head_of m) row
method-declared lx m at s = declared-at lx (head_of m) at s.head s.result
