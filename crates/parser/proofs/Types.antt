-- Where a type begins: the test of a token's kind and the element type that the definition reads there, and the tests for `new T[e]`.
use Prim.Native.Nat.{ℕ, ◌+◌, ◌<◌}
use mathlib.Core.Path.{◌≡◌, refl, sym, ◌∙◌}
use mathlib.Core.List.{List, [], ◌∷◌}
use mathlib.Core.Logic.{◌≢◌}
use mathlib.Core.Bool.{Bool, true, false, ◌&&◌, ◌||◌}
use mathlib.Core.Option.{none, some}
use native.Mathlib.Omega.{arith}
use lib.Dec.{eqb}
use borrow.Author.Tests.{eq-eqb, ne_eqb, eqb-true, eqb-false}
use Rattle.std.specs.List.{list_any}
use Rattle.lexer.specs.Kinds.{is_name_lem, k_boolean, k_fixed, k_int, k_new, k_open_bracket}
use Rattle.lexer.specs.Kinds.{k_false, k_fixed_literal, k_if, k_literal, k_open_brace, k_port, k_system, k_this, k_true, k_while}
use Rattle.lexer.specs.Tokens.{Token}
use Rattle.parser.specs.Tree.{Element, Element.int, Element.boolean, Element.class}
use Rattle.parser.specs.Stream.{token_at, kind_at}
use Rattle.parser.specs.Parse.{begins_type_lem, begins_statement_lem, element_type_lem}
use Rattle.parser.specs.promises.Post.{kind_in_table, TokensIn, begins_element_lem, starts_array_lem, name_or, is_atom_lem}
use Rattle.parser.proofs.Laws.{there-by}

-- an element type that token i is
pub record ElementRead (ts : List Token) (i : ℕ) : Type 0 where
  pub element : Element
  pub read : element_type_lem ts i ≡ some element

module _ (ts : List Token) (i : ℕ) where
  -- what the test takes is read
  pub element-read : (named : Bool) → begins_element_lem (kind_at ts i) named ≡ true → ElementRead ts i
  unfolding begins_element_lem element_type_lem
  element-read named = go (eqb (kind_at ts i) k_int) refl (eqb (kind_at ts i) k_boolean) refl (is_name_lem (kind_at ts i)) refl
    where
      go : (a : Bool) → eqb (kind_at ts i) k_int ≡ a → (b : Bool) → eqb (kind_at ts i) k_boolean ≡ b → (c : Bool) → is_name_lem (kind_at ts i) ≡ c
          → (a || b || c && named) ≡ true → ElementRead ts i
      go true e b _ c _ t = record { element = int; read = rw e refl }
      go false e true e' c _ t = record { element = boolean; read = rw (e, e') refl }
      go false e false e' true e'' t = record { element = class (token_at ts i).text; read = rw (e, e', e'') refl }
      go false _ false _ false _ t = absurd (let z : ◌≡◌ {A = ℕ} 0 1 = cc in omega arith)

  -- and where even a name would do, what it refuses is not
  pub element-not : begins_element_lem (kind_at ts i) true ≡ false → element_type_lem ts i ≡ none
  unfolding begins_element_lem element_type_lem
  element-not = go (eqb (kind_at ts i) k_int) refl (eqb (kind_at ts i) k_boolean) refl (is_name_lem (kind_at ts i)) refl
    where
      go : (a : Bool) → eqb (kind_at ts i) k_int ≡ a → (b : Bool) → eqb (kind_at ts i) k_boolean ≡ b → (c : Bool) → is_name_lem (kind_at ts i) ≡ c
          → (a || b || c && true) ≡ false → element_type_lem ts i ≡ none
      go false e false e' false e'' t = rw (e, e', e'') refl
      go true e b _ c _ t = absurd (let z : ◌≡◌ {A = ℕ} 0 1 = cc in omega arith)
      go false e true _ c _ t = absurd (let z : ◌≡◌ {A = ℕ} 0 1 = cc in omega arith)
      go false e false _ true _ t = absurd (let z : ◌≡◌ {A = ℕ} 0 1 = cc in omega arith)

-- its token is there
pub element-there : (T : List ℕ) (n i k : ℕ) {b : Bool} → k ≡ kind_in_table T n i → b ≡ begins_element_lem k true → b ≡ true → i < n
unfolding begins_element_lem is_name_lem
element-there T n i k e eb t = there-by (λ (k : ℕ). begins_element_lem k true) refl T n i k e (sym eb ∙ t)

-- a type is `fixed`, or one of which there are arrays
pub type-or-fixed : (k : ℕ) (named : Bool) → begins_type_lem k named ≡ (eqb k k_fixed || begins_element_lem k named)
unfolding begins_type_lem begins_element_lem
type-or-fixed k named = go (eqb k k_int) (eqb k k_boolean) (eqb k k_fixed) (is_name_lem k && named)
  where
    go : (a b c d : Bool) → (a || b || c || d) ≡ (c || (a || b || d))
    go true b true d = refl
    go true b false d = refl
    go false true true d = refl
    go false true false d = refl
    go false false true d = refl
    go false false false d = refl

pub not-fixed : {k : ℕ} {b : Bool} → k ≢ k_fixed → b ≡ begins_type_lem k true → b ≡ begins_element_lem k true
not-fixed {k} z e = e ∙ type-or-fixed k true ∙ rw (ne_eqb k k_fixed z) refl

-- `new T[e]`, by the definition and as the code tests for it: they differ at `new fixed` alone
module _ (T : List ℕ) (n i : ℕ) {ts : List Token} (h : TokensIn T n ts) where
  pub array_told : starts_array_lem T n i ≡ (eqb (kind_at ts i) k_new && begins_element_lem (kind_at ts (i + 1)) (eqb (kind_at ts (i + 2)) k_open_bracket))
  unfolding starts_array_lem
  array_told = rw (h.kinds i, h.kinds (i + 1), h.kinds (i + 2)) refl

  pub makes-array : (eqb (kind_at ts i) k_new && begins_type_lem (kind_at ts (i + 1)) (eqb (kind_at ts (i + 2)) k_open_bracket))
      ≡ (eqb (kind_at ts i) k_new && eqb (kind_at ts (i + 1)) k_fixed || starts_array_lem T n i)
  makes-array =
      rw (array_told, type-or-fixed (kind_at ts (i + 1)) (eqb (kind_at ts (i + 2)) k_open_bracket)) (go (eqb (kind_at ts i) k_new) _ _)
    where
      go : (a b c : Bool) → (a && (b || c)) ≡ (a && b || a && c)
      go true b c = refl
      go false b c = refl

-- A NAME, OR A TOKEN OF ONE OF THESE KINDS

pub one-of : (k : ℕ) (qs : List ℕ) → list_any (λ q. eqb q k) qs ≡ true → true ≡ name_or qs k
one-of k [] t = absurd (let z : ◌≡◌ {A = ℕ} 0 1 = cc in omega arith)
one-of k (q ∷ qs) t = go (eqb q k) refl t (one-of k qs)
  where
    go : (b : Bool) → eqb q k ≡ b → (b || list_any (λ q. eqb q k) qs) ≡ true → (list_any (λ q. eqb q k) qs ≡ true → true ≡ name_or qs k)
        → true ≡ (eqb k q || name_or qs k)
    go true e t ih = rw (eq-eqb k q (sym (eqb-true q k e))) refl
    go false e t ih = rw (ne_eqb k q (λ z. eqb-false q k e (sym z))) (ih t)

pub none-of : (k : ℕ) (qs : List ℕ) → list_any (λ q. eqb q k) qs ≡ false → is_name_lem k ≡ name_or qs k
none-of k [] t = refl
none-of k (q ∷ qs) t = go (eqb q k) refl t (none-of k qs)
  where
    go : (b : Bool) → eqb q k ≡ b → (b || list_any (λ q. eqb q k) qs) ≡ false → (list_any (λ q. eqb q k) qs ≡ false → is_name_lem k ≡ name_or qs k)
        → is_name_lem k ≡ (eqb k q || name_or qs k)
    go true e t ih = absurd (let z : ◌≡◌ {A = ℕ} 0 1 = cc in omega arith)
    go false e t ih = rw (ne_eqb k q (λ z. eqb-false q k e (sym z))) (ih t)

from-left : (a b c d e f : Bool) → (a || (b || (c || (d || (e || f))))) ≡ (a || b || c || d || e || f)
from-left true b c d e f = refl
from-left false true c d e f = refl
from-left false false true d e f = refl
from-left false false false true e f = refl
from-left false false false false true f = refl
from-left false false false false false f = refl

pub atom-told : (k : ℕ) → name_or (k_fixed_literal ∷ k_literal ∷ k_true ∷ k_false ∷ k_this ∷ []) k ≡ is_atom_lem k
unfolding is_atom_lem
atom-told k = from-left (eqb k k_fixed_literal) (eqb k k_literal) (eqb k k_true) (eqb k k_false) (eqb k k_this) (is_name_lem k)

pub statement-told : (k : ℕ) → name_or (k_open_brace ∷ k_if ∷ k_while ∷ k_system ∷ k_port ∷ []) k ≡ begins_statement_lem k
unfolding begins_statement_lem
statement-told k = from-left (eqb k k_open_brace) (eqb k k_if) (eqb k k_while) (eqb k k_system) (eqb k k_port) (is_name_lem k)
