-- Where a part of a list of tokens stands within another, with its positions moved, what the grammar derives from it it derives there.
use Rattle.std.specs.Prelude.{ℕ, ◌+◌, ◌-◌, ◌≤◌, ◌<◌, ◌≡◌, List, map, true}
use Rattle.std.proofs.Common.{arith, ap, ◌∙◌, subst}
use Rattle.std.proofs.Math.Option.{Option, some}
use Rattle.lexer.specs.Tokens.{Token}
use Rattle.lexer.specs.Kinds.{is_name_lem}
use Rattle.parser.specs.Tree.{Name, Sort, Part, Statement, Element, TypeUse, Variable, Method, Class}
use Rattle.parser.specs.Tree.{Sort.statement}
use Rattle.parser.specs.Tree.{Element.fixed, Element.class, Ty, Ty.plain, Ty.array_of}
use Rattle.parser.specs.Stream.{token_at, kind_at, place_at, name_at, type_at, element_at, operator_of}
use Rattle.parser.specs.Grammar.{Kind, DerivesElement, an_int, a-boolean, a-class}
use Rattle.parser.specs.Grammar.{Derives, operate, one-operand, negate, no-negation, make-array, no-array, index, take-length, invoke}
use Rattle.parser.specs.Grammar.{no-suffix, a-literal, a-fixed-literal, a-true, a-false, a-name, a-this, make-object, get-register}
use Rattle.parser.specs.Grammar.{parentheses, none-given, some-given, one_argument, more-arguments, a_block, an-if, a-while, a-print}
use Rattle.parser.specs.Grammar.{an-assignment, an-element-assignment, put-register, no-statement, more-statements}
use Rattle.parser.specs.Grammar.{DerivesType, an-array, no-mark, a-fixed, DerivesVariable, a-variable, DerivesVariables, no-variable}
use Rattle.parser.specs.Grammar.{more-variables, DerivesParameters, one-parameter, more-parameters, DerivesFormals, no-formal, some-formals}
use Rattle.parser.specs.Grammar.{DerivesMethod, a-method, DerivesMethods, no-method, more-methods, DerivesParent, no-parent, a-parent}
use Rattle.parser.specs.Grammar.{DerivesClass, a-class-declaration, DerivesClasses, no-class, more-classes}
use Rattle.appended.specs.Moved.{shift, move_token, move_place, move_name, move_element, move, move_type, move_variable, move_method}
use Rattle.appended.specs.Moved.{move_parent, move_class}

-- F holds up to the place to which j is moved
pub record Put (F : ℕ → Type 0) (x n j : ℕ) : Type 0 where
  pub end : ℕ
  pub is : end + x ≡ n + j
  pub holds : F end

from : {F : ℕ → Type 0} {x n j : ℕ} {R : Type 0} → Put F x n j → ((e : ℕ) → e + x ≡ n + j → F e → R) → R
from h k = k h.end h.is h.holds

-- a derivation goes forward
order : {ts : List Token} {s : Sort} {k : Kind s} {i j : ℕ} {t : Part s} → Derives ts s k i j t → i ≤ j
order (operate l e r) = omega (arith, order l, order r)
order (one-operand h) = order h
order (negate e h) = omega (arith, order h)
order (no-negation h) = order h
order (make-array e de e₁ h e₂) = omega (arith, order h)
order (no-array h) = order h
order (index h e g e₁) = omega (arith, order h, order g)
order (take-length h e e₁) = omega (arith, order h)
order (invoke h e e₁ e₂ g e₃) = omega (arith, order h, order g)
order (no-suffix h) = order h
order (a-literal e) = omega arith
order (a-fixed-literal e) = omega arith
order (a-true e) = omega arith
order (a-false e) = omega arith
order (a-name e) = omega arith
order (a-this e) = omega arith
order (make-object e e₁ e₂ e₃) = omega arith
order (get-register e e₁ e₂ e₃ h e₄) = omega (arith, order h)
order (parentheses e h e₁) = omega (arith, order h)
order none-given = omega arith
order (some-given h) = order h
order (one_argument h) = order h
order (more-arguments h e g) = omega (arith, order h, order g)
order (a_block e h e₁) = omega (arith, order h)
order (an-if e e₁ h e₂ g e₃ f) = omega (arith, order h, order g, order f)
order (a-while e e₁ h e₂ g) = omega (arith, order h, order g)
order (a-print e e₁ e₂ e₃ e₄ e₅ h e₆ e₇) = omega (arith, order h)
order (an-assignment e e₁ h e₂) = omega (arith, order h)
order (an-element-assignment e e₁ h e₂ e₃ g e₄) = omega (arith, order h, order g)
order (put-register e e₁ e₂ e₃ h e₄ g e₅ e₆) = omega (arith, order h, order g)
order no-statement = omega arith
order (more-statements h g) = omega (arith, order h, order g)

pub statement-order : {ts : List Token} {i j : ℕ} {t : Statement} → Derives ts statement Kind.a_statement i j t → i ≤ j
statement-order h = order h

order-type : {ts : List Token} {i j : ℕ} {t : TypeUse} → DerivesType ts i j t → i ≤ j
order-type (an-array d e e₁) = omega arith
order-type (no-mark d) = omega arith
order-type (a-fixed e) = omega arith

order-variable : {ts : List Token} {i j : ℕ} {v : Variable} → DerivesVariable ts i j v → i ≤ j
order-variable (a-variable h e) = omega (arith, order-type h)

order-variables : {ts : List Token} {i j : ℕ} {xs : List Variable} → DerivesVariables ts i j xs → i ≤ j
order-variables no-variable = omega arith
order-variables (more-variables h e g) = omega (arith, order-variable h, order-variables g)

order-parameters : {ts : List Token} {i j : ℕ} {xs : List Variable} → DerivesParameters ts i j xs → i ≤ j
order-parameters (one-parameter h) = order-variable h
order-parameters (more-parameters h e g) = omega (arith, order-variable h, order-parameters g)

order-formals : {ts : List Token} {i j : ℕ} {xs : List Variable} → DerivesFormals ts i j xs → i ≤ j
order-formals no-formal = omega arith
order-formals (some-formals h) = order-parameters h

order-method : {ts : List Token} {i j : ℕ} {m : Method} → DerivesMethod ts i j m → i ≤ j
order-method (a-method e h e₁ hp e₂ e₃ hl hs e₄ hv e₅ e₆) = omega
    (arith, order-variable h, order-formals hp, order-variables hl, order hs, order hv)

order-methods : {ts : List Token} {i j : ℕ} {ms : List Method} → DerivesMethods ts i j ms → i ≤ j
order-methods no-method = omega arith
order-methods (more-methods h g) = omega (arith, order-method h, order-methods g)

order-parent : {ts : List Token} {i j : ℕ} {p : Option Name} → DerivesParent ts i j p → i ≤ j
order-parent no-parent = omega arith
order-parent (a-parent e e₁) = omega arith

-- a class has four tokens or more
pub class-long : {ts : List Token} {i j : ℕ} {k : Class} → DerivesClass ts i j k → i + 4 ≤ j
class-long (a-class-declaration e e₁ hp e₂ hf hm e₃) = omega (arith, order-parent hp, order-variables hf, order-methods hm)

pub order-class : {ts : List Token} {i j : ℕ} {k : Class} → DerivesClass ts i j k → i < j
order-class h = omega (arith, class-long h)

pub order-classes : {ts : List Token} {i j : ℕ} {ks : List Class} → DerivesClasses ts i j ks → i ≤ j
order-classes no-class = omega arith
order-classes (more-classes h g) = omega (arith, order-class h, order-classes g)

-- token m of ts, one of those from first on and before last, is token m' of vs
pub record In (first last x n m m' : ℕ) : Type 0 where
  pub at : m' + x ≡ n + m
  pub low : first ≤ m
  pub high : m < last

-- the tokens of ts from first on and before last stand in vs, their numbers shifted from x to n and their positions from y to d
module _ (ts vs : List Token) (first last x n y d : ℕ)
    (here : (m m' : ℕ) → In first last x n m m' → token_at vs m' ≡ move_token (shift y d) (token_at ts m)) where
  token-at : (m m' : ℕ) → In first last x n m m' → token_at vs m' ≡ move_token (shift y d) (token_at ts m)
  token-at m m' w = here m m' w

  kind-at : (m m' : ℕ) {q : ℕ} → In first last x n m m' → kind_at ts m ≡ q → kind_at vs m' ≡ q
  kind-at m m' w e = ap (λ (t : Token). t.kind) (here m m' w) ∙ e

  name-at : (m m' : ℕ) → In first last x n m m' → is_name_lem (kind_at ts m) ≡ true → is_name_lem (kind_at vs m') ≡ true
  name-at m m' w e = ap (λ (t : Token). is_name_lem t.kind) (here m m' w) ∙ e

  place_is : (f f' m m' : ℕ) → In first last x n f f' → m' + x ≡ n + m → place_at vs f' m' ≡ move_place (shift x n) (shift y d)
      (place_at ts f m)
  place_is f f' m m' w q = let t = here f f' w in let r : m' ≡ n + m - x = omega arith in cc

  name-is : (m m' : ℕ) → In first last x n m m' → name_at vs m' ≡ move_name (shift x n) (shift y d) (name_at ts m)
  name-is m m' w = let t = here m m' w in let r : m' ≡ n + m - x = omega arith in cc

  -- an element type stands there too
  element-there : {i : ℕ} {t : Element} → DerivesElement ts i t → (i' : ℕ) → In first last x n i i' → DerivesElement vs i' t
  element-there (an_int {i = i} e) i' w = an_int (kind-at i i' w e)
  element-there (a-boolean {i = i} e) i' w = a-boolean (kind-at i i' w e)
  element-there (a-class {i = i} e) i' w =
      subst (DerivesElement vs i') (ap (λ (t : Token). class t.text) (here i i' w)) (a-class (name-at i i' w e))

  element-is : (m m' : ℕ) (t : Element) → In first last x n m m'
      → element_at vs m' t ≡ move_element (shift x n) (shift y d) (element_at ts m t)
  element-is m m' t w = let q = here m m' w in let r : m' ≡ n + m - x = omega arith in cc

  type-is : (m m' : ℕ) (t : Ty) → In first last x n m m' → type_at vs m' t ≡ move_type (shift x n) (shift y d) (type_at ts m t)
  type-is m m' t w = let q = here m m' w in let r : m' ≡ n + m - x = omega arith in cc

  as-tree : {s : Sort} {k : Kind s} {i j : ℕ} {t u : Part s} → Derives vs s k i j t → t ≡ u → Derives vs s k i j u
  as-tree {s} {k} {i} {j} h e = subst (Derives vs s k i j) e h

  abbrev Moved : {s : Sort} → Kind s → (i j : ℕ) → Part s → Type 0
  Moved {s} k i j t = Put (λ e. Derives vs s k i e (move (shift x n) (shift y d) t)) x n j

  embed : {s : Sort} {k : Kind s} {i j : ℕ} {t : Part s} → Derives ts s k i j t → (i' : ℕ) → i' + x ≡ n + i → first ≤ i → j ≤ last → Moved k
      i' j t
  embed (operate {L = L} {i = i} {m = m} l e r) i' q lo hi =
      let o0 = order l in let o1 = order r in
      from (embed l i' q (omega arith) (omega arith)) λ ae ai ah.
      from (embed r (ae + 1) (omega arith) (omega arith) (omega arith)) λ be bi bh.
      let o = ap (λ (t : Token). operator_of L t.kind) (token-at m ae (omega arith)) ∙ e in
      record { end = be; is = bi; holds = as-tree (operate ah o bh) (cc (place_is i i' m ae (omega arith) ai)) }
  embed (one-operand h) i' q lo hi =
      let o0 = order h in from (embed h i' q (omega arith) (omega arith)) λ ae ai ah. record { end = ae; is = ai; holds = one-operand ah }
  embed (negate {i = i} e h) i' q lo hi =
      let o0 = order h in
      from (embed h (i' + 1) (omega arith) (omega arith) (omega arith)) λ ae ai ah.
      record { end = ae; is = ai; holds = as-tree (negate (kind-at i i' (omega arith) e) ah) (cc (place_is i i' i i' (omega arith) q)) }
  embed (no-negation h) i' q lo hi =
      let o0 = order h in from (embed h i' q (omega arith) (omega arith)) λ ae ai ah. record { end = ae; is = ai; holds = no-negation ah }
  embed (make-array {i = i} {j = j} {t = t} e de e₁ h e₂) i' q lo hi =
      let o0 = order h in
      from (embed h (i' + 3) (omega arith) (omega arith) (omega arith)) λ ae ai ah.
      record {
        end = ae + 1;
        is = omega arith;
        holds = as-tree (make-array (kind-at i i' (omega arith) e) (element-there de (i' + 1) (omega arith))
            (kind-at (i + 2) (i' + 2) (omega arith) e₁) ah (kind-at j ae (omega arith) e₂))
            (cc (place_is i i' i i' (omega arith) q, element-is (i + 1) (i' + 1) t (omega arith)));
      }
  embed (no-array h) i' q lo hi =
      let o0 = order h in from (embed h i' q (omega arith) (omega arith)) λ ae ai ah. record { end = ae; is = ai; holds = no-array ah }
  embed (index {i = i} {m = m} {j = j} h e g e₁) i' q lo hi =
      let o0 = order h in let o1 = order g in
      from (embed h i' q (omega arith) (omega arith)) λ ae ai ah.
      from (embed g (ae + 1) (omega arith) (omega arith) (omega arith)) λ be bi bh.
      record {
        end = be + 1;
        is = omega arith;
        holds = as-tree (index ah (kind-at m ae (omega arith) e) bh (kind-at j be (omega arith) e₁))
            (cc (place_is i i' m ae (omega arith) ai));
      }
  embed (take-length {i = i} {m = m} h e e₁) i' q lo hi =
      let o0 = order h in
      from (embed h i' q (omega arith) (omega arith)) λ ae ai ah.
      record {
        end = ae + 2;
        is = omega arith;
        holds = as-tree (take-length ah (kind-at m ae (omega arith) e) (kind-at (m + 1) (ae + 1) (omega arith) e₁))
            (cc (place_is i i' m ae (omega arith) ai));
      }
  embed (invoke {i = i} {m = m} {j = j} h e e₁ e₂ g e₃) i' q lo hi =
      let o0 = order h in let o1 = order g in
      from (embed h i' q (omega arith) (omega arith)) λ ae ai ah.
      from (embed g (ae + 3) (omega arith) (omega arith) (omega arith)) λ be bi bh.
      record {
        end = be + 1;
        is = omega arith;
        holds = as-tree (invoke ah (kind-at m ae (omega arith) e) (name-at (m + 1) (ae + 1) (omega arith) e₁)
            (kind-at (m + 2) (ae + 2) (omega arith) e₂) bh (kind-at j be (omega arith) e₃))
            (cc (place_is i i' m ae (omega arith) ai, name-is (m + 1) (ae + 1) (omega arith)));
      }
  embed (no-suffix h) i' q lo hi =
      let o0 = order h in from (embed h i' q (omega arith) (omega arith)) λ ae ai ah. record { end = ae; is = ai; holds = no-suffix ah }
  embed (a-literal {i = i} e) i' q lo hi =
      record {
        end = i' + 1;
        is = omega arith;
        holds = as-tree (a-literal (kind-at i i' (omega arith) e))
            (cc (place_is i i' i i' (omega arith) q, token-at i i' (omega arith)));
      }
  embed (a-fixed-literal {i = i} e) i' q lo hi =
      record {
        end = i' + 1;
        is = omega arith;
        holds = as-tree (a-fixed-literal (kind-at i i' (omega arith) e))
            (cc (place_is i i' i i' (omega arith) q, token-at i i' (omega arith)));
      }
  embed (a-true {i = i} e) i' q lo hi = record {
    end = i' + 1;
    is = omega arith;
    holds = as-tree (a-true (kind-at i i' (omega arith) e))
        (cc (place_is i i' i i' (omega arith) q));
  }
  embed (a-false {i = i} e) i' q lo hi = record {
    end = i' + 1;
    is = omega arith;
    holds = as-tree (a-false (kind-at i i' (omega arith) e))
        (cc (place_is i i' i i' (omega arith) q));
  }
  embed (a-name {i = i} e) i' q lo hi =
      record {
        end = i' + 1;
        is = omega arith;
        holds = as-tree (a-name (name-at i i' (omega arith) e))
            (cc (place_is i i' i i' (omega arith) q, token-at i i' (omega arith)));
      }
  embed (a-this {i = i} e) i' q lo hi = record {
    end = i' + 1;
    is = omega arith;
    holds = as-tree (a-this (kind-at i i' (omega arith) e))
        (cc (place_is i i' i i' (omega arith) q));
  }
  embed (make-object {i = i} e e₁ e₂ e₃) i' q lo hi =
      record {
        end = i' + 4;
        is = omega arith;
        holds = as-tree (make-object (kind-at i i' (omega arith) e) (name-at (i + 1) (i' + 1) (omega arith) e₁)
            (kind-at (i + 2) (i' + 2) (omega arith) e₂) (kind-at (i + 3) (i' + 3) (omega arith) e₃))
            (cc (place_is i i' i i' (omega arith) q, name-is (i + 1) (i' + 1) (omega arith)));
      }
  embed (get-register {i = i} {j = j} e e₁ e₂ e₃ h e₄) i' q lo hi =
      let o0 = order h in
      from (embed h (i' + 4) (omega arith) (omega arith) (omega arith)) λ ae ai ah.
      record {
        end = ae + 1;
        is = omega arith;
        holds = as-tree (get-register (kind-at i i' (omega arith) e) (kind-at (i + 1) (i' + 1) (omega arith) e₁)
            (kind-at (i + 2) (i' + 2) (omega arith) e₂) (kind-at (i + 3) (i' + 3) (omega arith) e₃) ah (kind-at j ae (omega arith) e₄))
            (cc (place_is i i' i i' (omega arith) q));
      }
  embed (parentheses {i = i} {j = j} e h e₁) i' q lo hi =
      let o0 = order h in
      from (embed h (i' + 1) (omega arith) (omega arith) (omega arith)) λ ae ai ah.
      record { end = ae + 1; is = omega arith; holds = parentheses (kind-at i i' (omega arith) e) ah (kind-at j ae (omega arith) e₁) }
  embed none-given i' q lo hi = record { end = i'; is = q; holds = none-given }
  embed (some-given h) i' q lo hi =
      let o0 = order h in from (embed h i' q (omega arith) (omega arith)) λ ae ai ah. record { end = ae; is = ai; holds = some-given ah }
  embed (one_argument h) i' q lo hi =
      let o0 = order h in from (embed h i' q (omega arith) (omega arith)) λ ae ai ah. record { end = ae; is = ai; holds = one_argument ah }
  embed (more-arguments {m = m} h e g) i' q lo hi =
      let o0 = order h in let o1 = order g in
      from (embed h i' q (omega arith) (omega arith)) λ ae ai ah.
      from (embed g (ae + 1) (omega arith) (omega arith) (omega arith)) λ be bi bh.
      record { end = be; is = bi; holds = more-arguments ah (kind-at m ae (omega arith) e) bh }
  embed (a_block {i = i} {j = j} e h e₁) i' q lo hi =
      let o0 = order h in
      from (embed h (i' + 1) (omega arith) (omega arith) (omega arith)) λ ae ai ah.
      record {
        end = ae + 1;
        is = omega arith;
        holds = as-tree (a_block (kind-at i i' (omega arith) e) ah (kind-at j ae (omega arith) e₁))
            (cc (place_is i i' i i' (omega arith) q));
      }
  embed (an-if {i = i} {j = j} {k = k} e e₁ h e₂ g e₃ f) i' q lo hi =
      let o0 = order h in let o1 = order g in let o2 = order f in
      from (embed h (i' + 2) (omega arith) (omega arith) (omega arith)) λ ae ai ah.
      from (embed g (ae + 1) (omega arith) (omega arith) (omega arith)) λ be bi bh.
      from (embed f (be + 1) (omega arith) (omega arith) (omega arith)) λ ce ci ch.
      record {
        end = ce;
        is = ci;
        holds = as-tree (an-if (kind-at i i' (omega arith) e) (kind-at (i + 1) (i' + 1) (omega arith) e₁) ah (kind-at j ae (omega arith) e₂)
            bh (kind-at k be (omega arith) e₃) ch)
            (cc (place_is i i' i i' (omega arith) q));
      }
  embed (a-while {i = i} {j = j} e e₁ h e₂ g) i' q lo hi =
      let o0 = order h in let o1 = order g in
      from (embed h (i' + 2) (omega arith) (omega arith) (omega arith)) λ ae ai ah.
      from (embed g (ae + 1) (omega arith) (omega arith) (omega arith)) λ be bi bh.
      record {
        end = be;
        is = bi;
        holds = as-tree (a-while (kind-at i i' (omega arith) e) (kind-at (i + 1) (i' + 1) (omega arith) e₁) ah
            (kind-at j ae (omega arith) e₂) bh)
            (cc (place_is i i' i i' (omega arith) q));
      }
  embed (a-print {i = i} {j = j} e e₁ e₂ e₃ e₄ e₅ h e₆ e₇) i' q lo hi =
      let o0 = order h in
      from (embed h (i' + 6) (omega arith) (omega arith) (omega arith)) λ ae ai ah.
      record {
        end = ae + 2;
        is = omega arith;
        holds = as-tree (a-print (kind-at i i' (omega arith) e) (kind-at (i + 1) (i' + 1) (omega arith) e₁)
            (kind-at (i + 2) (i' + 2) (omega arith) e₂) (kind-at (i + 3) (i' + 3) (omega arith) e₃)
            (kind-at (i + 4) (i' + 4) (omega arith) e₄) (kind-at (i + 5) (i' + 5) (omega arith) e₅) ah (kind-at j ae (omega arith) e₆)
            (kind-at (j + 1) (ae + 1) (omega arith) e₇))
            (cc (place_is i i' i i' (omega arith) q));
      }
  embed (an-assignment {i = i} {j = j} e e₁ h e₂) i' q lo hi =
      let o0 = order h in
      from (embed h (i' + 2) (omega arith) (omega arith) (omega arith)) λ ae ai ah.
      record {
        end = ae + 1;
        is = omega arith;
        holds = as-tree (an-assignment (name-at i i' (omega arith) e) (kind-at (i + 1) (i' + 1) (omega arith) e₁) ah
            (kind-at j ae (omega arith) e₂)) (cc (place_is i i' i i' (omega arith) q, token-at i i' (omega arith)));
      }
  embed (an-element-assignment {i = i} {j = j} {k = k} e e₁ h e₂ e₃ g e₄) i' q lo hi =
      let o0 = order h in let o1 = order g in
      from (embed h (i' + 2) (omega arith) (omega arith) (omega arith)) λ ae ai ah.
      from (embed g (ae + 2) (omega arith) (omega arith) (omega arith)) λ be bi bh.
      record {
        end = be + 1;
        is = omega arith;
        holds = as-tree (an-element-assignment (name-at i i' (omega arith) e) (kind-at (i + 1) (i' + 1) (omega arith) e₁) ah
            (kind-at j ae (omega arith) e₂) (kind-at (j + 1) (ae + 1) (omega arith) e₃) bh
            (kind-at k be (omega arith) e₄))
            (cc (place_is i i' i i' (omega arith) q, token-at i i' (omega arith)));
      }
  embed (put-register {i = i} {j = j} {k = k} e e₁ e₂ e₃ h e₄ g e₅ e₆) i' q lo hi =
      let o0 = order h in let o1 = order g in
      from (embed h (i' + 4) (omega arith) (omega arith) (omega arith)) λ ae ai ah.
      from (embed g (ae + 1) (omega arith) (omega arith) (omega arith)) λ be bi bh.
      record {
        end = be + 2;
        is = omega arith;
        holds = as-tree (put-register (kind-at i i' (omega arith) e) (kind-at (i + 1) (i' + 1) (omega arith) e₁)
            (kind-at (i + 2) (i' + 2) (omega arith) e₂) (kind-at (i + 3) (i' + 3) (omega arith) e₃) ah (kind-at j ae (omega arith) e₄) bh
            (kind-at k be (omega arith) e₅) (kind-at (k + 1) (be + 1) (omega arith) e₆))
            (cc (place_is i i' i i' (omega arith) q));
      }
  embed no-statement i' q lo hi = record { end = i'; is = q; holds = no-statement }
  embed (more-statements h g) i' q lo hi =
      let o0 = order h in let o1 = order g in
      from (embed h i' q (omega arith) (omega arith)) λ ae ai ah.
      from (embed g ae ai (omega arith) (omega arith)) λ be bi bh.
      record { end = be; is = bi; holds = more-statements ah bh }

  -- DECLARATIONS

  embed-type : {i j : ℕ} {t : TypeUse} → DerivesType ts i j t → (i' : ℕ) → i' + x ≡ n + i → first ≤ i → j ≤ last → Put
      (λ e. DerivesType vs i' e (move_type (shift x n) (shift y d) t)) x n j
  embed-type (an-array {i = i} {t = t} de e e₁) i' q lo hi =
      record {
        end = i' + 3;
        is = omega arith;
        holds = subst (DerivesType vs i' (i' + 3)) (type-is i i' (array_of t) (omega arith))
            (an-array (element-there de i' (omega arith)) (kind-at (i + 1) (i' + 1) (omega arith) e)
            (kind-at (i + 2) (i' + 2) (omega arith) e₁));
      }
  embed-type (no-mark {i = i} {t = t} de) i' q lo hi =
      record {
        end = i' + 1;
        is = omega arith;
        holds = subst (DerivesType vs i' (i' + 1)) (type-is i i' (plain t) (omega arith)) (no-mark (element-there de i' (omega arith)));
      }
  embed-type (a-fixed {i = i} e) i' q lo hi =
      record {
        end = i' + 1;
        is = omega arith;
        holds = subst (DerivesType vs i' (i' + 1)) (type-is i i' (plain fixed) (omega arith)) (a-fixed (kind-at i i' (omega arith) e));
      }

  embed-variable : {i j : ℕ} {v : Variable} → DerivesVariable ts i j v → (i' : ℕ) → i' + x ≡ n + i → first ≤ i → j ≤ last → Put
      (λ e. DerivesVariable vs i' e (move_variable (shift x n) (shift y d) v)) x n j
  embed-variable (a-variable {j = j} {t = t} h e) i' q lo hi =
      let o0 = order-type h in
      from (embed-type h i' q (omega arith) (omega arith)) λ ae ai ah.
      record {
        end = ae + 1;
        is = omega arith;
        holds = subst (λ (z : Name). DerivesVariable vs i' (ae + 1) (record { type = move_type (shift x n) (shift y d) t; name = z }))
            (name-is j ae (omega arith)) (a-variable ah (name-at j ae (omega arith) e));
      }

  embed-variables : {i j : ℕ} {xs : List Variable} → DerivesVariables ts i j xs → (i' : ℕ) → i' + x ≡ n + i → first ≤ i → j ≤ last → Put
      (λ e. DerivesVariables vs i' e (map (move_variable (shift x n) (shift y d)) xs)) x n j
  embed-variables no-variable i' q lo hi = record { end = i'; is = q; holds = no-variable }
  embed-variables (more-variables {m = m} h e g) i' q lo hi =
      let o0 = order-variable h in let o1 = order-variables g in
      from (embed-variable h i' q (omega arith) (omega arith)) λ ae ai ah.
      from (embed-variables g (ae + 1) (omega arith) (omega arith) (omega arith)) λ be bi bh.
      record { end = be; is = bi; holds = more-variables ah (kind-at m ae (omega arith) e) bh }

  embed-parameters : {i j : ℕ} {xs : List Variable} → DerivesParameters ts i j xs → (i' : ℕ) → i' + x ≡ n + i → first ≤ i → j ≤ last → Put
      (λ e. DerivesParameters vs i' e (map (move_variable (shift x n) (shift y d)) xs)) x n j
  embed-parameters (one-parameter h) i' q lo hi =
      let o0 = order-variable h in from (embed-variable h i' q (omega arith) (omega arith)) λ ae ai ah. record
      { end = ae; is = ai; holds = one-parameter ah }
  embed-parameters (more-parameters {m = m} h e g) i' q lo hi =
      let o0 = order-variable h in let o1 = order-parameters g in
      from (embed-variable h i' q (omega arith) (omega arith)) λ ae ai ah.
      from (embed-parameters g (ae + 1) (omega arith) (omega arith) (omega arith)) λ be bi bh.
      record { end = be; is = bi; holds = more-parameters ah (kind-at m ae (omega arith) e) bh }

  embed-formals : {i j : ℕ} {xs : List Variable} → DerivesFormals ts i j xs → (i' : ℕ) → i' + x ≡ n + i → first ≤ i → j ≤ last → Put
      (λ e. DerivesFormals vs i' e (map (move_variable (shift x n) (shift y d)) xs)) x n j
  embed-formals no-formal i' q lo hi = record { end = i'; is = q; holds = no-formal }
  embed-formals (some-formals h) i' q lo hi =
      let o0 = order-parameters h in from (embed-parameters h i' q (omega arith) (omega arith)) λ ae ai ah. record
      { end = ae; is = ai; holds = some-formals ah }

  embed-method : {i j : ℕ} {m : Method} → DerivesMethod ts i j m → (i' : ℕ) → i' + x ≡ n + i → first ≤ i → j ≤ last → Put
      (λ e. DerivesMethod vs i' e (move_method (shift x n) (shift y d) m)) x n j
  embed-method (a-method {i = i} {a = k₁} {b = k₂} {d = k₄} {e = k₅} e h e₁ hp e₂ e₃ hl hs e₄ hv e₅ e₆) i' q lo hi =
      let o0 = order-variable h in let o1 = order-formals hp in let o2 = order-variables hl in let o3 = order hs in let o4 = order hv in
      from (embed-variable h (i' + 1) (omega arith) (omega arith) (omega arith)) λ ae ai ah.
      from (embed-formals hp (ae + 1) (omega arith) (omega arith) (omega arith)) λ be bi bh.
      from (embed-variables hl (be + 2) (omega arith) (omega arith) (omega arith)) λ ce ci ch.
      from (embed hs ce ci (omega arith) (omega arith)) λ fe fi fh.
      from (embed hv (fe + 1) (omega arith) (omega arith) (omega arith)) λ ge gi gh.
      record {
        end = ge + 2;
        is = omega arith;
        holds = a-method (kind-at i i' (omega arith) e) ah (kind-at k₁ ae (omega arith) e₁) bh (kind-at k₂ be (omega arith) e₂)
            (kind-at (k₂ + 1) (be + 1) (omega arith) e₃) ch
            fh (kind-at k₄ fe (omega arith) e₄) gh (kind-at k₅ ge (omega arith) e₅) (kind-at (k₅ + 1) (ge + 1) (omega arith) e₆);
      }

  embed-methods : {i j : ℕ} {ms : List Method} → DerivesMethods ts i j ms → (i' : ℕ) → i' + x ≡ n + i → first ≤ i → j ≤ last → Put
      (λ e. DerivesMethods vs i' e (map (move_method (shift x n) (shift y d)) ms)) x n j
  embed-methods no-method i' q lo hi = record { end = i'; is = q; holds = no-method }
  embed-methods (more-methods h g) i' q lo hi =
      let o0 = order-method h in let o1 = order-methods g in
      from (embed-method h i' q (omega arith) (omega arith)) λ ae ai ah.
      from (embed-methods g ae ai (omega arith) (omega arith)) λ be bi bh.
      record { end = be; is = bi; holds = more-methods ah bh }

  embed-parent : {i j : ℕ} {p : Option Name} → DerivesParent ts i j p → (i' : ℕ) → i' + x ≡ n + i → first ≤ i → j ≤ last → Put
      (λ e. DerivesParent vs i' e (move_parent (shift x n) (shift y d) p)) x n j
  embed-parent no-parent i' q lo hi = record { end = i'; is = q; holds = no-parent }
  embed-parent (a-parent {i = i} e e₁) i' q lo hi =
      record {
        end = i' + 2;
        is = omega arith;
        holds = subst (λ (z : Name). DerivesParent vs i' (i' + 2) (some z)) (name-is (i + 1) (i' + 1) (omega arith))
            (a-parent (kind-at i i' (omega arith) e) (name-at (i + 1) (i' + 1) (omega arith) e₁));
      }

  pub embed-class : {i j : ℕ} {k : Class} → DerivesClass ts i j k → (i' : ℕ) → i' + x ≡ n + i → first ≤ i → j ≤ last → Put
      (λ e. DerivesClass vs i' e (move_class (shift x n) (shift y d) k)) x n j
  embed-class (a-class-declaration {i = i} {a = k₁} {c = k₂} {p = p} {fs = fs} {ms = ms} e e₁ hp e₂ hf hm e₃) i' q lo hi =
      let o0 = order-parent hp in let o1 = order-variables hf in let o2 = order-methods hm in
      from (embed-parent hp (i' + 2) (omega arith) (omega arith) (omega arith)) λ ae ai ah.
      from (embed-variables hf (ae + 1) (omega arith) (omega arith) (omega arith)) λ be bi bh.
      from (embed-methods hm be bi (omega arith) (omega arith)) λ ce ci ch.
      record {
        end = ce + 1;
        is = omega arith;
        holds = subst (λ (w : Name). DerivesClass vs i' (ce + 1)
            (record {
              name = w;
              parent = move_parent (shift x n) (shift y d) p;
              fields = map (move_variable (shift x n) (shift y d)) fs;
              methods = map (move_method (shift x n) (shift y d)) ms;
            }))
            (name-is (i + 1) (i' + 1) (omega arith))
            (a-class-declaration (kind-at i i' (omega arith) e) (name-at (i + 1) (i' + 1) (omega arith) e₁) ah
            (kind-at k₁ ae (omega arith) e₂) bh ch (kind-at k₂ ce (omega arith) e₃));
      }

  pub embed-classes : {i j : ℕ} {ks : List Class} → DerivesClasses ts i j ks → (i' : ℕ) → i' + x ≡ n + i → first ≤ i → j ≤ last → Put
      (λ e. DerivesClasses vs i' e (map (move_class (shift x n) (shift y d)) ks)) x n j
  embed-classes no-class i' q lo hi = record { end = i'; is = q; holds = no-class }
  embed-classes (more-classes h g) i' q lo hi =
      let o0 = order-class h in let o1 = order-classes g in
      from (embed-class h i' q (omega arith) (omega arith)) λ ae ai ah.
      from (embed-classes g ae ai (omega arith) (omega arith)) λ be bi bh.
      record { end = be; is = bi; holds = more-classes ah bh }

  pub embed-statement : {i j : ℕ} {t : Statement} → Derives ts statement Kind.a_statement i j t → (i' : ℕ) → i' + x ≡ n + i → first ≤ i → j ≤
      last → Put (λ e. Derives vs statement Kind.a_statement i' e (move (shift x n) (shift y d) t)) x n j
  embed-statement h i' q lo hi = embed h i' q lo hi

  pub embed-kind : (m m' : ℕ) {q : ℕ} → In first last x n m m' → kind_at ts m ≡ q → kind_at vs m' ≡ q
  embed-kind m m' w e = kind-at m m' w e

  pub embed-name : (m m' : ℕ) → In first last x n m m' → is_name_lem (kind_at ts m) ≡ true → is_name_lem (kind_at vs m') ≡ true
  embed-name m m' w e = name-at m m' w e

  pub embed-name-is : (m m' : ℕ) → In first last x n m m' → name_at vs m' ≡ move_name (shift x n) (shift y d) (name_at ts m)
  embed-name-is m m' w = name-is m m' w
