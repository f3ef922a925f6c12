-- Laws on the class table in the work table: words of rows that are there, names and types by number, and the class to which the index
-- leads.
use Rattle.std.specs.Prelude.{ℕ, ◌≤◌, ◌<◌, ◌+◌, ◌≡◌, refl, List, [], ◌∷◌, true, false, length}
use Rattle.std.proofs.Common.{arith, sym, ap, ◌∙◌, subst, true≢false, lt-ltb, le-ltb}
use Rattle.std.proofs.Math.Option.{Option, none, some, some-injective}
use Rattle.std.proofs.Math.ListN.{get_elem?}
use Rattle.base.specs.Bytes.{same}
use Rattle.base.specs.All.{All, all_nil, all_cons}
use Rattle.base.specs.laws.Lists.{get-get_d}
use Rattle.base.specs.promises.Table.{col, c_start, c_number, c_class}
use Rattle.base.specs.Codes.{tokens_most}
use Rattle.lexer.specs.Kinds.{is_name_lem}
use Rattle.lexer.specs.Tokens.{Token}
use Rattle.lexer.specs.promises.Rows.{first_named}
use Rattle.lexer.proofs.laws.RowLaws.{first-named, first-least}
use Rattle.parser.specs.Tree.{Element, Element.int, Element.boolean, Element.fixed, Element.class, Ty, Ty.plain, Ty.array_of, Class, Method}
use Rattle.parser.specs.Stream.{token_at, no_more, kind_at, start_at}
use Rattle.parser.specs.promises.Post.{kind_in_table}
use Rattle.reader.specs.promises.Matches.{NameIs, ElementMatches}
use Rattle.reader.specs.laws.ReadingLaws.{tokens-in}
use Rattle.typesystem.specs.ClassTable.{class_named, same_type}
use Rattle.base.specs.laws.Tests.{same_of, apart-same}
use Rattle.typing.specs.laws.Tests.{same_type-of, apart-same_type}
use Rattle.typing.specs.laws.Chains.{class-name, all-classes}
use Rattle.parser.specs.promises.Layout.{absent}
use Rattle.lookup.specs.promises.HeldClasses.{word_at, Lexemes, NameNumber, MaybeNumber, no_name, a-name, element_code, code, array_mark, no_type, ElementCodes, code-int, code-boolean, code_fixed, code-class, Codes, code-plain, code-array, MethodHeld, MethodsHeld, no-methods, more-methods, ClassHeld, ClassesHeld, no-classes, more-classes, row_class, ClassTableHeld, class_of, number_of_fixed}

-- a list that stands in a row, and not past the last, has a member
pub none_left : {A : Type 0} (first : List A → ℕ) → first [] ≡ absent → (xs : List A) {row left : ℕ} → first xs ≡ row → length xs ≤ left
    → row < absent → left ≡ 0 → ⊥
none_left first e [] at few near z = omega (arith, e, at)
none_left first e (x ∷ xs) at few near z = omega arith

-- WORDS

pub word_in : (tab : List ℕ) (k row : ℕ) {v : ℕ} → row < absent → col tab k row ≡ v → word_at tab k row ≡ v
unfolding word_at
word_in tab k row h e = rw (lt-ltb row absent h) e

pub word_out : (tab : List ℕ) (k row : ℕ) → absent ≤ row → word_at tab k row ≡ absent
unfolding word_at
word_out tab k row h = rw (le-ltb row absent h)

-- the kind of a name is none of the other tokens'
pub name-kind : (k q : ℕ) → is_name_lem k ≡ true → is_name_lem q ≡ false → k ≡ q → ⊥
name-kind k q e n z = true≢false (sym e ∙ ap is_name_lem z ∙ n)

module _ {tab : List ℕ} {n : ℕ} {ts : List Token} (lx : Lexemes tab n ts) where
  pub kinds : (i : ℕ) → kind_in_table tab n i ≡ kind_at ts i
  kinds i = subst (λ (m : ℕ). kind_in_table tab m i ≡ kind_at ts i) lx.count ((tokens-in tab ts lx.rows).kinds i)

  pub start_word : (i : ℕ) → i < length ts → word_at tab c_start i ≡ start_at ts i
  start_word i h = word_in tab c_start i (omega (arith, lx.count, lx.few)) ((tokens-in tab ts lx.rows).starts i h)

  -- the number of a name stands in `c_number`
  pub spelt : (i : ℕ) {x : List ℕ} → NameIs ts i x → NameNumber ts x (col tab c_number i)
  spelt i {x} m =
      let g = get-get_d ts i no_more m.there in
      let number : col tab c_number i ≡ first_named ts x = (lx.rows i (token_at ts i) g).name m.named ∙ ap (first_named ts) m.spelt in
      let least = first-least ts i x (record { item = token_at ts i; at = g; named = m.named; text = m.spelt }) in
      record { first = sym number; there = omega (arith, number, least, m.there) }

  pub name-word : (i : ℕ) {x : List ℕ} → NameIs ts i x → NameNumber ts x (word_at tab c_number i)
  name-word i {x} m =
      subst (NameNumber ts x) (sym (word_in tab c_number i (omega (arith, lx.count, lx.few, m.there)) refl)) (spelt i m)

  -- a row of a token is a row
  pub row-there : (i : ℕ) → i < length ts → i < absent
  row-there i h = omega (arith, lx.count, lx.few)

-- NUMBERS

-- two names have one number just where they are one
pub one_name : {ts : List Token} {x y : List ℕ} {i j : ℕ} → NameNumber ts x i → NameNumber ts y j → i ≡ j → x ≡ y
one_name {ts} {x} {y} {i} {j} p q e =
    let a = first-named ts x (omega (arith, p.first, p.there)) in
    let b = first-named ts y (omega (arith, q.first, q.there)) in
    let z : first_named ts x ≡ first_named ts y = p.first ∙ e ∙ sym q.first in
    let w : a.item ≡ b.item = some-injective a.item b.item (sym a.at ∙ ap (get_elem? ts) z ∙ b.at) in
    sym a.text ∙ ap (λ (t : Token). t.text) w ∙ b.text

pub same_names : {ts : List Token} {x y : List ℕ} {i j : ℕ} → NameNumber ts x i → NameNumber ts y j → i ≡ j → same x y ≡ true
same_names p q e = same_of (one_name p q e)

pub other-names : {ts : List Token} {x y : List ℕ} {i j : ℕ} → NameNumber ts x i → NameNumber ts y j → (i ≡ j → ⊥) → same x y ≡ false
other-names {ts} {x} {y} p q n = apart-same x y λ e. n (sym p.first ∙ ap (first_named ts) e ∙ q.first)

-- CLASSES

pub all-stand : {tab : List ℕ} {n : ℕ} {ts : List Token} {G : List Class} → ClassesHeld tab n ts G → All (ClassHeld tab n ts) G
all-stand no-classes = all_nil
all-stand (more-classes s e h) = all_cons s (all-stand h)

pub methods-stand : {tab : List ℕ} {n : ℕ} {ts : List Token} {ms : List Method} → MethodsHeld tab n ts ms → All (MethodHeld tab n ts) ms
methods-stand no-methods = all_nil
methods-stand (more-methods s e h) = all_cons s (methods-stand h)

-- the number of a class's name
pub spelt-class : {tab : List ℕ} {n : ℕ} {ts : List Token} → Lexemes tab n ts → (k : Class) → ClassHeld tab n ts k
    → NameNumber ts k.name.text (col tab c_number k.name.row)
spelt-class lx k s = spelt lx k.name.row s.named.token

-- what the index leads to from a name, or from none
pub data ClassAt (tab : List ℕ) (n : ℕ) (ts : List Token) (G : List Class) (name : Option (List ℕ)) (c : ℕ) (row : ℕ) : Type 0 where
  no-class : class_of G name ≡ none → absent ≤ row → ClassAt tab n ts G name c row
  a-class : (k : Class) → class_of G name ≡ some k → k.name.row ≡ row → row < absent → ClassHeld tab n ts k
      → NameNumber ts k.name.text c → ClassAt tab n ts G name c row

module _ {tab : List ℕ} {n : ℕ} {ts : List Token} {G : List Class} (w : ClassTableHeld tab n ts G) where
  found : (c : List ℕ) (number row : ℕ) (o : Option Class) → NameNumber ts c number → class_named G c ≡ o → row ≡ row_class o
      → ClassAt tab n ts G (some c) number row
  found c number row none s e r = no-class e (omega (arith, r))
  found c number row (some k) s e r =
      let h = all-classes c (all-stand w.classes) e in
      let there = row-there w.tokens k.name.row h.named.token.there in
      a-class k e (sym r) (omega (arith, r, there)) h (subst (λ (x : List ℕ). NameNumber ts x number) (sym (class-name G c e)) s)

  pub class-at : (name : Option (List ℕ)) (c row : ℕ) → MaybeNumber ts name c → row ≡ word_at tab c_class c → ClassAt tab n ts G name c row
  class-at none c row (no_name h) e = no-class refl (omega (arith, e, word_out tab c_class c h))
  class-at (some x) c row (a-name s) e =
      found x c row (class_named G x) s refl
      (e ∙ word_in tab c_class c (row-there w.tokens c s.there) (w.index x c s))

-- TYPES

-- the token of an element type is there
pub element-there : (ts : List Token) (i : ℕ) (t : Element) → ElementMatches ts i t → i < length ts
unfolding ElementMatches
element-there ts i int m = m.there
element-there ts i boolean m = m.there
element-there ts i fixed m = m.there
element-there ts i (class c) m = m.there

-- the number of an element type is at most that of fixed, which is below the mark for array
pub element-below : {ts : List Token} {t : Element} {w : ℕ} → length ts ≤ tokens_most → ElementCodes ts t w → w ≤ number_of_fixed
element-below few (code-int e) = omega arith
element-below few (code-boolean e) = omega arith
element-below few (code_fixed e) = omega arith
element-below few (code-class s) = omega (arith, s.there)

-- two types have one number just where they are one
module _ {tab : List ℕ} {n : ℕ} {ts : List Token} (lx : Lexemes tab n ts) where
  few-tokens : length ts ≤ tokens_most
  few-tokens = omega (arith, lx.count, lx.few)

  equal-elements : {s t : Element} {v w : ℕ} → ElementCodes ts s v → ElementCodes ts t w → v ≡ w → s ≡ t
  equal-elements (code-int p) (code-int q) e = refl
  equal-elements (code-int p) (code-boolean q) e = absurd (omega arith)
  equal-elements (code-int p) (code_fixed q) e = absurd (omega arith)
  equal-elements (code-int p) (code-class q) e = absurd (omega (arith, q.there, few-tokens))
  equal-elements (code-boolean p) (code-int q) e = absurd (omega arith)
  equal-elements (code-boolean p) (code-boolean q) e = refl
  equal-elements (code-boolean p) (code_fixed q) e = absurd (omega arith)
  equal-elements (code-boolean p) (code-class q) e = absurd (omega (arith, q.there, few-tokens))
  equal-elements (code_fixed p) (code-int q) e = absurd (omega arith)
  equal-elements (code_fixed p) (code-boolean q) e = absurd (omega arith)
  equal-elements (code_fixed p) (code_fixed q) e = refl
  equal-elements (code_fixed p) (code-class q) e = absurd (omega (arith, q.there, few-tokens))
  equal-elements (code-class p) (code-int q) e = absurd (omega (arith, p.there, few-tokens))
  equal-elements (code-class p) (code-boolean q) e = absurd (omega (arith, p.there, few-tokens))
  equal-elements (code-class p) (code_fixed q) e = absurd (omega (arith, p.there, few-tokens))
  equal-elements (code-class p) (code-class q) e = ap class (one_name p q e)

  pub equal-codes : {s t : Ty} {v w : ℕ} → Codes ts s v → Codes ts t w → v ≡ w → s ≡ t
  equal-codes (code-plain c) (code-plain d) e = ap plain (equal-elements c d e)
  equal-codes (code-plain c) (code-array d q) e = absurd (omega (arith, element-below few-tokens c))
  equal-codes (code-array c p) (code-plain d) e = absurd (omega (arith, element-below few-tokens d))
  equal-codes (code-array c p) (code-array d q) e = ap array_of (equal-elements c d (omega arith))

  pub same_codes : {s t : Ty} {v w : ℕ} → Codes ts s v → Codes ts t w → v ≡ w → same_type s t ≡ true
  same_codes c d e = same_type-of (equal-codes c d e)

  -- a type has one number
  one_code : {s t : Ty} {v w : ℕ} → Codes ts s v → Codes ts t w → s ≡ t → v ≡ w
  one_code {s} {t} {v} {w} c d e = number c ∙ ap (code ts) e ∙ sym (number d)
    where
      element : {u : Element} {x : ℕ} → ElementCodes ts u x → x ≡ element_code ts u
      element (code-int q) = q
      element (code-boolean q) = q
      element (code_fixed q) = q
      element (code-class q) = sym q.first

      number : {u : Ty} {x : ℕ} → Codes ts u x → x ≡ code ts u
      number (code-plain c) = element c
      number (code-array c q) = q ∙ ap (λ (i : ℕ). i + array_mark) (element c)

  pub other-codes : {s t : Ty} {v w : ℕ} → Codes ts s v → Codes ts t w → (v ≡ w → ⊥) → same_type s t ≡ false
  other-codes {s} {t} c d n = apart-same_type s t λ e. n (one_code c d e)

-- the number of a type is below that of none
pub codes-below : {ts : List Token} {t : Ty} {w : ℕ} → length ts ≤ tokens_most → Codes ts t w → w < no_type
codes-below few (code-plain c) = omega (arith, element-below few c)
codes-below few (code-array c e) = omega (arith, element-below few c)
