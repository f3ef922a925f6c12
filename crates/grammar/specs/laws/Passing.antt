-- What it is for a parser to do what the machine does with some symbols: `Passes ts xs ys i Q r` says that r, an answer from token i on,
-- is not `out`; that where it is `ok a j` the machine comes from the symbols xs to the symbols ys at j, and Q holds of a and j; and that
-- where it is `bad k` the machine stops at k. `PassesOver` is the case where no symbol is left. There is one rule for each way to build a
-- parser.
use Rattle.std.specs.Prelude.{ℕ, ◌+◌, ◌≤◌, ◌<◌, ◌≡◌, List, [], ◌∷◌, ◌++◌, Bool, ◌&&◌, ◌||◌, length}
use Rattle.std.proofs.Math.Path.{refl}
use Rattle.std.proofs.Common.{sym, ap, ◌∙◌, subst, append_assoc, arith}
use Rattle.std.proofs.Math.Bool.{true, false}
use Rattle.std.proofs.Math.Option.{Option, none, some}
use Rattle.std.proofs.Math.Decide.{dec_lt}
use borrow.Author.Tests.{eqb-true, eq-eqb}
use Rattle.std.proofs.Math.Dec.{eqb}
use Rattle.std.proofs.Math.ListN.{get_or-eq_default}
use Rattle.base.specs.Choice.{if◌then◌otherwise◌, option}
use Rattle.lexer.specs.Tokens.{Token}
use Rattle.lexer.specs.Kinds.{k_end, k_boolean, k_fixed, k_if, k_int, k_port, k_system, k_while, k_open_brace, is_name_lem}
pub use Rattle.lexer.proofs.laws.ItemLaws.{kinds-apart}
use Rattle.parser.specs.Stream.{no_more, token_at, kind_at, Level, operator_of}
use Rattle.parser.specs.Tree.{Operator, Element, Element.int, Element.boolean, Element.class}
use Rattle.parser.specs.Parse.{Parsed, ok, bad, bind, expect, expect_name, element_type_lem, begins_type_lem}
use Rattle.parser.specs.Grammar.{DerivesElement, an_int, a-boolean, a-class}
use Rattle.grammar.specs.laws.Recogniser.{Symbol, one, a_name, an_element, an_operator, Move, shift, push, refuse, rule, Halt, stopped}
use Rattle.grammar.specs.laws.Recogniser.{is_element, RunsTo, shifts, pushes, refuses}

-- a token that passes a test which none past the end passes is there
pub seen : (ts : List Token) (i : ℕ) (test : ℕ → Bool) → test k_end ≡ false → test (kind_at ts i) ≡ true → i < length ts
seen ts i test no_end e =
    elim (dec_lt i (length ts)) [
      | yes h ↦ h
      | no h ↦
          let past = ap (λ (t : Token). test t.kind) (get_or-eq_default ts no_more {n = i} (omega arith)) in
          let z : false ≡ true = sym no_end ∙ sym past ∙ e in
          let z₂ : ◌≡◌ {A = ℕ} 0 1 = cc in absurd (omega arith)
    ]

pub seen-kind : (ts : List Token) (i q : ℕ) → eqb k_end q ≡ false → kind_at ts i ≡ q → i < length ts
seen-kind ts i q no_end e = seen ts i (λ k. eqb k q) no_end (eq-eqb (kind_at ts i) q e)

-- a name is none of the other tokens that begin a statement or a type
pub no-keyword : (k : ℕ) → is_name_lem k ≡ true
    → (eqb k k_open_brace ≡ false) × (eqb k k_if ≡ false) × (eqb k k_while ≡ false) × (eqb k k_system ≡ false) × (eqb k k_port ≡ false)
unfolding is_name_lem
no-keyword k e = (
  kinds-apart is_name_lem k k_open_brace e refl,
  kinds-apart is_name_lem k k_if e refl,
  kinds-apart is_name_lem k k_while e refl,
  kinds-apart is_name_lem k k_system e refl,
  kinds-apart is_name_lem k k_port e refl,
)

pub no-basic-type : (k : ℕ) → is_name_lem k ≡ true → (eqb k k_int ≡ false) × (eqb k k_boolean ≡ false) × (eqb k k_fixed ≡ false)
unfolding is_name_lem
no-basic-type k e = (kinds-apart is_name_lem k k_int e refl, kinds-apart is_name_lem k k_boolean e refl, kinds-apart is_name_lem k k_fixed e refl)

-- an element type is found where the grammar derives one, and there alone
pub element-found : {ts : List Token} {i : ℕ} {t : Element} → DerivesElement ts i t → element_type_lem ts i ≡ some t
unfolding element_type_lem is_name_lem
element-found (an_int e) = rw e
element-found (a-boolean e) = rw e
element-found {ts} (a-class {i = i} e) = let n = no-basic-type (kind_at ts i) e in rw (n.0, n.1, e)

pub element-begins : {ts : List Token} {i : ℕ} {t : Element} → DerivesElement ts i t → begins_type_lem (kind_at ts i) true ≡ true
unfolding begins_type_lem is_name_lem
element-begins (an_int e) = rw e
element-begins (a-boolean e) = rw e
element-begins {ts} (a-class {i = i} e) = let n = no-basic-type (kind_at ts i) e in rw (n.0, n.1, n.2, e)

element-is : {ts : List Token} {i : ℕ} {t : Element} → DerivesElement ts i t → is_element (kind_at ts i) ≡ true
unfolding is_name_lem
element-is (an_int e) = rw e
element-is (a-boolean e) = rw e
element-is {ts} (a-class {i = i} e) = let n = no-basic-type (kind_at ts i) e in rw (n.0, n.1, e)

-- no array holds `fixed`
pub element-not-fixed : {ts : List Token} {i : ℕ} {t : Element} → DerivesElement ts i t → eqb (kind_at ts i) k_fixed ≡ false
element-not-fixed (an_int e) = rw e
element-not-fixed (a-boolean e) = rw e
element-not-fixed {ts} (a-class {i = i} e) = (no-basic-type (kind_at ts i) e).2

data ElementHere (ts : List Token) (i : ℕ) : Option Element → Type 0 where
  an-element : {t : Element} → DerivesElement ts i t → ElementHere ts i (some t)
  no-element : is_element (kind_at ts i) ≡ false → ElementHere ts i none

element-here : (ts : List Token) (i : ℕ) → ElementHere ts i (element_type_lem ts i)
unfolding element_type_lem
element-here ts i = go (eqb (kind_at ts i) k_int) (eqb (kind_at ts i) k_boolean) (is_name_lem (kind_at ts i)) refl refl refl
  where
    go : (a b c : Bool) → eqb (kind_at ts i) k_int ≡ a → eqb (kind_at ts i) k_boolean ≡ b → is_name_lem (kind_at ts i) ≡ c
        → ElementHere ts i (if a then (λ _. some int) otherwise λ _. if b then (λ _. some boolean) otherwise λ _.
        if c then (λ _. some (class (token_at ts i).text)) otherwise λ _. none)
    go true b c p q r = an-element (an_int (eqb-true (kind_at ts i) k_int p))
    go false true c p q r = an-element (a-boolean (eqb-true (kind_at ts i) k_boolean q))
    go false false true p q r = an-element (a-class r)
    go false false false p q r = no-element (rw (p, q, r))

abbrev pub is_operator_of : Level → ℕ → Bool
is_operator_of L k = option (operator_of L k) false λ o. true

-- neither of two tests passes
pub or_left : (a b : Bool) → (a || b) ≡ false → a ≡ false
or_left true b e = e
or_left false b e = refl

pub or_right : (a b : Bool) → (a || b) ≡ false → b ≡ false
or_right true b e = let z : ◌≡◌ {A = ℕ} 0 1 = cc in absurd (omega arith)
or_right false b e = e

pub data Passes (ts : List Token) {A : Type 0} (xs ys : List Symbol) (i : ℕ) (Q : A → ℕ → Type 0) : Parsed A → Type 0 where
  passes-ok : {a : A} {j : ℕ} → i ≤ j → ((S : List Symbol) (e : Halt) → RunsTo ts (ys ++ S) j e → RunsTo ts (xs ++ S) i e) → Q a j
      → Passes ts xs ys i Q (ok a j)
  passes-bad : {k : ℕ} → ((S : List Symbol) → RunsTo ts (xs ++ S) i (stopped k)) → Passes ts xs ys i Q (bad k)

abbrev pub PassesOver : (ts : List Token) {A : Type 0} → List Symbol → ℕ → (A → ℕ → Type 0) → Parsed A → Type 0
PassesOver ts xs i Q r = Passes ts xs [] i Q r

-- the same for the machine's move at token i
pub data Moves (ts : List Token) {A : Type 0} (ys : List Symbol) (i : ℕ) (Q : A → ℕ → Type 0) : Move → Parsed A → Type 0 where
  pushed : {xs : List Symbol} {r : Parsed A} → Passes ts xs ys i Q r → Moves ts ys i Q (push xs) r
  refused : Moves ts ys i Q refuse (bad i)

one_passes : (q k : ℕ) → k ≡ q → rule (one q) k ≡ shift
unfolding rule
one_passes q k e = rw (eq-eqb k q e)

module _ {ts : List Token} {A : Type 0} {Q : A → ℕ → Type 0} {ys : List Symbol} where
  pub accept : {i : ℕ} {a : A} → Q a i → Passes ts ys ys i Q (ok a i)
  accept {i} q = passes-ok {j = i} (omega arith) (λ S e h. h) q

  -- the topmost symbol is replaced
  pub pushed-by : {x : Symbol} {xs : List Symbol} {i : ℕ} {r : Parsed A} → rule x (kind_at ts i) ≡ push xs → Passes ts xs ys i Q r
      → Passes ts (x ∷ []) ys i Q r
  pushed-by e (passes-ok le go q) = passes-ok le (λ S d h. pushes e (go S d h)) q
  pushed-by e (passes-bad go) = passes-bad (λ S. pushes e (go S))

  pub looks : (x : Symbol) (i : ℕ) {r : Parsed A} → Moves ts ys i Q (rule x (kind_at ts i)) r → Passes ts (x ∷ []) ys i Q r
  looks x i h = go refl h
    where
      go : {m : Move} {r : Parsed A} → rule x (kind_at ts i) ≡ m → Moves ts ys i Q m r → Passes ts (x ∷ []) ys i Q r
      go e (pushed g) = pushed-by e g
      go e refused = passes-bad (λ S. refuses e)

  -- a token is passed
  shifted : {x : Symbol} {xs : List Symbol} {i : ℕ} {r : Parsed A} → rule x (kind_at ts i) ≡ shift → Passes ts xs ys (i + 1) Q r
      → Passes ts (x ∷ xs) ys i Q r
  shifted e (passes-ok {j = j} le go q) = passes-ok {j = j} (omega arith) (λ S d h. shifts e (go S d h)) q
  shifted e (passes-bad go) = passes-bad (λ S. shifts e (go S))

  -- one parser after another; the symbols ws are what the first leaves of zs
  bound : {B : Type 0} {P : B → ℕ → Type 0} (zs ws xs : List Symbol) {i : ℕ} {r : Parsed B} (g : B → ℕ → Parsed A)
      → Passes ts zs ws i P r → ((b : B) (j : ℕ) → i ≤ j → P b j → Passes ts (ws ++ xs) ys j Q (g b j))
      → Passes ts (zs ++ xs) ys i Q (bind r g)
  bound zs ws xs {i = i} g (passes-ok {a = b} {j = j} le go p) h = after (h b j le p)
    where
      after : {r : Parsed A} → Passes ts (ws ++ xs) ys j Q r → Passes ts (zs ++ xs) ys i Q r
      after (passes-ok {j = n} le₂ go₂ q) =
          passes-ok {j = n} (omega arith) (λ S d t. rw append_assoc (go (xs ++ S) d (rw append_assoc at (go₂ S d t)))) q
      after (passes-bad {k = k} go₂) = passes-bad {k = k} (λ S. rw append_assoc (go (xs ++ S) (stopped k) (rw append_assoc at (go₂ S))))
  bound zs ws xs g (passes-bad {k = k} go) h = passes-bad {k = k} (λ S. rw append_assoc (go (xs ++ S)))

  pub binds-all : {B : Type 0} {P : B → ℕ → Type 0} (zs : List Symbol) {xs : List Symbol} {i : ℕ} {r : Parsed B} (g : B → ℕ → Parsed A)
      → PassesOver ts zs i P r → ((b : B) (j : ℕ) → i ≤ j → P b j → Passes ts xs ys j Q (g b j)) → Passes ts (zs ++ xs) ys i Q (bind r g)
  binds-all zs {xs = xs} g h k = bound zs [] xs g h k

  pub binds : {B : Type 0} {P : B → ℕ → Type 0} {x : Symbol} {xs : List Symbol} {i : ℕ} {r : Parsed B} (g : B → ℕ → Parsed A)
      → PassesOver ts (x ∷ []) i P r → ((b : B) (j : ℕ) → i ≤ j → P b j → Passes ts xs ys j Q (g b j))
      → Passes ts (x ∷ xs) ys i Q (bind r g)
  binds {x = x} g h k = binds-all (x ∷ []) g h k

  -- the first leaves its symbol where it is
  pub binds-again : {B : Type 0} {P : B → ℕ → Type 0} {x : Symbol} {xs : List Symbol} {i : ℕ} {r : Parsed B} (g : B → ℕ → Parsed A)
      → Passes ts (x ∷ []) (x ∷ []) i P r → ((b : B) (j : ℕ) → i ≤ j → P b j → Passes ts (x ∷ xs) ys j Q (g b j))
      → Passes ts (x ∷ xs) ys i Q (bind r g)
  binds-again {x = x} {xs = xs} g h k = bound (x ∷ []) (x ∷ []) xs g h k

  -- the same place, written otherwise
  pub moved : {xs : List Symbol} {i : ℕ} (j : ℕ) {r : Parsed A} → j ≡ i → Passes ts xs ys j Q r → Passes ts xs ys i Q r
  moved {xs} j {r} e h = subst (λ (i : ℕ). Passes ts xs ys i Q r) e h

  pub gives : {P : A → ℕ → Type 0} {xs : List Symbol} {i : ℕ} {r : Parsed A} → Passes ts xs ys i P r
      → ((a : A) (j : ℕ) → i ≤ j → P a j → Q a j) → Passes ts xs ys i Q r
  gives (passes-ok {a = a} {j = j} le go p) f = passes-ok le go (f a j le p)
  gives (passes-bad go) f = passes-bad go

  -- the parser and the machine make the same test
  pub tests : (b : Bool) (i : ℕ) (m n : Unit {0} → Move) (r s : Unit {0} → Parsed A)
      → (b ≡ true → Moves ts ys i Q (m tt) (r tt)) → (b ≡ false → Moves ts ys i Q (n tt) (s tt))
      → Moves ts ys i Q (if b then m otherwise n) (if b then r otherwise s)
  tests true i m n r s f g = f refl
  tests false i m n r s f g = g refl

  pub tests-kind : (q i : ℕ) (m n : Unit {0} → Move) (r s : Unit {0} → Parsed A) → (kind_at ts i ≡ q → Moves ts ys i Q (m tt) (r tt))
      → (eqb (kind_at ts i) q ≡ false → Moves ts ys i Q (n tt) (s tt))
      → Moves ts ys i Q (if eqb (kind_at ts i) q then m otherwise n) (if eqb (kind_at ts i) q then r otherwise s)
  tests-kind q i m n r s f g = tests (eqb (kind_at ts i) q) i m n r s (λ e. f (eqb-true (kind_at ts i) q e)) g

  -- the parser looks at a second token, and the machine leaves it to its next symbol
  tests-first : (b c : Bool) (i : ℕ) (m n : Unit {0} → Move) (r s : Unit {0} → Parsed A)
      → (b ≡ true → Moves ts ys i Q (m tt) (if c then r otherwise s)) → (b ≡ false → Moves ts ys i Q (n tt) (s tt))
      → Moves ts ys i Q (if b then m otherwise n) (if b && c then r otherwise s)
  tests-first true true i m n r s f g = f refl
  tests-first true false i m n r s f g = f refl
  tests-first false c i m n r s f g = g refl

  pub tests-next : (q : ℕ) (c : Bool) (i : ℕ) (m n : Unit {0} → Move) (r s : Unit {0} → Parsed A)
      → (kind_at ts i ≡ q → Moves ts ys i Q (m tt) (if c then r otherwise s)) → (eqb (kind_at ts i) q ≡ false → Moves ts ys i Q (n tt) (s tt))
      → Moves ts ys i Q (if eqb (kind_at ts i) q then m otherwise n) (if eqb (kind_at ts i) q && c then r otherwise s)
  tests-next q c i m n r s f g = tests-first (eqb (kind_at ts i) q) c i m n r s (λ e. f (eqb-true (kind_at ts i) q e)) g

  -- the parser asks whether either of two tests passes, and the machine leaves the second to its next symbol
  pub tests-either : (b c : Bool) (i : ℕ) (m n : Unit {0} → Move) (r s : Unit {0} → Parsed A)
      → (b ≡ true → Moves ts ys i Q (m tt) (r tt)) → (b ≡ false → Moves ts ys i Q (n tt) (if c then r otherwise s))
      → Moves ts ys i Q (if b then m otherwise n) (if b || c then r otherwise s)
  tests-either true c i m n r s f g = f refl
  tests-either false c i m n r s f g = g refl

  -- `tests-next` where the parser makes the first test again
  pub tests-again : (q : ℕ) (c : Bool) (i : ℕ) (m n : Unit {0} → Move) (r s t : Unit {0} → Parsed A)
      → (kind_at ts i ≡ q → Moves ts ys i Q (m tt) (if c then r otherwise s)) → (eqb (kind_at ts i) q ≡ false → Moves ts ys i Q (n tt) (t tt))
      → Moves ts ys i Q (if eqb (kind_at ts i) q then m otherwise n) (if eqb (kind_at ts i) q && c then r otherwise λ _. if eqb (kind_at ts i) q then s otherwise t)
  tests-again q c i m n r s t f g =
      tests-next q c i m n r (λ _. if eqb (kind_at ts i) q then s otherwise t) (λ e. rw (eq-eqb (kind_at ts i) q e) (f e)) λ e. rw e (g e)

  -- a token of a kind that is known
  pub takes : {xs : List Symbol} {i : ℕ} (q : ℕ) {r : Parsed A} → kind_at ts i ≡ q → Passes ts xs ys (i + 1) Q r
      → Passes ts (one q ∷ xs) ys i Q r
  takes {i = i} q e h = shifted (one_passes q (kind_at ts i) e) h

  pub takes-name : {xs : List Symbol} {i : ℕ} {r : Parsed A} → is_name_lem (kind_at ts i) ≡ true → Passes ts xs ys (i + 1) Q r
      → Passes ts (a_name ∷ xs) ys i Q r
  unfolding rule
  takes-name e h = shifted (rw e) h

  pub takes-operator : {xs : List Symbol} (L : Level) {i : ℕ} {o : Operator} {r : Parsed A} → operator_of L (kind_at ts i) ≡ some o
      → Passes ts xs ys (i + 1) Q r → Passes ts (an_operator L ∷ xs) ys i Q r
  unfolding rule
  takes-operator L e h = shifted (rw e) h

  -- a token that the parser expects
  pub expects : {xs : List Symbol} (q i : ℕ) (r : Parsed A) → (kind_at ts i ≡ q → Passes ts xs ys (i + 1) Q r)
      → Passes ts (one q ∷ xs) ys i Q (expect ts q i λ _. r)
  unfolding rule
  expects {xs} q i r f = go (eqb (kind_at ts i) q) refl
    where
      go : (b : Bool) → eqb (kind_at ts i) q ≡ b → Passes ts (one q ∷ xs) ys i Q (if b then (λ _. r) otherwise λ _. bad i)
      go true e = let e' = eqb-true (kind_at ts i) q e in takes q e' (f e')
      go false e = passes-bad (λ S. refuses {x = one q} {i = i} (rw e))

  pub expects-name : {xs : List Symbol} (i : ℕ) (r : Parsed A) → (is_name_lem (kind_at ts i) ≡ true → Passes ts xs ys (i + 1) Q r)
      → Passes ts (a_name ∷ xs) ys i Q (expect_name ts i λ _. r)
  unfolding rule
  expects-name {xs} i r f = go (is_name_lem (kind_at ts i)) refl
    where
      go : (b : Bool) → is_name_lem (kind_at ts i) ≡ b → Passes ts (a_name ∷ xs) ys i Q (if b then (λ _. r) otherwise λ _. bad i)
      go true e = takes-name e (f e)
      go false e = passes-bad (λ S. refuses {x = a_name} {i = i} (rw e))

  -- an element type that the parser expects
  pub expects-element : {xs : List Symbol} (i : ℕ) (r : Element → Parsed A)
      → ((t : Element) → DerivesElement ts i t → Passes ts xs ys (i + 1) Q (r t))
      → Passes ts (an_element ∷ xs) ys i Q (option (element_type_lem ts i) (bad i) r)
  unfolding rule
  expects-element {xs} i r f = go (element-here ts i)
    where
      go : {o : Option Element} → ElementHere ts i o → Passes ts (an_element ∷ xs) ys i Q (option o (bad i) r)
      go (an-element {t = t} d) = shifted (rw (element-is d)) (f t d)
      go (no-element n) = passes-bad (λ S. refuses {x = an_element} {i = i} (rw n))

-- a form of one token
pub single : {ts : List Token} {A : Type 0} {Q : A → ℕ → Type 0} {a : A} (q i : ℕ) → (kind_at ts i ≡ q → Q a (i + 1)) → kind_at ts i ≡ q
    → Moves ts [] i Q (push (one q ∷ [])) (ok a (i + 1))
single q i f e = pushed (takes q e (accept (f e)))
