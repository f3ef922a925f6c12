-- Where the machine stops at token k, the first k tokens begin a list that it accepts: each symbol has a word that it passes, and the
-- words of the symbols that are on the stack when token k is reached complete the list.
use Rattle.std.specs.Prelude.{ℕ, ◌+◌, ◌≤◌, ◌<◌, ◌≡◌, Bool, true, false, ◌&&◌, ◌||◌, not, eqb, length, take}
use Rattle.std.proofs.Math.Path.{refl, ap}
use Rattle.std.proofs.Common.{sym, ◌∙◌, subst, arith, length-append, get_or-take, length-take-le, take_at}
use mathlib.Core.List.{List, [], ◌∷◌, ◌++◌, append_assoc, map}
use Rattle.std.proofs.Math.Option.{Option, none, some}
use Rattle.std.proofs.Math.Decide.{dec_lt}
use borrow.Author.Tests.{eqb-true, eq-eqb, ne_eqb}
use Rattle.std.proofs.Math.ListN.{get_or-append, get_or-eq_default}
use Rattle.std.proofs.lemmas.List.{get_or_at}
use Rattle.base.specs.Choice.{if◌then◌otherwise◌, option}
use Rattle.base.specs.All.{All, all_nil, all_cons}
use Rattle.lexer.specs.Tokens.{Token}
use Rattle.lexer.specs.Kinds.{k_end, k_name, k_boolean, k_length, k_return, k_and, k_less, k_plus, k_times, k_assign, k_comma, k_semicolon, k_open, k_close}
use Rattle.lexer.specs.Kinds.{k_close_bracket, k_open_brace, k_close_brace, is_name_lem}
use Rattle.parser.specs.Stream.{no_more, kind_at, Level, Level.conjunction, Level.comparison, Level.sum, Level.product, operator_of}
use Rattle.parser.specs.Tree.{Operator}
use Rattle.parser.specs.Parse.{begins_type_lem, begins_statement_lem}
use Rattle.grammar.specs.laws.Recogniser.{Symbol, one, a_name, an_element, an_operator, operation, operations, unary, postfix, after_new}
use Rattle.grammar.specs.laws.Recogniser.{after_class, primary, suffixes, after_dot, argument_list, some_arguments_lem, more_arguments}
use Rattle.grammar.specs.laws.Recogniser.{a_statement, after_name, statement_list, a_type, after_element, fields, locals, after_local}
use Rattle.grammar.specs.laws.Recogniser.{after_mark, formals, some_formals, more_formals, methods, parent, classes}
use Rattle.grammar.specs.laws.Recogniser.{expression, operand_of, is_basic, Move, shift, push, refuse, rule, start_stack, Halt, done}
use Rattle.grammar.specs.laws.Recogniser.{is_element, stopped, index_of, RunsTo, finish, shifts, pushes, refuses, onward}
use Rattle.grammar.specs.laws.Passing.{seen}

-- A WORD FOR EACH SYMBOL

abbrev word : Symbol → List ℕ
word (one q) = q ∷ []
word a_name = k_name ∷ []
word an_element = k_boolean ∷ []
word (an_operator conjunction) = k_and ∷ []
word (an_operator comparison) = k_less ∷ []
word (an_operator sum) = k_plus ∷ []
word (an_operator product) = k_times ∷ []
word (operation L) = k_name ∷ []
word (operations L) = []
word unary = k_name ∷ []
word postfix = k_name ∷ []
word after_new = k_name ∷ k_open ∷ k_close ∷ []
word after_class = k_open ∷ k_close ∷ []
word primary = k_name ∷ []
word (suffixes b) = []
word after_dot = k_length ∷ []
word argument_list = k_close ∷ []
word some_arguments_lem = k_name ∷ k_close ∷ []
word more_arguments = k_close ∷ []
word a_statement = k_open_brace ∷ k_close_brace ∷ []
word after_name = k_assign ∷ k_name ∷ k_semicolon ∷ []
word statement_list = []
word a_type = k_boolean ∷ []
word after_element = []
word fields = []
word locals = []
word after_local = k_assign ∷ k_name ∷ k_semicolon ∷ []
word after_mark = k_close_bracket ∷ k_name ∷ k_semicolon ∷ []
word formals = k_close ∷ []
word some_formals = k_boolean ∷ k_name ∷ k_close ∷ []
word more_formals = k_close ∷ []
word methods = []
word parent = []
word classes = []

abbrev words : List Symbol → List ℕ
words [] = []
words (x ∷ S) = word x ++ words S

abbrev first : List ℕ → ℕ
first [] = k_end
first (q ∷ w) = q

-- the kinds of token that end an expression, and a list of statements
closes : ℕ → Bool
closes k = eqb k k_close || eqb k k_close_bracket || eqb k k_semicolon || eqb k k_comma

ends : ℕ → Bool
ends k = eqb k k_close_brace || eqb k k_return

-- the kinds of token of which one is to follow a symbol's word
abbrev follow : Symbol → ℕ → Bool
follow (one q) k = not (eqb q k_end)
follow a_name k = true
follow an_element k = true
follow (an_operator L) k = true
follow (operation L) k = closes k
follow (operations L) k = closes k
follow unary k = closes k
follow postfix k = closes k
follow after_new k = closes k
follow after_class k = closes k
follow primary k = true
follow (suffixes b) k = closes k
follow after_dot k = closes k
follow argument_list k = true
follow some_arguments_lem k = true
follow more_arguments k = true
follow a_statement k = true
follow after_name k = true
follow statement_list k = ends k
follow a_type k = eqb k k_name
follow after_element k = eqb k k_name
follow fields k = eqb k k_close_brace
follow locals k = ends k
follow after_local k = ends k
follow after_mark k = ends k
follow formals k = true
follow some_formals k = true
follow more_formals k = true
follow methods k = eqb k k_close_brace
follow parent k = eqb k k_open_brace
follow classes k = eqb k k_end

-- THE STACK FITS: after each symbol's word comes a token that may follow it

infixr 20 ◌▹◌
data Fits : List Symbol → Type 0 where
  empty : Fits []
  ◌▹◌ : {x : Symbol} {S : List Symbol} → follow x (first (words S)) ≡ true → Fits S → Fits (x ∷ S)

data Kept (S : List Symbol) : Move → Type 0 where
  kept-shift : Kept S shift
  kept_push : {xs : List Symbol} → Fits (xs ++ S) → Kept S (push xs)
  kept-refuse : Kept S refuse

kept_if : {S : List Symbol} (b : Bool) {m n : Move} → Kept S m → Kept S n → Kept S (if b then (λ _. m) otherwise λ _. n)
kept_if true h g = h
kept_if false h g = g

follow-operand : (L : Level) (k : ℕ) → follow (operand_of L) k ≡ closes k
follow-operand conjunction k = refl
follow-operand comparison k = refl
follow-operand sum k = refl
follow-operand product k = refl

-- what the machine puts on a stack that fits makes one that fits
keeps : (x : Symbol) (k : ℕ) {S : List Symbol} → follow x (first (words S)) ≡ true → Fits S → Kept S (rule x k)
unfolding rule closes ends
keeps (one q) k f h = kept_if (eqb k q) kept-shift kept-refuse
keeps a_name k f h = kept_if (is_name_lem k) kept-shift kept-refuse
keeps an_element k f h = kept_if (is_element k) kept-shift kept-refuse
keeps (an_operator L) k {S} f h = go (operator_of L k)
  where
    go : (o : Option Operator) → Kept S (option o refuse λ o. shift)
    go none = kept-refuse
    go (some o) = kept-shift
keeps (operation L) k f h = kept_push ((follow-operand L _ ∙ f) ▹ f ▹ h)
keeps (operations L) k {S} f h = go (operator_of L k)
  where
    go : (o : Option Operator) → Kept S (option o (push []) λ o. push (an_operator L ∷ operand_of L ∷ operations L ∷ []))
    go none = kept_push h
    go (some o) = kept_push (refl ▹ (follow-operand L _ ∙ f) ▹ f ▹ h)
keeps unary k f h = kept_if (eqb k _) (kept_push (refl ▹ f ▹ h)) (kept_push (f ▹ h))
keeps postfix k f h = kept_if (eqb k _) (kept_push (refl ▹ f ▹ h)) (kept_push (refl ▹ f ▹ h))
keeps after_new k f h = kept_if (is_basic k) (kept_push (refl ▹ refl ▹ refl ▹ refl ▹ f ▹ h)) (kept_push (refl ▹ f ▹ h))
keeps after_class k f h = kept_if (eqb k _) (kept_push (refl ▹ refl ▹ refl ▹ f ▹ h)) (kept_push (refl ▹ refl ▹ f ▹ h))
keeps primary k f h =
    kept_if (eqb k _) (kept_push (refl ▹ h)) (kept_if (eqb k _) (kept_push (refl ▹ h)) (kept_if (eqb k _) (kept_push (refl ▹ h))
    (kept_if (eqb k _) (kept_push (refl ▹ h)) (kept_if (is_name_lem k) (kept_push (refl ▹ h)) (kept_if (eqb k _) (kept_push (refl ▹ h))
    (kept_if (eqb k _) (kept_push (refl ▹ refl ▹ refl ▹ refl ▹ h)) (kept_if (eqb k _) (kept_push (refl ▹ refl ▹ refl ▹ h))
    (kept_if (eqb k _) (kept_push (refl ▹ refl ▹ refl ▹ refl ▹ refl ▹ refl ▹ h)) kept-refuse))))))))
keeps (suffixes b) k f h =
    kept_if (eqb k _ && b) (kept_push (refl ▹ refl ▹ refl ▹ f ▹ h)) (kept_if (eqb k _) kept-refuse (kept_if (eqb k _) (kept_push (refl ▹ f ▹ h)) (kept_push h)))
keeps after_dot k f h = kept_if (eqb k _) (kept_push (refl ▹ f ▹ h)) (kept_push (refl ▹ refl ▹ refl ▹ f ▹ h))
keeps argument_list k f h = kept_if (eqb k _) (kept_push (refl ▹ h)) (kept_push (refl ▹ h))
keeps some_arguments_lem k f h = kept_push (refl ▹ refl ▹ h)
keeps more_arguments k f h = kept_if (eqb k _) (kept_push (refl ▹ h)) (kept_push (refl ▹ refl ▹ h))
keeps a_statement k f h =
    kept_if (eqb k _) (kept_push (refl ▹ refl ▹ refl ▹ h)) (kept_if (eqb k _) (kept_push (refl ▹ refl ▹ refl ▹ refl ▹ refl ▹ refl ▹ refl ▹ h))
    (kept_if (eqb k _) (kept_push (refl ▹ refl ▹ refl ▹ refl ▹ refl ▹ h)) (kept_if (eqb k _) (kept_push (refl ▹ refl ▹ refl ▹ refl ▹ refl ▹ refl ▹ refl ▹ refl ▹ refl ▹ h))
    (kept_if (eqb k _) (kept_push (refl ▹ refl ▹ refl ▹ refl ▹ refl ▹ refl ▹ refl ▹ refl ▹ refl ▹ h)) (kept_if (is_name_lem k) (kept_push (refl ▹ refl ▹ h)) kept-refuse)))))
keeps after_name k f h = kept_if (eqb k _) (kept_push (refl ▹ refl ▹ refl ▹ refl ▹ refl ▹ refl ▹ h)) (kept_push (refl ▹ refl ▹ refl ▹ h))
keeps statement_list k f h = kept_if (begins_statement_lem k) (kept_push (refl ▹ f ▹ h)) (kept_push h)
keeps a_type k f h = kept_if (eqb k _) (kept_push (refl ▹ h)) (kept_push (refl ▹ f ▹ h))
keeps after_element k f h = kept_if (eqb k _) (kept_push (refl ▹ refl ▹ h)) (kept_push h)
keeps fields k f h = kept_if (begins_type_lem k true) (kept_push (refl ▹ refl ▹ refl ▹ f ▹ h)) (kept_push h)
keeps locals k f h =
    kept_if (is_basic k) (kept_push (refl ▹ refl ▹ refl ▹ f ▹ h)) (kept_if (is_name_lem k) (kept_push (refl ▹ f ▹ h)) (kept_push (f ▹ h)))
keeps after_local k f h =
    kept_if (is_name_lem k) (kept_push (refl ▹ refl ▹ f ▹ h)) (kept_if (eqb k _) (kept_push (refl ▹ f ▹ h)) (kept_push (refl ▹ f ▹ h)))
keeps after_mark k f h =
    kept_if (eqb k _) (kept_push (refl ▹ refl ▹ refl ▹ f ▹ h)) (kept_push (refl ▹ refl ▹ refl ▹ refl ▹ refl ▹ f ▹ h))
keeps formals k f h = kept_if (eqb k _) (kept_push (refl ▹ h)) (kept_push (refl ▹ h))
keeps some_formals k f h = kept_push (refl ▹ refl ▹ refl ▹ h)
keeps more_formals k f h = kept_if (eqb k _) (kept_push (refl ▹ h)) (kept_push (refl ▹ refl ▹ h))
keeps methods k f h =
    kept_if (eqb k _) (kept_push (refl ▹ refl ▹ refl ▹ refl ▹ refl ▹ refl ▹ refl ▹ refl ▹ refl ▹ refl ▹ refl ▹ f ▹ h)) (kept_push h)
keeps parent k f h = kept_if (eqb k _) (kept_push (refl ▹ refl ▹ h)) (kept_push h)
keeps classes k f h = kept_if (eqb k _) (kept_push h) (kept_push (refl ▹ refl ▹ refl ▹ refl ▹ refl ▹ refl ▹ refl ▹ f ▹ h))

-- THE WORDS ARE ACCEPTED

-- the tokens from number i on are of these kinds, and no more follow
abbrev KindsFrom : List Token → ℕ → List ℕ → Type 0
KindsFrom us i [] = i ≡ length us
KindsFrom us i (q ∷ w) = (kind_at us i ≡ q) × KindsFrom us (i + 1) w

spells-first : (us : List Token) (i : ℕ) (w : List ℕ) → KindsFrom us i w → kind_at us i ≡ first w
spells-first us i [] h = ap (λ (t : Token). t.kind) (get_or-eq_default us no_more {n = i} (omega arith))
spells-first us i (q ∷ w) h = h.0

closes-cases : (P : ℕ → Type 0) (k : ℕ) → closes k ≡ true → P k_close → P k_close_bracket → P k_semicolon → P k_comma → P k
unfolding closes
closes-cases P k e a b c d = go (eqb k k_close) (eqb k k_close_bracket) (eqb k k_semicolon) (eqb k k_comma) refl refl refl refl e
  where
    go : (x y z w : Bool) → eqb k k_close ≡ x → eqb k k_close_bracket ≡ y → eqb k k_semicolon ≡ z → eqb k k_comma ≡ w
        → (x || y || z || w) ≡ true → P k
    go true y z w p q r s e = subst P (sym (eqb-true k k_close p)) a
    go false true z w p q r s e = subst P (sym (eqb-true k k_close_bracket q)) b
    go false false true w p q r s e = subst P (sym (eqb-true k k_semicolon r)) c
    go false false false true p q r s e = subst P (sym (eqb-true k k_comma s)) d
    go false false false false p q r s e = let z : ◌≡◌ {A = ℕ} 0 1 = cc in absurd (omega arith)

ends-cases : (P : ℕ → Type 0) (k : ℕ) → ends k ≡ true → P k_close_brace → P k_return → P k
unfolding ends
ends-cases P k e a b = go (eqb k k_close_brace) (eqb k k_return) refl refl e
  where
    go : (x y : Bool) → eqb k k_close_brace ≡ x → eqb k k_return ≡ y → (x || y) ≡ true → P k
    go true y p q e = subst P (sym (eqb-true k k_close_brace p)) a
    go false true p q e = subst P (sym (eqb-true k k_return q)) b
    go false false p q e = let z : ◌≡◌ {A = ℕ} 0 1 = cc in absurd (omega arith)

fits_head : {x : Symbol} {S : List Symbol} → Fits (x ∷ S) → follow x (first (words S)) ≡ true
fits_head (f ▹ h) = f

fits-tail : {x : Symbol} {S : List Symbol} → Fits (x ∷ S) → Fits S
fits-tail (f ▹ h) = h

kept-pushed : {S xs : List Symbol} → Kept S (push xs) → Fits (xs ++ S)
kept-pushed (kept_push h) = h

fits-pushed : {x : Symbol} {S xs : List Symbol} (k : ℕ) → rule x k ≡ push xs → Fits (x ∷ S) → Fits (xs ++ S)
fits-pushed {x} {S} k r h = kept-pushed (subst (λ (m : Move). Kept S m) r (keeps x k (fits_head h) (fits-tail h)))

-- no operator follows an expression
no-operator : (L : Level) (k : ℕ) → closes k ≡ true → rule (operations L) k ≡ push []
unfolding rule operator_of
no-operator conjunction k f = closes-cases (λ k. rule (operations conjunction) k ≡ push []) k f refl refl refl refl
no-operator comparison k f = closes-cases (λ k. rule (operations comparison) k ≡ push []) k f refl refl refl refl
no-operator sum k f = closes-cases (λ k. rule (operations sum) k ≡ push []) k f refl refl refl refl
no-operator product k f = closes-cases (λ k. rule (operations product) k ≡ push []) k f refl refl refl refl

word-operand : (L : Level) → word (operand_of L) ≡ k_name ∷ []
word-operand conjunction = refl
word-operand comparison = refl
word-operand sum = refl
word-operand product = refl

module _ (us : List Token) where
  -- the machine passes the symbol by its word
  abbrev Filled : Symbol → Type 0
  Filled x = (S : List Symbol) (e : Halt) (i : ℕ) → Fits (x ∷ S) → KindsFrom us i (words (x ∷ S)) → ((j : ℕ) → KindsFrom us j (words S) → RunsTo us S j e) → RunsTo us (x ∷ S) i e

  in-turn : {xs : List Symbol} → All (λ x. Filled x) xs → (S : List Symbol) (e : Halt) (i : ℕ) → Fits (xs ++ S)
      → KindsFrom us i (words (xs ++ S))
      → ((j : ℕ) → KindsFrom us j (words S) → RunsTo us S j e) → RunsTo us (xs ++ S) i e
  in-turn all_nil S e i g sp k = k i sp
  in-turn (all_cons {l = xs} p ps) S e i g sp k = p (xs ++ S) e i g sp λ j s. in-turn ps S e j (fits-tail g) s k

  -- a symbol that the machine replaces, at the first token of its word or at what follows it, by symbols whose words make it
  by-rule : (x : Symbol) {xs : List Symbol} → All (λ x. Filled x) xs → ((S : List Symbol) → words (xs ++ S) ≡ words (x ∷ S))
      → ((S : List Symbol) → follow x (first (words S)) ≡ true → rule x (first (words (x ∷ S))) ≡ push xs) → Filled x
  by-rule x {xs} ps same r S e i g sp k =
      let r' : rule x (kind_at us i) ≡ push xs = ap (rule x) (spells-first us i (words (x ∷ S)) sp) ∙ r S (fits_head g) in
      pushes r' (in-turn ps S e i (fits-pushed (kind_at us i) r' g) (subst (λ (w : List ℕ). KindsFrom us i w) (sym (same S)) sp) k)

  fill_one : (q : ℕ) → Filled (one q)
  unfolding rule
  fill_one q S e i g sp k = shifts {x = one q} {i = i} (rw (eq-eqb (kind_at us i) q sp.0)) (k (i + 1) sp.1)

  fill-name : Filled a_name
  unfolding rule is_name_lem
  fill-name S e i g sp k = shifts (ap (rule a_name) sp.0) (k (i + 1) sp.1)

  fill-element : Filled an_element
  unfolding rule
  fill-element S e i g sp k = shifts (ap (rule an_element) sp.0) (k (i + 1) sp.1)

  fill-operator : (L : Level) → Filled (an_operator L)
  unfolding rule operator_of
  fill-operator conjunction S e i g sp k = shifts (ap (rule (an_operator conjunction)) sp.0) (k (i + 1) sp.1)
  fill-operator comparison S e i g sp k = shifts (ap (rule (an_operator comparison)) sp.0) (k (i + 1) sp.1)
  fill-operator sum S e i g sp k = shifts (ap (rule (an_operator sum)) sp.0) (k (i + 1) sp.1)
  fill-operator product S e i g sp k = shifts (ap (rule (an_operator product)) sp.0) (k (i + 1) sp.1)

  -- EXPRESSIONS
  fill-operations : (L : Level) → Filled (operations L)
  fill-operations L = by-rule (operations L) all_nil (λ S. refl) λ S f. no-operator L (first (words S)) f

  fill-suffixes : (b : Bool) → Filled (suffixes b)
  unfolding rule
  fill-suffixes b =
      by-rule (suffixes b) all_nil (λ S. refl) λ S f. closes-cases (λ k. rule (suffixes b) k ≡ push []) (first (words S)) f refl refl refl refl

  fill-primary : Filled primary
  unfolding rule is_name_lem
  fill-primary = by-rule primary (all_cons fill-name all_nil) (λ S. refl) λ S f. refl

  fill-postfix : Filled postfix
  unfolding rule
  fill-postfix = by-rule postfix (all_cons fill-primary (all_cons (fill-suffixes true) all_nil)) (λ S. refl) λ S f. refl

  fill-unary : Filled unary
  unfolding rule
  fill-unary = by-rule unary (all_cons fill-postfix all_nil) (λ S. refl) λ S f. refl

  fill-operation : (L : Level) → Filled (operand_of L) → Filled (operation L)
  unfolding rule
  fill-operation L p = by-rule (operation L) (all_cons p (all_cons (fill-operations L) all_nil)) (λ S. ap (λ (w : List ℕ). w ++ words S) (word-operand L)) λ S f. refl

  fill-product : Filled (operation product)
  fill-product = fill-operation product fill-unary

  fill-sum : Filled (operation sum)
  fill-sum = fill-operation sum fill-product

  fill-comparison : Filled (operation comparison)
  fill-comparison = fill-operation comparison fill-sum

  fill-expression : Filled expression
  fill-expression = fill-operation conjunction fill-comparison

  fill-after_class : Filled after_class
  unfolding rule
  fill-after_class =
      by-rule after_class (all_cons (fill_one k_open) (all_cons (fill_one k_close) (all_cons (fill-suffixes true) all_nil))) (λ S. refl)
      λ S f. refl

  -- what ends in `)`
  closed : (x : Symbol) → word x ≡ k_close ∷ [] → rule x k_close ≡ push (one k_close ∷ []) → Filled x
  closed x w r = by-rule x (all_cons (fill_one k_close) all_nil) (λ S. rw w) λ S f. rw w r

  -- STATEMENTS AND DECLARATIONS
  fill-after_name : Filled after_name
  unfolding rule
  fill-after_name = by-rule after_name (all_cons (fill_one k_assign) (all_cons fill-expression (all_cons (fill_one k_semicolon) all_nil))) (λ S. refl) λ S f. refl

  fill-statement_list : Filled statement_list
  unfolding rule begins_statement_lem is_name_lem
  fill-statement_list =
      by-rule statement_list all_nil (λ S. refl) λ S f. ends-cases (λ k. rule statement_list k ≡ push []) (first (words S)) f refl refl

  fill-locals : Filled locals
  unfolding rule is_name_lem
  fill-locals =
      by-rule locals (all_cons fill-statement_list all_nil) (λ S. refl)
      λ S f. ends-cases (λ k. rule locals k ≡ push (statement_list ∷ [])) (first (words S)) f refl refl

  -- a symbol whose word is empty, and which one kind of token follows
  vanishes : (x : Symbol) (q : ℕ) → word x ≡ [] → ((S : List Symbol) → follow x (first (words S)) ≡ true → first (words S) ≡ q)
      → rule x q ≡ push [] → Filled x
  vanishes x q w h r = by-rule x all_nil (λ S. rw w) λ S f. rw w (ap (rule x) (h S f) ∙ r)

  fill-after_element : Filled after_element
  unfolding rule
  fill-after_element = vanishes after_element k_name refl (λ S f. eqb-true (first (words S)) k_name f) refl

  fill-type : Filled a_type
  unfolding rule
  fill-type = by-rule a_type (all_cons fill-element (all_cons fill-after_element all_nil)) (λ S. refl) λ S f. refl

  fill : (x : Symbol) → Filled x
  unfolding rule begins_type_lem is_name_lem
  fill (one q) = fill_one q
  fill a_name = fill-name
  fill an_element = fill-element
  fill (an_operator L) = fill-operator L
  fill (operation conjunction) = fill-expression
  fill (operation comparison) = fill-comparison
  fill (operation sum) = fill-sum
  fill (operation product) = fill-product
  fill (operations L) = fill-operations L
  fill unary = fill-unary
  fill postfix = fill-postfix
  fill after_new = by-rule after_new (all_cons fill-name (all_cons fill-after_class all_nil)) (λ S. refl) λ S f. refl
  fill after_class = fill-after_class
  fill primary = fill-primary
  fill (suffixes b) = fill-suffixes b
  fill after_dot = by-rule after_dot (all_cons (fill_one k_length) (all_cons (fill-suffixes true) all_nil)) (λ S. refl) λ S f. refl
  fill argument_list = closed argument_list refl refl
  fill some_arguments_lem =
      by-rule some_arguments_lem (all_cons fill-expression (all_cons (closed more_arguments refl refl) all_nil)) (λ S. refl) λ S f. refl
  fill more_arguments = closed more_arguments refl refl
  fill a_statement = by-rule a_statement (all_cons (fill_one k_open_brace) (all_cons fill-statement_list (all_cons (fill_one k_close_brace) all_nil))) (λ S. refl) λ S f. refl
  fill after_name = fill-after_name
  fill statement_list = fill-statement_list
  fill a_type = fill-type
  fill after_element = fill-after_element
  fill fields = vanishes fields k_close_brace refl (λ S f. eqb-true (first (words S)) k_close_brace f) refl
  fill locals = fill-locals
  fill after_local = by-rule after_local (all_cons fill-after_name (all_cons fill-statement_list all_nil)) (λ S. refl) λ S f. refl
  fill after_mark =
      by-rule after_mark
      (all_cons (fill_one k_close_bracket) (all_cons fill-name (all_cons (fill_one k_semicolon) (all_cons fill-locals all_nil))))
      (λ S. refl) λ S f. refl
  fill formals = closed formals refl refl
  fill some_formals = by-rule some_formals (all_cons fill-type (all_cons fill-name (all_cons (closed more_formals refl refl) all_nil))) (λ S. refl) λ S f. refl
  fill more_formals = closed more_formals refl refl
  fill methods = vanishes methods k_close_brace refl (λ S f. eqb-true (first (words S)) k_close_brace f) refl
  fill parent = vanishes parent k_open_brace refl (λ S f. eqb-true (first (words S)) k_open_brace f) refl
  fill classes = vanishes classes k_end refl (λ S f. eqb-true (first (words S)) k_end f) refl

  filled : {S : List Symbol} → Fits S → (i : ℕ) → KindsFrom us i (words S) → RunsTo us S i (done (length us))
  filled empty i sp = subst (λ (j : ℕ). RunsTo us [] i (done j)) sp finish
  filled (◌▹◌ {x = x} {S = S} f h) i sp = fill x S (done (length us)) i (f ▹ h) sp λ j s. filled h j s

-- THE LIST COMPLETED

-- a token passed is one of the list
abbrev is_shift : Move → Bool
is_shift shift = true
is_shift (push xs) = false
is_shift refuse = false

no_shift : (x : Symbol) (k : ℕ) → follow x k ≡ true → is_shift (rule x k_end) ≡ false
unfolding rule operator_of is_name_lem begins_type_lem begins_statement_lem
no_shift (one q) k f = rw (ne_eqb k_end q λ z. let z₂ : true ≡ false = sym f ∙ ap (λ (q : ℕ). not (eqb q k_end)) (sym z) in let z₃ : ◌≡◌ {A = ℕ} 0 1 = cc in omega arith)
no_shift a_name k f = refl
no_shift an_element k f = refl
no_shift (operation L) k f = refl
no_shift (an_operator conjunction) k f = refl
no_shift (an_operator comparison) k f = refl
no_shift (an_operator sum) k f = refl
no_shift (an_operator product) k f = refl
no_shift (operations conjunction) k f = refl
no_shift (operations comparison) k f = refl
no_shift (operations sum) k f = refl
no_shift (operations product) k f = refl
no_shift unary k f = refl
no_shift postfix k f = refl
no_shift after_new k f = refl
no_shift after_class k f = refl
no_shift primary k f = refl
no_shift (suffixes b) k f = refl
no_shift after_dot k f = refl
no_shift argument_list k f = refl
no_shift some_arguments_lem k f = refl
no_shift more_arguments k f = refl
no_shift a_statement k f = refl
no_shift after_name k f = refl
no_shift statement_list k f = refl
no_shift a_type k f = refl
no_shift after_element k f = refl
no_shift fields k f = refl
no_shift locals k f = refl
no_shift after_local k f = refl
no_shift after_mark k f = refl
no_shift formals k f = refl
no_shift some_formals k f = refl
no_shift more_formals k f = refl
no_shift methods k f = refl
no_shift parent k f = refl
no_shift classes k f = refl

-- a token with nothing but a kind
abbrev plain : ℕ → Token
plain q = record { kind = q; start = 0; text = [] }

-- the first k tokens, and others after them
abbrev cut : List Token → ℕ → List ℕ → List Token
cut ts k w = take k ts ++ map plain w

module _ (ts : List Token) (k : ℕ) (w : List ℕ) (le : k ≤ length ts) where
  cut_below : (p : ℕ) → p < k → kind_at (cut ts k w) p ≡ kind_at ts p
  cut_below p lt =
      ap (λ (t : Token). t.kind) (get_or-append (take k ts) (map plain w) no_more p (omega (arith, length-take-le k ts le)) ∙ get_or-take k ts p no_more lt)

-- a list that ends with the tokens of a word
spells-end : (us : List Token) (w : List ℕ) (n : ℕ) → n ≡ length us → KindsFrom (us ++ map plain w) n w
spells-end us [] n e = omega (arith, length-append us [])
spells-end us (q ∷ w) n e = (
  ap (λ (t : Token). t.kind) (get_or_at us (plain q) (map plain w) no_more n (sym e)),
  subst (λ (l : List Token). KindsFrom l (n + 1) w) (append_assoc us (plain q ∷ []) (map plain w))
      (spells-end (us ++ (plain q ∷ [])) w (n + 1) (omega (arith, length-append us (plain q ∷ [])))),
)

module _ (ts : List Token) where
  passed : {x : Symbol} {S : List Symbol} (i : ℕ) → rule x (kind_at ts i) ≡ shift → Fits (x ∷ S) → i < length ts
  passed {x} {S} i r h = seen ts i (λ k. is_shift (rule x k)) (no_shift x (first (words S)) (fits_head h)) (rw r)

  -- a run ends within the list
  inside : {S : List Symbol} {i : ℕ} {e : Halt} → Fits S → i ≤ length ts → RunsTo ts S i e → index_of e ≤ length ts
  inside g le finish = le
  inside g le (shifts {i = i} r h) = inside (fits-tail g) (omega (arith, passed i r g)) h
  inside g le (pushes {i = i} r h) = inside (fits-pushed (kind_at ts i) r g) le h
  inside g le (refuses r) = le

  -- the words of the stack at token k
  at_once : {S : List Symbol} (k : ℕ) → Fits S → k ≤ length ts → RunsTo (cut ts k (words S)) S k (done (length (cut ts k (words S))))
  at_once {S} k g le = filled (cut ts k (words S)) g k (spells-end (take k ts) (words S) k (sym (length-take-le k ts le)))

  completes : {S : List Symbol} {i k : ℕ} → Fits S → i ≤ length ts → RunsTo ts S i (stopped k)
      → (w : List ℕ) × RunsTo (cut ts k w) S i (done (length (cut ts k w)))
  completes {k = k} g le (shifts {x = x} {i = i} r h) =
      let here = passed i r g in
      let c = completes (fits-tail g) (omega arith) h in
      (c.0, shifts (ap (rule x) (cut_below ts k c.0 (inside g le (shifts r h)) i (omega (arith, onward h))) ∙ r) c.1)
  completes {k = k} g le (pushes {x = x} {S = S} {i = i} r h) =
      let c = completes (fits-pushed (kind_at ts i) r g) le h in
      elim (dec_lt i k) [
        | yes lt ↦ (c.0, pushes (ap (rule x) (cut_below ts k c.0 (inside g le (pushes r h)) i lt) ∙ r) c.1)
        | no ge ↦
            let e : i ≡ k = omega (arith, onward h) in
            (words (x ∷ S), subst (λ (k : ℕ). RunsTo (cut ts k (words (x ∷ S))) (x ∷ S) i (done (length (cut ts k (words (x ∷ S)))))) e (at_once i g le))
      ]
  completes g le (refuses {x = x} {S = S} {i = i} r) = (words (x ∷ S), at_once i g le)

start_fits : Fits start_stack
start_fits =
    refl ▹ refl ▹ refl ▹ refl ▹ refl ▹ refl ▹ refl ▹ refl ▹ refl ▹ refl ▹ refl ▹ refl ▹ refl ▹ refl ▹ refl ▹ refl ▹ refl ▹ refl ▹ empty

-- a run over a list ends within it
pub within : (ts : List Token) {e : Halt} → RunsTo ts start_stack 0 e → index_of e ≤ length ts
within ts h = inside ts start_fits (omega arith) h

-- where the machine stops at token k, it accepts some list that begins with the first k tokens
pub completed : (ts : List Token) {k : ℕ} → RunsTo ts start_stack 0 (stopped k)
    → (us : List Token) × RunsTo us start_stack 0 (done (length us)) × (take k us ≡ take k ts)
completed ts {k} h =
    let c = completes ts start_fits (omega arith) h in
    (cut ts k c.0, c.1, take_at (take k ts) (map plain c.0) k (length-take-le k ts (within ts h)))

-- the same from the stack of classes alone
classes-fit : Fits (classes ∷ [])
classes-fit = refl ▹ empty

pub within-classes : (ts : List Token) {e : Halt} → RunsTo ts (classes ∷ []) 0 e → index_of e ≤ length ts
within-classes ts h = inside ts classes-fit (omega arith) h

pub completed-classes : (ts : List Token) {k : ℕ} → RunsTo ts (classes ∷ []) 0 (stopped k)
    → (us : List Token) × RunsTo us (classes ∷ []) 0 (done (length us)) × (take k us ≡ take k ts)
completed-classes ts {k} h =
    let c = completes ts classes-fit (omega arith) h in
    (cut ts k c.0, c.1, take_at (take k ts) (map plain c.0) k (length-take-le k ts (within-classes ts h)))
