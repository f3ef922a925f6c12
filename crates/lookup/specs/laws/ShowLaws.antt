-- What the rows show of the parts that lie in them: a node matches its token, so the kinds in the table tell its form, and its columns
-- lead to its parts. The laws are over what the bound of a whole gives for its parts.
use Rattle.std.specs.Prelude.{ℕ, ◌+◌, ◌≤◌, ◌<◌, ◌≡◌, List, true, false, length, eqb}
use Rattle.std.proofs.Common.{arith, sym, ◌∙◌, subst, ne_eqb}
use Rattle.std.proofs.Math.Path.{refl, ap}
use Rattle.base.specs.laws.Lists.{get-get_d}
use Rattle.base.specs.promises.Table.{col, c_start, c_number, c_begin, c_first, c_second, c_next, c_third}
use Rattle.base.specs.Codes.{tokens_most}
use Rattle.lexer.specs.Kinds.{is_name_lem, k_name, k_literal, k_fixed_literal, k_true, k_false, k_this, k_length, k_open_brace, k_if, k_while, k_system, k_port, k_new, k_not, k_dot, k_open, k_open_bracket}
use Rattle.lexer.specs.Tokens.{Token, decimal, thousandths_of_lem}
use Rattle.parser.specs.Tree.{Numeral, Numeral.int_literal, Numeral.fixed_literal, ElementUse, Ty.array_of}
use Rattle.parser.specs.Tree.{Place, Name, Operator, Operator.and, Operator.less, Operator.plus, Operator.minus, Operator.times}
use Rattle.parser.specs.Tree.{Sort, Sort.expression, Sort.arguments, Sort.statement, Sort.statements, Part, Expression, Statement, place_e}
use Rattle.parser.specs.Tree.{Part.literal, Part.truth, Part.variable, Part.this, Part.new_array_lem, Part.new_object_lem, Part.negation, Part.binary}
use Rattle.parser.specs.Tree.{Part.element, Part.array_length, Part.call, Part.port_get_lem, Part.no_arguments, Part.argument}
use Rattle.parser.specs.Tree.{Part.block, Part.conditional, Part.loop, Part.print, Part.assign, Part.assign_element_lem, Part.port_put_lem}
use Rattle.parser.specs.Tree.{Part.no_statements, Part.sequence}
use Rattle.parser.specs.promises.Layout.{absent, row_of}
use Rattle.parser.specs.Stream.{no_more, token_at, kind_at}
use Rattle.parser.specs.promises.Post.{kind_in_table, is_atom_lem}
use Rattle.reader.specs.promises.Holds.{Holds}
use Rattle.reader.specs.promises.Matches.{TokenIs, NameIs, NameMatches, TypeMatches, NumeralMatches, Matches, operator_kind}
use Rattle.lookup.specs.promises.HeldClasses.{word_at, Lexemes, NameNumber}
use Rattle.lookup.specs.laws.HeldLaws.{element-there, word_in, name-kind, kinds, start_word, name-word, row-there}
use Rattle.lookup.specs.promises.Shows.{PartAt, Bound, Form, a_variable, a_binary, a_call_shown}
use Rattle.lookup.specs.promises.Shows.{form_atom, form_compound, form_e, form_at, form_s}
use Rattle.lookup.specs.promises.Shows.{Shows, shows-literal, shows-fixed-literal, shows-truth, shows-variable, shows-this}
use Rattle.lookup.specs.promises.Shows.{shows-new-array, shows-new-object, shows-negation, shows-binary, shows-element, shows-length}
use Rattle.lookup.specs.promises.Shows.{shows-call, shows-port-get}
use Rattle.lookup.specs.promises.Shows.{ShowsS, shows-block, shows-conditional, shows-loop, shows-print, shows-assignment}
use Rattle.lookup.specs.promises.Shows.{shows-element-store, shows-port-put, GoesOn, one-more-argument, GoesOnS, one-more-statement}

-- the token of a literal, and of any node, is there
numeral-there : (ts : List Token) {i : ℕ} (n : Numeral) → NumeralMatches ts i n → i < length ts
unfolding NumeralMatches
numeral-there ts (int_literal v) m = m.0.there
numeral-there ts (fixed_literal v) m = m.0.there

pub there : (ts : List Token) (e : Expression) → Matches ts e → row_of e < length ts
unfolding Matches
there ts (literal p n) m = numeral-there ts n m
there ts (truth p b) m = m.there
there ts (variable p x) m = m.there
there ts (this p) m = m.there
there ts (new_array_lem p u e) m = m.0.there
there ts (new_object_lem p c) m = m.0.there
there ts (negation p e) m = m.0.there
there ts (binary p o l r) m = m.0.there
there ts (element p a i) m = m.0.there
there ts (array_length p a) m = m.0.there
there ts (call p e n es) m = m.0.there
there ts (port_get_lem p e) m = m.0.there

pub there-statement : (ts : List Token) (t : Statement) → Matches ts t → row_of t < length ts
unfolding Matches
there-statement ts (block p ss) m = m.0.there
there-statement ts (conditional p e s t) m = m.0.there
there-statement ts (loop p e s) m = m.0.there
there-statement ts (print p e) m = m.0.there
there-statement ts (assign p x e) m = m.0.there
there-statement ts (assign_element_lem p x i e) m = m.0.there
there-statement ts (port_put_lem p n e) m = m.0.there

-- what stands in a row
module _ {tab : List ℕ} {n : ℕ} {ts : List Token} (lx : Lexemes tab n ts) {row r : ℕ} (at : r ≡ row) (low : r < length ts) where
  word : (k : ℕ) {v : ℕ} → col tab k r ≡ v → word_at tab k row ≡ v
  word k e = ap (word_at tab k) (sym at) ∙ word_in tab k r (row-there lx r low) e

  kind-of : {k : ℕ} → kind_at ts r ≡ k → kind_in_table tab n row ≡ k
  kind-of e = kinds lx row ∙ ap (kind_at ts) (sym at) ∙ e

  kind-third : {k : ℕ} → kind_at ts (r + 2) ≡ k → kind_in_table tab n (row + 2) ≡ k
  kind-third e = kinds lx (row + 2) ∙ ap (λ (j : ℕ). kind_at ts (j + 2)) (sym at) ∙ e

  kind-after : {k : ℕ} → kind_at ts (r + 1) ≡ k → kind_in_table tab n (row + 1) ≡ k
  kind-after e = kinds lx (row + 1) ∙ ap (λ (j : ℕ). kind_at ts (j + 1)) (sym at) ∙ e

  part : (k : ℕ) {s : Sort} {Within : Part s → Type 0} {t : Part s} → col tab k r ≡ row_of t → Holds tab t → Matches ts t → Within t
      → PartAt tab ts (word_at tab k row) Within t
  part k e h m w = record { at = sym (word k e); holds = h; matches = m; within = w }

  spelt : {x : List ℕ} → NameIs ts r x → NameNumber ts x (word_at tab c_number row)
  spelt {x} m = subst (λ (j : ℕ). NameNumber ts x (word_at tab c_number j)) at (name-word lx r m)

  value_of : {v : ℕ} → TokenIs ts r k_literal → decimal 0 (token_at ts r).text ≡ v → word_at tab c_number row ≡ v
  value_of t e = word c_number ((lx.rows r (token_at ts r) (get-get_d ts r no_more low)).literal t.is ∙ e)

  thousandths-of : {v : ℕ} → TokenIs ts r k_fixed_literal → thousandths_of_lem (token_at ts r).text ≡ v → word_at tab c_number row ≡ v
  thousandths-of t e = word c_number ((lx.rows r (token_at ts r) (get-get_d ts r no_more low)).fixed t.is ∙ e)

-- a name after this token: its number, its position, and that it is no reserved word
module _ {tab : List ℕ} {n : ℕ} {ts : List Token} (lx : Lexemes tab n ts) {row r : ℕ} (at : r ≡ row) (x : Name) (e : x.row ≡ r + 1)
    (m : NameMatches ts x) where
  after-row : x.row ≡ row + 1
  after-row = e ∙ ap (λ (j : ℕ). j + 1) at

  after : NameNumber ts x.text (word_at tab c_number (row + 1))
  after = spelt lx after-row m.token.there m.token

  after-start : word_at tab c_start (row + 1) ≡ x.start
  after-start = ap (word_at tab c_start) (sym after-row) ∙ start_word lx x.row m.token.there ∙ m.start

  after-kind : is_name_lem (kind_in_table tab n (row + 1)) ≡ true
  after-kind = ap is_name_lem (kinds lx (row + 1) ∙ ap (kind_at ts) (sym after-row)) ∙ m.token.named

-- FORMS BY KINDS

-- a name's kind is not this one, which is no name's
no_name : (k q : ℕ) → is_name_lem k ≡ true → is_name_lem q ≡ false → eqb k q ≡ false
no_name k q e n = ne_eqb k q (name-kind k q e n)

form-name : (k next third : ℕ) → is_name_lem k ≡ true → form_e k next third ≡ a_variable
unfolding form_e form_atom is_atom_lem is_name_lem
form-name k next third e =
    let other : (q : ℕ) → is_name_lem q ≡ false → eqb k q ≡ false = λ q n. no_name k q e n in
    rw (other k_literal refl, other k_fixed_literal refl, other k_true refl, other k_false refl, other k_this refl, e)

form-dot : (k next third : ℕ) → k ≡ k_dot → is_name_lem next ≡ true → form_e k next third ≡ a_call_shown
unfolding form_e form_compound is_atom_lem is_name_lem
form-dot k next third e o = ap (λ (j : ℕ). form_e j next third) e ∙ rw (no_name next k_length o refl)

form-binary : (o : Operator) (next third : ℕ) → form_e (operator_kind o) next third ≡ a_binary
unfolding form_e form_compound is_atom_lem is_name_lem
form-binary and next third = refl
form-binary less next third = refl
form-binary plus next third = refl
form-binary minus next third = refl
form-binary times next third = refl

form-target : (k next : ℕ) {F : Form} → is_name_lem k ≡ true → form_s k_name next ≡ F → form_s k next ≡ F
unfolding form_s is_name_lem
form-target k next e f =
    rw (no_name k k_open_brace e refl, no_name k k_if e refl, no_name k k_while e refl, no_name k k_system e refl, no_name k k_port e refl) f

-- WHAT A ROW SHOWS

-- what the bound of a whole gives for its parts
pub record Bounds (row : ℕ) (Within Before Behind : Bound) : Type 0 where
  pub of-new-array : {p : Place} {u : ElementUse} {e : Expression} → p.row ≡ row → Within expression (new_array_lem p u e)
      → Behind expression e
  pub of-negation : {p : Place} {e : Expression} → p.row ≡ row → Within expression (negation p e) → Behind expression e
  pub of-binary : {p : Place} {o : Operator} {l r : Expression} → p.row ≡ row → Within expression (binary p o l r)
      → Before expression l × Behind expression r
  pub of-element : {p : Place} {a i : Expression} → p.row ≡ row → Within expression (element p a i)
      → Before expression a × Behind expression i
  pub of_length : {p : Place} {e : Expression} → p.row ≡ row → Within expression (array_length p e) → Before expression e
  pub of-call : {p : Place} {e : Expression} {m : Name} {es : Part arguments} → p.row ≡ row → Within expression (call p e m es)
      → Before expression e × Behind arguments es
  pub of-port-get : {p : Place} {e : Expression} → p.row ≡ row → Within expression (port_get_lem p e) → Behind expression e

pub record BoundsS (row : ℕ) (Within Behind : Bound) : Type 0 where
  pub of-block : {p : Place} {ss : Part statements} → p.row ≡ row → Within statement (block p ss) → Behind statements ss
  pub of-conditional : {p : Place} {e : Expression} {s t : Statement} → p.row ≡ row → Within statement (conditional p e s t)
      → Behind expression e × Behind statement s × Behind statement t
  pub of-loop : {p : Place} {e : Expression} {s : Statement} → p.row ≡ row → Within statement (loop p e s)
      → Behind expression e × Behind statement s
  pub of-print : {p : Place} {e : Expression} → p.row ≡ row → Within statement (print p e) → Behind expression e
  pub of-assignment : {p : Place} {x : List ℕ} {e : Expression} → p.row ≡ row → Within statement (assign p x e) → Behind expression e
  pub of-element-store : {p : Place} {x : List ℕ} {i e : Expression} → p.row ≡ row → Within statement (assign_element_lem p x i e)
      → Behind expression i × Behind expression e
  pub of-port-put : {p : Place} {n e : Expression} → p.row ≡ row → Within statement (port_put_lem p n e)
      → Behind expression n × Behind expression e

-- one kind tells the form, or two do
module _ (tab : List ℕ) (n row : ℕ) where
  by : {F : Form} (k : ℕ) → kind_in_table tab n row ≡ k → ((next third : ℕ) → form_e k next third ≡ F) → form_at tab n row ≡ F
  by k e f = ap (λ (j : ℕ). form_e j (kind_in_table tab n (row + 1)) (kind_in_table tab n (row + 2))) e ∙ f _ _

  by_next : {F : Form} (k next : ℕ) → kind_in_table tab n row ≡ k → kind_in_table tab n (row + 1) ≡ next
      → ((third : ℕ) → form_e k next third ≡ F) → form_at tab n row ≡ F
  by_next k next e o f =
      ap (λ (j : ℕ). form_e j (kind_in_table tab n (row + 1)) (kind_in_table tab n (row + 2))) e
      ∙ ap (λ (j : ℕ). form_e k j (kind_in_table tab n (row + 2))) o ∙ f _

  by-third : {F : Form} (k third : ℕ) → kind_in_table tab n row ≡ k → kind_in_table tab n (row + 2) ≡ third
      → ((next : ℕ) → form_e k next third ≡ F) → form_at tab n row ≡ F
  by-third k third e o f =
      ap (λ (j : ℕ). form_e j (kind_in_table tab n (row + 1)) (kind_in_table tab n (row + 2))) e
      ∙ ap (form_e k (kind_in_table tab n (row + 1))) o ∙ f _

  by_s : {F : Form} (k : ℕ) → kind_in_table tab n row ≡ k → ((next : ℕ) → form_s k next ≡ F)
      → form_s (kind_in_table tab n row) (kind_in_table tab n (row + 1)) ≡ F
  by_s k e f = ap (λ (j : ℕ). form_s j (kind_in_table tab n (row + 1))) e ∙ f _

module _ {tab : List ℕ} {n : ℕ} {ts : List Token} (lx : Lexemes tab n ts) (row : ℕ) (Within Before Behind : Bound)
    (b : Bounds row Within Before Behind) where
  shows : {F H : Form} {e : Expression} → H ≡ F → Shows tab ts n row Before Behind F e → Shows tab ts n row Before Behind H e
  shows {F} {H} {e} f s = subst (λ (J : Form). Shows tab ts n row Before Behind J e) (sym f) s

  see : (e : Expression) → row_of e ≡ row → Holds tab e → Matches ts e → Within expression e
      → Shows tab ts n row Before Behind (form_at tab n row) e
  unfolding Holds Matches TypeMatches NumeralMatches form_e form_atom form_compound is_atom_lem is_name_lem
  see (literal p (int_literal v)) at h m w =
      let low = m.0.there in
      shows (by tab n row k_literal (kind-of lx at low m.0.is) (λ _ _. refl))
      (shows-literal (word lx at low c_begin h.start) (value_of lx at low m.0 m.1))
  see (literal p (fixed_literal v)) at h m w =
      let low = m.0.there in
      shows (by tab n row k_fixed_literal (kind-of lx at low m.0.is) (λ _ _. refl))
      (shows-fixed-literal (word lx at low c_begin h.start) (thousandths-of lx at low m.0 m.1))
  see (truth p true) at h m w =
      shows (by tab n row k_true (kind-of lx at m.there m.is) (λ _ _. refl)) (shows-truth (word lx at m.there c_begin h.start))
  see (truth p false) at h m w =
      shows (by tab n row k_false (kind-of lx at m.there m.is) (λ _ _. refl)) (shows-truth (word lx at m.there c_begin h.start))
  see (variable p x) at h m w =
      let low = m.there in
      shows (form-name (kind_in_table tab n row) (kind_in_table tab n (row + 1)) (kind_in_table tab n (row + 2)) (ap is_name_lem (kind-of lx at low refl) ∙ m.named))
      (shows-variable (word lx at low c_begin h.start) (spelt lx at low m))
  see (this p) at h m w =
      shows (by tab n row k_this (kind-of lx at m.there m.is) (λ _ _. refl)) (shows-this (word lx at m.there c_begin h.start))
  see (new_array_lem p u e) at h m w =
      let low = m.0.there in
      let behind : u.row ≡ row + 1 = m.1 ∙ ap (λ (j : ℕ). j + 1) at in
      let third : p.row + 2 ≡ u.row + 1 = omega (arith, m.1) in
      shows (by-third tab n row k_new k_open_bracket (kind-of lx at low m.0.is) (kind-third lx at low (ap (kind_at ts) third ∙ m.2.1.is)) (λ _. refl))
      (shows-new-array (word lx at low c_begin h.0.start) (subst (λ (j : ℕ). TypeMatches ts j (array_of u.element)) behind m.2)
      (ap (word_at tab c_start) (sym behind) ∙ start_word lx u.row (element-there ts u.row u.element m.2.0) ∙ m.3)
      (part lx at low c_first h.0.first h.1 m.4 (b.of-new-array at w)))
  see (new_object_lem p c) at h m w =
      let low = m.0.there in
      shows (by-third tab n row k_new k_open (kind-of lx at low m.0.is) (kind-third lx at low m.3.is) (λ _. refl))
      (shows-new-object (word lx at low c_begin h.start) (after lx at c m.1 m.2) (after-start lx at c m.1 m.2))
  see (negation p e) at h m w =
      let low = m.0.there in
      shows (by tab n row k_not (kind-of lx at low m.0.is) (λ _ _. refl))
      (shows-negation (word lx at low c_begin h.0.start) (part lx at low c_first h.0.first h.1 m.1 (b.of-negation at w)))
  see (binary p o l r) at h m w =
      let low = m.0.there in
      let k = kind-of lx at low m.0.is in
      let v = b.of-binary at w in
      shows (by tab n row (operator_kind o) k (form-binary o))
      (shows-binary (word lx at low c_begin h.0.start) k (part lx at low c_first h.0.first h.1 m.1 v.0)
      (part lx at low c_second h.0.second h.2 m.2 v.1))
  see (element p a i) at h m w =
      let low = m.0.there in
      let v = b.of-element at w in
      shows (by tab n row k_open_bracket (kind-of lx at low m.0.is) (λ _ _. refl))
      (shows-element (word lx at low c_begin h.0.start) (part lx at low c_first h.0.first h.1 m.1 v.0)
      (part lx at low c_second h.0.second h.2 m.2 v.1))
  see (array_length p e) at h m w =
      let low = m.0.there in
      shows (by_next tab n row k_dot k_length (kind-of lx at low m.0.is) (kind-after lx at low m.1.is) (λ _. refl))
      (shows-length (word lx at low c_begin h.0.start) (part lx at low c_first h.0.first h.1 m.2 (b.of_length at w)))
  see (call p e f es) at h m w =
      let low = m.0.there in
      let v = b.of-call at w in
      shows (form-dot (kind_in_table tab n row) (kind_in_table tab n (row + 1)) (kind_in_table tab n (row + 2)) (kind-of lx at low m.0.is)
      (after-kind lx at f m.1 m.2))
      (shows-call (word lx at low c_begin h.0.start) (after lx at f m.1 m.2) (after-start lx at f m.1 m.2)
      (part lx at low c_first h.0.first h.1 m.3 v.0) (part lx at low c_second h.0.second h.2 m.4 v.1))
  see (port_get_lem p e) at h m w =
      let low = m.0.there in
      shows (by tab n row k_port (kind-of lx at low m.0.is) (λ _ _. refl))
      (shows-port-get (word lx at low c_begin h.0.start) (part lx at low c_first h.0.first h.1 m.1 (b.of-port-get at w)))

  -- the code has read the kinds, which tell the form F
  pub shown : {F : Form} → form_at tab n row ≡ F → (e : Expression)
      → PartAt tab ts row (Within expression) e
      → Shows tab ts n row Before Behind F e
  shown f e h = shows (sym f) (see e h.at h.holds h.matches h.within)

module _ {tab : List ℕ} {n : ℕ} {ts : List Token} (lx : Lexemes tab n ts) (row : ℕ) (Within Behind : Bound)
    (b : BoundsS row Within Behind) where
  shows_s : {F H : Form} {t : Statement} → H ≡ F → ShowsS tab ts row Behind F t → ShowsS tab ts row Behind H t
  shows_s {F} {H} {t} f s = subst (λ (J : Form). ShowsS tab ts row Behind J t) (sym f) s

  -- the node of a statement that the kind of its first token tells
  told : {F : Form} {r k : ℕ} → r ≡ row → TokenIs ts r k → ((next : ℕ) → form_s k next ≡ F)
      → form_s (kind_in_table tab n row) (kind_in_table tab n (row + 1)) ≡ F
  told {k = k} at t f = by_s tab n row k (kind-of lx at t.there t.is) f

  -- the node of a statement whose first token is a name, by the kind of the token after it
  target : {F : Form} {r k : ℕ} {x : List ℕ} → r ≡ row → NameIs ts r x → TokenIs ts (r + 1) k → form_s k_name k ≡ F
      → form_s (kind_in_table tab n row) (kind_in_table tab n (row + 1)) ≡ F
  target at m o f =
      form-target (kind_in_table tab n row) (kind_in_table tab n (row + 1)) (ap is_name_lem (kind-of lx at m.there refl) ∙ m.named)
      (ap (form_s k_name) (kind-after lx at m.there o.is) ∙ f)

  see_s : (t : Statement) → row_of t ≡ row → Holds tab t → Matches ts t → Within statement t
      → ShowsS tab ts row Behind (form_s (kind_in_table tab n row) (kind_in_table tab n (row + 1))) t
  unfolding Holds Matches form_s
  see_s (block p ss) at h m w =
      let low = m.0.there in
      shows_s (told at m.0 (λ x. refl))
      (shows-block (word lx at low c_begin h.0.start) (part lx at low c_first h.0.first h.1 m.1 (b.of-block at w)))
  see_s (conditional p e s t) at h m w =
      let low = m.0.there in
      let v = b.of-conditional at w in
      shows_s (told at m.0 (λ x. refl))
      (shows-conditional (word lx at low c_begin h.0.start) (part lx at low c_first h.0.first h.2 m.1 v.0)
      (part lx at low c_second h.0.second h.3 m.2 v.1) (part lx at low c_third h.1 h.4 m.3 v.2))
  see_s (loop p e s) at h m w =
      let low = m.0.there in
      let v = b.of-loop at w in
      shows_s (told at m.0 (λ x. refl)) (shows-loop (word lx at low c_begin h.0.start)
      (part lx at low c_first h.0.first h.1 m.1 v.0) (part lx at low c_second h.0.second h.2 m.2 v.1))
  see_s (print p e) at h m w =
      let low = m.0.there in
      shows_s (told at m.0 (λ x. refl))
      (shows-print (word lx at low c_begin h.0.start) (part lx at low c_first h.0.first h.1 m.1 (b.of-print at w)))
  see_s (assign p x e) at h m w =
      let low = m.0.there in
      shows_s (target at m.0 m.1 refl)
      (shows-assignment (word lx at low c_begin h.0.start) (spelt lx at low m.0)
      (part lx at low c_first h.0.first h.1 m.2 (b.of-assignment at w)))
  see_s (assign_element_lem p x i e) at h m w =
      let low = m.0.there in
      let v = b.of-element-store at w in
      shows_s (target at m.0 m.1 refl)
      (shows-element-store (word lx at low c_begin h.0.start) (spelt lx at low m.0) (part lx at low c_first h.0.first h.1 m.2 v.0)
      (part lx at low c_second h.0.second h.2 m.3 v.1))
  see_s (port_put_lem p i e) at h m w =
      let low = m.0.there in
      let v = b.of-port-put at w in
      shows_s (told at m.0 (λ x. refl)) (shows-port-put (word lx at low c_begin h.0.start)
      (part lx at low c_first h.0.first h.1 m.1 v.0) (part lx at low c_second h.0.second h.2 m.2 v.1))

  pub shown_s : {F : Form} → form_s (kind_in_table tab n row) (kind_in_table tab n (row + 1)) ≡ F → (t : Statement)
      → PartAt tab ts row (Within statement) t
      → ShowsS tab ts row Behind F t
  shown_s f t h = shows_s (sym f) (see_s t h.at h.holds h.matches h.within)

-- where an expression begins
pub starts : {tab : List ℕ} {ts : List Token} {n row : ℕ} {Before Behind : Bound} {F : Form} {e : Expression}
    → Shows tab ts n row Before Behind F e → word_at tab c_begin row ≡ (place_e e).start
starts (shows-literal s n) = s
starts (shows-fixed-literal s n) = s
starts (shows-truth s) = s
starts (shows-variable s x) = s
starts (shows-this s) = s
starts (shows-new-array s t q x) = s
starts (shows-new-object s x y) = s
starts (shows-negation s x) = s
starts (shows-binary s k x y) = s
starts (shows-element s x y) = s
starts (shows-length s x) = s
starts (shows-call s m q x y) = s
starts (shows-port-get s x) = s

-- LISTS

module _ {tab : List ℕ} {ts : List Token} {row : ℕ} where
  -- the row after that of a member
  follows : {r : ℕ} {s : Sort} {Within : Part s → Type 0} {t : Part s} → r ≡ row → row < absent → col tab c_next r ≡ row_of t → Holds tab t
      → Matches ts t → Within t → PartAt tab ts (word_at tab c_next row) Within t
  follows {r} at near e h m w =
      record { at = sym (ap (word_at tab c_next) (sym at) ∙ word_in tab c_next r (omega (arith, at)) e); holds = h; matches = m; within = w }

  -- arguments that stand in a row, and not past the last
  pub goes_on : {Within Rest : Part arguments → Type 0} {First : Expression → Type 0}
      → ((e : Expression) (es : Part arguments) → row_of e ≡ row → Within (argument e es) → First e × Rest es) → row < absent
      → (es : Part arguments) → PartAt tab ts row Within es → GoesOn tab ts row First Rest es
  unfolding Holds Matches
  goes_on f near no_arguments h = absurd (omega (arith, h.at))
  goes_on f near (argument e es) h =
      let v = f e es h.at h.within in
      one-more-argument (record { at = h.at; holds = h.holds.0; matches = h.matches.0; within = v.0 })
      (follows h.at near h.holds.1 h.holds.2 h.matches.1 v.1)

  pub goes-on_s : {Within Rest : Part statements → Type 0} {First : Statement → Type 0}
      → ((t : Statement) (ss : Part statements) → row_of t ≡ row → Within (sequence t ss) → First t × Rest ss) → row < absent
      → (ss : Part statements) → PartAt tab ts row Within ss → GoesOnS tab ts row First Rest ss
  unfolding Holds Matches
  goes-on_s f near no_statements h = absurd (omega (arith, h.at))
  goes-on_s f near (sequence t ss) h =
      let v = f t ss h.at h.within in
      one-more-statement (record { at = h.at; holds = h.holds.0; matches = h.matches.0; within = v.0 })
      (follows h.at near h.holds.1 h.holds.2 h.matches.1 v.1)

  -- past the last row there are none
  pub ended : {Within : Part arguments → Type 0} → length ts ≤ tokens_most → absent ≤ row → (es : Part arguments)
      → PartAt tab ts row Within es → no_arguments ≡ es
  unfolding Matches
  ended few far no_arguments h = refl
  ended few far (argument e es) h = absurd (omega (arith, there ts e h.matches.0, h.at))

  pub ended_s : {Within : Part statements → Type 0} → length ts ≤ tokens_most → absent ≤ row → (ss : Part statements)
      → PartAt tab ts row Within ss → no_statements ≡ ss
  unfolding Matches
  ended_s few far no_statements h = refl
  ended_s few far (sequence t ss) h = absurd (omega (arith, there-statement ts t h.matches.0, h.at))
