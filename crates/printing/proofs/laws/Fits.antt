-- The tree of a lexed source is fit to be written: its names and literals are the source's.
use Rattle.std.specs.Prelude.{ℕ, ◌+◌, ◌≤◌, ◌<◌, ◌≡◌, List, [], ◌∷◌, Bool, true, false, eqb, ltb, length, get_or}
use Rattle.std.proofs.Math.Path.{refl}
use Rattle.std.proofs.Common.{sym, ap, ◌∙◌, subst, arith, le-ltb}
use Rattle.std.proofs.lemmas.Bool.{false≢true}
use Rattle.std.proofs.Math.Option.{Option, none, some}
use Rattle.base.specs.All.{All}
use Rattle.base.specs.Codes.{literal_most, name_most}
use Rattle.base.specs.Outcome.{accepted}
use Rattle.base.specs.laws.Lists.{get-get_d}
use Rattle.base.specs.laws.Tests.{and-false}
use Rattle.lexer.specs.Bytes.{is_letter, is_digit_lem, is_name_part_lem}
use Rattle.lexer.specs.Kinds.{k_literal, k_fixed_literal, is_name_lem, word_kind_lem}
use Rattle.lexer.specs.Tokens.{Token, longest_run, decimal, thousandths_of_lem, tokens}
use Rattle.lexer.proofs.laws.ItemLaws.{TokenForm, a_word, a-literal as literal-form, a-fixed-literal as fixed-form, an-and, a-mark}
use Rattle.lexer.proofs.laws.ItemLaws.{mark-no-name, run-all, kinds-apart}
use Rattle.lexer.proofs.laws.RowLaws.{TokenOf, token-of}
use Rattle.parser.specs.Tree.{Name, Sort, Part, Element, Ty.plain, TypeUse, Variable, Method, Class, Program}
use Rattle.parser.specs.Stream.{no_more, token_at, kind_at}
use Rattle.parser.specs.Grammar.{Kind, Derives, operate, one-operand, negate, no-negation, make-array, no-array, index, take-length, invoke}
use Rattle.parser.specs.Grammar.{no-suffix, a-literal, a-fixed-literal, a-true, a-false, a-name, a-this, make-object, get-register}
use Rattle.parser.specs.Grammar.{parentheses, none-given, some-given, one_argument, more-arguments, a_block, an-if, a-while, a-print}
use Rattle.parser.specs.Grammar.{an-assignment, an-element-assignment, put-register, no-statement, more-statements}
use Rattle.parser.specs.Grammar.{DerivesElement, an_int, a-boolean, a-class, DerivesType, an-array, no-mark, a-fixed}
use Rattle.parser.specs.Grammar.{DerivesVariable, a-variable, DerivesVariables, no-variable, more-variables}
use Rattle.parser.specs.Grammar.{DerivesParameters, one-parameter, more-parameters, DerivesFormals, no-formal, some-formals}
use Rattle.parser.specs.Grammar.{DerivesMethod, a-method, DerivesMethods, no-method, more-methods, DerivesParent, no-parent, a-parent}
use Rattle.parser.specs.Grammar.{DerivesClass, a-class-declaration, DerivesClasses, no-class, more-classes, DerivesProgram, a_program}
use Rattle.grammar.specs.laws.Passing.{seen, seen-kind}
use Rattle.printing.specs.Printed.{name_token}
use Rattle.printing.proofs.laws.Lexing.{Taken, separated, word-item}
use Rattle.printing.proofs.laws.Fitting.{Nameable, FitElement, Lexable, FitType, FitVariable, FitVariables, FitMethod, FitMethods}
use Rattle.printing.proofs.laws.Fitting.{FitParent, FitClass, FitClasses, FitProgram}

-- a name is a word
pub name-word : {k : ℕ} {t : List ℕ} → TokenForm k t → is_name_lem k ≡ true → (is_letter (get_or t 0 0) ≡ true) × (word_kind_lem t ≡ k)
unfolding is_name_lem
name-word (a_word l e) n = (l, e)
name-word literal-form n = absurd (false≢true n)
name-word fixed-form n = absurd (false≢true n)
name-word an-and n = absurd (false≢true n)
name-word (a-mark {b = b} e) n = absurd (false≢true (sym (mark-no-name b) ∙ ap is_name_lem e ∙ n))

-- the lexer takes a word that it gives the kind of a name
word-taken : (x : List ℕ) → is_letter (get_or x 0 0) ≡ true → All (λ b. is_name_part_lem b ≡ true) x → is_name_lem (word_kind_lem x) ≡ true
    → length x ≤ name_most → Taken (name_token x)
unfolding is_name_lem is_name_part_lem is_letter is_digit_lem
word-taken x l a n h =
    let k = word_kind_lem x in
    let no : eqb k k_literal ≡ false = kinds-apart is_name_lem k k_literal n refl in
    let no₂ : eqb k k_fixed_literal ≡ false = kinds-apart is_name_lem k k_fixed_literal n refl in
    record {
      nonempty = some x l;
      reads = λ i r. word-item i _ r x (separated (λ (c : ℕ). is_name_part_lem c ≡ false) refl refl k) l a;
      not-long = rw (le-ltb name_most (length x) h) (and-false (is_name_lem k));
      no_zero = rw (no, no₂);
      three = rw no₂;
      small = rw (no, no₂);
    }
  where
    some : (x : List ℕ) → is_letter (get_or x 0 0) ≡ true → 0 < length x
    some [] l = absurd (false≢true l)
    some (b ∷ x) l = omega arith

module _ (s : List ℕ) (ts : List Token) (lexed : tokens s ≡ accepted ts) where
  -- a token of the source
  pub token-here : (i : ℕ) → i < length ts → TokenOf s (token_at ts i)
  token-here i h = token-of s ts lexed i (token_at ts i) (get-get_d ts i no_more h)

  pub a-name-here : (i : ℕ) → is_name_lem (kind_at ts i) ≡ true → TokenOf s (token_at ts i)
  unfolding is_name_lem
  a-name-here i n = token-here i (seen ts i is_name_lem refl n)

  nameable : (i : ℕ) → is_name_lem (kind_at ts i) ≡ true → Nameable (token_at ts i).text
  nameable i n =
      let o = a-name-here i n in
      let w = name-word o.form n in
      let name_token : is_name_lem (word_kind_lem (token_at ts i).text) ≡ true = ap is_name_lem w.1 ∙ n in
      let parts = subst (All (λ b. is_name_part_lem b ≡ true)) (sym (o.named n)) (run-all is_name_part_lem _) in
      record { name = name_token; taken = word-taken (token_at ts i).text w.0 parts name_token (o.name n) }

  literal-most : (i : ℕ) → kind_at ts i ≡ k_literal → decimal 0 (token_at ts i).text ≤ literal_most
  literal-most i e = (token-here i (seen-kind ts i k_literal refl e)).literal e

  fixed-most : (i : ℕ) → kind_at ts i ≡ k_fixed_literal → thousandths_of_lem (token_at ts i).text ≤ literal_most
  fixed-most i e = ((token-here i (seen-kind ts i k_fixed_literal refl e)).fixed e).small

  fit-element : {i : ℕ} {t : Element} → DerivesElement ts i t → FitElement t
  fit-element (an_int e) = tt
  fit-element (a-boolean e) = tt
  fit-element (a-class {i = i} e) = nameable i e

  plain_type : {i : ℕ} {t : Element} → DerivesElement ts i t → FitType (plain t)
  plain_type (an_int e) = tt
  plain_type (a-boolean e) = tt
  plain_type (a-class {i = i} e) = nameable i e

  pub fit : {s : Sort} {k : Kind s} {i j : ℕ} {t : Part s} → Derives ts s k i j t → Lexable t
  fit (operate d e d₁) = (fit d, fit d₁)
  fit (one-operand d) = fit d
  fit (negate e d) = fit d
  fit (no-negation d) = fit d
  fit (make-array e d e₁ d₁ e₂) = (fit-element d, fit d₁)
  fit (no-array d) = fit d
  fit (index d e d₁ e₁) = (fit d, fit d₁)
  fit (take-length d e e₁) = fit d
  fit (invoke {m = m} d e e₁ e₂ d₁ e₃) = (fit d, nameable (m + 1) e₁, fit d₁)
  fit (no-suffix d) = fit d
  fit (a-literal {i = i} e) = literal-most i e
  fit (a-fixed-literal {i = i} e) = fixed-most i e
  fit (a-true e) = tt
  fit (a-false e) = tt
  fit (a-name {i = i} e) = nameable i e
  fit (a-this e) = tt
  fit (make-object {i = i} e e₁ e₂ e₃) = nameable (i + 1) e₁
  fit (get-register e e₁ e₂ e₃ d e₄) = fit d
  fit (parentheses e d e₁) = fit d
  fit none-given = tt
  fit (some-given d) = fit d
  fit (one_argument d) = (fit d, tt)
  fit (more-arguments d e ds) = (fit d, fit ds)
  fit (a_block e d e₁) = fit d
  fit (an-if e e₁ d e₂ d₁ e₃ d₂) = (fit d, fit d₁, fit d₂)
  fit (a-while e e₁ d e₂ d₁) = (fit d, fit d₁)
  fit (a-print e e₁ e₂ e₃ e₄ e₅ d e₆ e₇) = fit d
  fit (an-assignment {i = i} e e₁ d e₂) = (nameable i e, fit d)
  fit (an-element-assignment {i = i} e e₁ d e₂ e₃ d₁ e₄) = (nameable i e, fit d, fit d₁)
  fit (put-register e e₁ e₂ e₃ d e₄ d₁ e₅ e₆) = (fit d, fit d₁)
  fit no-statement = tt
  fit (more-statements d ds) = (fit d, fit ds)

  fit-type : {i j : ℕ} {t : TypeUse} → DerivesType ts i j t → FitType t.type
  fit-type (an-array d e e₁) = fit-element d
  fit-type (no-mark d) = plain_type d
  fit-type (a-fixed e) = tt

  fit-variable : {i j : ℕ} {v : Variable} → DerivesVariable ts i j v → FitVariable v
  fit-variable (a-variable {j = j} d e) = (fit-type d, nameable j e)

  fit-variables : {i j : ℕ} {vs : List Variable} → DerivesVariables ts i j vs → FitVariables vs
  fit-variables no-variable = tt
  fit-variables (more-variables d e ds) = (fit-variable d, fit-variables ds)

  fit-parameters : {i j : ℕ} {vs : List Variable} → DerivesParameters ts i j vs → FitVariables vs
  fit-parameters (one-parameter d) = (fit-variable d, tt)
  fit-parameters (more-parameters d e ds) = (fit-variable d, fit-parameters ds)

  fit-formals : {i j : ℕ} {vs : List Variable} → DerivesFormals ts i j vs → FitVariables vs
  fit-formals no-formal = tt
  fit-formals (some-formals d) = fit-parameters d

  fit-method : {i j : ℕ} {m : Method} → DerivesMethod ts i j m → FitMethod m
  fit-method (a-method e dh e₁ dp e₂ e₃ dl ds e₄ dv e₅ e₆) =
      let h = fit-variable dh in
      record { result = h.0; name = h.1; parameters = fit-formals dp; locals = fit-variables dl; body = fit ds; value = fit dv }

  fit-methods : {i j : ℕ} {ms : List Method} → DerivesMethods ts i j ms → FitMethods ms
  fit-methods no-method = tt
  fit-methods (more-methods d ds) = (fit-method d, fit-methods ds)

  fit-parent : {i j : ℕ} {o : Option Name} → DerivesParent ts i j o → FitParent o
  fit-parent no-parent = tt
  fit-parent (a-parent {i = i} e e₁) = nameable (i + 1) e₁

  fit-class : {i j : ℕ} {c : Class} → DerivesClass ts i j c → FitClass c
  fit-class (a-class-declaration {i = i} e e₁ dp e₂ df dm e₃) = record {
    name = nameable (i + 1) e₁;
    parent = fit-parent dp;
    fields = fit-variables df;
    methods = fit-methods dm;
  }

  fit-classes : {i j : ℕ} {cs : List Class} → DerivesClasses ts i j cs → FitClasses cs
  fit-classes no-class = tt
  fit-classes (more-classes d ds) = (fit-class d, fit-classes ds)

  pub fit-program : {p : Program} → DerivesProgram ts p → FitProgram p
  fit-program (a_program h d e e₁ ds) = record {
    main = nameable 1 h.at1;
    parameter = nameable 11 h.at11;
    statement = fit d;
    classes = fit-classes ds;
  }
