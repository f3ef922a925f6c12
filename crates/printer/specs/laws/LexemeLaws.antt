-- The tokens of a source as the printed ones: a node's own token, a name, an element type.
use Rattle.std.specs.Prelude.{ℕ, ◌≡◌, List, [], ◌∷◌, true, false}
use Rattle.std.proofs.Math.Path.{refl, sym, ap}
use Rattle.std.proofs.Common.{◌∙◌}
use Rattle.std.proofs.lemmas.Bool.{false≢true}
use Rattle.base.specs.Outcome.{accepted}
use Rattle.lexer.specs.Kinds.{is_name_lem, k_true, k_false, k_this, k_int, k_boolean}
use Rattle.lexer.specs.Kinds.{k_fixed}
use Rattle.lexer.specs.Tokens.{Token, tokens}
use Rattle.parser.specs.Tree.{Expression, Numeral.int_literal, Numeral.fixed_literal, Element, Element.int, Element.boolean, Element.fixed}
use Rattle.parser.specs.Tree.{Element.class, Operator, Operator.and, Operator.less, Operator.plus, Operator.minus, Operator.times}
use Rattle.parser.specs.Tree.{Part.literal, Part.truth, Part.variable, Part.this, Part.new_array_lem, Part.new_object_lem, Part.negation, Part.binary}
use Rattle.parser.specs.Tree.{Part.element, Part.array_length, Part.call, Part.port_get_lem}
use Rattle.parser.specs.Stream.{token_at, kind_at}
use Rattle.parser.specs.promises.Layout.{row_of}
use Rattle.parser.specs.promises.Post.{is_atom_lem}
use Rattle.reader.specs.promises.Matches.{TokenIs, NameIs, ElementMatches, NumeralMatches, Matches, operator_kind}
use Rattle.printing.specs.Printed.{Lexeme, spelling, spelt, name_token, literal_token, element_token, kind_of, bare}
use Rattle.printing.proofs.laws.Lexing.{lexeme}
use Rattle.printing.proofs.laws.Digits.{copied, copied-fixed}
use Rattle.printing.proofs.laws.Spelled.{listed, spelled, spelled-text}
use Rattle.printing.proofs.laws.Fits.{name-word, token-here}

module _ (s : List ℕ) (ts : List Token) (lexed : tokens s ≡ accepted ts) where
  pub spelt-lexeme : (i k : ℕ) → listed k spelled ≡ true → TokenIs ts i k → lexeme (token_at ts i) ≡ spelt k
  spelt-lexeme i k m t =
      let e = t.is in
      let x = spelled-text (token-here s ts lexed i t.there).form (ap (λ (q : ℕ). listed q spelled) e ∙ m) in
      λ n. record { kind = e n; text = (sym x ∙ ap spelling e) n }

  pub named-lexeme : (i : ℕ) {x : List ℕ} → NameIs ts i x → lexeme (token_at ts i) ≡ name_token x
  named-lexeme i t =
      let w = (name-word (token-here s ts lexed i t.there).form t.named).1 in
      (λ n. record { kind = sym w n; text = (token_at ts i).text }) ∙ ap name_token t.spelt

  pub element-lexeme : (i : ℕ) (t : Element) → ElementMatches ts i t → lexeme (token_at ts i) ≡ element_token t
  unfolding ElementMatches
  element-lexeme i int m = spelt-lexeme i k_int refl m
  element-lexeme i boolean m = spelt-lexeme i k_boolean refl m
  element-lexeme i fixed m = spelt-lexeme i k_fixed refl m
  element-lexeme i (class x) m = named-lexeme i m

  operator-kind : (o : Operator) → operator_kind o ≡ kind_of o
  operator-kind and = refl
  operator-kind less = refl
  operator-kind plus = refl
  operator-kind minus = refl
  operator-kind times = refl

  operator-spelled : (o : Operator) → listed (operator_kind o) spelled ≡ true
  operator-spelled and = refl
  operator-spelled less = refl
  operator-spelled plus = refl
  operator-spelled minus = refl
  operator-spelled times = refl

  pub operator-lexeme : (i : ℕ) (o : Operator) → TokenIs ts i (operator_kind o) → lexeme (token_at ts i) ≡ spelt (kind_of o)
  operator-lexeme i o t = spelt-lexeme i (operator_kind o) (operator-spelled o) t ∙ ap spelt (operator-kind o)

  -- an expression of one token
  other : {k q : ℕ} {A : Type 0} → k ≡ q → is_atom_lem q ≡ false → is_atom_lem k ≡ true → A
  other e f t = absurd (false≢true (sym f ∙ ap is_atom_lem (sym e) ∙ t))

  no-atom : (o : Operator) → is_atom_lem (operator_kind o) ≡ false
  unfolding is_atom_lem is_name_lem
  no-atom and = refl
  no-atom less = refl
  no-atom plus = refl
  no-atom minus = refl
  no-atom times = refl

  pub atom-lexeme : (e : Expression) → Matches ts e → is_atom_lem (kind_at ts (row_of e)) ≡ true
      → lexeme (token_at ts (row_of e)) ∷ [] ≡ bare e []
  unfolding Matches NumeralMatches bare is_atom_lem is_name_lem
  atom-lexeme (literal p (int_literal n)) m t =
      let o = token-here s ts lexed p.row m.0.there in
      let x = copied o m.0.is in
      (λ i. record { kind = m.0.is i; text = sym x i } ∷ []) ∙ ap (λ (v : ℕ). literal_token (int_literal v) ∷ []) m.1
  atom-lexeme (literal p (fixed_literal n)) m t =
      let o = token-here s ts lexed p.row m.0.there in
      let x = copied-fixed o m.0.is in
      (λ i. record { kind = m.0.is i; text = sym x i } ∷ []) ∙ ap (λ (v : ℕ). literal_token (fixed_literal v) ∷ []) m.1
  atom-lexeme (truth p true) m t = ap (λ (l : Lexeme). l ∷ []) (spelt-lexeme p.row k_true refl m)
  atom-lexeme (truth p false) m t = ap (λ (l : Lexeme). l ∷ []) (spelt-lexeme p.row k_false refl m)
  atom-lexeme (variable p x) m t = ap (λ (l : Lexeme). l ∷ []) (named-lexeme p.row m)
  atom-lexeme (this p) m t = ap (λ (l : Lexeme). l ∷ []) (spelt-lexeme p.row k_this refl m)
  atom-lexeme (new_array_lem p u e) m t = other m.0.is refl t
  atom-lexeme (new_object_lem p c) m t = other m.0.is refl t
  atom-lexeme (negation p e) m t = other m.0.is refl t
  atom-lexeme (binary p o l r) m t = other m.0.is (no-atom o) t
  atom-lexeme (element p a i) m t = other m.0.is refl t
  atom-lexeme (array_length p a) m t = other m.0.is refl t
  atom-lexeme (call p e m es) w t = other w.0.is refl t
  atom-lexeme (port_get_lem p e) m t = other m.0.is refl t
