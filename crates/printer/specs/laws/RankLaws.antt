-- The kinds tell the class: of every expression that matches its tokens.
use Rattle.std.specs.Prelude.{ℕ, ◌+◌, ◌≡◌, List, true, false}
use Rattle.std.proofs.Math.Path.{refl}
use Rattle.std.proofs.Common.{sym, ap, ◌∙◌, arith}
use Rattle.lexer.specs.Kinds.{is_name_lem, k_literal, k_fixed_literal, k_true, k_false, k_this, k_port, k_and, k_less, k_plus, k_minus, k_times, k_not, k_new}
use Rattle.lexer.specs.Kinds.{k_dot, k_open, k_open_bracket}
use Rattle.lexer.specs.Tokens.{Token}
use Rattle.lexer.proofs.laws.ItemLaws.{kinds-apart}
use Rattle.parser.specs.Tree.{Operator.and, Operator.less, Operator.plus, Operator.minus, Operator.times}
use Rattle.parser.specs.Tree.{Expression, Numeral.int_literal, Numeral.fixed_literal}
use Rattle.parser.specs.Tree.{Part.literal, Part.truth, Part.variable, Part.this, Part.new_array_lem, Part.new_object_lem, Part.negation, Part.binary}
use Rattle.parser.specs.Tree.{Part.element, Part.array_length, Part.call, Part.port_get_lem}
use Rattle.parser.specs.Stream.{kind_at}
use Rattle.parser.specs.promises.Layout.{row_of}
use Rattle.reader.specs.promises.Matches.{Matches, TypeMatches, NumeralMatches}
use Rattle.printing.specs.Printed.{own, tightness}
use Rattle.printer.specs.promises.Ranks.{tightness_of}

-- a kind of which the definition says one number, whatever the third is
of-kind : {k : ℕ} (third q r : ℕ) → k ≡ q → r ≡ tightness_of q third → r ≡ tightness_of k third
of-kind third q r e h = h ∙ ap (λ (k : ℕ). tightness_of k third) (sym e)

-- the kind of a name is none of those that the definition names
of-name : (k third : ℕ) → is_name_lem k ≡ true → 7 ≡ tightness_of k third
unfolding tightness_of is_name_lem
of-name k third n =
    rw (
      kinds-apart is_name_lem k k_and n refl,
      kinds-apart is_name_lem k k_less n refl,
      kinds-apart is_name_lem k k_plus n refl,
      kinds-apart is_name_lem k k_minus n refl,
      kinds-apart is_name_lem k k_times n refl,
      kinds-apart is_name_lem k k_not n refl,
      kinds-apart is_name_lem k k_new n refl,
      kinds-apart is_name_lem k k_dot n refl,
      kinds-apart is_name_lem k k_open_bracket n refl,
    ) refl

of-new : {k : ℕ} (third q r : ℕ) → k ≡ k_new → third ≡ q → r ≡ tightness_of k_new q → r ≡ tightness_of k third
of-new third q r e f h = h ∙ (λ i. tightness_of (sym e i) (sym f i))

module _ (ts : List Token) where
  -- at its own row
  own-rank : (e : Expression) → Matches ts e → tightness (own e) ≡ tightness_of (kind_at ts (row_of e)) (kind_at ts (row_of e + 2))
  unfolding tightness_of Matches NumeralMatches TypeMatches
  own-rank (literal p (int_literal n)) m = of-kind (kind_at ts (p.row + 2)) k_literal 7 m.0.is refl
  own-rank (literal p (fixed_literal n)) m = of-kind (kind_at ts (p.row + 2)) k_fixed_literal 7 m.0.is refl
  own-rank (truth p true) m = of-kind (kind_at ts (p.row + 2)) k_true 7 m.is refl
  own-rank (truth p false) m = of-kind (kind_at ts (p.row + 2)) k_false 7 m.is refl
  own-rank (variable p x) m = of-name (kind_at ts p.row) (kind_at ts (p.row + 2)) m.named
  own-rank (this p) m = of-kind (kind_at ts (p.row + 2)) k_this 7 m.is refl
  own-rank (new_array_lem p u e) m =
      let z : p.row + 2 ≡ u.row + 1 = omega (arith, m.1) in
      of-new (kind_at ts (p.row + 2)) k_open_bracket 5 m.0.is (ap (kind_at ts) z ∙ m.2.1.is) refl
  own-rank (new_object_lem p c) m = of-new (kind_at ts (p.row + 2)) k_open 7 m.0.is m.3.is refl
  own-rank (negation p e) m = of-kind (kind_at ts (p.row + 2)) k_not 4 m.0.is refl
  own-rank (binary p and l r) m = of-kind (kind_at ts (p.row + 2)) k_and 0 m.0.is refl
  own-rank (binary p less l r) m = of-kind (kind_at ts (p.row + 2)) k_less 1 m.0.is refl
  own-rank (binary p plus l r) m = of-kind (kind_at ts (p.row + 2)) k_plus 2 m.0.is refl
  own-rank (binary p minus l r) m = of-kind (kind_at ts (p.row + 2)) k_minus 2 m.0.is refl
  own-rank (binary p times l r) m = of-kind (kind_at ts (p.row + 2)) k_times 3 m.0.is refl
  own-rank (element p a i) m = of-kind (kind_at ts (p.row + 2)) k_open_bracket 6 m.0.is refl
  own-rank (array_length p a) m = of-kind (kind_at ts (p.row + 2)) k_dot 6 m.0.is refl
  own-rank (call p e m es) w = of-kind (kind_at ts (p.row + 2)) k_dot 6 w.0.is refl
  own-rank (port_get_lem p e) m = of-kind (kind_at ts (p.row + 2)) k_port 7 m.0.is refl

  -- The kinds of a row's token and of the one two behind it tell the class of the expression that lies there.
  pub ranked : (row : ℕ) (e : Expression) → row_of e ≡ row → Matches ts e → tightness (own e) ≡ tightness_of (kind_at ts row)
      (kind_at ts (row + 2))
  ranked row e z m = own-rank e m ∙ ap (λ (i : ℕ). tightness_of (kind_at ts i) (kind_at ts (i + 2))) z
