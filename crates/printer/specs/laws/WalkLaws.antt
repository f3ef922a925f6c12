-- What the functions on expressions return meets their contracts: a row shows the form of its node, and the tokens of a form are those of
-- its parts and its own, one behind another (printing, `Pieces`).
use Rattle.std.specs.Prelude.{ℕ, ◌+◌, ◌-◌, ◌≤◌, ◌<◌, ◌≡◌, Bool, true, false, length}
use Rattle.std.proofs.Math.Path.{refl, sym, ap, subst}
use Rattle.std.proofs.Common.{◌∙◌, arith}
use mathlib.Core.List.{List, [], ◌∷◌, ◌++◌}
use borrow.Author.Tests.{le-leb, lt-leb, ne_eqb}
use Rattle.base.specs.Bytes.{bytes}
use Rattle.base.specs.Codes.{tokens_most}
use Rattle.base.specs.promises.Table.{c_first, c_second, c_next}
use Rattle.lexer.specs.Bytes.{b_space, b_close, b_close_bracket}
use Rattle.lexer.specs.Kinds.{words, is_name_lem, k_new, k_dot, k_not, k_port, k_length, k_get, k_open, k_close, k_comma, k_open_bracket, k_close_bracket}
use Rattle.lexer.specs.Tokens.{Token}
use Rattle.parser.specs.Tree.{Operator, Operator.and, Operator.less, Operator.plus, Operator.minus, Operator.times}
use Rattle.parser.specs.Tree.{Sort, Sort.expression, Sort.arguments, Part, Expression}
use Rattle.parser.specs.Tree.{Part.literal, Part.truth, Part.variable, Part.this, Part.new_array_lem, Part.new_object_lem, Part.negation, Part.binary}
use Rattle.parser.specs.Tree.{Part.element, Part.array_length, Part.call, Part.port_get_lem, Part.no_arguments, Part.argument}
use Rattle.parser.specs.Stream.{token_at, kind_at}
use Rattle.parser.specs.Measure.{nodes}
use Rattle.parser.specs.promises.Layout.{absent, row_of}
use Rattle.parser.specs.promises.Post.{kind_in_table, is_atom_lem}
use Rattle.reader.specs.promises.Matches.{Matches, TypeMatches}
use Rattle.lookup.specs.promises.HeldClasses.{word_at, Lexemes}
use Rattle.lookup.specs.laws.HeldLaws.{kinds}
use Rattle.lookup.specs.promises.Shows.{PartAt, Form, a_new_array, a_new_object, a_negation, a_binary, an_element, a_length, a_call_shown, a_port_get}
use Rattle.lookup.specs.promises.Shows.{form_at}
use Rattle.lookup.specs.promises.Shows.{form_e, form_compound, Shows, shows-new-array, shows-new-object, shows-negation}
use Rattle.lookup.specs.promises.Shows.{shows-binary}
use Rattle.lookup.specs.promises.Shows.{shows-element, shows-length, shows-call, shows-port-get, GoesOn, one-more-argument}
use Rattle.lookup.specs.laws.ShowLaws.{Bounds, shown, goes_on, ended, there}
use Rattle.printing.specs.Printed.{Lexeme, marks, spelling, spelt, name_token, element_token, kind_of, own, tightness}
use Rattle.printing.specs.Printed.{bare}
use Rattle.printing.specs.Printed.{separator}
use Rattle.printing.specs.Printed.{left_of, right_of, print_in, render}
use Rattle.printing.proofs.laws.Lexing.{lexeme}
use Rattle.printing.proofs.laws.Appending.{bare-append, render-append}
use Rattle.printing.proofs.laws.Pieces.{of-new-array, of-negation, of-binary, of-element, of_length, of-call, of-port-get, of-arguments}
use Rattle.printer.specs.declared.job.Job.{Job}
use Rattle.printer.specs.promises.Puts.{text_room, Puts, TokenPut}
use Rattle.printer.specs.promises.Ranks.{tightness_of}
use Rattle.printer.specs.promises.Walks.{PartReached, Tighter, AtMost, placed, Whatever, PartPut, FormPut, EnclosedPut}
use Rattle.printer.specs.promises.Walks.{GivenPut}
use Rattle.printer.specs.promises.Walks.{MadePut, MemberPut}
use Rattle.printer.specs.laws.PutLaws.{puts-more, tokens-more}
use Rattle.printer.specs.laws.RankLaws.{ranked}
use Rattle.printer.specs.laws.LexemeLaws.{element-lexeme, named-lexeme, operator-lexeme, atom-lexeme}

-- PIECES

-- other bytes that are the same
pub likewise : {xs ys : List ℕ} {at r : ℕ} {c c' : List ℕ} → xs ≡ ys → Puts at xs c c' r → Puts at ys c c' r
likewise {at = at} {r} {c} {c'} e p = subst (λ (l : List ℕ). Puts at l c c' r) e p

-- what holds of the part that was found
module _ (s tab : List ℕ) (n : ℕ) (job : Job) {k at : ℕ} {part : Job} (f : PartReached tab k job at part) where
  -- where it lies
  pub found : {ts : List Token} {q : Sort} {t : Part q} → PartAt tab ts (word_at tab k job.row) (AtMost job.left q) t
      → PartAt tab ts part.row (AtMost part.left q) t
  found h = record { at = h.at ∙ sym f.leads; holds = h.holds; matches = h.matches; within = omega (arith, h.within, f.nodes) }

  pub put-part : {q : Sort} {w r : ℕ} {c c' : List ℕ} → PartPut s tab n q w part c c' r
      → Whatever s tab n λ ts. (t : Part q) → PartAt tab ts (word_at tab k job.row) (AtMost job.left q) t
      → Puts at (render (placed w t)) c c' r
  put-part {w = w} {r} {c} {c'} p ts lx rows t h =
      subst (λ (i : ℕ). Puts i (render (placed w t)) c c' r) f.begins (p.says ts lx rows t (found h))

  pub put-enclosed : {close r : ℕ} {c c' : List ℕ} → EnclosedPut s tab n close part c c' r
      → Whatever s tab n λ ts. (e : Expression) → PartAt tab ts (word_at tab k job.row) (AtMost job.left expression) e
      → Puts at (render (bare e []) ++ close ∷ b_space ∷ []) c c' r
  put-enclosed {close} {r} {c} {c'} p ts lx rows e h =
      subst (λ (i : ℕ). Puts i (render (bare e []) ++ close ∷ b_space ∷ []) c c' r) f.begins (p.says ts lx rows e (found h))

  put-given : {r : ℕ} {c c' : List ℕ} → GivenPut s tab n part c c' r
      → Whatever s tab n λ ts. (es : Part arguments) → PartAt tab ts (word_at tab k job.row) (AtMost job.left arguments) es
      → Puts at (render (bare es [] ++ spelt k_close ∷ [])) c c' r
  put-given {r} {c} {c'} p ts lx rows es h =
      subst (λ (i : ℕ). Puts i (render (bare es [] ++ spelt k_close ∷ [])) c c' r) f.begins (p.says ts lx rows es (found h))

-- a place that wants the lowest class adds nothing
pub in-loosest-place : {q : Sort} (t : Part q) → placed 0 t ≡ bare t []
in-loosest-place t = rw (le-leb 0 (tightness (own t)) (omega arith))

-- LEAVES

module _ {s tab : List ℕ} {n row at : ℕ} where
  pub made-put : {a r : ℕ} {c c₁ c₂ : List ℕ} → Puts at (bytes "new" ++ b_space ∷ []) c c₁ a → TokenPut s tab (row + 1) a c₁ c₂ r
      → MadePut s tab n row at c c₂ r
  unfolding render spelling words marks separator
  made-put p q = record { within = q.within; says = λ ts lx rows l. puts-more p (q.says n ts lx rows l) }

  pub member-put : {a b r : ℕ} {c c₁ c₂ c₃ : List ℕ} → Puts at (bytes "." ++ b_space ∷ []) c c₁ a → TokenPut s tab (row + 1) a c₁ c₂ b
      → Puts b (bytes "(" ++ b_space ∷ []) c₂ c₃ r → MemberPut s tab n row at c c₃ r
  unfolding render spelling words marks separator
  member-put p q w = record {
    within = w.within;
    says = λ ts lx rows l.
        let t = lexeme (token_at ts (row + 1)) in
        tokens-more (spelt k_dot ∷ []) (t ∷ spelt k_open ∷ []) p (tokens-more (t ∷ []) (spelt k_open ∷ []) (q.says n ts lx rows l) w);
  }

-- EXPRESSIONS

pub positive : (e : Expression) → 1 ≤ nodes e
unfolding nodes
positive (literal p n) = omega arith
positive (truth p b) = omega arith
positive (variable p x) = omega arith
positive (this p) = omega arith
positive (new_array_lem p u e) = omega arith
positive (new_object_lem p c) = omega arith
positive (negation p e) = omega arith
positive (binary p o l r) = omega arith
positive (element p a i) = omega arith
positive (array_length p a) = omega arith
positive (call p e m es) = omega arith
positive (port_get_lem p e) = omega arith

-- the parts of a node have fewer nodes
fewer : (row left : ℕ) → Bounds row (AtMost (left + 1)) (AtMost left) (AtMost left)
unfolding nodes
fewer row left = record {
  of-new-array = λ at w. omega arith;
  of-negation = λ at w. omega arith;
  of-binary = λ at w. (omega arith, omega arith);
  of-element = λ at w. (omega arith, omega arith);
  of_length = λ at w. omega arith;
  of-call = λ at w. (omega arith, omega arith);
  of-port-get = λ at w. omega arith;
}

-- the same without the node itself
abbrev one_less : Job → ℕ → Job
one_less job at = record { left = job.left - 1; row = job.row; at = at }

module _ (s tab : List ℕ) (n : ℕ) (job : Job) where
  -- the tokens of a form that is not the empty one
  form_of : {at r : ℕ} {c c' : List ℕ} → (job.left ≡ 0 → ⊥) → FormPut s tab n (form_at tab n job.row) (one_less job at) c c' r
      → Whatever s tab n λ ts. (e : Expression) → PartAt tab ts job.row (AtMost job.left expression) e
      → Puts at (render (bare e [])) c c' r
  form_of some f ts lx rows e h =
      let g : PartAt tab ts job.row (AtMost (job.left - 1 + 1) expression) e =
      record { at = h.at; holds = h.holds; matches = h.matches; within = omega (arith, h.within) } in
      let b = fewer job.row (job.left - 1) in
      f.says ts lx rows e g
      (shown rows job.row (AtMost (job.left - 1 + 1)) (AtMost (job.left - 1)) (AtMost (job.left - 1)) b refl e g)

  -- its class
  own-rank : {k third ρ : ℕ} → k ≡ kind_in_table tab n job.row → third ≡ kind_in_table tab n (job.row + 2) → ρ ≡ tightness_of k third
      → {ts : List Token} → Lexemes tab n ts → (e : Expression) → PartAt tab ts job.row (AtMost job.left expression) e
      → tightness (own e) ≡ ρ
  own-rank is is₃ ranks {ts} rows e h =
      ranked ts job.row e h.at h.matches
      ∙ (λ i. tightness_of (sym (is ∙ kinds rows job.row) i) (sym (is₃ ∙ kinds rows (job.row + 2)) i)) ∙ sym ranks

module _ {s tab : List ℕ} {n w : ℕ} {job : Job} where
  pub expression-none : {c : List ℕ} → job.left ≡ 0 → job.at ≤ text_room → PartPut s tab n expression w job c c job.at
  expression-none z h = record { within = h; says = λ ts lx rows e p. absurd (omega (arith, p.within, positive e, z)) }

  pub expression-bare : {k third ρ r : ℕ} {c c' : List ℕ} → (job.left ≡ 0 → ⊥) → k ≡ kind_in_table tab n job.row
      → third ≡ kind_in_table tab n (job.row + 2) → ρ ≡ tightness_of k third → w ≤ ρ
      → FormPut s tab n (form_at tab n job.row) (one_less job job.at) c c' r → PartPut s tab n expression w job c c' r
  expression-bare some is is₃ ranks le f = record {
    within = f.within;
    says = λ ts lx rows e h.
        rw (le-leb w (tightness (own e)) (omega (arith, own-rank s tab n job is is₃ ranks rows e h)))
        (form_of s tab n job some f ts lx rows e h);
  }

  pub expression-pair : {k third ρ a b r : ℕ} {c c₁ c₂ c₃ : List ℕ} → (job.left ≡ 0 → ⊥) → k ≡ kind_in_table tab n job.row
      → third ≡ kind_in_table tab n (job.row + 2) → ρ ≡ tightness_of k third → ρ < w → Puts job.at (bytes "(" ++ b_space ∷ []) c c₁ a
      → FormPut s tab n (form_at tab n job.row) (one_less job a) c₁ c₂ b → Puts b (bytes ")" ++ b_space ∷ []) c₂ c₃ r
      → PartPut s tab n expression w job c c₃ r
  unfolding render spelling words marks separator
  expression-pair some is is₃ ranks lt p f q = record {
    within = q.within;
    says = λ ts lx rows e h.
        rw (lt-leb w (tightness (own e)) (omega (arith, own-rank s tab n job is is₃ ranks rows e h)), bare-append e [] (spelt k_close ∷ []))
        (tokens-more (spelt k_open ∷ []) (bare e [] ++ spelt k_close ∷ []) p
        (tokens-more (bare e []) (spelt k_close ∷ []) (form_of s tab n job some f ts lx rows e h) q));
  }

module _ {s tab : List ℕ} {n : ℕ} {job : Job} where
  pub enclosed-put : {close a b r : ℕ} {c c₁ c₂ c₃ : List ℕ} → PartPut s tab n expression 0 job c c₁ a → Puts a (close ∷ []) c₁ c₂ b
      → Puts b (b_space ∷ []) c₂ c₃ r → EnclosedPut s tab n close job c c₃ r
  enclosed-put {close} f p q = record {
    within = q.within;
    says = λ ts lx rows e h.
        puts-more (likewise (ap render (in-loosest-place e)) (f.says ts lx rows e h)) (puts-more p q);
  }

  pub given-put : {a r : ℕ} {c c₁ c₂ : List ℕ} → PartPut s tab n arguments 0 job c c₁ a → Puts a (bytes ")" ++ b_space ∷ []) c₁ c₂ r
      → GivenPut s tab n job c c₂ r
  unfolding render spelling words marks separator
  given-put f p = record {
    within = p.within;
    says = λ ts lx rows es h.
        tokens-more (bare es []) (spelt k_close ∷ []) (likewise (ap render (in-loosest-place es)) (f.says ts lx rows es h)) p;
  }

-- FORMS

module _ (s tab : List ℕ) (n : ℕ) (job : Job) where
  -- the kinds tell the form
  formed : {F : Form} {c c' : List ℕ} {r : ℕ} → form_at tab n job.row ≡ F → FormPut s tab n F job c c' r
      → FormPut s tab n (form_at tab n job.row) job c c' r
  formed {c = c} {c'} {r} e f = subst (λ (F : Form). FormPut s tab n F job c c' r) (sym e) f

  by_kind : {F : Form} {k : ℕ} (q : ℕ) → k ≡ kind_in_table tab n job.row → k ≡ q → ((next third : ℕ) → form_e q next third ≡ F)
      → form_at tab n job.row ≡ F
  by_kind q is e f =
      ap (λ (j : ℕ). form_e j (kind_in_table tab n (job.row + 1)) (kind_in_table tab n (job.row + 2))) (sym is ∙ e) ∙ f _ _

  -- what is to be written of an expression of a form
  abbrev PrintableTree : Form → (c c' : List ℕ) (r : ℕ) → Type 0
  PrintableTree F c c' r =
      Whatever s tab n λ ts. (e : Expression) → PartAt tab ts job.row (AtMost (job.left + 1) expression) e
      → Shows tab ts n job.row (AtMost job.left) (AtMost job.left) F e → Puts job.at (render (bare e [])) c c' r

module _ {s tab : List ℕ} {n : ℕ} {job : Job} where
  module _ {k : ℕ} (is : k ≡ kind_in_table tab n job.row) where
    pub form-atom : {b : Bool} {c c' : List ℕ} {r : ℕ} → b ≡ is_atom_lem k → b ≡ true → TokenPut s tab job.row job.at c c' r
        → FormPut s tab n (form_at tab n job.row) job c c' r
    form-atom a t p = record {
      within = p.within;
      says = λ ts lx rows e h sh.
          let z : is_atom_lem (kind_at ts (row_of e)) ≡ true =
          ap (λ (i : ℕ). is_atom_lem (kind_at ts i)) h.at ∙ ap is_atom_lem (sym (is ∙ kinds rows job.row)) ∙ sym a ∙ t in
          let l = ap (λ (i : ℕ). lexeme (token_at ts i) ∷ []) (sym h.at) ∙ atom-lexeme s ts lx e h.matches z in
          likewise (ap render l) (p.says n ts lx rows (omega (arith, there ts e h.matches, h.at)));
    }

    pub form-not : {a r : ℕ} {part : Job} {c c₁ c₂ : List ℕ} → k ≡ k_not → Puts job.at (bytes "!" ++ b_space ∷ []) c c₁ a
        → PartReached tab c_first job a part → PartPut s tab n expression 4 part c₁ c₂ r
        → FormPut s tab n (form_at tab n job.row) job c c₂ r
    unfolding render spelling words marks separator form_e form_compound is_atom_lem is_name_lem
    form-not {r = r} {c = c} {c₂ = c₂} e p g f =
        formed s tab n job (by_kind s tab n job k_not is e (λ _ _. refl)) (record { within = f.within; says = go })
      where
        go : PrintableTree s tab n job a_negation c c₂ r
        go ts lx rows e h (shows-negation {p = q} {e = x} st y) =
            likewise (ap render (sym (of-negation q x)))
            (tokens-more (spelt k_not ∷ []) (placed 4 x) p (put-part s tab n job g f ts lx rows x y))

    pub form-port : {a r : ℕ} {part : Job} {c c₁ c₂ : List ℕ} → k ≡ k_port → Puts job.at (bytes "Port . get (" ++ b_space ∷ []) c c₁ a
        → PartReached tab c_first job a part → EnclosedPut s tab n b_close part c₁ c₂ r
        → FormPut s tab n (form_at tab n job.row) job c c₂ r
    unfolding render spelling words marks separator form_e form_compound is_atom_lem is_name_lem
    form-port {r = r} {c = c} {c₂ = c₂} e p g f =
        formed s tab n job (by_kind s tab n job k_port is e (λ _ _. refl)) (record { within = f.within; says = go })
      where
        go : PrintableTree s tab n job a_port_get c c₂ r
        go ts lx rows e h (shows-port-get {p = q} {e = x} st y) =
            likewise (ap render (sym (of-port-get q x)))
            (tokens-more (spelt k_port ∷ spelt k_dot ∷ spelt k_get ∷ spelt k_open ∷ []) (bare x [] ++ spelt k_close ∷ []) p
            (likewise (sym (render-append (bare x []) (spelt k_close ∷ []))) (put-enclosed s tab n job g f ts lx rows x y)))

    module _ {third : ℕ} (is₃ : third ≡ kind_in_table tab n (job.row + 2)) where
      pub form-array : {a b r : ℕ} {part : Job} {c c₁ c₂ c₃ : List ℕ} → k ≡ k_new → third ≡ k_open_bracket
          → MadePut s tab n job.row job.at c c₁ a → Puts a (bytes "[" ++ b_space ∷ []) c₁ c₂ b
          → PartReached tab c_first job b part → EnclosedPut s tab n b_close_bracket part c₂ c₃ r
          → FormPut s tab n (form_at tab n job.row) job c c₃ r
      unfolding render spelling words marks separator form_e form_compound is_atom_lem is_name_lem Matches TypeMatches
      form-array {r = r} {c = c} {c₃ = c₃} e e₃ m p g f =
          formed s tab n job form (record { within = f.within; says = go })
        where
          form : form_at tab n job.row ≡ a_new_array
          form =
              ap (λ (j : ℕ). form_e j (kind_in_table tab n (job.row + 1)) (kind_in_table tab n (job.row + 2))) (sym is ∙ e)
              ∙ ap (form_e k_new (kind_in_table tab n (job.row + 1))) (sym is₃ ∙ e₃)

          go : PrintableTree s tab n job a_new_array c c₃ r
          go ts lx rows e h (shows-new-array {p = q} {u = u} {e = x} st tm sw y) =
              let el = element-lexeme s ts lx (job.row + 1) u.element tm.0 in
              let l : job.row + 1 < length ts = omega (arith, tm.1.there) in
              likewise (ap render (sym (of-new-array q u x)))
              (tokens-more (spelt k_new ∷ element_token u.element ∷ []) (spelt k_open_bracket ∷ (bare x [] ++ spelt k_close_bracket ∷ []))
              (likewise (ap (λ (t : Lexeme). render (spelt k_new ∷ t ∷ [])) el) (m.says ts lx rows l))
              (tokens-more (spelt k_open_bracket ∷ []) (bare x [] ++ spelt k_close_bracket ∷ []) p
              (likewise (sym (render-append (bare x []) (spelt k_close_bracket ∷ []))) (put-enclosed s tab n job g f ts lx rows x y))))

      pub form-object : {a r : ℕ} {c c₁ c₂ : List ℕ} → k ≡ k_new → (third ≡ k_open_bracket → ⊥)
          → MadePut s tab n job.row job.at c c₁ a → Puts a (bytes "( )" ++ b_space ∷ []) c₁ c₂ r
          → FormPut s tab n (form_at tab n job.row) job c c₂ r
      unfolding render spelling words marks separator form_e form_compound is_atom_lem is_name_lem Matches bare
      form-object {r = r} {c = c} {c₂ = c₂} e other m p =
          formed s tab n job form (record { within = p.within; says = go })
        where
          form : form_at tab n job.row ≡ a_new_object
          form =
              ap (λ (j : ℕ). form_e j (kind_in_table tab n (job.row + 1)) (kind_in_table tab n (job.row + 2))) (sym is ∙ e)
              ∙ rw (sym is₃, ne_eqb third k_open_bracket other) refl

          go : PrintableTree s tab n job a_new_object c c₂ r
          go ts lx rows e h (shows-new-object {p = q} {c = d} st nn sw) =
              let z : d.row ≡ job.row + 1 = omega (arith, h.matches.1, h.at) in
              let nl = ap (λ (i : ℕ). lexeme (token_at ts i)) (sym z) ∙ named-lexeme s ts lx d.row h.matches.2.token in
              let l : job.row + 1 < length ts = omega (arith, h.matches.2.token.there) in
              tokens-more (spelt k_new ∷ name_token d.text ∷ []) (spelt k_open ∷ spelt k_close ∷ [])
              (likewise (ap (λ (t : Lexeme). render (spelt k_new ∷ t ∷ [])) nl) (m.says ts lx rows l)) p

    pub form-element : {r : ℕ} {c c' : List ℕ} → k ≡ k_open_bracket → FormPut s tab n an_element job c c' r
        → FormPut s tab n (form_at tab n job.row) job c c' r
    unfolding form_e form_compound is_atom_lem is_name_lem
    form-element e f = formed s tab n job (by_kind s tab n job k_open_bracket is e (λ _ _. refl)) f

    pub form-binary : {b : Bool} {r : ℕ} {c c' : List ℕ} → b ≡ is_atom_lem k → b ≡ false → (k ≡ k_new → ⊥) → (k ≡ k_dot → ⊥) → (k ≡ k_not → ⊥)
        → (k ≡ k_port → ⊥) → (k ≡ k_open_bracket → ⊥) → FormPut s tab n a_binary job c c' r
        → FormPut s tab n (form_at tab n job.row) job c c' r
    unfolding form_e form_compound
    form-binary a t n₁ n₂ n₃ n₄ n₅ f =
        formed s tab n job
        (ap (λ (j : ℕ). form_e j (kind_in_table tab n (job.row + 1)) (kind_in_table tab n (job.row + 2))) (sym is)
        ∙ rw (
          sym a ∙ t,
          ne_eqb k k_new n₁,
          ne_eqb k k_dot n₂,
          ne_eqb k k_not n₃,
          ne_eqb k k_port n₄,
          ne_eqb k k_open_bracket n₅,
        ) refl) f

  -- `.length` and calls
  module _ (is : kind_in_table tab n job.row ≡ k_dot) {first : Job} {a : ℕ} {c c₁ : List ℕ} (g : PartReached tab c_first job job.at first)
      (f : PartPut s tab n expression 5 first c c₁ a) {x : ℕ} (read : x ≡ kind_in_table tab n (job.row + 1)) where
    pub dotted-length : {r : ℕ} {c₂ : List ℕ} → x ≡ k_length → Puts a (bytes ". length" ++ b_space ∷ []) c₁ c₂ r
        → FormPut s tab n (form_at tab n job.row) job c c₂ r
    unfolding render spelling words marks separator form_e form_compound is_atom_lem is_name_lem
    dotted-length {r} {c₂} e p = formed s tab n job form (record { within = p.within; says = go })
      where
        form : form_at tab n job.row ≡ a_length
        form =
            ap (λ (j : ℕ). form_e j (kind_in_table tab n (job.row + 1)) (kind_in_table tab n (job.row + 2))) is
            ∙ ap (λ (j : ℕ). form_e k_dot j (kind_in_table tab n (job.row + 2))) (sym read ∙ e)

        go : PrintableTree s tab n job a_length c c₂ r
        go ts lx rows e h (shows-length {p = q} {e = y} st z) =
            likewise (ap render (sym (of_length q y)))
            (tokens-more (placed 5 y) (spelt k_dot ∷ spelt k_length ∷ []) (put-part s tab n job g f ts lx rows y z) p)

    pub dotted-call : {b r : ℕ} {second : Job} {c₂ c₃ : List ℕ} → (x ≡ k_length → ⊥) → MemberPut s tab n job.row a c₁ c₂ b
        → PartReached tab c_second job b second → GivenPut s tab n second c₂ c₃ r → FormPut s tab n (form_at tab n job.row) job c c₃ r
    unfolding render spelling words marks separator form_e form_compound is_atom_lem is_name_lem Matches
    dotted-call {r = r} {c₃ = c₃} other m g₂ v = formed s tab n job form (record { within = v.within; says = go })
      where
        form : form_at tab n job.row ≡ a_call_shown
        form =
            ap (λ (j : ℕ). form_e j (kind_in_table tab n (job.row + 1)) (kind_in_table tab n (job.row + 2))) is
            ∙ rw (sym read, ne_eqb x k_length other) refl

        go : PrintableTree s tab n job a_call_shown c c₃ r
        go ts lx rows e h (shows-call {p = q} {e = y} {m = d} {es = es} st nn sw z z₂) =
            let i : d.row ≡ job.row + 1 = omega (arith, h.matches.1, h.at) in
            let nl = ap (λ (i : ℕ). lexeme (token_at ts i)) (sym i) ∙ named-lexeme s ts lx d.row h.matches.2.token in
            let l : job.row + 1 < length ts = omega (arith, h.matches.2.token.there) in
            likewise (ap render (sym (of-call q y d es)))
            (tokens-more (placed 5 y) ((spelt k_dot ∷ name_token d.text ∷ spelt k_open ∷ []) ++ (bare es [] ++ spelt k_close ∷ []))
            (put-part s tab n job g f ts lx rows y z)
            (tokens-more (spelt k_dot ∷ name_token d.text ∷ spelt k_open ∷ []) (bare es [] ++ spelt k_close ∷ [])
            (likewise (ap (λ (t : Lexeme). render (spelt k_dot ∷ t ∷ spelt k_open ∷ [])) nl) (m.says ts lx rows l))
            (put-given s tab n job g₂ v ts lx rows es z₂)))

  pub element-put : {a b r : ℕ} {first second : Job} {c c₁ c₂ c₃ : List ℕ} → PartReached tab c_first job job.at first
      → PartPut s tab n expression 6 first c c₁ a → Puts a (bytes "[" ++ b_space ∷ []) c₁ c₂ b → PartReached tab c_second job b second
      → EnclosedPut s tab n b_close_bracket second c₂ c₃ r → FormPut s tab n an_element job c c₃ r
  unfolding render spelling words marks separator
  element-put {r = r} {c = c} {c₃ = c₃} g f p g₂ v = record { within = v.within; says = go }
    where
      go : PrintableTree s tab n job an_element c c₃ r
      go ts lx rows e h (shows-element {p = q} {a = y} {i = x} st z z₂) =
          likewise (ap render (sym (of-element q y x)))
          (tokens-more (placed 6 y) ((spelt k_open_bracket ∷ []) ++ (bare x [] ++ spelt k_close_bracket ∷ []))
          (put-part s tab n job g f ts lx rows y z)
          (tokens-more (spelt k_open_bracket ∷ []) (bare x [] ++ spelt k_close_bracket ∷ []) p
          (likewise (sym (render-append (bare x []) (spelt k_close_bracket ∷ []))) (put-enclosed s tab n job g₂ v ts lx rows x z₂))))

  pub binary-put : {w v a b r : ℕ} {first second : Job} {c c₁ c₂ c₃ : List ℕ}
      → w ≡ tightness_of (kind_in_table tab n job.row) (kind_in_table tab n (job.row + 2)) → PartReached tab c_first job job.at first
      → PartPut s tab n expression w first c c₁ a → TokenPut s tab job.row a c₁ c₂ b → Tighter w v → PartReached tab c_second job b second
      → PartPut s tab n expression v second c₂ c₃ r → FormPut s tab n a_binary job c c₃ r
  unfolding Matches
  binary-put {w} {v} {r = r} {c = c} {c₃ = c₃} ranks g f t u g₂ f₂ = record { within = f₂.within; says = go }
    where
      go : PrintableTree s tab n job a_binary c c₃ r
      go ts lx rows e h (shows-binary {p = q} {o = o} {l = y} {r = x} st kd z z₂) =
          let m = h.matches in
          let own-class : tightness (left_of o) ≡ w =
          ranked ts job.row (binary q o y x) h.at m
          ∙ (λ i. tightness_of (sym (kinds rows job.row) i) (sym (kinds rows (job.row + 2)) i)) ∙ sym ranks in
          let right-class : tightness (right_of o) ≡ v = next o ∙ ap (λ (i : ℕ). i + 1) own-class ∙ sym
          (u.says (omega (arith, low o, own-class))) in
          let ol = ap (λ (i : ℕ). lexeme (token_at ts i)) (sym h.at) ∙ operator-lexeme s ts lx q.row o m.0 in
          likewise (ap render (sym (of-binary q o y x)))
          (tokens-more (print_in (left_of o) y []) ((spelt (kind_of o) ∷ []) ++ print_in (right_of o) x [])
          (likewise (ap (λ (i : ℕ). render (placed i y)) (sym own-class)) (put-part s tab n job g f ts lx rows y z))
          (tokens-more (spelt (kind_of o) ∷ []) (print_in (right_of o) x [])
          (likewise (ap (λ (k : Lexeme). render (k ∷ [])) ol) (t.says n ts lx rows (omega (arith, m.0.there, h.at))))
          (likewise (ap (λ (i : ℕ). render (placed i x)) (sym right-class)) (put-part s tab n job g₂ f₂ ts lx rows x z₂))))
        where
          next : (o : Operator) → tightness (right_of o) ≡ tightness (left_of o) + 1
          next and = refl
          next less = refl
          next plus = refl
          next minus = refl
          next times = refl

          low : (o : Operator) → tightness (left_of o) < 4
          low and = omega arith
          low less = omega arith
          low plus = omega arith
          low minus = omega arith
          low times = omega arith

-- ARGUMENTS

pub nothing : {at : ℕ} {c : List ℕ} → at ≤ text_room → Puts at (render []) c c at
unfolding render
nothing h = record { within = h; says = λ _. record { bytes = refl; end = omega arith } }

-- the first argument, and the rest
first-and-rest : (row left : ℕ) → (left ≡ 0 → ⊥) → (e : Expression) (es : Part arguments) → row_of e ≡ row → nodes (argument e es) ≤ left
    → (nodes e ≤ left) × (nodes es ≤ left - 1)
unfolding nodes
first-and-rest row left some e es at h = (omega arith, omega (arith, positive e))

goes : (tab : List ℕ) (job : Job) → (job.left ≡ 0 → ⊥) → job.row < absent → {ts : List Token} (es : Part arguments)
    → PartAt tab ts job.row (AtMost job.left arguments) es
    → GoesOn tab ts job.row (AtMost job.left expression) (AtMost (job.left - 1) arguments) es
goes tab job some near es h = goes_on (first-and-rest job.row job.left some) near es h

module _ {s tab : List ℕ} {n : ℕ} {job : Job} where
  no-arguments : {c : List ℕ} → job.at ≤ text_room
      → ((ts : List Token) → length ts ≤ tokens_most → (es : Part arguments) → PartAt tab ts job.row (AtMost job.left arguments) es
      → no_arguments ≡ es) → PartPut s tab n arguments 0 job c c job.at
  unfolding bare
  no-arguments {c} h is = record {
    within = h;
    says = λ ts lx rows es p.
        subst (λ (x : Part arguments). Puts job.at (render (placed 0 x)) c c job.at)
        (is ts (omega (arith, rows.count, rows.few)) es p) (nothing h);
  }

  pub arguments-none : {c : List ℕ} → job.left ≡ 0 → job.at ≤ text_room → PartPut s tab n arguments 0 job c c job.at
  unfolding nodes
  arguments-none z h = no-arguments h (λ ts few es p. spent es p.within)
    where
      spent : (es : Part arguments) → nodes es ≤ job.left → no_arguments ≡ es
      spent no_arguments l = refl
      spent (argument e es) l = absurd (omega (arith, positive e, z))

  pub arguments-end : {c : List ℕ} → absent ≤ job.row → job.at ≤ text_room → PartPut s tab n arguments 0 job c c job.at
  arguments-end far h = no-arguments h (λ ts few es p. ended few far es p)

  module _ (some : job.left ≡ 0 → ⊥) (near : job.row < absent) {next a : ℕ} {c c₁ : List ℕ} (leads : next ≡ word_at tab c_next job.row)
      (f : PartPut s tab n expression 0 job c c₁ a) where
    pub arguments-last : absent ≤ next → PartPut s tab n arguments 0 job c c₁ a
    unfolding bare
    arguments-last far = record { within = f.within; says = λ ts lx rows es h. go ts lx rows es (goes tab job some near es h) }
      where
        go : Whatever s tab n λ ts. (es : Part arguments)
            → GoesOn tab ts job.row (AtMost job.left expression) (AtMost (job.left - 1) arguments) es
            → Puts job.at (render (placed 0 es)) c c₁ a
        go ts lx rows es (one-more-argument {e = e} {es = rest} x y) =
            let z = ended (omega (arith, rows.count, rows.few)) (omega (arith, leads)) rest y in
            subst (λ (xs : Part arguments). Puts job.at (render (placed 0 (argument e xs))) c c₁ a) z
            (likewise (ap render (in-loosest-place e)) (f.says ts lx rows e x))

    pub arguments-more : {b r : ℕ} {c₂ c₃ : List ℕ} → next < absent → Puts a (bytes "," ++ b_space ∷ []) c₁ c₂ b
        → PartPut s tab n arguments 0 (record { left = job.left - 1; row = next; at = b }) c₂ c₃ r → PartPut s tab n arguments 0 job c c₃ r
    unfolding render spelling words marks separator
    arguments-more {b} {r} {c₂} {c₃} close p v = record {
      within = v.within;
      says = λ ts lx rows es h. go ts lx rows es
          (goes tab job some near es h);
    }
      where
        rest_put : Whatever s tab n λ ts. (e : Expression) → PartAt tab ts job.row (AtMost job.left expression) e
            → (rest : Part arguments) → PartAt tab ts (word_at tab c_next job.row) (AtMost (job.left - 1) arguments) rest
            → Puts job.at (render (placed 0 (argument e rest))) c c₃ r
        rest_put ts lx rows e x no_arguments y = absurd (omega (arith, y.at, leads))
        rest_put ts lx rows e x (argument d ds) y =
            let q = v.says ts lx rows (argument d ds)
            (record { at = y.at ∙ sym leads; holds = y.holds; matches = y.matches; within = y.within }) in
            likewise (ap render (sym (of-arguments e d ds)))
            (tokens-more (bare e []) ((spelt k_comma ∷ []) ++ bare (argument d ds) [])
            (likewise (ap render (in-loosest-place e)) (f.says ts lx rows e x))
            (tokens-more (spelt k_comma ∷ []) (bare (argument d ds) []) p (likewise (ap render (in-loosest-place (argument d ds))) q)))

        go : Whatever s tab n λ ts. (es : Part arguments)
            → GoesOn tab ts job.row (AtMost job.left expression) (AtMost (job.left - 1) arguments) es
            → Puts job.at (render (placed 0 es)) c c₃ r
        go ts lx rows es (one-more-argument {e = e} {es = rest} x y) = rest_put ts lx rows e x rest y
