-- What the functions on declarations return meets their contracts.
use Rattle.std.specs.Prelude.{ℕ, ◌+◌, ◌-◌, ◌≤◌, ◌<◌, ◌≡◌}
use Rattle.std.proofs.Math.Path.{sym, ap}
use Rattle.std.proofs.Common.{◌∙◌, subst, arith}
use mathlib.Core.List.{List, [], ◌∷◌, ◌++◌, append_assoc}
use Rattle.std.proofs.Math.ListN.{length}
use Rattle.base.specs.Bytes.{bytes}
use Rattle.base.specs.promises.Table.{c_type, c_next}
use Rattle.lexer.specs.Bytes.{b_space, b_line_feed}
use Rattle.lexer.specs.Kinds.{words, k_comma, k_semicolon, k_open_bracket, k_close_bracket}
use Rattle.lexer.specs.Tokens.{Token}
use Rattle.parser.specs.Tree.{Element, Element.int, Element.boolean, Element.fixed, Element.class, Ty, Ty.plain, Ty.array_of, Variable}
use Rattle.parser.specs.Stream.{token_at}
use Rattle.parser.specs.promises.Layout.{absent, row_variables}
use Rattle.parser.specs.promises.Post.{kind_in_table}
use Rattle.reader.specs.promises.Holds.{HoldsVariables}
use Rattle.reader.specs.promises.Matches.{ElementMatches, TypeMatches, VariablesMatch}
use Rattle.lookup.specs.promises.HeldClasses.{word_at}
use Rattle.lookup.specs.laws.HeldLaws.{kinds, word_in}
use Rattle.printing.specs.Printed.{Lexeme, marks, spelling, spelt, name_token, element_token, type_tokens, declaration_tokens}
use Rattle.printing.specs.Printed.{declarations_tokens, parameters_tokens, separator}
use Rattle.printing.specs.Printed.{render}
use Rattle.printing.proofs.laws.Lexing.{lexeme}
use Rattle.printing.proofs.laws.Pieces.{of-declared}
use Rattle.printer.specs.declared.job.Job.{Job}
use Rattle.printer.specs.promises.Puts.{text_room, Puts, TokenPut}
use Rattle.printer.specs.promises.Walks.{Whatever}
use Rattle.printer.specs.promises.Declares.{TypePut, VariablePut, VariablesPut, ParametersPut}
use Rattle.printer.specs.laws.PutLaws.{tokens-more}
use Rattle.printer.specs.laws.LexemeLaws.{element-lexeme, named-lexeme}
use Rattle.printer.specs.laws.WalkLaws.{likewise, nothing}

-- an element type is there
element-there : (ts : List Token) (i : ℕ) (t : Element) → ElementMatches ts i t → i < length ts
unfolding ElementMatches
element-there ts i int m = m.there
element-there ts i boolean m = m.there
element-there ts i fixed m = m.there
element-there ts i (class x) m = m.there

module _ {s tab : List ℕ} {n : ℕ} {job : Job} where
  module _ {x a : ℕ} {c c₁ : List ℕ} (t : TokenPut s tab job.row job.at c c₁ a) (read : x ≡ kind_in_table tab n (job.row + 1)) where
    pub type-array : {r : ℕ} {c₂ : List ℕ} → x ≡ k_open_bracket → Puts a (bytes "[ ]" ++ b_space ∷ []) c₁ c₂ r → TypePut s tab n job c c₂ r
    unfolding render spelling words marks separator type_tokens TypeMatches
    type-array {r} {c₂} e p = record { within = p.within; says = go }
      where
        go : Whatever s tab n λ ts. (u : Ty) → TypeMatches ts job.row u → Puts job.at (render (type_tokens u [])) c c₂ r
        go ts lx rows (plain u) m = absurd (m.1 (sym (kinds rows (job.row + 1)) ∙ sym read ∙ e))
        go ts lx rows (array_of u) m =
            tokens-more (element_token u ∷ []) (spelt k_open_bracket ∷ spelt k_close_bracket ∷ [])
            (likewise (ap (λ (k : Lexeme). render (k ∷ [])) (element-lexeme s ts lx job.row u m.0))
            (t.says n ts lx rows (element-there ts job.row u m.0))) p

    pub type-plain : (x ≡ k_open_bracket → ⊥) → TypePut s tab n job c c₁ a
    unfolding type_tokens TypeMatches
    type-plain other = record { within = t.within; says = go }
      where
        go : Whatever s tab n λ ts. (u : Ty) → TypeMatches ts job.row u → Puts job.at (render (type_tokens u [])) c c₁ a
        go ts lx rows (plain u) m =
            likewise (ap (λ (k : Lexeme). render (k ∷ [])) (element-lexeme s ts lx job.row u m.0))
            (t.says n ts lx rows (element-there ts job.row u m.0))
        go ts lx rows (array_of u) m = absurd (other (read ∙ kinds rows (job.row + 1) ∙ m.1.is))

  pub variable-put : {row a r : ℕ} {c c₁ c₂ : List ℕ} → row ≡ word_at tab c_type job.row
      → TypePut s tab n (record { left = job.left; row = row; at = job.at }) c c₁ a → TokenPut s tab job.row a c₁ c₂ r
      → VariablePut s tab n job c c₂ r
  variable-put leads f t = record {
    within = t.within;
    says = λ ts lx rows v at held m.
        let there = m.name.token.there in
        let low : v.name.row < absent = omega (arith, there, rows.count, rows.few) in
        let z = sym (word_in tab c_type v.name.row low held) ∙ ap (word_at tab c_type) at ∙ sym leads in
        let nl = ap (λ (i : ℕ). lexeme (token_at ts i)) (sym at) ∙ named-lexeme s ts lx v.name.row m.name.token in
        likewise (ap render (sym (of-declared v [])))
        (tokens-more (type_tokens v.type.type []) (name_token v.name.text ∷ [])
        (f.says ts lx rows v.type.type (subst (λ (i : ℕ). TypeMatches ts i v.type.type) z m.type))
        (likewise (ap (λ (k : Lexeme). render (k ∷ [])) nl) (t.says n ts lx rows (omega (arith, there, at)))));
  }

-- LISTS

declared-append : (v : Variable) (y : List Lexeme) → declaration_tokens v [] ++ y ≡ declaration_tokens v y
declared-append v y =
    ap (λ (l : List Lexeme). l ++ y) (of-declared v []) ∙ append_assoc (type_tokens v.type.type []) (name_token v.name.text ∷ []) y
    ∙ sym (of-declared v y)

module _ {s tab : List ℕ} {n : ℕ} {job : Job} where
  pub variables-none : {c : List ℕ} → job.left ≡ 0 → job.at ≤ text_room → VariablesPut s tab n job c c job.at
  unfolding declarations_tokens
  variables-none {c} z h = record { within = h; says = go }
    where
      go : Whatever s tab n λ ts. (vs : List Variable) → row_variables vs ≡ job.row → HoldsVariables tab vs → VariablesMatch ts vs
          → length vs ≤ job.left → Puts job.at (render (declarations_tokens vs [])) c c job.at
      go ts lx rows [] at held m few = nothing h
      go ts lx rows (v ∷ vs) at held m few = absurd (omega arith)

  pub variables-end : {c : List ℕ} → absent ≤ job.row → job.at ≤ text_room → VariablesPut s tab n job c c job.at
  unfolding declarations_tokens VariablesMatch
  variables-end {c} far h = record { within = h; says = go }
    where
      go : Whatever s tab n λ ts. (vs : List Variable) → row_variables vs ≡ job.row → HoldsVariables tab vs → VariablesMatch ts vs
          → length vs ≤ job.left → Puts job.at (render (declarations_tokens vs [])) c c job.at
      go ts lx rows [] at held m few = nothing h
      go ts lx rows (v ∷ vs) at held m few = absurd (omega (arith, m.0.name.token.there, rows.count, rows.few, at))

  pub variables-more : {next a b r : ℕ} {c c₁ c₂ c₃ : List ℕ} → (job.left ≡ 0 → ⊥) → job.row < absent → next ≡ word_at tab c_next job.row
      → VariablePut s tab n job c c₁ a → Puts a (bytes ";" ++ b_line_feed ∷ []) c₁ c₂ b
      → VariablesPut s tab n (record { left = job.left - 1; row = next; at = b }) c₂ c₃ r → VariablesPut s tab n job c c₃ r
  unfolding render spelling words marks separator declarations_tokens HoldsVariables VariablesMatch
  variables-more {r = r} {c = c} {c₃ = c₃} some near leads f p w = record { within = w.within; says = go }
    where
      go : Whatever s tab n λ ts. (vs : List Variable) → row_variables vs ≡ job.row → HoldsVariables tab vs → VariablesMatch ts vs
          → length vs ≤ job.left → Puts job.at (render (declarations_tokens vs [])) c c₃ r
      go ts lx rows [] at held m few = absurd (omega arith)
      go ts lx rows (v ∷ vs) at held m few =
          let z = sym (leads ∙ ap (word_at tab c_next) (sym at) ∙ word_in tab c_next v.name.row (omega (arith, at)) held.1) in
          likewise (ap render (declared-append v (spelt k_semicolon ∷ declarations_tokens vs [])))
          (tokens-more (declaration_tokens v []) (spelt k_semicolon ∷ declarations_tokens vs []) (f.says ts lx rows v at held.0 m.0)
          (tokens-more (spelt k_semicolon ∷ []) (declarations_tokens vs []) p (w.says ts lx rows vs z held.2 m.1 (omega arith))))

-- PARAMETERS

module _ {s tab : List ℕ} {n : ℕ} {job : Job} where
  pub parameters-none : {c : List ℕ} → job.left ≡ 0 → job.at ≤ text_room → ParametersPut s tab n job c c job.at
  unfolding parameters_tokens
  parameters-none {c} z h = record { within = h; says = go }
    where
      go : Whatever s tab n λ ts. (vs : List Variable) → row_variables vs ≡ job.row → HoldsVariables tab vs → VariablesMatch ts vs
          → length vs ≤ job.left → Puts job.at (render (parameters_tokens vs [])) c c job.at
      go ts lx rows [] at held m few = nothing h
      go ts lx rows (v ∷ vs) at held m few = absurd (omega arith)

  pub parameters-end : {c : List ℕ} → absent ≤ job.row → job.at ≤ text_room → ParametersPut s tab n job c c job.at
  unfolding parameters_tokens VariablesMatch
  parameters-end {c} far h = record { within = h; says = go }
    where
      go : Whatever s tab n λ ts. (vs : List Variable) → row_variables vs ≡ job.row → HoldsVariables tab vs → VariablesMatch ts vs
          → length vs ≤ job.left → Puts job.at (render (parameters_tokens vs [])) c c job.at
      go ts lx rows [] at held m few = nothing h
      go ts lx rows (v ∷ vs) at held m few = absurd (omega (arith, m.0.name.token.there, rows.count, rows.few, at))

  module _ (some : job.left ≡ 0 → ⊥) (near : job.row < absent) {next a : ℕ} {c c₁ : List ℕ} (leads : next ≡ word_at tab c_next job.row)
      (f : VariablePut s tab n job c c₁ a) where
    pub parameters-last : absent ≤ next → ParametersPut s tab n job c c₁ a
    unfolding parameters_tokens HoldsVariables VariablesMatch
    parameters-last far = record { within = f.within; says = go }
      where
        go : Whatever s tab n λ ts. (vs : List Variable) → row_variables vs ≡ job.row → HoldsVariables tab vs → VariablesMatch ts vs
            → length vs ≤ job.left → Puts job.at (render (parameters_tokens vs [])) c c₁ a
        go ts lx rows [] at held m few = absurd (omega arith)
        go ts lx rows (v ∷ []) at held m few = f.says ts lx rows v at held.0 m.0
        go ts lx rows (v ∷ w ∷ vs) at held m few =
            let z = leads ∙ ap (word_at tab c_next) (sym at) ∙ word_in tab c_next v.name.row (omega (arith, at)) held.1 in
            absurd (omega (arith, z, far, m.1.0.name.token.there, rows.count, rows.few))

    pub parameters-more : {b r : ℕ} {c₂ c₃ : List ℕ} → next < absent → Puts a (bytes "," ++ b_space ∷ []) c₁ c₂ b
        → ParametersPut s tab n (record { left = job.left - 1; row = next; at = b }) c₂ c₃ r → ParametersPut s tab n job c c₃ r
    unfolding render spelling words marks separator parameters_tokens HoldsVariables VariablesMatch
    parameters-more {b} {r} {c₂} {c₃} close p w = record { within = w.within; says = go }
      where
        go : Whatever s tab n λ ts. (vs : List Variable) → row_variables vs ≡ job.row → HoldsVariables tab vs → VariablesMatch ts vs
            → length vs ≤ job.left → Puts job.at (render (parameters_tokens vs [])) c c₃ r
        go ts lx rows [] at held m few = absurd (omega arith)
        go ts lx rows (v ∷ []) at held m few =
            let z = leads ∙ ap (word_at tab c_next) (sym at) ∙ word_in tab c_next v.name.row (omega (arith, at)) held.1 in
            absurd (omega (arith, z, close))
        go ts lx rows (v ∷ u ∷ vs) at held m few =
            let z = sym (leads ∙ ap (word_at tab c_next) (sym at) ∙ word_in tab c_next v.name.row (omega (arith, at)) held.1) in
            likewise (ap render (declared-append v (spelt k_comma ∷ parameters_tokens (u ∷ vs) [])))
            (tokens-more (declaration_tokens v []) (spelt k_comma ∷ parameters_tokens (u ∷ vs) []) (f.says ts lx rows v at held.0 m.0)
            (tokens-more (spelt k_comma ∷ []) (parameters_tokens (u ∷ vs) []) p
            (w.says ts lx rows (u ∷ vs) z held.2 m.1 (omega arith))))
