-- What the functions on methods return meets their contracts.
use Rattle.std.specs.Prelude.{ℕ, ◌+◌, ◌-◌, ◌≤◌, ◌<◌, ◌≡◌}
use Rattle.std.proofs.Math.Path.{sym, ap}
use Rattle.std.proofs.Common.{◌∙◌, subst, arith}
use mathlib.Core.List.{List, [], ◌∷◌, ◌++◌, append_assoc}
use Rattle.std.proofs.Math.ListN.{length}
use Rattle.base.specs.Bytes.{bytes}
use Rattle.base.specs.promises.Table.{col, c_next, c_parameters, c_locals, c_body, c_value}
use Rattle.lexer.specs.Bytes.{b_space, b_line_feed}
use Rattle.lexer.specs.Kinds.{words, k_public, k_return, k_semicolon, k_open, k_close, k_open_brace, k_close_brace}
use Rattle.lexer.specs.Tokens.{Token}
use Rattle.parser.specs.Tree.{Sort, Sort.statements, Variable, Method}
use Rattle.parser.specs.promises.Layout.{absent, row_variables, row_methods, head_of}
use Rattle.reader.specs.promises.Holds.{HoldsVariables}
use Rattle.reader.specs.promises.Matches.{VariablesMatch}
use Rattle.lookup.specs.promises.HeldClasses.{word_at, Lexemes, VariablesHeld, no-variables, more-variables, MethodHeld}
use Rattle.lookup.specs.promises.HeldClasses.{MethodsHeld, more-methods}
use Rattle.lookup.specs.promises.Shows.{PartAt}
use Rattle.lookup.specs.laws.HeldLaws.{word_in}
use Rattle.printing.specs.Printed.{Lexeme, marks, spelling, spelt, name_token, type_tokens, declaration_tokens, parameters_tokens}
use Rattle.printing.specs.Printed.{declarations_tokens, bare, method_tokens, methods_tokens}
use Rattle.printing.specs.Printed.{separator, render}
use Rattle.printing.proofs.laws.Pieces.{of-declared, of-method}
use Rattle.printer.specs.declared.job.Job.{Job}
use Rattle.printer.specs.promises.Puts.{text_room, Puts}
use Rattle.printer.specs.promises.Walks.{PartReached, AtMost, Whatever, PartPut, ValuePut}
use Rattle.printer.specs.promises.Declares.{VariablePut, VariablesPut, ParametersPut}
use Rattle.printer.specs.promises.Methods.{method_head, method_front, method_rest, whole_method, MethodPut, RestPut, MethodsPut}
use Rattle.printer.specs.laws.PutLaws.{tokens-more}
use Rattle.printer.specs.laws.WalkLaws.{likewise, nothing, in-loosest-place, found, put-part}

-- what the table holds of variables
pub holds-variables : {tab : List ℕ} {ts : List Token} {vs : List Variable} → VariablesHeld tab ts vs → HoldsVariables tab vs
unfolding HoldsVariables
holds-variables no-variables = tt
holds-variables (more-variables m t x h) = (t, x, holds-variables h)

pub match-variables : {tab : List ℕ} {ts : List Token} {vs : List Variable} → VariablesHeld tab ts vs → VariablesMatch ts vs
unfolding VariablesMatch
match-variables no-variables = tt
match-variables (more-variables m t x h) = (m, match-variables h)

-- where a list of variables begins, to which a column leads
pub led : {tab : List ℕ} {k at i : ℕ} {job part : Job} → PartReached tab k job at part → i ≡ job.row → i < absent → (vs : List Variable)
    → col tab k i ≡ row_variables vs → row_variables vs ≡ part.row
led {tab} {k} {i = i} f here near vs leads = sym (f.leads ∙ ap (word_at tab k) (sym here) ∙ word_in tab k i near leads)

-- the name of a method is there
named-near : {tab : List ℕ} {n : ℕ} {ts : List Token} → Lexemes tab n ts → {m : Method} → MethodHeld tab n ts m → m.name.row + 1 < absent
named-near rows {m} h = omega (arith, h.after.there, rows.count, rows.few)

module _ {s tab : List ℕ} {n : ℕ} {job : Job} where
  pub head-put : {a b r : ℕ} {c c₁ c₂ c₃ : List ℕ} → Puts job.at (bytes "public" ++ b_space ∷ []) c c₁ a
      → VariablePut s tab n (record { left = job.left; row = job.row; at = a }) c₁ c₂ b → Puts b (bytes "(" ++ b_space ∷ []) c₂ c₃ r
      → MethodPut s tab n method_head job c c₃ r
  unfolding render spelling words marks separator method_head
  head-put p f q = record {
    within = q.within;
    says = λ ts lx rows m at h _.
        let e : declaration_tokens (head_of m) [] ++ spelt k_open ∷ [] ≡ type_tokens m.result.type [] ++
        (name_token m.name.text ∷ spelt k_open ∷ []) =
        ap (λ (l : List Lexeme). l ++ spelt k_open ∷ []) (of-declared (head_of m) [])
        ∙ append_assoc (type_tokens m.result.type []) (name_token m.name.text ∷ []) (spelt k_open ∷ []) in
        tokens-more (spelt k_public ∷ []) (type_tokens m.result.type [] ++ (name_token m.name.text ∷ spelt k_open ∷ [])) p
        (likewise (ap render e)
        (tokens-more (declaration_tokens (head_of m) []) (spelt k_open ∷ []) (f.says ts lx rows (head_of m) at h.result h.head) q));
  }

  pub front-put : {a b r : ℕ} {first second : Job} {c c₁ c₂ c₃ : List ℕ} → PartReached tab c_parameters job job.at first
      → ParametersPut s tab n first c c₁ a → Puts a (bytes ") {" ++ b_line_feed ∷ []) c₁ c₂ b → PartReached tab c_locals job b second
      → VariablesPut s tab n second c₂ c₃ r → MethodPut s tab n method_front job c c₃ r
  unfolding render spelling words marks separator method_front
  front-put {a} {b} {r} {c = c} {c₁} {c₂} {c₃} g f p g₂ v = record {
    within = v.within;
    says = λ ts lx rows m at h few.
        let near : m.name.row < absent = omega (arith, named-near rows h) in
        tokens-more (parameters_tokens m.parameters []) ((spelt k_close ∷ spelt k_open_brace ∷ []) ++ declarations_tokens m.locals [])
        (subst (λ (i : ℕ). Puts i (render (parameters_tokens m.parameters [])) c c₁ a) g.begins
        (f.says ts lx rows m.parameters (led g at near m.parameters h.first) (holds-variables h.parameters)
        (match-variables h.parameters) (omega (arith, h.few-parameters, g.nodes))))
        (tokens-more (spelt k_close ∷ spelt k_open_brace ∷ []) (declarations_tokens m.locals []) p
        (subst (λ (i : ℕ). Puts i (render (declarations_tokens m.locals [])) c₂ c₃ r) g₂.begins
        (v.says ts lx rows m.locals (led g₂ at near m.locals h.second) (holds-variables h.locals)
        (match-variables h.locals) (omega (arith, h.few-locals, g₂.nodes)))));
  }

  pub rest_put : {a b d r : ℕ} {first second : Job} {c c₁ c₂ c₃ c₄ : List ℕ} → PartReached tab c_body job job.at first
      → PartPut s tab n statements 0 first c c₁ a → Puts a (bytes "return" ++ b_space ∷ []) c₁ c₂ b → PartReached tab c_value job b second
      → ValuePut s tab n second c₂ c₃ d → Puts d (bytes "}" ++ b_line_feed ∷ []) c₃ c₄ r → RestPut s tab n job c c₄ r
  unfolding render spelling words marks separator method_rest
  rest_put {b = b} {d} {r} {c = c} {c₁} {c₂} {c₃} {c₄} g f p g₂ v q = record {
    within = q.within;
    says = λ ts lx rows m at h few.
        let near = named-near rows h in
        let body : PartAt tab ts (word_at tab c_body job.row) (AtMost job.left statements) m.body = record {
          at = sym (ap (word_at tab c_body) (sym at) ∙ word_in tab c_body (m.name.row + 1) near h.start);
          holds = h.body;
          matches = h.body-matches;
          within = omega (arith, h.body-nodes);
        } in
        let value : PartAt tab ts (word_at tab c_value job.row) (AtMost job.left Sort.expression) m.value = record {
          at = sym (ap (word_at tab c_value) (sym at) ∙ word_in tab c_value (m.name.row + 1) near h.return);
          holds = h.value;
          matches = h.value-matches;
          within = omega (arith, h.value-nodes);
        } in
        let e = append_assoc (bare m.value []) (spelt k_semicolon ∷ []) (spelt k_close_brace ∷ []) in
        tokens-more (bare m.body []) ((spelt k_return ∷ []) ++ (bare m.value [] ++ spelt k_semicolon ∷ spelt k_close_brace ∷ []))
        (likewise (ap render (in-loosest-place m.body)) (put-part s tab n job g f ts lx rows m.body body))
        (tokens-more (spelt k_return ∷ []) (bare m.value [] ++ spelt k_semicolon ∷ spelt k_close_brace ∷ []) p
        (likewise (ap render e)
        (tokens-more (bare m.value [] ++ spelt k_semicolon ∷ []) (spelt k_close_brace ∷ [])
        (subst (λ (i : ℕ). Puts i (render (bare m.value [] ++ spelt k_semicolon ∷ [])) c₂ c₃ d) g₂.begins
        (v.says ts lx rows m.value (found s tab n job g₂ value))) q)));
  }

  pub method-put : {a b r : ℕ} {c c₁ c₂ c₃ : List ℕ} → MethodPut s tab n method_head job c c₁ a
      → MethodPut s tab n method_front (record { left = job.left; row = job.row; at = a }) c₁ c₂ b
      → RestPut s tab n (record { left = job.left; row = job.row + 1; at = b }) c₂ c₃ r → MethodPut s tab n whole_method job c c₃ r
  unfolding method_head method_front method_rest whole_method
  method-put f g v = record {
    within = v.within;
    says = λ ts lx rows m at h few.
        let e : method_head m ++ (method_front m ++ method_rest m) ≡ method_tokens m [] = (simp append_assoc) ∙ sym (of-method m []) in
        likewise (ap render e)
        (tokens-more (method_head m) (method_front m ++ method_rest m) (f.says ts lx rows m at h few)
        (tokens-more (method_front m) (method_rest m) (g.says ts lx rows m at h few)
        (v.says ts lx rows m (ap (λ (i : ℕ). i + 1) at) h few)));
  }

-- LISTS

method-append : (m : Method) (y : List Lexeme) → method_tokens m [] ++ y ≡ method_tokens m y
method-append m y = ap (λ (l : List Lexeme). l ++ y) (of-method m []) ∙ (simp append_assoc) ∙ sym (of-method m y)

module _ {s tab : List ℕ} {n : ℕ} {job : Job} where
  pub methods-none : {c : List ℕ} → job.left ≡ 0 → job.at ≤ text_room → MethodsPut s tab n job c c job.at
  unfolding methods_tokens
  methods-none {c} z h = record { within = h; says = go }
    where
      go : Whatever s tab n λ ts. (ms : List Method) → row_methods ms ≡ job.row → MethodsHeld tab n ts ms → length ms ≤ job.left
          → Puts job.at (render (methods_tokens ms [])) c c job.at
      go ts lx rows [] at held few = nothing h
      go ts lx rows (m ∷ ms) at held few = absurd (omega arith)

  pub methods-end : {c : List ℕ} → absent ≤ job.row → job.at ≤ text_room → MethodsPut s tab n job c c job.at
  unfolding methods_tokens
  methods-end {c} far h = record { within = h; says = go }
    where
      go : Whatever s tab n λ ts. (ms : List Method) → row_methods ms ≡ job.row → MethodsHeld tab n ts ms → length ms ≤ job.left
          → Puts job.at (render (methods_tokens ms [])) c c job.at
      go ts lx rows [] at held few = nothing h
      go ts lx rows (m ∷ ms) at (more-methods held x more) few = absurd (omega (arith, named-near rows held, at))

  pub methods-more : {next a r : ℕ} {c c₁ c₂ : List ℕ} → (job.left ≡ 0 → ⊥) → job.row < absent → next ≡ word_at tab c_next job.row
      → MethodPut s tab n whole_method (record { left = n; row = job.row; at = job.at }) c c₁ a
      → MethodsPut s tab n (record { left = job.left - 1; row = next; at = a }) c₁ c₂ r → MethodsPut s tab n job c c₂ r
  unfolding methods_tokens whole_method
  methods-more {r = r} {c = c} {c₂ = c₂} some near leads f w = record { within = w.within; says = go }
    where
      go : Whatever s tab n λ ts. (ms : List Method) → row_methods ms ≡ job.row → MethodsHeld tab n ts ms → length ms ≤ job.left
          → Puts job.at (render (methods_tokens ms [])) c c₂ r
      go ts lx rows [] at held few = absurd (omega arith)
      go ts lx rows (m ∷ ms) at (more-methods held x more) few =
          let z = sym (leads ∙ ap (word_at tab c_next) (sym at) ∙ word_in tab c_next m.name.row (omega (arith, at)) x) in
          likewise (ap render (method-append m (methods_tokens ms [])))
          (tokens-more (method_tokens m []) (methods_tokens ms []) (f.says ts lx rows m at held (omega arith))
          (w.says ts lx rows ms z more (omega arith)))
