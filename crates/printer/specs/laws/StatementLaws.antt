-- What the functions on statements return meets their contracts, as on expressions (WalkLaws).
use Rattle.std.specs.Prelude.{ℕ, ◌+◌, ◌-◌, ◌≤◌, ◌<◌, ◌≡◌, length}
use Rattle.std.proofs.Math.Path.{refl, ap, subst}
use Rattle.std.proofs.Common.{sym, ◌∙◌, arith}
use mathlib.Core.List.{List, [], ◌∷◌, ◌++◌, append_assoc}
use borrow.Author.Tests.{ne_eqb}
use Rattle.base.specs.Bytes.{bytes}
use Rattle.base.specs.Codes.{tokens_most}
use Rattle.base.specs.promises.Table.{c_first, c_second, c_third, c_next}
use Rattle.lexer.specs.Bytes.{b_space, b_line_feed, b_close, b_close_bracket}
use Rattle.lexer.specs.Kinds.{words, k_out, k_println, k_put, k_else, k_if, k_port, k_system, k_while, k_assign, k_dot, k_comma, k_semicolon}
use Rattle.lexer.specs.Kinds.{k_open}
use Rattle.lexer.specs.Kinds.{k_close, k_open_bracket, k_close_bracket, k_open_brace, k_close_brace}
use Rattle.lexer.specs.Tokens.{Token}
use Rattle.parser.specs.Tree.{Sort.expression, Sort.statement, Sort.statements, Part, Expression, Statement}
use Rattle.parser.specs.Tree.{Part.block, Part.conditional, Part.loop, Part.print, Part.assign, Part.assign_element_lem, Part.port_put_lem}
use Rattle.parser.specs.Tree.{Part.no_statements, Part.sequence}
use Rattle.parser.specs.Stream.{token_at}
use Rattle.parser.specs.Measure.{nodes}
use Rattle.parser.specs.promises.Layout.{absent, row_of}
use Rattle.parser.specs.promises.Post.{kind_in_table}
use Rattle.reader.specs.promises.Matches.{Matches}
use Rattle.lookup.specs.promises.HeldClasses.{word_at}
use Rattle.lookup.specs.promises.Shows.{PartAt, Form, a_block_shown, a_conditional, a_loop, a_print, an_assignment, an_element_store, a_port_put, form_s}
use Rattle.lookup.specs.promises.Shows.{ShowsS, shows-block, shows-conditional, shows-loop, shows-print, shows-assignment}
use Rattle.lookup.specs.promises.Shows.{shows-element-store, shows-port-put, GoesOnS, one-more-statement}
use Rattle.lookup.specs.laws.ShowLaws.{BoundsS, shown_s, goes-on_s, ended_s}
use Rattle.printing.specs.Printed.{Lexeme, marks, spelling, spelt, name_token, bare, separator, render}
use Rattle.printing.proofs.laws.Lexing.{lexeme}
use Rattle.printing.proofs.laws.Appending.{render-append}
use Rattle.printing.proofs.laws.Pieces.{of-block, of-conditional, of-loop, of-print, of-assign, of-assign-element, of-port-put, of-sequence}
use Rattle.printer.specs.declared.job.Job.{Job}
use Rattle.printer.specs.promises.Puts.{text_room, Puts, TokenPut}
use Rattle.printer.specs.promises.Walks.{PartReached, AtMost, placed, Whatever, PartPut, EnclosedPut, StatementPut, ValuePut}
use Rattle.printer.specs.promises.Walks.{FinishedPut}
use Rattle.printer.specs.promises.Walks.{BracedPut, BranchesPut}
use Rattle.printer.specs.laws.PutLaws.{tokens-more}
use Rattle.printer.specs.laws.LexemeLaws.{named-lexeme}
use Rattle.printer.specs.laws.WalkLaws.{likewise, in-loosest-place, nothing, found, put-part, put-enclosed}

-- PIECES

module _ {s tab : List ℕ} {n : ℕ} {job : Job} where
  pub value-put : {a r : ℕ} {c c₁ c₂ : List ℕ} → PartPut s tab n expression 0 job c c₁ a → Puts a (bytes ";" ++ b_line_feed ∷ []) c₁ c₂ r
      → ValuePut s tab n job c c₂ r
  unfolding render spelling words marks separator
  value-put f p = record {
    within = p.within;
    says = λ ts lx rows e h.
        tokens-more (bare e []) (spelt k_semicolon ∷ []) (likewise (ap render (in-loosest-place e)) (f.says ts lx rows e h)) p;
  }

  pub finished-put : {a r : ℕ} {c c₁ c₂ : List ℕ} → EnclosedPut s tab n b_close job c c₁ a → Puts a (bytes ";" ++ b_line_feed ∷ []) c₁ c₂ r
      → FinishedPut s tab n job c c₂ r
  unfolding render spelling words marks separator
  finished-put f p = record {
    within = p.within;
    says = λ ts lx rows e h.
        let q = likewise (sym (render-append (bare e []) (spelt k_close ∷ []))) (f.says ts lx rows e h) in
        likewise (ap render (append_assoc (bare e []) (spelt k_close ∷ []) (spelt k_semicolon ∷ [])))
        (tokens-more (bare e [] ++ spelt k_close ∷ []) (spelt k_semicolon ∷ []) q p);
  }

  pub braced-put : {a r : ℕ} {c c₁ c₂ : List ℕ} → PartPut s tab n statements 0 job c c₁ a → Puts a (bytes "}" ++ b_line_feed ∷ []) c₁ c₂ r
      → BracedPut s tab n job c c₂ r
  unfolding render spelling words marks separator
  braced-put f p = record {
    within = p.within;
    says = λ ts lx rows ss h.
        tokens-more (bare ss []) (spelt k_close_brace ∷ []) (likewise (ap render (in-loosest-place ss)) (f.says ts lx rows ss h)) p;
  }

-- the part that was found
module _ (s tab : List ℕ) (n : ℕ) (job : Job) {k at : ℕ} {part : Job} (f : PartReached tab k job at part) where
  put-value : {r : ℕ} {c c' : List ℕ} → ValuePut s tab n part c c' r
      → Whatever s tab n λ ts. (e : Expression) → PartAt tab ts (word_at tab k job.row) (AtMost job.left expression) e
      → Puts at (render (bare e [] ++ spelt k_semicolon ∷ [])) c c' r
  put-value {r} {c} {c'} p ts lx rows e h =
      subst (λ (i : ℕ). Puts i (render (bare e [] ++ spelt k_semicolon ∷ [])) c c' r) f.begins
      (p.says ts lx rows e (found s tab n job f h))

  put-finished : {r : ℕ} {c c' : List ℕ} → FinishedPut s tab n part c c' r
      → Whatever s tab n λ ts. (e : Expression) → PartAt tab ts (word_at tab k job.row) (AtMost job.left expression) e
      → Puts at (render (bare e [] ++ spelt k_close ∷ spelt k_semicolon ∷ [])) c c' r
  put-finished {r} {c} {c'} p ts lx rows e h =
      subst (λ (i : ℕ). Puts i (render (bare e [] ++ spelt k_close ∷ spelt k_semicolon ∷ [])) c c' r) f.begins
      (p.says ts lx rows e (found s tab n job f h))

  put-braced : {r : ℕ} {c c' : List ℕ} → BracedPut s tab n part c c' r
      → Whatever s tab n λ ts. (ss : Part statements) → PartAt tab ts (word_at tab k job.row) (AtMost job.left statements) ss
      → Puts at (render (bare ss [] ++ spelt k_close_brace ∷ [])) c c' r
  put-braced {r} {c} {c'} p ts lx rows ss h =
      subst (λ (i : ℕ). Puts i (render (bare ss [] ++ spelt k_close_brace ∷ [])) c c' r) f.begins
      (p.says ts lx rows ss (found s tab n job f h))

  put-statement : {r : ℕ} {c c' : List ℕ} → PartPut s tab n statement 0 part c c' r
      → Whatever s tab n λ ts. (t : Statement) → PartAt tab ts (word_at tab k job.row) (AtMost job.left statement) t
      → Puts at (render (bare t [])) c c' r
  put-statement p ts lx rows t h = likewise (ap render (in-loosest-place t)) (put-part s tab n job f p ts lx rows t h)

  put-expression : {r : ℕ} {c c' : List ℕ} → PartPut s tab n expression 0 part c c' r
      → Whatever s tab n λ ts. (e : Expression) → PartAt tab ts (word_at tab k job.row) (AtMost job.left expression) e
      → Puts at (render (bare e [])) c c' r
  put-expression p ts lx rows e h = likewise (ap render (in-loosest-place e)) (put-part s tab n job f p ts lx rows e h)

module _ {s tab : List ℕ} {n : ℕ} {job : Job} where
  pub branches-put : {at a b r : ℕ} {second third : Job} {c c₁ c₂ c₃ : List ℕ} → PartReached tab c_second job at second
      → PartPut s tab n statement 0 second c c₁ a → Puts a (bytes "else" ++ b_space ∷ []) c₁ c₂ b → PartReached tab c_third job b third
      → PartPut s tab n statement 0 third c₂ c₃ r → BranchesPut s tab n job at c c₃ r
  unfolding render spelling words marks separator
  branches-put g f p g₂ f₂ = record {
    within = f₂.within;
    says = λ ts lx rows x y h h₂.
        tokens-more (bare x []) ((spelt k_else ∷ []) ++ bare y []) (put-statement s tab n job g f ts lx rows x h)
        (tokens-more (spelt k_else ∷ []) (bare y []) p (put-statement s tab n job g₂ f₂ ts lx rows y h₂));
  }

-- FORMS

module _ (s tab : List ℕ) (n : ℕ) (job : Job) where
  formed : {F H : Form} {c c' : List ℕ} {r : ℕ} → H ≡ F → StatementPut s tab n F job c c' r → StatementPut s tab n H job c c' r
  formed {c = c} {c'} {r} e f = subst (λ (F : Form). StatementPut s tab n F job c c' r) (sym e) f

  by_kind : {F : Form} {k : ℕ} (q : ℕ) → k ≡ kind_in_table tab n job.row → k ≡ q → ((next : ℕ) → form_s q next ≡ F)
      → form_s (kind_in_table tab n job.row) (kind_in_table tab n (job.row + 1)) ≡ F
  by_kind q is e f = ap (λ (j : ℕ). form_s j (kind_in_table tab n (job.row + 1))) (sym is ∙ e) ∙ f _

  abbrev PrintableTree : Form → (c c' : List ℕ) (r : ℕ) → Type 0
  PrintableTree F c c' r =
      Whatever s tab n λ ts. (t : Statement) → PartAt tab ts job.row (AtMost (job.left + 1) statement) t
      → ShowsS tab ts job.row (AtMost job.left) F t → Puts job.at (render (bare t [])) c c' r

module _ {s tab : List ℕ} {n : ℕ} {job : Job} where
  pub port-put : {a b d r : ℕ} {first second : Job} {c c₁ c₂ c₃ c₄ : List ℕ} → Puts job.at (bytes "Port . put (" ++ b_space ∷ []) c c₁ a
      → PartReached tab c_first job a first → PartPut s tab n expression 0 first c₁ c₂ b → Puts b (bytes "," ++ b_space ∷ []) c₂ c₃ d
      → PartReached tab c_second job d second → FinishedPut s tab n second c₃ c₄ r → StatementPut s tab n a_port_put job c c₄ r
  unfolding render spelling words marks separator
  port-put {r = r} {c = c} {c₄ = c₄} p g f p₂ g₂ v = record { within = v.within; says = go }
    where
      go : PrintableTree s tab n job a_port_put c c₄ r
      go ts lx rows t h (shows-port-put {p = q} {n = x} {e = y} st z z₂) =
          likewise (ap render (sym (of-port-put q x y)))
          (tokens-more (spelt k_port ∷ spelt k_dot ∷ spelt k_put ∷ spelt k_open ∷ [])
          (bare x [] ++ ((spelt k_comma ∷ []) ++ (bare y [] ++ spelt k_close ∷ spelt k_semicolon ∷ []))) p
          (tokens-more (bare x []) ((spelt k_comma ∷ []) ++ (bare y [] ++ spelt k_close ∷ spelt k_semicolon ∷ []))
          (put-expression s tab n job g f ts lx rows x z)
          (tokens-more (spelt k_comma ∷ []) (bare y [] ++ spelt k_close ∷ spelt k_semicolon ∷ []) p₂
          (put-finished s tab n job g₂ v ts lx rows y z₂))))

  pub assigned-put : {a b r : ℕ} {first : Job} {c c₁ c₂ c₃ : List ℕ} → TokenPut s tab job.row job.at c c₁ a
      → Puts a (bytes "=" ++ b_space ∷ []) c₁ c₂ b → PartReached tab c_first job b first → ValuePut s tab n first c₂ c₃ r
      → StatementPut s tab n an_assignment job c c₃ r
  unfolding render spelling words marks separator Matches
  assigned-put {r = r} {c = c} {c₃ = c₃} t p g v = record { within = v.within; says = go }
    where
      go : PrintableTree s tab n job an_assignment c c₃ r
      go ts lx rows u h (shows-assignment {p = q} {x = x} {e = y} st nn z) =
          let m = h.matches.0 in
          let nl = ap (λ (i : ℕ). lexeme (token_at ts i)) (sym h.at) ∙ named-lexeme s ts lx q.row m in
          likewise (ap render (sym (of-assign q x y)))
          (tokens-more (name_token x ∷ []) (spelt k_assign ∷ (bare y [] ++ spelt k_semicolon ∷ []))
          (likewise (ap (λ (k : Lexeme). render (k ∷ [])) nl) (t.says n ts lx rows (omega (arith, m.there, h.at))))
          (tokens-more (spelt k_assign ∷ []) (bare y [] ++ spelt k_semicolon ∷ []) p (put-value s tab n job g v ts lx rows y z)))

  pub store-put : {a b d e r : ℕ} {first second : Job} {c c₁ c₂ c₃ c₄ c₅ : List ℕ} → TokenPut s tab job.row job.at c c₁ a
      → Puts a (bytes "[" ++ b_space ∷ []) c₁ c₂ b → PartReached tab c_first job b first → EnclosedPut s tab n b_close_bracket first c₂ c₃ d
      → Puts d (bytes "=" ++ b_space ∷ []) c₃ c₄ e → PartReached tab c_second job e second → ValuePut s tab n second c₄ c₅ r
      → StatementPut s tab n an_element_store job c c₅ r
  unfolding render spelling words marks separator Matches
  store-put {r = r} {c = c} {c₅ = c₅} t p g f p₂ g₂ v = record { within = v.within; says = go }
    where
      go : PrintableTree s tab n job an_element_store c c₅ r
      go ts lx rows u h (shows-element-store {p = q} {x = x} {i = i} {e = y} st nn z z₂) =
          let m = h.matches.0 in
          let nl = ap (λ (i : ℕ). lexeme (token_at ts i)) (sym h.at) ∙ named-lexeme s ts lx q.row m in
          let last = spelt k_assign ∷ (bare y [] ++ spelt k_semicolon ∷ []) in
          likewise (ap render (sym (of-assign-element q x i y)))
          (tokens-more (name_token x ∷ []) (spelt k_open_bracket ∷ (bare i [] ++ spelt k_close_bracket ∷ last))
          (likewise (ap (λ (k : Lexeme). render (k ∷ [])) nl) (t.says n ts lx rows (omega (arith, m.there, h.at))))
          (tokens-more (spelt k_open_bracket ∷ []) (bare i [] ++ spelt k_close_bracket ∷ last) p
          (likewise (ap render (append_assoc (bare i []) (spelt k_close_bracket ∷ []) last))
          (tokens-more (bare i [] ++ spelt k_close_bracket ∷ []) last
          (likewise (sym (render-append (bare i []) (spelt k_close_bracket ∷ []))) (put-enclosed s tab n job g f ts lx rows i z))
          (tokens-more (spelt k_assign ∷ []) (bare y [] ++ spelt k_semicolon ∷ []) p₂ (put-value s tab n job g₂ v ts lx rows y z₂))))))

  module _ {k : ℕ} (is : k ≡ kind_in_table tab n job.row) where
    pub stated-block : {a r : ℕ} {first : Job} {c c₁ c₂ : List ℕ} → k ≡ k_open_brace → Puts job.at (bytes "{" ++ b_line_feed ∷ []) c c₁ a
        → PartReached tab c_first job a first → BracedPut s tab n first c₁ c₂ r
        → StatementPut s tab n (form_s (kind_in_table tab n job.row) (kind_in_table tab n (job.row + 1))) job c c₂ r
    unfolding render spelling words marks separator form_s
    stated-block {r = r} {c = c} {c₂ = c₂} e p g f =
        formed s tab n job (by_kind s tab n job k_open_brace is e (λ _. refl)) (record { within = f.within; says = go })
      where
        go : PrintableTree s tab n job a_block_shown c c₂ r
        go ts lx rows t h (shows-block {p = q} {ss = ss} st z) =
            likewise (ap render (sym (of-block q ss)))
            (tokens-more (spelt k_open_brace ∷ []) (bare ss [] ++ spelt k_close_brace ∷ []) p (put-braced s tab n job g f ts lx rows ss z))

    pub stated-if : {a b r : ℕ} {first : Job} {c c₁ c₂ c₃ : List ℕ} → k ≡ k_if → Puts job.at (bytes "if (" ++ b_space ∷ []) c c₁ a
        → PartReached tab c_first job a first → EnclosedPut s tab n b_close first c₁ c₂ b → BranchesPut s tab n job b c₂ c₃ r
        → StatementPut s tab n (form_s (kind_in_table tab n job.row) (kind_in_table tab n (job.row + 1))) job c c₃ r
    unfolding render spelling words marks separator form_s
    stated-if {r = r} {c = c} {c₃ = c₃} e p g f v =
        formed s tab n job (by_kind s tab n job k_if is e (λ _. refl)) (record { within = v.within; says = go })
      where
        go : PrintableTree s tab n job a_conditional c c₃ r
        go ts lx rows u h (shows-conditional {p = q} {e = x} {s = y} {t = w} st z z₂ z₃) =
            let last = bare y [] ++ ((spelt k_else ∷ []) ++ bare w []) in
            likewise (ap render (sym (of-conditional q x y w)))
            (tokens-more (spelt k_if ∷ spelt k_open ∷ []) (bare x [] ++ spelt k_close ∷ last) p
            (likewise (ap render (append_assoc (bare x []) (spelt k_close ∷ []) last))
            (tokens-more (bare x [] ++ spelt k_close ∷ []) last
            (likewise (sym (render-append (bare x []) (spelt k_close ∷ []))) (put-enclosed s tab n job g f ts lx rows x z))
            (v.says ts lx rows y w z₂ z₃))))

    pub stated-while : {a b r : ℕ} {first second : Job} {c c₁ c₂ c₃ : List ℕ} → k ≡ k_while
        → Puts job.at (bytes "while (" ++ b_space ∷ []) c c₁ a → PartReached tab c_first job a first
        → EnclosedPut s tab n b_close first c₁ c₂ b → PartReached tab c_second job b second → PartPut s tab n statement 0 second c₂ c₃ r
        → StatementPut s tab n (form_s (kind_in_table tab n job.row) (kind_in_table tab n (job.row + 1))) job c c₃ r
    unfolding render spelling words marks separator form_s
    stated-while {r = r} {c = c} {c₃ = c₃} e p g f g₂ v =
        formed s tab n job (by_kind s tab n job k_while is e (λ _. refl)) (record { within = v.within; says = go })
      where
        go : PrintableTree s tab n job a_loop c c₃ r
        go ts lx rows u h (shows-loop {p = q} {e = x} {s = y} st z z₂) =
            likewise (ap render (sym (of-loop q x y)))
            (tokens-more (spelt k_while ∷ spelt k_open ∷ []) (bare x [] ++ spelt k_close ∷ bare y []) p
            (likewise (ap render (append_assoc (bare x []) (spelt k_close ∷ []) (bare y [])))
            (tokens-more (bare x [] ++ spelt k_close ∷ []) (bare y [])
            (likewise (sym (render-append (bare x []) (spelt k_close ∷ []))) (put-enclosed s tab n job g f ts lx rows x z))
            (put-statement s tab n job g₂ v ts lx rows y z₂))))

    pub stated-print : {a r : ℕ} {first : Job} {c c₁ c₂ : List ℕ} → k ≡ k_system
        → Puts job.at (bytes "System . out . println (" ++ b_space ∷ []) c c₁ a → PartReached tab c_first job a first
        → FinishedPut s tab n first c₁ c₂ r
        → StatementPut s tab n (form_s (kind_in_table tab n job.row) (kind_in_table tab n (job.row + 1))) job c c₂ r
    unfolding render spelling words marks separator form_s
    stated-print {r = r} {c = c} {c₂ = c₂} e p g f =
        formed s tab n job (by_kind s tab n job k_system is e (λ _. refl)) (record { within = f.within; says = go })
      where
        go : PrintableTree s tab n job a_print c c₂ r
        go ts lx rows u h (shows-print {p = q} {e = x} st z) =
            likewise (ap render (sym (of-print q x)))
            (tokens-more (spelt k_system ∷ spelt k_dot ∷ spelt k_out ∷ spelt k_dot ∷ spelt k_println ∷ spelt k_open ∷ [])
            (bare x [] ++ spelt k_close ∷ spelt k_semicolon ∷ []) p (put-finished s tab n job g f ts lx rows x z))

    pub stated-port : {r : ℕ} {c c' : List ℕ} → k ≡ k_port → StatementPut s tab n a_port_put job c c' r
        → StatementPut s tab n (form_s (kind_in_table tab n job.row) (kind_in_table tab n (job.row + 1))) job c c' r
    unfolding form_s
    stated-port e f = formed s tab n job (by_kind s tab n job k_port is e (λ _. refl)) f

    module _ (n₁ : k ≡ k_open_brace → ⊥) (n₂ : k ≡ k_if → ⊥) (n₃ : k ≡ k_while → ⊥) (n₄ : k ≡ k_system → ⊥) (n₅ : k ≡ k_port → ⊥) {x : ℕ}
        (read : x ≡ kind_in_table tab n (job.row + 1)) where
      pub stated-store : {r : ℕ} {c c' : List ℕ} → x ≡ k_open_bracket → StatementPut s tab n an_element_store job c c' r
          → StatementPut s tab n (form_s (kind_in_table tab n job.row) (kind_in_table tab n (job.row + 1))) job c c' r
      unfolding form_s
      stated-store e f =
          formed s tab n job
          ((λ i. form_s (sym is i) ((sym read ∙ e) i))
          ∙ rw (ne_eqb k k_open_brace n₁, ne_eqb k k_if n₂, ne_eqb k k_while n₃, ne_eqb k k_system n₄, ne_eqb k k_port n₅) refl) f

      pub stated-assign : {r : ℕ} {c c' : List ℕ} → (x ≡ k_open_bracket → ⊥) → StatementPut s tab n an_assignment job c c' r
          → StatementPut s tab n (form_s (kind_in_table tab n job.row) (kind_in_table tab n (job.row + 1))) job c c' r
      unfolding form_s
      stated-assign e f =
          formed s tab n job
          ((λ i. form_s (sym is i) (sym read i))
          ∙ rw (
            ne_eqb k k_open_brace n₁,
            ne_eqb k k_if n₂,
            ne_eqb k k_while n₃,
            ne_eqb k k_system n₄,
            ne_eqb k k_port n₅,
            ne_eqb x k_open_bracket
                e,
          )
          refl) f

-- STATEMENTS

positive-statement : (t : Statement) → 1 ≤ nodes t
unfolding nodes
positive-statement (block p ss) = omega arith
positive-statement (conditional p e s t) = omega arith
positive-statement (loop p e s) = omega arith
positive-statement (print p e) = omega arith
positive-statement (assign p x e) = omega arith
positive-statement (assign_element_lem p x i e) = omega arith
positive-statement (port_put_lem p n e) = omega arith

fewer_s : (row left : ℕ) → BoundsS row (AtMost (left + 1)) (AtMost left)
unfolding nodes
fewer_s row left = record {
  of-block = λ at w. omega arith;
  of-conditional = λ at w. (omega arith, omega arith, omega arith);
  of-loop = λ at w. (omega arith, omega arith);
  of-print = λ at w. omega arith;
  of-assignment = λ at w. omega arith;
  of-element-store = λ at w. (omega arith, omega arith);
  of-port-put = λ at w. (omega arith, omega arith);
}

abbrev one_less : Job → Job
one_less job = record { left = job.left - 1; row = job.row; at = job.at }

module _ {s tab : List ℕ} {n : ℕ} {job : Job} where
  pub single-none : {c : List ℕ} → job.left ≡ 0 → job.at ≤ text_room → PartPut s tab n statement 0 job c c job.at
  single-none z h = record { within = h; says = λ ts lx rows t p. absurd (omega (arith, p.within, positive-statement t, z)) }

  pub single-stated : {r : ℕ} {c c' : List ℕ} → (job.left ≡ 0 → ⊥)
      → StatementPut s tab n (form_s (kind_in_table tab n job.row) (kind_in_table tab n (job.row + 1))) (one_less job) c c' r
      → PartPut s tab n statement 0 job c c' r
  single-stated some f = record {
    within = f.within;
    says = λ ts lx rows t h.
        let g : PartAt tab ts job.row (AtMost (job.left - 1 + 1) statement) t =
        record { at = h.at; holds = h.holds; matches = h.matches; within = omega (arith, h.within) } in
        let b = fewer_s job.row (job.left - 1) in
        likewise (ap render (sym (in-loosest-place t)))
        (f.says ts lx rows t g (shown_s rows job.row (AtMost (job.left - 1 + 1)) (AtMost (job.left - 1)) b refl t g));
  }

  no-statements : {c : List ℕ} → job.at ≤ text_room
      → ((ts : List Token) → length ts ≤ tokens_most → (ss : Part statements) → PartAt tab ts job.row (AtMost job.left statements) ss
      → no_statements ≡ ss) → PartPut s tab n statements 0 job c c job.at
  unfolding bare
  no-statements {c} h is = record {
    within = h;
    says = λ ts lx rows ss p.
        subst (λ (x : Part statements). Puts job.at (render (placed 0 x)) c c job.at)
        (is ts (omega (arith, rows.count, rows.few)) ss p) (nothing h);
  }

  pub list-none : {c : List ℕ} → job.left ≡ 0 → job.at ≤ text_room → PartPut s tab n statements 0 job c c job.at
  unfolding nodes
  list-none z h = no-statements h (λ ts few ss p. spent ss p.within)
    where
      spent : (ss : Part statements) → nodes ss ≤ job.left → no_statements ≡ ss
      spent no_statements l = refl
      spent (sequence t ss) l = absurd (omega (arith, positive-statement t, z))

  pub list-end : {c : List ℕ} → absent ≤ job.row → job.at ≤ text_room → PartPut s tab n statements 0 job c c job.at
  list-end far h = no-statements h (λ ts few ss p. ended_s few far ss p)

first-and-rest : (row left : ℕ) → (left ≡ 0 → ⊥) → (t : Statement) (ss : Part statements) → row_of t ≡ row → nodes (sequence t ss) ≤ left
    → (nodes t ≤ left) × (nodes ss ≤ left - 1)
unfolding nodes
first-and-rest row left some t ss at h = (omega arith, omega (arith, positive-statement t))

module _ {s tab : List ℕ} {n : ℕ} {job : Job} where
  pub list-more : {next a r : ℕ} {c c₁ c₂ : List ℕ} → (job.left ≡ 0 → ⊥) → job.row < absent → next ≡ word_at tab c_next job.row
      → PartPut s tab n statement 0 job c c₁ a
      → PartPut s tab n statements 0 (record { left = job.left - 1; row = next; at = a }) c₁ c₂ r → PartPut s tab n statements 0 job c c₂ r
  list-more {next} {a} {r} {c} {c₁} {c₂} some near leads f v = record {
    within = v.within;
    says = λ ts lx rows ss h. go ts lx rows ss (goes-on_s (first-and-rest job.row job.left some) near ss h);
  }
    where
      go : Whatever s tab n λ ts. (ss : Part statements)
          → GoesOnS tab ts job.row (AtMost job.left statement) (AtMost (job.left - 1) statements) ss
          → Puts job.at (render (placed 0 ss)) c c₂ r
      go ts lx rows ss (one-more-statement {t = t} {ss = rest} x y) =
          let q = v.says ts lx rows rest
          (record { at = y.at ∙ sym leads; holds = y.holds; matches = y.matches; within = y.within }) in
          likewise (ap render (sym (of-sequence t rest) ∙ sym (in-loosest-place (sequence t rest))))
          (tokens-more (bare t []) (bare rest []) (likewise (ap render (in-loosest-place t)) (f.says ts lx rows t x))
          (likewise (ap render (in-loosest-place rest)) q))
