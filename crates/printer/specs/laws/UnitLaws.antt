-- What the functions on classes and on the program return meets their contracts.
use Rattle.std.specs.Prelude.{ℕ, ◌-◌, ◌≤◌, ◌<◌, ◌≡◌, refl, true}
use Rattle.std.proofs.Math.Path.{sym, ap}
use Rattle.std.proofs.Common.{◌∙◌, subst, arith}
use mathlib.Core.List.{List, [], ◌∷◌, ◌++◌, append_assoc}
use Rattle.std.proofs.Math.Option.{Option, none, some}
use Rattle.std.proofs.Math.ListN.{length}
use Rattle.base.specs.Bytes.{bytes}
use Rattle.base.specs.Outcome.{accepted}
use Rattle.base.specs.promises.Table.{c_next, c_parent, c_fields, c_methods}
use Rattle.lexer.specs.Bytes.{b_space, b_line_feed}
use Rattle.lexer.specs.Kinds.{words, is_name_lem, k_class, k_extends, k_main, k_public, k_static, k_string, k_void, k_open, k_close, k_open_bracket}
use Rattle.lexer.specs.Kinds.{k_close_bracket, k_open_brace, k_close_brace}
use Rattle.lexer.specs.Tokens.{Token, tokens}
use Rattle.parser.specs.Tree.{Sort.statement, Name, Class, Program}
use Rattle.parser.specs.Stream.{token_at, kind_at}
use Rattle.parser.specs.Grammar.{DerivesProgram, DerivesProgram.a_program}
use Rattle.parser.specs.promises.Layout.{absent, row_parent, row_methods, row_classes, main_row}
use Rattle.grammar.specs.laws.Passing.{seen}
use Rattle.reader.specs.promises.Matches.{NameIs, ParentMatches}
use Rattle.lookup.specs.promises.HeldClasses.{word_at, Lexemes, ClassHeld, ClassesHeld, more-classes}
use Rattle.lookup.specs.laws.HeldLaws.{word_in}
use Rattle.printing.specs.Printed.{Lexeme, marks, spelling, spelt, name_token, declarations_tokens, bare, methods_tokens, parent_tokens}
use Rattle.printing.specs.Printed.{class_tokens, classes_tokens}
use Rattle.printing.specs.Printed.{program_tokens}
use Rattle.printing.specs.Printed.{separator, render}
use Rattle.printing.proofs.laws.Pieces.{of-class, of-program}
use Rattle.printer.specs.declared.job.Job.{Job}
use Rattle.printer.specs.promises.Puts.{text_room, Puts, TokenPut}
use Rattle.printer.specs.promises.Walks.{PartReached, Whatever, PartPut}
use Rattle.printer.specs.promises.Declares.{VariablesPut}
use Rattle.printer.specs.promises.Methods.{MethodsPut}
use Rattle.printer.specs.promises.Units.{class_parent, class_head, class_members, whole_class, main_name_lem, main_parameter_lem, main_head_tokens}
use Rattle.printer.specs.promises.Units.{ClassPut, ClassesPut, ProgramPut}
use Rattle.printer.specs.laws.PutLaws.{tokens-more}
use Rattle.printer.specs.laws.LexemeLaws.{named-lexeme}
use Rattle.printer.specs.laws.WalkLaws.{likewise, nothing, in-loosest-place}
use Rattle.printer.specs.laws.MethodLaws.{holds-variables, match-variables, led}

-- a name's token
named_put : {s tab : List ℕ} {n row at r : ℕ} {c c' : List ℕ} → TokenPut s tab row at c c' r
    → Whatever s tab n λ ts. (x : List ℕ) → NameIs ts row x → Puts at (render (name_token x ∷ [])) c c' r
named_put {s} {n = n} {row} t ts lx rows x h =
    likewise (ap (λ (k : Lexeme). render (k ∷ [])) (named-lexeme s ts lx row h)) (t.says n ts lx rows h.there)

-- CLASSES

class-near : {tab : List ℕ} {n : ℕ} {ts : List Token} → Lexemes tab n ts → {k : Class} → ClassHeld tab n ts k → k.name.row < absent
class-near rows {k} h = omega (arith, h.named.token.there, rows.count, rows.few)

-- where the parent's name is
parent_row : {tab : List ℕ} {n : ℕ} {ts : List Token} {row parent : ℕ} → parent ≡ word_at tab c_parent row → Lexemes tab n ts → (k : Class)
    → k.name.row ≡ row → ClassHeld tab n ts k → parent ≡ row_parent k.parent
parent_row {tab} leads rows k at h =
    leads ∙ ap (word_at tab c_parent) (sym at) ∙ word_in tab c_parent k.name.row (class-near rows h) h.above

module _ {s tab : List ℕ} {n : ℕ} {job : Job} where
  pub no-parent : {parent r : ℕ} {c c' : List ℕ} → parent ≡ word_at tab c_parent job.row → absent ≤ parent
      → Puts job.at (bytes "{" ++ b_line_feed ∷ []) c c' r → ClassPut s tab n class_parent job c c' r
  unfolding render spelling words marks separator class_parent ParentMatches
  no-parent {parent} {r} {c} {c'} leads far p = record {
    within = p.within;
    says = λ ts lx rows k at h few. go k.parent ts rows (parent_row leads rows k at h) h.parent-matches;
  }
    where
      go : (o : Option Name) (ts : List Token) → Lexemes tab n ts → parent ≡ row_parent o → ParentMatches ts o
          → Puts job.at (render (parent_tokens o [] ++ spelt k_open_brace ∷ [])) c c' r
      go none ts rows e m = p
      go (some x) ts rows e m = absurd (omega (arith, m.token.there, rows.count, rows.few, e))

  pub a-parent : {parent a b r : ℕ} {c c₁ c₂ c₃ : List ℕ} → parent ≡ word_at tab c_parent job.row → parent < absent
      → Puts job.at (bytes "extends" ++ b_space ∷ []) c c₁ a → TokenPut s tab parent a c₁ c₂ b
      → Puts b (bytes "{" ++ b_line_feed ∷ []) c₂ c₃ r → ClassPut s tab n class_parent job c c₃ r
  unfolding render spelling words marks separator class_parent ParentMatches
  a-parent {parent} {a} {b} {r} {c} {c₁} {c₂} {c₃} leads near p t q = record {
    within = q.within;
    says = λ ts lx rows k at h few. go k.parent ts lx rows (parent_row leads rows k at h) h.parent-matches;
  }
    where
      go : (o : Option Name) (ts : List Token) → tokens s ≡ accepted ts → Lexemes tab n ts → parent ≡ row_parent o → ParentMatches ts o
          → Puts job.at (render (parent_tokens o [] ++ spelt k_open_brace ∷ [])) c c₃ r
      go none ts lx rows e m = absurd (omega (arith, e))
      go (some x) ts lx rows e m =
          tokens-more (spelt k_extends ∷ []) (name_token x.text ∷ spelt k_open_brace ∷ []) p
          (tokens-more (name_token x.text ∷ []) (spelt k_open_brace ∷ [])
          (named_put {n = n} t ts lx rows x.text (subst (λ (i : ℕ). NameIs ts i x.text) (sym e) m.token)) q)

  pub titled-put : {a b r : ℕ} {c c₁ c₂ c₃ : List ℕ} → Puts job.at (bytes "class" ++ b_space ∷ []) c c₁ a
      → TokenPut s tab job.row a c₁ c₂ b → ClassPut s tab n class_parent (record { left = job.left; row = job.row; at = b }) c₂ c₃ r
      → ClassPut s tab n class_head job c c₃ r
  unfolding render spelling words marks separator class_head
  titled-put p t f = record {
    within = f.within;
    says = λ ts lx rows k at h few.
        tokens-more (spelt k_class ∷ []) (name_token k.name.text ∷ class_parent k) p
        (tokens-more (name_token k.name.text ∷ []) (class_parent k)
        (named_put {n = n} t ts lx rows k.name.text (subst (λ (i : ℕ). NameIs ts i k.name.text) at h.named.token))
        (f.says ts lx rows k at h few));
  }

  pub members-put : {a b r : ℕ} {first second : Job} {c c₁ c₂ c₃ : List ℕ} → PartReached tab c_fields job job.at first
      → VariablesPut s tab n first c c₁ a → PartReached tab c_methods job a second → MethodsPut s tab n second c₁ c₂ b
      → Puts b (bytes "}" ++ b_line_feed ∷ []) c₂ c₃ r → ClassPut s tab n class_members job c c₃ r
  unfolding render spelling words marks separator class_members
  members-put {a} {b} {r} {c = c} {c₁} {c₂} {c₃} g f g₂ v q = record {
    within = q.within;
    says = λ ts lx rows k at h few.
        let near = class-near rows h in
        let z : row_methods k.methods ≡ _ =
        sym (g₂.leads ∙ ap (word_at tab c_methods) (sym at) ∙ word_in tab c_methods k.name.row near h.second) in
        tokens-more (declarations_tokens k.fields []) (methods_tokens k.methods [] ++ spelt k_close_brace ∷ [])
        (subst (λ (i : ℕ). Puts i (render (declarations_tokens k.fields [])) c c₁ a) g.begins
        (f.says ts lx rows k.fields (led g at near k.fields h.first) (holds-variables h.fields)
        (match-variables h.fields) (omega (arith, h.few-fields, g.nodes))))
        (tokens-more (methods_tokens k.methods []) (spelt k_close_brace ∷ [])
        (subst (λ (i : ℕ). Puts i (render (methods_tokens k.methods [])) c₁ c₂ b) g₂.begins
        (v.says ts lx rows k.methods z h.methods (omega (arith, h.few-methods, g₂.nodes)))) q);
  }

  pub class-put : {a r : ℕ} {c c₁ c₂ : List ℕ} → ClassPut s tab n class_head job c c₁ a
      → ClassPut s tab n class_members (record { left = job.left; row = job.row; at = a }) c₁ c₂ r → ClassPut s tab n whole_class job c c₂ r
  unfolding class_parent class_head class_members whole_class
  class-put f g = record {
    within = g.within;
    says = λ ts lx rows k at h few.
        let e : class_head k ++ class_members k ≡ class_tokens k [] = (simp append_assoc) ∙ sym (of-class k []) in
        likewise (ap render e)
        (tokens-more (class_head k) (class_members k) (f.says ts lx rows k at h few) (g.says ts lx rows k at h few));
  }

class-append : (k : Class) (y : List Lexeme) → class_tokens k [] ++ y ≡ class_tokens k y
class-append k y = ap (λ (l : List Lexeme). l ++ y) (of-class k []) ∙ (simp append_assoc) ∙ sym (of-class k y)

module _ {s tab : List ℕ} {n : ℕ} {job : Job} where
  pub classes-none : {c : List ℕ} → job.left ≡ 0 → job.at ≤ text_room → ClassesPut s tab n job c c job.at
  unfolding classes_tokens
  classes-none {c} z h = record { within = h; says = go }
    where
      go : Whatever s tab n λ ts. (ks : List Class) → row_classes ks ≡ job.row → ClassesHeld tab n ts ks → length ks ≤ job.left
          → Puts job.at (render (classes_tokens ks [])) c c job.at
      go ts lx rows [] at held few = nothing h
      go ts lx rows (k ∷ ks) at held few = absurd (omega arith)

  pub classes-end : {c : List ℕ} → absent ≤ job.row → job.at ≤ text_room → ClassesPut s tab n job c c job.at
  unfolding classes_tokens
  classes-end {c} far h = record { within = h; says = go }
    where
      go : Whatever s tab n λ ts. (ks : List Class) → row_classes ks ≡ job.row → ClassesHeld tab n ts ks → length ks ≤ job.left
          → Puts job.at (render (classes_tokens ks [])) c c job.at
      go ts lx rows [] at held few = nothing h
      go ts lx rows (k ∷ ks) at (more-classes held x more) few = absurd (omega (arith, class-near rows held, at))

  pub classes-more : {next a r : ℕ} {c c₁ c₂ : List ℕ} → (job.left ≡ 0 → ⊥) → job.row < absent → next ≡ word_at tab c_next job.row
      → ClassPut s tab n whole_class (record { left = n; row = job.row; at = job.at }) c c₁ a
      → ClassesPut s tab n (record { left = job.left - 1; row = next; at = a }) c₁ c₂ r → ClassesPut s tab n job c c₂ r
  unfolding classes_tokens whole_class
  classes-more {r = r} {c = c} {c₂ = c₂} left near leads f w = record { within = w.within; says = go }
    where
      go : Whatever s tab n λ ts. (ks : List Class) → row_classes ks ≡ job.row → ClassesHeld tab n ts ks → length ks ≤ job.left
          → Puts job.at (render (classes_tokens ks [])) c c₂ r
      go ts lx rows [] at held few = absurd (omega arith)
      go ts lx rows (k ∷ ks) at (more-classes held x more) few =
          let z = sym (leads ∙ ap (word_at tab c_next) (sym at) ∙ word_in tab c_next k.name.row (omega (arith, at)) x) in
          likewise (ap render (class-append k (classes_tokens ks [])))
          (tokens-more (class_tokens k []) (classes_tokens ks []) (f.says ts lx rows k at held (omega arith))
          (w.says ts lx rows ks z more (omega arith)))

-- THE PROGRAM

name-there : (ts : List Token) (i : ℕ) → is_name_lem (kind_at ts i) ≡ true → NameIs ts i (token_at ts i).text
unfolding is_name_lem
name-there ts i e = record { there = seen ts i is_name_lem refl e; named = e; spelt = refl }

main-is : {ts : List Token} {p : Program} → DerivesProgram ts p → NameIs ts 1 p.main.text × NameIs ts 11 p.parameter.text
main-is {ts} (a_program h d e₁ e₂ ks) = (name-there ts 1 h.at1, name-there ts 11 h.at11)

module _ {s tab : List ℕ} {n : ℕ} where
  pub main-name-put : {at a b r : ℕ} {c c₁ c₂ c₃ : List ℕ} → Puts at (bytes "class" ++ b_space ∷ []) c c₁ a → TokenPut s tab 1 a c₁ c₂ b
      → Puts b (bytes "{\npublic static void main ( String [ ]" ++ b_space ∷ []) c₂ c₃ r → ProgramPut s tab n main_name_lem at c c₃ r
  unfolding render spelling words marks separator main_name_lem
  main-name-put p t q = record {
    within = q.within;
    says = λ ts lx rows g h d.
        let more =
        spelt k_open_brace ∷ spelt k_public ∷ spelt k_static ∷ spelt k_void ∷ spelt k_main ∷ spelt k_open ∷ spelt k_string ∷ spelt k_open_bracket
        ∷ spelt k_close_bracket ∷ [] in
        tokens-more (spelt k_class ∷ []) (name_token g.main.text ∷ more) p
        (tokens-more (name_token g.main.text ∷ []) more (named_put {n = n} t ts lx rows g.main.text (main-is d).0) q);
  }

  pub main-parameter-put : {at a r : ℕ} {c c₁ c₂ : List ℕ} → TokenPut s tab 11 at c c₁ a → Puts a (bytes ") {" ++ b_line_feed ∷ []) c₁ c₂ r
      → ProgramPut s tab n main_parameter_lem at c c₂ r
  unfolding render spelling words marks separator main_parameter_lem
  main-parameter-put t q = record {
    within = q.within;
    says = λ ts lx rows g h d.
        tokens-more (name_token g.parameter.text ∷ []) (spelt k_close ∷ spelt k_open_brace ∷ [])
        (named_put {n = n} t ts lx rows g.parameter.text (main-is d).1) q;
  }

  pub main-head-put : {at a r : ℕ} {c c₁ c₂ : List ℕ} → ProgramPut s tab n main_name_lem at c c₁ a → ProgramPut s tab n main_parameter_lem a c₁ c₂ r
      → ProgramPut s tab n main_head_tokens at c c₂ r
  unfolding main_head_tokens
  main-head-put f g = record {
    within = g.within;
    says = λ ts lx rows p h d. tokens-more (main_name_lem p) (main_parameter_lem p) (f.says ts lx rows p h d) (g.says ts lx rows p h d);
  }

  pub program-put : {first a b d r : ℕ} {c c₁ c₂ c₃ c₄ : List ℕ} → first ≡ word_at tab c_next 0 → ProgramPut s tab n main_head_tokens 0 c c₁ a
      → PartPut s tab n statement 0 (record { left = n; row = main_row; at = a }) c₁ c₂ b → Puts b (bytes "}\n}" ++ b_line_feed ∷ []) c₂ c₃ d
      → ClassesPut s tab n (record { left = n; row = first; at = d }) c₃ c₄ r → ProgramPut s tab n program_tokens 0 c c₄ r
  unfolding render spelling words marks separator main_name_lem main_parameter_lem main_head_tokens
  program-put leads f t q w = record {
    within = w.within;
    says = λ ts lx rows p h d.
        let z = sym (leads ∙ word_in tab c_next 0 (omega arith) h.first) in
        likewise (ap render (sym (of-program p)))
        (tokens-more (main_head_tokens p) (bare p.statement [] ++
        ((spelt k_close_brace ∷ spelt k_close_brace ∷ []) ++ classes_tokens p.classes []))
        (f.says ts lx rows p h d)
        (tokens-more (bare p.statement []) ((spelt k_close_brace ∷ spelt k_close_brace ∷ []) ++ classes_tokens p.classes [])
        (likewise (ap render (in-loosest-place p.statement))
        (t.says ts lx rows p.statement
        (record { at = h.row; holds = h.statement; matches = h.matches; within = h.statement-nodes })))
        (tokens-more (spelt k_close_brace ∷ spelt k_close_brace ∷ []) (classes_tokens p.classes []) q
        (w.says ts lx rows p.classes z h.world.classes h.world.few))));
  }
