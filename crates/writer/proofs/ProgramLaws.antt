-- What writing a program returns meets its contract: no field is in the array while main's statement is written, and all of it fits.
use Prim.Native.Nat.{ℕ, suc, ◌≤◌}
use native.Mathlib.Omega.{arith}
use mathlib.Core.Path.{◌≡◌, refl, sym, ap, ◌∙◌}
use mathlib.Core.List.{List, [], ◌∷◌}
use lib.ListN.{length, get_or, replicate}
use Rattle.base.specs.laws.Lists.{get_d-replicate-same}
use Rattle.base.specs.promises.Table.{c_next}
use Rattle.lexer.specs.Tokens.{Token}
use Rattle.lexer.specs.promises.Rows.{first_named}
use Rattle.parser.specs.Tree.{Sort.statement, Program}
use Rattle.parser.specs.promises.Layout.{absent, row_classes, main_row}
use Rattle.parser.specs.Grammar.{DerivesProgram}
use Rattle.typesystem.specs.ClassTable.{main_context}
use Rattle.lookup.specs.promises.Shows.{PartAt}
use Rattle.lookup.specs.promises.HeldClasses.{word_at, no_name, no-variables}
use Rattle.lookup.specs.laws.HeldLaws.{word_in}
use Rattle.lookup.specs.promises.Fields.{FieldsFilled}
use Rattle.bodies.specs.declared.scope.Scope.{Scope}
use Rattle.declarations.specs.promises.Indexing.{Ready}
use Rattle.codegen.specs.promises.Code.{halt, i_halt}
use Rattle.codegen.specs.promises.Compile.{end, emit, emit_classes, compile}
use Rattle.writer.specs.promises.Words.{store}
use Rattle.writer.specs.promises.Sizing.{SizesHeld, SizesPost}
use Rattle.writer.specs.promises.Scoping.{Sees}
use Rattle.writer.specs.promises.Posts.{room, PutPost, Wrote, PartBounded, WritePost}
use Rattle.writer.specs.promises.Classes.{entered_classes, ClassesPost}
use Rattle.writer.specs.laws.Room.{program-room}
use Rattle.writer.specs.promises.Writing.{BeginPost, SeesNone, MainPost, Writes}
use Rattle.writer.proofs.RowLaws.{whole}
use Rattle.writer.proofs.PieceLaws.{put_one, next-to}
use Rattle.writer.proofs.SizeLaws.{all-sizes}
use Rattle.writer.proofs.ClassLaws.{sizes-kept, grows-classes}

-- WHAT MAIN SEES

pub begun : (size : ℕ) {tab names₁ names₂ names₃ : List ℕ} {n classes first : ℕ} → names₁ ≡ replicate size 0
    → SizesPost tab n classes n first names₁ names₂
    → FieldsFilled tab n classes absent names₂ names₃ → BeginPost tab n classes first names₃
begun size {names₁ = names₁} zero s f =
    record {
      fields = f.held;
      sizes = λ ts G w l here. sizes-kept f.stays (all-sizes s zeros w l here);
    }
  where
    zeros : (j : ℕ) → get_or names₁ j 0 ≡ 0
    zeros j = ap (λ (l : List ℕ). get_or l j 0) zero ∙ get_d-replicate-same size j 0

-- MAIN

pub main-wrote : {tab names : List ℕ} {s : Scope} {a r : ℕ} {c c₁ c₂ : List ℕ} → SeesNone s
    → WritePost tab names s statement (record { left = s.tokens; row = main_row; at = 0 }) c c₁ a → PutPost a i_halt 0 0 0 c₁ c₂ r
    → MainPost tab names s.tokens s.classes c c₂ r
main-wrote {tab} {names} {s} {a} {r} {c} {c₁} {c₂} none f o = record { within = o.within; says = go }
  where
    go : (ts : List Token) (p : Program) → Ready tab s.tokens ts p → length p.classes ≡ s.classes
        → SizesHeld ts p.classes names → suc (end p.statement 0) ≤ room
        → Wrote (first_named ts) (λ k. emit p.classes main_context p.statement 0 (halt ∷ k)) (suc (end p.statement 0)) 0 c c₂ r
    go ts p w l sizes lim =
        let sees : Sees tab names ts p.classes main_context s =
        record {
          scope =
              record {
                world = w.world;
                many = l;
                declarer = no_name {c = s.owner} (omega (arith, none.owner));
                given = [];
                own = [];
                seen = refl;
                given-listed = record { at = sym none.parameters; stand = no-variables; few = omega arith };
                own-listed = record { at = sym none.locals; stand = no-variables; few = omega arith };
              };
          sizes = sizes;
        } in
        let x : PartAt tab ts main_row (PartBounded s.tokens s.tokens statement) p.statement =
        record {
          at = w.row;
          holds = w.statement;
          matches = w.matches;
          within = whole p.statement main_row w.statement-nodes w.statement-within;
        } in
        let u = f.says ts p.classes main_context sees p.statement x (omega arith) in
        next-to (λ j k. halt ∷ k) suc u (put_one halt refl o (rw u.ends lim))

-- ALL

pub all-wrote : {tab names : List ℕ} {n classes first a : ℕ} {c c₁ c₂ E E₂ : List ℕ} → first ≡ word_at tab c_next 0
    → BeginPost tab n classes first names → MainPost tab names n classes c c₁ a
    → ClassesPost tab n classes (record { left = n; row = first; at = a }) names c₁ c₂ E E₂ → Writes tab n classes c c₂ E E₂
unfolding compile
all-wrote {tab} {names} {n} {classes} {first} {a} {c} {c₁} {c₂} {E} {E₂} e₆ b m g = record { says = go }
  where
    go : (ts : List Token) (p : Program) → Ready tab n ts p → DerivesProgram ts p → length p.classes ≡ classes
        → (c₂ ≡ store (first_named ts) (compile p).instructions 0 c) × (E₂ ≡ entered_classes p.classes (suc (end p.statement 0)) E)
    go ts p w d l =
        let G = p.classes in
        let stop = suc (end p.statement 0) in
        let here : row_classes G ≡ first = sym w.first ∙ sym (word_in tab c_next 0 (omega arith) refl) ∙ sym e₆ in
        let sizes = b.sizes ts G w.world l here in
        let fits = program-room d in
        let u = m.says ts p w l sizes (omega (arith, grows-classes G stop)) in
        let v = g.says ts G w.world l sizes G (record { here = here; stand = w.world.classes; few = w.world.few }) (rw u.ends (omega arith)) in
        (v.0 ∙ ap (λ (i : ℕ). store (first_named ts) (emit_classes G G i) a c₁) u.ends ∙ sym (u.code.is (emit_classes G G stop)), v.1 ∙ ap (λ (i : ℕ). entered_classes G i E) u.ends)
