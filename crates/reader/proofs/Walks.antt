-- What `part` and `node` return meets their contracts, and a turn of the loop in `part` goes on from one member of a list to the next: a
-- law for each.
use Prim.Native.Nat.{ℕ, ◌+◌, ◌≤◌, ◌<◌}
use mathlib.Core.Path.{◌≡◌, refl, sym, ap, ◌∙◌, subst}
use mathlib.Core.List.{List}
use mathlib.Core.Logic.{◌≢◌, ◌⊎◌, ⊎_elim, inl, inr}
use mathlib.Core.Bool.{Bool, true, false}
use mathlib.Core.Option.{Option, none, some}
use native.Mathlib.Omega.{arith}
use native.Mathlib.Decide.{dec_lt}
use lib.ListN.{length}
use lib.Dec.{eqb}
use Rattle.base.specs.promises.Table.{col, c_begin, c_first, c_second, c_next, c_third}
use Rattle.base.specs.Codes.{depth_most}
use Rattle.lexer.specs.Kinds.{k_dot, k_if, k_open_brace}
use Rattle.lexer.specs.Tokens.{Token}
use Rattle.parser.specs.Tree.{Sort, Sort.expression, Sort.arguments, Sort.statement, Sort.statements, Part}
use Rattle.parser.specs.Tree.{Part.literal, Part.truth, Part.variable, Part.this, Part.new_array_lem, Part.new_object_lem, Part.negation, Part.binary, Part.element, Part.array_length, Part.call, Part.port_get_lem, Part.no_arguments, Part.argument}
use Rattle.parser.specs.Tree.{Part.block, Part.conditional, Part.loop, Part.print, Part.assign, Part.assign_element_lem, Part.port_put_lem, Part.no_statements, Part.sequence}
use Rattle.parser.specs.Stream.{kind_at}
use Rattle.parser.specs.promises.Layout.{absent, row_of}
use Rattle.parser.specs.Measure.{nodes, least, deep}
use Rattle.parser.specs.promises.Post.{kind_in_table, TokensIn}
use Rattle.reader.specs.promises.Holds.{Holds}
use Rattle.reader.specs.promises.Matches.{Matches}
use Rattle.reader.specs.promises.WalkPost.{Ordered, nowhere, WalkAnswers, Walkable, follower, is_list, Sound, Walks}
use Rattle.reader.specs.laws.Kept.{numeral-there}
use Rattle.reader.specs.declared.walk.Walked.{Walked}
use Rattle.reader.proofs.Depths.{least-none, least-absent, NotBefore, both, fine-here, first-here, not-before, Joins, Encloses, nothing, joined, joined-nothing, enclosed, same_answer}
use Rattle.reader.proofs.Lists.{follower-up, follower-none}
use Rattle.reader.proofs.Nodes.{true-false, Apart, sound, apart}

-- ROWS

-- a part has a token of its own, or it is an empty list
row-or-empty : (ts : List Token) {s : Sort} (t : Part s) → Matches ts t
    → (row_of t < length ts) ⊎ ((is_list s ≡ true) × (nodes t ≡ 0) × ((d : ℕ) → deep d t ≡ none))
unfolding Matches deep nodes
row-or-empty ts (literal p n) m = inl (numeral-there ts p.row n m)
row-or-empty ts (truth p b) m = inl m.there
row-or-empty ts (variable p x) m = inl m.there
row-or-empty ts (this p) m = inl m.there
row-or-empty ts (new_array_lem p u e) m = inl m.0.there
row-or-empty ts (new_object_lem p c) m = inl m.0.there
row-or-empty ts (negation p e) m = inl m.0.there
row-or-empty ts (binary p o l r) m = inl m.0.there
row-or-empty ts (element p a i) m = inl m.0.there
row-or-empty ts (array_length p a) m = inl m.0.there
row-or-empty ts (call p e f es) m = inl m.0.there
row-or-empty ts (port_get_lem p e) m = inl m.0.there
row-or-empty ts no_arguments m = inr (refl, refl, λ d. refl)
row-or-empty ts (argument e es) m = ⊎_elim inl (λ z. absurd (true-false (sym z.0))) (row-or-empty ts e m.0)
row-or-empty ts (block p ss) m = inl m.0.there
row-or-empty ts (conditional p e s t) m = inl m.0.there
row-or-empty ts (loop p e s) m = inl m.0.there
row-or-empty ts (print p e) m = inl m.0.there
row-or-empty ts (assign p x e) m = inl m.0.there
row-or-empty ts (assign_element_lem p x i e) m = inl m.0.there
row-or-empty ts (port_put_lem p n e) m = inl m.0.there
row-or-empty ts no_statements m = inr (refl, refl, λ d. refl)
row-or-empty ts (sequence s ss) m = ⊎_elim inl (λ z. absurd (true-false (sym z.0))) (row-or-empty ts s m.0)

-- a list that is not empty: its first member and the others
record Split (tab : List ℕ) (ts : List Token) (low : ℕ) {s : Sort} (t : Part s) : Type 0 where
  s₁ : Sort
  s₂ : Sort
  head : Part s₁
  tail : Part s₂
  row : row_of t ≡ row_of head
  next : col tab c_next (row_of t) ≡ row_of tail
  rises : row_of t < row_of tail
  sound₁ : Sound tab ts low false head
  sound₂ : Sound tab ts low true tail
  depth : (d : ℕ) → deep d t ≡ least (deep d head) (deep d tail)
  size : nodes t ≡ nodes head + nodes tail

members : {tab : List ℕ} {ts : List Token} {low : ℕ} {s : Sort} (t : Part s) → row_of t < absent → is_list s ≡ true → Holds tab t
    → Matches ts t → Ordered low t → Split tab ts low t
unfolding Holds Matches Ordered deep nodes
members (literal p n) lt e h m o = absurd (true-false (sym e))
members (truth p b) lt e h m o = absurd (true-false (sym e))
members (variable p x) lt e h m o = absurd (true-false (sym e))
members (this p) lt e h m o = absurd (true-false (sym e))
members (new_array_lem p u x) lt e h m o = absurd (true-false (sym e))
members (new_object_lem p c) lt e h m o = absurd (true-false (sym e))
members (negation p x) lt e h m o = absurd (true-false (sym e))
members (binary p q l r) lt e h m o = absurd (true-false (sym e))
members (element p a i) lt e h m o = absurd (true-false (sym e))
members (array_length p a) lt e h m o = absurd (true-false (sym e))
members (call p x f es) lt e h m o = absurd (true-false (sym e))
members (port_get_lem p x) lt e h m o = absurd (true-false (sym e))
members no_arguments lt e h m o = absurd (omega arith)
members (argument x xs) lt e h m o =
    record {
      s₁ = expression;
      s₂ = arguments;
      head = x;
      tail = xs;
      row = refl;
      next = h.1;
      rises = o.0;
      sound₁ = sound refl h.0 m.0 o.1;
      sound₂ = sound refl h.2 m.1 o.2;
      depth = λ d. refl;
      size = refl;
    }
members (block p ss) lt e h m o = absurd (true-false (sym e))
members (conditional p x s t) lt e h m o = absurd (true-false (sym e))
members (loop p x s) lt e h m o = absurd (true-false (sym e))
members (print p x) lt e h m o = absurd (true-false (sym e))
members (assign p x v) lt e h m o = absurd (true-false (sym e))
members (assign_element_lem p x i v) lt e h m o = absurd (true-false (sym e))
members (port_put_lem p x v) lt e h m o = absurd (true-false (sym e))
members no_statements lt e h m o = absurd (omega arith)
members (sequence x xs) lt e h m o =
    record {
      s₁ = statement;
      s₂ = statements;
      head = x;
      tail = xs;
      row = refl;
      next = h.1;
      rises = o.0;
      sound₁ = sound refl h.0 m.0 o.1;
      sound₂ = sound refl h.2 m.1 o.2;
      depth = λ d. refl;
      size = refl;
    }

split : {tab : List ℕ} {ts : List Token} {low : ℕ} {s : Sort} (t : Part s) → row_of t < absent → Sound tab ts low true t → Split tab ts low t
split t lt h = members t lt (h.chained lt) h.holds h.matches h.ordered

-- an empty list, which may stand where no list does
empty : {tab : List ℕ} {ts : List Token} {low : ℕ} → Sound tab ts low false no_arguments
unfolding Holds Matches Ordered
empty = record { chained = λ lt. absurd (omega arith); holds = tt; matches = tt; ordered = tt }

sound-as : {tab : List ℕ} {ts : List Token} {low : ℕ} {b c : Bool} {s : Sort} {t : Part s} → b ≡ c → Sound tab ts low b t
    → Sound tab ts low c t
sound-as {tab} {ts} {low} {t = t} e h = subst (λ (x : Bool). Sound tab ts low x t) e h

-- PARTS

module _ {tab : List ℕ} {n : ℕ} {chain : Bool} {row d : ℕ} {w : Walked} where
  pub part-absent : Walkable tab n → absent ≤ row → w.count ≡ 0 → w.place ≡ nowhere → Walks tab n chain row d w
  part-absent r far c p =
      record {
        says = λ ts tok t low e h.
            ⊎_elim (λ lt. absurd (omega (arith, tok.count, r.few))) (λ z. same_answer (sym (z.2 d)) (sym z.1) (nothing c p)) (row-or-empty ts t h.matches);
      }

  -- nothing was walked yet
  pub part_none : {all rest : Walked} → all.count ≡ 0 → all.place ≡ nowhere → Walks tab n chain row d rest → Joins all rest w
      → Walks tab n chain row d w
  part_none c p k j = record { says = λ ts tok t low e h. joined-nothing c p (k.says ts tok t low e h) j }

module _ {tab : List ℕ} {n row d : ℕ} {w : Walked} (near : row < absent) where
  part-wrong : col tab c_next row ≤ row → Walks tab n true row d w
  part-wrong le =
      record {
        says = λ ts tok t low e h.
            let v : Split tab ts low t = split t (omega arith) h in
            absurd (omega (arith, v.rises, v.next, ap (col tab c_next) e));
      }

  module _ {first rest : Walked} (f : Walks tab n false row d first) (j : Joins first rest w) where
    part-more : Walks tab n true (col tab c_next row) d rest → Walks tab n true row d w
    part-more g =
        record {
          says = λ ts tok t low e h.
              let v : Split tab ts low t = split t (omega arith) h in
              same_answer (sym (v.depth d)) (sym v.size)
              (joined (f.says ts tok v.head low (sym v.row ∙ e) v.sound₁)
              (g.says ts tok v.tail low (sym v.next ∙ ap (col tab c_next) e) v.sound₂) j);
        }

    -- what is no list has one member; the walk from no row on is that of an empty list
    part-only : Walks tab n false absent d rest → Walks tab n false row d w
    unfolding deep nodes
    part-only g =
        record {
          says = λ ts tok t low e h.
              same_answer (least-none (deep d t)) (omega arith) (joined (f.says ts tok t low e h) (g.says ts tok no_arguments low refl empty) j);
        }

-- the member in this row, and those from the next on
pub part_step : {tab : List ℕ} {n row d next : ℕ} {first rest w : Walked} (chain : Bool) → row < absent → Walks tab n false row d first
    → next ≡ follower tab chain row
    → Walks tab n chain next d rest → Joins first rest w → Walks tab n chain row d w
part_step {tab} {n} {row} {d} {rest = rest} true near f e g j = elim (dec_lt row (col tab c_next row)) [
  | yes up ↦ part-more near f j (subst (λ (i : ℕ). Walks tab n true i d rest) (e ∙ follower-up tab row up) g)
  | no wrong ↦ part-wrong near (omega arith)
]
part_step {tab} {n} {row} {d} {rest = rest} false near f e g j =
    part-only near f j (subst (λ (i : ℕ). Walks tab n false i d rest) (e ∙ follower-none tab row) g)

-- NODES

-- the depths below a node
abbrev below : (d : ℕ) {tab : List ℕ} {ts : List Token} {s : Sort} {t : Part s} → Apart tab ts t → Option ℕ
below d v = least (least (deep (d + 1) v.t₁) (deep (d + 1) v.t₂)) (deep (d + 1) v.t₃)

not-before-parts : (d : ℕ) {tab : List ℕ} {ts : List Token} {s : Sort} {t : Part s} (v : Apart tab ts t)
    → NotBefore v.place.start (below d v)
not-before-parts d v =
    both (both (not-before (d + 1) v.t₁ _ v.sound₁.ordered) (not-before (d + 1) v.t₂ _ v.sound₂.ordered))
    (not-before (d + 1) v.t₃ _ v.sound₃.ordered)

-- a node that is too deep is itself the first one
too-deep : (d : ℕ) {tab : List ℕ} {ts : List Token} {s : Sort} {t : Part s} (v : Apart tab ts t) → depth_most < d
    → deep d t ≡ some v.place.start
too-deep d v far = v.depth d ∙ first-here d v.place far (not-before-parts d v)

pub node-far : {tab : List ℕ} {n row d : ℕ} {w : Walked} → row < absent → depth_most < d → w.place ≡ col tab c_begin row → w.place < nowhere
    → Walks tab n false row d w
node-far {tab} {n} {row} {d} {w} near far p small =
    record {
      says = λ ts tok t low e h.
          let v : Apart tab ts t = apart t low (h.chained (omega arith)) h.holds h.matches h.ordered in
          same_answer {l = nodes t} (sym (too-deep d v far)) refl
          (at-start v.place.start (p ∙ ap (col tab c_begin) (sym e) ∙ v.begins));
    }
  where
    at-start : {k : ℕ} (a : ℕ) → w.place ≡ a → WalkAnswers (some a) k w
    at-start a q = record { place = (q, omega arith); count = λ z. let y : ◌≡◌ {A = ℕ} 0 1 = cc in absurd (omega arith) }

-- a node that is not too deep, from what lies below it
closed : {tab : List ℕ} {ts : List Token} (d : ℕ) {s : Sort} {t : Part s} (v : Apart tab ts t) {parts w : Walked} → d ≤ depth_most
    → WalkAnswers (below d v) (nodes v.t₁ + nodes v.t₂ + nodes v.t₃) parts → Encloses parts w → WalkAnswers (deep d t) (nodes t) w
closed d v fine h c = same_answer (sym (v.depth d ∙ fine-here d v.place (below d v) fine)) (sym v.size) (enclosed h c)

kind-here : {tab : List ℕ} {n k : ℕ} {ts : List Token} (row : ℕ) → k ≡ kind_in_table tab n row → TokensIn tab n ts
    → {s : Sort} (t : Part s) → row_of t ≡ row → kind_at ts (row_of t) ≡ k
kind-here {ts = ts} row kind tok t e = ap (kind_at ts) e ∙ sym (tok.kinds row) ∙ sym kind

-- the first two parts, as the code walks them
module _ {tab : List ℕ} {n : ℕ} (row d : ℕ) {k left right : ℕ} {a b two : Walked} (kind : k ≡ kind_in_table tab n row)
    (l : left ≡ col tab c_first row) (f : Walks tab n (eqb k k_open_brace) left (d + 1) a)
    (r : right ≡ col tab c_second row) (g : Walks tab n (eqb k k_dot) right (d + 1) b) (j : Joins a b two) where
  both-parts : {ts : List Token} → TokensIn tab n ts → {s : Sort} {t : Part s} → row_of t ≡ row → (v : Apart tab ts t)
      → WalkAnswers (least (deep (d + 1) v.t₁) (deep (d + 1) v.t₂)) (nodes v.t₁ + nodes v.t₂) two
  both-parts {ts} tok {t = t} e v =
      joined
      (f.says ts tok v.t₁ _ (sym v.first ∙ ap (col tab c_first) e ∙ sym l) (sound-as (ap (λ (x : ℕ). eqb x k_open_brace) (kind-here row kind tok t e)) v.sound₁))
      (g.says ts tok v.t₂ _ (sym v.second ∙ ap (col tab c_second) e ∙ sym r) (sound-as (ap (λ (x : ℕ). eqb x k_dot) (kind-here row kind tok t e)) v.sound₂)) j

  pub node-two : {w : Walked} → row < absent → d ≤ depth_most → k ≢ k_if → Encloses two w → Walks tab n false row d w
  node-two near fine other c =
      record {
        says = λ ts tok t low e h.
            let v : Apart tab ts t = apart t low (h.chained (omega arith)) h.holds h.matches h.ordered in
            let z = v.fewer (λ q. other (sym (kind-here row kind tok t e) ∙ q)) in
            closed d v fine
            (same_answer (least-absent (least (deep (d + 1) v.t₁) (deep (d + 1) v.t₂)) (deep (d + 1) v.t₃) (z.1 (d + 1))) (omega (arith, z.0)) (both-parts tok e v)) c;
      }

  pub node-three : {last : ℕ} {c three w : Walked} → row < absent → d ≤ depth_most → k ≡ k_if → last ≡ col tab c_third row
      → Walks tab n false last (d + 1) c
      → Joins two c three → Encloses three w → Walks tab n false row d w
  node-three near fine is e₃ q i o =
      record {
        says = λ ts tok t low e h.
            let v : Apart tab ts t = apart t low (h.chained (omega arith)) h.holds h.matches h.ordered in
            closed d v fine
            (joined (both-parts tok e v)
            (q.says ts tok v.t₃ _ (sym (v.third (kind-here row kind tok t e ∙ is)) ∙ ap (col tab c_third) e ∙ sym e₃) v.sound₃) i) o;
      }
