-- A part has fewer nodes than the whole and lies among the same tokens, so the laws of what the rows show hold where a part is bounded
-- by its number of nodes and by the tokens. And how many arguments lie in a list.
use Prim.Native.Nat.{ℕ, ◌+◌, ◌-◌, ◌≤◌}
use native.Mathlib.Omega.{arith}
use mathlib.Core.Path.{◌≡◌, subst}
use mathlib.Core.List.{List}
use lib.ListN.{length}
use Rattle.base.specs.Codes.{tokens_most}
use Rattle.lexer.specs.Tokens.{Token}
use Rattle.parser.specs.Tree.{Sort, Sort.expression, Sort.arguments, Sort.statement, Sort.statements, Part, Expression, Statement}
use Rattle.parser.specs.Tree.{Part.literal, Part.truth, Part.variable, Part.this, Part.new_array_lem, Part.new_object_lem, Part.negation, Part.binary}
use Rattle.parser.specs.Tree.{Part.element, Part.array_length, Part.call, Part.port_get_lem, Part.no_arguments, Part.argument}
use Rattle.parser.specs.Tree.{Part.block, Part.conditional, Part.loop, Part.print, Part.assign, Part.assign_element_lem, Part.port_put_lem}
use Rattle.parser.specs.Tree.{Part.sequence}
use Rattle.parser.specs.promises.Layout.{absent, row_of}
use Rattle.parser.specs.Measure.{nodes}
use Rattle.reader.specs.promises.Holds.{Holds}
use Rattle.reader.specs.promises.Matches.{Matches}
use Rattle.reader.specs.promises.Spans.{Among, Spans}
use Rattle.reader.specs.laws.SpanLaws.{wider}
use Rattle.typesystem.specs.Judge.{arity}
use Rattle.lookup.specs.promises.Shows.{PartAt}
use Rattle.lookup.specs.promises.Lookups.{Many, many-none, many_more, Counts}
use Rattle.lookup.specs.laws.ShowLaws.{Bounds, BoundsS, there}
use Rattle.writer.specs.promises.Posts.{PartBounded}

pub positive : (e : Expression) → 1 ≤ nodes e
unfolding nodes
positive (literal p n) = omega arith
positive (truth p b) = omega arith
positive (variable p x) = omega arith
positive (this p) = omega arith
positive (new_array_lem p u e) = omega arith
positive (new_object_lem p c) = omega arith
positive (negation p e) = omega arith
positive (binary p o l r) = omega arith
positive (element p a i) = omega arith
positive (array_length p a) = omega arith
positive (call p e m es) = omega arith
positive (port_get_lem p e) = omega arith

pub positive-statement : (t : Statement) → 1 ≤ nodes t
unfolding nodes
positive-statement (block p ss) = omega arith
positive-statement (conditional p e s t) = omega arith
positive-statement (loop p e s) = omega arith
positive-statement (print p e) = omega arith
positive-statement (assign p x e) = omega arith
positive-statement (assign_element_lem p x i e) = omega arith
positive-statement (port_put_lem p n e) = omega arith

-- PARTS

-- what lies in a declaration
pub whole : {q : Sort} (t : Part q) {n : ℕ} (i : ℕ) → nodes t ≤ n → Spans i n t → PartBounded n n q t
whole t {n} i few h = record { few = few; spans = wider t i n 0 n (omega arith) (omega arith) h }

module _ (n row left : ℕ) (more : left ≡ 0 → ⊥) where
  -- a part before the token i of its whole, and one behind it
  before : {q : Sort} (t : Part q) (i : ℕ) → nodes t ≤ left - 1 → Among 0 n i → Spans 0 i t → PartBounded n (left - 1) q t
  before t i few m h = record { few = few; spans = wider t 0 i 0 n (omega arith) (omega (arith, m.high)) h }

  behind : {q : Sort} (t : Part q) (i : ℕ) → nodes t ≤ left - 1 → Spans (i + 1) n t → PartBounded n (left - 1) q t
  behind t i few h = record { few = few; spans = wider t (i + 1) n 0 n (omega arith) (omega arith) h }

  pub fewer : Bounds row (PartBounded n left) (PartBounded n (left - 1)) (PartBounded n (left - 1))
  unfolding nodes Spans
  fewer =
      record {
        of-new-array = λ {p} {u} {e} at w. behind e p.row (omega (arith, w.few)) w.spans.1;
        of-negation = λ {p} {e} at w. behind e p.row (omega (arith, w.few)) w.spans.1;
        of-binary = λ {p} {o} {l} {r} at w. (
          before l p.row (omega (arith, w.few)) w.spans.0 w.spans.1,
          behind r p.row (omega (arith, w.few)) w.spans.2,
        );
        of-element = λ {p} {a} {i} at w. (
          before a p.row (omega (arith, w.few)) w.spans.0 w.spans.1,
          behind i p.row (omega (arith, w.few)) w.spans.2,
        );
        of_length = λ {p} {e} at w. before e p.row (omega (arith, w.few)) w.spans.0 w.spans.1;
        of-call = λ {p} {e} {m} {es} at w. (
          before e p.row (omega (arith, w.few)) w.spans.0 w.spans.1,
          behind es p.row (omega (arith, w.few)) w.spans.2,
        );
        of-port-get = λ {p} {e} at w. behind e p.row (omega (arith, w.few)) w.spans.1;
      }

  pub fewer_s : BoundsS row (PartBounded n left) (PartBounded n (left - 1))
  unfolding nodes Spans
  fewer_s =
      record {
        of-block = λ {p} {ss} at w. behind ss p.row (omega (arith, w.few)) w.spans.1;
        of-conditional = λ {p} {e} {s} {t} at w. (
          behind e p.row (omega (arith, w.few)) w.spans.1,
          behind s p.row (omega (arith, w.few)) w.spans.2,
          behind t p.row (omega (arith, w.few)) w.spans.3,
        );
        of-loop = λ {p} {e} {s} at w. (
          behind e p.row (omega (arith, w.few)) w.spans.1,
          behind s p.row (omega (arith, w.few)) w.spans.2,
        );
        of-print = λ {p} {e} at w. behind e p.row (omega (arith, w.few)) w.spans.1;
        of-assignment = λ {p} {x} {e} at w. behind e p.row (omega (arith, w.few)) w.spans.1;
        of-element-store = λ {p} {x} {i} {e} at w. (
          behind i p.row (omega (arith, w.few)) w.spans.1,
          behind e p.row (omega (arith, w.few)) w.spans.2,
        );
        of-port-put = λ {p} {n = i} {e} at w. (
          behind i p.row (omega (arith, w.few)) w.spans.1,
          behind e p.row (omega (arith, w.few)) w.spans.2,
        );
      }

  -- the first of a list, and the rest
  pub fewer-arguments : (e : Expression) (es : Part arguments) → row_of e ≡ row → PartBounded n left arguments (argument e es)
      → PartBounded n left expression e × PartBounded n (left - 1) arguments es
  unfolding nodes Spans
  fewer-arguments e es at w = (
    record { few = omega (arith, w.few); spans = w.spans.0 },
    behind es (row_of e) (omega (arith, w.few, positive e)) w.spans.1,
  )

  pub fewer-statements : (t : Statement) (ss : Part statements) → row_of t ≡ row → PartBounded n left statements (sequence t ss)
      → PartBounded n left statement t × PartBounded n (left - 1) statements ss
  unfolding nodes Spans
  fewer-statements t ss at w = (
    record { few = omega (arith, w.few); spans = w.spans.0 },
    behind ss (row_of t) (omega (arith, w.few, positive-statement t)) w.spans.1,
  )

-- COUNTING

-- the rows of arguments lead to one another
arguments-many : {tab : List ℕ} (ts : List Token) → length ts ≤ tokens_most → (es : Part arguments) → Holds tab es → Matches ts es
    → Many tab (row_of es) (arity es)
unfolding Holds Matches arity
arguments-many ts few no_arguments h m = many-none {row = absent} (omega arith)
arguments-many {tab} ts few (argument e es) h m =
    subst (λ (l : ℕ). Many tab (row_of e) l) (omega arith)
    (many_more (omega (arith, there ts e m.0)) h.1 (arguments-many ts few es h.2 m.1))

arity-few : (es : Part arguments) → arity es ≤ nodes es
unfolding nodes arity
arity-few no_arguments = omega arith
arity-few (argument e es) = omega (arith, positive e, arity-few es)

pub counted : {tab : List ℕ} {ts : List Token} {n left row r : ℕ} → length ts ≤ tokens_most → Counts tab left row r → (es : Part arguments)
    → PartAt tab ts row (PartBounded n left arguments) es → r ≡ arity es
counted {tab} {ts} few c es h =
    c.says (arity es) (subst (λ (i : ℕ). Many tab i (arity es)) h.at (arguments-many ts few es h.holds h.matches))
    (omega (arith, h.within.few, arity-few es))
