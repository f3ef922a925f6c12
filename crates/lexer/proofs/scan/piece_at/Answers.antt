-- `lexer::scan::piece_at` meets its contract: the kind of the first byte decides.
use Prim.Native.Nat.{ℕ, ◌≤◌, ◌<◌}
use mathlib.Core.Path.{refl, sym, ap, ◌∙◌, subst}
use Rattle.lexer.specs.ByteKinds.{b_digit}
use Rattle.lexer.specs.promises.Scan.{piece_of}
use Rattle.lexer.proofs.ByteKinds.{kind-mark}
use Rattle.lexer.proofs.Items.{at-blank, at_other}
use Rattle.lexer.proofs.scan.piece_at.Goals as goal

pub returns-then-kind-eq-BLANK : goal.returns-then-kind-eq-BLANK
returns-then-kind-eq-BLANK c =
    sym (ap (piece_of c.args.at) (at-blank c.args.source.now c.args.at c.requires.1 (sym c.kind_of-kind.ensures ∙ c.if-kind-eq-BLANK.true)))

pub returns-then-kind-lt-DIGIT : goal.returns-then-kind-lt-DIGIT
returns-then-kind-lt-DIGIT c =
    sym
    (ap (piece_of c.args.at)
    (at_other c.args.source.now c.args.at c.requires.1
    (subst (λ (n : ℕ). n < b_digit) c.kind_of-kind.ensures c.if-kind-lt-DIGIT.true)
    (λ q. c.if-kind-eq-BLANK.false (c.kind_of-kind.ensures ∙ q))
    c.if-b-eq47.false))

pub word-requires : goal.word-requires
word-requires c =
    (c.requires.0, record { inside = c.requires.1; kind = sym c.kind_of-kind.ensures ∙ c.if-kind-eq-LETTER.true })

pub number-requires : goal.number-requires
number-requires c =
    (c.requires.0, record { inside = c.requires.1; kind = sym c.kind_of-kind.ensures ∙ c.if-kind-eq-DIGIT.true })

pub mark-requires : goal.mark-requires
mark-requires c =
    record {
      inside = c.requires.1;
      is = refl;
      kind =
          kind-mark _ (subst (λ (n : ℕ). b_digit ≤ n) c.kind_of-kind.ensures c.if-kind-lt-DIGIT.false) (λ q. c.if-kind-eq-LETTER.false (c.kind_of-kind.ensures ∙ q)) (λ q. c.if-kind-eq-DIGIT.false (c.kind_of-kind.ensures ∙ q));
    }
