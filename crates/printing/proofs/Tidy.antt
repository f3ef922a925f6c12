-- Document 02, (v), "Tidy printing of a lesson": what holds of the text of a lesson.
use Rattle.std.specs.Prelude.{ℕ, ◌+◌, ◌≤◌, ◌≡◌, refl, List, ◌∷◌, ◌++◌, map, ◌↔◌, length}
use Rattle.std.proofs.Common.{sym, ap, ◌∙◌, arith, length-append}
use Rattle.std.proofs.lemmas.List.{length-map}
use Rattle.base.specs.Codes.{source_most}
use Rattle.base.specs.Outcome.{accepted}
use Rattle.lexer.specs.Kinds.{k_open, k_close}
use Rattle.lexer.specs.Tokens.{Token}
use Rattle.parser.specs.Tree.{Program}
use Rattle.parser.specs.Read.{Reading, reading}
use Rattle.typesystem.specs.Check.{judged, checking}
use Rattle.typing.specs.laws.Agreement.{program-agrees}
use Rattle.acceptance.specs.Read.{Readable, readable-exactly}
use Rattle.acceptance.specs.Accepted.{Allowed, allowed}
use Rattle.printing.specs.Printed.{Lexeme, spelt, program_tokens, render, text}
use Rattle.printing.specs.Same.{erase_program, SameProgram}
use Rattle.printing.specs.Pairs.{WithPairs}
use Rattle.printing.proofs.laws.Lexing.{lexeme, laid, laid-lexemes}
use Rattle.printing.proofs.laws.Erasing.{same-printed, same_text}
use Rattle.printing.proofs.laws.Depth.{same-depth}
use Rattle.printing.proofs.laws.Checked.{same-accepted}
use Rattle.printing.proofs.laws.PairLaws.{only-pairs-put, few}
use Rattle.printing.proofs.laws.TextLaws.{written, text-tokens, text-tree, one-tree-of, without-pair, no-shorter, source-laid-out}

-- THE LESSON'S TOKENS

-- The tokens of a lesson are those of its text with pairs of parentheses put in: printing takes pairs out, and does nothing else.
pub only-pairs : (s : List ℕ) (r : Reading) → reading s ≡ accepted r → WithPairs (program_tokens r.tree) (map lexeme r.stream)
only-pairs s r e = let h = (readable-exactly s r.stream r.tree).0 e in only-pairs-put s r.stream h.lexed h.derived

-- The text of a tree has the fewest tokens of all lessons with that tree.
pub fewest-tokens : (s : List ℕ) (r : Reading) (p : Program) → reading s ≡ accepted r → SameProgram r.tree p
    → length (program_tokens p) ≤ length r.stream
fewest-tokens s r p e q =
    let h = (readable-exactly s r.stream r.tree).0 e in
    omega (arith, few s r.stream h.lexed h.derived, ap length (same-printed r.tree p q))

-- A text is longer than its lesson by at most one byte a token: with a strip of 18,432 bytes no lesson meets 61.
pub text-most : (s : List ℕ) (r : Reading) → reading s ≡ accepted r → length (text r.tree) ≤ length s + length r.stream
unfolding text
text-most s r e =
    omega (arith, no-shorter (only-pairs s r e), source-laid-out s r.stream ((readable-exactly s r.stream r.tree).0 e).lexed)

-- READING A TEXT BACK

-- "A written text of at most 16,384 bytes reads back to the same tree"
pub read_back : (s : List ℕ) (r : Reading) → reading s ≡ accepted r → length (text r.tree) ≤ source_most
    → (r₂ : Reading) × (reading (text r.tree) ≡ accepted r₂) × SameProgram r₂.tree r.tree
read_back s r e short =
    let p = r.tree in
    let w = written s r e in
    let t = text-tree p w in
    let ts = laid 0 (program_tokens p) in
    let shallow = same-depth p t.0 (sym t.2) ((readable-exactly s r.stream p).0 e).shallow in (
      record { stream = ts; tree = t.0 },
      (readable-exactly (text p) ts t.0).1 (record { short = short; lexed = text-tokens p w; derived = t.1; shallow = shallow }),
      t.2,
    )

-- "An expression stands in parentheses, one pair, exactly where without them the tree would change or the text be refused": the text that
-- is left when a pair is taken out, whichever it is, is refused or has another tree. (Where no pair stands none is needed: `read_back`.)
pub no-pair-out : (s : List ℕ) (r : Reading) → reading s ≡ accepted r
    → (front mid back : List Lexeme) → program_tokens r.tree ≡ front ++ spelt k_open ∷ (mid ++ spelt k_close ∷ back)
    → (r₂ : Reading) → reading (render (front ++ (mid ++ back))) ≡ accepted r₂ → ¬ SameProgram r₂.tree r.tree
no-pair-out s r e front mid back q r₂ e₂ same =
    let p = r.tree in
    let h = fewest-tokens (render (front ++ (mid ++ back))) r₂ p e₂ same in
    let c = without-pair p (written s r e) front mid back q in
    let l = ((readable-exactly (render (front ++ (mid ++ back))) r₂.stream r₂.tree).0 e₂).lexed in
    let z = accepted-eq (sym c ∙ l) in
    let n = ap length (laid-lexemes 0 (front ++ (mid ++ back))) in
    omega (
      arith,
      h,
      ap length z,
      length-map (laid 0 (front ++ (mid ++ back))) lexeme,
      n,
      ap length q,
      length-append front (spelt k_open ∷ (mid ++ spelt k_close ∷ back)),
      length-append mid (spelt k_close ∷ back),
      length-append front (mid ++ back),
      length-append mid back,
    )
  where
    accepted-eq : {a b : List Token} → accepted a ≡ accepted b → a ≡ b
    accepted-eq e = cc

-- "two lessons give equal text exactly when their trees (declarations, names and values too, positions not) are equal", texts over 16,384
-- bytes too
pub equal-text : (s₁ s₂ : List ℕ) (r₁ r₂ : Reading) → reading s₁ ≡ accepted r₁ → reading s₂ ≡ accepted r₂
    → (text r₁.tree ≡ text r₂.tree) ↔ SameProgram r₁.tree r₂.tree
equal-text s₁ s₂ r₁ r₂ e₁ e₂ =
    (one-tree-of r₁.tree r₂.tree (written s₁ r₁ e₁) (written s₂ r₂ e₂), same_text r₁.tree r₂.tree)

-- ACCEPTED LESSONS

-- what is accepted was read
read_as : (s : List ℕ) (p : Program) → checking s ≡ accepted p
    → (ts : List Token) × (reading s ≡ accepted (record { stream = ts; tree = p })) × (judged p ≡ accepted p)
read_as s p e =
    let a = allowed s p e in
    (a.stream, (readable-exactly s a.stream p).1 a.readable, (program-agrees p p).1 (refl, a.typed))

-- A text of at most 16,384 bytes of a lesson that Check accepts is accepted too, with the same tree.
pub checked-back : (s : List ℕ) (p : Program) → checking s ≡ accepted p → length (text p) ≤ source_most
    → (q : Program) × (checking (text p) ≡ accepted q) × SameProgram q p
unfolding checking
checked-back s p e short =
    let a = read_as s p e in
    let b = read_back s (record { stream = a.0; tree = p }) a.1 short in
    (b.0.tree, rw b.1 (same-accepted p b.0.tree (sym b.2) a.2), b.2)

-- Two accepted lessons give equal text exactly when their trees are equal but for positions.
pub equal-texts : (s₁ s₂ : List ℕ) (p₁ p₂ : Program) → checking s₁ ≡ accepted p₁ → checking s₂ ≡ accepted p₂
    → (text p₁ ≡ text p₂) ↔ SameProgram p₁ p₂
equal-texts s₁ s₂ p₁ p₂ e₁ e₂ =
    let a₁ = read_as s₁ p₁ e₁ in
    let a₂ = read_as s₂ p₂ e₂ in
    equal-text s₁ s₂ (record { stream = a₁.0; tree = p₁ }) (record { stream = a₂.0; tree = p₂ }) a₁.1 a₂.1

-- Printing a text again gives the same text.
pub printed-again : (s : List ℕ) (p q : Program) → checking s ≡ accepted p → length (text p) ≤ source_most → checking (text p) ≡ accepted q
    → text q ≡ text p
printed-again s p q e short e₂ =
    let b = checked-back s p e short in
    let z : b.0 ≡ q = accepted-eq (sym b.1 ∙ e₂) in
    same_text q p (ap erase_program (sym z) ∙ b.2)
  where
    accepted-eq : {x y : Program} → accepted x ≡ accepted y → x ≡ y
    accepted-eq e = cc
