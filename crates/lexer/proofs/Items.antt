-- What begins at a position, case by case: a law for each way in which the scanner answers.
use Prim.Native.Nat.{ℕ, ◌+◌, ◌-◌, ◌≤◌, ◌<◌}
use native.Mathlib.Nat.{add-zero}
use native.Mathlib.Decide.{dec_lt}
use native.Mathlib.Omega.{arith}
use mathlib.Core.List.{List, [], ◌∷◌, ◌++◌}
use mathlib.Core.Logic.{◌≢◌}
use mathlib.Core.Bool.{Bool, false, ◌&&◌, not}
use mathlib.Core.Option.{Option, none, some}
use mathlib.Core.Path.{◌≡◌, refl, sym, ap, ◌∙◌}
use lib.ListN.{length, get_or, take, drop, length-append, get_or-eq_default}
use lib.Seq.{get_or-drop, drop-drop}
use lib.Dec.{eqb}
use borrow.Author.Tests.{eq-eqb, ne_eqb, eqb-false}
use Rattle.base.specs.Choice.{if◌then◌otherwise◌}
use Rattle.lexer.specs.Bytes.{b_line_feed, b_slash, b_ampersand, b_star, b_dot, is_blank, is_letter, is_digit_lem, is_name_part_lem}
use Rattle.lexer.specs.Kinds.{k_literal, k_fixed_literal, k_and, word_kind_lem, mark_kind_lem, k_end}
use Rattle.lexer.specs.Tokens.{gap, nothing, token, longest_run, begins, closing, comment, mark, numeral, item}
use Rattle.lexer.proofs.laws.ItemLaws.{run-front, begins-cons, chosen}
use Rattle.lexer.specs.ByteKinds.{b_letter, b_digit, b_blank, b_mark, b_other, byte_kind}
use Rattle.lexer.specs.promises.Scan.{member, closing_of, piece_of, Letter, Digit, Mark}
use Rattle.lexer.specs.declared.scan.Class.TheVariants.{Line, Word, Number}
use Rattle.std.specs.Prelude.{Option as Found, Some, None}
use Rattle.lexer.specs.declared.scan.Piece.{Piece}
use Rattle.lexer.specs.declared.scan.Piece.TheVariants.{Gap, Unclosed, Token}
use Rattle.lexer.proofs.Runs.{rest}
use Rattle.lexer.proofs.ByteKinds.{letter-by-kind, digit-by-kind, blank-by-kind, mark-by-kind, mark-token, no-mark, slash-kind}

-- a byte whose kind is not that of the slash is no slash
off-slash : {b k : ℕ} → byte_kind b ≡ k → eqb k b_other ≡ false → b ≢ b_slash
off-slash {b} {k} e n q = eqb-false k b_other n (sym e ∙ ap byte_kind q ∙ slash-kind)

-- a byte other than 0 stands within the source
pub byte_inside : (s : List ℕ) (i v : ℕ) → get_or s i 0 ≡ v → 0 < v → i < length s
byte_inside s i v e h =
    elim (dec_lt i (length s)) [ yes lt ↦ lt | no ge ↦ absurd (omega (arith, e, get_or-eq_default s 0 (past ge))) ]
  where
    past : (i < length s → ⊥) → length s ≤ i
    past ge = omega arith

-- a comment's end as the scanner's answer
abbrev pub on_closing : Found ℕ → Piece
on_closing (Some e) = Gap e
on_closing None = Unclosed

on-comment : (i : ℕ) (o : Option ℕ) → on_closing (closing_of o) ≡ piece_of i (comment o)
on-comment i none = refl
on-comment i (some e) = refl

module _ (s : List ℕ) (i : ℕ) (h : i < length s) where
  -- the byte at i, the bytes after it, and the first of those, which is 0 where there is none
  abbrev first : ℕ
  first = get_or s i 0

  abbrev more : List ℕ
  more = drop (i + 1) s

  abbrev second : ℕ
  second = get_or s (i + 1) 0

  next : get_or more 0 0 ≡ second
  next = get_or-drop (i + 1) s 0 0 ∙ ap (λ (n : ℕ). get_or s n 0) (add-zero (i + 1))

  opens : (x y : ℕ) → eqb y 0 ≡ false → {a b : Bool} → eqb x first ≡ a → eqb y second ≡ b → begins x y (first ∷ more) ≡ a && b
  opens x y z p q = begins-cons x y first more z ∙ (λ j. p j && (ap (eqb y) next ∙ q) j)

  choice : {a b c d e f : Bool} → is_blank first ≡ a → begins b_slash b_slash (first ∷ more) ≡ b → begins b_slash b_star (first ∷ more) ≡ c
      → is_letter first ≡ d → is_digit_lem first ≡ e → begins b_ampersand b_ampersand (first ∷ more) ≡ f
      → item i (drop i s) ≡ chosen i first more a b c d e f
  unfolding item
  choice p q r t u v = ap (item i) (rest s i h) ∙ (λ j. chosen i first more (p j) (q j) (r j) (t j) (u j) (v j))

  back : (p : ℕ → Bool) → longest_run p (first ∷ more) ≡ longest_run p (drop i s)
  back p = ap (longest_run p) (sym (rest s i h))

  pub at-blank : byte_kind first ≡ b_blank → item i (drop i s) ≡ gap (i + 1)
  at-blank e = choice (blank-by-kind first ∙ ap (λ (k : ℕ). eqb k b_blank) e) refl refl refl refl refl

  pub at-line : first ≡ b_slash → second ≡ b_slash → item i (drop i s) ≡ gap (i + length (longest_run (λ c. not (eqb c b_line_feed)) (drop i s)))
  unfolding is_blank
  at-line e n =
      choice (ap is_blank e) (opens b_slash b_slash refl (ap (eqb b_slash) e) (ap (eqb b_slash) n)) refl refl refl refl
      ∙ ap (λ (l : List ℕ). gap (i + length l)) (back (λ c. not (eqb c b_line_feed)))

  pub at_block : first ≡ b_slash → second ≡ b_star → item i (drop i s) ≡ comment (closing 1 (i + 2) (drop (i + 2) s))
  unfolding is_blank
  at_block e n =
      choice
      (ap is_blank e)
      (opens b_slash b_slash refl (ap (eqb b_slash) e) (ap (eqb b_slash) n))
      (opens b_slash b_star refl (ap (eqb b_slash) e) (ap (eqb b_star) n))
      refl
      refl
      refl
      ∙ ap (λ (l : List ℕ). comment (closing 1 (i + 2) l)) (ap (drop 2) (sym (rest s i h)) ∙ drop-drop 2 i s)

  pub at-slash : first ≡ b_slash → second ≢ b_slash → second ≢ b_star → item i (drop i s) ≡ nothing
  unfolding is_blank is_letter is_digit_lem mark_kind_lem
  at-slash e n m =
      choice
      (ap is_blank e)
      (opens b_slash b_slash refl (ap (eqb b_slash) e) (ne_eqb b_slash second (λ q. n (sym q))))
      (opens b_slash b_star refl (ap (eqb b_slash) e) (ne_eqb b_star second (λ q. m (sym q))))
      (ap is_letter e)
      (ap is_digit_lem e)
      (opens b_ampersand b_ampersand refl (ap (eqb b_ampersand) e) refl)
      ∙ ap (λ (b : ℕ). mark b (mark_kind_lem b)) e

  not-slash : (y : ℕ) → eqb y 0 ≡ false → first ≢ b_slash → begins b_slash y (first ∷ more) ≡ false
  not-slash y z n = opens b_slash y z (ne_eqb b_slash first (λ q. n (sym q))) refl

  -- the tests by the kind of the first byte
  by_kind : {k : ℕ} → byte_kind first ≡ k
      → (is_letter first ≡ eqb k b_letter) × (is_digit_lem first ≡ eqb k b_digit) × (is_blank first ≡ eqb k b_blank)
  by_kind e = (
    letter-by-kind first ∙ ap (λ (k : ℕ). eqb k b_letter) e,
    digit-by-kind first ∙ ap (λ (k : ℕ). eqb k b_digit) e,
    blank-by-kind first ∙ ap (λ (k : ℕ). eqb k b_blank) e,
  )

  pub at-letter : byte_kind first ≡ b_letter
      → item i (drop i s) ≡ token (word_kind_lem (longest_run is_name_part_lem (drop i s))) (longest_run is_name_part_lem (drop i s))
  at-letter e =
      let n = off-slash e refl in
      choice (by_kind e).2 (not-slash b_slash refl n) (not-slash b_star refl n) (by_kind e).0 refl refl
      ∙ ap (λ (t : List ℕ). token (word_kind_lem t) t) (back is_name_part_lem)

  at-digit : byte_kind first ≡ b_digit → item i (drop i s) ≡ numeral (drop i s)
  at-digit e =
      let n = off-slash e refl in
      choice (by_kind e).2 (not-slash b_slash refl n) (not-slash b_star refl n) (by_kind e).0 (by_kind e).1 refl
      ∙ ap numeral (sym (rest s i h))

  pub at-and : first ≡ b_ampersand → second ≡ b_ampersand → item i (drop i s) ≡ token k_and (b_ampersand ∷ b_ampersand ∷ [])
  unfolding is_blank is_letter is_digit_lem
  at-and e n =
      choice
      (ap is_blank e)
      (opens b_slash b_slash refl (ap (eqb b_slash) e) refl)
      (opens b_slash b_star refl (ap (eqb b_slash) e) refl)
      (ap is_letter e)
      (ap is_digit_lem e)
      (opens b_ampersand b_ampersand refl (ap (eqb b_ampersand) e) (ap (eqb b_ampersand) n))

  pub at-lone-and : first ≡ b_ampersand → second ≢ b_ampersand → item i (drop i s) ≡ nothing
  unfolding is_blank is_letter is_digit_lem mark_kind_lem
  at-lone-and e n =
      choice
      (ap is_blank e)
      (opens b_slash b_slash refl (ap (eqb b_slash) e) refl)
      (opens b_slash b_star refl (ap (eqb b_slash) e) refl)
      (ap is_letter e)
      (ap is_digit_lem e)
      (opens b_ampersand b_ampersand refl (ap (eqb b_ampersand) e) (ne_eqb b_ampersand second (λ q. n (sym q))))
      ∙ ap (λ (b : ℕ). mark b (mark_kind_lem b)) e

  pub at_mark : byte_kind first ≡ b_mark → first ≢ b_ampersand → item i (drop i s) ≡ token (mark_kind_lem first) (first ∷ [])
  at_mark e m =
      let n = off-slash e refl in
      let q = by_kind e in
      let t = mark-token first (mark-by-kind first q.0 q.1 q.2 ∙ ap (λ (k : ℕ). eqb k b_mark) e) m in
      choice
      q.2
      (not-slash b_slash refl n)
      (not-slash b_star refl n)
      q.0
      q.1
      (opens b_ampersand b_ampersand refl (ne_eqb b_ampersand first (λ y. m (sym y))) refl)
      ∙ ap (λ (z : Bool). if z then (λ _. nothing) otherwise λ _. token (mark_kind_lem first) (first ∷ [])) (ne_eqb (mark_kind_lem first) k_end t)

  pub at_other : byte_kind first < b_digit → byte_kind first ≢ b_blank → first ≢ b_slash → item i (drop i s) ≡ nothing
  at_other k w n =
      let p = letter-by-kind first ∙ ne_eqb (byte_kind first) b_letter (λ e. omega arith) in
      let q = digit-by-kind first ∙ ne_eqb (byte_kind first) b_digit (λ e. omega arith) in
      let r = blank-by-kind first ∙ ne_eqb (byte_kind first) b_blank w in
      let t = no-mark first (mark-by-kind first p q r ∙ ne_eqb (byte_kind first) b_mark (λ e. omega arith)) in
      choice
      r
      (not-slash b_slash refl n)
      (not-slash b_star refl n)
      p
      q
      (opens b_ampersand b_ampersand refl (ne_eqb b_ampersand first (λ y. t.0 (sym y))) refl)
      ∙ ap (mark first) t.1

  -- ---- the same of the scanner's answers

  pub piece-line : {e : ℕ} → first ≡ b_slash → second ≡ b_slash → e ≡ i + length (longest_run (member Line) (drop i s))
      → Gap e ≡ piece_of i (item i (drop i s))
  piece-line p n l = ap Gap l ∙ sym (ap (piece_of i) (at-line p n))

  pub piece-block : {k : Found ℕ} → first ≡ b_slash → second ≡ b_star → k ≡ closing_of (closing 1 (i + 2) (drop (i + 2) s))
      → on_closing k ≡ piece_of i (item i (drop i s))
  piece-block p n e = ap on_closing e ∙ on-comment i (closing 1 (i + 2) (drop (i + 2) s)) ∙ sym (ap (piece_of i) (at_block p n))

  pub piece-word : {e k : ℕ} → Letter s i → e ≡ i + length (longest_run (member Word) (drop i s)) → k ≡ word_kind_lem (take (e - i) (drop i s))
      → Token k e ≡ piece_of i (item i (drop i s))
  piece-word {e} {k} l p q =
      let t = longest_run is_name_part_lem (drop i s) in
      let n : e - i ≡ length t = omega arith in
      (λ j. Token ((q ∙ ap (λ (m : ℕ). word_kind_lem (take m (drop i s))) n ∙ ap word_kind_lem (run-front is_name_part_lem (drop i s))) j) (p j))
      ∙ sym (ap (piece_of i) (at-letter l.kind))

  -- e is where the digits end that begin at i
  module _ {e : ℕ} (d : Digit s i) (p : e ≡ i + length (longest_run (member Number) (drop i s))) where
    abbrev whole : List ℕ
    whole = longest_run is_digit_lem (drop i s)

    behind : drop (length whole) (drop i s) ≡ drop e s
    behind = drop-drop (length whole) i s ∙ ap (λ (n : ℕ). drop n s) (sym p)

    -- the byte where they end and the one behind it decide
    by-point : {b c : ℕ} → b ≡ get_or s e 0 → c ≡ get_or s (e + 1) 0 → {x y : Bool} → eqb b b_dot ≡ x → is_digit_lem c ≡ y
        → item i (drop i s)
        ≡ (if x && y then (λ _. token k_fixed_literal (whole ++ b_dot ∷ longest_run is_digit_lem (drop (e + 1) s))) otherwise λ _. token k_literal whole)
    by-point {b} {c} pb pc {x} {y} qx qy =
        let at-point = ap (λ (l : List ℕ). get_or l 0 0) behind ∙ get_or-drop e s 0 0 ∙ ap (λ (n : ℕ). get_or s n 0) (add-zero e) ∙ sym pb in
        let at_next = ap (λ (l : List ℕ). get_or l 1 0) behind ∙ get_or-drop e s 1 0 ∙ sym pc in
        let after = ap (drop 1) behind ∙ drop-drop 1 e s in
        at-digit d.kind
        ∙ (λ j.
        if (ap (λ (n : ℕ). eqb n b_dot) at-point ∙ qx) j && (ap is_digit_lem at_next ∙ qy) j
        then (λ _. token k_fixed_literal (whole ++ b_dot ∷ longest_run is_digit_lem (after j))) otherwise λ _. token k_literal whole)

    pub piece-fixed : {b c f : ℕ} → b ≡ get_or s e 0 → b ≡ b_dot → c ≡ get_or s (e + 1) 0 → byte_kind c ≡ b_digit
        → f ≡ e + 1 + length (longest_run (member Number) (drop (e + 1) s)) → Token k_fixed_literal f ≡ piece_of i (item i (drop i s))
    piece-fixed {b} {c} {f} pb qb pc qc pf =
        let fraction = longest_run is_digit_lem (drop (e + 1) s) in
        let z : f ≡ i + length (whole ++ b_dot ∷ fraction) = omega (arith, length-append whole (b_dot ∷ fraction)) in
        ap (Token k_fixed_literal) z
        ∙ sym (ap (piece_of i) (by-point pb pc (eq-eqb b b_dot qb) (digit-by-kind c ∙ ap (λ (k : ℕ). eqb k b_digit) qc)))

    -- no point
    pub piece-literal : {b : ℕ} → b ≡ get_or s e 0 → b ≢ b_dot → Token k_literal e ≡ piece_of i (item i (drop i s))
    piece-literal {b} pb nb = ap (Token k_literal) p ∙ sym (ap (piece_of i) (by-point pb refl (ne_eqb b b_dot nb) refl))

    -- a point, and no digit behind it
    pub piece-before-point : {b c : ℕ} → b ≡ get_or s e 0 → b ≡ b_dot → c ≡ get_or s (e + 1) 0 → byte_kind c ≢ b_digit
        → Token k_literal e ≡ piece_of i (item i (drop i s))
    piece-before-point {b} {c} pb qb pc nc =
        ap (Token k_literal) p
        ∙ sym (ap (piece_of i) (by-point pb pc (eq-eqb b b_dot qb) (digit-by-kind c ∙ ne_eqb (byte_kind c) b_digit nc)))

  pub piece-mark : {b k : ℕ} → Mark s i b → b ≢ b_ampersand → k ≡ mark_kind_lem b → Token k (i + 1) ≡ piece_of i (item i (drop i s))
  piece-mark m n e =
      (λ j. Token ((e ∙ ap mark_kind_lem m.is) j) (i + 1))
      ∙ sym (ap (piece_of i) (at_mark (ap byte_kind (sym m.is) ∙ m.kind) (λ q. n (m.is ∙ q))))
