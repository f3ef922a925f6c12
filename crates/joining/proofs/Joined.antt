-- Document 02, (x): what Join answers, and what holds of the text that it writes. "The joined tree is the lesson's classes, then the kept
-- ones, whenever the joined text passes Read; all other operations then take that text." It holds since the text has the lesson's tokens,
-- then those of the kept classes (laws/Placing), and the grammar derives one tree from them.
use Rattle.std.specs.Prelude.{ℕ, ◌+◌, ◌≤◌, ◌<◌, ◌≡◌, ◌⊎◌, ◌↔◌, length, replicate}
use Rattle.std.proofs.Common.{arith, ap, ◌∙◌, inl, inr, length-append, lt-ltb, le-ltb}
use Rattle.std.proofs.Math.Decide.{dec_lt}
use Rattle.std.proofs.Math.Path.{refl, sym, subst}
use mathlib.Core.List.{List, [], ◌∷◌, ◌++◌}
use Rattle.base.specs.All.{All}
use Rattle.base.specs.laws.Lists.{All2}
use Rattle.base.specs.Codes.{table_too_short, table_least, source_too_long, source_most, tokens_most, too_many_tokens, library_refused}
use Rattle.base.specs.Write.{WriteAnswer, WriteResult, write_refusal}
use Rattle.base.specs.Outcome.{Outcome, accepted, refused, ◌>>=◌}
use Rattle.lexer.specs.Bytes.{b_line_feed}
use Rattle.lexer.specs.Tokens.{Token}
use Rattle.device.specs.Device.{IsByte}
use Rattle.parser.specs.Tree.{Class, Program}
use Rattle.parser.specs.Read.{Reading, reading, table_after}
use Rattle.reader.specs.laws.ReadingLaws.{too_long, not-lexed}
use Rattle.acceptance.specs.Accepted.{Allowed}
use Rattle.acceptance.specs.Read.{Finds, reads-exactly, Readable, readable-exactly}
use Rattle.typing.specs.laws.Choices.{bound, refused-accepted}
use Rattle.semantics.specs.Limits.{Limits, run}
use Rattle.semantics.specs.Run.{RunAnswer, Strips, Runs}
use Rattle.appended.specs.More.{with_more}
use Rattle.guarantees.proofs.RunAppended.{run-appended}
use Rattle.guarantees.proofs.Appended.{runs-appended}
use Rattle.joining.specs.Library.{LibraryReading, reading_library}
use Rattle.joining.specs.Join.{names_of, kept_classes, kept_text, join_text, as_library, joining}
use Rattle.joining.specs.Join.{join_result, join, Joins}
use Rattle.joining.specs.Copy.{Copy}
use Rattle.joining.specs.Found.{FindsLibrary}
use Rattle.joining.specs.Text.{JoinedText}
use Rattle.joining.proofs.Reading.{library-exactly, ReadableLibrary, readable-library}
use Rattle.joining.proofs.laws.Adding.{many-tokens, tokens-few}
use Rattle.joining.proofs.laws.Lengths.{kept-most, classes-few}
use Rattle.joining.proofs.laws.Again.{nothing-kept}
use Rattle.joining.proofs.laws.Placing.{joined_stream, more, copies, joined-lexed, joined-tree, joined-readable}

-- WHAT IS ANSWERED

pub data JoinFinds (s lib : List ℕ) : Outcome (List ℕ) → Type 0 where
  -- what Read refuses in the lesson comes first
  lesson-refused : {n q : ℕ} → Finds s (refused n q) → JoinFinds s lib (refused n q)
  -- 66 where the reading rules refuse the library, at its position
  library-refused : {r : Reading} {n q : ℕ} → Finds s (accepted r) → FindsLibrary lib (refused n q)
      → JoinFinds s lib (refused library_refused q)
  -- else the text
  joined : {r : Reading} {l : LibraryReading} → Finds s (accepted r) → FindsLibrary lib (accepted l)
      → JoinFinds s lib (accepted (join_text s r.tree lib l.stream l.classes))

-- What is found is what `JoinFinds` says.
pub joins-exactly : (s lib : List ℕ) (o : Outcome (List ℕ)) → (joining s lib ≡ o) ↔ JoinFinds s lib o
unfolding joining
joins-exactly s lib o = (λ e. subst (JoinFinds s lib) e (by-lesson (reading s) refl), given)
  where
    by-library : (r : Reading) → reading s ≡ accepted r → (o : Outcome LibraryReading) → reading_library lib ≡ o
        → JoinFinds s lib (as_library o >>= λ l. accepted (join_text s r.tree lib l.stream l.classes))
    by-library r e (accepted l) q = joined ((reads-exactly s (accepted r)).0 e) ((library-exactly lib (accepted l)).0 q)
    by-library r e (refused n p) q = library-refused ((reads-exactly s (accepted r)).0 e) ((library-exactly lib (refused n p)).0 q)

    by-lesson : (o : Outcome Reading) → reading s ≡ o
        → JoinFinds s lib (o >>= λ r. as_library (reading_library lib) >>= λ l. accepted (join_text s r.tree lib l.stream l.classes))
    by-lesson (accepted r) e = by-library r e (reading_library lib) refl
    by-lesson (refused n p) e = lesson-refused ((reads-exactly s (refused n p)).0 e)

    given : {o : Outcome (List ℕ)} → JoinFinds s lib o
        → (reading s >>= λ r. as_library (reading_library lib) >>= λ l. accepted (join_text s r.tree lib l.stream l.classes)) ≡ o
    given (lesson-refused {n = n} {q = q} f) = rw ((reads-exactly s (refused n q)).1 f) refl
    given (library-refused {r = r} {n = n} {q = q} f g) =
        rw ((reads-exactly s (accepted r)).1 f, (library-exactly lib (refused n q)).1 g) refl
    given (joined {r = r} {l = l} f g) = rw ((reads-exactly s (accepted r)).1 f, (library-exactly lib (accepted l)).1 g) refl

-- THE OPERATION

parts : {a : WriteAnswer} {l : List ℕ} {x : WriteResult} → record { answer = a; strip = l } ≡ x → (a ≡ x.answer) × (l ≡ x.strip)
parts e = (ap (λ (y : WriteResult). y.answer) e, ap (λ (y : WriteResult). y.strip) e)

module _ {s lib table before : List ℕ} {a : WriteAnswer} {tableExit after : List ℕ} (J : Joins s lib table before a tableExit after) where
  short-table : length table < table_least
      → join s lib (length table) before ≡ record { answer = write_refusal table_too_short 0; strip = before }
  unfolding join
  short-table l = rw (lt-ltb (length table) table_least l) refl

  long-table : table_least ≤ length table → join s lib (length table) before ≡ join_result (joining s lib) before
  unfolding join
  long-table l = rw (le-ltb (length table) table_least l) refl

  -- 1: table under 16,384 words, which touches nothing.
  pub join-table-short : length table < table_least → (a ≡ write_refusal table_too_short 0) × (after ≡ before) × (tableExit ≡ table)
  unfolding table_after
  join-table-short l =
      let w = parts (J.answer ∙ short-table l) in
      (w.0, w.1, J.cleared ∙ rw (lt-ltb (length table) table_least l) refl)

  -- Else the answer and the strip are those of what is found, and every word of the work table is 0.
  pub join-answers : table_least ≤ length table
      → (o : Outcome (List ℕ)) × JoinFinds s lib o × (a ≡ (join_result o before).answer) × (after ≡ (join_result o before).strip)
      × (tableExit ≡ replicate (length table) 0)
  unfolding table_after
  join-answers l =
      let w = parts (J.answer ∙ long-table l) in (
        joining s lib,
        (joins-exactly s lib (joining s lib)).0 refl,
        w.0,
        w.1,
        J.cleared ∙ rw (le-ltb (length table) table_least l) refl,
      )

-- THE TEXT

-- a line feed behind the lesson, and one for each of 512 classes: a class has four tokens or more
abbrev pub more_most : ℕ
more_most = 513

refused-same : {A : Type 0} {o : Outcome A} {n m p q : ℕ} → o ≡ refused n p → o ≡ refused m q → m ≡ n
refused-same a b = cc

module _ {s : List ℕ} {ts : List Token} {p : Program} {lib : List ℕ} {ls : List Token} {ks : List Class}
    (R : Readable s ts p) (L : ReadableLibrary lib ls ks) where
  whole : JoinedText (join_text s p lib ls ks) p ls ks
  whole = record { tree = λ x q. (more R L, copies R L, joined-tree R L x q); refusals = refusals }
    where
      refusals : (n q : ℕ) → reading (join_text s p lib ls ks) ≡ refused n q → (n ≡ source_too_long) ⊎ (n ≡ too_many_tokens)
      refusals n q h =
          let t = join_text s p lib ls ks in
          let us = joined_stream R L in
          elim (dec_lt source_most (length t)) [
            | yes long ↦ inl (refused-same (too_long t long) h)
            | no short ↦
                elim (dec_lt tokens_most (length us)) [
                  | yes many ↦ inr (refused-same (not-lexed t (omega arith) (many-tokens t us (joined-lexed R L) many).1) h)
                  | no few ↦
                      absurd (refused-accepted (sym h ∙ (readable-exactly t us (with_more p (more R L))).1
                      (joined-readable R L (omega arith) (omega arith))))
                ]
          ]

-- a lesson and a library that join to a text
module _ (s lib text : List ℕ) (e : joining s lib ≡ accepted text) where
  -- Both are read, the text begins with the lesson, and it is joined from them.
  pub joined-text : (r : Reading) × (l : LibraryReading) × (reading s ≡ accepted r) × (reading_library lib ≡ accepted l)
      × (text ≡ join_text s r.tree lib l.stream l.classes) × JoinedText text r.tree l.stream l.classes
  unfolding joining
  joined-text =
      let v = bound (reading s) _ e in
      let w = bound (as_library (reading_library lib)) _ v.2 in
      let b = as-library (reading_library lib) w.1 in
      let z : join_text s v.0.tree lib w.0.stream w.0.classes ≡ text = cc in (
        v.0,
        w.0,
        v.1,
        b,
        sym z,
        subst (λ (t : List ℕ). JoinedText t v.0.tree w.0.stream w.0.classes) z
            (whole ((readable-exactly s v.0.stream v.0.tree).0 v.1) ((readable-library lib w.0.stream w.0.classes).0 b)),
      )
    where
      as-library : (o : Outcome LibraryReading) {l : LibraryReading} → as_library o ≡ accepted l → o ≡ accepted l
      as-library (accepted l) e = e
      as-library (refused n p) e = absurd (refused-accepted e)

  -- Joining again with the same library adds one line feed, where the text passes Read.
  pub joined-again : (r : Reading) → reading text ≡ accepted r → joining text lib ≡ accepted (text ++ b_line_feed ∷ [])
  unfolding joining
  joined-again r e₂ =
      let w = joined-text in
      let l = w.1 in
      let t = w.5.tree r e₂ in
      let none_left = nothing-kept lib l.stream l.classes w.0.tree r.tree t.0 t.1 t.2 in
      rw (e₂, w.3, none_left) refl

  -- A strip of the lengths of both and 513 bytes more is never too short: a line feed behind the lesson, and one for each class.
  pub text-most : length text ≤ length s + length lib + more_most
  text-most =
      let w = joined-text in
      let r = w.0 in
      let l = w.1 in
      let L = (readable-library lib l.stream l.classes).0 w.3 in
      let taken = names_of r.tree in
      omega (
        arith,
        ap length w.4,
        length-append s (b_line_feed ∷ kept_text taken lib l.stream l.classes),
        kept-most lib l.stream L.lexed taken L.derived,
        classes-few L.derived,
        tokens-few lib l.stream L.lexed,
      )

  -- So one of 33,281 bytes is not, whatever they are.
  pub text-ever : length text ≤ 33281
  text-ever =
      let w = joined-text in
      let r = w.0 in
      let l = w.1 in
      let R = (readable-exactly s r.stream r.tree).0 w.2 in
      let L = (readable-library lib l.stream l.classes).0 w.3 in
      omega (arith, text-most, R.short, L.short)

  -- the lesson accepted alone, and joined; a tape of bytes
  module _ (p q : Program) (A : Allowed s p) (B : Allowed text q) (tape : List ℕ) (bytes : All IsByte tape) where
    behind : List ℕ
    behind =
        let w = joined-text in
        b_line_feed ∷ kept_text (names_of w.0.tree) lib w.1.stream w.1.classes

    is : text ≡ s ++ behind
    unfolding behind
    is = joined-text.4

    -- Then both runs report the same, under all limits: (xi).
    pub joined-run : (L : Limits) → run q L tape ≡ run p L tape
    joined-run L = run-appended s behind p q A (subst (λ (t : List ℕ). Allowed t q) is B) tape bytes L

    -- And Run may answer, and leave in what was lent, just what it may for the lesson alone.
    pub joined-runs : (budget calls : ℕ) (before : Strips) (a : RunAnswer) (after : Strips)
        → Runs s budget calls tape before a after ↔ Runs text budget calls tape before a after
    joined-runs budget calls before a after =
        subst (λ (t : List ℕ). Runs s budget calls tape before a after ↔ Runs t budget calls tape before a after) (sym is)
        (runs-appended s behind p q A (subst (λ (t : List ℕ). Allowed t q) is B) tape bytes budget calls before a after)
