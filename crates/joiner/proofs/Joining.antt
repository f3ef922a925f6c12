-- What each return of the functions of Join shows.
use Prim.Native.Nat.{ℕ, ◌+◌, ◌-◌, ◌≤◌, ◌<◌}
use mathlib.Core.Path.{◌≡◌, refl, sym, ap, ◌∙◌}
use mathlib.Core.List.{List, [], ◌∷◌, ◌++◌, append_assoc}
use native.Mathlib.Omega.{arith}
use lib.ListN.{length, set, take, drop, replicate, length-append}
use lib.Seq.{take-length, length-take-le, get_or-take}
use Rattle.std.proofs.lemmas.List.{length-map}
use borrow.Author.Tests.{lt-ltb, le-ltb}
use Rattle.base.specs.Codes.{table_least, table_too_short, source_most, tokens_most}
use Rattle.base.specs.Outcome.{Outcome, accepted, refused, ◌>>=◌}
use Rattle.base.specs.laws.Tests.{apart}
use Rattle.lexer.specs.Bytes.{b_line_feed}
use Rattle.parser.specs.Read.{Reading, reading, table_after}
use Rattle.parser.specs.Tree.{Class}
use Rattle.parser.specs.promises.Layout.{row_classes}
use Rattle.reader.specs.promises.ReadPost.{Fills}
use Rattle.reader.specs.declared.read.Counts.{Counts}
use Rattle.reader.specs.laws.Matching.{classes-match}
use Rattle.acceptance.specs.Read.{Readable, readable-exactly}
use Rattle.joining.specs.Library.{LibraryReading, reading_library}
use Rattle.joining.specs.Join.{names_of, slice, kept_text, join_text, as_library, joining, join_result, join, Joins}
use Rattle.joining.proofs.Reading.{readable-library}
use Rattle.joiner.specs.promises.LibraryPost.{LibraryHeld, LibraryFills}
use Rattle.joiner.specs.promises.Names.{classes_most, positions_of, ListedFrom, NamesKept}
use Rattle.joiner.specs.promises.Texts.{kept_from, overlay, Overlaid}
use Rattle.base.specs.promises.Answers.{write_answer_of}
use Rattle.joiner.specs.promises.JoinPost.{JoinAnswered, LessonHeld}
use Rattle.base.specs.declared.refusal.Reason.TheVariants as reason
use Rattle.base.specs.declared.refusal.Refusal.{Refusal}
use Rattle.base.specs.promises.Refusals.{number_of, refusal, Refuses}
use Rattle.std.specs.Prelude.{Result, Ok, Err}
use Rattle.joining.proofs.laws.Lengths.{classes-few, lesson-few}
use Rattle.joiner.specs.laws.TextLaws.{kept-is}
use Rattle.joiner.proofs.Writing.{overlay-append, front}

-- THE TEXT

whole_part : (s : List ℕ) → slice 0 (length s) s ≡ s
whole_part s = let z : length s - 0 ≡ length s = omega arith in ap (λ (n : ℕ). take n (drop 0 s)) z ∙ take-length s

pub text-written : (s before kept_classes : List ℕ) {mid after last : List ℕ} → Overlaid before 0 (slice 0 (length s) s) mid
    → after ≡ set mid (length s) b_line_feed → Overlaid after (length s + 1) kept_classes last → Overlaid before 0
    (s ++ b_line_feed ∷ kept_classes) last
unfolding overlay
text-written s before kept_classes {mid} {after} {last} c e w =
    let none : length s ≡ 0 + length s = omega arith in
    let line : after ≡ overlay before 0 (s ++ b_line_feed ∷ []) =
    e ∙ (λ j. set ((c.is ∙ ap (overlay before 0) (whole_part s)) j) (none j) b_line_feed) ∙ sym (overlay-append s (b_line_feed ∷ []) before 0)
    in
    let at : length s + 1 ≡ 0 + length (s ++ b_line_feed ∷ []) = omega (arith, length-append s (b_line_feed ∷ [])) in
    record {
      is = w.is ∙ (λ j. overlay (line j) (at j) kept_classes) ∙ sym (overlay-append (s ++ b_line_feed ∷ []) kept_classes before 0)
          ∙ ap (overlay before 0) (append_assoc s (b_line_feed ∷ []) kept_classes);
    }

module _ (s ks before : List ℕ) {kept_classes : ℕ} (e : kept_classes ≡ length ks) where
  size_is : length s + 1 + kept_classes ≡ length (s ++ b_line_feed ∷ ks)
  size_is = omega (arith, e, length-append s (b_line_feed ∷ ks))

  pub text-short : length before < length s + 1 + kept_classes
      → JoinAnswered (join_result (accepted (s ++ b_line_feed ∷ ks)) before) (refusal reason.JoinedTooLong 0) before
  text-short l = record { is = rw (lt-ltb (length before) (length (s ++ b_line_feed ∷ ks)) (omega (arith, size_is))) refl }

  pub text-done : {after : List ℕ} → length s + 1 + kept_classes ≤ length before → Overlaid before 0 (s ++ b_line_feed ∷ ks) after
      → JoinAnswered (join_result (accepted (s ++ b_line_feed ∷ ks)) before)
      (Ok (length s + 1 + kept_classes)) after
  text-done {after} l w =
      let text = s ++ b_line_feed ∷ ks in
      let strip : after ≡ text ++ drop (length text) before = w.is ∙ front text [] before (omega (arith, size_is)) in
      record {
        is = (λ j. record { answer = record { number = 0; position = 0; count = size_is j }; strip = strip j })
            ∙ rw (le-ltb (length before) (length text) (omega (arith, size_is))) refl;
      }

-- THE LIBRARY

-- what is listed in an array is listed in as much of it as it takes
listed-front : (n : ℕ) (a xs : List ℕ) (i : ℕ) → i + length xs ≤ n → ListedFrom a i xs → ListedFrom (take n a) i xs
listed-front n a [] i l h = h
listed-front n a (x ∷ xs) i l h = (get_or-take n a i 0 (omega arith) ∙ h.0, listed-front n a xs (i + 1) (omega arith) h.1)

record LibraryFound (lib : List ℕ) (n first : ℕ) (tab : List ℕ) : Type 0 where
  found : LibraryReading
  is : reading_library lib ≡ accepted found
  tokens : n ≡ length found.stream
  row : first ≡ row_classes found.classes
  held : LibraryHeld tab found

library-found : (lib : List ℕ) {n first : ℕ} {h : Result (ℕ × ℕ) ℕ} {tab : List ℕ} → LibraryFills (reading_library lib) h tab → h ≡ Ok (n, first)
    → LibraryFound lib n first tab
library-found lib {n} {first} {h} {tab} f e = go (reading_library lib) refl f
  where
    go : (o : Outcome LibraryReading) → reading_library lib ≡ o → LibraryFills o h tab → LibraryFound lib n first tab
    go (accepted l) q w =
        let z : Ok (n, first) ≡ Ok (length l.stream, row_classes l.classes) = sym e ∙ w.0 in
        let both : (n, first) ≡ (length l.stream, row_classes l.classes) = cc in
        record { found = l; is = q; tokens = ap (λ (p : ℕ × ℕ). p.0) both; row = ap (λ (p : ℕ × ℕ). p.1) both; held = w.1 }
    go (refused m p) q w = let z : Ok (n, first) ≡ Err p = sym e ∙ w in apart (cc)

library-at : (lib tab : List ℕ) {at : ℕ} {h : Result (ℕ × ℕ) ℕ} → LibraryFills (reading_library lib) h tab → h ≡ Err at
    → (m : ℕ) × (reading_library lib ≡ refused m at)
library-at lib tab {at} {h} f e = go (reading_library lib) refl f
  where
    go : (o : Outcome LibraryReading) → reading_library lib ≡ o → LibraryFills o h tab → (m : ℕ) × (reading_library lib ≡ refused m at)
    go (accepted l) q w =
        let z : Err at ≡ Ok (length l.stream, row_classes l.classes) = sym e ∙ w.0 in apart (cc)
    go (refused m p) q w = let z : Err at ≡ Err p = sym e ∙ w in let y : p ≡ at = cc in (m, q ∙ ap (refused m) y)

module _ (s tab lib before : List ℕ) (L : LessonHeld s tab) where
  lesson-read : Readable s L.found.stream L.found.tree
  lesson-read = (readable-exactly s L.found.stream L.found.tree).0 L.is

  pub lesson-short : length s ≤ source_most
  lesson-short = lesson-read.short

  pub count-few : {count : ℕ} {names : List ℕ} → NamesKept tab count names → count ≤ classes_most
  count-few k = let w = k.says L.found L.held in omega (arith, w.0, lesson-few L.held.derived, L.held.few)

  pub tokens-few : {n first : ℕ} {h : Result (ℕ × ℕ) ℕ} (tab₁ : List ℕ) → LibraryFills (reading_library lib) h tab₁ → h ≡ Ok (n, first) → n ≤
      tokens_most
  tokens-few tab₁ f e = let F = library-found lib f e in omega (arith, F.tokens, F.held.few)

  pub under-classes : {count n first : ℕ} {names after : List ℕ} {h : Result (ℕ × ℕ) ℕ} {r : Result ℕ Refusal} (tab₁ : List ℕ)
      → NamesKept tab count names → count ≤ length names → LibraryFills (reading_library lib) h tab₁ → h ≡ Ok (n, first)
      → JoinAnswered (join_result (accepted (s ++ b_line_feed ∷
      kept_from s (take count names) (length (take count names)) lib tab₁ n first classes_most)) before) r after
      → JoinAnswered (join_result (joining s lib) before) r after
  unfolding joining
  under-classes {count} {n} {first} {names} tab₁ k room f e w =
      let F = library-found lib f e in
      let v = L.found in
      let l = F.found in
      let K = k.says v L.held in
      let B = (readable-library lib l.stream l.classes).0 F.is in
      let own = take count names in
      let many = length-take-le count names room ∙ K.0 in
      let names_long = length-map v.tree.classes (λ (k : Class). k.name.start) in
      let listed = listed-front count names (positions_of v.tree) 0 (omega (arith, K.0, names_long)) K.1 in
      let kept_classes : kept_from s own (length own) lib tab₁ n first classes_most ≡ kept_text (names_of v.tree) lib l.stream l.classes =
      (λ j. kept_from s own (many j) lib tab₁ (F.tokens j) (F.row j) classes_most)
      ∙ kept-is s lesson-read.lexed lesson-read.derived own listed lib B.lexed F.held.rows F.held.few B.derived
      F.held.holds (classes-match B.derived) classes_most (omega (arith, classes-few B.derived, F.held.few)) in
      let text : joining s lib ≡ accepted (s ++ b_line_feed ∷ kept_from s own (length own) lib tab₁ n first classes_most) =
      rw (L.is, F.is) (ap (λ (x : List ℕ). accepted (s ++ b_line_feed ∷ x)) (sym kept_classes)) in
      record { is = w.is ∙ ap (λ (o : Outcome (List ℕ)). join_result o before) (sym text) }

  pub under-refused : {at : ℕ} {h : Result (ℕ × ℕ) ℕ} (tab₁ : List ℕ) → LibraryFills (reading_library lib) h tab₁ → h ≡ Err at
      → JoinAnswered (join_result (joining s lib) before) (refusal reason.LibraryRefused at) before
  unfolding joining
  under-refused {at} tab₁ f e = let w = library-at lib tab₁ f e in record { is = rw (L.is, w.1) refl }

-- THE LESSON

module _ (s lib before : List ℕ) where
  pub lesson-held : {f : Result Counts Refusal} {tab : List ℕ} {z : Counts} → Fills (reading s) f tab → f ≡ Ok z → LessonHeld s tab
  lesson-held {f} {tab} {z} w e = go (reading s) refl w
    where
      go : (o : Outcome Reading) → reading s ≡ o → Fills o f tab → LessonHeld s tab
      go (accepted r) q w = record { found = r; is = q; held = w.1 }
      go (refused n p) q w = apart (cc)

  pub lesson-refused : {f : Result Counts Refusal} (tab : List ℕ) {x : Refusal} → Fills (reading s) f tab → f ≡ Err x
      → JoinAnswered (join_result (joining s lib) before) (Err x) before
  unfolding joining
  lesson-refused {f} tab {x} w e = go (reading s) refl w
    where
      go : (o : Outcome Reading) → reading s ≡ o → Fills o f tab
          → JoinAnswered (join_result (reading s >>= λ r. as_library (reading_library lib) >>= λ l. accepted
          (join_text s r.tree lib l.stream l.classes)) before)
          (Err x) before
      go (accepted r) q w = let z = w.0 in apart (cc)
      go (refused m k) q w =
          let z₁ : m ≡ number_of x.reason = cc in
          let z₂ : k ≡ x.position = cc in
          record { is = rw (q ∙ (λ j. refused (z₁ j) (z₂ j))) refl }

-- THE OPERATION

module _ (s lib table before : List ℕ) where
  pub join-short : length table < table_least
      → Joins s lib table before (write_answer_of (refusal reason.TableTooShort 0)) table before
  unfolding join table_after
  join-short l = record {
    answer = rw (lt-ltb (length table) table_least l) refl;
    cleared = rw (lt-ltb (length table) table_least l) refl;
  }

  pub join-answer : {a : Result ℕ Refusal} {after last : List ℕ} (tab : List ℕ) → table_least ≤ length table → JoinAnswered
      (join_result (joining s lib) before) a after
      → length tab ≡ length table → last ≡ replicate (length tab) 0 → Joins s lib table before (write_answer_of a) last after
  unfolding join table_after
  join-answer tab l w e z = record {
    answer = w.is ∙ rw (le-ltb (length table) table_least l) refl;
    cleared = z ∙ ap (λ (n : ℕ). replicate n 0) e ∙ rw (le-ltb (length table) table_least l) refl;
  }
