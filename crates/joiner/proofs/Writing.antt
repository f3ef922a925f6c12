-- What each return of the functions that size and write the text shows.
use Prim.Native.Nat.{ℕ, suc, ◌+◌, ◌-◌, ◌*◌, ◌≤◌, ◌<◌}
use mathlib.Core.Path.{◌≡◌, refl, sym, ap, ◌∙◌, subst}
use mathlib.Core.List.{List, [], ◌∷◌, ◌++◌, append_assoc}
use mathlib.Core.Logic.{◌≢◌}
use mathlib.Core.Bool.{Bool, true, false}
use native.Mathlib.Omega.{arith}
use lib.ListN.{length, get_or, set, take, drop, length-append, length-set, length-take, length-drop}
use lib.Seq.{take-add, take-length, length-take-le, get_or-take, get_or-drop, drop-cons}
use borrow.Author.Tests.{lt-ltb, le-ltb}
use Rattle.base.specs.promises.Table.{col, c_start, c_next}
use Rattle.lexer.specs.Bytes.{b_line_feed}
use Rattle.parser.specs.promises.Layout.{absent}
use Rattle.joining.specs.Join.{slice}
use Rattle.joiner.specs.promises.Names.{taken_within_lem}
use Rattle.joiner.specs.promises.Texts.{end_before_lem, kept_from, part_size_lem, class_room, overlay, Overlaid, ClassWritten}

more : {n : ℕ} → n ≢ 0 → suc (n - 1) ≡ n
more h = omega arith

pub part-long : (b e : ℕ) (lib : List ℕ) → length (slice b e lib) ≡ part_size_lem (length lib) b e
part-long b e lib = omega (arith, length-take (e - b) (drop b lib), length-drop b lib)

-- SIZES

module _ (s a : List ℕ) (count : ℕ) (lib tab : List ℕ) (n row : ℕ) where
  pub size_none : {k : ℕ} → k ≡ 0 → (0 ≡ length (kept_from s a count lib tab n row k)) × (0 ≤ k * class_room)
  unfolding kept_from
  size_none {k} e = (rw e refl, omega arith)

  pub size-past : {k : ℕ} → k ≢ 0 → absent ≤ row → (0 ≡ length (kept_from s a count lib tab n row k)) × (0 ≤ k * class_room)
  unfolding kept_from
  size-past {k} h l =
      (subst (λ (m : ℕ). 0 ≡ length (kept_from s a count lib tab n row m)) (more h) (rw (le-ltb row absent l) refl), omega arith)

  pub size-taken : {k next x r : ℕ} {t : Bool} → k ≢ 0 → row < absent → next ≡ col tab c_next row → x ≡ col tab c_start row
      → t ≡ taken_within_lem s a 0 count lib x → t ≡ true
      → (r ≡ length (kept_from s a count lib tab n next (k - 1))) × (r ≤ (k - 1) * class_room)
      → (r ≡ length (kept_from s a count lib tab n row k)) × (r ≤ k * class_room)
  unfolding kept_from
  size-taken {k} {r = r} h l p q e z w = (
    subst (λ (m : ℕ). r ≡ length (kept_from s a count lib tab n row m)) (more h)
        (rw (lt-ltb row absent l, ap (taken_within_lem s a 0 count lib) (sym q) ∙ sym e ∙ z)
        (w.0 ∙ ap (λ (y : ℕ). length (kept_from s a count lib tab n y (k - 1))) p)),
    omega (arith, w.1, more h),
  )

  pub size-kept : {k next x r u : ℕ} {t : Bool} → k ≢ 0 → row < absent → next ≡ col tab c_next row → x ≡ col tab c_start row
      → t ≡ taken_within_lem s a 0 count lib x → t ≡ false
      → (r ≡ length (kept_from s a count lib tab n next (k - 1))) × (r ≤ (k - 1) * class_room)
      → (u ≡ part_size_lem (length lib) (col tab c_start (row - 1)) (end_before_lem tab n next) + 1) × (u ≤ class_room)
      → (r + u ≡ length (kept_from s a count lib tab n row k)) × (r + u ≤ k * class_room)
  unfolding kept_from
  size-kept {k} {next} {r = r} {u = u} h l p q e z w v =
      let rest = kept_from s a count lib tab n (col tab c_next row) (k - 1) in
      let own = slice (col tab c_start (row - 1)) (end_before_lem tab n (col tab c_next row)) lib in
      let R : r ≡ length rest = w.0 ∙ ap (λ (y : ℕ). length (kept_from s a count lib tab n y (k - 1))) p in
      let U : u ≡ length own + 1 =
      v.0 ∙ ap (λ (y : ℕ). part_size_lem (length lib) (col tab c_start (row - 1)) (end_before_lem tab n y) + 1) p
      ∙ ap (λ (y : ℕ). y + 1) (sym (part-long (col tab c_start (row - 1)) (end_before_lem tab n (col tab c_next row)) lib)) in
      let both : r + u ≡ length (own ++ b_line_feed ∷ rest) = omega (arith, R, U, length-append own (b_line_feed ∷ rest)) in (
        subst (λ (m : ℕ). r + u ≡ length (kept_from s a count lib tab n row m)) (more h)
            (rw (lt-ltb row absent l, ap (taken_within_lem s a 0 count lib) (sym q) ∙ sym e ∙ z) both),
        omega (arith, w.1, v.1, more h),
      )

-- WRITING

pub overlay-append : (xs ys strip : List ℕ) (p : ℕ) → overlay strip p (xs ++ ys) ≡ overlay (overlay strip p xs) (p + length xs) ys
unfolding overlay
overlay-append [] ys strip p = let z : p ≡ p + 0 = omega arith in ap (λ (n : ℕ). overlay strip n ys) z
overlay-append (x ∷ xs) ys strip p =
    let z : p + 1 + length xs ≡ p + suc (length xs) = omega arith in
    overlay-append xs ys (set strip p x) (p + 1) ∙ ap (λ (n : ℕ). overlay (overlay (set strip p x) (p + 1) xs) n ys) z

pub overlay-long : (xs strip : List ℕ) (p : ℕ) → length (overlay strip p xs) ≡ length strip
unfolding overlay
overlay-long [] strip p = refl
overlay-long (x ∷ xs) strip p = overlay-long xs (set strip p x) (p + 1) ∙ length-set strip p x

-- bytes written from the front on
pub front : (xs pre rest : List ℕ) → length xs ≤ length rest → overlay (pre ++ rest) (length pre) xs ≡ pre ++ (xs ++ drop (length xs) rest)
unfolding overlay
front [] pre rest l = refl
front (x ∷ xs) pre [] l = absurd (omega arith)
front (x ∷ xs) pre (r ∷ rest) l =
    let n : length pre + 1 ≡ length (pre ++ x ∷ []) = omega (arith, length-append pre (x ∷ [])) in
    let one : set (pre ++ r ∷ rest) (length pre) x ≡ (pre ++ x ∷ []) ++ rest = put-at pre in
    (λ j. overlay (one j) (n j) xs) ∙ front xs (pre ++ x ∷ []) rest (omega arith) ∙ append_assoc pre (x ∷ []) (xs ++ drop (length xs) rest)
  where
    put-at : (pre : List ℕ) → set (pre ++ r ∷ rest) (length pre) x ≡ (pre ++ x ∷ []) ++ rest
    put-at [] = refl
    put-at (p ∷ pre) = ap (λ (l : List ℕ). p ∷ l) (put-at pre)

-- after i turns the first i bytes were written
pub record Copied (bytes : List ℕ) (from end : ℕ) (before : List ℕ) (place : ℕ) (strip : List ℕ) (i : ℕ) : Type 0 where
  pub within : i ≤ part_size_lem (length bytes) from end
  pub long : length strip ≡ length before
  pub is : strip ≡ overlay before place (take i (slice from end bytes))

module _ (bytes : List ℕ) (from end : ℕ) (before : List ℕ) (place : ℕ) where
  pub copied_none : Copied bytes from end before place before 0
  unfolding overlay
  copied_none = record { within = omega arith; long = refl; is = refl }

  pub copied_more : {strip : List ℕ} {i : ℕ} → i < part_size_lem (length bytes) from end → Copied bytes from end before place strip i
      → Copied bytes from end before place (set strip (place + i) (get_or bytes (from + i) 0)) (i + 1)
  unfolding overlay
  copied_more {strip} {i} l c =
      let xs = slice from end bytes in
      let n = part-long from end bytes in
      let y : get_or xs i 0 ≡ get_or bytes (from + i) 0 = get_or-take (end - from) (drop from bytes) i 0 (omega arith) ∙ get_or-drop from bytes i 0
      in
      let one : take 1 (drop i xs) ≡ get_or xs i 0 ∷ [] = ap (take 1) (drop-cons xs i 0 (omega (arith, n))) in
      let front : take (i + 1) xs ≡ take i xs ++ get_or bytes (from + i) 0 ∷ [] =
      take-add i 1 xs ∙ ap (λ (l : List ℕ). take i xs ++ l) (one ∙ ap (λ (z : ℕ). z ∷ []) y) in
      let long : length (take i xs) ≡ i = length-take-le i xs (omega (arith, n)) in
      record {
        within = omega arith;
        long = length-set strip (place + i) (get_or bytes (from + i) 0) ∙ c.long;
        is = (λ j. set (c.is j) (place + sym long j) (get_or bytes (from + i) 0))
            ∙ sym (overlay-append (take i xs) (get_or bytes (from + i) 0 ∷ []) before place) ∙ ap (overlay before place) (sym front);
      }

  pub copied_all : {strip : List ℕ} {i : ℕ} → part_size_lem (length bytes) from end ≤ i → Copied bytes from end before place strip i
      → Overlaid before place (slice from end bytes) strip
  copied_all {strip} {i} l c =
      let xs = slice from end bytes in
      let z : i ≡ length xs = omega (arith, c.within, part-long from end bytes) in
      record { is = c.is ∙ ap (overlay before place) (ap (λ (n : ℕ). take n xs) z ∙ take-length xs) }

pub class-written : (lib tab : List ℕ) (n row next place : ℕ) (before : List ℕ) {from end b u : ℕ} {strip after : List ℕ}
    → from ≡ col tab c_start (row - 1) → end ≡ end_before_lem tab n next → Overlaid before place (slice from end lib) strip
    → b ≡ place + u → u ≡ part_size_lem (length lib) from end → after ≡ set strip b b_line_feed
    → ClassWritten lib tab n row next place before (b + 1) after
unfolding overlay
class-written lib tab n row next place before {from} {end} {b} {u} {strip} {after} p q w e v z =
    let xs = slice (col tab c_start (row - 1)) (end_before_lem tab n next) lib in
    let same : slice from end lib ≡ xs = λ j. slice (p j) (q j) lib in
    let long = part-long from end lib in
    let at : b ≡ place + length xs = omega (arith, e, v, long, ap length same) in
    record {
      is = z ∙ (λ j. set ((w.is ∙ ap (overlay before place) same) j) (at j) b_line_feed) ∙ sym
          (overlay-append xs (b_line_feed ∷ []) before place);
      behind = omega (arith, at, part-long (col tab c_start (row - 1)) (end_before_lem tab n next) lib);
    }

module _ (s a : List ℕ) (count : ℕ) (lib tab : List ℕ) (n row place : ℕ) (before : List ℕ) where
  pub kept-none : {k : ℕ} → k ≡ 0 → Overlaid before place (kept_from s a count lib tab n row k) before
  unfolding kept_from overlay
  kept-none e = record { is = rw e refl }

  pub kept-past : {k : ℕ} → k ≢ 0 → absent ≤ row → Overlaid before place (kept_from s a count lib tab n row k) before
  unfolding kept_from overlay
  kept-past {k} h l = record {
    is = subst (λ (m : ℕ). before ≡ overlay before place (kept_from s a count lib tab n row m)) (more h) (rw (le-ltb row absent l) refl);
  }

  module _ {k next x : ℕ} {t : Bool} (h : k ≢ 0) (l : row < absent) (p : next ≡ col tab c_next row) (q : x ≡ col tab c_start row)
      (e : t ≡ taken_within_lem s a 0 count lib x) where
    is-taken : t ≡ true → kept_from s a count lib tab n row k ≡ kept_from s a count lib tab n next (k - 1)
    unfolding kept_from
    is-taken z =
        subst (λ (m : ℕ). kept_from s a count lib tab n row m ≡ kept_from s a count lib tab n next (k - 1)) (more h)
        (rw (lt-ltb row absent l, ap (taken_within_lem s a 0 count lib) (sym q) ∙ sym e ∙ z)
        (ap (λ (y : ℕ). kept_from s a count lib tab n y (k - 1)) (sym p)))

    is-kept : t ≡ false → kept_from s a count lib tab n row k
        ≡ slice (col tab c_start (row - 1)) (end_before_lem tab n next) lib ++ b_line_feed ∷ kept_from s a count lib tab n next (k - 1)
    unfolding kept_from
    is-kept z =
        subst (λ (m : ℕ). kept_from s a count lib tab n row m
        ≡ slice (col tab c_start (row - 1)) (end_before_lem tab n next) lib ++ b_line_feed ∷ kept_from s a count lib tab n next (k - 1)) (more h)
        (rw (lt-ltb row absent l, ap (taken_within_lem s a 0 count lib) (sym q) ∙ sym e ∙ z)
        (ap (λ (y : ℕ). slice (col tab c_start (row - 1)) (end_before_lem tab n y) lib ++ b_line_feed ∷ kept_from s a count lib tab n y (k - 1))
        (sym p)))

    pub kept-taken : {after : List ℕ} → t ≡ true → Overlaid before place (kept_from s a count lib tab n next (k - 1)) after
        → Overlaid before place (kept_from s a count lib tab n row k) after
    kept-taken z w = record { is = w.is ∙ ap (overlay before place) (sym (is-taken z)) }

    pub room-taken : t ≡ true → length (kept_from s a count lib tab n row k) ≡ length (kept_from s a count lib tab n next (k - 1))
    room-taken z = ap length (is-taken z)

    pub room-kept : t ≡ false → length (kept_from s a count lib tab n row k)
        ≡ part_size_lem (length lib) (col tab c_start (row - 1)) (end_before_lem tab n next) + 1 + length (kept_from s a count lib tab n next (k - 1))
    room-kept z =
        let own = slice (col tab c_start (row - 1)) (end_before_lem tab n next) lib in
        let rest = kept_from s a count lib tab n next (k - 1) in
        omega (
          arith,
          ap length (is-kept z),
          length-append own (b_line_feed ∷ rest),
          part-long (col tab c_start (row - 1)) (end_before_lem tab n next) lib,
        )

    pub kept-kept : {b : ℕ} {mid after : List ℕ} → t ≡ false → ClassWritten lib tab n row next place before b mid
        → Overlaid mid b (kept_from s a count lib tab n next (k - 1)) after → Overlaid before place (kept_from s a count lib tab n row k)
        after
    kept-kept {b} {mid} z c w =
        let own = slice (col tab c_start (row - 1)) (end_before_lem tab n next) lib in
        let rest = kept_from s a count lib tab n next (k - 1) in
        let long = part-long (col tab c_start (row - 1)) (end_before_lem tab n next) lib in
        let at : b ≡ place + length (own ++ b_line_feed ∷ []) = omega (arith, c.behind, long, length-append own (b_line_feed ∷ [])) in
        record {
          is = w.is ∙ (λ j. overlay (c.is j) (at j) rest) ∙ sym (overlay-append (own ++ b_line_feed ∷ []) rest before place)
              ∙ ap (overlay before place) (append_assoc own (b_line_feed ∷ []) rest ∙ sym (is-kept z));
        }
