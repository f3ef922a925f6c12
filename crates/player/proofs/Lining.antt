-- Lines one after another: what so many digits say does not hang on what is done with it, so a line of the form is one word, and a text is
-- of the form where each of its lines is.
use Prim.Native.Nat.{ℕ, zero, suc, ◌+◌, ◌-◌, ◌*◌, ◌/◌, ◌%◌, ◌^◌, ◌≤◌, ◌<◌}
use native.Mathlib.Nat.{pow-suc, mul-le-mul_right, mul_assoc}
use native.Mathlib.Omega.{arith}
use mathlib.Core.Bool.{Bool, true, false}
use mathlib.Core.List.{List, [], ◌∷◌}
use mathlib.Core.Option.{Option, none, some}
use mathlib.Core.Path.{◌≡◌, refl, sym, ap, ap₂, ◌∙◌, subst}
use lib.ListN.{length, get_or, get_elem?, set, drop, length-drop, length-set}
use lib.Seq.{drop-cons, drop-drop, get_or-set_same, get_or-set_other}
use lib.Dec.{ltb, eqb}
use borrow.Author.Tests.{ltb-true, ltb-false, eq-eqb, ne_eqb}
use Rattle.base.specs.Choice.{if◌then◌otherwise◌, option}
use Rattle.base.specs.Outcome.{Outcome, accepted, refused, ◌>>=◌}
use Rattle.frames.specs.Lines.{Line, line, digit_of, digits, line_feed_lem, single_line, no_more, lines_from, lines}
use Rattle.frames.specs.Machine.{Turn, bad, sure, entered}
use Rattle.base.specs.declared.refusal.Refusal.{Refusal}
use Rattle.base.specs.promises.Refusals.{number_of}
use Rattle.base.specs.declared.refusal.Reason.TheVariants as reason
use Rattle.std.specs.Prelude.{Ok, Err, Option as Maybe, None, Some}
use Rattle.player.specs.declared.lines.Line.{Line as OwnLine}
use Rattle.player.specs.promises.Reading.{number_of_line, number_of_maybe, number_or, line_in, packed, word_at, unpacked, lines_at, lines_in, LineAt, Form}
use Rattle.player.specs.promises.Reading.{FrameAt, EntryAt}
use Rattle.base.specs.laws.Lists.{get-past}
use Rattle.player.proofs.Forward.{digit-small}
use Rattle.player.proofs.Tests.{sure-yes, sure-no}

-- NUMBERS

unfoldable value : (count before : ℕ) → List ℕ → Option ℕ
value zero v s = some v
value (suc n) v [] = none
value (suc n) v (b ∷ s) = option (digit_of b) none λ d. value n (v * 16 + d) s

value-is : {B : Type 0} (n v : ℕ) (s : List ℕ) (other : B) (k : ℕ → List ℕ → B)
    → digits n v s other k ≡ option (value n v s) other λ r. k r (drop n s)
unfolding value digits
value-is zero v s other k = refl
value-is (suc n) v [] other k = refl
value-is (suc n) v (b ∷ s) other k = by (digit_of b) (λ d. value-is n (v * 16 + d) s other k)
  where
    by : (o : Option ℕ) → ((d : ℕ) → digits n (v * 16 + d) s other k ≡ option (value n (v * 16 + d) s) other λ r. k r (drop n s))
        → (option o other λ d. digits n (v * 16 + d) s other k) ≡ option (option o none λ d. value n (v * 16 + d) s) other λ r. k r
        (drop n s)
    by none h = refl
    by (some d) h = h d

value-small : (n v : ℕ) (s : List ℕ) (r : ℕ) → value n v s ≡ some r → r < (v + 1) * 16 ^ n
unfolding value
value-small zero v s r e = let z : v ≡ r = cc in omega (arith, z)
value-small (suc n) v [] r e = absurd (let z : ◌≡◌ {A = ℕ} 0 1 = cc in omega arith)
value-small (suc n) v (b ∷ s) r e = by (digit_of b) (λ d f. value-small n (v * 16 + d) s r f) refl e
  where
    by : (o : Option ℕ) → ((d : ℕ) → value n (v * 16 + d) s ≡ some r → r < (v * 16 + d + 1) * 16 ^ n) → digit_of b ≡ o
        → (option o none λ d. value n (v * 16 + d) s) ≡ some r → r < (v + 1) * 16 ^ suc n
    by none h q f = absurd (let z : ◌≡◌ {A = ℕ} 0 1 = cc in omega arith)
    by (some d) h q f =
        let l = digit-small b d q in
        let m : v * 16 + d + 1 ≤ (v + 1) * 16 = omega (arith, l) in
        let p : (v + 1) * 16 * 16 ^ n ≡ (v + 1) * 16 ^ suc n = mul_assoc (v + 1) 16 (16 ^ n)
        ∙ ap (λ (y : ℕ). (v + 1) * y) (omega (arith, pow-suc 16 n)) in
        omega (arith, h d f, mul-le-mul_right (16 ^ n) m, p)

-- A LINE

-- what a line comes to, whatever is done with it
pub data Line? (s : List ℕ) : Option Line → Type 0 where
  no_line : Line? s none
  a-line : {c x : ℕ} → c < 256 → x < 4294967296 → 11 ≤ length s → Line? s (some (line c x))

abbrev fed : {B : Type 0} → List ℕ → (c x : ℕ) → B → (Line → List ℕ → B) → B
fed t c x other k = line_feed_lem t other λ s. k (line c x) s

one_line : {B : Type 0} (s : List ℕ) (other : B) (k : Line → List ℕ → B)
    → single_line s other k ≡ option (value 2 0 s) other λ c. option (value 8 0 (drop 2 s)) other λ x. fed (drop 8 (drop 2 s)) c x other k
one_line s other k =
    value-is 2 0 s other (λ c s. digits 8 0 s other λ x s. line_feed_lem s other λ s. k (line c x) s)
    ∙ by (value 2 0 s)
  where
    by : (o : Option ℕ) → (option o other λ c. digits 8 0 (drop 2 s) other λ x s. line_feed_lem s other λ s. k (line c x) s)
        ≡ option o other λ c. option (value 8 0 (drop 2 s)) other λ x. fed (drop 8 (drop 2 s)) c x other k
    by none = refl
    by (some c) = value-is 8 0 (drop 2 s) other (λ x s. line_feed_lem s other λ s. k (line c x) s)

behind : (s : List ℕ) (b : ℕ) (t : List ℕ) → drop 8 (drop 2 s) ≡ b ∷ t → t ≡ drop 11 s
behind s b t e = ap (drop 1) (sym e) ∙ drop-drop 1 8 (drop 2 s) ∙ drop-drop 9 2 s

pub line-by : {B : Type 0} (s : List ℕ) (other : B) (k : Line → List ℕ → B)
    → single_line s other k ≡ option (line_in s) other λ x. k x (drop 11 s)
unfolding line_in
line-by {B} s other k =
    one_line s other k ∙ by (value 2 0 s) (value 8 0 (drop 2 s)) (drop 8 (drop 2 s)) refl
    ∙ ap (λ (o : Option Line). option o other λ x. k x (drop 11 s)) (sym (one_line s none (λ x _. some x)))
  where
    feed : (c x b : ℕ) (t : List ℕ) (q : Bool) → t ≡ drop 11 s
        → (if q then (λ _. k (line c x) t) otherwise λ _. other) ≡ option (if q then (λ _. some (line c x)) otherwise λ _. none) other λ x. k x
        (drop 11 s)
    feed c x b t true e = ap (k (line c x)) e
    feed c x b t false e = refl

    by : (o p : Option ℕ) (t : List ℕ) → drop 8 (drop 2 s) ≡ t
        → (option o other λ c. option p other λ x. fed t c x other k)
        ≡ option (option o none λ c. option p none λ x. fed t c x none (λ x _. some x)) other λ x. k x (drop 11 s)
    by none p t e = refl
    by (some c) none t e = refl
    by (some c) (some x) [] e = refl
    by (some c) (some x) (b ∷ t) e = feed c x b t (eqb b 10) (behind s b t e)

view : (s : List ℕ) → Line? s (line_in s)
unfolding line_in
view s = subst (Line? s) (sym (one_line s none (λ x _. some x))) (by (value 2 0 s) refl (value 8 0 (drop 2 s)) refl (drop 8
    (drop 2 s)) refl)
  where
    feed : (c x : ℕ) (q : Bool) → c < 256 → x < 4294967296 → 11 ≤ length s → Line? s (if q then (λ _. some (line c x)) otherwise λ _. none)
    feed c x true l m n = a-line l m n
    feed c x false l m n = no_line

    by : (o : Option ℕ) → value 2 0 s ≡ o → (p : Option ℕ) → value 8 0 (drop 2 s) ≡ p → (t : List ℕ) → drop 8 (drop 2 s) ≡ t
        → Line? s (option o none λ c. option p none λ x. fed t c x none (λ x _. some x))
    by none d p e t f = no_line
    by (some c) d none e t f = no_line
    by (some c) d (some x) e [] f = no_line
    by (some c) d (some x) e (b ∷ t) f =
        let l : length (drop 8 (drop 2 s)) ≡ suc (length t) = ap (λ (u : List ℕ). length u) f in
        feed c x (eqb b 10) (value-small 2 0 s c d) (value-small 8 0 (drop 2 s) x e)
        (omega (arith, l, length-drop 8 (drop 2 s), length-drop 2 s))

-- WORDS

-- a word that is a line
pub record Lined (s : List ℕ) (at : ℕ) : Type 0 where
  pub is : line_in (drop at s) ≡ some (unpacked (word_at s at))
  pub within : at + 11 ≤ length s

pub lined : (s : List ℕ) (at : ℕ) → word_at s at < 1099511627776 → Lined s at
unfolding word_at
lined s at h = by (line_in (drop at s)) refl (view (drop at s)) h
  where
    by : (o : Option Line) → line_in (drop at s) ≡ o → Line? (drop at s) o → packed o < 1099511627776 → Lined s at
    by none e no_line h = absurd (omega (arith, h))
    by (some x) e (a-line {c} {x = y} l m n) h =
        let p : (c * 4294967296 + y) / 4294967296 ≡ c = omega (arith, m) in
        let q : (c * 4294967296 + y) % 4294967296 ≡ y = omega (arith, m) in
        record {
          is = e ∙ ap₂ (λ (u v : ℕ). some (line u v)) (sym p) (sym q) ∙ ap (λ (o : Option Line). some (unpacked (packed o))) (sym e);
          within = omega (arith, n, length-drop at s);
        }

unlined : (s : List ℕ) (at : ℕ) → 1099511627776 ≤ word_at s at → line_in (drop at s) ≡ none
unfolding word_at
unlined s at h = by (line_in (drop at s)) refl (view (drop at s)) h
  where
    by : (o : Option Line) → line_in (drop at s) ≡ o → Line? (drop at s) o → 1099511627776 ≤ packed o → line_in (drop at s) ≡ none
    by none e no_line h = e
    by (some x) e (a-line {c} {x = y} l m n) h = absurd (omega (arith, l, m, h))

-- TEXTS

no-more : (t : List ℕ) → 0 < length t → no_more t ≡ false
no-more [] h = absurd (omega (arith, h))
no-more (b ∷ t) h = refl

more-behind : (s : List ℕ) (at : ℕ) → drop 11 (drop at s) ≡ drop (at + 11) s
more-behind s at = drop-drop 11 at s

lines_end : (f at : ℕ) (t : List ℕ) → length t ≡ 0 → lines_from f at t ≡ accepted []
unfolding lines_from
lines_end zero at [] h = refl
lines_end (suc f) at [] h = refl
lines_end f at (b ∷ t) h = absurd (omega (arith, h))

lines-on : (s : List ℕ) (f at : ℕ) → Lined s at
    → lines_from (suc f) at (drop at s) ≡ (lines_from f (at + 11) (drop (at + 11) s) >>= λ xs. accepted (unpacked (word_at s at) ∷ xs))
unfolding lines_from
lines-on s f at w =
    ap (λ (b : Bool). if b then (λ _. accepted []) otherwise λ _. single_line (drop at s) (refused 69 at) λ x t. lines_from f
    (at + 11) t >>= λ xs. accepted (x ∷ xs))
    (no-more (drop at s) (omega (arith, length-drop at s, w.within)))
    ∙ line-by (drop at s) (refused 69 at) (λ x t. lines_from f (at + 11) t >>= λ xs. accepted (x ∷ xs))
    ∙ ap₂ (λ (o : Option Line) (t : List ℕ). option o (refused 69 at) λ x. lines_from f (at + 11) t >>= λ xs. accepted (x ∷ xs)) w.is
    (more-behind s at)

-- the same place by the number of its line
shifted : (at j : ℕ) → at + 11 + 11 * j ≡ at + 11 * suc j
shifted at j = omega arith

pub lines-good : (s : List ℕ) (f n at : ℕ) → at + 11 * n ≡ length s → n ≤ f → ((j : ℕ) → j < n → word_at s (at + 11 * j) < 1099511627776)
    → lines_from f at (drop at s) ≡ accepted (lines_at s n at)
unfolding lines_at
lines-good s f zero at e l h = lines_end f at (drop at s) (length-drop at s ∙ omega (arith, e))
lines-good s zero (suc n) at e l h = absurd (omega (arith, l))
lines-good s (suc f) (suc n) at e l h =
    let w = lined s at (subst (λ (i : ℕ). word_at s i < 1099511627776) (omega arith) (h 0 (omega arith))) in
    lines-on s f at w
    ∙ ap (λ (o : Outcome (List Line)). o >>= λ xs. accepted (unpacked (word_at s at) ∷ xs))
    (lines-good s f n (at + 11) (omega (arith, e)) (omega (arith, l)) (λ j b. subst (λ (i : ℕ). word_at s i < 1099511627776) (sym
    (shifted at j)) (h (suc j) (omega (arith, b)))))

lines-stop : (s : List ℕ) (f at : ℕ) → at < length s → 1099511627776 ≤ word_at s at → lines_from f at (drop at s) ≡ refused 69 at
unfolding lines_from
lines-stop s zero at l h =
    rw (no-more (drop at s) (omega (arith, length-drop at s, l))) refl
lines-stop s (suc f) at l h =
    ap (λ (b : Bool). if b then (λ _. accepted []) otherwise λ _. single_line (drop at s) (refused 69 at) λ x t. lines_from f
    (at + 11) t >>= λ xs. accepted (x ∷ xs))
    (no-more (drop at s) (omega (arith, length-drop at s, l)))
    ∙ line-by (drop at s) (refused 69 at) (λ x t. lines_from f (at + 11) t >>= λ xs. accepted (x ∷ xs))
    ∙ ap (λ (o : Option Line). option o (refused 69 at) λ x. lines_from f (at + 11) (drop 11 (drop at s)) >>= λ xs. accepted (x ∷ xs))
    (unlined s at h)

lines-bad : (s : List ℕ) (f n at : ℕ) → at + 11 * n < length s → n ≤ f → ((j : ℕ) → j < n → word_at s (at + 11 * j) < 1099511627776)
    → 1099511627776 ≤ word_at s (at + 11 * n) → lines_from f at (drop at s) ≡ refused 69 (at + 11 * n)
lines-bad s f zero at b l h o =
    let z : at + 11 * 0 ≡ at = omega arith in
    lines-stop s f at (omega (arith, b)) (subst (λ (i : ℕ). 1099511627776 ≤ word_at s i) z o) ∙ ap (refused 69) (sym z)
lines-bad s zero (suc n) at b l h o = absurd (omega (arith, l))
lines-bad s (suc f) (suc n) at b l h o =
    let w = lined s at (subst (λ (i : ℕ). word_at s i < 1099511627776) (omega arith) (h 0 (omega arith))) in
    lines-on s f at w
    ∙ ap (λ (o : Outcome (List Line)). o >>= λ xs. accepted (unpacked (word_at s at) ∷ xs))
    (lines-bad s f n (at + 11) (omega (arith, b)) (omega (arith, l)) (λ j b. subst (λ (i : ℕ). word_at s i < 1099511627776) (sym
    (shifted at j)) (h (suc j) (omega (arith, b))))
    (subst (λ (i : ℕ). 1099511627776 ≤ word_at s i) (sym (shifted at n)) o))
    ∙ ap (refused 69) (shifted at n)

pub lines-length : (s : List ℕ) (n at : ℕ) → length (lines_at s n at) ≡ n
unfolding lines_at
lines-length s zero at = refl
lines-length s (suc n) at = ap suc (lines-length s n (at + 11))

pub lines-get : (s : List ℕ) (n at i : ℕ) → i < n → get_elem? (lines_at s n at) i ≡ some (unpacked (word_at s (at + 11 * i)))
unfolding lines_at
lines-get s zero at i h = absurd (omega (arith, h))
lines-get s (suc n) at zero h = ap (λ (k : ℕ). some (unpacked (word_at s k))) (omega arith)
lines-get s (suc n) at (suc i) h =
    lines-get s n (at + 11) i (omega (arith, h)) ∙ ap (λ (k : ℕ). some (unpacked (word_at s k))) (shifted at i)

pub lines-small : (s : List ℕ) (n at i : ℕ) (e : Line) → get_elem? (lines_at s n at) i ≡ some e → e.operand < 4294967296
unfolding lines_at
lines-small s zero at i e q = absurd (let z : ◌≡◌ {A = ℕ} 0 1 = cc in omega arith)
lines-small s (suc n) at zero e q =
    let z : unpacked (word_at s at) ≡ e = cc in omega (arith, ap (λ (l : Line). l.operand) z)
lines-small s (suc n) at (suc i) e q = lines-small s n (at + 11) i e q

-- THE FIRST PASS

-- the lines before line i are of the form, and the first of them decoded
pub record Decoding (s : List ℕ) (held : List OwnLine) (i : ℕ) : Type 0 where
  pub within : 11 * i ≤ length s
  pub long : length held ≡ 8192
  pub small : (j : ℕ) → j < i → word_at s (11 * j) < 1099511627776
  pub first : (j : ℕ) (d : OwnLine) → j < 8192 → j < i
      → (number_of_line (get_or held j d) ≡ word_at s (11 * j)) × ((get_or held j d).operand < 4294967296)

pub decoding-more : {s : List ℕ} {held held' : List OwnLine} {i : ℕ} {x : OwnLine} → Decoding s held i → LineAt s (11 * i) (Some x)
    → held' ≡ set held i x
    → Decoding s held' (i + 1)
decoding-more {s} {held} {held'} {i} {x} w l e =
    let b : word_at s (11 * i) < 1099511627776 = subst (λ (y : ℕ). y < 1099511627776) l.is (l.small x refl).0 in
    record {
      within = omega (arith, (lined s (11 * i) b).within);
      long = ap (λ (t : List OwnLine). length t) e ∙ length-set held i x ∙ w.long;
      small = λ j h. older b j h (ltb j i) refl;
      first = λ j d k h.
          subst (λ (t : List OwnLine). (number_of_line (get_or t j d) ≡ word_at s (11 * j)) × ((get_or t j d).operand < 4294967296)) (sym e)
          (stored j d k h (ltb j i) refl);
    }
  where
    older : word_at s (11 * i) < 1099511627776 → (j : ℕ) → j < i + 1 → (q : Bool) → ltb j i ≡ q → word_at s (11 * j) < 1099511627776
    older b j h true q = w.small j (ltb-true j i q)
    older b j h false q =
        let z : i ≡ j = omega (arith, h, ltb-false j i q) in subst (λ (y : ℕ). word_at s (11 * y) < 1099511627776) z b

    stored : (j : ℕ) (d : OwnLine) → j < 8192 → j < i + 1 → (q : Bool) → ltb j i ≡ q
        → (number_of_line (get_or (set held i x) j d) ≡ word_at s (11 * j)) × ((get_or (set held i x) j d).operand < 4294967296)
    stored j d k h true q =
        subst (λ (y : OwnLine). (number_of_line y ≡ word_at s (11 * j)) × (y.operand < 4294967296))
        (sym (get_or-set_other held i j x d (λ z. omega (arith, z, ltb-true j i q)))) (w.first j d k (ltb-true j i q))
    stored j d k h false q =
        let z : j ≡ i = omega (arith, h, ltb-false j i q) in
        let f : get_or (set held i x) j d ≡ x
        = ap (λ (y : ℕ). get_or (set held i x) y d) z ∙ get_or-set_same held i x d (omega (arith, z, k, w.long)) in
        subst (λ (y : OwnLine). (number_of_line y ≡ word_at s (11 * j)) × (y.operand < 4294967296)) (sym f)
        (l.is ∙ ap (λ (y : ℕ). word_at s (11 * y)) (sym z), (l.small x refl).1)

pub decoding-all : {s : List ℕ} {words : List OwnLine} {i : ℕ} → Decoding s words i → length s ≤ 11 * i → Form s words (Ok tt)
unfolding lines
decoding-all {s} {words} {i} w l =
    let n : length s / 11 ≡ i = omega (arith, w.within, l) in
    record {
      fine = λ _ _.
          record {
            lines =
                lines-good s (length s) (length s / 11) 0 (omega (arith, n, w.within, l)) (omega (arith, n, w.within))
                (λ j b. subst (λ (y : ℕ). word_at s y < 1099511627776) (omega arith) (w.small j (omega (arith, b, n))));
            whole = omega (arith, n, w.within, l);
            first = λ j d k b. w.first j d k (omega (arith, b, n));
            small = λ j b. w.small j (omega (arith, b, n));
          };
      other = λ e q. absurd (cc);
    }

pub decoding-other : {s : List ℕ} {words : List OwnLine} {i : ℕ} → Decoding s words i → 11 * i < length s → LineAt s (11 * i) None
    → Form s words (Err (record { reason = reason.OtherForm; position = 11 * i }))
unfolding lines
decoding-other {s} {words} {i} w l r =
    let z : 0 + 11 * i ≡ 11 * i = omega arith in
    let o : 1099511627776 ≤ word_at s (11 * i) = omega (arith, r.is) in
    let bad : lines_from (length s) 0 s ≡ refused 69 (11 * i)
    = lines-bad s (length s) i 0 (omega (arith, l)) (omega (arith, l))
    (λ j b. subst (λ (y : ℕ). word_at s y < 1099511627776) (omega arith) (w.small j b))
    (subst (λ (y : ℕ). 1099511627776 ≤ word_at s y) (sym z) o) ∙ ap (refused 69) z in
    record {
      fine = λ u q. absurd (cc);
      other = λ e q.
          let f : ◌≡◌ {A = Refusal} (record { reason = reason.OtherForm; position = 11 * i }) e = cc in
          bad ∙ ap (λ (e : Refusal). refused (number_of e.reason) e.position) f;
    }

-- THE LINE FROM A PLACE ON

number-some : (s : List ℕ) (at n r : ℕ) → r ≡ number_or s at n → r < 4294967296 → value n 0 (drop at s) ≡ some r
unfolding number_or
number-some s at n r e l = by (value n 0 (drop at s)) (e ∙ value-is n 0 (drop at s) 4294967296 (λ v _. v))
  where
    by : (o : Option ℕ) → (r ≡ option o 4294967296 λ v. v) → o ≡ some r
    by none q = absurd (omega (arith, q, l))
    by (some v) q = ap some (sym q)

number-none : (s : List ℕ) (at n r : ℕ) → (0 + 1) * 16 ^ n ≤ 4294967296 → r ≡ number_or s at n → 4294967296 ≤ r
    → value n 0 (drop at s) ≡ none
unfolding number_or
number-none s at n r b e l = by (value n 0 (drop at s)) refl (e ∙ value-is n 0 (drop at s) 4294967296 (λ v _. v))
  where
    by : (o : Option ℕ) → value n 0 (drop at s) ≡ o → (r ≡ option o 4294967296 λ v. v) → o ≡ none
    by none p q = refl
    by (some v) p q = absurd (omega (arith, q, l, b, value-small n 0 (drop at s) v p))

-- what stands behind so many bytes
abbrev parts : List ℕ → (at : ℕ) → (code operand : Option ℕ) → Option Line
parts s at o p = option o none λ c. option p none λ x. if eqb (get_or s (at + 10) 0) 10 then (λ _. some (line c x)) otherwise λ _. none

word-parts : (s : List ℕ) (at : ℕ) → at + 11 ≤ length s → word_at s at ≡ packed (parts s at (value 2 0 (drop at s)) (value 8 0 (drop
    (at + 2) s)))
unfolding word_at line_in
word-parts s at h =
    let z : at + 2 + 8 ≡ at + 10 = omega arith in
    ap packed (one_line (drop at s) none (λ x _. some x)
    ∙ ap₂ (λ (t u : List ℕ). option (value 2 0 (drop at s)) none λ c. option (value 8 0 t) none λ x. fed u c x none (λ x _. some x))
    (drop-drop 2 at s) (ap (drop 8) (drop-drop 2 at s) ∙ drop-drop 8 (at + 2) s ∙ ap (λ (k : ℕ). drop k s) z
    ∙ drop-cons s (at + 10) 0 (omega (arith, h))))

whole : (s : List ℕ) (at code operand two : ℕ) → at ≤ length s → 11 ≤ length s - at → code ≡ number_or s at 2 → code < 4294967296
    → two ≡ at + 2
    → operand ≡ number_or s two 8 → operand < 4294967296
    → word_at s at ≡ packed (if eqb (get_or s (at + 10) 0) 10 then (λ _. some (line code operand)) otherwise λ _. none)
whole s at code operand two h l e b t f c =
    word-parts s at (omega (arith, h, l))
    ∙ ap₂ (λ (o p : Option ℕ). packed (parts s at o p)) (number-some s at 2 code e b)
    (number-some s (at + 2) 8 operand (f ∙ ap (λ (k : ℕ). number_or s k 8) t) c)

module _ {s : List ℕ} {at : ℕ} where
  pub too_short : at ≤ length s → length s - at < 11 → LineAt s at None
  unfolding word_at
  too_short h l = record { is = by (line_in (drop at s)) (view (drop at s)); small = λ v q. absurd (cc) }
    where
      by : (o : Option Line) → Line? (drop at s) o → 1099511627776 ≡ packed o
      by none no_line = refl
      by (some x) (a-line p q n) = absurd (omega (arith, n, length-drop at s, l))

  pub no_code : {r : Maybe OwnLine} → at ≤ length s → 11 ≤ length s - at → 4294967296 ≡ number_or s at 2 → r ≡ None → LineAt s at r
  no_code {r} h l e q =
      record {
        is = ap number_of_maybe q
            ∙ sym (word-parts s at (omega (arith, h, l))
            ∙ ap (λ (o : Option ℕ). packed (parts s at o (value 8 0 (drop (at + 2) s)))) (number-none s at 2 4294967296 (omega arith) e
            (omega arith)));
        small = λ v p. absurd (cc);
      }

  pub no_operand : {code : ℕ} {r : Maybe OwnLine} → at ≤ length s → 11 ≤ length s - at → code ≡ number_or s at 2 → code < 4294967296
      → 4294967296 ≡ number_or s (at + 2) 8 → r ≡ None
      → LineAt s at r
  no_operand {code} {r} h l e b f q =
      record {
        is = ap number_of_maybe q
            ∙ sym (word-parts s at (omega (arith, h, l))
            ∙ ap₂ (λ (o p : Option ℕ). packed (parts s at o p)) (number-some s at 2 code e b)
            (number-none s (at + 2) 8 4294967296 (omega arith) f (omega arith)));
        small = λ v p. absurd (cc);
      }

  pub no-feed : {code operand : ℕ} → at ≤ length s → 11 ≤ length s - at → code ≡ number_or s at 2 → code < 4294967296
      → operand ≡ number_or s (at + 2) 8 → operand < 4294967296 → (get_or s (at + 10) 0 ≡ 10 → ⊥)
      → LineAt s at None
  no-feed {code} {operand} h l e b f c o =
      record {
        is = sym (whole s at code operand (at + 2) h l e b refl f c
            ∙ ap (λ (q : Bool). packed (if q then (λ _. some (line code operand)) otherwise λ _. none)) (ne_eqb (get_or s (at + 10) 0) 10 o));
        small = λ v p. absurd (cc);
      }

  pub a-feed : {code operand : ℕ} → at ≤ length s → 11 ≤ length s - at → code ≡ number_or s at 2 → code < 4294967296
      → operand ≡ number_or s (at + 2) 8 → operand < 4294967296 → get_or s (at + 10) 0 ≡ 10
      → LineAt s at (Some (record { code = code; operand = operand }))
  a-feed {code} {operand} h l e b f c o =
      let k : code < 256 = value-small 2 0 (drop at s) code (number-some s at 2 code e b) in
      record {
        is = sym (whole s at code operand (at + 2) h l e b refl f c
            ∙ ap (λ (q : Bool). packed (if q then (λ _. some (line code operand)) otherwise λ _. none)) (eq-eqb (get_or s (at + 10) 0) 10 o));
        small = λ v p.
            subst (λ (y : OwnLine). (number_of_line y < 1099511627776) × (y.operand < 4294967296)) (let z : ◌≡◌ {A = OwnLine} (record { code = code; operand = operand }) v = cc in z)
            (omega (arith, k, c), c);
      }

-- the code of a line is a byte
pub code-small : (s : List ℕ) (at code : ℕ) → code ≡ number_or s at 2 → code < 4294967296 → code < 256
code-small s at code e b = value-small 2 0 (drop at s) code (number-some s at 2 code e b)

-- A LINE BY ITS NUMBER

pub frame-line : {s : List ℕ} {i : ℕ} {r : OwnLine} → i < length s / 11 → FrameAt s i r
    → get_elem? (lines_in s) i ≡ some (line r.code r.operand)
frame-line {s} {i} {r} l w =
    let p : (r.code * 4294967296 + r.operand) / 4294967296 ≡ r.code = omega (arith, w.fits) in
    let q : (r.code * 4294967296 + r.operand) % 4294967296 ≡ r.operand = omega (arith, w.fits) in
    lines-get s (length s / 11) 0 i l ∙ ap (λ (y : ℕ). some (unpacked y)) (ap (word_at s) (omega arith) ∙ sym w.is)
    ∙ ap₂ (λ (u v : ℕ). some (line u v)) p q

-- what `entered` makes of a line that is there
entered-there : (s : List ℕ) (i : ℕ) (r : OwnLine) (k : ℕ → Turn) → i < length s / 11 → FrameAt s i r
    → entered (lines_in s) i k ≡ sure (eqb r.code 22) λ _. k r.operand
unfolding entered
entered-there s i r k l w = ap (λ (o : Option Line). option o bad λ e. sure (eqb e.code 22) λ _. k e.operand) (frame-line l w)

pub no-entry-past : {s : List ℕ} {count i : ℕ} → count ≡ length s / 11 → count ≤ i → EntryAt s i (Err reason.FrameFault)
unfolding entered
no-entry-past {s} {count} {i} e l =
    record {
      says = λ k.
          ap (λ (o : Option Line). option o bad λ e. sure (eqb e.code 22) λ _. k e.operand)
          (get-past (lines_in s) i (omega (arith, lines-length s (length s / 11) 0, e, l)));
    }

pub no-entry : {s : List ℕ} {count i : ℕ} {f : OwnLine} → count ≡ length s / 11 → i < count → FrameAt s i f → (f.code ≡ 22 → ⊥)
    → EntryAt s i (Err reason.FrameFault)
no-entry {s} {count} {i} {f} e l w n =
    record {
      says = λ k. entered-there s i f k (omega (arith, e, l)) w ∙ sure-no (eqb f.code 22) _ (ne_eqb f.code 22 n);
    }

pub an-entry : {s : List ℕ} {count i : ℕ} {f : OwnLine} → count ≡ length s / 11 → i < count → FrameAt s i f → f.code ≡ 22
    → EntryAt s i (Ok f.operand)
an-entry {s} {count} {i} {f} e l w n =
    record {
      says = λ k.
          entered-there s i f k (omega (arith, e, l)) w ∙ sure-yes (eqb f.code 22) _ (eq-eqb f.code 22 n);
    }
