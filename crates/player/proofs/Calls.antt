-- What a call opens: its arguments lie above all calls, so nothing is read after it was written.
use Prim.Native.Nat.{ℕ, zero, suc, ◌+◌, ◌-◌, ◌*◌, ◌/◌, ◌%◌, ◌≤◌, ◌<◌}
use native.Mathlib.Omega.{arith}
use mathlib.Core.Bool.{Bool, true, false, ◌&&◌}
use mathlib.Core.List.{List, [], ◌∷◌, ◌++◌}
use mathlib.Core.Logic.{◌⊎◌, inl, inr}
use mathlib.Core.Path.{◌≡◌, refl, sym, ap, ap₂, ◌∙◌}
use lib.ListN.{length, get_or, set, take, drop, replicate, length-set, length-drop, length-replicate}
use lib.Seq.{sets, length-sets, sets-eq, drop-set-lt, length-take-le, paste}
use lib.IntN.{ℤ, pos}
use lib.Dec.{ltb, leb}
use borrow.Author.Tests.{lt-ltb, le-ltb, le-leb, lt-leb}
use borrow.Rule.Slice.PartMut.{put_mid, mid_of, mid_len}
use Rattle.std.specs.Prelude.{Option as Maybe, Some, Result, Ok, Err}
use Rattle.base.specs.declared.refusal.Reason.{Reason}
use Rattle.base.specs.declared.refusal.Reason.TheVariants as reason
use Rattle.std.specs.Bool.{MatchBool}
use Rattle.std.specs.List.{AllWithin, HoldsAt}
use Rattle.base.specs.Word.{low, modulus}
use Rattle.frames.specs.Lines.{Line}
use Rattle.frames.specs.Machine.{State, Around, Turn, goes, sure, allowed, word, reference, all_words_lem, last_values, value_at}
use Rattle.frames.specs.Machine.{opens, entered, call_on, do_call}
use Rattle.player.specs.declared.state.Machine.{Machine}
use Rattle.player.specs.promises.Reading.{lines_in, followed}
use Rattle.player.specs.promises.Turning.{CalledOn, Dispatched, Opened, Enters, OnCall, IsWord, state_of, turn_of}
use Rattle.player.proofs.Tests.{sure-yes, sure-no, allowed-yes, allowed-no}
use Rattle.player.proofs.Makings.{stored-part}

-- RUNS OF STORES

module _ {X : Type 0} where
  sets-append : (xs ys l : List X) (i : ℕ) → sets l i (xs ++ ys) ≡ sets (sets l i xs) (i + length xs) ys
  sets-append [] ys l i = ap (λ (k : ℕ). sets l k ys) (omega arith)
  sets-append (x ∷ xs) ys l i = sets-append xs ys (set l i x) (suc i) ∙ ap (λ (k : ℕ). sets (sets (set l i x) (suc i) xs) k ys)
      (omega arith)

part_length : (n from : ℕ) (l : List ℕ) → from + n ≤ length l → length (take n (drop from l)) ≡ n
part_length n from l h = length-take-le n (drop from l) (omega (arith, length-drop from l, h))

-- a part that is copied to a lower place is so many stores
pub copied-part : (l : List ℕ) (to from n end : ℕ) → to + n ≤ length l → from + n ≤ length l → end ≡ from + n
    → paste l to (drop from l) (end - from) ≡ sets l to (take n (drop from l))
copied-part l to from n end h k e =
    let z : end - from ≡ n = omega (arith, e) in
    let q : length (take n (drop from l)) ≡ n = part_length n from l k in
    ap (λ (i : ℕ). paste l to (drop from l) i) z ∙ ap (λ (i : ℕ). take to l ++ take n (drop from l) ++ drop (to + i) l) (sym q)
    ∙ sym (sets-eq (take n (drop from l)) l to (omega (arith, q, h)))

-- WORDS

all-true : (xs : List ℕ) → ((k : ℕ) → k < length xs → get_or xs k 0 < modulus) → all_words_lem xs ≡ true
unfolding all_words_lem
all-true [] f = refl
all-true (x ∷ xs) f =
    ap (λ (b : Bool). b && all_words_lem xs) (lt-ltb x modulus (f 0 (omega arith))) ∙ all-true xs λ k l. f (suc k) (omega (arith, l))

and-none : (b : Bool) → (b && false) ≡ false
and-none true = refl
and-none false = refl

all-false : (xs : List ℕ) (k : ℕ) → k < length xs → modulus ≤ get_or xs k 0 → all_words_lem xs ≡ false
unfolding all_words_lem
all-false [] k l h = absurd (omega (arith, l))
all-false (x ∷ xs) zero l h = ap (λ (b : Bool). b && all_words_lem xs) (le-ltb x modulus h)
all-false (x ∷ xs) (suc k) l h = ap (λ (b : Bool). ltb x modulus && b) (all-false xs k (omega (arith, l)) h) ∙ and-none (ltb x modulus)

pub words-are : (xs : List ℕ) (r : Bool)
    → MatchBool r (AllWithin (λ x. x < 4294967296) xs 0 (length xs)) ((k : ℕ) × (k < length xs) × HoldsAt (λ x. 4294967296 ≤ x) xs k)
    → r ≡ all_words_lem xs
words-are xs true m = sym (all-true xs λ k l. m k 0 (omega arith) l)
words-are xs false (k, l, h) = sym (all-false xs k l (h 0))

-- THE RECEIVER

enough : (stack : List ℕ) (height n : ℕ) → n ≤ 32 → n + 1 ≤ height → (s : State) → s.height ≡ height → s.stack ≡ stack → (k : ℕ → Turn)
    → (sure (leb n 32) λ _. sure (leb (n + 1) s.height) λ _. sure (all_words_lem (last_values s n)) λ _. word (value_at s (s.height -
    (n + 1))) k)
    ≡ sure (all_words_lem (take (2176 + (height - n) + n - (2176 + (height - n))) (drop (2176 + (height - n)) stack))) λ _. word (get_or stack (2176 + (height - n) - 1) 0) k
enough stack height n b l s e f k =
    let j : 2176 + (height - (n + 1)) ≡ 2176 + (height - n) - 1 = omega (arith, l) in
    let i : n ≡ 2176 + (height - n) + n - (2176 + (height - n)) = omega arith in
    sure-yes (leb n 32) _ (le-leb n 32 b) ∙ sure-yes (leb (n + 1) s.height) _ (le-leb (n + 1) s.height (omega (arith, e, l)))
    ∙ ap₂ (λ (y : ℕ) (t : List ℕ). sure (all_words_lem (take n (drop (2176 + (y - n)) t))) λ _. word (get_or t (2176 + (y -
    (n + 1))) 0) k) e f
    ∙ ap₂ (λ (y u : ℕ). sure (all_words_lem (take u (drop (2176 + (height - n)) stack))) λ _. word (get_or stack y 0) k) j i

module _ {stack : List ℕ} {height n : ℕ} where
  pub unfit_count : (32 < n) ⊎ ((n ≤ 32) × (height < n + 1)) → CalledOn stack height n (Err reason.FrameFault)
  unfit_count (inl l) = record { says = λ s e f k. sure-no (leb n 32) _ (lt-leb n 32 l); few = λ v q. absurd (cc) }
  unfit_count (inr (b, l)) =
      record {
        says = λ s e f k.
            sure-yes (leb n 32) _ (le-leb n 32 b) ∙ sure-no (leb (n + 1) s.height) _ (lt-leb (n + 1) s.height (omega (arith, e, l)));
        few = λ v q. absurd (cc);
      }

  pub no_words : {q : Bool} → n ≤ 32 → n + 1 ≤ height
      → q ≡ all_words_lem (take (2176 + (height - n) + n - (2176 + (height - n))) (drop (2176 + (height - n)) stack)) → q ≡ false
      → CalledOn stack height n (Err reason.FrameFault)
  no_words b l w i =
      record { says = λ s e f k. enough stack height n b l s e f k ∙ sure-no _ _ (sym w ∙ i); few = λ v q. absurd (cc) }

  pub a-receiver : {q : Bool} {r : Result ℕ Reason} → n ≤ 32 → n + 1 ≤ height
      → q ≡ all_words_lem (take (2176 + (height - n) + n - (2176 + (height - n))) (drop (2176 + (height - n)) stack)) → q ≡ true → IsWord (get_or stack (2176 + (height - n) - 1) 0) r
      → CalledOn stack height n r
  a-receiver b l w i u =
      record { says = λ s e f k. enough stack height n b l s e f k ∙ sure-yes _ _ (sym w ∙ i) ∙ u.says k; few = λ v q. (b, l) }

-- THE ENTRIES

pub opens-them : {at receiver back from n : ℕ} {stack copied part : List ℕ} → at + 34 ≤ from → from + n ≤ length stack → n ≤ 32
    → copied ≡ paste (set (set stack at receiver) (at + 1) back) (at + 2) (drop from (set (set stack at receiver) (at + 1) back)) (from + n - from)
    → part ≡ replicate (length (mid_of (at + 2 + n) (at + 34 - (at + 2 + n)) copied)) 0
    → Opened at receiver back from n stack (put_mid (at + 2 + n) (at + 34 - (at + 2 + n)) copied part)
opens-them {at} {receiver} {back} {from} {n} {stack} {copied} {part} b h m d e =
    let one : length (set stack at receiver) ≡ length stack = length-set stack at receiver in
    let both : length (set (set stack at receiver) (at + 1) back) ≡ length stack = length-set (set stack at receiver) (at + 1) back ∙ one in
    let w : copied ≡ sets (set (set stack at receiver) (at + 1) back) (at + 2) (take n (drop from (set (set stack at receiver) (at + 1) back)))
    = d ∙ copied-part (set (set stack at receiver) (at + 1) back) (at + 2) from n (from + n) (omega (arith, both, b, h, m)) (omega (arith, both, h)) refl in
    let two : List ℕ = set (set stack at receiver) (at + 1) back in
    let z : at + 34 ≡ at + 2 + n + (32 - n) = omega (arith, m) in
    let below : drop from two ≡ drop from stack
    = drop-set-lt from (set stack at receiver) (at + 1) back (omega (arith, b)) ∙ drop-set-lt from stack at receiver (omega (arith, b)) in
    let long : length copied ≡ length stack
    = ap (λ (t : List ℕ). length t) w ∙ length-sets two (at + 2) (take n (drop from two))
    ∙ length-set (set stack at receiver) (at + 1) back
    ∙ length-set stack at receiver in
    let k : length (mid_of (at + 2 + n) (at + 34 - (at + 2 + n)) copied) ≡ 32 - n = mid_len (at + 2 + n) (at + 34) copied
    (omega (arith, long, b, h)) ∙ omega (arith, m) in
    let p : part ≡ replicate (32 - n) 0 = e ∙ ap (λ (i : ℕ). replicate i 0) k in
    let q : length (take n (drop from stack)) ≡ n = part_length n from stack h in
    record {
      is = ap (λ (i : ℕ). put_mid (at + 2 + n) (i - (at + 2 + n)) copied part) z
          ∙ stored-part (at + 2 + n) (32 - n) copied part (ap (λ (t : List ℕ). length t) p
          ∙ length-replicate (32 - n) 0) (omega (arith, long, b, h, z))
          ∙ ap₂ (λ (s t : List ℕ). sets s (at + 2 + n) t) (w ∙ ap (λ (t : List ℕ). sets two (at + 2) (take n t)) below) p
          ∙ ap (λ (i : ℕ). sets (sets two (at + 2) (take n (drop from stack))) (at + 2 + i) (replicate (32 - n) 0)) (sym q)
          ∙ sym (sets-append (take n (drop from stack)) (replicate (32 - n) 0) two (at + 2))
          ∙ ap₂ (λ (i j : ℕ). sets (set (set stack at receiver) i back) j (take n (drop from stack) ++ replicate (32 - n) 0))
          (omega arith) (omega arith);
    }

-- a call opened
abbrev pub called : Machine → (line height calls : ℕ) → Machine
called m l h c =
    record { line = l; height = h; calls = c; words = m.words; printed = m.printed; tape = m.tape; marks = m.marks }

module _ {limit : ℕ} {m : Machine} {n receiver line : ℕ} {stack : List ℕ} where
  pub calls-full : limit ≤ m.calls → Enters limit m n receiver line stack stack (Err (Some reason.CallsFull))
  calls-full l = record { says = λ h o g. allowed-no 52 (ltb m.calls limit) _ (le-ltb m.calls limit l) }

  pub enters : {stack' : List ℕ} → m.calls < limit
      → Opened (34 * m.calls) receiver (m.line + 1) (2176 + (m.height - n)) n stack stack'
      → Enters limit m n receiver line stack stack' (Ok (called m line (m.height - (n + 1)) (m.calls + 1)))
  enters {stack'} l w =
      record {
        says = λ h o g.
            allowed-yes 52 (ltb m.calls limit) _ (lt-ltb m.calls limit l)
            ∙ ap (λ (t : List ℕ). goes (state_of (called m line (m.height - (n + 1)) (m.calls + 1)) t h o g)) (sym w.is);
      }

-- CALL

reached : {text stack : List ℕ} {heap : List ℤ} {v : ℕ} {t : Result ℕ Reason} (m : Machine) (x : ℕ) → CalledOn stack m.height (x % 256) (Ok v) → Dispatched text heap m.words v (x / 256) t
    → (A : Around) (o : List ℤ) (g : List ℕ) → A.lines ≡ lines_in text
    → do_call A x (state_of m stack heap o g)
    ≡ followed t λ l. allowed 52 (ltb m.calls A.calls) λ _. goes (opens (state_of m stack heap o g) (x % 256) v l)
unfolding do_call call_on
reached {text} {stack} {heap} {v} {t} m x w u A o g p =
    w.says (state_of m stack heap o g) refl refl _
    ∙ ap (λ (ls : List Line). reference (state_of m stack heap o g) v λ _. entered ls (x / 256 + low 32 (get_or heap (v - 1) (pos 0))) λ l.
    allowed 52 (ltb m.calls A.calls) λ _. goes (opens (state_of m stack heap o g) (x % 256) v l)) p
    ∙ u.says (state_of m stack heap o g) refl refl (λ l. allowed 52 (ltb m.calls A.calls) λ _. goes (opens
    (state_of m stack heap o g) (x % 256) v l))

module _ {text : List ℕ} {limit x : ℕ} {m : Machine} {stack : List ℕ} {heap : List ℤ} where
  pub call_none : {r : Result Machine (Maybe Reason)} {e : Reason} → CalledOn stack m.height (x % 256) (Err e) → r ≡ Err (Some e)
      → OnCall text limit x m stack stack heap r
  unfolding do_call call_on
  call_none w i =
      record {
        says = λ A o g p q.
            w.says (state_of m stack heap o g) refl refl _ ∙ sym (ap (λ (r : Result Machine (Maybe Reason)). turn_of r stack heap o g) i);
      }

  pub call-wrong : {r : Result Machine (Maybe Reason)} {e : Reason} {v : ℕ} → CalledOn stack m.height (x % 256) (Ok v)
      → Dispatched text heap m.words v (x / 256) (Err e) → r ≡ Err (Some e)
      → OnCall text limit x m stack stack heap r
  call-wrong w u i =
      record {
        says = λ A o g p q. reached m x w u A o g p ∙ sym (ap (λ (r : Result Machine (Maybe Reason)). turn_of r stack heap o g) i);
      }

  pub calls : {r : Result Machine (Maybe Reason)} {v l : ℕ} {stack' : List ℕ} → CalledOn stack m.height (x % 256) (Ok v)
      → Dispatched text heap m.words v (x / 256) (Ok l) → Enters limit m (x % 256) v l stack stack' r
      → OnCall text limit x m stack stack' heap r
  calls {r} {v} {l} {stack'} w u d =
      record {
        says = λ A o g p q.
            reached m x w u A o g p
            ∙ ap (λ (y : ℕ). allowed 52 (ltb m.calls y) λ _. goes (opens (state_of m stack heap o g) (x % 256) v l)) q ∙ d.says heap o g;
      }
