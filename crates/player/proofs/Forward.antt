-- Digits that are read forward.
use Prim.Native.Nat.{ℕ, suc, ◌+◌, ◌-◌, ◌*◌, ◌^◌, ◌≤◌, ◌<◌}
use native.Mathlib.Nat.{pow-suc, pow-le-pow_right}
use native.Mathlib.Omega.{arith}
use mathlib.Core.Bool.{Bool, true, false, ◌&&◌}
use mathlib.Core.List.{List}
use mathlib.Core.Option.{Option, none, some}
use mathlib.Core.Path.{◌≡◌, refl, sym, ap, ◌∙◌}
use lib.ListN.{length, get_or, drop}
use lib.Seq.{drop-cons}
use lib.Dec.{leb}
use borrow.Author.Tests.{le-leb, lt-leb, leb-true}
use Rattle.base.specs.laws.Tests.{and-true}
use Rattle.base.specs.Choice.{if◌then◌otherwise◌, option}
use Rattle.std.specs.Prelude.{Option as Maybe, None, unwrap_or}
use Rattle.frames.specs.Lines.{digit_of, digits}
use Rattle.player.specs.promises.Reading.{digit_or, number_or}

-- A DIGIT

abbrev pick : (w x y z : Bool) (a b : ℕ) → ℕ
pick w x y z a b = option (if w && x then (λ _. some a) otherwise λ _. if y && z then (λ _. some b) otherwise λ _. none) 16 λ d. d

digit-is : (w x y z : Bool) (b : ℕ) → leb 48 b ≡ w → leb b 57 ≡ x → leb 97 b ≡ y → leb b 102 ≡ z
    → digit_or b ≡ pick w x y z (b - 48) (b - 87)
unfolding digit_or
digit-is w x y z b p q r t = rw (p, q, r, t) refl

module _ {b : ℕ} where
  pub below : b < 48 → 16 ≡ digit_or b
  below h = sym (digit-is false true false true b (lt-leb 48 b h) (le-leb b 57 (omega (arith, h))) (lt-leb 97 b (omega (arith, h)))
      (le-leb b 102 (omega (arith, h))))

  pub figure : 48 ≤ b → b ≤ 57 → b - 48 ≡ digit_or b
  figure h k = sym (digit-is true true false true b (le-leb 48 b h) (le-leb b 57 k) (lt-leb 97 b (omega (arith, k)))
      (le-leb b 102 (omega (arith, k))))

  pub between : 57 < b → b < 97 → 16 ≡ digit_or b
  between h k = sym (digit-is true false false true b (le-leb 48 b (omega (arith, h))) (lt-leb b 57 h) (lt-leb 97 b k)
      (le-leb b 102 (omega (arith, k))))

  pub letter : 97 ≤ b → b ≤ 102 → b - 97 + 10 ≡ digit_or b
  letter h k =
      let z : b - 97 + 10 ≡ b - 87 = omega (arith, h) in
      z ∙ sym (digit-is true false true true b (le-leb 48 b (omega (arith, h))) (lt-leb b 57 (omega (arith, h))) (le-leb 97 b h)
      (le-leb b 102 k))

  pub above : 102 < b → 16 ≡ digit_or b
  above h = sym (digit-is true false true false b (le-leb 48 b (omega (arith, h))) (lt-leb b 57 (omega (arith, h))) (le-leb 97 b
      (omega (arith, h))) (lt-leb b 102 h))

-- DIGITS, one after another

-- those before i came to v
pub record Reading (s : List ℕ) (at count end i v : ℕ) : Type 0 where
  pub end_is : end ≡ at + count
  pub inside : at + count ≤ length s
  pub eight : count ≤ 8
  pub bound : v < 4294967296
  pub from : at ≤ i
  pub to : i ≤ end
  pub small : v < 16 ^ (i - at)
  pub left : number_or s at count ≡ digits (end - i) v (drop i s) 4294967296 (λ n _. n)

pub starts : {s : List ℕ} {at count end : ℕ} → end ≡ at + count → at + count ≤ length s → count ≤ 8 → Reading s at count end at 0
unfolding number_or
starts {s} {at} {count} {end} e h k =
    let z : at - at ≡ 0 = omega arith in
    let y : end - at ≡ count = omega (arith, e) in
    record {
      end_is = e;
      inside = h;
      eight = k;
      bound = omega arith;
      from = omega arith;
      to = omega (arith, e);
      small = rw z (omega arith);
      left = ap (λ (n : ℕ). digits n 0 (drop at s) 4294967296 (λ n _. n)) (sym y);
    }

-- a digit is below 16
pub digit-small : (b n : ℕ) → digit_of b ≡ some n → n < 16
digit-small b n e = first (leb 48 b && leb b 57) refl e
  where
    second : (x : Bool) → (leb 97 b && leb b 102) ≡ x → (if x then (λ _. some (b - 87)) otherwise λ _. none) ≡ some n → n < 16
    second true q f =
        let t = and-true (leb 97 b) (leb b 102) q in
        let z : b - 87 ≡ n = cc in
        omega (arith, leb-true 97 b t.0, leb-true b 102 t.1)
    second false q f = absurd (let z : ◌≡◌ {A = ℕ} 0 1 = cc in omega arith)

    first : (x : Bool) → (leb 48 b && leb b 57) ≡ x → (if x then (λ _. some (b - 48)) otherwise λ _. if leb 97 b && leb b 102 then (λ _. some
        (b - 87)) otherwise λ _. none) ≡ some n → n < 16
    first true q f =
        let t = and-true (leb 48 b) (leb b 57) q in
        let z : b - 48 ≡ n = cc in
        omega (arith, leb-true 48 b t.0, leb-true b 57 t.1)
    first false q f = second (leb 97 b && leb b 102) refl f

-- one digit more
onward : {s : List ℕ} {at count end i v : ℕ} → Reading s at count end i v → i < end → (o : Option ℕ) → digit_of (get_or s i 0) ≡ o
    → number_or s at count ≡ option o 4294967296 λ d. digits (end - (i + 1)) (v * 16 + d) (drop (i + 1) s) 4294967296 (λ n _. n)
unfolding digits
onward {s} {at} {count} {end} {i} {v} r l o e =
    let h : i < length s = omega (arith, r.inside, r.end_is) in
    let n : end - i ≡ suc (end - (i + 1)) = omega arith in
    let k : suc i ≡ i + 1 = omega arith in
    r.left ∙ ap (λ (j : ℕ). digits j v (drop i s) 4294967296 (λ n _. n)) n
    ∙ ap (λ (t : List ℕ). digits (suc (end - (i + 1))) v t 4294967296 (λ n _. n)) (drop-cons s i 0 h)
    ∙ ap (λ (o : Option ℕ). option o 4294967296 λ d. digits (end - (i + 1)) (v * 16 + d) (drop (suc i) s) 4294967296 (λ n _. n)) e
    ∙ ap (λ (j : ℕ). option o 4294967296 λ d. digits (end - (i + 1)) (v * 16 + d) (drop j s) 4294967296 (λ n _. n)) k

value_of : (b d : ℕ) (o : Option ℕ) → digit_of b ≡ o → d ≡ digit_or b → (d ≡ option o 16 λ d. d)
unfolding digit_or
value_of b d o e q = q ∙ ap (λ (o : Option ℕ). option o 16 λ d. d) e

pub no_digit : {s : List ℕ} {at count end i v : ℕ} {r : Maybe ℕ} → Reading s at count end i v → i < end → 16 ≡ digit_or (get_or s i 0)
    → r ≡ None → unwrap_or r 4294967296 ≡ number_or s at count
no_digit {s} {at} {count} {end} {i} {v} {r} w l q p =
    ap (λ (r : Maybe ℕ). unwrap_or r 4294967296) p ∙ by (digit_of (get_or s i 0)) refl
  where
    by : (o : Option ℕ) → digit_of (get_or s i 0) ≡ o → 4294967296 ≡ number_or s at count
    by none e = sym (onward w l none e)
    by (some n) e = absurd (omega (arith, value_of (get_or s i 0) 16 (some n) e q, digit-small (get_or s i 0) n e))

-- a digit more fits a word
pub room-more : {s : List ℕ} {at count end i v : ℕ} → Reading s at count end i v → i < end → v * 16 + 15 < 4294967296
room-more {s} {at} {count} {end} {i} {v} r l =
    let p : v * 16 + 15 < 16 ^ suc (i - at) = omega (arith, pow-suc 16 (i - at), r.small) in
    let o : 0 < 16 = omega arith in
    let t : suc (i - at) ≤ 8 = omega (arith, r.end_is, r.from, r.eight, l) in
    omega (arith, p, pow-le-pow_right o t)

pub a-digit : {s : List ℕ} {at count end i v d : ℕ} → Reading s at count end i v → i < end → d ≡ digit_or (get_or s i 0) → d < 16
    → Reading s at count end (i + 1) (v * 16 + d)
a-digit {s} {at} {count} {end} {i} {v} {d} r l q h = by (digit_of (get_or s i 0)) refl
  where
    by : (o : Option ℕ) → digit_of (get_or s i 0) ≡ o → Reading s at count end (i + 1) (v * 16 + d)
    by none e = absurd (omega (arith, value_of (get_or s i 0) d none e q))
    by (some n) e =
        let z : d ≡ n = value_of (get_or s i 0) d (some n) e q in
        let k : i + 1 - at ≡ suc (i - at) = omega (arith, r.from) in
        let p : v * 16 + d < 16 ^ suc (i - at) = omega (arith, pow-suc 16 (i - at), r.small) in
        let o : 0 < 16 = omega arith in
        let t : suc (i - at) ≤ 8 = omega (arith, r.end_is, r.from, r.eight) in
        record {
          end_is = r.end_is;
          inside = r.inside;
          eight = r.eight;
          bound = omega (arith, p, pow-le-pow_right o t);
          from = omega (arith, r.from);
          to = omega arith;
          small = rw k p;
          left = onward r l (some n) e ∙ ap (λ (y : ℕ). digits (end - (i + 1)) (v * 16 + y) (drop (i + 1) s) 4294967296 (λ n _. n)) (sym z);
        }

pub all_read : {s : List ℕ} {at count end i v : ℕ} → Reading s at count end i v → end ≤ i → v ≡ number_or s at count
unfolding digits
all_read {s} {at} {count} {end} {i} {v} r l =
    let z : end - i ≡ 0 = omega arith in
    sym (r.left ∙ ap (λ (n : ℕ). digits n v (drop i s) 4294967296 (λ n _. n)) z)
