-- Tests of the code table that hold or fail.
use Prim.Native.Nat.{ℕ, ◌≤◌, ◌<◌}
use mathlib.Core.Bool.{Bool, true, false}
use mathlib.Core.Path.{◌≡◌, refl}
use lib.Dec.{ltb}
use borrow.Author.Tests.{lt-ltb, le-ltb}
use Rattle.base.specs.Choice.{if◌then◌otherwise◌}
use Rattle.base.specs.Word.{modulus}
use Rattle.frames.specs.Machine.{Turn, ends, bad, sure, allowed, word}

pub sure-yes : (b : Bool) (k : Unit {0} → Turn) → b ≡ true → sure b k ≡ k tt
unfolding sure
sure-yes b k e = rw e refl

pub sure-no : (b : Bool) (k : Unit {0} → Turn) → b ≡ false → sure b k ≡ bad
unfolding sure
sure-no b k e = rw e refl

pub allowed-yes : (n : ℕ) (b : Bool) (k : Unit {0} → Turn) → b ≡ true → allowed n b k ≡ k tt
unfolding allowed
allowed-yes n b k e = rw e refl

pub allowed-no : (n : ℕ) (b : Bool) (k : Unit {0} → Turn) → b ≡ false → allowed n b k ≡ ends n
unfolding allowed
allowed-no n b k e = rw e refl

pub word-yes : (v : ℕ) (k : ℕ → Turn) → v < 4294967296 → word v k ≡ k v
unfolding word
word-yes v k l = sure-yes (ltb v modulus) (λ _. k v) (lt-ltb v modulus l)

pub word-no : (v : ℕ) (k : ℕ → Turn) → 4294967296 ≤ v → word v k ≡ bad
unfolding word
word-no v k l = sure-no (ltb v modulus) (λ _. k v) (le-ltb v modulus l)

pub yes-is : {B : Type 0} (b : Bool) (x y : Unit {0} → B) → b ≡ true → (if b then x otherwise y) ≡ x tt
yes-is b x y e = rw e refl

pub no-is : {B : Type 0} (b : Bool) (x y : Unit {0} → B) → b ≡ false → (if b then x otherwise y) ≡ y tt
no-is b x y e = rw e refl
