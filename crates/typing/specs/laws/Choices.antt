-- What the result of a choice, of a look-up and of a chain of stages tells of its parts: the case that was taken, and that every stage
-- accepted.
use Rattle.std.specs.Prelude.{ℕ, zero, suc, ◌≡◌, refl, List, [], ◌∷◌, Bool, true, false}
use Rattle.std.proofs.Common.{sym, ◌∙◌, subst}
use Rattle.std.proofs.Math.Option.{Option, none, some, none-ne-some}
use Rattle.std.proofs.Math.ListN.{get_elem?}
use Rattle.base.specs.Bytes.{same}
use Rattle.base.specs.Choice.{if◌then◌otherwise◌, option}
use Rattle.base.specs.Outcome.{Outcome, accepted, refused, ◌>>=◌}
use Rattle.base.specs.All.{All, all_nil, all_cons}
use Rattle.base.specs.laws.Lists.{all-at}
use Rattle.base.specs.laws.Tests.{same-equal}

-- CHOICES

-- what holds of the branch that a choice takes holds of the choice
pub by-test : {B : Type 0} (P : B → Type 0) (b : Bool) (x y : Unit {0} → B) → (b ≡ true → P (x tt)) → (b ≡ false → P (y tt))
    → P (if b then x otherwise y)
by-test P true x y f g = f refl
by-test P false x y f g = g refl

-- which branch a choice took
pub taken : {B R : Type 0} (b : Bool) (x y : Unit {0} → B) {z : B} → (if b then x otherwise y) ≡ z → (b ≡ true → x tt ≡ z → R)
    → (b ≡ false → y tt ≡ z → R) → R
taken {R = R} b x y {z = z} e f g = by-test (λ v. v ≡ z → R) b x y f g e

-- what an option held
pub held : {A B R : Type 0} (o : Option A) {x : B} {y : A → B} {z : B} → option o x y ≡ z → (o ≡ none → x ≡ z → R)
    → ((a : A) → o ≡ some a → y a ≡ z → R) → R
held none e f g = f refl e
held (some a) e f g = g a refl e

pub none-some : {A : Type 0} {o : Option A} {a : A} → o ≡ none → o ≡ some a → ⊥
none-some {a = a} p q = none-ne-some a (sym p ∙ q)

-- OUTCOMES

abbrev IsAccepted : {A : Type 0} → Outcome A → Type 0
IsAccepted (accepted a) = Unit {0}
IsAccepted (refused n p) = ⊥

pub refused-accepted : {A : Type 0} {n p : ℕ} {a : A} → refused n p ≡ accepted a → ⊥
refused-accepted e = subst IsAccepted (sym e) tt

-- an accepted chain of two stages: both accepted
pub bound : {A B : Type 0} (x : Outcome A) (k : A → Outcome B) {b : B} → (x >>= k) ≡ accepted b
    → (a : A) × (x ≡ accepted a) × (k a ≡ accepted b)
bound (accepted a) k e = (a, refl, e)
bound (refused n p) k e = absurd (refused-accepted e)

-- a test that refuses where it fails
pub passed : {A : Type 0} (b : Bool) (x : Unit {0} → Outcome A) (n p : ℕ) {a : A} → (if b then x otherwise λ _. refused n p) ≡ accepted a
    → (b ≡ true) × (x tt ≡ accepted a)
passed b x n p e = taken b x _ e (λ t q. (t, q)) (λ t q. absurd (refused-accepted q))

-- a look-up that refuses where it finds nothing
pub present : {A B : Type 0} (o : Option A) (n p : ℕ) (k : A → Outcome B) {b : B} → option o (refused n p) k ≡ accepted b
    → (a : A) × (o ≡ some a) × (k a ≡ accepted b)
present o n p k e = held o e (λ t q. absurd (refused-accepted q)) (λ a t q. (a, t, q))

-- a test that refuses where it succeeds
pub failed : {A : Type 0} (b : Bool) (n p : ℕ) (x : Unit {0} → Outcome A) {a : A} → (if b then (λ _. refused n p) otherwise x) ≡ accepted a
    → (b ≡ false) × (x tt ≡ accepted a)
failed b n p x e = taken b _ x e (λ t q. absurd (refused-accepted q)) (λ t q. (t, q))

-- a look-up that may find nothing
pub if-present : {A : Type 0} (o : Option A) (k : A → Outcome (Unit {0})) → ((a : A) → o ≡ some a → k a ≡ accepted tt)
    → option o (accepted tt) k ≡ accepted tt
if-present none k f = refl
if-present (some a) k f = f a refl

pub bind_assoc : {A B C : Type 0} (x : Outcome A) (y : A → Outcome B) (z : B → Outcome C) → (x >>= λ a. y a >>= z) ≡ (x >>= y >>= z)
bind_assoc (accepted a) y z = refl
bind_assoc (refused n p) y z = refl

-- a stage, a test of what it gives, and a stage after the test
pub tested : {A B : Type 0} (x : Outcome A) (y : A → Outcome (Unit {0})) (k : Unit {0} → Outcome B) {b : B}
    → (x >>= λ a. y a >>= k) ≡ accepted b
    → ((x >>= y) ≡ accepted tt) × (k tt ≡ accepted b)
tested x y k e = let w = bound (x >>= y) k (sym (bind_assoc x y k) ∙ e) in (w.1, w.2)

-- one test for each element of a list, in order
module _ {A : Type 0} (f : List A → Outcome (Unit {0})) (g : A → Outcome (Unit {0}))
    (none_left : f [] ≡ accepted tt) (one_more : (x : A) (l : List A) → f (x ∷ l) ≡ (g x >>= λ _. f l)) where
  pub each-sound : (l : List A) → f l ≡ accepted tt → All (λ x. g x ≡ accepted tt) l
  each-sound [] h = all_nil
  each-sound (x ∷ l) h = let w = bound (g x) (λ _. f l) (sym (one_more x l) ∙ h) in all_cons w.1 (each-sound l w.2)

  pub each-complete : {l : List A} → All (λ x. g x ≡ accepted tt) l → f l ≡ accepted tt
  each-complete all_nil = none_left
  each-complete (all_cons {x = x} {l = l} p h) = rw (one_more x l, p) (each-complete h)

-- the first element of a list that has a name: it stands in the list, and the name is its own
module _ {A : Type 0} (name : A → List ℕ) (c : List ℕ) (f : List A → Option A)
    (none_left : f [] ≡ none) (one_more : (x : A) (l : List A) → f (x ∷ l) ≡ (if same (name x) c then (λ _. some x) otherwise λ _. f l)) where
  first_found : (l : List A) {a : A} → f l ≡ some a → (i : ℕ) × (get_elem? l i ≡ some a) × (name a ≡ c)
  first_found [] e = absurd (none-some none_left e)
  first_found (x ∷ l) {a} e =
      taken (same (name x) c) _ _ (sym (one_more x l) ∙ e)
      (λ t q. let z : x ≡ a = cc in (zero, q, rw (← z) (same-equal (name x) c t)))
      (λ t q. let w = first_found l q in (suc w.0, w.1, w.2))

  pub first-name : (l : List A) {a : A} → f l ≡ some a → name a ≡ c
  first-name l e = (first_found l e).2

  -- what holds of every element holds of it
  pub first-among : {P : A → Type 0} {l : List A} {a : A} → All P l → f l ≡ some a → P a
  first-among {l = l} h e = let w = first_found l e in all-at w.0 h w.1
