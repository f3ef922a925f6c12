-- A chain that ends passes through no class twice, so it is no longer than the table: climbing as many steps as the table is long reaches
-- its end. Each class on a chain that ends has a height of its own; taking a class out of the table leaves the chain above it as it was.
use Prim.Native.Nat.{ℕ, zero, suc, ◌≤◌, ◌<◌, zero-le, suc-le-suc}
use Rattle.std.proofs.Common.{not-suc-le-zero, le_of_suc-le-suc, arith, sym, ◌∙◌, subst}
use Rattle.std.specs.Prelude.{◌≡◌, true, length}
use Rattle.std.proofs.Math.Path.{refl, ap}
use mathlib.Core.List.{List, [], ◌∷◌}
use Rattle.std.proofs.lemmas.Bool.{false≢true}
use Rattle.std.proofs.Math.Option.{Option, none, some}
use Rattle.base.specs.Choice.{if◌then◌otherwise◌, option}
use Rattle.base.specs.Bytes.{same}
use Rattle.base.specs.All.{All}
use Rattle.parser.specs.Tree.{Name, Element.class, Class}
use Rattle.typesystem.specs.ClassTable.{class_named, chain_within, chain, ends_within, known}
use Rattle.typesystem.specs.TypingRules.{Extends, extends, Ends, ends-here, ends_above, class_name}
use Rattle.base.specs.laws.Tests.{same-equal, apart-same}
use Rattle.typing.specs.laws.Choices.{by-test, taken, held, none-some, first-name, first-among}

-- LOOK-UPS OF CLASSES

-- the class that is found has the name
pub class-name : (G : List Class) (c : List ℕ) {k : Class} → class_named G c ≡ some k → class_name k ≡ c
unfolding class_named
class-name G c e = first-name class_name c (λ l. class_named l c) refl (λ j l. refl) G e

-- what holds of every class holds of one that is found
pub all-classes : {P : Class → Type 0} {G : List Class} (c : List ℕ) {k : Class} → All P G → class_named G c ≡ some k → P k
unfolding class_named
all-classes c h e = first-among class_name c (λ l. class_named l c) refl (λ j l. refl) h e

-- the known classes are those of the table
module _ (G : List Class) where
  pub known-found : (c : List ℕ) → known G (class c) ≡ true → (k : Class) × (class_named G c ≡ some k)
  unfolding known
  known-found c h = held (class_named G c) h (λ e q. absurd (false≢true q)) (λ k e q. (k, e))

  pub found-known : (c : List ℕ) {k : Class} → class_named G c ≡ some k → known G (class c) ≡ true
  unfolding known
  found-known c e = rw e

-- EXTENDS

-- a class extends at most one
pub extends-one : {G : List Class} {c d e : List ℕ} → Extends G c d → Extends G c e → d ≡ e
extends-one (extends a p q) (extends b r s) = cc

-- a class with no parent extends none
pub extends-none : {G : List Class} {c d : List ℕ} {k : Class} → class_named G c ≡ some k → k.parent ≡ none → Extends G c d → ⊥
extends-none a p (extends {k = j} b r s) = let h : j.parent ≡ none = cc in none-some h r

-- HEIGHTS: the number of classes on a chain that ends
data Tall (G : List Class) : List ℕ → ℕ → Type 0 where
  tall-top : {c : List ℕ} {k : Class} → class_named G c ≡ some k → k.parent ≡ none → Tall G c (suc zero)
  tall-more : {c d : List ℕ} {n : ℕ} → Extends G c d → Tall G d n → Tall G c (suc n)

-- a chain that ends has a height
tall : {G : List Class} {c : List ℕ} → Ends G c → (n : ℕ) × Tall G c n
tall (ends-here e p) = (suc zero, tall-top e p)
tall (ends_above x h) = let w = tall h in (suc w.0, tall-more x w.1)

-- and only one
tall-one : {G : List Class} {c : List ℕ} {m n : ℕ} → Tall G c m → Tall G c n → m ≡ n
tall-one (tall-top e p) (tall-top a q) = refl
tall-one (tall-top e p) (tall-more x t) = absurd (extends-none e p x)
tall-one (tall-more x t) (tall-top e p) = absurd (extends-none e p x)
tall-one {G} {n = suc n} (tall-more x s) (tall-more y t) = ap suc (tall-one s (subst (λ (d : List ℕ). Tall G d n) (extends-one y x) t))

-- A TABLE WITHOUT A CLASS: it is one shorter, and finds every other class as before
without : List Class → List ℕ → List Class
without [] c = []
without (k ∷ G) c = if same (class_name k) c then (λ _. G) otherwise λ _. k ∷ without G c

length_without : (G : List Class) (c : List ℕ) {k : Class} → class_named G c ≡ some k → length G ≡ suc (length (without G c))
unfolding class_named without
length_without [] c e = absurd (none-some refl e)
length_without (k ∷ G) c e = taken (same (class_name k) c) _ _ e (λ s x. rw s) (λ s x. rw s (ap suc (length_without G c x)))

named-without : (G : List Class) (c x : List ℕ) → (x ≡ c → ⊥) → class_named (without G c) x ≡ class_named G x
unfolding class_named without
named-without [] c x n = refl
named-without (k ∷ G) c x n =
    by-test (λ l. class_named l x ≡ class_named (k ∷ G) x) (same (class_name k) c) _ _
    (λ s. rw (apart-same (class_name k) x λ e. n (sym e ∙ same-equal (class_name k) c s)))
    (λ s. rw (named-without G c x n))

-- classes of different heights are different
apart : {G : List Class} {c d : List ℕ} {m n : ℕ} → Tall G c m → Tall G d n → n < m → d ≡ c → ⊥
apart {G} {c} {n = n} h t l e = let q = tall-one h (subst (λ (x : List ℕ). Tall G x n) e t) in omega arith

-- what stands above a class does so without it
tall-without : {G : List Class} {c d : List ℕ} {m n : ℕ} → Tall G c m → Tall G d n → n < m → Tall (without G c) d n
tall-without {G} {c} h (tall-top {c = d} e p) l = tall-top (named-without G c d (apart h (tall-top e p) l) ∙ e) p
tall-without {G} {c} h (tall-more {c = d} (extends e p q) t) l =
    tall-more (extends (named-without G c d (apart h (tall-more (extends e p q) t) l) ∙ e) p q) (tall-without h t (omega arith))

-- so a chain is no longer than the table
short : (n : ℕ) (G : List Class) {c : List ℕ} → Tall G c n → n ≤ length G
short zero G t = zero-le
short (suc n) G {c} (tall-top e p) = rw (length_without G c e) (suc-le-suc zero-le)
short (suc n) G {c} (tall-more (extends e p q) t) =
    let h : Tall G c (suc n) = tall-more (extends e p q) t in
    rw (length_without G c e) (suc-le-suc (short n (without G c) (tall-without h t (omega arith))))

-- ENDS

-- a class whose chain ends is one of the table, and the chain of its parent ends
pub ends-known : {G : List Class} {c : List ℕ} → Ends G c → (k : Class) × (class_named G c ≡ some k)
ends-known (ends-here {k = k} e p) = (k, e)
ends-known (ends_above (extends {k = k} e p q) h) = (k, e)

pub ends-up : {G : List Class} {c d : List ℕ} → Ends G c → Extends G c d → Ends G d
ends-up (ends-here e p) x = absurd (extends-none e p x)
ends-up {G} (ends_above y h) x = subst (Ends G) (extends-one y x) h

within : {G : List Class} {c : List ℕ} {n : ℕ} → Tall G c n → (most : ℕ) → n ≤ most → ends_within most G c ≡ true
unfolding ends_within
within (tall-top e p) zero h = absurd (not-suc-le-zero h)
within (tall-top e p) (suc n) h = rw (e, p)
within (tall-more x t) zero h = absurd (not-suc-le-zero h)
within (tall-more (extends e p q) t) (suc n) h = rw (e, p, q) (within t n (le_of_suc-le-suc h))

-- a chain that ends does so within as many classes as the table has
pub ends-within : {G : List Class} {c : List ℕ} → Ends G c → ends_within (length G) G c ≡ true
ends-within {G} h = let t = tall h in within t.1 (length G) (short t.0 G t.1)

-- where every parent is a class of the table, a chain that ends within some number of classes ends
module _ {G : List Class} (parents : (c d : List ℕ) → Extends G c d → (k : Class) × (class_named G d ≡ some k)) where
  pub within-ends : (most : ℕ) (c : List ℕ) {k : Class} → class_named G c ≡ some k → ends_within most G c ≡ true → Ends G c
  unfolding ends_within
  within-ends zero c e h = absurd (false≢true h)
  within-ends (suc n) c {k} e h =
      held k.parent (rw e at h) (λ q i. ends-here e q)
      (λ p q i. let x : Extends G c p.text = extends e q refl in ends_above x (within-ends n p.text (parents c p.text x).1 i))

-- a table whose chains all end
pub record Acyclic (G : List Class) : Type 0 where
  pub ends : (c : List ℕ) {k : Class} → class_named G c ≡ some k → Ends G c

-- CHAINS as a relation: the classes from a class upwards, nearest first
pub data Chain (G : List Class) : List ℕ → List Class → Type 0 where
  chain-none : {c : List ℕ} → class_named G c ≡ none → Chain G c []
  chain-top : {c : List ℕ} {k : Class} → class_named G c ≡ some k → k.parent ≡ none → Chain G c (k ∷ [])
  chain_more : {c d : List ℕ} {k : Class} {ks : List Class} → class_named G c ≡ some k → Extends G c d → Chain G d ks → Chain G c (k ∷ ks)

module _ (G : List Class) (c : List ℕ) {k : Class} (n : ℕ) (e : class_named G c ≡ some k) where
  step-top : k.parent ≡ none → chain_within (suc n) G c ≡ k ∷ []
  unfolding chain_within
  step-top p = rw e (ap (λ (o : Option Name). k ∷ option o [] (λ a. chain_within n G a.text)) p)

  step-more : {p : Name} {d : List ℕ} → k.parent ≡ some p → p.text ≡ d → chain_within (suc n) G c ≡ k ∷ chain_within n G d
  unfolding chain_within
  step-more p q = rw e (ap (λ (o : Option Name). k ∷ option o [] (λ a. chain_within n G a.text)) p ∙ ap (λ (a : List ℕ). k ∷ chain_within n G a) q)

climb : {G : List Class} {c : List ℕ} {n : ℕ} → Tall G c n → (most : ℕ) → n ≤ most → Chain G c (chain_within most G c)
climb (tall-top e p) zero h = absurd (not-suc-le-zero h)
climb {G} {c} (tall-top e p) (suc n) h = rw (step-top G c n e p) (chain-top e p)
climb (tall-more x t) zero h = absurd (not-suc-le-zero h)
climb {G} {c} (tall-more (extends e p q) t) (suc n) h = rw (step-more G c n e p q) (chain_more e (extends e p q) (climb t n (le_of_suc-le-suc h)))

climb-none : {G : List Class} {c : List ℕ} (most : ℕ) → class_named G c ≡ none → Chain G c (chain_within most G c)
unfolding chain_within
climb-none zero e = chain-none e
climb-none (suc n) e = rw e (chain-none e)

-- in a table whose chains end, `chain` is the chain
pub chain-is : {G : List Class} → Acyclic G → (c : List ℕ) → Chain G c (chain G c)
unfolding chain
chain-is {G} A c = go (class_named G c) refl
  where
    go : (o : Option Class) → class_named G c ≡ o → Chain G c (chain_within (length G) G c)
    go none e = climb-none (length G) e
    go (some k) e = let t = tall (A.ends c e) in climb t.1 (length G) (short t.0 G t.1)

-- a chain begins with its class, and goes on with the parent's chain
pub chain_head : {G : List Class} {c : List ℕ} {k : Class} {ks : List Class} → Chain G c ks → class_named G c ≡ some k
    → (ls : List Class) × (ks ≡ k ∷ ls)
chain_head (chain-none e) a = absurd (none-some e a)
chain_head (chain-top e p) a = ([], cc)
chain_head (chain_more {ks = ks} e x h) a = (ks, cc)

pub chain-tail : {G : List Class} {c d : List ℕ} {k : Class} {ks : List Class} → Chain G c ks → class_named G c ≡ some k → Extends G c d
    → (ls : List Class) × (ks ≡ k ∷ ls) × Chain G d ls
chain-tail (chain-none e) a x = absurd (none-some e a)
chain-tail (chain-top e p) a x = absurd (extends-none e p x)
chain-tail {G} (chain_more {ks = ks} e y h) a x = (ks, cc, subst (λ (d : List ℕ). Chain G d ks) (extends-one y x) h)
