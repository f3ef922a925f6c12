-- Looking for a name among the earlier ones, name by name, finds one exactly where a list of names repeats one.
use Rattle.std.specs.Prelude.{ℕ, ◌≡◌, refl, List, [], ◌∷◌, ◌++◌, map, false}
use Rattle.base.specs.Bytes.{same}
use Rattle.base.specs.All.{All, all_nil, all_cons}
use Rattle.base.specs.laws.Lists.{all_of, all_append, all-weaken}
use Rattle.typesystem.specs.ClassTable.{occurs}
use Rattle.typesystem.specs.TypingRules.{Distinct, distinct_none, distinct_more}
use Rattle.base.specs.laws.Tests.{or-neither, same-sym}

-- EVERY ELEMENT

module _ {A : Type 0} {P Q : A → Type 0} where
  pub all-zip : {l : List A} → All P l → All Q l → All (λ x. P x × Q x) l
  all-zip all_nil all_nil = all_nil
  all-zip (all_cons p ps) (all_cons q qs) = all_cons (p, q) (all-zip ps qs)

  pub all_split : {l : List A} → All (λ x. P x × Q x) l → All P l × All Q l
  all_split all_nil = (all_nil, all_nil)
  all_split (all_cons p ps) = let w = all_split ps in (all_cons p.0 w.0, all_cons p.1 w.1)

module _ {A : Type 0} {P : A → Type 0} where
  pub all_apart : (s : List A) {t : List A} → All P (s ++ t) → All P s × All P t
  all_apart [] h = (all_nil, h)
  all_apart (x ∷ s) (all_cons p h) = let w = all_apart s h in (all_cons p w.0, w.1)

pub all-unmap : {A B : Type 0} {P : B → Type 0} (f : A → B) (l : List A) → All P (map f l) → All (λ (x : A). P (f x)) l
all-unmap f [] h = all_nil
all-unmap f (x ∷ l) (all_cons p h) = all_cons p (all-unmap f l h)

-- NAMES

-- the names of a list are none of the earlier ones
abbrev pub Unused : (earlier xs : List (List ℕ)) → Type 0
Unused earlier xs = All (λ (x : List ℕ). occurs x earlier ≡ false) xs

pub unused-nil : (xs : List (List ℕ)) → Unused [] xs
unfolding occurs
unused-nil xs = all_of xs (λ i x e. refl)

pub occurs-not : (x : List ℕ) (ys : List (List ℕ)) → occurs x ys ≡ false → All (λ (y : List ℕ). same y x ≡ false) ys
unfolding occurs
occurs-not x [] h = all_nil
occurs-not x (y ∷ ys) h = let w = or-neither (same y x) (occurs x ys) h in all_cons w.0 (occurs-not x ys w.1)

not-occurs : {x : List ℕ} {ys : List (List ℕ)} → All (λ (y : List ℕ). same y x ≡ false) ys → occurs x ys ≡ false
unfolding occurs
not-occurs all_nil = refl
not-occurs (all_cons p h) = rw (p, not-occurs h)

-- one more earlier name
unused-cons : (x : List ℕ) (earlier : List (List ℕ)) {xs : List (List ℕ)} → occurs x xs ≡ false → Unused earlier xs
    → Unused (x ∷ earlier) xs
unfolding occurs
unused-cons x earlier {xs} o h = all-weaken (λ y p. rw (same-sym y x p.0, p.1)) (all-zip (occurs-not x xs o) h)

cons-unused : (x : List ℕ) (earlier : List (List ℕ)) {xs : List (List ℕ)} → Unused (x ∷ earlier) xs
    → (occurs x xs ≡ false) × Unused earlier xs
unfolding occurs
cons-unused x earlier h =
    let w = all_split (all-weaken (λ y p. or-neither (same x y) (occurs y earlier) p) h) in
    (not-occurs (all-weaken (λ y p. same-sym x y p) w.0), w.1)

-- names one after the other, each none of those before it
pub data Fresh : (earlier xs : List (List ℕ)) → Type 0 where
  fresh-none : {earlier : List (List ℕ)} → Fresh earlier []
  fresh-more : {x : List ℕ} {earlier xs : List (List ℕ)} → occurs x earlier ≡ false → Fresh (x ∷ earlier) xs → Fresh earlier (x ∷ xs)

-- that is: they are distinct, and none of the earlier ones
pub fresh-distinct : {earlier xs : List (List ℕ)} → Fresh earlier xs → Distinct xs × Unused earlier xs
fresh-distinct fresh-none = (distinct_none, all_nil)
fresh-distinct (fresh-more {x = x} {earlier = earlier} o h) =
    let w = fresh-distinct h in
    let v = cons-unused x earlier w.1 in
    (distinct_more v.0 w.0, all_cons o v.1)

pub distinct-fresh : {earlier xs : List (List ℕ)} → Distinct xs → Unused earlier xs → Fresh earlier xs
distinct-fresh distinct_none h = fresh-none
distinct-fresh {earlier} (distinct_more {x = x} o d) (all_cons p h) = fresh-more p (distinct-fresh d (unused-cons x earlier o h))

pub distinct-rest : {x : List ℕ} {xs : List (List ℕ)} → Distinct (x ∷ xs) → Distinct xs
distinct-rest (distinct_more o d) = d

-- two lists of names, one after the other
pub distinct_append : {xs ys : List (List ℕ)} → Distinct xs → Distinct ys → Unused xs ys → Distinct (xs ++ ys)
distinct_append distinct_none e u = e
distinct_append {ys = ys} (distinct_more {x = x} {xs = xs} o d) e u =
    let w = cons-unused x xs u in
    distinct_more (not-occurs (all_append (occurs-not x xs o) (occurs-not x ys w.0))) (distinct_append d e w.1)

pub distinct-split : (xs : List (List ℕ)) {ys : List (List ℕ)} → Distinct (xs ++ ys) → Distinct xs × Distinct ys × Unused xs ys
distinct-split [] {ys} d = (distinct_none, d, unused-nil ys)
distinct-split (x ∷ xs) {ys} (distinct_more o d) =
    let w = distinct-split xs d in
    let v = all_apart xs (occurs-not x (xs ++ ys) o) in
    (distinct_more (not-occurs v.0) w.0, w.1, unused-cons x xs (not-occurs v.1) w.2)
