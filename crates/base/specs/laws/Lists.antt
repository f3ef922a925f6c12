-- Laws on lists: an element by `get_elem?`, which is `some` within the list and `none` past its end, and predicates and relations on
-- every element. That `some` is injective and is never `none` is `Option.some-injective` and `Option.none-ne-some`, or `cc`.
use Rattle.std.specs.Prelude.{◌≡◌, ℕ, zero, suc, ◌+◌, ◌<◌, ◌≤◌, ◌≢◌, List, [], ◌∷◌, ◌++◌, map, length, drop, replicate, slice_index_or, slice_set, refl}
use Rattle.std.proofs.Common.{suc-le-suc, zero-add, suc-add, not-suc-le-zero, le_of_suc-le-suc, zero-lt-suc, sym, ap, ◌∙◌, subst}
use Rattle.std.proofs.Math.Option.{none, some, none-ne-some, some-injective}
use Rattle.std.proofs.Math.ListN.{get_elem?}
use Rattle.base.specs.All.{All, all_nil, all_cons}

module _ {A : Type 0} where
  -- ---- an element by `get_elem?` and by `get_or`

  pub get-below : (l : List A) (i : ℕ) {x : A} → get_elem? l i ≡ some x → i < length l
  get-below [] i {x} e = absurd (none-ne-some x e)
  get-below (y ∷ l) zero e = zero-lt-suc (length l)
  get-below (y ∷ l) (suc i) e = suc-le-suc (get-below l i e)

  pub get-past : (l : List A) (i : ℕ) → length l ≤ i → get_elem? l i ≡ none
  get-past [] i h = refl
  get-past (y ∷ l) zero h = absurd (not-suc-le-zero h)
  get-past (y ∷ l) (suc i) h = get-past l i (le_of_suc-le-suc h)

  pub get-get_d : (l : List A) (i : ℕ) (d : A) → i < length l → get_elem? l i ≡ some (slice_index_or l i d)
  get-get_d [] i d h = absurd (not-suc-le-zero h)
  get-get_d (y ∷ l) zero d h = refl
  get-get_d (y ∷ l) (suc i) d h = get-get_d l i d (le_of_suc-le-suc h)

  pub get_d-get : (l : List A) (i : ℕ) (d : A) {x : A} → get_elem? l i ≡ some x → slice_index_or l i d ≡ x
  get_d-get l i d {x} e = some-injective (slice_index_or l i d) x (sym (get-get_d l i d (get-below l i e)) ∙ e)

  -- within the list the default does not matter
  pub get_d_default : (l : List A) (i : ℕ) (d e : A) → i < length l → slice_index_or l i d ≡ slice_index_or l i e
  get_d_default l i d e h = get_d-get l i d (get-get_d l i e h)

  -- a list of one element over and over reads as that element, past its end too
  pub get_d-replicate-same : (n i : ℕ) (x : A) → slice_index_or (replicate n x) i x ≡ x
  get_d-replicate-same zero i x = refl
  get_d-replicate-same (suc n) zero x = refl
  get_d-replicate-same (suc n) (suc i) x = get_d-replicate-same n i x

  pub drop-none : (l : List A) → l ≡ drop 0 l
  drop-none [] = refl
  drop-none (x ∷ l) = refl

  -- ---- an element of a list after a store, of an append, and of a map

  pub get_set_same : (l : List A) (i : ℕ) (a : A) → i < length l → get_elem? (slice_set l i a) i ≡ some a
  get_set_same [] i a h = absurd (not-suc-le-zero h)
  get_set_same (y ∷ l) zero a h = refl
  get_set_same (y ∷ l) (suc i) a h = get_set_same l i a (le_of_suc-le-suc h)

  pub get_set_other : (l : List A) (i j : ℕ) (a : A) → j ≢ i → get_elem? (slice_set l i a) j ≡ get_elem? l j
  get_set_other [] i j a n = refl
  get_set_other (y ∷ l) zero zero a n = absurd (n refl)
  get_set_other (y ∷ l) zero (suc j) a n = refl
  get_set_other (y ∷ l) (suc i) zero a n = refl
  get_set_other (y ∷ l) (suc i) (suc j) a n = get_set_other l i j a (λ e. n (ap suc e))

  pub get-append-left : (s t : List A) (i : ℕ) → i < length s → get_elem? (s ++ t) i ≡ get_elem? s i
  get-append-left [] t i h = absurd (not-suc-le-zero h)
  get-append-left (y ∷ s) t zero h = refl
  get-append-left (y ∷ s) t (suc i) h = get-append-left s t i (le_of_suc-le-suc h)

  pub get-append-right : (s t : List A) (j : ℕ) → get_elem? (s ++ t) (length s + j) ≡ get_elem? t j
  get-append-right [] t j = ap (get_elem? t) (zero-add j)
  get-append-right (y ∷ s) t j = ap (get_elem? (y ∷ s ++ t)) (suc-add (length s) j) ∙ get-append-right s t j

  -- what is in a list is in it after more is appended
  pub get-append : (s t : List A) (i : ℕ) {x : A} → get_elem? s i ≡ some x → get_elem? (s ++ t) i ≡ some x
  get-append s t i e = get-append-left s t i (get-below s i e) ∙ e

  -- an element of an append is in the left list, or in the right one
  pub data Side (s t : List A) : ℕ → A → Type 0 where
    left : {i : ℕ} {x : A} → get_elem? s i ≡ some x → Side s t i x
    right : {x : A} (j : ℕ) → get_elem? t j ≡ some x → Side s t (length s + j) x

  side-suc : {s t : List A} {i : ℕ} {x y : A} → Side s t i x → Side (y ∷ s) t (suc i) x
  side-suc (left e) = left e
  side-suc {s} {t} {x} {y} (right j e) = subst (λ (n : ℕ). Side (y ∷ s) t n x) (suc-add (length s) j) (right j e)

  pub side : (s t : List A) (i : ℕ) {x : A} → get_elem? (s ++ t) i ≡ some x → Side s t i x
  side [] t i {x} e = subst (λ (n : ℕ). Side [] t n x) (zero-add i) (right i e)
  side (y ∷ s) t zero e = left e
  side (y ∷ s) t (suc i) e = side-suc (side s t i e)

module _ {A B : Type 0} (f : A → B) where
  pub get-map : (l : List A) (i : ℕ) {x : A} → get_elem? l i ≡ some x → get_elem? (map f l) i ≡ some (f x)
  get-map [] i {x} e = absurd (none-ne-some x e)
  get-map (y ∷ l) zero {x} e = ap (λ (z : A). some (f z)) (some-injective y x e)
  get-map (y ∷ l) (suc i) e = get-map l i e

  -- what is in a mapped list is an image
  pub map_get : (l : List A) (i : ℕ) {y : B} → get_elem? (map f l) i ≡ some y → (x : A) × (get_elem? l i ≡ some x) × (f x ≡ y)
  map_get [] i {y} e = absurd (none-ne-some y e)
  map_get (x ∷ l) zero {y} e = (x, refl, some-injective (f x) y e)
  map_get (x ∷ l) (suc i) e = map_get l i e

  pub map-set : (l : List A) (i : ℕ) (a : A) → map f (slice_set l i a) ≡ slice_set (map f l) i (f a)
  map-set [] i a = refl
  map-set (x ∷ l) zero a = refl
  map-set (x ∷ l) (suc i) a = ap (λ (r : List B). f x ∷ r) (map-set l i a)

-- ---- a predicate that holds of every element

module _ {A : Type 0} {P : A → Type 0} where
  pub all-at : {l : List A} (i : ℕ) {x : A} → All P l → get_elem? l i ≡ some x → P x
  all-at i {x} all_nil e = absurd (none-ne-some x e)
  all-at zero {x} (all_cons {x = y} p h) e = subst P (some-injective y x e) p
  all-at (suc i) (all_cons p h) e = all-at i h e

  -- a predicate of each element is one of all
  pub all_of : (l : List A) → ((i : ℕ) (x : A) → get_elem? l i ≡ some x → P x) → All P l
  all_of [] f = all_nil
  all_of (x ∷ l) f = all_cons (f zero x refl) (all_of l (λ i y e. f (suc i) y e))

  pub all_set : {l : List A} (i : ℕ) {a : A} → All P l → P a → All P (slice_set l i a)
  all_set i all_nil q = all_nil
  all_set zero (all_cons p h) q = all_cons q h
  all_set (suc i) (all_cons p h) q = all_cons p (all_set i h q)

  pub all_append : {s t : List A} → All P s → All P t → All P (s ++ t)
  all_append all_nil q = q
  all_append (all_cons p h) q = all_cons p (all_append h q)

  pub all_replicate : (n : ℕ) (a : A) → P a → All P (replicate n a)
  all_replicate zero a p = all_nil
  all_replicate (suc n) a p = all_cons p (all_replicate n a p)

pub all-weaken : {A : Type 0} {P Q : A → Type 0} → ((x : A) → P x → Q x) → {l : List A} → All P l → All Q l
all-weaken f all_nil = all_nil
all-weaken f (all_cons {x = x} p h) = all_cons (f x p) (all-weaken f h)

-- ---- a relation between two lists, element by element

pub data All2 {A B : Type 0} (R : A → B → Type 0) : List A → List B → Type 0 where
  all2-nil : All2 R [] []
  all2-cons : {a : A} {b : B} {xs : List A} {ys : List B} → R a b → All2 R xs ys → All2 R (a ∷ xs) (b ∷ ys)

-- the element at index i of xs, which R relates to b
pub record RelatedAt {A B : Type 0} (R : A → B → Type 0) (xs : List A) (i : ℕ) (b : B) : Type 0 where
  pub item : A
  pub at : get_elem? xs i ≡ some item
  pub holds : R item b

module _ {A B : Type 0} {R : A → B → Type 0} where
  pub all2-at : {xs : List A} {ys : List B} (i : ℕ) {b : B} → All2 R xs ys → get_elem? ys i ≡ some b → RelatedAt R xs i b
  all2-at i {b} all2-nil e = absurd (none-ne-some b e)
  all2-at zero {b} (all2-cons {a = x} {b = y} r h) e = record { item = x; at = refl; holds = subst (R x) (some-injective y b e) r }
  all2-at (suc i) (all2-cons r h) e = let w = all2-at i h e in record { item = w.item; at = w.at; holds = w.holds }

  -- with the two lists exchanged: `all2-at` then looks up by the left one
  pub all2-swap : {xs : List A} {ys : List B} → All2 R xs ys → All2 (λ (b : B) (a : A). R a b) ys xs
  all2-swap all2-nil = all2-nil
  all2-swap (all2-cons r h) = all2-cons r (all2-swap h)

  -- a store on the left of what the right list's element allows
  pub all2-set : {xs : List A} {ys : List B} (i : ℕ) {a : A} {b : B} → All2 R xs ys → get_elem? ys i ≡ some b → R a b
      → All2 R (slice_set xs i a) ys
  all2-set i all2-nil e q = all2-nil
  all2-set zero {a} {b} (all2-cons {b = y} r h) e q = all2-cons (subst (R a) (sym (some-injective y b e)) q) h
  all2-set (suc i) (all2-cons r h) e q = all2-cons r (all2-set i h e q)

  pub all2-set-both : {xs : List A} {ys : List B} (i : ℕ) {a : A} {b : B} → All2 R xs ys → R a b → All2 R (slice_set xs i a) (slice_set ys i b)
  all2-set-both i all2-nil q = all2-nil
  all2-set-both zero (all2-cons r h) q = all2-cons q h
  all2-set-both (suc i) (all2-cons r h) q = all2-cons r (all2-set-both i h q)

  pub all2-append : {xs xs' : List A} {ys ys' : List B} → All2 R xs ys → All2 R xs' ys' → All2 R (xs ++ xs') (ys ++ ys')
  all2-append all2-nil q = q
  all2-append (all2-cons r h) q = all2-cons r (all2-append h q)

  pub all2-length : {xs : List A} {ys : List B} → All2 R xs ys → length xs ≡ length ys
  all2-length all2-nil = refl
  all2-length (all2-cons r h) = ap suc (all2-length h)

  pub all2-replicate : (n : ℕ) (a : A) (b : B) → R a b → All2 R (replicate n a) (replicate n b)
  all2-replicate zero a b r = all2-nil
  all2-replicate (suc n) a b r = all2-cons r (all2-replicate n a b r)

  pub all2-map : {C : Type 0} (f : C → A) (g : C → B) → ((c : C) → R (f c) (g c)) → (cs : List C) → All2 R (map f cs) (map g cs)
  all2-map f g r [] = all2-nil
  all2-map f g r (c ∷ cs) = all2-cons (r c) (all2-map f g r cs)

pub all2-weaken : {A B : Type 0} {R S : A → B → Type 0} → ((a : A) (b : B) → R a b → S a b) → {xs : List A} {ys : List B} → All2 R xs ys
    → All2 S xs ys
all2-weaken f all2-nil = all2-nil
all2-weaken f (all2-cons {a = a} {b = b} r h) = all2-cons (f a b r) (all2-weaken f h)
