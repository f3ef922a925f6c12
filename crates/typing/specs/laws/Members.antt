-- In a table whose chains end, the look-ups along a class's chain find what the rules say: its subtypes, its methods, its fields and the
-- meaning of names. Each holds by climbing the chain.
use Rattle.std.specs.Prelude.{ℕ, ◌≡◌, refl, List, [], ◌∷◌, ◌++◌, true, false, length}
use Rattle.std.proofs.Common.{sym, ap, ◌∙◌, subst, inl, inr}
use Rattle.std.proofs.lemmas.Bool.{false≢true}
use Rattle.std.proofs.Math.Bool.{or-true}
use Rattle.std.proofs.Math.Option.{Option, none, some}
use Rattle.std.proofs.Math.ListN.{get_elem?}
use Rattle.base.specs.Choice.{option}
use Rattle.base.specs.Bytes.{same}
use Rattle.base.specs.laws.Lists.{get-append, get-append-right}
use Rattle.parser.specs.Tree.{Element, Element.int, Element.boolean, Element.fixed, Element.class, Ty, Ty.plain, Ty.array_of, Variable, Class}
use Rattle.typesystem.specs.ClassTable.{Slot, Found, Context, Meaning, Meaning.of_row, Meaning.of_object, moved, class_named, method_named_lem, variable_named, chain, same_element, among, on_chain_lem, fits, layout, fields_of, nearest_field, nearest_method, method_of, meaning, meaning_type}
use Rattle.typesystem.specs.TypingRules.{Extends, extends, Sub, sub_same, sub-extends, sub_trans, Ends, HasMethod, own-method, inherited-method, HasField, own-field, inherited-field, HasName, of-variable, of_field, type_of, class_name}
use Rattle.base.specs.laws.Tests.{or-either, same-equal, same_of}
use Rattle.typing.specs.laws.Tests.{same_element-equal, same_element-refl}
use Rattle.typing.specs.laws.Choices.{taken, held, none-some}
use Rattle.typing.specs.laws.Chains.{class-name, ends-known, ends-up, Acyclic, Chain, chain-none, chain-top, chain_more, chain-is, chain_head, chain-tail}

-- SUBTYPES

-- d is c or stands above it
pub data Up (G : List Class) : (c d : List ℕ) → Type 0 where
  up-here : {c : List ℕ} → Up G c c
  up_more : {c d e : List ℕ} → Extends G c d → Up G d e → Up G c e

pub up-trans : {G : List Class} {c d e : List ℕ} → Up G c d → Up G d e → Up G c e
up-trans up-here q = q
up-trans (up_more x p) q = up_more x (up-trans p q)

-- a subtype is the type itself or a class below a class
pub data Fit (G : List Class) : Ty → Ty → Type 0 where
  fit_same : {t : Ty} → Fit G t t
  fit-up : {c d : List ℕ} → Up G c d → Fit G (plain (class c)) (plain (class d))

fit-trans : {G : List Class} {s t u : Ty} → Fit G s t → Fit G t u → Fit G s u
fit-trans fit_same q = q
fit-trans (fit-up p) fit_same = fit-up p
fit-trans (fit-up p) (fit-up q) = fit-up (up-trans p q)

pub sub_fit : {G : List Class} {s t : Ty} → Sub G s t → Fit G s t
sub_fit sub_same = fit_same
sub_fit (sub-extends x) = fit-up (up_more x up-here)
sub_fit (sub_trans p q) = fit-trans (sub_fit p) (sub_fit q)

pub up-sub : {G : List Class} {c d : List ℕ} → Up G c d → Sub G (plain (class c)) (plain (class d))
up-sub up-here = sub_same
up-sub (up_more x p) = sub_trans (sub-extends x) (up-sub p)

-- a type that is no class
abbrev pub Exact : Ty → Type 0
Exact (plain int) = Unit {0}
Exact (plain boolean) = Unit {0}
Exact (plain fixed) = Unit {0}
Exact (plain (class c)) = ⊥
Exact (array_of t) = Unit {0}

fit-exact : {G : List Class} {s t : Ty} → Fit G s t → Exact t → s ≡ t
fit-exact fit_same p = refl
fit-exact (fit-up u) p = absurd p

-- nothing but itself fits it
pub sub-exact : {G : List Class} {s t : Ty} → Exact t → Sub G s t → s ≡ t
sub-exact p h = fit-exact (sub_fit h) p

named-up : {G : List Class} {c d : List ℕ} {k : Class} → class_named G c ≡ some k → same (class_name k) d ≡ true → Up G c d
named-up {G} {c} {d} {k} e s = subst (Up G c) (sym (class-name G c e) ∙ same-equal (class_name k) d s) up-here

-- the classes on a chain are those above its class
among-up : {G : List Class} {c : List ℕ} (d : List ℕ) {ks : List Class} → Chain G c ks → among d ks ≡ true → Up G c d
unfolding among
among-up d (chain-none e) h = absurd (false≢true h)
among-up d (chain-top {k = k} e p) h = elim (or-either (same (class_name k) d) false h) [ inl s ↦ named-up e s | inr f ↦ absurd (false≢true f) ]
among-up d (chain_more {k = k} {ks = ks} e x t) h = elim (or-either (same (class_name k) d) (among d ks) h) [ inl s ↦ named-up e s | inr q ↦ up_more x (among-up d t q) ]

up-among : {G : List Class} {c d : List ℕ} {ks : List Class} → Ends G c → Up G c d → Chain G c ks → among d ks ≡ true
unfolding among
up-among {G} {c} {ks = ks} n up-here t =
    let k = ends-known n in
    let l = chain_head t k.1 in
    rw (l.1, same_of (class-name G c k.1))
up-among {c} {d} n (up_more (extends e p q) u) t =
    let l = chain-tail t e (extends e p q) in
    rw (l.1, up-among (ends-up n (extends e p q)) u l.2, or-true)

along-sub : {G : List Class} → Acyclic G → (s t : Element) → on_chain_lem G s t ≡ true → Sub G (plain s) (plain t)
unfolding on_chain_lem
along-sub A int t h = absurd (false≢true h)
along-sub A boolean t h = absurd (false≢true h)
along-sub A fixed t h = absurd (false≢true h)
along-sub A (class c) int h = absurd (false≢true h)
along-sub A (class c) boolean h = absurd (false≢true h)
along-sub A (class c) fixed h = absurd (false≢true h)
along-sub A (class c) (class d) h = up-sub (among-up d (chain-is A c) h)

pub fits_sub : {G : List Class} → Acyclic G → (s t : Ty) → fits G s t ≡ true → Sub G s t
unfolding fits
fits_sub {G} A (plain s) (plain t) h =
    elim (or-either (same_element s t) (on_chain_lem G s t) h)
    [ inl e ↦ subst (λ u. Sub G (plain s) (plain u)) (same_element-equal s t e) sub_same | inr e ↦ along-sub A s t e ]
fits_sub A (plain s) (array_of t) h = absurd (false≢true h)
fits_sub A (array_of s) (plain t) h = absurd (false≢true h)
fits_sub {G} A (array_of s) (array_of t) h = subst (λ u. Sub G (array_of s) (array_of u)) (same_element-equal s t h) sub_same

-- a type fits itself
pub fits-refl : (G : List Class) (t : Ty) → fits G t t ≡ true
unfolding fits
fits-refl G (plain t) = rw (same_element-refl t)
fits-refl G (array_of t) = same_element-refl t

fit-fits : {G : List Class} {s t : Ty} → Acyclic G → Fit G s t → fits G s t ≡ true
unfolding fits on_chain_lem
fit-fits {G} A (fit_same {t = t}) = fits-refl G t
fit-fits {G} A (fit-up {c = c} up-here) = fits-refl G (plain (class c))
fit-fits A (fit-up {c = c} (up_more (extends e p q) u)) = rw (up-among (A.ends c e) (up_more (extends e p q) u) (chain-is A c), or-true)

pub sub-fits : {G : List Class} {s t : Ty} → Acyclic G → Sub G s t → fits G s t ≡ true
sub-fits A h = fit-fits A (sub_fit h)

-- METHODS

-- the class's own method, else what the classes above give
method-either : {G : List Class} {c : List ℕ} {k : Class} {F : Found} (m : List ℕ) (above : Option Found) → class_named G c ≡ some k
    → (method_named_lem k.methods m ≡ none → above ≡ some F → HasMethod G c m F)
    → option (method_named_lem k.methods m) above (λ x. some (record { owner = k.name.text; method = x })) ≡ some F → HasMethod G c m F
method-either {G} {c} {k} {F} m above e f h =
    held (method_named_lem k.methods m) h f
    (λ x q r. let z : record { owner = k.name.text; method = x } ≡ F = cc in subst (HasMethod G c m) z (own-method e q))

pub method-found : {G : List Class} {c : List ℕ} {ks : List Class} (m : List ℕ) {F : Found} → Chain G c ks → nearest_method ks m ≡ some F
    → HasMethod G c m F
unfolding nearest_method
method-found m (chain-none e) h = absurd (none-some refl h)
method-found m (chain-top e p) h = method-either m none e (λ q r. absurd (none-some refl r)) h
method-found m (chain_more {ks = ks} e x t) h =
    method-either m (nearest_method ks m) e (λ q r. inherited-method e q x (method-found m t r)) h

pub method-nearest : {G : List Class} {c m : List ℕ} {ks : List Class} {F : Found} → Chain G c ks → HasMethod G c m F
    → nearest_method ks m ≡ some F
unfolding nearest_method
method-nearest t (own-method e x) = let l = chain_head t e in rw (l.1, x)
method-nearest t (inherited-method e x y h) = let l = chain-tail t e y in rw (l.1, x) (method-nearest l.2 h)

pub method_of-has : {G : List Class} → Acyclic G → (c m : List ℕ) {F : Found} → method_of G c m ≡ some F → HasMethod G c m F
unfolding method_of
method_of-has A c m h = method-found m (chain-is A c) h

pub has-method_of : {G : List Class} {c m : List ℕ} {F : Found} → Acyclic G → HasMethod G c m F → method_of G c m ≡ some F
unfolding method_of
has-method_of {c = c} A h = method-nearest (chain-is A c) h

-- FIELDS

-- the variable in a list that a slot tells of
pub record StandsAt (vs : List Variable) (s : Slot) : Type 0 where
  pub item : Variable
  pub at : get_elem? vs s.place ≡ some item
  pub has : type_of item ≡ s.type

pub stands-before : {vs : List Variable} {s : Slot} (ws : List Variable) → StandsAt vs s → StandsAt (vs ++ ws) s
stands-before {vs} {s} ws h = record { item = h.item; at = get-append vs ws s.place h.at; has = h.has }

stands_after : (us : List Variable) {vs : List Variable} {s : Slot} → StandsAt vs s → StandsAt (us ++ vs) (moved (length us) s)
stands_after us {vs} {s} h = record { item = h.item; at = get-append-right us vs s.place ∙ h.at; has = h.has }

pub variable-stands : (vs : List Variable) (x : List ℕ) {s : Slot} → variable_named vs x ≡ some s → StandsAt vs s
unfolding variable_named
variable-stands [] x e = absurd (none-some refl e)
variable-stands (v ∷ vs) x {s} e =
    taken (same v.name.text x) _ _ e
    (λ t q.
    let w : record { place = 0; type = v.type.type } ≡ s = cc in
    subst (StandsAt (v ∷ vs)) w (record { item = v; at = refl; has = refl }))
    (λ t q. held (variable_named vs x) q (λ n z. absurd (none-some refl z)) (λ r p z.
    let w : moved 1 r ≡ s = cc in
    subst (StandsAt (v ∷ vs)) w (stands_after (v ∷ []) (variable-stands vs x p))))

-- the variable that the nearest field's slot tells of
field-stands : (ks : List Class) (x : List ℕ) {s : Slot} → nearest_field ks x ≡ some s → StandsAt (layout ks) s
unfolding nearest_field layout
field-stands [] x e = absurd (none-some refl e)
field-stands (k ∷ ks) x {s} e =
    held (variable_named k.fields x) e (λ n z. stands-before k.fields (field-stands ks x z)) (λ r q z.
    let w : moved (length (layout ks)) r ≡ s = cc in
    subst (StandsAt (layout ks ++ k.fields)) w (stands_after (layout ks) (variable-stands k.fields x q)))

-- the class's own field, else what the classes above give
field-either : {G : List Class} {c x : List ℕ} {k : Class} {s : Slot} (n : ℕ) (above : Option Slot) → class_named G c ≡ some k
    → (variable_named k.fields x ≡ none → above ≡ some s → HasField G c x s.type)
    → option (variable_named k.fields x) above (λ s. some (moved n s)) ≡ some s → HasField G c x s.type
field-either {x = x} {k = k} {s = s} n above e f h =
    held (variable_named k.fields x) h f (λ r q z. let y : moved n r ≡ s = cc in own-field e q (ap (λ (s : Slot). s.type) y))

pub field_found : {G : List Class} {c : List ℕ} {ks : List Class} (x : List ℕ) {s : Slot} → Chain G c ks → nearest_field ks x ≡ some s
    → HasField G c x s.type
unfolding nearest_field
field_found x (chain-none e) h = absurd (none-some refl h)
field_found x (chain-top e p) h = field-either _ none e (λ q r. absurd (none-some refl r)) h
field_found x (chain_more {ks = ks} e y t) h = field-either _ (nearest_field ks x) e (λ q r. inherited-field e q y (field_found x t r)) h

pub field-nearest : {G : List Class} {c x : List ℕ} {ks : List Class} {t : Ty} → Chain G c ks → HasField G c x t
    → (s : Slot) × (nearest_field ks x ≡ some s) × (s.type ≡ t)
unfolding nearest_field
field-nearest l (own-field {x = y} {s = s} e x q) = let h = chain_head l e in (moved (length (layout h.0)) s, ap (λ (ks : List Class). nearest_field ks y) h.1 ∙ rw x, q)
field-nearest l (inherited-field {x = z} e x y h) =
    let w = chain-tail l e y in
    let f = field-nearest w.2 h in
    (f.0, ap (λ (ks : List Class). nearest_field ks z) w.1 ∙ rw x f.1, f.2)

-- NAMES

pub meaning-has : {G : List Class} → Acyclic G → (Γ : Context) (x : List ℕ) {m : Meaning} → meaning G Γ x ≡ some m
    → HasName G Γ x (meaning_type m)
unfolding meaning
meaning-has {G} A Γ x {m} h =
    held (variable_named Γ.variables x) h
    (λ n r. held Γ.owner r (λ _ q. absurd (none-some refl q)) (λ c o q.
    held (nearest_field (chain G c) x) q (λ _ i. absurd (none-some refl i)) (λ s f i.
    let z : of_object s ≡ m = cc in
    rw (← z) (of_field n o (field_found x (chain-is A c) f)))))
    (λ s q r. let z : of_row s ≡ m = cc in rw (← z) (of-variable q refl))

-- where the value of a name is kept: at a place among the variables, or among the fields of the declaring class
pub data NameAt (G : List Class) (Γ : Context) (x : List ℕ) (t : Ty) : Type 0 where
  in_row : (s : Slot) → meaning G Γ x ≡ some (of_row s) → StandsAt Γ.variables s → s.type ≡ t → NameAt G Γ x t
  in-object : (c : List ℕ) (s : Slot) → Γ.owner ≡ some c → meaning G Γ x ≡ some (of_object s) → StandsAt (fields_of G c) s → s.type ≡ t
      → NameAt G Γ x t

pub name-at : {G : List Class} {Γ : Context} {x : List ℕ} {t : Ty} → Acyclic G → HasName G Γ x t → NameAt G Γ x t
unfolding meaning fields_of
name-at {Γ = Γ} {x = x} A (of-variable {s = s} e q) = in_row s (rw e) (variable-stands Γ.variables x e) q
name-at {G} {x = x} A (of_field {c = c} e o h) =
    let f = field-nearest (chain-is A c) h in
    in-object c f.0 o (rw (e, o, f.1)) (field-stands (chain G c) x f.1) f.2

pub has-meaning : {G : List Class} {Γ : Context} {x : List ℕ} {t : Ty} → Acyclic G → HasName G Γ x t
    → (m : Meaning) × (meaning G Γ x ≡ some m) × (meaning_type m ≡ t)
has-meaning {G} {Γ} {x} {t} A h = go (name-at A h)
  where
    go : NameAt G Γ x t → (m : Meaning) × (meaning G Γ x ≡ some m) × (meaning_type m ≡ t)
    go (in_row s e w q) = (of_row s, e, q)
    go (in-object c s o e w q) = (of_object s, e, q)
