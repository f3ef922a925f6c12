-- The search for a method finds what the rules look up (`method_of`), and visits no more classes than the table has: it goes up the same
-- chain, class by class, and counts them.
use Rattle.std.specs.Prelude.{ℕ, zero, suc, ◌+◌, ◌≤◌, List, [], ◌∷◌, ◌≡◌, length}
use Rattle.std.proofs.Common.{arith, ◌∙◌}
use Rattle.std.proofs.Math.Option.{Option, none, some, some-injective}
use Rattle.std.proofs.Math.Path.{refl, sym, ap}
use Rattle.base.specs.Choice.{option}
use Rattle.parser.specs.Tree.{Name, Method, Class}
use Rattle.typesystem.specs.ClassTable.{Found, class_named, method_named_lem, chain_within, chain, nearest_method, method_of}
use Rattle.typing.specs.laws.Choices.{none-some}
use Rattle.semantics.specs.Machine.{Climbed, from_above, search}

-- what was found, where anything was
abbrev found_in : Option (Climbed Found) → Option Found
found_in none = none
found_in (some s) = some s.found

same-found : (ks : List Class) (m : List ℕ) → found_in (search ks m) ≡ nearest_method ks m
unfolding search nearest_method
same-found [] m = refl
same-found (k ∷ ks) m = own (method_named_lem k.methods m) (same-found ks m)
  where
    beyond : (o : Option (Climbed Found)) → found_in (option o none λ c. some (from_above c)) ≡ found_in o
    beyond none = refl
    beyond (some c) = refl

    own : (x : Option Method) → found_in (search ks m) ≡ nearest_method ks m
        → found_in (option x (option (search ks m) none λ c. some (from_above c)) λ x. some (record { found = record { owner = k.name.text; method = x }; visits = 1 }))
        ≡ option x (nearest_method ks m) λ x. some (record { owner = k.name.text; method = x })
    own none e = beyond (search ks m) ∙ e
    own (some x) e = refl

module _ (G : List Class) (c m : List ℕ) where
  pub search-found : {s : Climbed Found} → search (chain G c) m ≡ some s → method_of G c m ≡ some s.found
  unfolding method_of
  search-found e = sym (same-found (chain G c) m) ∙ ap found_in e

  pub search-finds : {F : Found} → method_of G c m ≡ some F → (n : ℕ) × (search (chain G c) m ≡ some (record { found = F; visits = n }))
  unfolding method_of
  search-finds {F} e = go (search (chain G c) m) (same-found (chain G c) m ∙ e)
    where
      go : (o : Option (Climbed Found)) → found_in o ≡ some F → (n : ℕ) × (o ≡ some (record { found = F; visits = n }))
      go none q = absurd (none-some refl q)
      go (some s) q =
          (s.visits, let z : s.found ≡ F = some-injective s.found F q in λ i. some (record { found = z i; visits = s.visits }))

-- HOW MANY CLASSES

visits-few : (ks : List Class) (m : List ℕ) {s : Climbed Found} → search ks m ≡ some s → s.visits ≤ length ks
unfolding search
visits-few [] m e = absurd (none-some refl e)
visits-few (k ∷ ks) m {s} e = own (method_named_lem k.methods m) (λ u r. visits-few ks m r) e
  where
    beyond : (o : Option (Climbed Found)) → ((u : Climbed Found) → o ≡ some u → u.visits ≤ length ks)
        → (option o none λ c. some (from_above c)) ≡ some s
        → s.visits ≤ suc (length ks)
    beyond none f q = absurd (none-some refl q)
    beyond (some c) f q = let z : 1 + c.visits ≡ s.visits = ap visits_of (some-injective (from_above c) s q) in omega (arith, f c refl)
      where
        visits_of : Climbed Found → ℕ
        visits_of x = x.visits

    own : (x : Option Method) → ((u : Climbed Found) → search ks m ≡ some u → u.visits ≤ length ks)
        → (option x (option (search ks m) none λ c. some (from_above c)) λ x. some (record { found = record { owner = k.name.text; method = x }; visits = 1 })) ≡ some s
        → s.visits ≤ suc (length ks)
    own none f q = beyond (search ks m) f q
    own (some x) f q = let z : 1 ≡ s.visits = ap (λ (c : Climbed Found). c.visits) (some-injective _ s q) in omega arith

chain-few : (n : ℕ) (G : List Class) (c : List ℕ) → length (chain_within n G c) ≤ n
unfolding chain_within
chain-few zero G c = omega arith
chain-few (suc n) G c = go (class_named G c) (λ d. chain-few n G d)
  where
    upper : (o : Option Name) → ((d : List ℕ) → length (chain_within n G d) ≤ n) → length (option o [] λ p. chain_within n G p.text) ≤ n
    upper none f = omega arith
    upper (some p) f = f p.text

    go : (o : Option Class) → ((d : List ℕ) → length (chain_within n G d) ≤ n)
        → length (option o [] λ k. k ∷ option k.parent [] λ p. chain_within n G p.text) ≤ suc n
    go none f = omega arith
    go (some k) f = omega (arith, upper k.parent f)

-- the search visits at most as many classes as the table has
pub search-few : (G : List Class) (c m : List ℕ) {s : Climbed Found} → search (chain G c) m ≡ some s → s.visits ≤ length G
unfolding chain
search-few G c m e = omega (arith, visits-few (chain G c) m e, chain-few (length G) G c)
