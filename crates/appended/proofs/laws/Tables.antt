-- A class table G whose chains end, and G with more classes behind it: every look-up that finds something in G finds the same in both.
use Prim.Native.Nat.{ℕ, zero, suc, ◌≤◌}
use Rattle.std.proofs.Common.{not-suc-le-zero, le_of_suc-le-suc, arith}
use Rattle.std.specs.Prelude.{◌≡◌, ◌⊎◌, length}
use Rattle.std.proofs.Math.Path.{refl, ap}
use mathlib.Core.List.{List, [], ◌∷◌, ◌++◌}
use Rattle.std.proofs.Math.Bool.{true}
use Rattle.std.proofs.lemmas.Bool.{false≢true}
use Rattle.std.proofs.Math.Logic.{inl, inr}
use Rattle.std.proofs.Math.Option.{Option, none, some}
use Rattle.std.proofs.Math.ListN.{length-append}
use Rattle.base.specs.Choice.{option}
use Rattle.parser.specs.Tree.{Name, Class}
use Rattle.typesystem.specs.ClassTable.{Context, of_row, of_object, class_named, variable_named, chain_within, chain, ends_within}
use Rattle.typesystem.specs.ClassTable.{fields_of, layout, nearest_field, meaning}
use Rattle.typesystem.specs.TypingRules.{extends, Ends}
use Rattle.typesystem.specs.laws.Lookups.{named-kept}
use Rattle.typing.specs.laws.Chains.{Acyclic, ends-known, ends-up, ends-within}
use Rattle.semantics.specs.Machine.{search}

-- what is found stays; what is not found may be found
pub data AtLeast {A : Type 0} : Option A → Option A → Type 0 where
  at-least-none : {o : Option A} → AtLeast none o
  at-least-same : {o : Option A} → AtLeast o o

-- a look-up whose default may be found
at-least-option : {A B : Type 0} (o : Option A) {x y : Option B} (k : A → Option B) → AtLeast x y → AtLeast (option o x k) (option o y k)
at-least-option none k h = h
at-least-option (some a) k h = at-least-same

module _ (G H : List Class) where
  within-kept : (n m : ℕ) (c : List ℕ) → n ≤ m → Ends G c → ends_within n G c ≡ true → chain_within m (G ++ H) c ≡ chain_within n G c
  unfolding ends_within chain_within
  within-kept zero m c l E h = absurd (false≢true h)
  within-kept (suc n) zero c l E h = absurd (not-suc-le-zero l)
  within-kept (suc n) (suc m) c l E h =
      let w = ends-known E in
      rw (w.1, named-kept G H c w.1)
      (ap (λ (ks : List Class). w.0 ∷ ks)
      (above w.0.parent (rw w.1 at h)
      (λ p q i. within-kept n m p.text (le_of_suc-le-suc l) (ends-up E (extends w.1 q refl)) i)))
    where
      above : (o : Option Name) → option o true (λ p. ends_within n G p.text) ≡ true
          → ((p : Name) → o ≡ some p → ends_within n G p.text ≡ true → chain_within m (G ++ H) p.text ≡ chain_within n G p.text)
          → option o [] (λ p. chain_within m (G ++ H) p.text) ≡ option o [] (λ p. chain_within n G p.text)
      above none i f = refl
      above (some p) i f = f p refl i

  none-chain : (n : ℕ) (c : List ℕ) → class_named G c ≡ none → chain_within n G c ≡ []
  unfolding chain_within
  none-chain zero c e = refl
  none-chain (suc n) c e = rw e

  module _ (A : Acyclic G) where
    chain-kept : (c : List ℕ) {k : Class} → class_named G c ≡ some k → chain (G ++ H) c ≡ chain G c
    unfolding chain
    chain-kept c e =
        within-kept (length G) (length (G ++ H)) c (simp length-append (omega arith)) (A.ends c e) (ends-within (A.ends c e))

    -- a class has its chain, and a name that is no class's has none
    chain-either : (c : List ℕ) → (chain G c ≡ []) ⊎ (chain (G ++ H) c ≡ chain G c)
    unfolding chain
    chain-either c = go (class_named G c) refl
      where
        go : (o : Option Class) → class_named G c ≡ o → (chain G c ≡ []) ⊎ (chain (G ++ H) c ≡ chain G c)
        go none e = inl (none-chain (length G) c e)
        go (some k) e = inr (chain-kept c e)

    -- what is looked for along a chain, of which an empty one has nothing
    along : {B : Type 0} (f : List Class → Option B) (c : List ℕ) → f [] ≡ none → AtLeast (f (chain G c)) (f (chain (G ++ H) c))
    along f c e = elim (chain-either c) [
      | inl q ↦ rw (q, e) at-least-none
      | inr q ↦ rw q at-least-same
    ]

    -- the search for a method: what it finds, and how many classes it visits
    pub search-kept : (c m : List ℕ) → AtLeast (search (chain G c) m) (search (chain (G ++ H) c) m)
    unfolding search
    search-kept c m = along (λ ks. search ks m) c refl

    pub meaning-kept : (Γ : Context) (x : List ℕ) → AtLeast (meaning G Γ x) (meaning (G ++ H) Γ x)
    unfolding meaning nearest_field
    meaning-kept Γ x = at-least-option (variable_named Γ.variables x) (λ s. some (of_row s)) (owned Γ.owner)
      where
        owned : (o : Option (List ℕ)) → AtLeast (option o none λ c. option (nearest_field (chain G c) x) none λ s. some (of_object s))
            (option o none λ c. option (nearest_field (chain (G ++ H) c) x) none λ s. some (of_object s))
        owned none = at-least-none
        owned (some c) = along (λ ks. option (nearest_field ks x) none λ s. some (of_object s)) c refl

    pub fields-kept : (c : List ℕ) {k : Class} → class_named G c ≡ some k → fields_of (G ++ H) c ≡ fields_of G c
    unfolding fields_of
    fields-kept c e = ap layout (chain-kept c e)
