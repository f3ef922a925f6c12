-- Laws on chains: a chain, step by step; and every class of it, and a method found on it, stand in the table.
use Rattle.std.specs.Prelude.{ℕ, zero, suc, ◌-◌, ◌≡◌, refl, List, [], ◌∷◌}
use Rattle.std.proofs.Common.{arith, ap, subst}
use Rattle.std.proofs.Math.Option.{Option, none, some}
use Rattle.base.specs.Choice.{option}
use Rattle.base.specs.All.{All, all_nil, all_cons}
use Rattle.lexer.specs.Tokens.{Token}
use Rattle.parser.specs.Tree.{Name, Class}
use Rattle.typesystem.specs.ClassTable.{Found, class_named, method_named_lem, chain_within, nearest_method}
use Rattle.typing.specs.laws.Choices.{held, none-some}
use Rattle.typing.specs.laws.Chains.{all-classes}
use Rattle.typing.specs.laws.ClassTableLaws.{all-methods}
use Rattle.lookup.specs.promises.HeldClasses.{MethodHeld, ClassHeld, ClassTableHeld, class_of, chain_from, parent_name}
use Rattle.lookup.specs.laws.HeldLaws.{all-stand, methods-stand}

pub chain-none-left : (G : List Class) (name : Option (List ℕ)) → chain_from 0 G name ≡ []
unfolding chain_within
chain-none-left G none = refl
chain-none-left G (some c) = refl

pub chain-none : (left : ℕ) (G : List Class) (name : Option (List ℕ)) → class_of G name ≡ none → chain_from left G name ≡ []
unfolding chain_within
chain-none left G none e = refl
chain-none zero G (some c) e = refl
chain-none (suc left) G (some c) e = rw e

up : (left : ℕ) (G : List Class) (p : Option Name) → option p [] (λ q. chain_within left G q.text) ≡ chain_from left G (parent_name p)
up left G none = refl
up left G (some q) = refl

pub chain-some : (left : ℕ) (G : List Class) (name : Option (List ℕ)) {k : Class} → (left ≡ 0 → ⊥) → class_of G name ≡ some k
    → chain_from left G name ≡ k ∷ chain_from (left - 1) G (parent_name k.parent)
unfolding chain_within
chain-some left G none n e = absurd (none-some refl e)
chain-some zero G (some c) n e = absurd (n refl)
chain-some (suc left) G (some c) {k} n e =
    let z : suc left - 1 ≡ left = omega arith in
    rw (e, z) (ap (λ (ks : List Class). k ∷ ks) (up left G k.parent))

-- every class of a chain stands in the table
pub chain-stands : {tab : List ℕ} {n : ℕ} {ts : List Token} {G : List Class} → ClassTableHeld tab n ts G → (left : ℕ) (c : List ℕ)
    → All (ClassHeld tab n ts) (chain_within left G c)
unfolding chain_within
chain-stands w zero c = all_nil
chain-stands {tab} {n} {ts} {G} w (suc left) c = here (chain-stands w left) (class_named G c) refl
  where
    above : ((d : List ℕ) → All (ClassHeld tab n ts) (chain_within left G d)) → (p : Option Name)
        → All (ClassHeld tab n ts) (option p [] λ q. chain_within left G q.text)
    above f none = all_nil
    above f (some q) = f q.text

    here : ((d : List ℕ) → All (ClassHeld tab n ts) (chain_within left G d)) → (o : Option Class) → class_named G c ≡ o
        → All (ClassHeld tab n ts) (option o [] λ k. k ∷ option k.parent [] λ q. chain_within left G q.text)
    here f none e = all_nil
    here f (some k) e = all_cons (all-classes c (all-stand w.classes) e) (above f k.parent)

-- METHODS

nearest-stands : {tab : List ℕ} {n : ℕ} {ts : List Token} {ks : List Class} (x : List ℕ) {F : Found} → All (ClassHeld tab n ts) ks
    → nearest_method ks x ≡ some F
    → MethodHeld tab n ts F.method
unfolding nearest_method
nearest-stands x all_nil e = absurd (none-some refl e)
nearest-stands {tab} {n} {ts} x {F = F} (all_cons {x = k} s h) e =
    held (method_named_lem k.methods x) e
    (λ _ q. nearest-stands x h q)
    (λ m z q. let w : m ≡ F.method = cc in subst (MethodHeld tab n ts) w (all-methods x (methods-stand s.methods) z))

-- a method that is found on a chain stands in the table
pub found-stands : {tab : List ℕ} {n : ℕ} {ts : List Token} {G : List Class} → ClassTableHeld tab n ts G
    → (left : ℕ) (name : Option (List ℕ)) (x : List ℕ) {F : Found}
    → nearest_method (chain_from left G name) x ≡ some F → MethodHeld tab n ts F.method
unfolding nearest_method
found-stands w left none x e = absurd (none-some refl e)
found-stands w left (some c) x e = nearest-stands x (chain-stands w left c) e
