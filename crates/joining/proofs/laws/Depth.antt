-- Moving places changes no depth.
use Rattle.std.specs.Prelude.{ℕ, ◌+◌, ◌≡◌, refl, Bool, true, false, ltb}
use mathlib.Core.List.{List, [], ◌∷◌, ◌++◌, map}
use Rattle.std.proofs.Math.Option.{Option, none, some}
use Rattle.base.specs.Choice.{if◌then◌otherwise◌}
use Rattle.base.specs.Codes.{depth_most}
use Rattle.base.specs.laws.Tests.{apart}
use Rattle.parser.specs.Tree.{Place, Sort, Part, Method, Class}
use Rattle.parser.specs.Tree.{Part.literal, Part.truth, Part.variable, Part.this, Part.new_array_lem, Part.new_object_lem, Part.negation, Part.binary}
use Rattle.parser.specs.Tree.{Part.element, Part.array_length, Part.call, Part.port_get_lem, Part.no_arguments, Part.argument}
use Rattle.parser.specs.Tree.{Part.block, Part.conditional, Part.loop, Part.print, Part.assign, Part.assign_element_lem, Part.port_put_lem}
use Rattle.parser.specs.Tree.{Part.no_statements, Part.sequence}
use Rattle.parser.specs.Measure.{least, deep_here, deep, methods_deep, classes_deep}
use Rattle.appended.specs.Moved.{move_place, move, move_method}

-- two positions, or none
pub data BothDeep : Option ℕ → Option ℕ → Type 0 where
  neither : BothDeep none none
  each : {a b : ℕ} → BothDeep (some a) (some b)

pub both-least : {a b c d : Option ℕ} → BothDeep a b → BothDeep c d → BothDeep (least a c) (least b d)
both-least neither q = q
both-least each neither = each
both-least each each = each

here : (d : ℕ) (p q : Place) → BothDeep (deep_here d p) (deep_here d q)
here d p q = go (ltb depth_most d)
  where
    go : (b : Bool) → BothDeep (if b then (λ _. some p.start) otherwise λ _. none) (if b then (λ _. some q.start) otherwise λ _. none)
    go true = each
    go false = neither

pub none-too : {a b : Option ℕ} → BothDeep a b → a ≡ none → b ≡ none
none-too neither e = refl
none-too each e = apart (cc)

module _ (f g : ℕ → ℕ) where
  -- a node and its place moved
  node : (d : ℕ) (p : Place) {a b : Option ℕ} → BothDeep a b → BothDeep (least (deep_here d p) a) (least (deep_here d (move_place f g p)) b)
  node d p h = both-least (here d p (move_place f g p)) h

  deep-moved : (d : ℕ) {s : Sort} (t : Part s) → BothDeep (deep d t) (deep d (move f g t))
  unfolding deep
  deep-moved d (literal p x) = here d p (move_place f g p)
  deep-moved d (truth p b) = here d p (move_place f g p)
  deep-moved d (variable p x) = here d p (move_place f g p)
  deep-moved d (this p) = here d p (move_place f g p)
  deep-moved d (new_array_lem p u e) = node d p (deep-moved (d + 1) e)
  deep-moved d (new_object_lem p c) = here d p (move_place f g p)
  deep-moved d (negation p e) = node d p (deep-moved (d + 1) e)
  deep-moved d (binary p o l r) = node d p (both-least (deep-moved (d + 1) l) (deep-moved (d + 1) r))
  deep-moved d (element p a i) = node d p (both-least (deep-moved (d + 1) a) (deep-moved (d + 1) i))
  deep-moved d (array_length p a) = node d p (deep-moved (d + 1) a)
  deep-moved d (call p e m es) = node d p (both-least (deep-moved (d + 1) e) (deep-moved (d + 1) es))
  deep-moved d (port_get_lem p e) = node d p (deep-moved (d + 1) e)
  deep-moved d no_arguments = neither
  deep-moved d (argument e es) = both-least (deep-moved d e) (deep-moved d es)
  deep-moved d (block p ss) = node d p (deep-moved (d + 1) ss)
  deep-moved d (conditional p e s t) =
      node d p (both-least (deep-moved (d + 1) e) (both-least (deep-moved (d + 1) s) (deep-moved (d + 1) t)))
  deep-moved d (loop p e s) = node d p (both-least (deep-moved (d + 1) e) (deep-moved (d + 1) s))
  deep-moved d (print p e) = node d p (deep-moved (d + 1) e)
  deep-moved d (assign p x e) = node d p (deep-moved (d + 1) e)
  deep-moved d (assign_element_lem p x i e) = node d p (both-least (deep-moved (d + 1) i) (deep-moved (d + 1) e))
  deep-moved d (port_put_lem p n e) = node d p (both-least (deep-moved (d + 1) n) (deep-moved (d + 1) e))
  deep-moved d no_statements = neither
  deep-moved d (sequence s ss) = both-least (deep-moved d s) (deep-moved d ss)

  pub methods-moved : (ms : List Method) → BothDeep (methods_deep ms) (methods_deep (map (move_method f g) ms))
  unfolding methods_deep
  methods-moved [] = neither
  methods-moved (m ∷ ms) = both-least (deep-moved 1 m.body) (both-least (deep-moved 1 m.value) (methods-moved ms))

-- none in all is none in each
pub least-none : (a b : Option ℕ) → least a b ≡ none → (a ≡ none) × (b ≡ none)
least-none none b e = (refl, e)
least-none (some a) none e = apart (cc)
least-none (some a) (some b) e = apart (cc)

pub none-least : {a b : Option ℕ} → a ≡ none → b ≡ none → least a b ≡ none
none-least {a} {b} p q = rw (p, q)

pub classes-none : (cs ks : List Class) → classes_deep cs ≡ none → classes_deep ks ≡ none → classes_deep (cs ++ ks) ≡ none
unfolding classes_deep
classes-none [] ks p q = q
classes-none (c ∷ cs) ks p q =
    let w = least-none (methods_deep c.methods) (classes_deep cs) p in none-least w.0 (classes-none cs ks w.1 q)
