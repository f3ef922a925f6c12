-- Document 02, (iii): "22 now stands at the first class in the lesson whose chain never ends". It holds since the test of the chains
-- decides the rules' `Ends` class by class (laws/Agreement).
use Rattle.std.specs.Prelude.{◌≡◌, refl, ◌∷◌, map}
use Rattle.base.specs.All.{All, FirstNot}
use Rattle.base.specs.Codes.{chain_endless}
use Rattle.base.specs.Outcome.{refused}
use Rattle.parser.specs.Tree.{Class, Program}
use Rattle.typesystem.specs.Check.{judged}
use Rattle.typesystem.specs.TypingRules.{ParentKnown, ChainEnds, Distinct, class_name}
use Rattle.typing.specs.laws.Distinctness.{distinct-rest}
use Rattle.typing.specs.laws.Programs.{names-complete, parents-complete}
use Rattle.typing.specs.laws.Agreement.{endless-agrees}

-- Check refuses a program whose classes have distinct names and known parents with 22, at the first class whose chain does not end.
pub endless-refused : (p : Program) → Distinct (p.main.text ∷ map class_name p.classes) → All (ParentKnown p.classes) p.classes
    → (k : Class) → FirstNot (ChainEnds p.classes) p.classes k → judged p ≡ refused chain_endless k.name.start
unfolding judged
endless-refused p ds ps k h =
    let G = p.classes in
    let e = (endless-agrees G (distinct-rest ds) ps chain_endless k.name.start).1 (k, h, refl, refl) in
    rw (names-complete p.main.text G ds, parents-complete G ps, e)
