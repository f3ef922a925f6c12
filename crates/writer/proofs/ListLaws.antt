-- What the functions on lists of arguments and of statements return meets their contracts: the empty list has no code, and the code of
-- another is that of its first member and, behind it, that of the rest.
use Prim.Native.Nat.{ℕ, ◌-◌, ◌≤◌, ◌<◌}
use native.Mathlib.Omega.{arith}
use mathlib.Core.Path.{◌≡◌, refl, subst}
use mathlib.Core.List.{List}
use lib.ListN.{length}
use Rattle.base.specs.Codes.{tokens_most}
use Rattle.base.specs.promises.Table.{c_next}
use Rattle.lexer.specs.Tokens.{Token}
use Rattle.lexer.specs.promises.Rows.{first_named}
use Rattle.parser.specs.Tree.{Sort, Sort.expression, Sort.arguments, Sort.statement, Sort.statements, Part, Class}
use Rattle.parser.specs.Tree.{Part.no_arguments, Part.argument, Part.no_statements, Part.sequence}
use Rattle.parser.specs.promises.Layout.{absent}
use Rattle.parser.specs.Measure.{nodes}
use Rattle.typesystem.specs.ClassTable.{Context}
use Rattle.lookup.specs.promises.Shows.{PartAt, GoesOn, one-more-argument, GoesOnS, one-more-statement}
use Rattle.lookup.specs.laws.ShowLaws.{goes_on, ended, goes-on_s, ended_s}
use Rattle.bodies.specs.declared.scope.Scope.{Scope}
use Rattle.codegen.specs.promises.Compile.{end, emit}
use Rattle.writer.specs.declared.job.Job.{Job}
use Rattle.writer.specs.laws.Emits.{no_code}
use Rattle.writer.specs.promises.Jobs.{part_of, one_less, PartPost}
use Rattle.writer.specs.promises.Posts.{room, Wrote, PartBounded, Written, Whatever, WritePost}
use Rattle.writer.proofs.RowLaws.{positive, positive-statement, fewer-arguments, fewer-statements}
use Rattle.writer.proofs.ExpressionLaws.{few-tokens, both-wrote, found-wrote}

-- the sort of the members, and that of the lists of them
pub data Lists : Sort → Sort → Type 0 where
  of-arguments : Lists expression arguments
  of-statements : Lists statement statements

abbrev none : {p q : Sort} → Lists p q → Part q
none of-arguments = no_arguments
none of-statements = no_statements

-- a list of no nodes is empty, and so is one past the last row
spent : {p q : Sort} (l : Lists p q) {left : ℕ} → left ≡ 0 → (t : Part q) → nodes t ≤ left → none l ≡ t
unfolding nodes
spent of-arguments z no_arguments few = refl
spent of-arguments z (argument e es) few = absurd (omega (arith, positive e))
spent of-statements z no_statements few = refl
spent of-statements z (sequence t ss) few = absurd (omega (arith, positive-statement t))

past : {p q : Sort} (l : Lists p q) {tab : List ℕ} {ts : List Token} {n row left : ℕ} → length ts ≤ tokens_most → absent ≤ row → (t : Part q)
    → PartAt tab ts row (PartBounded n left q) t → none l ≡ t
past of-arguments few far t h = ended few far t h
past of-statements few far t h = ended_s few far t h

nothing : {p q : Sort} (l : Lists p q) (ν : List ℕ → ℕ) (G : List Class) (Γ : Context) {at : ℕ} {c : List ℕ}
    → Wrote ν (emit G Γ (none l) at) (end (none l) at) at c c at
unfolding emit end
nothing of-arguments ν G Γ = record { ends = refl; code = no_code }
nothing of-statements ν G Γ = record { ends = refl; code = no_code }

module _ {p q : Sort} (l : Lists p q) {tab names : List ℕ} {s : Scope} {job : Job} {c : List ℕ} where
  empty-wrote : job.at ≤ room
      → ((ts : List Token) → length ts ≤ tokens_most → (t : Part q) → PartAt tab ts job.row (PartBounded s.tokens job.left q) t → none l ≡ t)
      → WritePost tab names s q job c c job.at
  empty-wrote low is =
      record {
        within = low;
        says = λ ts G Γ w t h few.
            subst (λ (x : Part q). Wrote (first_named ts) (emit G Γ x job.at) (end x job.at) job.at c c job.at)
            (is ts (few-tokens w) t h)
            (nothing l (first_named ts) G Γ);
      }

  pub list-none : job.left ≡ 0 → job.at ≤ room → WritePost tab names s q job c c job.at
  list-none z low = empty-wrote low (λ ts few t h. spent l z t h.within.few)

  pub list-end : absent ≤ job.row → job.at ≤ room → WritePost tab names s q job c c job.at
  list-end far low = empty-wrote low (λ ts few t h. past l few far t h)

-- a list that goes on
goes-wrote : {p q : Sort} (l : Lists p q) {tab names : List ℕ} {s : Scope} {job : Job} {a r : ℕ} {c c₁ c₂ : List ℕ} → (job.left ≡ 0 → ⊥)
    → job.row < absent → WritePost tab names s p job c c₁ a → WritePost tab names s q (part_of tab c_next (one_less job a) a) c₁ c₂ r
    → Whatever tab names s λ ts G Γ. (t : Part q) → PartAt tab ts job.row (PartBounded s.tokens job.left q) t
    → Written ts (emit G Γ t job.at) (end t job.at) job.at c c₂ r
unfolding emit end
goes-wrote of-arguments {tab} {s = s} {job} {r = r} {c} {c₂ = c₂} more near f g ts G Γ w t h =
    go t (goes_on (fewer-arguments s.tokens job.row job.left more) near t h)
  where
    go : (es : Part arguments)
        → GoesOn tab ts job.row (PartBounded s.tokens job.left expression) (PartBounded s.tokens (job.left - 1) arguments) es
        → Written ts (emit G Γ es job.at) (end es job.at) job.at c c₂ r
    go es (one-more-argument {e = e} {es = rest} x y) = both-wrote f g ts G Γ w e rest x y
goes-wrote of-statements {tab} {s = s} {job} {r = r} {c} {c₂ = c₂} more near f g ts G Γ w t h =
    go t (goes-on_s (fewer-statements s.tokens job.row job.left more) near t h)
  where
    go : (ss : Part statements)
        → GoesOnS tab ts job.row (PartBounded s.tokens job.left statement) (PartBounded s.tokens (job.left - 1) statements) ss
        → Written ts (emit G Γ ss job.at) (end ss job.at) job.at c c₂ r
    go ss (one-more-statement {t = first} {ss = rest} x y) = both-wrote f g ts G Γ w first rest x y

pub list-more : {p q : Sort} (l : Lists p q) {tab names : List ℕ} {s : Scope} {job rest : Job} {at a r : ℕ} {c c₁ c₂ : List ℕ}
    → (job.left ≡ 0 → ⊥) → job.row < absent → WritePost tab names s p job c c₁ a → PartPost tab c_next (one_less job at) a rest
    → WritePost tab names s q rest c₁ c₂ r → WritePost tab names s q job c c₂ r
list-more l more near f e₆ g = record { within = g.within; says = goes-wrote l more near f (found-wrote e₆ g) }
