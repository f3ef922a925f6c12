-- A run of the recogniser looks at the kinds of tokens alone, so lists with the same kinds are sentences together; and where two lists have
-- the same kinds up to token k, the beginning of the one goes on with the rest of the other as that one's own beginning does.
use Rattle.std.specs.Prelude.{ℕ, zero, suc, ◌≡◌, refl, List, [], ◌∷◌, ◌++◌, map, length, take, drop, get_or}
use Rattle.std.proofs.Common.{sym, ap, ◌∙◌}
use Rattle.base.specs.laws.Tests.{apart}
use Rattle.lexer.specs.Kinds.{k_end}
use Rattle.lexer.specs.Tokens.{Token}
use Rattle.parser.specs.Tree.{Program}
use Rattle.parser.specs.Stream.{kind_at}
use Rattle.parser.specs.Parse.{Parsed, ok, bad, out, parse}
use Rattle.parser.specs.Grammar.{Sentence, Viable}
use Rattle.grammar.specs.laws.Recogniser.{Symbol, Halt, done, stopped, RunsTo, finish, shifts, pushes, refuses, rule, start_stack, unique}
use Rattle.grammar.specs.laws.Whole.{parsed, refused}
use Rattle.grammar.specs.laws.Agreement.{never-out, complete}

-- the kinds of tokens, one by one
abbrev pub kinds : List Token → List ℕ
kinds ts = map (λ t. t.kind) ts

kind-in : (ts : List Token) (i : ℕ) → kind_at ts i ≡ get_or (kinds ts) i k_end
kind-in [] i = refl
kind-in (t ∷ ts) zero = refl
kind-in (t ∷ ts) (suc i) = kind-in ts i

count-in : (ts : List Token) → length ts ≡ length (kinds ts)
count-in [] = refl
count-in (t ∷ ts) = ap suc (count-in ts)

-- SENTENCES

same-run : {ts us : List Token} {S : List Symbol} {i : ℕ} {e : Halt}
    → ((p : ℕ) → kind_at us p ≡ kind_at ts p) → RunsTo ts S i e → RunsTo us S i e
same-run same finish = finish
same-run same (shifts {x = x} {i = i} r h) = shifts (ap (rule x) (same i) ∙ r) (same-run same h)
same-run same (pushes {x = x} {i = i} r h) = pushes (ap (rule x) (same i) ∙ r) (same-run same h)
same-run same (refuses {x = x} {i = i} r) = refuses (ap (rule x) (same i) ∙ r)

pub same-sentence : (ts us : List Token) → kinds us ≡ kinds ts → Sentence ts → Sentence us
same-sentence ts us e s =
    let h : RunsTo us start_stack 0 (done (length ts)) = same-run same (parsed ts (complete ts s.0 s.1)).1 in
    go (parse us) refl h
  where
    same : (p : ℕ) → kind_at us p ≡ kind_at ts p
    same p = kind-in us p ∙ ap (λ (l : List ℕ). get_or l p k_end) e ∙ sym (kind-in ts p)

    go : (r : Parsed Program) → parse us ≡ r → RunsTo us start_stack 0 (done (length ts)) → Sentence us
    go (ok p j) q h =
        let w = parsed us q in
        let z : done j ≡ done (length ts) = unique w.1 h in
        let n : length us ≡ length ts = count-in us ∙ ap length e ∙ sym (count-in ts) in
        (p, w.0.1 (cc))
    go (bad k) q h = let z : stopped k ≡ done (length ts) = unique (refused us q) h in apart (cc)
    go out q h = absurd (never-out us q)

-- BEGINNINGS

-- the first k tokens of us, then vs after its first k
abbrev spliced : ℕ → (us vs : List Token) → List Token
spliced k us vs = take k us ++ drop k vs

spliced-kinds : (k : ℕ) (us vs : List Token) → take k (kinds us) ≡ take k (kinds vs) → kinds (spliced k us vs) ≡ kinds vs
spliced-kinds zero us [] e = refl
spliced-kinds zero us (v ∷ vs) e = refl
spliced-kinds (suc k) [] [] e = refl
spliced-kinds (suc k) [] (v ∷ vs) e = apart (cc)
spliced-kinds (suc k) (u ∷ us) [] e = apart (cc)
spliced-kinds (suc k) (u ∷ us) (v ∷ vs) e =
    let a : u.kind ≡ v.kind = cc in
    let b : take k (kinds us) ≡ take k (kinds vs) = cc in
    λ i. a i ∷ spliced-kinds k us vs b i

spliced-begins : (k : ℕ) (us vs : List Token) → take k (kinds us) ≡ take k (kinds vs) → take k (spliced k us vs) ≡ take k us
spliced-begins zero us vs e = refl
spliced-begins (suc k) [] [] e = refl
spliced-begins (suc k) [] (v ∷ vs) e = apart (cc)
spliced-begins (suc k) (u ∷ us) [] e = apart (cc)
spliced-begins (suc k) (u ∷ us) (v ∷ vs) e =
    let b : take k (kinds us) ≡ take k (kinds vs) = cc in
    ap (λ (l : List Token). u ∷ l) (spliced-begins k us vs b)

take-kinds : (k : ℕ) (ts : List Token) → take k (kinds ts) ≡ kinds (take k ts)
take-kinds zero ts = refl
take-kinds (suc k) [] = refl
take-kinds (suc k) (t ∷ ts) = ap (λ (l : List ℕ). t.kind ∷ l) (take-kinds k ts)

pub same-viable : (ts us : List Token) (k : ℕ) → take k (kinds us) ≡ take k (kinds ts) → Viable ts k → Viable us k
same-viable ts us k e v =
    let vs = v.0 in
    let b : take k (kinds us) ≡ take k (kinds vs) = e ∙ take-kinds k ts ∙ ap kinds (sym v.2) ∙ sym (take-kinds k vs) in
    (spliced k us vs, same-sentence vs (spliced k us vs) (spliced-kinds k us vs b) v.1, spliced-begins k us vs b)
