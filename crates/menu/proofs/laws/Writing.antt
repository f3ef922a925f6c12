-- What is written again and again: in a table whose names are distinct and whose chains end some class may stand in each place, since the
-- chain of one that is left leads up to one whose parent is written; so every class is written, and each at the earliest place.
use Prim.Native.Nat.{ℕ, zero, suc}
use Rattle.std.proofs.Common.{arith, ap, ◌∙◌, true≢false}
use Rattle.std.specs.Prelude.{◌≡◌, Bool, ◌&&◌, ◌||◌, not}
use Rattle.std.proofs.Math.Path.{refl, sym, subst}
use mathlib.Core.List.{List, [], ◌∷◌, ◌++◌, map, append-nil, append_assoc}
use mathlib.Core.List.Permᴰ
use mathlib.Core.List.{Permᴰ}
use Rattle.std.proofs.Math.Bool.{true, false}
use Rattle.std.proofs.Math.Option.{Option, none, some}
use Rattle.std.proofs.Math.ListN.{length}
use Rattle.base.specs.Bytes.{same}
use Rattle.base.specs.Choice.{if◌then◌otherwise◌, option}
use Rattle.base.specs.All.{All, all_nil, all_cons}
use Rattle.base.specs.laws.Lists.{all-weaken}
use Rattle.base.specs.laws.Tests.{apart, or-neither, not-true, same_refl, same-sym}
use Rattle.parser.specs.Tree.{Name, Class}
use Rattle.typesystem.specs.ClassTable.{among, class_named, occurs}
use Rattle.typesystem.specs.TypingRules.{extends, Ends, ends-here, ends_above, Distinct, distinct_more, class_name}
use Rattle.typing.specs.laws.Choices.{by-test, taken, held, none-some}
use Rattle.typing.specs.laws.Chains.{class-name, Acyclic}
use Rattle.typing.specs.laws.Programs.{class-found}
use Rattle.menu.specs.Menu.{may_stand, earliest, writing}
use Rattle.menu.specs.InOrder.{MayStand, Earliest}

may-sound : (us : List Class) (k : Class) → may_stand us k ≡ true → MayStand us k
unfolding may_stand
may-sound us k h = go (among (class_name k) us) k.parent refl refl h
  where
    go : (b : Bool) (o : Option Name) → among (class_name k) us ≡ b → k.parent ≡ o
        → (not b && option o true λ p. among p.text us) ≡ true → MayStand us k
    go true o e q h = apart (cc)
    go false none e q h = record { new = e; after = λ p f. absurd (none-some q f) }
    go false (some r) e q h = record { new = e; after = λ p f. let z : r ≡ p = cc in rw (← z) h }

may-complete : (us : List Class) (k : Class) → MayStand us k → may_stand us k ≡ true
unfolding may_stand
may-complete us k h = rw h.new (go k.parent refl)
  where
    go : (o : Option Name) → k.parent ≡ o → (option o true λ p. among p.text us) ≡ true
    go none e = refl
    go (some p) e = h.after p e

pub earliest-sound : (us G : List Class) {k : Class} → earliest us G ≡ some k → Earliest us G k
unfolding earliest
earliest-sound us [] e = absurd (none-some refl e)
earliest-sound us (j ∷ G) {k} e =
    taken (may_stand us j) _ _ e
    (λ m q. let z : j ≡ k = cc in record { before = []; behind = G; there = ap (λ (i : Class). i ∷ G) z; may = subst (MayStand us) z (may-sound us j m); others = all_nil })
    (λ m q.
    let h = earliest-sound us G q in
    record {
      before = j ∷ h.before;
      behind = h.behind;
      there = ap (λ (l : List Class). j ∷ l) h.there;
      may = h.may;
      others = all_cons (λ s. true≢false (sym (may-complete us j s) ∙ m)) h.others;
    })

earliest-there : (us xs : List Class) (k : Class) (ys : List Class) → All (λ (j : Class). may_stand us j ≡ false) xs
    → may_stand us k ≡ true → earliest us (xs ++ k ∷ ys) ≡ some k
unfolding earliest
earliest-there us [] k ys all_nil m = rw m
earliest-there us (x ∷ xs) k ys (all_cons e h) m = rw e (earliest-there us xs k ys h m)

tested-all : (us : List Class) {xs : List Class} → All (λ (j : Class). MayStand us j → ⊥) xs → All (λ (j : Class). may_stand us j ≡ false) xs
tested-all us h = all-weaken (λ j n. not-true (may_stand us j) (λ e. n (may-sound us j e))) h

pub earliest-complete : (us G : List Class) {k : Class} → Earliest us G k → earliest us G ≡ some k
earliest-complete us G {k} h = rw h.there (earliest-there us h.before k h.behind (tested-all us h.others) (may-complete us k h.may))

-- PLACES

-- in each place stands the earliest class that may stand there
pub writing-places : (n : ℕ) (G w us : List Class) (k : Class) (vs : List Class) → writing n G w ≡ us ++ k ∷ vs
    → earliest (w ++ us) G ≡ some k
unfolding writing
writing-places zero G w [] k vs e = apart (cc)
writing-places zero G w (x ∷ us) k vs e = apart (cc)
writing-places (suc n) G w [] k vs e =
    held (earliest w G) e (λ m q. apart (cc)) (λ j m q. let z : j ≡ k = cc in ap (λ (l : List Class). earliest l G) (append-nil w) ∙ m ∙ ap some z)
writing-places (suc n) G w (x ∷ us) k vs e =
    held (earliest w G) e (λ m q. apart (cc))
    (λ j m q.
    let z : x ≡ j = cc in
    let rest : writing n G (w ++ j ∷ []) ≡ us ++ k ∷ vs = cc in
    ap (λ (l : List Class). earliest l G) (ap (λ (i : Class). w ++ i ∷ us) z ∙ sym (append_assoc w (j ∷ []) us)) ∙ writing-places n G (w ++ j ∷ []) us k vs rest)

-- and what has so in each place is that order
pub places-writing : (G w o : List Class)
    → ((us : List Class) (k : Class) (vs : List Class) → o ≡ us ++ k ∷ vs → earliest (w ++ us) G ≡ some k) → o ≡ writing (length o) G w
unfolding writing
places-writing G w [] h = refl
places-writing G w (k ∷ o) h =
    let e : earliest w G ≡ some k = ap (λ (l : List Class). earliest l G) (sym (append-nil w)) ∙ h [] k o refl in
    rw e (ap (λ (l : List Class). k ∷ l)
    (places-writing G (w ++ k ∷ []) o λ us j vs q.
    ap (λ (l : List Class). earliest l G) (append_assoc w (k ∷ []) us) ∙ h (k ∷ us) j vs (ap (λ (l : List Class). k ∷ l) q)))

-- EACH CLASS ONE TIME

pub many-same : {l m : List Class} → Permᴰ l m → length l ≡ length m
many-same Permᴰ.nil = refl
many-same (Permᴰ.cons e h) = ap suc (many-same h)
many-same (Permᴰ.swap e f) = refl
many-same (Permᴰ.trans g h) = many-same g ∙ many-same h

-- a class is among those written and one more
pub among-more : (c : List ℕ) (w : List Class) (k : Class) → among c (w ++ k ∷ []) ≡ (among c w || same (class_name k) c)
unfolding among
among-more c [] k = last (same (class_name k) c)
  where
    last : (b : Bool) → (b || false) ≡ (false || b)
    last true = refl
    last false = refl
among-more c (x ∷ w) k = first (same (class_name x) c) _ (among c w) _ (among-more c w k)
  where
    first : (a b b' s : Bool) → b ≡ (b' || s) → (a || b) ≡ ((a || b') || s)
    first true b b' s e = refl
    first false b b' s e = e

-- the classes of a table that are not written
unwritten : List Class → List Class → List Class
unwritten w [] = []
unwritten w (k ∷ ks) = if among (class_name k) w then (λ _. unwritten w ks) otherwise λ _. k ∷ unwritten w ks

unwritten-all : (G : List Class) → unwritten [] G ≡ G
unfolding unwritten among
unwritten-all [] = refl
unwritten-all (k ∷ G) = ap (λ (l : List Class). k ∷ l) (unwritten-all G)

-- the first of them
unwritten-some : (w G : List Class) {u : Class} {us : List Class} → unwritten w G ≡ u ∷ us
    → (xs ys : List Class) × (G ≡ xs ++ u ∷ ys) × (among (class_name u) w ≡ false)
unfolding unwritten
unwritten-some w [] e = apart (cc)
unwritten-some w (k ∷ G) {u} {us} e =
    taken (among (class_name k) w) _ _ e
    (λ a q. let h = unwritten-some w G q in (k ∷ h.0, h.1, ap (λ (l : List Class). k ∷ l) h.2, h.3))
    (λ a q. let z : k ≡ u = cc in ([], G, ap (λ (i : Class). i ∷ G) z, subst (λ (i : Class). among (class_name i) w ≡ false) z a))

module _ (w : List Class) (k : Class) where
  -- a class of another name is written just where it was
  other-among : (j : Class) → same (class_name k) (class_name j) ≡ false → among (class_name j) (w ++ k ∷ []) ≡ among (class_name j) w
  other-among j d = among-more (class_name j) w k ∙ rw d (or_no (among (class_name j) w))
    where
      or_no : (b : Bool) → (b || false) ≡ b
      or_no true = refl
      or_no false = refl

  itself-among : among (class_name k) (w ++ k ∷ []) ≡ true
  itself-among = among-more (class_name k) w k ∙ rw (same_refl (class_name k)) (or_yes (among (class_name k) w))
    where
      or_yes : (b : Bool) → (b || true) ≡ true
      or_yes true = refl
      or_yes false = refl

  others-unwritten : (ys : List Class) → occurs (class_name k) (map class_name ys) ≡ false → unwritten (w ++ k ∷ []) ys ≡ unwritten w ys
  unfolding unwritten occurs
  others-unwritten [] o = refl
  others-unwritten (y ∷ ys) o =
      let d = or-neither (same (class_name y) (class_name k)) (occurs (class_name k) (map class_name ys)) o in
      rw (other-among y (same-sym (class_name y) (class_name k) d.0), others-unwritten ys d.1)

  occurs-among : (x : List ℕ) (xs ys : List Class) → occurs x (map class_name (xs ++ k ∷ ys)) ≡ false → same (class_name k) x ≡ false
  unfolding occurs
  occurs-among x [] ys o = (or-neither (same (class_name k) x) _ o).0
  occurs-among x (y ∷ xs) ys o = occurs-among x xs ys (or-neither (same (class_name y) x) _ o).1

  -- when a class is written, the others stay as they were
  take_out : (xs ys : List Class) → Distinct (map class_name (xs ++ k ∷ ys)) → among (class_name k) w ≡ false
      → Permᴰ (k ∷ unwritten (w ++ k ∷ []) (xs ++ k ∷ ys)) (unwritten w (xs ++ k ∷ ys))
  unfolding unwritten
  take_out [] ys (distinct_more o d) n = rw (itself-among, n, others-unwritten ys o) (Permᴰ.refl (k ∷ unwritten w ys))
  take_out (x ∷ xs) ys (distinct_more o d) n = rw (other-among x (occurs-among (class_name x) xs ys o)) (go (take_out xs ys d n) (among (class_name x) w))
    where
      go : Permᴰ (k ∷ unwritten (w ++ k ∷ []) (xs ++ k ∷ ys)) (unwritten w (xs ++ k ∷ ys)) → (b : Bool)
          → Permᴰ (k ∷ (if b then (λ _. unwritten (w ++ k ∷ []) (xs ++ k ∷ ys)) otherwise λ _. x ∷ unwritten (w ++ k ∷ []) (xs ++ k ∷ ys)))
          (if b then (λ _. unwritten w (xs ++ k ∷ ys)) otherwise λ _. x ∷ unwritten w (xs ++ k ∷ ys))
      go h true = h
      go h false = Permᴰ.trans (Permᴰ.swap refl refl) (Permᴰ.cons refl h)

-- a class that its name finds stands in the table
named-there : (G : List Class) (c : List ℕ) {k : Class} → class_named G c ≡ some k → (xs ys : List Class) × (G ≡ xs ++ k ∷ ys)
unfolding class_named
named-there [] c e = absurd (none-some refl e)
named-there (j ∷ G) c {k} e =
    taken (same (class_name j) c) _ _ e
    (λ s q. let z : j ≡ k = cc in ([], G, ap (λ (i : Class). i ∷ G) z))
    (λ s q. let h = named-there G c q in (j ∷ h.0, h.1, ap (λ (l : List Class). j ∷ l) h.2))

pub all_there : {P : Class → Type 0} (xs : List Class) {k : Class} (ys : List Class) → All P (xs ++ k ∷ ys) → P k
all_there [] ys (all_cons p h) = p
all_there (x ∷ xs) ys (all_cons p h) = all_there xs ys h

-- where some class may stand there is an earliest one
some-earliest : (us xs : List Class) (k : Class) (ys : List Class) → may_stand us k ≡ true
    → (j : Class) × (earliest us (xs ++ k ∷ ys) ≡ some j)
unfolding earliest
some-earliest us [] k ys m = (k, rw m)
some-earliest us (x ∷ xs) k ys m =
    by-test (λ (o : Option Class). (j : Class) × (o ≡ some j)) (may_stand us x) _ _ (λ t. (x, refl)) (λ t. some-earliest us xs k ys m)

-- above an unwritten class there is one that may stand, if the chain ends
found-earliest : (G w : List Class) (c : List ℕ) {k : Class} → class_named G c ≡ some k → among c w ≡ false
    → ((p : Name) → k.parent ≡ some p → among p.text w ≡ true) → (j : Class) × (earliest w G ≡ some j)
found-earliest G w c {k} e n after =
    let t = named-there G c e in
    let m = may-complete w k (record { new = subst (λ (x : List ℕ). among x w ≡ false) (sym (class-name G c e)) n; after = after }) in
    subst (λ (l : List Class). (j : Class) × (earliest w l ≡ some j)) (sym t.2) (some-earliest w t.0 k t.1 m)

climb : (G w : List Class) {c : List ℕ} → Ends G c → among c w ≡ false → (j : Class) × (earliest w G ≡ some j)
climb G w {c} (ends-here e p) n = found-earliest G w c e n (λ r f. absurd (none-some p f))
climb G w {c} (ends_above {d = d} (extends {k = k} {p = a} e p s) h) n = go (among d w) refl (λ m. climb G w h m)
  where
    go : (b : Bool) → among d w ≡ b → (among d w ≡ false → (j : Class) × (earliest w G ≡ some j)) → (j : Class) × (earliest w G ≡ some j)
    go true m up =
        found-earliest G w c e n (λ r f. let x : a ≡ r = cc in subst (λ (i : List ℕ). among i w ≡ true) (sym s ∙ ap (λ (i : Name). i.text) x) m)
    go false m up = up m

-- THE ORDER OF A TABLE

module _ (G : List Class) (ds : Distinct (map class_name G)) (A : Acyclic G) where
  writing-each : (n : ℕ) (w : List Class) → length (unwritten w G) ≡ n → Permᴰ (writing n G w) (unwritten w G)
  unfolding writing
  writing-each zero w e = go (unwritten w G) e
    where
      go : (l : List Class) → length l ≡ 0 → Permᴰ [] l
      go [] e = Permᴰ.nil
      go (x ∷ l) e = absurd (omega arith)
  writing-each (suc n) w e = go (unwritten w G) refl (λ v f. writing-each n v f)
    where
      go : (l : List Class) → unwritten w G ≡ l
          → ((v : List Class) → length (unwritten v G) ≡ n → Permᴰ (writing n G v) (unwritten v G))
          → Permᴰ (writing (suc n) G w) (unwritten w G)
      go [] q next = absurd (omega (arith, sym (ap (λ (l : List Class). length l) q) ∙ e))
      go (u ∷ us) q next =
          let s = unwritten-some w G q in
          let own = all_there s.0 s.1 (subst (All (λ (k : Class). class_named G (class_name k) ≡ some k)) s.2 (class-found G ds)) in
          let c = climb G w (A.ends (class_name u) own) s.3 in
          let f = earliest-sound w G c.1 in
          let t = take_out w c.0 f.before f.behind (subst (λ (l : List Class). Distinct (map class_name l)) f.there ds) f.may.new in
          let out = subst (λ (l : List Class). Permᴰ (c.0 ∷ unwritten (w ++ c.0 ∷ []) l) (unwritten w l)) (sym f.there) t in
          rw c.1 (Permᴰ.trans (Permᴰ.cons refl (next (w ++ c.0 ∷ []) (omega (arith, many-same out, e)))) out)

  pub writing-once : Permᴰ (writing (length G) G []) G
  writing-once =
      subst (Permᴰ (writing (length G) G [])) (unwritten-all G) (writing-each (length G) [] (ap (λ (l : List Class). length l) (unwritten-all G)))
