-- What the functions of the operation Menu return meets their contracts: the strip is filled in the order of the definition, for an
-- accepted source.
use Prim.Native.Nat.{ℕ, suc, ◌+◌, ◌*◌, ◌≤◌, ◌<◌}
use native.Mathlib.Omega.{arith}
use mathlib.Core.Path.{◌≡◌, refl, sym, ap, ◌∙◌, subst}
use mathlib.Core.List.{List, [], ◌∷◌, ◌++◌, append_assoc}
use mathlib.Core.Bool.{false≢true}
use lib.ListN.{length, get_or, drop, replicate, length-append, length-replicate}
use lib.Seq.{set-append_seam}
use native.Mathlib.Nat.{le_of_suc-le-suc}
use borrow.Author.Tests.{lt-ltb, le-ltb}
use Rattle.base.specs.All.{All, all_nil, all_cons}
use Rattle.base.specs.laws.Lists.{all-weaken, drop-none, get_d_default, get_d-replicate-same}
use Rattle.base.specs.Codes.{table_least}
use Rattle.base.specs.Outcome.{accepted}
use Rattle.base.specs.promises.Table.{c_next, rows}
use Rattle.lexer.specs.Tokens.{Token}
use Rattle.parser.specs.Tree.{Class, Program}
use Rattle.parser.specs.Grammar.{DerivesClass, DerivesClass.a-class-declaration, DerivesClasses, DerivesClasses.no-class, DerivesClasses.more-classes}
use Rattle.parser.specs.Grammar.{DerivesProgram, DerivesProgram.a_program}
use Rattle.parser.specs.Read.{table_after}
use Rattle.typesystem.specs.ClassTable.{among}
use Rattle.typesystem.specs.Check.{checking}
use Rattle.parser.specs.promises.Layout.{absent}
use Rattle.lookup.specs.promises.HeldClasses.{word_at}
use Rattle.lookup.specs.laws.HeldLaws.{word_in}
use Rattle.declarations.specs.laws.Counts.{class-count}
use Rattle.declarations.specs.promises.Judgements.{ClassesAt}
use Rattle.declarations.specs.promises.Indexing.{Ready}
use Rattle.std.specs.Prelude.{Result, Ok}
use Rattle.base.specs.declared.refusal.Reason.TheVariants as reason
use Rattle.base.specs.declared.refusal.Refusal.{Refusal}
use Rattle.base.specs.promises.Refusals.{refusal}
use Rattle.menu.specs.Menu.{menu_order, writing, positions, listing, menu, Menus}
use Rattle.menu.proofs.laws.Writing.{many-same}
use Rattle.menu.proofs.Ordered.{each-once}
use Rattle.menu.specs.promises.MenuPost.{name_row, RowsRise, rising_none, rising-more, Tabled, Empty, Gathered, overwritten, ParentsWritten, StripWritten, menu_answer_of, listing_of, FillsStrip}
use Rattle.menu.specs.promises.Least.{tree_size}

-- THE STRIP

written_after : (us ps l : List ℕ) → length ps ≤ length l → overwritten (length us) ps (us ++ l) ≡ us ++ (ps ++ drop (length ps) l)
unfolding overwritten
written_after us [] l h = ap (λ (k : List ℕ). us ++ k) (drop-none l)
written_after us (p ∷ ps) [] h = absurd (omega arith)
written_after us (p ∷ ps) (y ∷ l) h =
    let one : length us + 1 ≡ length (us ++ p ∷ []) = sym (length-append us (p ∷ [])) in
    let all : us ++ p ∷ l ≡ (us ++ p ∷ []) ++ l = sym (append_assoc us (p ∷ []) l) in
    rw (set-append_seam us y l p, one, all) (written_after (us ++ p ∷ []) ps l (le_of_suc-le-suc h) ∙ append_assoc us (p ∷ []) (ps ++ drop (length ps) l))

leading : (ps l : List ℕ) → length ps ≤ length l → overwritten 0 ps l ≡ ps ++ drop (length ps) l
leading ps l h = written_after [] ps l h

many-positions : (G : List Class) → length (positions G) ≡ length G
unfolding positions
many-positions [] = refl
many-positions (k ∷ ks) = ap suc (many-positions ks)

-- AT FIRST

filled : (n i : ℕ) → i < n → get_or {A = ℕ} (replicate n absent) i 0 ≡ absent
filled n i low =
    get_d_default {A = ℕ} (replicate n absent) i 0 absent (omega (arith, length-replicate {A = ℕ} n absent)) ∙ get_d-replicate-same {A = ℕ} n i absent

empty : Empty (replicate tree_size absent) (replicate rows absent)
empty = record {
  none_kept = record {
    leaves = λ row low. filled tree_size (absent + row) (omega arith);
    nodes = λ v some low. omega (arith, filled tree_size v (omega arith), filled tree_size (2 * v) (omega arith), filled tree_size (2 * v + 1) (omega arith));
  };
  none-listed = λ row low. filled rows row low;
}

-- THE CLASSES

class-row : {ts : List Token} {i j : ℕ} {k : Class} → DerivesClass ts i j k → name_row k ≡ i + 1
class-row (a-class-declaration _ _ _ _ _ _ _) = refl

classes-rise : {ts : List Token} {i j : ℕ} {ks : List Class} → DerivesClasses ts i j ks
    → RowsRise ks × All (λ (k : Class). i < name_row k) ks
classes-rise no-class = (rising_none, all_nil)
classes-rise (more-classes {c = k} {cs = ks} d ds) =
    let u = classes-rise ds in
    let at = class-row d in
    let n = class-count d in
    (rising-more {k = k} (all-weaken (λ j h. omega (arith, h, n, at)) u.1) u.0, all_cons {x = k} (omega (arith, at)) (all-weaken (λ j h. omega (arith, h, n)) u.1))

rise : {ts : List Token} {p : Program} → DerivesProgram ts p → RowsRise p.classes
rise (a_program _ _ _ _ ds) = (classes-rise ds).0

nothing_written : (G : List Class) → ParentsWritten [] G
unfolding among
nothing_written [] = all_nil
nothing_written (k ∷ G) = all_cons (λ e. absurd (false≢true e)) (nothing_written G)

module _ {tab : List ℕ} {classes : ℕ} {before : List ℕ} where
  pub fill-short : length before < classes
      → FillsStrip tab classes before (listing_of (refusal reason.StripTooShort 0) before)
  fill-short h = record { says = λ n ts p r d t l. let z : length before < length p.classes = omega arith in rw (lt-ltb (length before) (length p.classes) z) }

  module _ {first : ℕ} (e₆ : first ≡ word_at tab c_next 0) {tree firsts next : List ℕ}
      (g : Gathered tab classes first (replicate tree_size absent) (replicate rows absent) tree firsts next) {after : List ℕ} {unwritten : ℕ}
      (w : StripWritten tab tree firsts next 0 classes before after unwritten) where
    -- what was written of the classes of a program
    told : {n : ℕ} {ts : List Token} {p : Program} → Ready tab n ts p → DerivesProgram ts p → length p.classes ≡ classes
        → (after ≡ overwritten 0 (positions (menu_order p.classes)) before) × (unwritten + length (menu_order p.classes) ≡ length p.classes)
    unfolding menu_order
    told {n} {ts} {p} r d l =
        let G = p.classes in
        let table : Tabled tab n ts G = record { world = r.world; own = r.own; rising = rise d } in
        let at : ClassesAt tab n ts G classes first = record { here = sym (e₆ ∙ word_in tab c_next 0 (omega arith) r.first); stand = r.world.classes; few = omega arith } in
        let start = g.says empty n ts G table G at (rise d) in
        subst (λ (m : ℕ). (after ≡ overwritten 0 (positions (writing m G [])) before) × (unwritten + length (writing m G []) ≡ m)) (sym l)
        (w.says n ts G table start.1 [] (nothing_written G) start.0)

    pub fill-long : classes ≤ length before
        → FillsStrip tab classes before (listing_of (Ok classes) after)
    fill-long h =
        record {
          says = λ n ts p r d t l.
              let G = p.classes in
              let z : length G ≤ length before = omega arith in
              let many : length (positions (menu_order G)) ≡ length G = many-positions (menu_order G) ∙ many-same (each-once t) in
              let strip : after ≡ positions (menu_order G) ++ drop (length G) before =
              (told r d l).0 ∙ leading (positions (menu_order G)) before (omega arith) ∙ ap (λ (m : ℕ). positions (menu_order G) ++ drop m before) many in
              rw (le-ltb (length before) (length G) z, strip, l);
        }

    -- all classes of a typed program are written
    pub fill-never : (unwritten ≡ 0 → ⊥) → (a : Result ℕ Refusal) → FillsStrip tab classes before (listing_of a after)
    fill-never some a = record { says = λ n ts p r d t l. absurd (some (omega (arith, (told r d l).1, many-same (each-once t)))) }

-- THE OPERATION

module _ (s table before : List ℕ) where
  pub menu-short : length table < table_least → Menus s table before (menu_answer_of (refusal reason.TableTooShort 0)) table before
  unfolding menu table_after
  menu-short h = record { answer = rw (lt-ltb (length table) table_least h); cleared = rw (lt-ltb (length table) table_least h) }

  pub menu-answer : table_least ≤ length table → (r : Result ℕ Refusal) (middle : List ℕ) {last after : List ℕ}
      → listing_of r after ≡ listing (checking s) before → length middle ≡ length table
      → last ≡ replicate (length middle) 0 → Menus s table before (menu_answer_of r) last after
  unfolding menu table_after
  menu-answer long r middle m same zero =
      record { answer = rw (le-ltb (length table) table_least long) m; cleared = rw (le-ltb (length table) table_least long) (zero ∙ ap (λ (k : ℕ). replicate k 0) same) }
