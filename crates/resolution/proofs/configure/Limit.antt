-- The permitted positions: what each name of an LM finds.
use mathlib.Core.Path.{◌≡◌, refl, sym, ap, ◌∙◌}
use mathlib.Core.Bool.{Bool, true, false, ◌&&◌, ◌||◌, and-true, and-false, or-false, or-true, or_assoc}
use mathlib.Core.List.{List, [], ◌∷◌, map}
use Prim.Native.Nat.{ℕ, zero, suc, ◌+◌, ◌-◌, ◌≤◌, ◌<◌}
use native.Mathlib.Omega.{arith}
use native.Mathlib.Nat.{not-suc-le-zero}
use native.Mathlib.Numerals.{sub-one}
use lib.ListN.{take, drop}
use Rattle.records.specs.Bytes.{same_bytes, u16_at}
use Rattle.records.specs.Name.{java_base, name_of, after_name, names_of, list_of, mem_name}
use Rattle.records.specs.Record.{next_of}
use Rattle.records.specs.Request.{request_of, limit_of, within_limit, is_permitted}
use Rattle.records.specs.Set.{check_set, modules}
use Rattle.records.specs.Finder.{find_name, is_at, is_first}
use Rattle.records.specs.Finder.{Found}
use Rattle.records.specs.declared.record.Kind.TheVariants as Kind
use Rattle.records.specs.Record.{Next}
use Rattle.records.proofs.Logic.{by, true≠false}
use Rattle.records.proofs.bytes.Laws.{same-eq, same_refl}
use Rattle.records.proofs.finder.Modules.{is_at_lem, found_at}
use Rattle.records.proofs.record.Bodies.{bodies-next, bodies-end}
use Rattle.records.proofs.set.Blocks.{good-set}
use Rattle.records.proofs.sorted.Laws.{names-long}
use Rattle.resolution.specs.Lists.{Name, any}
use Rattle.resolution.specs.Lookup.{Lookup}
use Rattle.resolution.specs.Positions.{module_at, is_visible}
use Rattle.resolution.specs.Readability.{table_names, WithMore, Holding}
use Rattle.resolution.specs.Row.{holds, Empty, Added}
use Rattle.resolution.specs.Configure.{is_found_by, PermittedRow}
use Rattle.resolution.proofs.Find.{find-mem}
use Rattle.resolution.proofs.Positions.{located, located_visible, visible_in}
use Rattle.resolution.proofs.Sets.{set-length, lookup-few, lookup-room, lookup-index}
use Rattle.std.specs.Prelude.{Some, None, Ok}
use Rattle.records.specs.declared.record.Span.{Span}

-- ---- one name

module _ (s t index : List ℕ) (n : ℕ) (x : Lookup s t n index) (name : Name) (f : Found) (ef : f ≡ find_name (table_names s t n) name 0) (before : List ℕ) where
  pub named-found : (i : ℕ) (after : List ℕ) → f ≡ Some i → Added before i after → WithMore before (is_at (find_name (table_names s t n) name 0)) after
  unfolding is_at
  named-found i after ei a =
      let q : find_name (table_names s t n) name 0 ≡ Some i = sym ef ∙ ei in
      let small : i < 512 = omega (arith, (found_at (table_names s t n) name 0 i q).within, names-long s t n x.within, x.few) in
      record { each = λ j. a.below small j ∙ sym (ap (λ (g : Found). holds before j || is_at g j) q) }

  pub named_none : f ≡ None → WithMore before (is_at (find_name (table_names s t n) name 0)) before
  unfolding is_at
  named_none en = record { each = λ j. sym (ap (λ (g : Found). holds before j || is_at g j) (sym ef ∙ en) ∙ or-false (holds before j)) }

pub ruleset named-laws = (named-found, named_none, lookup-few, lookup-room, lookup-index)

-- ---- the names of a list

-- k names are taken, and the others stand from u on
pub record NamesAt (l : List Name) (names : List ℕ) (n : ℕ) (before out u : List ℕ) (k : ℕ) : Type 0 where
  pub left : (j : ℕ) → (holds before j || is_found_by l (names_of n names) j) ≡ (holds out j || is_found_by l (names_of (n - k) u) j)

pub names-start : (l : List Name) (names : List ℕ) (n : ℕ) (before : List ℕ) → NamesAt l names n before before names 0
names-start l names n before = record { left = λ j. let e : n - 0 ≡ n = omega arith in rw e }

by_first : (l : List Name) (k : ℕ) (u : List ℕ) (j : ℕ) → 0 < k → is_found_by l (names_of k u) j ≡ (is_at (find_name l (name_of u) 0) j || is_found_by l (names_of (k - 1) (after_name u)) j)
unfolding is_found_by any names_of
by_first l zero u j h = absurd (not-suc-le-zero h)
by_first l (suc k) u j h = rw (sub-one (suc k))

module _ (l : List Name) (names : List ℕ) (n : ℕ) (before out u : List ℕ) (k : ℕ) (h : NamesAt l names n before out u k) where
  pub names_more : (name : Name) (after v : List ℕ) → k < n → name ≡ name_of u → WithMore out (is_at (find_name l name 0)) after → v ≡ after_name u
      → NamesAt l names n before after v (k + 1)
  names_more name after v p en w ev =
      let q : 0 < n - k = omega arith in
      let e : n - (k + 1) ≡ n - k - 1 = omega arith in
      record {
        left = λ j. h.left j ∙ rw (by_first l (n - k) u j q)
            (sym (or_assoc (holds out j) (is_at (find_name l (name_of u) 0) j) (is_found_by l (names_of (n - k - 1) (after_name u)) j))
            ∙ sym (rw (w.each j, en, ev, e)));
      }

  pub names-done : n ≤ k → WithMore before (is_found_by l (names_of n names)) out
  unfolding is_found_by any names_of
  names-done p =
      let e : n - k ≡ 0 = omega arith in
      record { each = λ j. sym (h.left j ∙ rw (e, or-false (holds out j))) }

pub ruleset names-laws = (names-start, names_more, names-done)

-- ---- the names of an LM

pub by-list : (l : List Name) (b none base ws u : List ℕ) (n : ℕ) → Empty none → WithMore none (is_at (find_name l java_base 0)) base
    → n ≡ u16_at b 0 → u ≡ drop 2 b → WithMore base (is_found_by l (names_of n u)) ws → Holding ws (is_found_by l (java_base ∷ list_of b))
unfolding is_found_by any list_of
by-list l b none base ws u n z w en eu v = record { each = λ j. v.each j ∙ rw (w.each j, z.none j, en, eu) }

-- a name finds the visible module that it names
module _ (s : List ℕ) (n : ℕ) (t : List ℕ) (e : check_set s ≡ Ok (record { count = n; starts = t })) where
  found_is : (x : Name) (i : ℕ) → is_at (find_name (table_names s t n) x 0) i ≡ is_visible (modules s) i && same_bytes x (module_at (modules s) i).name
  unfolding is_visible is_first
  found_is x i = rw (good-set s n t e).names (by (is_at F i) yes no)
    where
      F : Found
      F = find_name (map (λ m. m.name) (modules s)) x 0

      yes : is_at F i ≡ true → is_at F i ≡ is_visible (modules s) i && same_bytes x (module_at (modules s) i).name
      yes h =
          let w = located x (modules s) i (is_at_lem F i h) in
          let q : (module_at (modules s) i).name ≡ x = (find-mem x (modules s) (module_at (modules s) i) w.is).1 in
          h ∙ sym (rw (located_visible x (modules s) i w, q, same_refl x))

      no : is_at F i ≡ false → is_at F i ≡ is_visible (modules s) i && same_bytes x (module_at (modules s) i).name
      no h = h ∙ sym (by (same_bytes x (module_at (modules s) i).name)
          (λ y. rw (← same-eq x (module_at (modules s) i).name y, h))
          (λ y. rw y (and-false (is_visible (modules s) i))))

  both : (a b c : Bool) → (a && b) || (a && c) ≡ a && (b || c)
  both true b c = refl
  both false b c = refl

  by-is : (ns : List Name) (i : ℕ) → is_found_by (table_names s t n) ns i ≡ is_visible (modules s) i && mem_name (module_at (modules s) i).name ns
  unfolding is_found_by any mem_name
  by-is [] i = sym (and-false (is_visible (modules s) i))
  by-is (x ∷ ns) i = rw (found_is x i, by-is ns i) (both (is_visible (modules s) i) (same_bytes x (module_at (modules s) i).name) (mem_name (module_at (modules s) i).name ns))

  same_back : (a b : Name) → same_bytes a b ≡ same_bytes b a
  same_back a b = by (same_bytes a b)
      (λ y. rw (same-eq a b y))
      (λ y. y ∙ sym (by (same_bytes b a) (λ z. true≠false (rw (same-eq b a z) (same_refl a)) y) (λ z. z)))

  hidden-past : (i : ℕ) → n ≤ i → is_visible (modules s) i ≡ false
  hidden-past i l = by (is_visible (modules s) i) (λ z. absurd (omega (arith, visible_in (modules s) i z, set-length s n t (good-set s n t e)))) (λ z. z)

  module _ (q : List ℕ) (r : Next) (er : r ≡ next_of Kind.LimitModules q 0) (ws : List ℕ) where
    -- what a row must hold
    permits : ((i : ℕ) → holds ws i ≡ is_visible (modules s) i && is_permitted (request_of q) (module_at (modules s) i).name) → PermittedRow s q n ws
    permits h = record { past = λ i l. h i ∙ rw (hidden-past i l); each = λ i l. h i }

    -- with an LM, the visible modules that it and java.base name
    pub permitted_listed : (span : Span) → r ≡ Some span → (b : List ℕ) → b ≡ take span.len (drop span.start q)
        → Holding ws (is_found_by (table_names s t n) (java_base ∷ list_of b)) → PermittedRow s q n ws
    unfolding is_permitted request_of limit_of within_limit mem_name
    permitted_listed span k b eb h = permits (λ i. h.each i ∙ by-is (java_base ∷ list_of b) i
        ∙ rw (same_back java_base (module_at (modules s) i).name, bodies-next Kind.LimitModules q 0 r er span.start span.len span.next k (omega arith), eb))

    -- without one, the visible modules
    pub permitted_free : r ≡ None → Holding ws (is_visible (modules s)) → PermittedRow s q n ws
    unfolding is_permitted request_of limit_of within_limit
    permitted_free k h = permits (λ i. h.each i
        ∙ sym (rw (bodies-end Kind.LimitModules q 0 r er k, or-true (same_bytes (module_at (modules s) i).name java_base)) (and-true (is_visible (modules s) i))))

pub ruleset permitted_laws = (permitted_listed, permitted_free)
