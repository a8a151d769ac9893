-- The test of a module's packages: the least that one of the modules at the positions has.
use mathlib.Core.Path.{◌≡◌, refl, sym, ap, ◌∙◌, subst}
use mathlib.Core.Bool.{Bool, true, false, ◌&&◌, cond}
use mathlib.Core.Option.{Option, none, some}
use mathlib.Core.List.Memᴰ
use mathlib.Core.List.{List, [], ◌∷◌, ◌++◌, map, flat_map}
use mathlib.Core.Logic.{⊎_elim}
use Prim.Native.Nat.{ℕ, zero, suc, ◌+◌, ◌-◌, ◌*◌, ◌^◌, ◌≤◌, ◌<◌}
use native.Mathlib.Omega.{arith}
use lib.ListN.{length, get_or, take, drop, length-take, length-drop}
use lib.Seq.{drop-drop}
use Rattle.records.specs.Bytes.{same_bytes, before_bytes}
use Rattle.records.specs.Name.{name_of, mem_name}
use Rattle.records.specs.Order.{name_in, is_ordered, packages_of, PackagesOrdered}
use Rattle.records.specs.Record.{bodies, next_of}
use Rattle.records.specs.Set.{block_at}
use Rattle.records.specs.Record.{Next}
use Rattle.records.specs.declared.record.Kind.TheVariants as Kind
use Rattle.records.proofs.bytes.Laws.{same-eq}
use Rattle.records.proofs.bytes.Order.{before_irrefl, before-trans, before-total, before-one-way}
use Rattle.records.proofs.order.Packages.{name-short as short, entry-name as entry}
use Rattle.records.proofs.order.Laws.{drop-take}
use Rattle.records.proofs.order.Ordered.{ordered-is, ordered_keeps, ordered-adds-none}
use Rattle.records.proofs.record.Bodies.{bodies-next, bodies-end, next-room, next-later, next-less, body-room}
use Rattle.records.proofs.Logic.{by, true≠false}
use Rattle.resolution.specs.Lists.{Name, Mem, any, keep}
use Rattle.resolution.specs.Owner.{least, lesser}
use Rattle.resolution.specs.Resolver.{block_of, names_of, has_named, split_of, split_at}
use Rattle.resolution.specs.Filter.{is_marked, MarkedAll, Covers, least_of, lesser_of, least_in, is_less, asked}
use Rattle.records.specs.Finder.{Found}
use Rattle.resolution.specs.declared.resolver.Halt.{Halt}
use Rattle.resolution.proofs.Lists.{mem_name_in, mem_name-out, any_in, any_out, any-no, keep_in, keep_out, flat_in, flat_out}
use Rattle.resolution.proofs.filter.Covers.{covers-not}
use Rattle.resolution.proofs.modules.Laws.{rest-next, rest-end}
use Rattle.records.specs.declared.record.Span.{Span}
use Rattle.std.specs.Prelude.{Some, None}

-- ---- the lesser of names

-- the least of x and y, and of the rest
lesser-both : (x y : Name) (o : Option Name) → lesser x (lesser y o) ≡ lesser (cond (before_bytes y x) y x) o
unfolding lesser
lesser-both x y none = refl
lesser-both x y (some z) = go (before_bytes y x) refl (before_bytes z y) refl (before_bytes z x) refl
  where
    go : (a : Bool) → before_bytes y x ≡ a → (b : Bool) → before_bytes z y ≡ b → (c : Bool) → before_bytes z x ≡ c
        → lesser x (some (cond (before_bytes z y) z y)) ≡ lesser (cond (before_bytes y x) y x) (some z)
    go true ea true eb c ec = let d : before_bytes z x ≡ true = before-trans z y x eb ea in rw (ea, eb, d)
    go true ea false eb c ec = rw (ea, eb, ea)
    go false ea true eb c ec = rw (ea, eb)
    go false ea false eb false ec = rw (ea, eb, ea, ec)
    go false ea false eb true ec =
        by (same_bytes z y)
        (λ s. true≠false (rw (same-eq z y s) at ec) ea)
        (λ s. true≠false (before-trans y z x (before-total z y eb s) ec) ea)

lesser-then : (a b c : Option Name) → lesser_of (lesser_of a b) c ≡ lesser_of a (lesser_of b c)
unfolding lesser_of lesser
lesser-then none b c = refl
lesser-then (some x) none c = refl
lesser-then (some x) (some y) c = sym (lesser-both x y c)

lesser-none : (a : Option Name) → lesser_of a none ≡ a
unfolding lesser_of lesser
lesser-none none = refl
lesser-none (some x) = refl

least-append : (a b : List Name) → least (a ++ b) ≡ lesser_of (least a) (least b)
unfolding least lesser_of
least-append [] b = refl
least-append (x ∷ a) b = ap (lesser x) (least-append a b) ∙ sym (lesser-then (some x) (least a) (least b))

keep_append : (p : Name → Bool) (a b : List Name) → keep p (a ++ b) ≡ keep p a ++ keep p b
unfolding keep
keep_append p [] b = refl
keep_append p (x ∷ a) b = rw (keep_append p a b) (go (p x))
  where
    go : (t : Bool) → cond t (x ∷ (keep p a ++ keep p b)) (keep p a ++ keep p b) ≡ cond t (x ∷ keep p a) (keep p a) ++ keep p b
    go true = refl
    go false = refl

in-append : (table a b : List Name) → least_in table (a ++ b) ≡ lesser_of (least_in table a) (least_in table b)
unfolding least_in
in-append table a b =
    ap least (keep_append (λ n. mem_name n table) a b) ∙ least-append (keep (λ n. mem_name n table) a) (keep (λ n. mem_name n table) b)

-- ---- whether the name stands before the least so far

module _ (set : List ℕ) (o : Found) (m : Name) where
  pub less_some : (e : ℕ) (x : Name) (r : Bool) → o ≡ Some e → x ≡ name_in set e → r ≡ before_bytes m x → r ≡ is_less set o m
  unfolding is_less
  less_some e x r eo ex er = rw eo (er ∙ ap (before_bytes m) ex)

  pub less_none : o ≡ None → true ≡ is_less set o m
  unfolding is_less
  less_none eo = rw eo

pub ruleset less_laws = (less_some, less_none)

-- whether the table has it too
pub lesser_not : (t u r : Bool) → t ≡ u → t ≡ false → false ≡ (u && r)
lesser_not t u r e f = rw (← e, f)

pub lesser_is : (t u r l : Bool) → t ≡ u → r ≡ l → t ≡ true → r ≡ (u && l)
lesser_is t u r l e k f = rw (← e, f) k

pub ruleset lesser_laws = (lesser_not, lesser_is)

-- one package more: `u` says that the table has it
turned : (set : List ℕ) (u : Bool) (o : Found) (m : Name) (rest : List Name) → lesser_of (least_of set o) (least (cond u (m ∷ rest) rest))
    ≡ lesser_of (cond (u && is_less set o m) (some m) (least_of set o)) (least rest)
unfolding lesser_of least least_of is_less
turned set false o m rest = refl
turned set true None m rest = refl
turned set true (Some e) m rest = lesser-both (name_in set e) m (least rest) ∙ go (before_bytes m (name_in set e))
  where
    go : (t : Bool) → lesser (cond t m (name_in set e)) (least rest) ≡ lesser_of (cond t (some m) (some (name_in set e))) (least rest)
    go true = refl
    go false = refl

-- ---- the entry of a package of a block

pub take-few : (n : ℕ) (l : List ℕ) → length (take n l) ≤ length l
take-few zero l = omega arith
take-few (suc n) [] = omega arith
take-few (suc n) (x ∷ l) = omega (arith, take-few n l)

-- the block is a part of the set's first bytes
module _ (set : List ℕ) (size from start len : ℕ) (x m : List ℕ) (ex : x ≡ take len (drop start (take size (drop from set)))) (em : m ≡ name_of x) where
  in-front : x ≡ take len (drop (from + start) (take (from + size) set))
  in-front =
      let e : from + size - from ≡ size = omega arith in
      ex ∙ ap (take len) (ap (λ (n : ℕ). drop start (take n (drop from set))) (sym e) ∙ ap (drop start) (sym (drop-take from (from + size) set)) ∙ drop-drop start from (take (from + size) set))

  name-short : length m ≤ length set
  name-short = short set (take (from + size) set) x m (from + size) (from + start) len refl in-front em

  entry-name : length set ≤ 65535 → name_in set ((from + start + 1) * 65536 + length m) ≡ m
  entry-name = entry set (take (from + size) set) x m (from + size) (from + start) len refl in-front em

-- ---- the walk over a module's packages

-- the packages before `at` are looked at
pub record ScanAt (set starts : List ℕ) (i : ℕ) (names : List Name) (source : List ℕ) (from : ℕ) (first : Found) (at : ℕ) (low : Found) : Type 0 where
  pub within : at ≤ length source
  pub short : length set ≤ 65535
  pub source_is : source ≡ block_at set starts i
  pub from_is : from ≡ get_or starts i 0
  pub left : lesser_of (least_of set first) (least_in names (map name_of (bodies Kind.Package source)))
      ≡ lesser_of (least_of set low) (least_in names (map name_of (bodies Kind.Package (drop at source))))

pub scan-start : (set starts : List ℕ) (i : ℕ) (names : List Name) (source : List ℕ) (from : ℕ) (low : Found) → length set ≤ 65535 → source ≡ block_at set starts i
    → from ≡ get_or starts i 0 → ScanAt set starts i names source from low 0 low
scan-start set starts i names source from low s es ef = record { within = omega arith; short = s; source_is = es; from_is = ef; left = refl }

module _ (set starts : List ℕ) (i : ℕ) (names : List Name) (source : List ℕ) (from : ℕ) (first : Found) (at : ℕ) (low : Found)
    (h : ScanAt set starts i names source from first at low) (r : Next) (er : r ≡ next_of Kind.Package source at) where
  module _ (span : Span) (e : r ≡ Some span) where
    pub scan-less : length source - span.next.at < length source - at
    scan-less = next-less Kind.Package source at r er span.start span.len span.next e h.within

    inside : from + span.start ≤ 65535
    unfolding block_at
    inside =
        omega (
          arith,
          next-later Kind.Package source at r er span.start span.len span.next e,
          next-room Kind.Package source at r er span.start span.len span.next e h.within,
          body-room Kind.Package source at r er span.start span.len span.next e h.within,
          ap length h.source_is,
          length-take (get_or starts (i + 1) 0 - get_or starts i 0) (drop (get_or starts i 0) set),
          length-drop (get_or starts i 0) set,
          h.from_is,
          h.short,
        )

    -- the entry is a number of 64 bits
    pub scan-first : from + span.start < 2 ^ 64
    scan-first = omega (arith, inside)

    pub scan-second : from + span.start + 1 < 2 ^ 64
    scan-second = omega (arith, inside)

    pub scan-high : (from + span.start + 1) * 65536 < 2 ^ 64
    scan-high = omega (arith, inside)

    module _ (x m : List ℕ) (ex : x ≡ take span.len (drop span.start source)) (em : m ≡ name_of x) where
      in-set : x ≡ take span.len (drop span.start (take (get_or starts (i + 1) 0 - from) (drop from set)))
      unfolding block_at
      in-set = ex ∙ ap (λ (s : List ℕ). take span.len (drop span.start s)) h.source_is ∙ rw h.from_is

      pub scan-entry : (from + span.start + 1) * 65536 + length m < 2 ^ 64
      scan-entry = omega (arith, inside, name-short set (get_or starts (i + 1) 0 - from) from span.start span.len x m in-set em, h.short)

      module _ (t : Bool) (et : t ≡ (mem_name m names && is_less set low m)) where
        scan-turn : lesser_of (least_of set first) (least_in names (map name_of (bodies Kind.Package source)))
            ≡ lesser_of (cond t (some m) (least_of set low)) (least_in names (map name_of (bodies Kind.Package (drop span.next.at source))))
        unfolding least_of least_in keep
        scan-turn =
            h.left ∙ rw (bodies-next Kind.Package source at r er span.start span.len span.next e h.within, ← ex, ← em, et)
            (turned set (mem_name m names) low m (keep (λ n. mem_name n names) (map name_of (bodies Kind.Package (drop span.next.at source)))))

        pub scan-lesser : t ≡ true → ScanAt set starts i names source from first span.next.at (Some ((from + span.start + 1) * 65536 + length m))
        unfolding least_of
        scan-lesser y = record {
          within = next-room Kind.Package source at r er span.start span.len span.next e h.within;
          short = h.short;
          source_is = h.source_is;
          from_is = h.from_is;
          left = scan-turn ∙ rw (y, entry-name set (get_or starts (i + 1) 0 - from) from span.start span.len x m in-set em h.short);
        }

        pub scan-other : t ≡ false → ScanAt set starts i names source from first span.next.at low
        scan-other y = record {
          within = next-room Kind.Package source at r er span.start span.len span.next e h.within;
          short = h.short;
          source_is = h.source_is;
          from_is = h.from_is;
          left = scan-turn ∙ rw y;
        }

  pub scan-done : r ≡ None → least_of set low ≡ lesser_of (least_of set first) (least_in names (names_of (asked set starts) Kind.Package i))
  unfolding names_of block_of least_in keep least
  scan-done e =
      let z : lesser_of (least_of set first) (least_in names (map name_of (bodies Kind.Package source))) ≡ least_of set low =
      h.left ∙ rw (bodies-end Kind.Package source at r er e) (lesser-none (least_of set low)) in
      sym z ∙ ap (λ (s : List ℕ). lesser_of (least_of set first) (least_in names (map name_of (bodies Kind.Package s)))) h.source_is

pub ruleset scan_laws = (scan-start, scan-less, scan-first, scan-second, scan-high, scan-entry, scan-lesser, scan-other, scan-done)

-- ---- the modules at the positions

-- all their packages
abbrev pub theirs : List ℕ → List ℕ → List ℕ → List Name
theirs set starts ps = flat_map (names_of (asked set starts) Kind.Package) ps

-- those of the modules before k are looked at
pub record SharedAt (set starts ps : List ℕ) (names : List Name) (low : Found) (k : ℕ) : Type 0 where
  pub left : least_in names (theirs set starts ps) ≡ lesser_of (least_of set low) (least_in names (theirs set starts (drop k ps)))

pub shared_start : (set starts ps : List ℕ) (names : List Name) → SharedAt set starts ps names None 0
unfolding least_of lesser_of
shared_start set starts ps names = record { left = refl }

module _ (set starts ps : List ℕ) (names : List Name) (low : Found) (k : ℕ) (h : SharedAt set starts ps names low k) where
  pub shared-more : (r : Found) → k < length ps
      → least_of set r ≡ lesser_of (least_of set low) (least_in names (names_of (asked set starts) Kind.Package (get_or ps k 0))) → SharedAt set starts ps names r (k + 1)
  unfolding flat_map
  shared-more r m er = record {
    left = h.left ∙ rw (rest-next ps k m)
        (ap (lesser_of (least_of set low)) (in-append names (names_of (asked set starts) Kind.Package (get_or ps k 0)) (theirs set starts (drop (k + 1) ps)))
        ∙ sym (lesser-then (least_of set low) (least_in names (names_of (asked set starts) Kind.Package (get_or ps k 0))) (least_in names (theirs set starts (drop (k + 1) ps))))
        ∙ ap (λ (o : Option Name). lesser_of o (least_in names (theirs set starts (drop (k + 1) ps)))) (sym er));
  }

  pub shared-none : length ps ≤ k → least_of set low ≡ least_in names (theirs set starts ps)
  unfolding least_in keep least flat_map
  shared-none l = sym (h.left ∙ rw (rest-end ps k l) (lesser-none (least_of set low)))

pub ruleset shared_laws = (shared_start, shared-more, shared-none)

-- ---- the least depends only on which names there are

-- x is one of the names, and none stands before it
record Lowest (l : List Name) (x : Name) : Type 0 where
  inside : Mem x l
  low : (y : Name) → Mem y l → before_bytes y x ≡ false

not-less : (x y z : Name) → before_bytes z x ≡ false → before_bytes y z ≡ false → before_bytes y x ≡ false
not-less x y z ez ey =
    by (before_bytes y x)
    (λ t.
    by (same_bytes z x)
    (λ s. true≠false (subst (λ (w : Name). before_bytes y w ≡ true) (sym (same-eq z x s)) t) ey)
    (λ s. true≠false (before-trans y x z t (before-total z x ez s)) ey))
    (λ f. f)

lowest-one : (x : Name) → Lowest (x ∷ []) x
lowest-one x = record {
  inside = Memᴰ.head refl;
  low = λ y m. ⊎_elim (λ (s : y ≡ x). subst (λ (w : Name). before_bytes w x ≡ false) (sym s) (before_irrefl x)) (λ (s : Mem y []). absurd (Memᴰ.not-nil s)) (Memᴰ.cases_cons m);
}

-- one name more
module _ (l : List Name) (x z : Name) (h : Lowest l z) where
  lowest-old : before_bytes z x ≡ true → Lowest (x ∷ l) z
  lowest-old t = record {
    inside = Memᴰ.tail h.inside;
    low = λ y m. ⊎_elim (λ (s : y ≡ x). subst (λ (w : Name). before_bytes w z ≡ false) (sym s) (before-one-way z x t)) (λ (s : Mem y l). h.low y s) (Memᴰ.cases_cons m);
  }

  lowest-new : before_bytes z x ≡ false → Lowest (x ∷ l) x
  lowest-new t = record {
    inside = Memᴰ.head refl;
    low = λ y m. ⊎_elim (λ (s : y ≡ x). subst (λ (w : Name). before_bytes w x ≡ false) (sym s) (before_irrefl x)) (λ (s : Mem y l). not-less x y z t (h.low y s)) (Memᴰ.cases_cons m);
  }

-- what the least is
data LeastIs (l : List Name) (o : Option Name) : Type 0 where
  nothing : l ≡ [] → o ≡ none → LeastIs l o
  lowest : (x : Name) → Lowest l x → o ≡ some x → LeastIs l o

least-is : (l : List Name) → LeastIs l (least l)
unfolding least lesser
least-is [] = nothing refl refl
least-is (x ∷ l) = go (least l) (least-is l)
  where
    go : (o : Option Name) → LeastIs l o → LeastIs (x ∷ l) (lesser x o)
    go o (nothing e eo) = lowest x (subst (λ (k : List Name). Lowest (x ∷ k) x) (sym e) (lowest-one x)) (rw eo)
    go o (lowest z h eo) = pick (before_bytes z x) refl
      where
        pick : (t : Bool) → before_bytes z x ≡ t → LeastIs (x ∷ l) (lesser x o)
        pick true e = lowest z (lowest-old l x z h e) (rw (eo, e))
        pick false e = lowest x (lowest-new l x z h e) (rw (eo, e))

-- two lists with the same names have the same least
least-same : (a b : List Name) → ((n : Name) → Mem n a → Mem n b) → ((n : Name) → Mem n b → Mem n a) → least a ≡ least b
least-same a b f g = go (least-is a) (least-is b)
  where
    go : LeastIs a (least a) → LeastIs b (least b) → least a ≡ least b
    go (nothing e eo) (nothing d ep) = eo ∙ sym ep
    go (nothing e eo) (lowest y k ep) = absurd (Memᴰ.not-nil (subst (λ (l : List Name). Mem y l) e (g y k.inside)))
    go (lowest x h eo) (nothing d ep) = absurd (Memᴰ.not-nil (subst (λ (l : List Name). Mem x l) d (f x h.inside)))
    go (lowest x h eo) (lowest y k ep) =
        by (same_bytes x y)
        (λ s. eo ∙ ap (λ (z : Name). some z) (same-eq x y s) ∙ sym ep)
        (λ s. true≠false (before-total x y (k.low x (f x h.inside)) s) (h.low y (g y k.inside)))

-- ---- the packages of a block that the modules at the positions have too

abbrev pub shared_in : List ℕ → List ℕ → List ℕ → List ℕ → List Name
shared_in set starts ps b = keep (has_named (asked set starts) Kind.Package ps) (map name_of (bodies Kind.Package b))

module _ (set starts ps : List ℕ) (x : Name) where
  theirs-named : Mem x (theirs set starts ps) → has_named (asked set starts) Kind.Package ps x ≡ true
  unfolding has_named
  theirs-named m =
      let r = flat_out (names_of (asked set starts) Kind.Package) ps m in
      any_in (λ i. mem_name x (names_of (asked set starts) Kind.Package i)) r.1 (mem_name_in r.2)

  named-theirs : has_named (asked set starts) Kind.Package ps x ≡ true → Mem x (theirs set starts ps)
  unfolding has_named
  named-theirs t =
      let r = any_out (λ i. mem_name x (names_of (asked set starts) Kind.Package i)) ps t in
      flat_in (names_of (asked set starts) Kind.Package) r.1 (mem_name-out x (names_of (asked set starts) Kind.Package r.0) r.2)

module _ (b before table : List ℕ) (count : ℕ) (o : PackagesOrdered b before table count) where
  abbrev names : List Name
  names = map (name_in b) (take count table)

  pub split-sorted : is_ordered (map (name_in b) (take count table)) ≡ true
  split-sorted = rw o.names_are (ordered-is (packages_of b))

  pub split-few : 16384 ≤ length before → count ≤ length table
  split-few l = omega (arith, o.most, o.long)

  module _ (set starts ps : List ℕ) where
    -- the packages of the one that the others have, and those of the others that the one has
    shared_same : least_in (map (name_in b) (take count table)) (theirs set starts ps) ≡ least (shared_in set starts ps b)
    unfolding least_in packages_of
    shared_same =
        least-same (keep (λ n. mem_name n names) (theirs set starts ps)) (shared_in set starts ps b)
        (λ x m. let r = keep_out (λ n. mem_name n names) (theirs set starts ps) m in
        keep_in (has_named (asked set starts) Kind.Package ps)
        (mem_name-out x (map name_of (bodies Kind.Package b)) (ordered-adds-none x (packages_of b) (subst (λ (l : List Name). mem_name x l ≡ true) o.names_are r.1)))
        (theirs-named set starts ps x r.0))
        (λ x m. let r = keep_out (has_named (asked set starts) Kind.Package ps) (map name_of (bodies Kind.Package b)) m in
        keep_in (λ n. mem_name n names) (named-theirs set starts ps x r.1)
        (subst (λ (l : List Name). mem_name x l ≡ true) (sym o.names_are) (ordered_keeps x (packages_of b) (mem_name_in r.0))))

    module _ (p : ℕ) (l : Found) (el : least_of set l ≡ least_in (map (name_in b) (take count table)) (theirs set starts ps)) where
      pub split-found : (q : Halt) (entry : ℕ) (m : Name) → l ≡ Some entry → m ≡ name_in set entry → q ≡ split_of (asked set starts) ps p (some m)
          → q ≡ split_of (asked set starts) ps p (least (shared_in set starts ps b))
      unfolding least_of
      split-found q entry m f em eq =
          let z : least_of set l ≡ some m = rw (f, em) in
          eq ∙ ap (split_of (asked set starts) ps p) (sym z ∙ el ∙ shared_same)

      pub split-none : l ≡ None → Halt.Open ≡ split_of (asked set starts) ps p (least (shared_in set starts ps b))
      unfolding least_of split_of
      split-none f =
          let z : least_of set l ≡ none = rw f in
          ap (split_of (asked set starts) ps p) (sym z ∙ el ∙ shared_same)

pub ruleset split_laws = (split-sorted, split-few, split-found, split-none)

-- ---- the test by the filter

keep-none : (p : Name → Bool) (l : List Name) → ((n : Name) → Mem n l → p n ≡ false) → keep p l ≡ []
unfolding keep
keep-none p [] f = refl
keep-none p (x ∷ l) f = rw (f x (Memᴰ.head refl)) (keep-none p l (λ n m. f n (Memᴰ.tail m)))

module _ (set starts ps b : List ℕ) (p : ℕ) (eb : b ≡ block_at set starts p) where
  pub split-is : (q : Halt) → q ≡ split_of (asked set starts) ps p (least (shared_in set starts ps b)) → q ≡ split_at (asked set starts) ps p
  unfolding split_at names_of block_of
  split-is q eq = eq ∙ rw eb

  pub split-short : length set ≤ 65535 → length b ≤ 65535
  unfolding block_at
  split-short l = omega (arith, ap length eb, length-take (get_or starts (p + 1) 0 - get_or starts p 0) (drop (get_or starts p 0) set), length-drop (get_or starts p 0) set)

  -- none of the packages was marked
  pub split-unmarked : (words : List ℕ) (met : Bool) → Covers (asked set starts) Kind.Package words ps → met ≡ false
      → (met ≡ false → any (is_marked words) (map name_of (bodies Kind.Package b)) ≡ false) → Halt.Open ≡ split_at (asked set starts) ps p
  unfolding split_of least
  split-unmarked words met c f u =
      let z : shared_in set starts ps b ≡ [] =
      keep-none (has_named (asked set starts) Kind.Package ps) (map name_of (bodies Kind.Package b))
      (λ x m. covers-not (asked set starts) Kind.Package words ps x c (any-no (is_marked words) (u f) m)) in
      split-is Halt.Open (sym (rw z))

  pub split-marks : (words words₁ : List ℕ) → MarkedAll words (map name_of (bodies Kind.Package b)) words₁ → MarkedAll words (names_of (asked set starts) Kind.Package p) words₁
  unfolding names_of block_of
  split-marks words words₁ m = rw (← eb) m

pub ruleset test_laws = (split-is, split-short, split-unmarked, split-marks)
