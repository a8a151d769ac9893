-- The tables of names that records of modules tell.
use Prim.Native.Nat.{ℕ, ◌+◌, ◌-◌, ◌*◌, ◌^◌, ◌≤◌, ◌<◌}
use mathlib.Core.Path.{◌≡◌, refl, sym, ◌∙◌, ap, subst}
use mathlib.Core.Bool.{Bool, true, false, ◌||◌, or-false, or_assoc, or_comm}
use mathlib.Core.List.{List, [], ◌∷◌, map}
use native.Mathlib.Omega.{arith}
use lib.Dec.{ltb}
use lib.ListN.{length, get_or, take, drop}
use lib.Seq.{drop-drop}
use borrow.Author.Tests.{ltb-true, ltb-false}
use Rattle.records.specs.Bytes.{same_bytes}
use Rattle.records.specs.Descriptor.{requirement_of}
use Rattle.records.specs.Name.{mem_name, name_of}
use Rattle.records.specs.Order.{name_in, is_ordered, Inserted}
use Rattle.records.specs.Record.{bodies, next_in, next_of}
use Rattle.records.specs.Set.{block_at}
use Rattle.records.specs.declared.record.Cursor.{Cursor}
use Rattle.records.specs.declared.record.Kind.{Kind}
use Rattle.records.specs.Record.{Next}
use Rattle.records.proofs.Logic.{clash}
use Rattle.records.proofs.order.Laws.{drop-take}
use Rattle.records.proofs.order.Ordered.{insert-mem}
use Rattle.records.proofs.order.Packages.{name-short, entry-name}
use Rattle.records.proofs.record.Laws.{records-end}
use Rattle.records.proofs.record.Bodies.{bodies-next, bodies-end, next-less, body-room}
use Rattle.resolution.specs.Lists.{Name, any}
use Rattle.resolution.specs.Resolver.{block_of, names_of, has_named, requires_name}
use Rattle.resolution.specs.Filter.{asked, requires_in, is_required}
use Rattle.resolution.specs.Table.{told_in, kind_of, tells, tells_in, tells_at, NamePut, NamesAdded, NamesTold}
use Rattle.std.specs.Prelude.{Option, Some, None}
use Rattle.resolution.specs.declared.table.Told.{Told}
use Rattle.resolution.specs.declared.table.Told.TheVariants.{Services, Requirements}
use Rattle.resolution.proofs.ResolverRun.{any_same}
use Rattle.resolution.proofs.modules.Laws.{rest-next, rest-end}
use Rattle.resolution.proofs.modules.Shared.{take-few}
use Rattle.std.specs.Prelude.{Some, None}
use Rattle.records.specs.declared.record.Span.{Span}

-- ---- the kind of the records

pub kind_needed : (told : Told) → told ≡ Requirements → Kind.Requires ≡ kind_of told
unfolding kind_of
kind_needed told e = sym (rw e)

pub kind-used : (told : Told) → told ≡ Services → Kind.Uses ≡ kind_of told
unfolding kind_of
kind-used told e = sym (rw e)

pub ruleset kind-laws = (kind_needed, kind-used)

-- ---- the records of one module

pub body-inside : (k : Kind) (source : List ℕ) (at : ℕ) (r : Next) → r ≡ next_of k source at → (start len : ℕ) (next : Cursor) → r ≡ Some (record { start = start; len = len; next = next }) → at ≤ length source
unfolding next_of next_in
body-inside k source at r er start len next e = go (ltb at (length source)) refl
  where
    go : (b : Bool) → ltb at (length source) ≡ b → at ≤ length source
    go true t = omega (arith, ltb-true at (length source) t)
    go false t =
        let z : next_of k source at ≡ None = rw (records-end source at (ltb-false at (length source) t)) in
        clash (cc)

-- ---- one record

module _ (set : List ℕ) (to start len : ℕ) (source b : List ℕ) (es : source ≡ take to set) (eb : b ≡ take len (drop start source)) (needed : Told) where
  body_is : b ≡ take len (drop start (take to set))
  body_is = eb ∙ ap (λ (l : List ℕ). take len (drop start l)) es

  -- the name n at `at` is what the record tells
  put-told : length set ≤ 65535 → (n : List ℕ) (at : ℕ) → name_in set (at * 65536 + length n) ≡ n → ((x : Name) → tells needed x b ≡ same_bytes n x)
      → (table table₁ : List ℕ) (count r : ℕ) → count < length table → Inserted set table table₁ count (at * 65536 + length n) r
      → NamePut needed set (take len (drop start (take to set))) table count table₁ r
  put-told h n at entry told table table₁ count r l i = record {
    room = omega (arith, i.most, i.long, l);
    sorted = i.sorted;
    told = λ x.
        rw (i.names_are, entry, insert-mem x n (told_in set table count), ← body_is, told x)
        (or_comm (same_bytes n x) (mem_name x (told_in set table count)));
  }

  -- a service
  module _ (h : length set ≤ 65535) (l : start ≤ 65535) (n : List ℕ) (en : n ≡ name_of b) where
    pub used-first : start + 1 < 2 ^ 64
    used-first = omega (arith, l)

    pub used_high : (start + 1) * 65536 < 2 ^ 64
    used_high = omega (arith, l)

    pub used-entry : (start + 1) * 65536 + length n < 2 ^ 64
    used-entry = omega (arith, l, name-short set source b n to start len es eb en, h)

    pub used-name : needed ≡ Services → (table table₁ : List ℕ) (count r : ℕ) → count < length table → Inserted set table table₁ count ((start + 1) * 65536 + length n) r
        → NamePut needed set (take len (drop start (take to set))) table count table₁ r
    unfolding tells
    used-name k = put-told h n (start + 1) (entry-name set source b n to start len es eb en h) (λ x. rw (k, ← en))

  -- a requirement
  module _ (t : Bool) (et : t ≡ (requirement_of b).static) (k : needed ≡ Requirements) where
    pub put_static : t ≡ true → (table : List ℕ) (count : ℕ) → count < length table → is_ordered (map (name_in set) (take count table)) ≡ true
        → NamePut needed set (take len (drop start (take to set))) table count table count
    unfolding requires_name tells
    put_static e table count l o = record {
      room = omega (arith, l);
      sorted = o;
      told = λ x. sym (rw (← body_is, k, ← et, e) (or-false (mem_name x (told_in set table count))));
    }

    module _ (h : length set ≤ 65535) (l : start ≤ 65535) (n : List ℕ) (en : n ≡ (requirement_of b).name) where
      rest-is : drop 2 b ≡ take (len - 2) (drop (start + 2) source)
      rest-is = ap (drop 2) eb ∙ drop-take 2 len (drop start source) ∙ ap (take (len - 2)) (drop-drop 2 start source)

      name-is : n ≡ name_of (drop 2 b)
      unfolding requirement_of
      name-is = en

      pub put_first : start + 3 < 2 ^ 64
      put_first = omega (arith, l)

      pub put-high : (start + 3) * 65536 < 2 ^ 64
      put-high = omega (arith, l)

      pub put-entry : (start + 3) * 65536 + length n < 2 ^ 64
      put-entry = omega (arith, l, name-short set source (drop 2 b) n to (start + 2) (len - 2) es rest-is name-is, h)

      pub put-required : t ≡ false → (table table₁ : List ℕ) (count r : ℕ) → count < length table → Inserted set table table₁ count ((start + 3) * 65536 + length n) r
          → NamePut needed set (take len (drop start (take to set))) table count table₁ r
      unfolding requires_name tells
      put-required e =
          let at : start + 3 ≡ start + 2 + 1 = omega arith in
          put-told h n (start + 3) (rw at (entry-name set source (drop 2 b) n to (start + 2) (len - 2) es rest-is name-is h)) (λ x. rw (k, ← et, e, ← en))

pub ruleset put-laws = (used-first, used_high, used-entry, used-name, put_static, put_first, put-high, put-entry, put-required)

-- the names before `at` are in the table, and those from `at` on are still to come
pub record AddAt (needed : Told) (kind : Kind) (set source : List ℕ) (from to : ℕ) (before : List ℕ) (first : ℕ) (table : List ℕ) (count at : ℕ) : Type 0 where
  pub kind_is : kind ≡ kind_of needed
  pub long : length table ≡ length before
  pub source_is : source ≡ take to set
  pub short : length set ≤ 65535
  pub room : count ≤ length table
  pub sorted : is_ordered (told_in set table count) ≡ true
  pub left : (x : Name) → (mem_name x (told_in set before first) || tells_in needed (drop from source) x) ≡ (mem_name x (told_in set table count) || tells_in needed (drop at source) x)

pub add_start : (needed : Told) (kind : Kind) (set source : List ℕ) (from to : ℕ) (table : List ℕ) (first : ℕ) → kind ≡ kind_of needed → source ≡ take to set → length set ≤ 65535
    → first ≤ length table → is_ordered (map (name_in set) (take first table)) ≡ true → AddAt needed kind set source from to table first table first from
add_start needed kind set source from to table first ek es h k o = record { kind_is = ek; long = refl; source_is = es; short = h; room = k; sorted = o; left = λ x. refl }

module _ (needed : Told) (kind : Kind) (set source : List ℕ) (from to : ℕ) (before : List ℕ) (first : ℕ) (table : List ℕ) (count at : ℕ)
    (h : AddAt needed kind set source from to before first table count at) where
  pub add-short : length set ≤ 65535
  add-short = h.short

  pub add-sorted : is_ordered (map (name_in set) (take count table)) ≡ true
  add-sorted = h.sorted

  module _ (r : Next) (er : r ≡ next_of kind source at) where
    module _ (span : Span) (e : r ≡ Some span) where
      inside : at ≤ length source
      inside = body-inside kind source at r er span.start span.len span.next e

      pub add-fits : span.start ≤ 65535
      add-fits = omega (arith, body-room kind source at r er span.start span.len span.next e inside, ap length h.source_is, take-few to set, h.short)

      pub add-less : length source - span.next.at < length source - at
      add-less = next-less kind source at r er span.start span.len span.next e inside

      -- there is no room
      pub add-full : length table ≤ count → NamesAdded needed set (drop from (take to set)) before first table None
      add-full l = record { room = λ n z. clash (cc); sorted = λ n z. clash (cc); told = λ n z. clash (cc) }

      tells-next : (x : Name) → tells_in needed (drop at source) x ≡ (tells needed x (take span.len (drop span.start source)) || tells_in needed (drop span.next.at source) x)
      unfolding tells_in any
      tells-next x = rw (← h.kind_is, bodies-next kind source at r er span.start span.len span.next e inside)

      pub add-more : (table₁ : List ℕ) (count₁ : ℕ) → length table₁ ≡ length table → NamePut needed set (take span.len (drop span.start (take to set))) table count table₁ count₁
          → AddAt needed kind set source from to before first table₁ count₁ span.next.at
      add-more table₁ count₁ g i =
          let b : List ℕ = take span.len (drop span.start source) in
          let body_is : take span.len (drop span.start (take to set)) ≡ b = ap (λ (l : List ℕ). take span.len (drop span.start l)) (sym h.source_is) in
          record {
            kind_is = h.kind_is;
            long = g ∙ h.long;
            source_is = h.source_is;
            short = h.short;
            room = i.room;
            sorted = i.sorted;
            left = λ x.
                h.left x
                ∙ rw (tells-next x, i.told x, body_is)
                (sym (or_assoc (mem_name x (told_in set table count)) (tells needed x b) (tells_in needed (drop span.next.at source) x)));
          }

    pub add_done : r ≡ None → NamesAdded needed set (drop from (take to set)) before first table (Some count)
    unfolding tells_in any
    add_done e = record {
      room = λ n z. let q : count ≡ n = cc in subst (λ (m : ℕ). m ≤ length table) q h.room;
      sorted = λ n z. let q : count ≡ n = cc in subst (λ (m : ℕ). is_ordered (told_in set table m) ≡ true) q h.sorted;
      told = λ n z. let q : count ≡ n = cc in subst (λ (m : ℕ). (x : Name) → mem_name x (told_in set table m) ≡ (mem_name x (told_in set before first) || tells_in needed (drop from (take to set)) x)) q all;
    }
      where
        all : (x : Name) → mem_name x (told_in set table count) ≡ (mem_name x (told_in set before first) || tells_in needed (drop from (take to set)) x)
        all x =
            let k : tells_in needed (drop at source) x ≡ false = rw (← h.kind_is, bodies-end kind source at r er e) in
            sym (or-false (mem_name x (told_in set table count)))
            ∙ sym (ap (λ (l : List ℕ). mem_name x (told_in set before first) || tells_in needed (drop from l) x) (sym h.source_is) ∙ h.left x
            ∙ ap (λ (c : Bool). mem_name x (told_in set table count) || c) k)

pub ruleset add-laws = (add_start, add-short, add-sorted, add-fits, add-less, add-full, add-more, add_done)

-- ---- one module after the other

-- the names of the modules before k are in the table, and those from k on are still to come
pub record OrderAt (needed : Told) (set starts ps before table : List ℕ) (count : ℕ) (k : ℕ) : Type 0 where
  pub long : length table ≡ length before
  pub short : length set ≤ 65535
  pub room : count ≤ length table
  pub sorted : is_ordered (told_in set table count) ≡ true
  pub left : (x : Name) → (mem_name x (told_in set table count) || tells_at needed set starts (drop k ps) x) ≡ tells_at needed set starts ps x

module _ (needed : Told) (set starts ps : List ℕ) where
  pub order-start : (table : List ℕ) → length set ≤ 65535 → OrderAt needed set starts ps table table 0 0
  unfolding mem_name is_ordered
  order-start table h = record { long = refl; short = h; room = omega arith; sorted = refl; left = λ x. refl }

  -- there is no room for all
  pub order-full : (table : List ℕ) → NamesTold needed set starts ps table None
  order-full table = record { room = λ n z. clash (cc); sorted = λ n z. clash (cc); told = λ n z. clash (cc) }

  module _ (before table : List ℕ) (count : ℕ) (k : ℕ) (h : OrderAt needed set starts ps before table count k) where
    pub order-more : k < length ps → (a b : ℕ) → a ≡ get_or starts (get_or ps k 0) 0 → b ≡ get_or starts (get_or ps k 0 + 1) 0
        → (table₁ : List ℕ) (r : Option ℕ) (n : ℕ) → length table₁ ≡ length table → NamesAdded needed set (drop a (take b set)) table count table₁ r → r ≡ Some n
        → OrderAt needed set starts ps before table₁ n (k + 1)
    unfolding tells_at any block_at
    order-more l a b ea eb table₁ r n g m e = record {
      long = g ∙ h.long;
      short = h.short;
      room = m.room n e;
      sorted = m.sorted n e;
      left = λ x.
          let cut : drop a (take b set) ≡ block_at set starts (get_or ps k 0) = rw (ea, eb) (drop-take (get_or starts (get_or ps k 0) 0) (get_or starts (get_or ps k 0 + 1) 0) set) in
          rw (m.told n e x, cut)
          (or_assoc (mem_name x (told_in set table count)) (tells_in needed (block_at set starts (get_or ps k 0)) x) (tells_at needed set starts (drop (k + 1) ps) x)
          ∙ ap (λ (qs : List ℕ). mem_name x (told_in set table count) || tells_at needed set starts qs x) (sym (rest-next ps k l))
          ∙ h.left x);
    }

    pub order-done : length ps ≤ k → NamesTold needed set starts ps table (Some count)
    unfolding tells_at any
    order-done l = record {
      room = λ n z. let q : count ≡ n = cc in subst (λ (m : ℕ). m ≤ length table) q h.room;
      sorted = λ n z. let q : count ≡ n = cc in subst (λ (m : ℕ). is_ordered (told_in set table m) ≡ true) q h.sorted;
      told = λ n z. let q : count ≡ n = cc in subst (λ (m : ℕ). (x : Name) → mem_name x (told_in set table m) ≡ tells_at needed set starts ps x) q all;
    }
      where
        all : (x : Name) → mem_name x (told_in set table count) ≡ tells_at needed set starts ps x
        all x =
            sym (or-false (mem_name x (told_in set table count)))
            ∙ ap (λ (qs : List ℕ). mem_name x (told_in set table count) || tells_at needed set starts qs x) (sym (rest-end ps k l))
            ∙ h.left x

pub ruleset order_laws = (order-start, order-full, order-more, order-done)

-- ---- the names that are told are the services used, and the requirements

module _ (set starts ps : List ℕ) (x : Name) where
  pub tells-used : tells_at Services set starts ps x ≡ has_named (asked set starts) Kind.Uses ps x
  unfolding tells_at tells_in tells kind_of has_named names_of block_of mem_name
  tells-used = any_same (λ (i : ℕ). any (tells Services x) (bodies Kind.Uses (block_at set starts i))) (λ (i : ℕ). mem_name x (map name_of (bodies Kind.Uses (block_at set starts i)))) ps (λ i. go (bodies Kind.Uses (block_at set starts i)))
    where
      go : (l : List (List ℕ)) → any (tells Services x) l ≡ mem_name x (map name_of l)
      go [] = refl
      go (b ∷ l) = ap (λ (c : Bool). same_bytes (name_of b) x || c) (go l)

  pub tells-required : tells_at Requirements set starts ps x ≡ is_required (asked set starts) ps x
  unfolding tells_at tells_in tells kind_of is_required requires_in block_of
  tells-required = refl
