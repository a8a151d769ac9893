-- The blocks of a set that the check takes: by the table they say what those of the definition say, and the names in the table are
-- the names of its modules.
use Prim.Native.Nat.{ℕ, zero, suc, ◌+◌, ◌-◌, ◌≤◌, ◌<◌}
use mathlib.Core.Path.{◌≡◌, refl, sym, ◌∙◌, ap}
use mathlib.Core.List.{List, [], ◌∷◌, ◌++◌, map, map-map, flatten}
use mathlib.Core.Bool.{Bool, true, false, cond, ◌&&◌, ◌||◌, not}
use native.Mathlib.Omega.{arith}
use native.Mathlib.Nat.{add-zero}
use lib.ListN.{length, get_or, take, drop, replicate, length-append, length-map, get_or-map}
use lib.Seq.{length-take-le, drop-drop, take-add, take-append_seam}
use lib.Dec.{eqb}
use borrow.Author.Tests.{leb-true, not-true, eqb-true, eq-eqb}
use Rattle.records.specs.Bytes.{same_bytes}
use Rattle.records.specs.Name.{all_unnamed, mem_name}
use Rattle.records.specs.Record.{mark_of, mark_for, body_of, record_more, whole, records, records_from, is_of, bodies_in, bodies}
use Rattle.records.specs.Descriptor.{Descriptor, module_name, header_of, descriptor_of}
use Rattle.records.specs.Set.{Passed, name_at, table_of, check_set, up_to_next, blocks_of, blocks, block_at, modules, module_limit}
use Rattle.records.specs.declared.record.Kind.{Kind}
use Rattle.records.specs.declared.record.Kind.TheVariants.{Module, Requires, Exports, Opens, Uses, Provides, Package, MainClass, Place}
use Rattle.records.proofs.Logic.{clash, by, true≠false}
use Rattle.records.proofs.record.Laws.{IsRecord, front_record, record_first, records-cons, records-none, records-ind}
use Rattle.records.proofs.set.Steps.{begins, belongs, mains, enters, name-here, Walk, end, on, takes, module_is, place_is, place-no_module, inner-no_module, inner-no-place, main-no_module, main-no-place}
use Rattle.records.proofs.set.Table.{starts_from, starts_of, are_named, is_named, Taken, taken}
use Rattle.std.specs.Prelude.{Ok}

-- ---- the records up to the next MO, PL and all: what the table gives

-- the bytes of the records up to the next MO
unfoldable up_to_module : List (List ℕ) → List ℕ
up_to_module [] = []
up_to_module (r ∷ rs) = cond (is_of Module r) [] (r ++ up_to_module rs)

unfoldable runs_of : List (List ℕ) → List (List ℕ)
runs_of [] = []
runs_of (r ∷ rs) = cond (is_of Module r) ((r ++ up_to_module rs) ∷ runs_of rs) (runs_of rs)

-- ---- they are the front of the string

record Prefix (t : List ℕ) : Type 0 where
  is_front : take (length (up_to_module (records t))) t ≡ up_to_module (records t)

prefix-stop : (t : List ℕ) → whole t ≡ false → Prefix t
unfolding up_to_module
prefix-stop t e = record { is_front = rw (records-none t e) }

prefix-more : (t : List ℕ) → whole t ≡ true → Prefix (drop (suc (record_more t)) t) → Prefix t
unfolding up_to_module whole
prefix-more t e ih = record { is_front = rw (records-cons t e) (go (is_of Module f) refl) }
  where
    n : ℕ
    n = suc (record_more t)

    f : List ℕ
    f = take n t

    x : List ℕ
    x = up_to_module (records (drop n t))

    long : length f ≡ n
    long = length-take-le n t (leb-true n (length t) e)

    go : (b : Bool) → is_of Module f ≡ b → take (length (cond (is_of Module f) [] (f ++ x))) t ≡ cond (is_of Module f) [] (f ++ x)
    go true eb = rw eb
    go false eb = rw (eb, length-append f x, long, take-add n (length x) t, ih.is_front)

prefix : (t : List ℕ) → Prefix t
prefix = records-ind Prefix prefix-stop prefix-more

-- ---- the first record of a block is its MO

pub block-name : (r x : List ℕ) → IsRecord r → is_of Module r ≡ true → (descriptor_of (r ++ x)).name ≡ module_name (body_of r)
unfolding descriptor_of header_of bodies bodies_in
block-name r x h m = rw (record_first r x h, m)

add-long : (at : ℕ) (a b : List ℕ) → at + length (a ++ b) ≡ at + length a + length b
add-long at a b = rw length-append (omega arith)

-- ---- the parts of s between these starts, the last up to e

unfoldable pub next_or : ℕ → List ℕ → ℕ
next_or e [] = e
next_or e (b ∷ l) = b

unfoldable pub parts_of : List ℕ → List ℕ → ℕ → List (List ℕ)
parts_of s [] e = []
parts_of s (a ∷ l) e = take (next_or e l - a) (drop a s) ∷ parts_of s l e

next_start : (at : ℕ) (rs : List (List ℕ)) (e : ℕ) → at + length (flatten rs) ≡ e → next_or e (starts_from at rs) ≡ at + length (up_to_module rs)
unfolding next_or starts_from flatten up_to_module
next_start at [] e h = sym h
next_start at (r ∷ rs) e h = go (is_of Module r) (next_start (at + length r) rs e (sym (add-long at r (flatten rs)) ∙ h))
  where
    go : (b : Bool) → next_or e (starts_from (at + length r) rs) ≡ at + length r + length (up_to_module rs)
        → next_or e (cond b (at ∷ starts_from (at + length r) rs) (starts_from (at + length r) rs)) ≡ at + length (cond b [] (r ++ up_to_module rs))
    go true ih = sym (add-zero at)
    go false ih = ih ∙ sym (add-long at r (up_to_module rs))

record Parts (s t : List ℕ) : Type 0 where
  parts : (at : ℕ) → drop at s ≡ t → at + length (flatten (records t)) ≡ length s → parts_of s (starts_from at (records t)) (length s) ≡ runs_of (records t)
  names : (at : ℕ) → drop at s ≡ t → map (name_at s) (starts_from at (records t)) ≡ map (λ (b : List ℕ). (descriptor_of b).name) (runs_of (records t))

parts-stop : (s t : List ℕ) → whole t ≡ false → Parts s t
unfolding parts_of starts_from runs_of
parts-stop s t e = record { parts = λ at d u. rw (records-none t e); names = λ at d. rw (records-none t e) }

parts_more : (s t : List ℕ) → whole t ≡ true → Parts s (drop (suc (record_more t)) t) → Parts s t
unfolding parts_of starts_from runs_of flatten whole
parts_more s t e ih = record {
  parts = λ at d u. rw (records-cons t e) (go at d (is_of Module f) (ih.parts (at + length f) (later at d) (rest at (ap (λ (rs : List (List ℕ)). at + length (flatten rs)) (sym (records-cons t e)) ∙ u))) (ap (λ (rs : List (List ℕ)). at + length (flatten rs)) (sym (records-cons t e)) ∙ u));
  names = λ at d. rw (records-cons t e) (named at d (is_of Module f) refl (ih.names (at + length f) (later at d)));
}
  where
    n : ℕ
    n = suc (record_more t)

    f : List ℕ
    f = take n t

    u : List ℕ
    u = drop n t

    x : List ℕ
    x = up_to_module (records u)

    long : length f ≡ n
    long = length-take-le n t (leb-true n (length t) e)

    later : (at : ℕ) → drop at s ≡ t → drop (at + length f) s ≡ u
    later at d = rw long (sym (drop-drop n at s) ∙ ap (drop n) d)

    rest : (at : ℕ) → at + length (f ++ flatten (records u)) ≡ length s → at + length f + length (flatten (records u)) ≡ length s
    rest at h = sym (add-long at f (flatten (records u))) ∙ h

    block : take (length f + length x) t ≡ f ++ x
    block = rw (long, take-add n (length x) t, (prefix u).is_front)

    go : (at : ℕ) → drop at s ≡ t → (b : Bool) → parts_of s (starts_from (at + length f) (records u)) (length s) ≡ runs_of (records u) → at + length (f ++ flatten (records u)) ≡ length s
        → parts_of s (cond b (at ∷ starts_from (at + length f) (records u)) (starts_from (at + length f) (records u))) (length s) ≡ cond b ((f ++ x) ∷ runs_of (records u)) (runs_of (records u))
    go at d true h k =
        let q : next_or (length s) (starts_from (at + length f) (records u)) ≡ at + length f + length x = next_start (at + length f) (records u) (length s) (rest at k) in
        let w : at + length f + length x - at ≡ length f + length x = omega arith in
        rw (q, w, d, block, h)
    go at d false h k = h

    named : (at : ℕ) → drop at s ≡ t → (b : Bool) → is_of Module f ≡ b → map (name_at s) (starts_from (at + length f) (records u)) ≡ map (λ (y : List ℕ). (descriptor_of y).name) (runs_of (records u))
        → map (name_at s) (cond (is_of Module f) (at ∷ starts_from (at + length f) (records u)) (starts_from (at + length f) (records u))) ≡ map (λ (y : List ℕ). (descriptor_of y).name) (cond (is_of Module f) ((f ++ x) ∷ runs_of (records u)) (runs_of (records u)))
    named at d true eb h = rw (eb, h, name-here s t at e d, block-name f x (front_record t e) eb)
    named at d false eb h = rw (eb, h)

parted : (s t : List ℕ) → Parts s t
parted s = records-ind (Parts s) (parts-stop s) (parts_more s)

-- ---- the table gives the parts

table-part : (s starts : List ℕ) (e : ℕ) (zs : List ℕ) (i : ℕ) → i < length starts → block_at s (starts ++ (e ∷ zs)) i ≡ get_or (parts_of s starts e) i []
unfolding block_at parts_of next_or
table-part s [] e zs i l = absurd (omega arith)
table-part s (a ∷ []) e zs zero l = refl
table-part s (a ∷ b ∷ ss) e zs zero l = refl
table-part s (a ∷ ss) e zs (suc i) l =
    let q : suc i + 1 ≡ suc (i + 1) = omega arith in
    rw q (table-part s ss e zs i (omega (arith, l)))

parts-length : (s starts : List ℕ) (e : ℕ) → length (parts_of s starts e) ≡ length starts
unfolding parts_of
parts-length s [] e = refl
parts-length s (a ∷ l) e = ap suc (parts-length s l e)

-- ---- PL says nothing of a module

-- a record of kind k is no PL
unfoldable pub is_other : Kind → Bool
is_other k = not (eqb (mark_for k) 0x504C)

pub other-kind : (k : Kind) (r : List ℕ) → is_other k ≡ true → is_of Place r ≡ true → is_of k r ≡ false
unfolding is_other is_of mark_for
other-kind k r o e =
    let q : mark_of r ≡ 0x504C = eqb-true (mark_of r) 0x504C e in
    by (eqb (mark_of r) (mark_for k))
    (λ h. true≠false (eq-eqb (mark_for k) 0x504C (sym (eqb-true (mark_of r) (mark_for k) h) ∙ q)) (not-true (eqb (mark_for k) 0x504C) o)) (λ h. h)

-- where the present place has no module yet, only PL stand before the next MO
record Quiet (k : Kind) (rs : List (List ℕ)) : Type 0 where
  nothing : up_to_next rs ≡ []
  silent : bodies k (up_to_module rs) ≡ []

quiet : {s : List ℕ} {p q : Passed} {at : ℕ} {rs : List (List ℕ)} (k : Kind) → is_other k ≡ true → Walk s p at rs q → length p.here ≤ 0 → Quiet k rs
unfolding up_to_next up_to_module bodies bodies_in records records_from
quiet k o (end e) l = record { nothing = refl; silent = refl }
quiet k o (on {r = r} h (begins b) w) l = record { nothing = rw (module_is r b.kind); silent = rw (module_is r b.kind) }
quiet k o (on h (belongs b) w) l = absurd (omega (arith, b.behind))
quiet k o (on h (mains b) w) l = absurd (omega (arith, b.behind))
quiet k o (on {r = r} {rs = rs} h (enters b) w) l = record {
  nothing = rw (place-no_module r b.kind, place_is r b.kind);
  silent = rw (place-no_module r b.kind, record_first r (up_to_module rs) h.one, other-kind k r o (place_is r b.kind)) (quiet k o w (omega arith)).silent;
}

-- so of every other kind the records up to the next MO are those that belong to the module
same-bodies : {s : List ℕ} {p q : Passed} {at : ℕ} {rs : List (List ℕ)} (k : Kind) → is_other k ≡ true → Walk s p at rs q → bodies k (up_to_module rs) ≡ bodies k (up_to_next rs)
unfolding up_to_next up_to_module bodies bodies_in records records_from
same-bodies k o (end e) = refl
same-bodies k o (on {r = r} h (begins b) w) = rw (module_is r b.kind)
same-bodies k o (on {r = r} {rs = rs} h (belongs b) w) =
    rw (inner-no_module r b.kind, inner-no-place r b.kind, record_first r (up_to_module rs) h.one, record_first r (up_to_next rs) h.one, same-bodies k o w)
same-bodies k o (on {r = r} {rs = rs} h (mains b) w) =
    rw (main-no_module r b.kind, main-no-place r b.kind, record_first r (up_to_module rs) h.one, record_first r (up_to_next rs) h.one, same-bodies k o w)
same-bodies k o (on {r = r} {rs = rs} h (enters b) w) =
    rw (place-no_module r b.kind, place_is r b.kind, record_first r (up_to_module rs) h.one, other-kind k r o (place_is r b.kind)) (quiet k o w (omega arith)).silent

-- so a module's block says what the table's part says
module _ {s : List ℕ} {p q : Passed} {at : ℕ} {rs : List (List ℕ)} (r : List ℕ) (one : IsRecord r) (w : Walk s p at rs q) where
  front_same : (k : Kind) → is_other k ≡ true → bodies k (r ++ up_to_module rs) ≡ bodies k (r ++ up_to_next rs)
  unfolding bodies bodies_in
  front_same k o = rw (record_first r (up_to_module rs) one, record_first r (up_to_next rs) one, same-bodies k o w)

  front-says : descriptor_of (r ++ up_to_module rs) ≡ descriptor_of (r ++ up_to_next rs)
  unfolding descriptor_of header_of is_other mark_for
  front-says = rw (front_same Module refl, front_same Requires refl, front_same Exports refl, front_same Opens refl, front_same Uses refl, front_same Provides refl, front_same Package refl, front_same MainClass refl)

said : {s : List ℕ} {p q : Passed} {at : ℕ} {rs : List (List ℕ)} → Walk s p at rs q → map descriptor_of (runs_of rs) ≡ map descriptor_of (blocks_of rs)
unfolding runs_of blocks_of
said (end e) = refl
said (on {r = r} h (begins b) w) = rw (module_is r b.kind, front-says r h.one w, said w)
said (on {r = r} h (belongs b) w) = rw (inner-no_module r b.kind) (said w)
said (on {r = r} h (mains b) w) = rw (main-no_module r b.kind) (said w)
said (on {r = r} h (enters b) w) = rw (place-no_module r b.kind) (said w)

-- ---- names

-- none is ALL-UNNAMED
none-unnamed : (s l : List ℕ) → are_named s l ≡ true → mem_name all_unnamed (map (name_at s) l) ≡ false
unfolding are_named is_named mem_name
none-unnamed s [] e = refl
none-unnamed s (a ∷ l) e = go (same_bytes (name_at s a) all_unnamed) (none-unnamed s l) e
  where
    go : (b : Bool) → (are_named s l ≡ true → mem_name all_unnamed (map (name_at s) l) ≡ false) → (not b && are_named s l) ≡ true → (b || mem_name all_unnamed (map (name_at s) l)) ≡ false
    go true ih h = clash (cc)
    go false ih h = ih h

-- ---- a set that the check takes

-- what upper layers know of it: n modules, by the table t
pub record GoodSet (s : List ℕ) (n : ℕ) (t : List ℕ) : Type 0 where
  pub short : length s ≤ 65535
  pub few : n ≤ module_limit
  pub count : n ≡ length (blocks s)
  pub block_is : (i : ℕ) → i < n → descriptor_of (block_at s t i) ≡ get_or (modules s) i (descriptor_of [])
  pub names : map (name_at s) (take n t) ≡ map (λ (m : Descriptor). m.name) (modules s)
  pub named : mem_name all_unnamed (map (λ (m : Descriptor). m.name) (modules s)) ≡ false

pub good-set : (s : List ℕ) (n : ℕ) (t : List ℕ) → check_set s ≡ Ok (record { count = n; starts = t }) → GoodSet s n t
unfolding starts_of table_of blocks modules
good-set s n t e = record {
  short = k.short;
  few = k.few;
  count = k.count ∙ sym (parts-length s (starts_of s) (length s)) ∙ ap length cut ∙ sym (length-map (runs_of (records s)) descriptor_of) ∙ ap length (says) ∙ length-map (blocks_of (records s)) descriptor_of;
  block_is = λ i l.
      ap descriptor_of (rw k.table (table-part s (starts_of s) (length s) (replicate (module_limit - length (starts_of s)) 0) i (omega (arith, l, k.count))) ∙ ap (λ (p : List (List ℕ)). get_or p i []) cut)
      ∙ sym (get_or-map descriptor_of (runs_of (records s)) i [])
      ∙ ap (λ (l : List Descriptor). get_or l i (descriptor_of [])) (says);
  names = same_names;
  named = rw (← same_names, front) (none-unnamed s (starts_of s) k.named);
}
  where
    k : Taken s n t
    k = taken s n t e

    says : map descriptor_of (runs_of (records s)) ≡ map descriptor_of (blocks_of (records s))
    says = said (takes s n t e).walk

    cut : parts_of s (starts_of s) (length s) ≡ runs_of (records s)
    cut = (parted s s).parts 0 refl (omega (arith, k.used))

    front : take n t ≡ starts_of s
    front = rw (k.table, k.count) (take-append_seam (starts_of s) (length s ∷ replicate (module_limit - length (starts_of s)) 0))

    same_names : map (name_at s) (take n t) ≡ map (λ (m : Descriptor). m.name) (modules s)
    same_names = rw front ((parted s s).names 0 refl ∙ sym (map-map (λ (m : Descriptor). m.name) descriptor_of (runs_of (records s))) ∙ ap (map (λ (m : Descriptor). m.name)) (says))
