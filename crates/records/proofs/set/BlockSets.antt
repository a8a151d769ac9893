-- Blocks of sets that the check takes, one after the other, are again such a set, where no name stands twice and they are few and short
-- enough.
use Prim.Native.Nat.{ℕ, ◌+◌, ◌≤◌, ◌<◌}
use mathlib.Core.Path.{◌≡◌, refl, sym, ◌∙◌, ap}
use mathlib.Core.List.{List, [], ◌∷◌, ◌++◌, map, map-append, flatten, append-nil, append_assoc, Memᴰ}
use mathlib.Core.Logic.{⊎_elim}
use mathlib.Core.Bool.{Bool, true, false, ◌&&◌, not}
use native.Mathlib.Omega.{arith}
use lib.ListN.{length, drop, length-append}
use lib.Seq.{drop-drop, drop-append_seam}
use borrow.Author.Tests.{eq-eqb, le-ltb, not-true}
use Rattle.records.specs.Bytes.{same_bytes}
use Rattle.records.specs.Name.{all_unnamed, mem_name}
use Rattle.records.specs.Record.{mark_of, body_of, records, records_from, set_kind, is_body}
use Rattle.records.specs.Descriptor.{module_name, descriptor_of}
use Rattle.records.specs.Set.{Passed, none_yet, with_module, with_main, name_at, accepted, check_from, check_set, up_to_next, blocks_of, blocks, module_limit}
use Rattle.records.specs.Places.{has_place, names_in, distinct}
use Rattle.records.specs.declared.record.Kind.TheVariants.{Module, MainClass}
use Rattle.records.proofs.Logic.{and_left, and_right, or_left, or_right}
use Rattle.records.proofs.bytes.Laws.{same_refl}
use Rattle.records.proofs.name.Lists.{not_same, mem-not-last}
use Rattle.records.proofs.record.Laws.{IsRecord, record_first, first-whole, first-front}
use Rattle.records.proofs.set.Blocks.{block-name}
use Rattle.records.proofs.set.Steps.{is_inner, Begins, begins, belongs, mains, enters, name-here, Walk, end, on, takes, step-goes, module_is, module_no_place, place_is, place-no_module, inner-no_module, inner-no-place, main-no_module, main-no-place}
use Rattle.std.specs.Prelude.{Ok}

-- ---- a block of such a set

-- well-formed records of a module behind its MO, with at most one MC, or none where the module has one already
pub data Follows : Bool → List (List ℕ) → Type 0 where
  none : {m : Bool} → Follows m []
  inner : {m : Bool} {r : List ℕ} {rs : List (List ℕ)} → IsRecord r → is_inner (set_kind (mark_of r)) ≡ true → is_body (set_kind (mark_of r)) (body_of r) ≡ true → Follows m rs → Follows m (r ∷ rs)
  main : {r : List ℕ} {rs : List (List ℕ)} → IsRecord r → set_kind (mark_of r) ≡ MainClass → is_body MainClass (body_of r) ≡ true → Follows true rs → Follows false (r ∷ rs)

-- a well-formed MO with a name that is not ALL-UNNAMED, and such records
pub record GoodBlock (b : List ℕ) : Type 0 where
  pub header : List ℕ
  pub rest : List (List ℕ)
  pub is : b ≡ header ++ flatten rest
  pub one : IsRecord header
  pub kind : set_kind (mark_of header) ≡ Module
  pub good : is_body Module (body_of header) ≡ true
  pub named : same_bytes (module_name (body_of header)) all_unnamed ≡ false
  pub follows : Follows false rest

record Front (m : Bool) (rs : List (List ℕ)) : Type 0 where
  rest : List (List ℕ)
  is : up_to_next rs ≡ flatten rest
  follows : Follows m rest

front_of : {s : List ℕ} {p q : Passed} {at : ℕ} {rs : List (List ℕ)} → Walk s p at rs q → Front p.main rs
unfolding up_to_next flatten
front_of (end e) = record { rest = []; is = refl; follows = none }
front_of (on {r = r} c (begins b) w) = record { rest = []; is = rw (module_is r b.kind); follows = none }
front_of (on {p = p} {r = r} {rs = rs} c (belongs b) w) =
    let f : Front p.main rs = front_of w in
    record { rest = r ∷ f.rest; is = rw (inner-no_module r b.kind, inner-no-place r b.kind, f.is); follows = inner c.one b.kind b.good f.follows }
front_of (on {r = r} {rs = rs} c (mains b) w) =
    let f : Front true rs = front_of w in
    record { rest = r ∷ f.rest; is = rw (main-no_module r b.kind, main-no-place r b.kind, f.is); follows = rw b.once (main c.one b.kind b.good f.follows) }
front_of (on {r = r} c (enters b) w) = record { rest = []; is = rw (place-no_module r b.kind, place_is r b.kind); follows = none }

each-good : {s : List ℕ} {p q : Passed} {at : ℕ} {rs : List (List ℕ)} → Walk s p at rs q → (b : List ℕ) → Memᴰ b (blocks_of rs) → GoodBlock b
unfolding blocks_of
each-good (end e) x m = absurd (mathlib.Core.List.Memᴰ.not-nil m)
each-good (on {r = r} {rs = rs} c (begins b) w) x m =
    let f : Front false rs = front_of w in
    let k : Memᴰ x ((r ++ up_to_next rs) ∷ blocks_of rs) = rw (module_is r b.kind) at m in
    ⊎_elim
    (λ (q : x ≡ r ++ up_to_next rs). record { header = r; rest = f.rest; is = q ∙ ap (λ (y : List ℕ). r ++ y) f.is; one = c.one; kind = b.kind; good = b.good; named = b.named; follows = f.follows })
    (λ q. each-good w x q) (mathlib.Core.List.Memᴰ.cases_cons k)
each-good (on {r = r} c (belongs b) w) x m = each-good w x (rw (inner-no_module r b.kind) at m)
each-good (on {r = r} c (mains b) w) x m = each-good w x (rw (main-no_module r b.kind) at m)
each-good (on {r = r} c (enters b) w) x m = each-good w x (rw (place-no_module r b.kind) at m)

pub good-block : (s : List ℕ) (n : ℕ) (t : List ℕ) → check_set s ≡ Ok (record { count = n; starts = t }) → (b : List ℕ) → Memᴰ b (blocks s) → GoodBlock b
unfolding blocks
good-block s n t e b m = each-good (takes s n t e).walk b m

-- ---- the records of such blocks, one after the other

follows-records : {m : Bool} {rs : List (List ℕ)} (x : List ℕ) → Follows m rs → records (flatten rs ++ x) ≡ rs ++ records x
unfolding flatten
follows-records x none = refl
follows-records x (inner {r = r} {rs = rs} o k g f) = rw (append_assoc r (flatten rs) x, record_first r (flatten rs ++ x) o, follows-records x f)
follows-records x (main {r = r} {rs = rs} o k g f) = rw (append_assoc r (flatten rs) x, record_first r (flatten rs ++ x) o, follows-records x f)

module _ (b : List ℕ) (g : GoodBlock b) where
  block-records : (x : List ℕ) → records (b ++ x) ≡ g.header ∷ (g.rest ++ records x)
  block-records x = rw (g.is, append_assoc g.header (flatten g.rest) x, record_first g.header (flatten g.rest ++ x) g.one, follows-records x g.follows)

  pub block-alone : records b ≡ g.header ∷ g.rest
  unfolding records records_from
  block-alone = rw (append-nil b, append-nil g.rest) at (block-records [])

  named-block : (descriptor_of b).name ≡ module_name (body_of g.header)
  named-block = rw g.is (block-name g.header (flatten g.rest) g.one (module_is g.header g.kind))

-- what follows an MO is its block's, and begins none
follows-front : {m : Bool} {rs : List (List ℕ)} (more : List (List ℕ)) → Follows m rs → up_to_next (rs ++ more) ≡ flatten rs ++ up_to_next more
unfolding up_to_next flatten
follows-front more none = refl
follows-front more (inner {r = r} {rs = rs} o k g f) = rw (inner-no_module r k, inner-no-place r k, follows-front more f, append_assoc r (flatten rs) (up_to_next more))
follows-front more (main {r = r} {rs = rs} o k g f) = rw (main-no_module r k, main-no-place r k, follows-front more f, append_assoc r (flatten rs) (up_to_next more))

follows-blocks : {m : Bool} {rs : List (List ℕ)} (more : List (List ℕ)) → Follows m rs → blocks_of (rs ++ more) ≡ blocks_of more
unfolding blocks_of
follows-blocks more none = refl
follows-blocks more (inner {r = r} o k g f) = rw (inner-no_module r k) (follows-blocks more f)
follows-blocks more (main {r = r} o k g f) = rw (main-no_module r k) (follows-blocks more f)

follows-places : {m : Bool} {rs : List (List ℕ)} (more : List (List ℕ)) → Follows m rs → has_place (rs ++ more) ≡ has_place more
unfolding has_place
follows-places more none = refl
follows-places more (inner {r = r} o k g f) = rw (inner-no-place r k) (follows-places more f)
follows-places more (main {r = r} o k g f) = rw (main-no-place r k) (follows-places more f)

abbrev AllGood : List (List ℕ) → Type 0
AllGood bs = (b : List ℕ) → Memᴰ b bs → GoodBlock b

joined-front : (bs : List (List ℕ)) → AllGood bs → up_to_next (records (flatten bs)) ≡ []
unfolding flatten up_to_next records records_from
joined-front [] h = refl
joined-front (b ∷ bs) h =
    let g : GoodBlock b = h b (mathlib.Core.List.Memᴰ.head refl) in
    rw (block-records b g (flatten bs), module_is g.header g.kind)

joined-blocks : (bs : List (List ℕ)) → AllGood bs → blocks_of (records (flatten bs)) ≡ bs
unfolding flatten blocks_of records records_from
joined-blocks [] h = refl
joined-blocks (b ∷ bs) h =
    let g : GoodBlock b = h b (mathlib.Core.List.Memᴰ.head refl) in
    let more : List (List ℕ) = records (flatten bs) in
    let front : up_to_next (g.rest ++ more) ≡ flatten g.rest = follows-front more g.follows ∙ rw (joined-front bs (λ x m. h x (mathlib.Core.List.Memᴰ.tail m)), append-nil (flatten g.rest)) in
    rw (block-records b g (flatten bs), module_is g.header g.kind, front, ← g.is, follows-blocks more g.follows, joined-blocks bs (λ x m. h x (mathlib.Core.List.Memᴰ.tail m)))

joined-places : (bs : List (List ℕ)) → AllGood bs → has_place (records (flatten bs)) ≡ false
unfolding flatten has_place records records_from
joined-places [] h = refl
joined-places (b ∷ bs) h =
    let g : GoodBlock b = h b (mathlib.Core.List.Memᴰ.head refl) in
    rw (block-records b g (flatten bs), module_no_place g.header g.kind, follows-places (records (flatten bs)) g.follows) (joined-places bs (λ x m. h x (mathlib.Core.List.Memᴰ.tail m)))

-- ---- the check takes them

-- a state behind records that begin no module and no place
record Behind (s : List ℕ) (p : Passed) (at : ℕ) (rs more : List (List ℕ)) : Type 0 where
  to : Passed
  starts : to.starts ≡ p.starts
  here : to.here ≡ p.here
  left : check_from s p at (rs ++ more) ≡ check_from s to (at + length (flatten rs)) more

follows-pass : (s : List ℕ) (p : Passed) (at : ℕ) {m : Bool} {rs : List (List ℕ)} (more : List (List ℕ)) → 0 < length p.here → p.main ≡ m → Follows m rs → Behind s p at rs more
unfolding check_from flatten
follows-pass s p at more l e none = let z : at + 0 ≡ at = omega arith in record { to = p; starts = refl; here = refl; left = rw z }
follows-pass s p at more l e (inner {r = r} {rs = rs} o k g f) =
    let b : Behind s p (at + length r) rs more = follows-pass s p (at + length r) more l e f in
    let z : at + length r + length (flatten rs) ≡ at + length (r ++ flatten rs) = rw length-append (omega arith) in
    record {
      to = b.to;
      starts = b.starts;
      here = b.here;
      left = step-goes s p at r (λ q. check_from s q (at + length r) (rs ++ more)) (belongs (record { kind = k; good = g; behind = l })) ∙ b.left ∙ rw z;
    }
follows-pass s p at more l e (main {r = r} {rs = rs} o k g f) =
    let b : Behind s (with_main p) (at + length r) rs more = follows-pass s (with_main p) (at + length r) more l refl f in
    let z : at + length r + length (flatten rs) ≡ at + length (r ++ flatten rs) = rw length-append (omega arith) in
    record {
      to = b.to;
      starts = b.starts;
      here = b.here;
      left = step-goes s p at r (λ q. check_from s q (at + length r) (rs ++ more)) (mains (record { kind = k; good = g; behind = l; once = e })) ∙ b.left ∙ rw z;
    }

-- the name of an MO by its offset
name-at : (s : List ℕ) (at : ℕ) (r x : List ℕ) → IsRecord r → drop at s ≡ r ++ x → name_at s at ≡ module_name (body_of r)
name-at s at r x o d = name-here s (r ++ x) at (first-whole r x o) d ∙ rw (first-front r x o)

-- none of these names is among those of the modules so far
abbrev Unlike : List ℕ → List ℕ → List (List ℕ) → Type 0
Unlike s here bs = (n : List ℕ) → mem_name n (names_in bs) ≡ true → mem_name n (map (name_at s) here) ≡ false

joined-pass : (s : List ℕ) (bs : List (List ℕ)) (p : Passed) (at : ℕ) → AllGood bs → drop at s ≡ flatten bs → at + length (flatten bs) ≡ length s
    → Unlike s p.here bs → distinct (names_in bs) ≡ true → length p.starts + length bs ≤ module_limit
    → (l : List ℕ) × (check_from s p at (records (flatten bs)) ≡ accepted l (length s))
unfolding flatten check_from distinct mem_name records records_from
joined-pass s [] p at h d u a e l = (p.starts, rw (eq-eqb at (length s) (omega (arith, u))))
joined-pass s (b ∷ bs) p at h d u a e l =
    let i : (y : List ℕ) × (check_from s w.to next more ≡ accepted y (length s)) =
    joined-pass s bs w.to next (λ x m. h x (mathlib.Core.List.Memᴰ.tail m)) later (omega (arith, u, length-append b (flatten bs), long)) unlike (and_right (not (mem_name name (names_in bs))) (distinct (names_in bs)) once) few in
    (i.0, rw (block-records b g (flatten bs)) (step-goes s p at g.header (λ q. check_from s q (at + length g.header) (g.rest ++ more)) (begins first) ∙ w.left ∙ i.1))
  where
    g : GoodBlock b
    g = h b (mathlib.Core.List.Memᴰ.head refl)

    more : List (List ℕ)
    more = records (flatten bs)

    name : List ℕ
    name = module_name (body_of g.header)

    once : (not (mem_name name (names_in bs)) && distinct (names_in bs)) ≡ true
    once = rw (named-block b g) at e

    first : Begins s p g.header
    first = record {
      kind = g.kind;
      good = g.good;
      few = omega (arith, l);
      named = g.named;
      new = a name (rw (named-block b g) (or_left (same_bytes name name) (mem_name name (names_in bs)) (same_refl name)));
    }

    w : Behind s (with_module p at) (at + length g.header) g.rest more
    w = follows-pass s (with_module p at) (at + length g.header) more (rw length-append (omega arith)) refl g.follows

    next : ℕ
    next = at + length g.header + length (flatten g.rest)

    long : next ≡ at + length b
    long = omega (arith, ap length g.is, length-append g.header (flatten g.rest))

    later : drop next s ≡ flatten bs
    later = rw long (sym (drop-drop (length b) at s) ∙ ap (drop (length b)) d ∙ drop-append_seam b (flatten bs))

    named-at : name_at s at ≡ name
    named-at = name-at s at g.header (flatten g.rest ++ flatten bs) g.one (d ∙ ap (λ (x : List ℕ). x ++ flatten bs) g.is ∙ append_assoc g.header (flatten g.rest) (flatten bs))

    unlike : Unlike s w.to.here bs
    unlike n k =
        let other : same_bytes name n ≡ false = not_same (names_in bs) name n (not-true (mem_name name (names_in bs)) (and_left (not (mem_name name (names_in bs))) (distinct (names_in bs)) once)) k in
        rw (w.here, map-append (name_at s) p.here (at ∷ []), named-at) (mem-not-last n (map (name_at s) p.here) name (a n (or_right (same_bytes (descriptor_of b).name n) (mem_name n (names_in bs)) k)) other)

    few : length w.to.starts + length bs ≤ module_limit
    few = rw (w.starts, length-append) (omega (arith, l))

-- the check takes them, they are the blocks of that set, and it has no PL
pub record Joined (bs : List (List ℕ)) : Type 0 where
  pub starts : List ℕ
  pub taken : check_set (flatten bs) ≡ accepted starts (length (flatten bs))
  pub blocks_are : blocks (flatten bs) ≡ bs
  pub one_place : has_place (records (flatten bs)) ≡ false

pub joined : (bs : List (List ℕ)) → ((b : List ℕ) → Memᴰ b bs → GoodBlock b) → distinct (names_in bs) ≡ true → length bs ≤ module_limit → length (flatten bs) ≤ 65535 → Joined bs
unfolding check_set blocks mem_name
joined bs h e few short =
    let v : List ℕ = flatten bs in
    let i : (y : List ℕ) × (check_from v none_yet 0 (records v) ≡ accepted y (length v)) = joined-pass v bs none_yet 0 h refl (omega arith) (λ n k. refl) e (omega (arith, few)) in
    record { starts = i.0; taken = rw (le-ltb 65535 (length v) short) i.1; blocks_are = joined-blocks bs h; one_place = joined-places bs h }
