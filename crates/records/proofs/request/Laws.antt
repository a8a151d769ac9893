-- A request: what each turn of its check shows, and what each return of the questions shows.
use Prim.Native.Nat.{ℕ, ◌+◌, ◌≤◌, ◌<◌}
use mathlib.Core.Path.{◌≡◌, refl, sym, ◌∙◌, ap}
use mathlib.Core.List.{List, [], ◌∷◌, map}
use mathlib.Core.Bool.{Bool, true, false, cond, ◌&&◌, ◌||◌, not, and-false, or-false}
use mathlib.Core.Option.{some}
use native.Mathlib.Omega.{arith}
use lib.ListN.{length, take, drop}
use lib.Dec.{ltb, eqb}
use borrow.Author.Tests.{eq-eqb, ne_eqb, lt-ltb, le-ltb, ltb-false, eqb-true}
use types.Run.{OneOf, miss}
use denote.Enum.Declared.{tag_of}
use Rattle.records.specs.Bytes.{same_bytes}
use Rattle.records.specs.Name.{java_base, name_of, after_name, list_of, mem_name}
use Rattle.records.specs.Record.{mark_of, body_of, records, step_at, mark_for, kind_in, is_body, is_of, bodies_in, bodies, next_of, begins, first_of}
use Rattle.records.specs.Request.{same_kind, pick_row, none_once, row_of, row_on, check_records_from, check_records, then_request, check_inputs, read_of, grant_of, limit_of, has_any, request_of, within_limit, is_permitted, has_read, has_grant}
use Rattle.records.specs.declared.error.Input.{Input}
use Rattle.records.specs.declared.error.Input.TheVariants.{Request}
use Rattle.records.specs.declared.error.ModuleError.{ModuleError}
use Rattle.records.specs.declared.error.ModuleError.TheVariants.{Malformed, TooLarge}
use Rattle.records.specs.Set.{pick_checked, check_set}
use Rattle.records.specs.Set.{SetAnswer}
use Rattle.records.specs.declared.set.Checked.{Checked}
use Rattle.records.proofs.set.Laws.{check-none}
use Rattle.records.specs.declared.record.Cursor.{Cursor}
use Rattle.records.specs.declared.record.Step.{Step}
use Rattle.records.specs.declared.record.Step.TheVariants.{Record, Bad, End}
use Rattle.records.specs.Record.{Next}
use Rattle.records.specs.declared.record.Kind.{Kind}
use Rattle.records.specs.declared.record.Kind.TheVariants.{Module, Requires, Exports, Opens, Uses, Provides, Package, MainClass, Place, Root, LimitModules, AddReads, AddExports, AddOpens, Static, Other}
use Rattle.records.specs.declared.request.Once.{Once}
use Rattle.records.specs.Request.{Row}
use Rattle.records.proofs.Logic.{clash}
use Rattle.records.specs.contracts.record.Kind.{the_type}
use Rattle.records.proofs.record.Laws.{Stepped, stepped, stepped-bad, stepped-end, stepped_in, records-next, front-mark, front-body, front_length, records-none, records-end, step_less}
use Rattle.records.proofs.record.Bodies.{bodies-next, bodies-end}
use Rattle.records.proofs.record.Search.{first_body, is_found, found-told}
use Rattle.std.specs.Prelude.{Some, None, is_some, Ok, Err}
use Rattle.records.specs.declared.record.Span.{Span}

-- ---- one record

-- all kinds but LM and ST
abbrev pub others : List ℕ
others = 0 ∷ 1 ∷ 2 ∷ 3 ∷ 4 ∷ 5 ∷ 6 ∷ 7 ∷ 8 ∷ 9 ∷ 11 ∷ 12 ∷ 13 ∷ 15 ∷ []

-- which of these kinds a record is of
record Which (k : Kind) (limit static : Bool) : Type 0 where
  is_limit : same_kind k LimitModules ≡ limit
  is_static : same_kind k Static ≡ static

neither : (k : Kind) → OneOf others (tag_of the_type k) → Which k false false
unfolding same_kind mark_for
neither Module h = record { is_limit = refl; is_static = refl }
neither Requires h = record { is_limit = refl; is_static = refl }
neither Exports h = record { is_limit = refl; is_static = refl }
neither Opens h = record { is_limit = refl; is_static = refl }
neither Uses h = record { is_limit = refl; is_static = refl }
neither Provides h = record { is_limit = refl; is_static = refl }
neither Package h = record { is_limit = refl; is_static = refl }
neither MainClass h = record { is_limit = refl; is_static = refl }
neither Place h = record { is_limit = refl; is_static = refl }
neither Root h = record { is_limit = refl; is_static = refl }
neither LimitModules h = absurd (miss others 10 tt h)
neither AddReads h = record { is_limit = refl; is_static = refl }
neither AddExports h = record { is_limit = refl; is_static = refl }
neither AddOpens h = record { is_limit = refl; is_static = refl }
neither Static h = absurd (miss others 14 tt h)
neither Other h = record { is_limit = refl; is_static = refl }

-- LM, or ST
limits : (k : Kind) → k ≡ LimitModules → Which k true false
unfolding same_kind mark_for
limits k e = record { is_limit = rw e; is_static = rw e }

statics : (k : Kind) → k ≡ Static → Which k false true
unfolding same_kind mark_for
statics k e = record { is_limit = rw e; is_static = rw e }

module _ (o : Once) (i : Input) (mark : ℕ) (k : Kind) (ek : k ≡ kind_in i mark) (b : List ℕ) (q : Bool) (eq : q ≡ is_body k b) where
  pub row-bad : q ≡ false → None ≡ row_of o (kind_in i mark) b
  unfolding row_of
  row-bad e = sym (rw (← ek, ← eq, e))

  module _ (e : q ≡ true) where
    row_is : (l t : Bool) → Which k l t
        → row_of o (kind_in i mark) b ≡ pick_row (not ((o.limited && l) || (o.statics && t))) (Some (record { limited = o.limited || l; statics = o.statics || t })) None
    unfolding row_of
    row_is l t w = rw (← ek, ← eq, e, w.is_limit, w.is_static)

    pub row_other : OneOf others (tag_of the_type k) → Some o ≡ row_of o (kind_in i mark) b
    row_other h = sym (row_is false false (neither k h) ∙ rw (and-false o.limited, and-false o.statics, or-false o.limited, or-false o.statics))

    pub row-second-limit : k ≡ LimitModules → o.limited ≡ true → None ≡ row_of o (kind_in i mark) b
    row-second-limit m l = sym (row_is true false (limits k m) ∙ rw l)

    pub row-limit : k ≡ LimitModules → o.limited ≡ false → (x : Once) → x ≡ record { limited = true; statics = o.statics } → Some x ≡ row_of o (kind_in i mark) b
    row-limit m l x ex = sym (row_is true false (limits k m) ∙ rw (l, and-false o.statics, or-false o.statics, ex))

    pub row-second_static : k ≡ Static → o.statics ≡ true → None ≡ row_of o (kind_in i mark) b
    row-second_static m l = sym (row_is false true (statics k m) ∙ rw (l, and-false o.limited))

    pub row_static : k ≡ Static → o.statics ≡ false → (x : Once) → x ≡ record { limited = o.limited; statics = true } → Some x ≡ row_of o (kind_in i mark) b
    row_static m l x ex = sym (row_is false true (statics k m) ∙ rw (l, and-false o.limited, or-false o.limited, ex))

pub ruleset row_laws = (row-bad, row_other, row-second-limit, row-limit, row-second_static, row_static)

-- ---- the check

-- the records before `at` pass, o says whether an LM and an ST are among them, and those from `at` on decide
pub record CheckAt (i : Input) (s : List ℕ) (o : Once) (at : ℕ) : Type 0 where
  pub within : at ≤ length s
  pub left : check_records i s ≡ check_records_from i (length s) o at (records (drop at s))

pub check-long : (i : Input) (s : List ℕ) → 65535 < length s → Err (TooLarge 0) ≡ check_records i s
unfolding check_records
check-long i s l = rw (lt-ltb 65535 (length s) l)

pub check-start : (i : Input) (s : List ℕ) → length s ≤ 65535 → CheckAt i s none_once 0
unfolding check_records
check-start i s l = record { within = omega arith; left = rw (le-ltb 65535 (length s) l) }

module _ (i : Input) (s : List ℕ) (o : Once) (at : ℕ) (h : CheckAt i s o at) (step : Step) (es : step ≡ step_at s at) where
  module _ (mark start len : ℕ) (next : Cursor) (er : step ≡ Record mark start len next)
      (b : List ℕ) (eb : b ≡ take len (drop start s)) (v : Row) (ev : v ≡ row_of o (kind_in i mark) b) where
    p : Stepped s at mark start len next
    p = stepped s at step es mark start len next er

    turn : check_records i s ≡ row_on v (Err (Malformed i at)) (λ o₂. check_records_from i (length s) o₂ next.at (records (drop next.at s)))
    unfolding check_records_from
    turn =
        h.left
        ∙ rw (records-next s at mark start len next p, front-mark s at mark start len next p, front-body s at mark start len next p, front_length s at mark start len next p, ev, eb)

    pub check-row : v ≡ None → Err (Malformed i at) ≡ check_records i s
    unfolding row_on
    check-row e = sym (turn ∙ rw e)

    pub check-pass : (o₂ : Once) → v ≡ Some o₂ → CheckAt i s o₂ next.at
    unfolding row_on
    check-pass o₂ e = record { within = omega (arith, p.next_is, p.room); left = turn ∙ rw e }

  pub check-bad : step ≡ Bad → Err (Malformed i at) ≡ check_records i s
  unfolding check_records_from
  check-bad e =
      let l : at < length s = stepped_in s at step es e in
      sym (h.left ∙ rw (records-none (drop at s) (stepped-bad s at step es e), ne_eqb at (length s) (omega arith)))

  pub check-end : step ≡ End → (Ok tt) ≡ check_records i s
  unfolding check_records_from
  check-end e =
      let l : length s ≤ at = stepped-end s at step es e in
      sym (h.left ∙ rw (records-end s at l, eq-eqb at (length s) (omega (arith, h.within))))

pub ruleset check_laws = (check-long, check-start, check-row, check-pass, check-bad, check-end, step_less)

-- ---- what a good check shows

-- all of these bodies pass
unfoldable pub all_bodies : (List ℕ → Bool) → List (List ℕ) → Bool
all_bodies f [] = true
all_bodies f (b ∷ bs) = f b && all_bodies f bs

pub good-short : (i : Input) (s : List ℕ) → check_records i s ≡ (Ok tt) → length s ≤ 65535
unfolding check_records
good-short i s e = go (ltb 65535 (length s)) refl
  where
    go : (b : Bool) → ltb 65535 (length s) ≡ b → length s ≤ 65535
    go true eb = clash (cc)
    go false eb = ltb-false 65535 (length s) eb

good-long : (i : Input) (s : List ℕ) → check_records i s ≡ (Ok tt) → check_records_from i (length s) none_once 0 (records s) ≡ (Ok tt)
unfolding check_records
good-long i s e = go (ltb 65535 (length s)) refl
  where
    go : (b : Bool) → ltb 65535 (length s) ≡ b → check_records_from i (length s) none_once 0 (records s) ≡ (Ok tt)
    go true eb = clash (cc)
    go false eb = rw eb at e

-- a record that is not bad has a well-formed body
row-good : (o : Once) (k : Kind) (b : List ℕ) (v : Row) → row_of o k b ≡ v → (v ≡ None → ⊥) → is_body k b ≡ true
unfolding row_of
row-good o k b v e n = go (is_body k b) refl e
  where
    passed : Row
    passed = Some (record { limited = o.limited || same_kind k LimitModules; statics = o.statics || same_kind k Static })

    go : (q : Bool) → is_body k b ≡ q → pick_row (q && not ((o.limited && same_kind k LimitModules) || (o.statics && same_kind k Static))) passed None ≡ v → q ≡ true
    go true eq h = refl
    go false eq h = absurd (n (sym h))

module _ (i : Input) (k : Kind) (ek : kind_in i (mark_for k) ≡ k) where
  good-from : (n : ℕ) (o : Once) (at : ℕ) (rs : List (List ℕ)) → check_records_from i n o at rs ≡ (Ok tt) → all_bodies (is_body k) (bodies_in k rs) ≡ true
  unfolding check_records_from all_bodies bodies_in is_of row_on
  good-from n o at [] e = refl
  good-from n o at (r ∷ rs) e = by_row (row_of o (kind_in i (mark_of r)) (body_of r)) refl (λ o₂. good-from n o₂ (at + length r) rs) e
    where
      more : is_body (kind_in i (mark_of r)) (body_of r) ≡ true → all_bodies (is_body k) (bodies_in k rs) ≡ true → (o : Bool) → eqb (mark_of r) (mark_for k) ≡ o → all_bodies (is_body k) (bodies_in k (r ∷ rs)) ≡ true
      more eb ih true eo =
          let w : kind_in i (mark_of r) ≡ k = ap (kind_in i) (eqb-true (mark_of r) (mark_for k) eo) ∙ ek in
          let v : is_body k (body_of r) ≡ true = rw w at eb in
          rw (eo, v) ih
      more eb ih false eo = rw eo ih

      by_row : (v : Row) → row_of o (kind_in i (mark_of r)) (body_of r) ≡ v → ((o₂ : Once) → check_records_from i n o₂ (at + length r) rs ≡ (Ok tt) → all_bodies (is_body k) (bodies_in k rs) ≡ true)
          → row_on (row_of o (kind_in i (mark_of r)) (body_of r)) (Err (Malformed i at)) (λ o₂. check_records_from i n o₂ (at + length r) rs) ≡ (Ok tt) → all_bodies (is_body k) (bodies_in k (r ∷ rs)) ≡ true
      by_row None ev ih h = let z : Err (Malformed i at) ≡ (Ok tt) = rw ev at h in clash (cc)
      by_row (Some o₂) ev ih h = more (row-good o (kind_in i (mark_of r)) (body_of r) (Some o₂) ev (λ z. clash (cc))) (ih o₂ (rw ev at h)) (eqb (mark_of r) (mark_for k)) refl

-- every body of a kind that the input knows is well-formed
pub good-bodies : (i : Input) (s : List ℕ) → check_records i s ≡ (Ok tt) → (k : Kind) → kind_in i (mark_for k) ≡ k → all_bodies (is_body k) (bodies k s) ≡ true
unfolding bodies
good-bodies i s e k ek = good-from i k ek (length s) none_once 0 (records s) (good-long i s e)

-- ---- the questions

module _ (s name : List ℕ) (r : Bool) (er : r ≡ same_bytes name java_base) where
  pub permitted_base : r ≡ true → true ≡ is_permitted (request_of s) name
  unfolding is_permitted
  permitted_base e = cc

  module _ (e : r ≡ false) (n : Next) (en : n ≡ next_of LimitModules s 0) where
    pub permitted_limit : (span : Span) → n ≡ Some span → (b : List ℕ) → b ≡ take span.len (drop span.start s) → (q : Bool) → q ≡ mem_name name (list_of b)
        → q ≡ is_permitted (request_of s) name
    unfolding is_permitted request_of limit_of within_limit
    permitted_limit span eb b el q eq =
        let f : bodies LimitModules s ≡ take span.len (drop span.start s) ∷ bodies LimitModules (drop span.next.at s) = bodies-next LimitModules s 0 n en span.start span.len span.next eb (omega arith) in
        sym (rw (← er, e, f, ← el, ← eq))

    pub permitted_all : n ≡ None → true ≡ is_permitted (request_of s) name
    unfolding is_permitted request_of limit_of within_limit
    permitted_all eb =
        let f : bodies LimitModules s ≡ [] = bodies-end LimitModules s 0 n en eb in
        sym (rw (← er, e, f))

pub ruleset permitted_laws = (permitted_base, permitted_limit, permitted_all)

-- an ST is there just if the search finds one
module _ (s : List ℕ) (n : Next) (en : n ≡ next_of Static s 0) where
  pub static_told : (q : Bool) → q ≡ is_some n → q ≡ (request_of s).has_static
  unfolding request_of has_any
  static_told q h = h ∙ go n refl
    where
      go : (x : Next) → n ≡ x → is_some n ≡ has_any (bodies Static s)
      go (Some b) e =
          let f : bodies Static s ≡ take b.len (drop b.start s) ∷ bodies Static (drop b.next.at s) = bodies-next Static s 0 n en b.start b.len b.next e (omega arith) in
          ap is_some e ∙ sym (rw f)
      go None e = let f : bodies Static s ≡ [] = bodies-end Static s 0 n en e in ap is_some e ∙ sym (rw f)

-- an AR of these names is there just if the search finds one
pub read_first : (source target : List ℕ) (bs : List (List ℕ)) → has_read (map read_of bs) source target ≡ is_found (first_body (source ∷ target ∷ []) bs)
unfolding has_read is_found first_body begins read_of
read_first source target [] = refl
read_first source target (b ∷ bs) = go (same_bytes (name_of b) source) (same_bytes (name_of (after_name b)) target) (read_first source target bs)
  where
    go : (t : Bool) → (u : Bool) → has_read (map read_of bs) source target ≡ is_found (first_body (source ∷ target ∷ []) bs)
        → ((t && u) || has_read (map read_of bs) source target) ≡ is_found (cond (t && (u && true)) (some b) (first_body (source ∷ target ∷ []) bs))
    go true true ih = refl
    go true false ih = ih
    go false u ih = ih

module _ (s source target : List ℕ) (r : Next) (er : r ≡ first_of AddReads (source ∷ target ∷ []) s) where
  pub read_told : (q : Bool) → q ≡ is_some r → q ≡ has_read (request_of s).add_reads source target
  unfolding request_of
  read_told q e = found-told AddReads (source ∷ target ∷ []) s r er q e ∙ sym (read_first source target (bodies AddReads s))

-- and an AE or AO
pub grant-first : (source pkg target : List ℕ) (bs : List (List ℕ)) → has_grant (map grant_of bs) source pkg target ≡ is_found (first_body (source ∷ pkg ∷ target ∷ []) bs)
unfolding has_grant is_found first_body begins grant_of
grant-first source pkg target [] = refl
grant-first source pkg target (b ∷ bs) =
    go (same_bytes (name_of b) source) (same_bytes (name_of (after_name b)) pkg) (same_bytes (name_of (after_name (after_name b))) target) (grant-first source pkg target bs)
  where
    go : (t : Bool) → (u : Bool) → (v : Bool) → has_grant (map grant_of bs) source pkg target ≡ is_found (first_body (source ∷ pkg ∷ target ∷ []) bs)
        → ((t && (u && v)) || has_grant (map grant_of bs) source pkg target) ≡ is_found (cond (t && (u && (v && true))) (some b) (first_body (source ∷ pkg ∷ target ∷ []) bs))
    go true true true ih = refl
    go true true false ih = ih
    go true false v ih = ih
    go false u v ih = ih

module _ (k : Kind) (s source pkg target : List ℕ) (r : Next) (er : r ≡ first_of k (source ∷ pkg ∷ target ∷ []) s) where
  pub grant_told : (q : Bool) → q ≡ is_some r → q ≡ has_grant (map grant_of (bodies k s)) source pkg target
  grant_told q e = found-told k (source ∷ pkg ∷ target ∷ []) s r er q e ∙ sym (grant-first source pkg target (bodies k s))

-- ---- a set and a request

inputs_are : (s q : List ℕ) → length q ≤ 65535 → check_inputs s q ≡ then_request (check_set s) (check_records Request q)
unfolding check_inputs check_set then_request
inputs_are s q l = rw (le-ltb 65535 (length q) l) (go (ltb 65535 (length s)) refl)
  where
    go : (b : Bool) → ltb 65535 (length s) ≡ b
        → pick_checked (ltb 65535 (length s) || false) (Err (TooLarge 0)) (then_request (check_set s) (check_records Request q)) ≡ then_request (check_set s) (check_records Request q)
    go true e = rw e
    go false e = rw e

module _ (s q : List ℕ) (r : SetAnswer) where
  pub inputs_long : 65535 < length q → r ≡ Err (TooLarge 0) → r ≡ check_inputs s q
  unfolding check_inputs
  inputs_long l e = e ∙ sym (go (ltb 65535 (length s)))
    where
      go : (b : Bool) → pick_checked (b || ltb 65535 (length q)) (Err (TooLarge 0)) (then_request (check_set s) (check_records Request q)) ≡ Err (TooLarge 0)
      go true = refl
      go false = rw (lt-ltb 65535 (length q) l)

  module _ (l : length q ≤ 65535) where
    pub inputs-set : (e : ModuleError) → Err e ≡ check_set s → r ≡ Err e → r ≡ check_inputs s q
    unfolding then_request
    inputs-set e ee er = er ∙ sym (inputs_are s q l ∙ rw (← ee))

    module _ (c : Checked) (ec : Ok c ≡ check_set s) where
      pub inputs-good : (u : Unit {0}) → Ok u ≡ check_records Request q → r ≡ Ok c → r ≡ check_inputs s q
      unfolding then_request
      inputs-good u eu er = er ∙ sym (inputs_are s q l ∙ rw (← ec, ← eu))

      pub inputs-refused : (e : ModuleError) → Err e ≡ check_records Request q → r ≡ Err e → r ≡ check_inputs s q
      unfolding then_request
      inputs-refused e ee er = er ∙ sym (inputs_are s q l ∙ rw (← ec, ← ee))

pub ruleset inputs_laws = (inputs_long, inputs-set, inputs-good, inputs-refused, check-none)
