-- Where a package stands, and the refusal of its module.
use mathlib.Core.Path.{◌≡◌, refl, sym, ap, ◌∙◌}
use mathlib.Core.Bool.{Bool, true, false, ◌&&◌}
use mathlib.Core.Option.{Option, none, some}
use mathlib.Core.List.{List, [], ◌∷◌}
use Prim.Native.Nat.{ℕ, ◌+◌, ◌-◌, ◌^◌, ◌≤◌, ◌<◌}
use native.Mathlib.Omega.{arith}
use lib.ListN.{length, get_or, take, drop, length-take, length-drop, get_or-eq_default}
use Rattle.records.specs.Record.{body_of, records, is_of, begins, first_in, first_of}
use Rattle.records.specs.Set.{block_at}
use Rattle.records.specs.declared.error.ModuleError.TheVariants.{SplitPackage}
use Rattle.records.specs.Finder.{Found}
use Rattle.records.specs.declared.record.Cursor.{Cursor}
use Rattle.records.specs.Record.{Next}
use Rattle.records.specs.declared.record.Kind.{Kind}
use Rattle.records.proofs.Logic.{clash}
use Rattle.records.proofs.record.Search.{first-room}
use Rattle.resolution.specs.Lists.{Name}
use Rattle.resolution.specs.Resolve.{body_start}
use Rattle.resolution.specs.Resolver.{start_of, block_of, position_or, owner_at, split_of}
use Rattle.resolution.specs.Filter.{asked, found_of, position_in, first_named}
use Rattle.resolution.specs.declared.resolver.Halt.{Halt}
use Rattle.resolution.proofs.modules.Laws.{owner-first}
use Rattle.std.specs.Prelude.{Some, None}
use Rattle.records.specs.declared.record.Span.{Span}
use Rattle.records.proofs.record.Laws.{some_span}

-- ---- the position

pub position_at : (f : Found) (i : ℕ) → f ≡ Some i → i ≡ position_in f
unfolding position_in
position_at f i e = sym (rw e)

pub position-none : (f : Found) → f ≡ None → 0 ≡ position_in f
unfolding position_in
position-none f e = sym (rw e)

pub ruleset position_laws = (position_at, position-none)

pub end_none : (starts : List ℕ) (i : ℕ) → length starts ≤ i → 0 ≡ get_or starts (i + 1) 0
end_none starts i l = sym (get_or-eq_default starts 0 (omega (arith, l)))

-- ---- where the package stands

module _ (k : Kind) (ns : List Name) where
  -- a record found from `a` on stands behind it, and by `off` further on where all do
  first-start : (a off : ℕ) (rs : List (List ℕ)) (start len : ℕ) (next : Cursor) → first_in k ns a rs ≡ Some (record { start = start; len = len; next = next })
      → (a + 4 ≤ start) × (body_start (first_in k ns (off + a) rs) ≡ off + start)
  unfolding first_in body_start
  first-start a off [] start len next e = clash (cc)
  first-start a off (r ∷ rs) start len next e = go (is_of k r && begins ns (body_of r)) refl (first-start (a + length r) off rs start len next)
    where
      go : (b : Bool) → (is_of k r && begins ns (body_of r)) ≡ b
          → (first_in k ns (a + length r) rs ≡ Some (record { start = start; len = len; next = next }) → (a + length r + 4 ≤ start) × (body_start (first_in k ns (off + (a + length r)) rs) ≡ off + start))
          → (a + 4 ≤ start) × (body_start (first_in k ns (off + a) (r ∷ rs)) ≡ off + start)
      go true eb ih =
          let q : Some (record { start = a + 4; len = length (body_of r); next = record { at = a + length r } }) ≡ Some (record { start = start; len = len; next = next }) = rw eb at e in
          let s : a + 4 ≡ start = (some_span _ _ q).start in
          (omega arith, rw eb (omega arith))
      go false eb ih =
          let p = ih (rw eb at e) in
          let s : off + a + length r ≡ off + (a + length r) = omega arith in
          (omega (arith, p.0), rw (eb, s) p.1)

  first-not : (a b : ℕ) (rs : List (List ℕ)) → first_in k ns a rs ≡ None → first_in k ns b rs ≡ None
  unfolding first_in
  first-not a b [] e = refl
  first-not a b (r ∷ rs) e = go (is_of k r && begins ns (body_of r)) refl (first-not (a + length r) (b + length r) rs)
    where
      go : (t : Bool) → (is_of k r && begins ns (body_of r)) ≡ t → (first_in k ns (a + length r) rs ≡ None → first_in k ns (b + length r) rs ≡ None)
          → first_in k ns b (r ∷ rs) ≡ None
      go true et ih = clash (cc)
      go false et ih = rw et (ih (rw et at e))

owner-is : (o : Option ℕ) → position_in (found_of o) ≡ position_or o
unfolding position_in found_of position_or
owner-is none = refl
owner-is (some i) = refl

module _ (set starts ps : List ℕ) (p : ℕ) (name b : List ℕ) (eb : b ≡ block_at set starts p) (r : Next) (er : r ≡ first_of Kind.Package (name ∷ []) b) where
  module _ (span : Span) (e : r ≡ Some span) (from : ℕ) (ef : from ≡ get_or starts p 0) where
    stands : (4 ≤ span.start) × (body_start (first_in Kind.Package (name ∷ []) (from + 0) (records b)) ≡ from + span.start)
    unfolding first_of
    stands =
        let q = first-start Kind.Package (name ∷ []) 0 from (records b) span.start span.len span.next (sym er ∙ e) in
        (omega (arith, q.0), q.1)

    inside : from + span.start ≤ length set
    unfolding block_at
    inside =
        let l : length b ≡ length (take (get_or starts (p + 1) 0 - get_or starts p 0) (drop (get_or starts p 0) set)) = ap length eb in
        omega (
          arith,
          stands.0,
          first-room Kind.Package (name ∷ []) b r er span e,
          l,
          length-take (get_or starts (p + 1) 0 - get_or starts p 0) (drop (get_or starts p 0) set),
          length-drop (get_or starts p 0) set,
          ef,
        )

    pub refusal-start : length set ≤ 65535 → from + span.start < 2 ^ 64
    refusal-start l = omega (arith, inside)

    pub refusal-sum : length set ≤ 65535 → from + span.start + 1 < 2 ^ 64
    refusal-sum l = omega (arith, inside)

    pub refusal-found : (o : Found) (owner : ℕ) → o ≡ found_of (first_named (asked set starts) Kind.Package ps name) → owner ≡ position_in o
        → Halt.Refused (SplitPackage (from + span.start + 1) (length name) owner p) ≡ split_of (asked set starts) ps p (some name)
    unfolding split_of start_of block_of
    refusal-found o owner eo ew =
        let z : from + 0 ≡ from = omega arith in
        let s : body_start (first_in Kind.Package (name ∷ []) from (records b)) ≡ from + span.start = rw z at stands.1 in
        let t : owner ≡ position_or (owner_at (asked set starts) ps name) =
        ew ∙ ap position_in eo ∙ owner-is (first_named (asked set starts) Kind.Package ps name)
        ∙ ap position_or (sym (owner-first (asked set starts) Kind.Package ps name)) in
        rw (← ef, ← eb, s, t)

  pub refusal-lost : (o : Found) (owner : ℕ) → r ≡ None → o ≡ found_of (first_named (asked set starts) Kind.Package ps name) → owner ≡ position_in o
      → Halt.Refused (SplitPackage 1 (length name) owner p) ≡ split_of (asked set starts) ps p (some name)
  unfolding split_of start_of block_of first_of body_start
  refusal-lost o owner e eo ew =
      let s : first_in Kind.Package (name ∷ []) (get_or starts p 0) (records b) ≡ None =
      first-not Kind.Package (name ∷ []) 0 (get_or starts p 0) (records b) (sym er ∙ e) in
      let t : owner ≡ position_or (owner_at (asked set starts) ps name) =
      ew ∙ ap position_in eo ∙ owner-is (first_named (asked set starts) Kind.Package ps name)
      ∙ ap position_or (sym (owner-first (asked set starts) Kind.Package ps name)) in
      rw (← eb, s, t)

pub ruleset refusal_laws = (refusal-start, refusal-sum, refusal-found, refusal-lost)
