-- What becomes of a name: what each return shows.
use Prim.Native.Nat.{ℕ, zero, suc, ◌+◌, ◌≤◌}
use mathlib.Core.Path.{◌≡◌, sym, ◌∙◌, ap}
use mathlib.Core.Bool.{Bool, true, false}
use mathlib.Core.List.{List, [], ◌∷◌, map}
use native.Mathlib.Omega.{arith}
use lib.ListN.{length, take, length-map}
use lib.Seq.{take-length}
use Rattle.std.proofs.lemmas.List.{take_min}
use Rattle.std.specs.Prelude.{min}
use Rattle.records.specs.Bytes.{same_bytes}
use Rattle.records.specs.Name.{java_base, mem_name, name_of}
use Rattle.records.specs.Descriptor.{requirement_of, Requirement}
use Rattle.records.specs.Request.{request_of, is_permitted, Request}
use Rattle.records.specs.Set.{name_at}
use Rattle.records.specs.Finder.{find_name}
use Rattle.records.specs.Order.{name_in, is_ordered}
use Rattle.records.specs.Sorted.{Indexed}
use Rattle.records.specs.declared.error.Input.{Input}
use Rattle.records.specs.declared.error.ModuleError.{ModuleError}
use Rattle.records.specs.declared.error.ModuleError.TheVariants.{ModuleNotFound, JavaBaseNotFound}
use Rattle.records.specs.Finder.{Found}
use Rattle.records.proofs.finder.Modules.{found_at}
use Rattle.resolution.specs.Resolution.{leads}
use Rattle.resolution.specs.Row.{holds}
use Rattle.resolution.specs.Resolver.{Inputs, inputs_of, block_of, locate, is_met_before, want_absent, want_unfound, want_found, want, want_record, Within}
use Rattle.resolution.specs.Filter.{asked_before}
use Rattle.resolution.specs.Known.{Limits, Met, Tables}
use Rattle.resolution.specs.declared.resolver.Phase.{Phase}
use Rattle.resolution.specs.declared.resolver.Wanted.{Wanted}
use Rattle.resolution.specs.declared.resolver.Wanted.TheVariants.{Pass, Add, Stop, Refuse}
use Rattle.std.specs.Prelude.{Some, None}

-- what the calls ask
module _ (set request starts old : List ℕ) (phase : Phase) (index names needed : List ℕ) (h : Tables set request starts old phase index names needed) where
  pub want-few : phase.count ≤ 512
  want-few = h.lookup.few

  pub want-inside : phase.count ≤ length starts
  want-inside = h.lookup.within

  pub want-indexed : Indexed (map (name_at set) (take phase.count starts)) index
  want-indexed = h.lookup.indexed

  pub want-limits : Limits request phase names
  want-limits = h.limits

  pub want-met : Met set request starts old phase names needed
  want-met = h.met

  pub want-statics : phase.statics ≡ (request_of request).has_static
  want-statics = h.statics

-- ---- whether the request permits an absent name

module _ (request : List ℕ) (phase : Phase) (names n : List ℕ) (h : Limits request phase names) where
  pub permits-free : phase.limited ≡ false → true ≡ is_permitted (request_of request) n
  permits-free t = sym (h.free t n)

  module _ (k : phase.known ≡ true) (before : phase.in_round ≡ false) (b : Bool) (eb : b ≡ same_bytes n java_base) where
    pub permits-base : b ≡ true → true ≡ is_permitted (request_of request) n
    permits-base e = rw (← eb, e) at (h.permits k before n)

    pub permits-listed : b ≡ false → (r : Bool) → r ≡ mem_name n (map (name_in request) (take (length names) names)) → r ≡ is_permitted (request_of request) n
    permits-listed e r er = er ∙ ap (λ (l : List ℕ). mem_name n (map (name_in request) l)) (take-length names) ∙ (rw (← eb, e) at (h.permits k before n))

  pub permits-sorted : phase.known ≡ true → phase.in_round ≡ false → is_ordered (map (name_in request) (take (length names) names)) ≡ true
  permits-sorted k before = rw (take-length names) (h.sorted k before)

pub whole-table : (l : List ℕ) → length l ≤ length l
whole-table l = omega arith

pub ruleset permits_laws = (want-limits, permits-free, permits-base, permits-listed, permits-sorted, whole-table)

-- ---- whether an absent name was met before the rounds

module _ (set request starts old : List ℕ) (phase : Phase) (names needed n : List ℕ) (h : Met set request starts old phase names needed) where
  abbrev v : Inputs
  v = inputs_of set request starts old phase

  module _ (k : phase.known ≡ true) (t : phase.in_round ≡ true) (b : Bool) (eb : b ≡ mem_name n (map (name_in request) (take (length names) names))) where
    root_is : mem_name n (map (name_in request) names) ≡ b
    root_is = sym (eb ∙ ap (λ (l : List ℕ). mem_name n (map (name_in request) l)) (take-length names))

    pub met-root : b ≡ true → true ≡ is_met_before v n
    met-root e = rw (root_is, e) at (h.met k t n)

    pub met_needed : b ≡ false → (r : Bool) → r ≡ mem_name n (map (name_in set) (take (length needed) needed)) → r ≡ is_met_before v n
    met_needed e r er = er ∙ ap (λ (l : List ℕ). mem_name n (map (name_in set) l)) (take-length needed) ∙ (rw (root_is, e) at (h.met k t n))

  pub met-sorted : phase.known ≡ true → phase.in_round ≡ true → is_ordered (map (name_in request) (take (length names) names)) ≡ true
  met-sorted k t = rw (take-length names) (h.sorted k t)

  pub met-sorted_needed : phase.known ≡ true → phase.in_round ≡ true → is_ordered (map (name_in set) (take (length needed) needed)) ≡ true
  met-sorted_needed k t = rw (take-length needed) (h.sorted_needed k t)

  pub met-before : (m : ℕ) → m ≡ min phase.before (length old) → (r : Bool) → r ≡ is_met_before (asked_before set request starts (take m old)) n → r ≡ is_met_before v n
  unfolding inputs_of is_met_before block_of
  met-before m e r er = er ∙ rw (e, take_min phase.before old)

pub before-inside : (n m k : ℕ) → m ≡ min n k → m ≤ k
before-inside n m k e = rw e (omega arith)

pub ruleset met_laws = (want-met, met-root, met_needed, met-sorted, met-sorted_needed, met-before, before-inside, whole-table)

-- ---- an absent name

module _ (set request starts old : List ℕ) (phase : Phase) (n : List ℕ) (e : ModuleError) where
  abbrev w : Inputs
  w = inputs_of set request starts old phase

  module _ (t : phase.in_round ≡ true) (r : Bool) (er : r ≡ is_met_before w n) where
    in-round : w.in_round ≡ true
    unfolding inputs_of
    in-round = t

    pub absent-met : r ≡ true → Pass ≡ want_unfound w n e
    unfolding want_unfound want_absent
    absent-met h = sym (rw (← er, h, in-round))

    pub absent-refuse : r ≡ false → Refuse e ≡ want_unfound w n e
    unfolding want_unfound want_absent
    absent-refuse h = sym (rw (← er, h, in-round))

  module _ (t : phase.in_round ≡ false) (r : Bool) (er : r ≡ is_permitted (request_of request) n) where
    before-rounds : w.in_round ≡ false
    unfolding inputs_of
    before-rounds = t

    permits : is_permitted (request_of w.request) n ≡ r
    unfolding inputs_of
    permits = sym er

    pub absent-passed : r ≡ false → Pass ≡ want_unfound w n e
    unfolding want_unfound want_absent
    absent-passed h = sym (rw (before-rounds, permits, h))

    module _ (h : r ≡ true) (b : Bool) (eb : b ≡ same_bytes n java_base) where
      pub absent-base : b ≡ true → Stop JavaBaseNotFound ≡ want_unfound w n e
      unfolding want_unfound want_absent
      absent-base k = sym (rw (before-rounds, permits, h, ← eb, k))

      pub absent-stop : b ≡ false → Stop e ≡ want_unfound w n e
      unfolding want_unfound want_absent
      absent-stop k = sym (rw (before-rounds, permits, h, ← eb, k))

pub within-pass : (count : ℕ) → Within count Pass
unfolding Within
within-pass count = tt

pub within-stop : (count : ℕ) (e : ModuleError) → Within count (Stop e)
unfolding Within
within-stop count e = tt

pub within-refuse : (count : ℕ) (e : ModuleError) → Within count (Refuse e)
unfolding Within
within-refuse count e = tt

pub ruleset absent_laws = (absent-met, absent-refuse, absent-passed, absent-base, absent-stop, within-pass, within-stop, within-refuse)

-- ---- any name

few : (n : ℕ) (l : List ℕ) → length (take n l) ≤ n
few zero l = omega arith
few (suc n) [] = omega arith
few (suc n) (x ∷ l) = omega (arith, few n l)

module _ (set request starts old : List ℕ) (phase : Phase) (n : List ℕ) (optional : Bool) (e : ModuleError) (f : Found)
    (ef : f ≡ find_name (map (name_at set) (take phase.count starts)) n 0) where
  located : locate (inputs_of set request starts old phase) n ≡ f
  unfolding inputs_of locate
  located = sym ef

  module _ (i : ℕ) (h : f ≡ Some i) (r : Bool) (er : r ≡ holds phase.permitted i) where
    permitted_at : holds (inputs_of set request starts old phase).permitted i ≡ r
    unfolding inputs_of
    permitted_at = sym er

    pub want-add : r ≡ true → Add i ≡ want (inputs_of set request starts old phase) n optional e
    unfolding want want_found
    want-add t = sym (rw (located, h, permitted_at, t))

    pub want-pass : r ≡ false → Pass ≡ want (inputs_of set request starts old phase) n optional e
    unfolding want want_found
    want-pass t = sym (rw (located, h, permitted_at, t))

  pub within-add : (i : ℕ) → f ≡ Some i → Within phase.count (Add i)
  unfolding Within
  within-add i h =
      let p = found_at (map (name_at set) (take phase.count starts)) n 0 i (sym ef ∙ h) in
      omega (arith, p.within, length-map (take phase.count starts) (name_at set), few phase.count starts)

  module _ (h : f ≡ None) where
    pub want-optional : optional ≡ true → Pass ≡ want (inputs_of set request starts old phase) n optional e
    unfolding want want_found
    want-optional t = sym (rw (located, h, t))

    pub want_unfound_lem : optional ≡ false → (r : Wanted) → r ≡ want_unfound (inputs_of set request starts old phase) n e → r ≡ want (inputs_of set request starts old phase) n optional e
    unfolding want want_found
    want_unfound_lem t r er = sym (rw (located, h, t, er))

pub ruleset want_laws = (want-few, want-inside, want-indexed, want-limits, want-met, want-add, want-pass, want-optional, want_unfound_lem, within-add, within-pass)

-- ---- a record

-- whether a requirement leads
module _ (r : Requirement) (static : Bool) (es : static ≡ r.static) (statics : Bool) where
  pub leads_static : static ≡ true → (rq : Request) → statics ≡ rq.has_static → statics ≡ leads rq r
  unfolding leads
  leads_static t rq e = e ∙ sym (rw (← es, t))

  pub leads-not_static : static ≡ false → (rq : Request) → statics ≡ rq.has_static → true ≡ leads rq r
  unfolding leads
  leads-not_static f rq e = sym (rw (← es, f))

pub ruleset leads_laws = (leads_static, leads-not_static)

module _ (set request starts old : List ℕ) (phase : Phase) (input : Input) (ei : input ≡ Input.Set) (b : List ℕ) (start : ℕ)
    (es : phase.statics ≡ (request_of request).has_static) (l : Bool) (el : (rq : Request) → phase.statics ≡ rq.has_static → l ≡ leads rq (requirement_of b)) where
  pub want-over : l ≡ false → Pass ≡ want_record (inputs_of set request starts old phase) input b start
  unfolding want_record inputs_of
  want-over f = sym (rw (ei, ← (el (request_of request) es), f))

  pub want-requires : l ≡ true → (n : List ℕ) (static : Bool) (r : Wanted) → n ≡ (requirement_of b).name → static ≡ (requirement_of b).static
      → r ≡ want (inputs_of set request starts old phase) n static (ModuleNotFound Input.Set (start + 3) (length n))
      → r ≡ want_record (inputs_of set request starts old phase) input b start
  unfolding want_record inputs_of
  want-requires t n static r en et er = er ∙ sym (rw (ei, ← (el (request_of request) es), t, ← en, ← et))

pub want-root : (w : Inputs) (input : Input) (b n : List ℕ) (start : ℕ) (r : Wanted) → input ≡ Input.Request → n ≡ name_of b
    → r ≡ want w n false (ModuleNotFound Input.Request (start + 1) (length n)) → r ≡ want_record w input b start
unfolding want_record
want-root w input b n start r ei en er = er ∙ rw (ei, en)

pub want-none : (w : Inputs) (input : Input) (b : List ℕ) (start : ℕ) → input ≡ Input.Packages → Pass ≡ want_record w input b start
unfolding want_record
want-none w input b start ei = sym (rw ei)

pub ruleset record_laws = (want-statics, want-over, want-requires, want-root, want-none, within-pass)
