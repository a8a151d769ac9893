-- What the check of a set makes of one record, and of one record after the other.
use Prim.Native.Nat.{ℕ, suc, ◌+◌, ◌≤◌, ◌<◌}
use mathlib.Core.Path.{◌≡◌, refl, sym, ◌∙◌, ap}
use mathlib.Core.List.{List, [], ◌∷◌, map}
use mathlib.Core.Bool.{Bool, true, false, ◌&&◌, ◌||◌, not}
use lib.ListN.{length, take, drop}
use lib.Seq.{drop-drop}
use lib.Dec.{ltb, leb, eqb}
use borrow.Author.Tests.{eqb-true, ltb-true, lt-ltb, ltb-false, leb-false, lt-leb, not-true}
use Rattle.records.specs.Bytes.{same_bytes}
use Rattle.records.specs.Name.{all_unnamed, mem_name}
use Rattle.records.specs.Record.{mark_of, body_of, record_more, whole, records, set_kind, mark_for, is_body, is_of}
use Rattle.records.specs.Descriptor.{module_name}
use Rattle.records.specs.Set.{Passed, none_yet, with_module, with_main, with_place, body_at, name_at, is_placed, admit_at, enter_at, pass_at, judge_at, pick_verdict, pick_checked, accepted, go_on, check_from, check_set, module_limit}
use Rattle.records.specs.declared.record.Kind.{Kind}
use Rattle.records.specs.declared.record.Kind.TheVariants.{Module, Requires, Exports, Opens, Uses, Provides, Package, MainClass, Place, Root, LimitModules, AddReads, AddExports, AddOpens, Static, Other}
use Rattle.records.specs.declared.error.Input.TheVariants.{Set}
use Rattle.records.specs.declared.error.ModuleError.{ModuleError}
use Rattle.records.specs.declared.error.ModuleError.TheVariants.{Malformed, TooLarge, Repeated}
use Rattle.records.specs.declared.set.Verdict.TheVariants.{Start, Enter, Pass}
use Rattle.records.specs.Set.{SetAnswer}
use Rattle.records.proofs.Logic.{clash, and_left, and_right}
use Rattle.records.proofs.record.Laws.{IsRecord, front_record, front_of, body-front, records-cons, records-none, records-ind}
use Rattle.records.proofs.record.Marks.{of-kind}
use Rattle.std.specs.Prelude.{Ok, Err}

-- ---- the kinds of records that belong to a module and may stand in it any number of times: all but MO, MC and PL

unfoldable pub is_inner : Kind → Bool
is_inner Module = false
is_inner Requires = true
is_inner Exports = true
is_inner Opens = true
is_inner Uses = true
is_inner Provides = true
is_inner Package = true
is_inner MainClass = false
is_inner Place = false
is_inner Root = false
is_inner LimitModules = false
is_inner AddReads = false
is_inner AddExports = false
is_inner AddOpens = false
is_inner Static = false
is_inner Other = false

record Inner (k : Kind) : Type 0 where
  known : k ≡ Other → ⊥
  kind : set_kind (mark_for k) ≡ k
  no_module : eqb (mark_for k) (mark_for Module) ≡ false
  no_place : eqb (mark_for k) (mark_for Place) ≡ false
  placed : (c : ℕ) (m : Bool) → is_placed c m k ≡ ltb 0 c
  passes : (s : List ℕ) (p : Passed) (at : ℕ) (b : List ℕ) → pass_at s p at k b ≡ (Ok Pass)

inner-is : (k : Kind) → is_inner k ≡ true → Inner k
unfolding is_inner mark_for set_kind is_placed pass_at
inner-is Module e = clash (cc)
inner-is Requires e = record { known = λ h. clash (cc); kind = refl; no_module = refl; no_place = refl; placed = λ c m. refl; passes = λ s p at b. refl }
inner-is Exports e = record { known = λ h. clash (cc); kind = refl; no_module = refl; no_place = refl; placed = λ c m. refl; passes = λ s p at b. refl }
inner-is Opens e = record { known = λ h. clash (cc); kind = refl; no_module = refl; no_place = refl; placed = λ c m. refl; passes = λ s p at b. refl }
inner-is Uses e = record { known = λ h. clash (cc); kind = refl; no_module = refl; no_place = refl; placed = λ c m. refl; passes = λ s p at b. refl }
inner-is Provides e = record { known = λ h. clash (cc); kind = refl; no_module = refl; no_place = refl; placed = λ c m. refl; passes = λ s p at b. refl }
inner-is Package e = record { known = λ h. clash (cc); kind = refl; no_module = refl; no_place = refl; placed = λ c m. refl; passes = λ s p at b. refl }
inner-is MainClass e = clash (cc)
inner-is Place e = clash (cc)
inner-is Root e = clash (cc)
inner-is LimitModules e = clash (cc)
inner-is AddReads e = clash (cc)
inner-is AddExports e = clash (cc)
inner-is AddOpens e = clash (cc)
inner-is Static e = clash (cc)
inner-is Other e = clash (cc)

pub inner-kind : (k : Kind) → is_inner k ≡ true → set_kind (mark_for k) ≡ k
inner-kind k e = (inner-is k e).kind

-- ---- one record that is not refused

-- an MO: at most 512 modules, and a name that is not ALL-UNNAMED and stands in no module of the present place
pub record Begins (s : List ℕ) (p : Passed) (r : List ℕ) : Type 0 where
  pub kind : set_kind (mark_of r) ≡ Module
  pub good : is_body Module (body_of r) ≡ true
  pub few : length p.starts < module_limit
  pub named : same_bytes (module_name (body_of r)) all_unnamed ≡ false
  pub new : mem_name (module_name (body_of r)) (map (name_at s) p.here) ≡ false

-- RQ, EX, OP, US, PV or PK behind an MO of the present place
pub record Belongs (p : Passed) (r : List ℕ) : Type 0 where
  pub kind : is_inner (set_kind (mark_of r)) ≡ true
  pub good : is_body (set_kind (mark_of r)) (body_of r) ≡ true
  pub behind : 0 < length p.here

-- MC behind an MO of the present place, the first of its module
pub record Mains (p : Passed) (r : List ℕ) : Type 0 where
  pub kind : set_kind (mark_of r) ≡ MainClass
  pub good : is_body MainClass (body_of r) ≡ true
  pub behind : 0 < length p.here
  pub once : p.main ≡ false

-- PL: at most eight places
pub record Enters (p : Passed) (r : List ℕ) : Type 0 where
  pub kind : set_kind (mark_of r) ≡ Place
  pub good : is_body Place (body_of r) ≡ true
  pub room : p.places < 8

-- a record r at `at`, from one state to the next
pub data Step (s : List ℕ) (p : Passed) (at : ℕ) (r : List ℕ) : Passed → Type 0 where
  begins : Begins s p r → Step s p at r (with_module p at)
  belongs : Belongs p r → Step s p at r p
  mains : Mains p r → Step s p at r (with_main p)
  enters : Enters p r → Step s p at r (with_place p at)

-- whether such a record is an MO or a PL
module _ (r : List ℕ) where
  pub module_is : set_kind (mark_of r) ≡ Module → is_of Module r ≡ true
  unfolding mark_for
  module_is e = of-kind r Module Module (λ h. clash (cc)) e

  pub module_no_place : set_kind (mark_of r) ≡ Module → is_of Place r ≡ false
  unfolding mark_for
  module_no_place e = of-kind r Module Place (λ h. clash (cc)) e

  pub place_is : set_kind (mark_of r) ≡ Place → is_of Place r ≡ true
  unfolding mark_for
  place_is e = of-kind r Place Place (λ h. clash (cc)) e

  pub place-no_module : set_kind (mark_of r) ≡ Place → is_of Module r ≡ false
  unfolding mark_for
  place-no_module e = of-kind r Place Module (λ h. clash (cc)) e

  pub main-no_module : set_kind (mark_of r) ≡ MainClass → is_of Module r ≡ false
  unfolding mark_for
  main-no_module e = of-kind r MainClass Module (λ h. clash (cc)) e

  pub main-no-place : set_kind (mark_of r) ≡ MainClass → is_of Place r ≡ false
  unfolding mark_for
  main-no-place e = of-kind r MainClass Place (λ h. clash (cc)) e

  pub inner-no_module : is_inner (set_kind (mark_of r)) ≡ true → is_of Module r ≡ false
  inner-no_module e = let i : Inner (set_kind (mark_of r)) = inner-is (set_kind (mark_of r)) e in of-kind r (set_kind (mark_of r)) Module i.known refl ∙ i.no_module

  pub inner-no-place : is_inner (set_kind (mark_of r)) ≡ true → is_of Place r ≡ false
  inner-no-place e = let i : Inner (set_kind (mark_of r)) = inner-is (set_kind (mark_of r)) e in of-kind r (set_kind (mark_of r)) Place i.known refl ∙ i.no_place

-- ---- the check goes on just by such a step

pub not-refused : {X : Type 0} (e : ModuleError) (n : ℕ) (t : List ℕ) → ◌≡◌ {A = SetAnswer} (Err e) (Ok (record { count = n; starts = t })) → X
not-refused e n t h = clash (cc)

module _ (s : List ℕ) (p : Passed) (at : ℕ) (r : List ℕ) (f : Passed → SetAnswer) where
  pub step-goes : {p' : Passed} → Step s p at r p' → go_on (judge_at s p at (set_kind (mark_of r)) (body_of r)) p at f ≡ f p'
  unfolding judge_at is_placed pass_at admit_at enter_at go_on
  step-goes (begins b) = rw (b.kind, b.good, lt-leb module_limit (length p.starts) b.few, b.named, b.new)
  step-goes (belongs b) =
      let i : Inner (set_kind (mark_of r)) = inner-is (set_kind (mark_of r)) b.kind in
      rw (i.placed (length p.here) p.main, lt-ltb 0 (length p.here) b.behind, b.good, i.passes s p at (body_of r))
  step-goes (mains b) = rw (b.kind, b.once, lt-ltb 0 (length p.here) b.behind, b.good)
  step-goes (enters b) = rw (b.kind, b.good, lt-leb 8 p.places b.room)

  module _ (n : ℕ) (t : List ℕ) where
    pub record Goes : Type 0 where
      pub to : Passed
      pub step : Step s p at r to
      pub left : f to ≡ Ok (record { count = n; starts = t })

    admitted : set_kind (mark_of r) ≡ Module → is_body Module (body_of r) ≡ true → go_on (admit_at s p at (body_of r)) p at f ≡ Ok (record { count = n; starts = t }) → Goes
    unfolding admit_at go_on
    admitted k g e = go (leb module_limit (length p.starts)) refl (same_bytes (module_name (body_of r)) all_unnamed) refl (mem_name (module_name (body_of r)) (map (name_at s) p.here)) refl e
      where
        go : (a : Bool) → leb module_limit (length p.starts) ≡ a → (b : Bool) → same_bytes (module_name (body_of r)) all_unnamed ≡ b → (c : Bool) → mem_name (module_name (body_of r)) (map (name_at s) p.here) ≡ c
            → go_on (pick_verdict a (Err (TooLarge at)) (pick_verdict (b || c) (Err (Repeated at)) (Ok Start))) p at f ≡ Ok (record { count = n; starts = t }) → Goes
        go true ea b eb c ec h = not-refused (TooLarge at) n t h
        go false ea true eb c ec h = not-refused (Repeated at) n t h
        go false ea false eb true ec h = not-refused (Repeated at) n t h
        go false ea false eb false ec h =
            record { to = with_module p at; step = begins (record { kind = k; good = g; few = leb-false module_limit (length p.starts) ea; named = eb; new = ec }); left = h }

    entered : set_kind (mark_of r) ≡ Place → is_body Place (body_of r) ≡ true → go_on (enter_at p at) p at f ≡ Ok (record { count = n; starts = t }) → Goes
    unfolding enter_at go_on
    entered k g e = go (leb 8 p.places) refl e
      where
        go : (a : Bool) → leb 8 p.places ≡ a → go_on (pick_verdict a (Err (TooLarge at)) (Ok Enter)) p at f ≡ Ok (record { count = n; starts = t }) → Goes
        go true ea h = not-refused (TooLarge at) n t h
        go false ea h = record { to = with_place p at; step = enters (record { kind = k; good = g; room = leb-false 8 p.places ea }); left = h }

    belonged : (k : Kind) → set_kind (mark_of r) ≡ k → is_inner k ≡ true → ltb 0 (length p.here) ≡ true → is_body k (body_of r) ≡ true → f p ≡ Ok (record { count = n; starts = t }) → Goes
    belonged k ek i b g e = record { to = p; step = belongs (record { kind = rw ek i; good = rw ek g; behind = ltb-true 0 (length p.here) b }); left = e }

    passed : (k : Kind) → set_kind (mark_of r) ≡ k → is_placed (length p.here) p.main k ≡ true → is_body k (body_of r) ≡ true → go_on (pass_at s p at k (body_of r)) p at f ≡ Ok (record { count = n; starts = t }) → Goes
    unfolding is_placed pass_at go_on is_inner
    passed Module k h g e = admitted k g e
    passed Requires k h g e = belonged Requires k refl h g e
    passed Exports k h g e = belonged Exports k refl h g e
    passed Opens k h g e = belonged Opens k refl h g e
    passed Uses k h g e = belonged Uses k refl h g e
    passed Provides k h g e = belonged Provides k refl h g e
    passed Package k h g e = belonged Package k refl h g e
    passed MainClass k h g e =
        record {
          to = with_main p;
          step = mains (record {
            kind = k;
            good = g;
            behind = ltb-true 0 (length p.here) (and_right (not p.main) (ltb 0 (length p.here)) h);
            once = not-true p.main (and_left (not p.main) (ltb 0 (length p.here)) h);
          });
          left = e;
        }
    passed Place k h g e = entered k g e
    passed Root k h g e = clash (cc)
    passed LimitModules k h g e = clash (cc)
    passed AddReads k h g e = clash (cc)
    passed AddExports k h g e = clash (cc)
    passed AddOpens k h g e = clash (cc)
    passed Static k h g e = clash (cc)
    passed Other k h g e = clash (cc)

    pub goes : go_on (judge_at s p at (set_kind (mark_of r)) (body_of r)) p at f ≡ Ok (record { count = n; starts = t }) → Goes
    unfolding judge_at go_on
    goes e = go (is_placed (length p.here) p.main (set_kind (mark_of r))) refl (is_body (set_kind (mark_of r)) (body_of r)) refl e
      where
        go : (a : Bool) → is_placed (length p.here) p.main (set_kind (mark_of r)) ≡ a → (b : Bool) → is_body (set_kind (mark_of r)) (body_of r) ≡ b
            → go_on (pick_verdict (a && b) (pass_at s p at (set_kind (mark_of r)) (body_of r)) (Err (Malformed Set at))) p at f ≡ Ok (record { count = n; starts = t }) → Goes
        go true ea true eb h = passed (set_kind (mark_of r)) refl ea eb h
        go true ea false eb h = not-refused (Malformed Set at) n t h
        go false ea b eb h = not-refused (Malformed Set at) n t h

-- ---- one record after the other

-- r stands in s at `at`
pub record Here (s : List ℕ) (at : ℕ) (r : List ℕ) : Type 0 where
  pub one : IsRecord r
  pub body : body_at s at ≡ body_of r

pub name_of : {s : List ℕ} {at : ℕ} {r : List ℕ} → Here s at r → name_at s at ≡ module_name (body_of r)
unfolding name_at
name_of h = rw h.body

-- the record in front of what stands at `at`
here-front : (s t : List ℕ) (at : ℕ) → whole t ≡ true → drop at s ≡ t → Here s at (take (suc (record_more t)) t)
unfolding body_at
here-front s t at e d = record { one = front_record t e; body = rw (body-front t, d) }

pub name-here : (s t : List ℕ) (at : ℕ) → whole t ≡ true → drop at s ≡ t → name_at s at ≡ module_name (body_of (take (suc (record_more t)) t))
name-here s t at e d = name_of (here-front s t at e d)

pub data Stands (s : List ℕ) : ℕ → List (List ℕ) → Type 0 where
  none : {at : ℕ} → Stands s at []
  more : {at : ℕ} {r : List ℕ} {rs : List (List ℕ)} → Here s at r → Stands s (at + length r) rs → Stands s at (r ∷ rs)

record StandsIn (s t : List ℕ) : Type 0 where
  stands : (at : ℕ) → drop at s ≡ t → Stands s at (records t)

stands-stop : (s t : List ℕ) → whole t ≡ false → StandsIn s t
stands-stop s t e = record { stands = λ at d. rw (records-none t e) none }

stands-more : (s t : List ℕ) → whole t ≡ true → StandsIn s (drop (suc (record_more t)) t) → StandsIn s t
stands-more s t e ih = record {
  stands = λ at d.
      let l : length (take (suc (record_more t)) t) ≡ suc (record_more t) = (front_of t e).long in
      rw (records-cons t e)
      (more (here-front s t at e d)
      (ih.stands (at + length (take (suc (record_more t)) t)) (rw l (sym (drop-drop (suc (record_more t)) at s) ∙ ap (drop (suc (record_more t))) d))));
}

-- the records of s stand in it
pub stands : (s : List ℕ) → Stands s 0 (records s)
stands s = (records-ind (StandsIn s) (stands-stop s) (stands-more s) s).stands 0 refl

-- from a state, over the records rs at `at`, which end the set, to the last state
pub data Walk (s : List ℕ) : Passed → ℕ → List (List ℕ) → Passed → Type 0 where
  end : {p : Passed} {at : ℕ} → at ≡ length s → Walk s p at [] p
  on : {p : Passed} {at : ℕ} {r : List ℕ} {p' q : Passed} {rs : List (List ℕ)} → Here s at r → Step s p at r p' → Walk s p' (at + length r) rs q → Walk s p at (r ∷ rs) q

record Walked (s : List ℕ) (p : Passed) (at : ℕ) (rs : List (List ℕ)) (n : ℕ) (t : List ℕ) : Type 0 where
  last : Passed
  walk : Walk s p at rs last
  is : accepted last.starts (length s) ≡ Ok (record { count = n; starts = t })

walked_from : (s : List ℕ) (n : ℕ) (t : List ℕ) (p : Passed) {at : ℕ} {rs : List (List ℕ)} → Stands s at rs → check_from s p at rs ≡ Ok (record { count = n; starts = t }) → Walked s p at rs n t
unfolding check_from
walked_from s n t p (none {at = at}) e = go (eqb at (length s)) refl e
  where
    go : (b : Bool) → eqb at (length s) ≡ b → pick_checked b (accepted p.starts (length s)) (Err (Malformed Set at)) ≡ Ok (record { count = n; starts = t }) → Walked s p at [] n t
    go true eb h = record { last = p; walk = end (eqb-true at (length s) eb); is = h }
    go false eb h = not-refused (Malformed Set at) n t h
walked_from s n t p (more {at = at} {r = r} {rs = rs} h w) e =
    let g : Goes s p at r (λ q. check_from s q (at + length r) rs) n t = goes s p at r (λ q. check_from s q (at + length r) rs) n t e in
    let k : Walked s g.to (at + length r) rs n t = walked_from s n t g.to w g.left in
    record { last = k.last; walk = on h g.step k.walk; is = k.is }

-- a set that the check takes
pub record Takes (s : List ℕ) (n : ℕ) (t : List ℕ) : Type 0 where
  pub short : length s ≤ 65535
  pub last : Passed
  pub walk : Walk s none_yet 0 (records s) last
  pub is : accepted last.starts (length s) ≡ Ok (record { count = n; starts = t })

pub takes : (s : List ℕ) (n : ℕ) (t : List ℕ) → check_set s ≡ Ok (record { count = n; starts = t }) → Takes s n t
unfolding check_set
takes s n t e = go (ltb 65535 (length s)) refl e
  where
    go : (b : Bool) → ltb 65535 (length s) ≡ b → pick_checked b (Err (TooLarge 0)) (check_from s none_yet 0 (records s)) ≡ Ok (record { count = n; starts = t }) → Takes s n t
    go true eb h = not-refused (TooLarge 0) n t h
    go false eb h =
        let w : Walked s none_yet 0 (records s) n t = walked_from s n t none_yet (stands s) h in
        record { short = ltb-false 65535 (length s) eb; last = w.last; walk = w.walk; is = w.is }
