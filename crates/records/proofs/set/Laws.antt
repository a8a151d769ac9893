-- What each return of the set's check shows.
use Prim.Native.Nat.{ℕ, suc, ◌+◌, ◌-◌, ◌≤◌, ◌<◌}
use mathlib.Core.Path.{◌≡◌, refl, sym, ◌∙◌, ap}
use mathlib.Core.List.{List, [], ◌∷◌, ◌++◌, map, map-append}
use mathlib.Core.Bool.{Bool, true, false, ◌&&◌, ◌||◌}
use native.Mathlib.Omega.{arith}
use native.Mathlib.Numerals.{add-one}
use lib.ListN.{length, get_or, take, drop, set, replicate, length-set, length-drop, get_or-eq_default}
use lib.Seq.{length-take-le, take-suc-set, take-set-le, take-add, drop-drop, drop-set-add, set_at, append_snoc}
use lib.Dec.{leb}
use borrow.Author.Tests.{eq-eqb, ne_eqb, lt-ltb, le-ltb, le-leb, lt-leb, leb-false}
use types.Run.{OneOf, miss}
use denote.Enum.Declared.{tag_of}
use Rattle.records.specs.Bytes.{same_bytes}
use Rattle.records.specs.Name.{all_unnamed, name_of, mem_name}
use Rattle.records.specs.Record.{records, step_at, set_kind, is_body}
use Rattle.records.specs.Descriptor.{module_name}
use Rattle.records.specs.Finder.{find_name}
use Rattle.records.specs.Set.{Passed, here_of, passed_of, name_at, is_placed, admit_at, enter_at, places_at, pass_at, judge_at, pick_verdict, table_of, accepted, go_on, check_from, check_set, block_at, body_at, module_limit, starts_length}
use Rattle.records.specs.Sorted.{Indexed, Added, leaves, Kept, IndexedSet}
use Rattle.records.specs.declared.record.Cursor.{Cursor}
use Rattle.records.specs.declared.record.Step.{Step}
use Rattle.records.specs.declared.record.Step.TheVariants.{Record, Bad, End}
use Rattle.records.specs.declared.record.Kind.{Kind}
use Rattle.records.specs.declared.record.Kind.TheVariants.{Module, Requires, Exports, Opens, Uses, Provides, Package, MainClass, Place, Root, LimitModules, AddReads, AddExports, AddOpens, Static, Other}
use Rattle.records.specs.Finder.{Found}
use Rattle.records.specs.declared.error.Input.TheVariants.{Set}
use Rattle.records.specs.declared.error.ModuleError.{ModuleError}
use Rattle.records.specs.declared.error.ModuleError.TheVariants.{Malformed, TooLarge, Repeated}
use Rattle.records.specs.Set.{VerdictAnswer}
use Rattle.records.specs.declared.set.Verdict.{Verdict}
use Rattle.records.specs.declared.set.Verdict.TheVariants.{Start, Main, Enter, Pass}
use Rattle.records.specs.Set.{SetAnswer}
use Rattle.records.specs.declared.set.Seen.{Seen}
use Rattle.records.proofs.Logic.{clash, true≠false, neither_right}
use Rattle.records.proofs.bytes.Laws.{tail_none, tail-some}
use Rattle.records.specs.contracts.record.Kind.{the_type}
use Rattle.records.proofs.record.Laws.{Stepped, stepped, stepped-bad, stepped-end, stepped_in, records-next, front-mark, front-body, front_length, records-none, records-end}
use Rattle.records.proofs.finder.Laws.{found_in_lem, found-not}
use Rattle.std.specs.Prelude.{Some, None, Ok, Err}

-- ---- one record

pub later-none : (t : List ℕ) (n : ℕ) → length t < n → [] ≡ drop n t
later-none t n h = tail_none t n h

pub later-some : (t : List ℕ) (n : ℕ) → take (length t - n) (drop n t) ≡ drop n t
later-some t n = tail-some t n

pub ruleset later_laws = (later-none, later-some)

-- the modules of the present place, by the table
module _ (t : List ℕ) (n : Seen) (parted : n.first ≤ n.count) (few : n.count ≤ length t) where
  here_in : n.count - n.first ≤ length (drop n.first t)
  here_in = rw length-drop (omega arith)

  here-long : length (here_of t n) ≡ n.count - n.first
  here-long = length-take-le (n.count - n.first) (drop n.first t) here_in

-- a name of none of the modules is none of those in the present place
mem-back : (x : List ℕ) (a b : List (List ℕ)) → mem_name x (a ++ b) ≡ false → mem_name x b ≡ false
unfolding mem_name
mem-back x [] b e = e
mem-back x (m ∷ a) b e = mem-back x a b (neither_right (same_bytes m x) (mem_name x (a ++ b)) e)

here-none : (s t : List ℕ) (n : Seen) (x : List ℕ) → n.first ≤ n.count → mem_name x (map (name_at s) (take n.count t)) ≡ false → mem_name x (map (name_at s) (here_of t n)) ≡ false
here-none s t n x p e =
    let q : n.first + (n.count - n.first) ≡ n.count = omega arith in
    let w : take n.count t ≡ take n.first t ++ here_of t n = ap (λ (k : ℕ). take k t) (sym q) ∙ take-add n.first (n.count - n.first) t in
    mem-back x (map (name_at s) (take n.first t)) (map (name_at s) (here_of t n)) (rw (w, map-append (name_at s) (take n.first t) (here_of t n)) at e)

-- what a verdict leaves of the index

module _ (names : List (List ℕ)) (name index : List ℕ) where
  pub kept-stop : (index' : List ℕ) (e : ModuleError) → Kept names name index index' (Err e)
  unfolding leaves
  kept-stop index' e = record { start = λ q. clash (cc); other = λ q. true≠false q refl }

  pub kept-start : (index' : List ℕ) → Indexed (names ++ (name ∷ [])) index' → Kept names name index index' (Ok Start)
  unfolding leaves
  kept-start index' x = record { start = λ q. x; other = λ q. true≠false q refl }

  pub kept-main : Kept names name index index (Ok Main)
  kept-main = record { start = λ q. clash (cc); other = λ q. refl }

  pub kept-enter : Kept names name index index (Ok Enter)
  kept-enter = record { start = λ q. clash (cc); other = λ q. refl }

  pub kept-pass : Kept names name index index (Ok Pass)
  kept-pass = record { start = λ q. clash (cc); other = λ q. refl }

module _ (s t : List ℕ) (n : Seen) (at : ℕ) (b : List ℕ) (few : n.count ≤ length t) where
  counted : length (take n.count t) ≡ n.count
  counted = length-take-le n.count t few

  pub admit_full : module_limit ≤ n.count → Err (TooLarge at) ≡ admit_at s (passed_of t n) at b
  unfolding admit_at
  admit_full l = rw (counted, le-leb module_limit n.count l)

  module _ (l : n.count < module_limit) (u m : List ℕ) (eu : u ≡ drop 3 b) (em : m ≡ name_of u) (r : Bool) (er : r ≡ same_bytes m all_unnamed) where
    room : leb module_limit (length (take n.count t)) ≡ false
    room = rw (counted) (lt-leb module_limit n.count l)

    named : m ≡ module_name b
    unfolding module_name
    named = cc

    pub admit_unnamed : r ≡ true → Err (Repeated at) ≡ admit_at s (passed_of t n) at b
    unfolding admit_at
    admit_unnamed e = sym (rw (room, ← named, ← er, e))

    -- a new name
    pub admit_added : (p : n.first ≤ n.count) (index' : List ℕ) (a : Bool) → r ≡ false → Added (map (name_at s) (take n.count t)) m index' a → a ≡ true → (Ok Start) ≡ admit_at s (passed_of t n) at b
    unfolding admit_at
    admit_added p index' a e x f = sym (rw (room, ← named, ← er, e, here-none s t n m p (x.new f)))

    pub admit_kept : (index index' : List ℕ) (a : Bool) → Added (map (name_at s) (take n.count t)) m index' a → Kept (map (name_at s) (take n.count t)) (module_name b) index index' (Ok Start)
    admit_kept index index' a x = kept-start (map (name_at s) (take n.count t)) (module_name b) index index' (rw (← named) x.indexed)

    module _ (e : r ≡ false) (h : List ℕ) (eh : h ≡ drop n.first t) (f : Found) (ef : f ≡ find_name (map (name_at s) (take (n.count - n.first) h)) m 0) where
      looked : (g : Found) → f ≡ g → find_name (map (name_at s) (here_of t n)) m 0 ≡ g
      looked g eg = rw (← eh) (sym ef ∙ eg)

      pub admit_twice : (j : ℕ) → f ≡ Some j → Err (Repeated at) ≡ admit_at s (passed_of t n) at b
      unfolding admit_at
      admit_twice j fj = sym (rw (room, ← named, ← er, e, found_in_lem (map (name_at s) (here_of t n)) m 0 j (looked (Some j) fj)))

      pub admit_new : f ≡ None → (Ok Start) ≡ admit_at s (passed_of t n) at b
      unfolding admit_at
      admit_new fn = sym (rw (room, ← named, ← er, e, found-not (map (name_at s) (here_of t n)) m 0 (looked None fn)))

pub ruleset admit_laws = (admit_full, admit_unnamed, admit_added, admit_kept, admit_twice, admit_new, kept-stop)

module _ (s : List ℕ) (p : Passed) (at : ℕ) (k : Kind) (b : List ℕ) where
  pub pass_module : (r : VerdictAnswer) → k ≡ Module → r ≡ admit_at s p at b → r ≡ pass_at s p at k b
  unfolding pass_at
  pass_module r e er = cc

  pub pass-main : k ≡ MainClass → (Ok Main) ≡ pass_at s p at k b
  unfolding pass_at
  pass-main e = cc

  place_is : k ≡ Place → pass_at s p at k b ≡ enter_at p at
  unfolding pass_at
  place_is e = cc

  pub pass-ninth : k ≡ Place → 8 ≤ p.places → Err (TooLarge at) ≡ pass_at s p at k b
  unfolding enter_at
  pass-ninth e l = sym (place_is e ∙ rw (le-leb 8 p.places l))

  pub pass-place : k ≡ Place → p.places < 8 → (Ok Enter) ≡ pass_at s p at k b
  unfolding enter_at
  pass-place e l = sym (place_is e ∙ rw (lt-leb 8 p.places l))

-- every kind but MO, MC and PL
abbrev inner : List ℕ
inner = 1 ∷ 2 ∷ 3 ∷ 4 ∷ 5 ∷ 6 ∷ 9 ∷ 10 ∷ 11 ∷ 12 ∷ 13 ∷ 14 ∷ 15 ∷ []

pub pass-other : (s : List ℕ) (p : Passed) (at : ℕ) (k : Kind) (b : List ℕ) → OneOf inner (tag_of the_type k) → (Ok Pass) ≡ pass_at s p at k b
unfolding pass_at
pass-other s p at Module b h = absurd (miss inner 0 tt h)
pass-other s p at Requires b h = refl
pass-other s p at Exports b h = refl
pass-other s p at Opens b h = refl
pass-other s p at Uses b h = refl
pass-other s p at Provides b h = refl
pass-other s p at Package b h = refl
pass-other s p at MainClass b h = absurd (miss inner 7 tt h)
pass-other s p at Place b h = absurd (miss inner 8 tt h)
pass-other s p at Root b h = refl
pass-other s p at LimitModules b h = refl
pass-other s p at AddReads b h = refl
pass-other s p at AddExports b h = refl
pass-other s p at AddOpens b h = refl
pass-other s p at Static b h = refl
pass-other s p at Other b h = refl

pub ruleset pass_laws = (pass_module, pass-main, pass-ninth, pass-place, pass-other, kept-stop, kept-main, kept-enter, kept-pass)

module _ (s t : List ℕ) (n : Seen) (at : ℕ) (parted : n.first ≤ n.count) (few : n.count ≤ length t)
    (k : Kind) (b : List ℕ) (p : Bool) (ep : p ≡ is_placed (n.count - n.first) n.main k) where
  placed : is_placed (length (here_of t n)) n.main k ≡ p
  placed = rw (here-long t n parted few) (sym ep)

  pub judge_out : p ≡ false → Err (Malformed Set at) ≡ judge_at s (passed_of t n) at k b
  unfolding judge_at
  judge_out e = sym (rw (placed, e))

  pub judge_bad : (q : Bool) → p ≡ true → q ≡ is_body k b → q ≡ false → Err (Malformed Set at) ≡ judge_at s (passed_of t n) at k b
  unfolding judge_at
  judge_bad q e eq f = sym (rw (placed, e, ← eq, f))

  pub judge_pass : (q : Bool) (r : VerdictAnswer) → p ≡ true → q ≡ is_body k b → q ≡ true → r ≡ pass_at s (passed_of t n) at k b → r ≡ judge_at s (passed_of t n) at k b
  unfolding judge_at
  judge_pass q r e eq f er = er ∙ sym (rw (placed, e, ← eq, f))

pub ruleset judge_laws = (judge_out, judge_bad, judge_pass, kept-stop)

-- ---- a block by the table

pub entry_none : (t : List ℕ) (i : ℕ) → length t ≤ i → 0 ≡ get_or t i 0
entry_none t i h = sym (get_or-eq_default t 0 h)

nothing : (s : List ℕ) (n m : ℕ) → m ≤ n → [] ≡ take (m - n) (drop n s)
nothing s n m l = let e : m - n ≡ 0 = omega arith in sym (rw e)

module _ (s t : List ℕ) (i : ℕ) where
  pub block_none : length t ≤ i → [] ≡ block_at s t i
  unfolding block_at
  block_none h = let e : 0 ≡ get_or t (i + 1) 0 = entry_none t (i + 1) (omega arith) in nothing s (get_or t i 0) (get_or t (i + 1) 0) (omega arith)

  pub block-turned : (to : ℕ) → to ≡ get_or t (i + 1) 0 → to < get_or t i 0 → [] ≡ block_at s t i
  unfolding block_at
  block-turned to e l = nothing s (get_or t i 0) (get_or t (i + 1) 0) (omega arith)

  pub block_is : (to : ℕ) (r : List ℕ) → to ≡ get_or t (i + 1) 0 → r ≡ take (to - get_or t i 0) (drop (get_or t i 0) s) → r ≡ block_at s t i
  unfolding block_at
  block_is to r e er = er ∙ rw e

pub ruleset block_laws = (block_none, block-turned, block_is)

-- ---- the whole set

-- the records before `at` pass; their modules start at the first `count` entries of the table, whose other entries are 0;
-- the index has their names; and those from `at` on decide
pub record CheckAt (s : List ℕ) (at : ℕ) (t index : List ℕ) (n : Seen) : Type 0 where
  pub within : at ≤ length s
  pub short : length s ≤ 65535
  pub few : n.count ≤ module_limit
  pub parted : n.first ≤ n.count
  pub begun : n.places ≤ at + 1
  pub zeros : t ≡ take n.count t ++ replicate (starts_length - n.count) 0
  pub long : length t ≡ starts_length
  pub by : Indexed (map (name_at s) (take n.count t)) index
  pub left : check_set s ≡ check_from s (passed_of t n) at (records (drop at s))

pub check-long : (s : List ℕ) (r : SetAnswer) → 65535 < length s → r ≡ Err (TooLarge 0) → r ≡ check_set s
unfolding check_set
check-long s r l e = e ∙ sym (rw (lt-ltb 65535 (length s) l))

pub check-start : (s index : List ℕ) → length s ≤ 65535 → Indexed [] index → CheckAt s 0 (replicate starts_length 0) index (record { count = 0; first = 0; places = 1; main = false })
unfolding check_set
check-start s index l x = record {
  within = omega arith;
  short = l;
  few = omega arith;
  parted = omega arith;
  begun = omega arith;
  zeros = refl;
  long = refl;
  by = x;
  left = rw (le-ltb 65535 (length s) l);
}

admit_room : (s : List ℕ) (p : Passed) (at : ℕ) (b : List ℕ) → admit_at s p at b ≡ (Ok Start) → length p.starts < module_limit
unfolding admit_at
admit_room s p at b e = go (leb module_limit (length p.starts)) refl e
  where
    rest : VerdictAnswer
    rest = pick_verdict (same_bytes (module_name b) all_unnamed || mem_name (module_name b) (map (name_at s) p.here)) (Err (Repeated at)) (Ok Start)

    go : (c : Bool) → leb module_limit (length p.starts) ≡ c → pick_verdict c (Err (TooLarge at)) rest ≡ (Ok Start) → length p.starts < module_limit
    go true ec h = clash (cc)
    go false ec h = leb-false module_limit (length p.starts) ec

enter-not : (p : Passed) (at : ℕ) → enter_at p at ≡ (Ok Start) → ⊥
unfolding enter_at
enter-not p at e = go (leb 8 p.places) e
  where
    go : (c : Bool) → pick_verdict c (Err (TooLarge at)) (Ok Enter) ≡ (Ok Start) → ⊥
    go true h = clash (cc)
    go false h = clash (cc)

passed-room : (s : List ℕ) (p : Passed) (at : ℕ) (k : Kind) (b : List ℕ) → pass_at s p at k b ≡ (Ok Start) → length p.starts < module_limit
unfolding pass_at
passed-room s p at Module b e = admit_room s p at b e
passed-room s p at Requires b e = clash (cc)
passed-room s p at Exports b e = clash (cc)
passed-room s p at Opens b e = clash (cc)
passed-room s p at Uses b e = clash (cc)
passed-room s p at Provides b e = clash (cc)
passed-room s p at Package b e = clash (cc)
passed-room s p at MainClass b e = clash (cc)
passed-room s p at Place b e = absurd (enter-not p at e)
passed-room s p at Root b e = clash (cc)
passed-room s p at LimitModules b e = clash (cc)
passed-room s p at AddReads b e = clash (cc)
passed-room s p at AddExports b e = clash (cc)
passed-room s p at AddOpens b e = clash (cc)
passed-room s p at Static b e = clash (cc)
passed-room s p at Other b e = clash (cc)

-- a Start is given only where the table has room
start-room : (s : List ℕ) (p : Passed) (at : ℕ) (k : Kind) (b : List ℕ) → judge_at s p at k b ≡ (Ok Start) → length p.starts < module_limit
unfolding judge_at
start-room s p at k b e = go (is_placed (length p.here) p.main k && is_body k b) e
  where
    go : (c : Bool) → pick_verdict c (pass_at s p at k b) (Err (Malformed Set at)) ≡ (Ok Start) → length p.starts < module_limit
    go true h = passed-room s p at k b h
    go false h = clash (cc)

table_more : (t : List ℕ) (count at : ℕ) → count < starts_length → length t ≡ starts_length → t ≡ take count t ++ replicate (starts_length - count) 0
    → set t count at ≡ take count t ++ (at ∷ replicate (module_limit - count) 0)
table_more t count at l e z =
    let n : starts_length - count ≡ suc (module_limit - count) = omega arith in
    let p : length (take count t) ≡ count = length-take-le count t (omega arith) in
    let w : t ≡ take count t ++ (0 ∷ replicate (module_limit - count) 0) = z ∙ rw n in
    ap (λ (x : List ℕ). set x count at) w ∙ set_at (take count t) 0 (replicate (module_limit - count) 0) at count p

-- an entry more at the end of the table, and what that leaves of the present place
module _ (t : List ℕ) (n : Seen) (parted : n.first ≤ n.count) (few : n.count < length t) (x : ℕ) where
  later-set : drop n.first (set t n.count x) ≡ set (drop n.first t) (n.count - n.first) x
  later-set =
      let q : n.count ≡ n.first + (n.count - n.first) = omega arith in
      ap (λ (i : ℕ). drop n.first (set t i x)) q ∙ drop-set-add n.first t (n.count - n.first) x

  here-more : take (n.count - n.first + 1) (drop n.first (set t n.count x)) ≡ here_of t n ++ (x ∷ [])
  here-more = rw (later-set, add-one) (take-suc-set (drop n.first t) (n.count - n.first) x (rw length-drop (omega arith)))

module _ (s : List ℕ) (at : ℕ) (t index : List ℕ) (n : Seen) (h : CheckAt s at t index n) (step : Step) (es : step ≡ step_at s at) where
  pub check-room : n.count ≤ length t
  check-room = omega (arith, h.few, h.long)

  pub check-fits : n.count < starts_length
  check-fits = omega (arith, h.few)

  module _ (mark start len : ℕ) (next : Cursor) (er : step ≡ Record mark start len next) (k : Kind) (ek : k ≡ set_kind mark) (b : List ℕ) (eb : b ≡ take len (drop start s))
      (v : VerdictAnswer) (judged : v ≡ judge_at s (passed_of t n) at k b) where
    ev : v ≡ judge_at s (passed_of t n) at (set_kind mark) (take len (drop start s))
    ev = judged ∙ rw (ek, eb)

    p : Stepped s at mark start len next
    p = stepped s at step es mark start len next er

    turn : check_set s ≡ go_on v (passed_of t n) at (λ q. check_from s q next.at (records (drop next.at s)))
    unfolding check_from
    turn =
        h.left
        ∙ rw (records-next s at mark start len next p, front-mark s at mark start len next p, front-body s at mark start len next p, front_length s at mark start len next p, ev)

    inside : next.at ≤ length s
    inside = omega (arith, p.next_is, p.room)

    more : n.places + 1 ≤ next.at + 1
    more = omega (arith, p.next_is, h.begun)

    pub check-stop : (e : ModuleError) → v ≡ Err e → Err e ≡ check_set s
    unfolding go_on
    check-stop e f = sym (turn ∙ rw f)

    -- what the index is after it
    module _ (index' : List ℕ) (kp : Kept (map (name_at s) (take n.count t)) (module_name b) index index' v) where
      kept_by : leaves v ≡ true → Indexed (map (name_at s) (take n.count t)) index'
      kept_by e = rw (kp.other e) h.by

      pub check-main : (x : Verdict) → v ≡ Ok x → x ≡ Main → CheckAt s next.at t index' (record { count = n.count; first = n.first; places = n.places; main = true })
      unfolding go_on leaves
      check-main x e g = let f : v ≡ Ok Main = e ∙ ap Ok g in record { within = inside; short = h.short; few = h.few; parted = h.parted; begun = omega (arith, more); zeros = h.zeros; long = h.long; by = kept_by (rw f); left = turn ∙ rw f }

      pub check-pass : (x : Verdict) → v ≡ Ok x → x ≡ Pass → CheckAt s next.at t index' n
      unfolding go_on leaves
      check-pass x e g = let f : v ≡ Ok Pass = e ∙ ap Ok g in record { within = inside; short = h.short; few = h.few; parted = h.parted; begun = omega (arith, more); zeros = h.zeros; long = h.long; by = kept_by (rw f); left = turn ∙ rw f }

    -- a place begins: it has no module yet
    nobody : n.count - n.count ≡ 0
    nobody = omega arith

    module _ (index' : List ℕ) (kp : Kept (map (name_at s) (take n.count t)) (module_name b) index index' v) where
      pub check-first : (x : Verdict) → v ≡ Ok x → x ≡ Enter → at ≤ 0 → CheckAt s next.at t index' (record { count = n.count; first = n.count; places = n.places; main = n.main })
      unfolding go_on places_at leaves
      check-first x e g l = let f : v ≡ Ok Enter = e ∙ ap Ok g in record { within = inside; short = h.short; few = h.few; parted = omega arith; begun = omega (arith, more); zeros = h.zeros; long = h.long; by = kept_by index' kp (rw f); left = turn ∙ rw (f, le-ltb 0 at l, nobody) }

      pub check-enter : (x : Verdict) → v ≡ Ok x → x ≡ Enter → 0 < at → CheckAt s next.at t index' (record { count = n.count; first = n.count; places = n.places + 1; main = n.main })
      unfolding go_on places_at leaves
      check-enter x e g l = let f : v ≡ Ok Enter = e ∙ ap Ok g in record { within = inside; short = h.short; few = h.few; parted = omega arith; begun = more; zeros = h.zeros; long = h.long; by = kept_by index' kp (rw f); left = turn ∙ rw (f, lt-ltb 0 at l, nobody) }

    pub check-few : (x : Verdict) → v ≡ Ok x → x ≡ Start → n.count < module_limit
    check-few x e g =
        let f : v ≡ Ok Start = e ∙ ap Ok g in
        let q : length (take n.count t) < module_limit = start-room s (passed_of t n) at (set_kind mark) (take len (drop start s)) (sym ev ∙ f) in
        omega (arith, q, length-take-le n.count t (omega (arith, h.few, h.long)))

    pub check-start-fits : (x : Verdict) → v ≡ Ok x → x ≡ Start → n.count + 1 ≤ module_limit
    check-start-fits x e g = omega (arith, check-few x e g)

    name-here : name_at s at ≡ module_name b
    unfolding name_at body_at
    name-here = rw (eb, p.len_is, p.start_is, drop-drop 4 at s)

    pub check_module : (index' : List ℕ) → Kept (map (name_at s) (take n.count t)) (module_name b) index index' v → (x : Verdict) → v ≡ Ok x → x ≡ Start
        → CheckAt s next.at (set t n.count at) index' (record { count = n.count + 1; first = n.first; places = n.places; main = false })
    unfolding go_on
    check_module index' kp x y z =
        let f : v ≡ Ok Start = y ∙ ap Ok z in
        let k : n.count < module_limit = check-few x y z in
        let w : set t n.count at ≡ take n.count t ++ (at ∷ replicate (module_limit - n.count) 0) = table_more t n.count at (omega arith) h.long h.zeros in
        let q : take (n.count + 1) (set t n.count at) ≡ take n.count t ++ (at ∷ []) = rw add-one (take-suc-set t n.count at (omega (arith, h.long))) in
        let m : starts_length - (n.count + 1) ≡ module_limit - n.count = omega arith in
        let d : n.count + 1 - n.first ≡ n.count - n.first + 1 = omega (arith, h.parted) in
        let e : take (n.count - n.first + 1) (drop n.first (set t n.count at)) ≡ here_of t n ++ (at ∷ []) = here-more t n h.parted (omega (arith, h.long)) at in
        record {
          within = inside;
          short = h.short;
          few = omega arith;
          parted = omega (arith, h.parted);
          begun = omega (arith, more);
          zeros = rw (q, m) (w ∙ sym (append_snoc (take n.count t) at (replicate (module_limit - n.count) 0)));
          long = length-set t n.count at ∙ h.long;
          by = rw (q, map-append (name_at s) (take n.count t) (at ∷ []), name-here) (kp.start f);
          left = rw (q, d, e) (turn ∙ rw f);
        }

    pub check-less : length s - next.at < length s - at
    check-less = omega (arith, p.next_is, p.room)

    pub check-places : n.places + 1 ≤ 65536
    check-places = omega (arith, more, inside, h.short)

  pub check-bad : (r : SetAnswer) → step ≡ Bad → r ≡ Err (Malformed Set at) → r ≡ check_set s
  unfolding check_from
  check-bad r e g =
      g
      ∙ sym
      (h.left
      ∙ rw (
        records-none (drop at s) (stepped-bad s at step es e),
        ne_eqb at (length s) (omega (arith, stepped_in s at step es e)),
      ))

  pub check-by : Indexed (map (name_at s) (take n.count t)) index
  check-by = h.by

  pub check-indexed : (x : ℕ) (index' : List ℕ) → Indexed (map (name_at s) (take n.count t)) index'
      → IndexedSet s (Ok (record { count = n.count; starts = set t n.count x })) index'
  check-indexed x index' y = record { names = λ c e. let q : record { count = n.count; starts = set t n.count x } ≡ c = cc in rw (← q, take-set-le n.count t n.count x (omega arith)) y }

  pub check-end : step ≡ End → Ok (record { count = n.count; starts = set t n.count (length s) }) ≡ check_set s
  unfolding check_from accepted table_of
  check-end e =
      let c : length (take n.count t) ≡ n.count = length-take-le n.count t (omega (arith, h.few, h.long)) in
      let w : set t n.count (length s) ≡ take n.count t ++ (length s ∷ replicate (module_limit - n.count) 0) = table_more t n.count (length s) (omega (arith, h.few)) h.long h.zeros in
      sym
      (h.left
      ∙ rw (
        records-end s at (stepped-end s at step es e),
        eq-eqb at (length s) (omega (arith, stepped-end s at step es e, h.within)),
        c,
        w,
      ))

-- a set that is refused has no index
pub check-none : (s : List ℕ) (e : ModuleError) (r : SetAnswer) (index : List ℕ) → r ≡ Err e → IndexedSet s r index
check-none s e r index f = record { names = λ c q. clash (let z : Err e ≡ Ok c = sym f ∙ q in cc) }

pub ruleset check_laws = (check-long, check-start, check-room, check-fits, check-stop, check-main, check-pass, check-first, check-enter, check-places, check-start-fits, check_module, check-less, check-bad, check-by, check-indexed, check-end, check-none)

pub ruleset check_set_with_laws = (check_laws, check_module, check-enter, check-first)
