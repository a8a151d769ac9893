-- The positions of a line are below the number of modules and all different, so that they are no more than the modules: in the
-- positional form itself, at each of its steps.
use mathlib.Core.Path.{◌≡◌, refl, sym, subst}
use Prim.Native.Nat.{ℕ, zero, suc, ◌+◌, ◌-◌, ◌≤◌, ◌<◌}
use native.Mathlib.Omega.{arith}
use mathlib.Core.Bool.{Bool, true, false, not, ◌&&◌}
use mathlib.Core.List.Memᴰ
use mathlib.Core.List.{List, [], ◌∷◌, ◌++◌, map}
use mathlib.Core.Logic.{⊎_elim}
use lib.ListN.{length, get_or, take, length-append, length-map, length-take}
use lib.Dec.{eqb}
use borrow.Author.Tests.{eq-eqb, eqb-true, eqb-false, not-true}
use Rattle.records.specs.Name.{java_base, mem_name}
use Rattle.records.specs.Record.{body_of, is_of}
use Rattle.records.specs.Request.{request_of, is_permitted}
use Rattle.records.specs.Set.{name_at}
use Rattle.records.specs.declared.error.Input.{Input}
use Rattle.records.specs.declared.error.ModuleError.{ModuleError}
use Rattle.records.specs.declared.error.ModuleError.TheVariants.{JavaBaseNotFound}
use Rattle.records.specs.Finder.{Found}
use Rattle.records.proofs.Logic.{clash, and_both, and_left, and_right, by, not_of_false, true≠false}
use Rattle.records.proofs.finder.Modules.{found_at}
use Rattle.records.specs.Descriptor.{requirement_of}
use Rattle.resolution.specs.Resolution.{leads}
use Rattle.resolution.specs.declared.resolver.Halt.{Halt}
use Rattle.resolution.specs.declared.resolver.Wanted.{Wanted}
use Rattle.resolution.specs.declared.resolver.Wanted.TheVariants.{Pass, Add, Stop, Refuse}
use Rattle.resolution.specs.Lists.{Mem, Name, any}
use Rattle.resolution.specs.Resolver.{Inputs, Line, front_at, goes_on, halted, handle_at, handled_at, in_rounds, is_done, is_met_before, is_one_of, is_open, is_provider_at, kind_for, locate, pick_line, pick_wanted, provide_at, provide_from, queue_in, queued, queued_on, resolve_at, roots_at, rounds_at, run_at, split_at, then_rounds, want, want_absent, want_found, want_record, queued_at, want_unfound, advanced_at, offered_at, round_at, first_at}
use Rattle.resolution.specs.Row.{count_below, holds}
use Rattle.resolution.proofs.Lists.{any_in, any_out}
use Rattle.resolution.proofs.row.Counts.{count-le, count-strict}
use Rattle.std.specs.Prelude.{Some, None}

-- no position stands twice
unfoldable pub all_differ : List ℕ → Bool
all_differ [] = true
all_differ (p ∷ ps) = not (is_one_of p ps) && all_differ ps

pub one-of_in : (i : ℕ) (ps : List ℕ) → Mem i ps → is_one_of i ps ≡ true
unfolding is_one_of
one-of_in i ps m = any_in (eqb i) m (eq-eqb i i refl)

pub one-of-out : (i : ℕ) (ps : List ℕ) → is_one_of i ps ≡ true → Mem i ps
unfolding is_one_of
one-of-out i ps h = let r = any_out (eqb i) ps h in subst (λ (x : ℕ). Mem x ps) (sym (eqb-true i r.0 r.2)) r.1

differ-last : (ps : List ℕ) (i : ℕ) → all_differ ps ≡ true → is_one_of i ps ≡ false → all_differ (ps ++ (i ∷ [])) ≡ true
unfolding all_differ
differ-last [] i d n = unfold is_one_of any in refl
differ-last (p ∷ ps) i d n = and_both (not_of_false new) (differ-last ps i (and_right (not (is_one_of p ps)) (all_differ ps) d) later)
  where
    later : is_one_of i ps ≡ false
    later = by (is_one_of i ps) (λ h. true≠false (one-of_in i (p ∷ ps) (Memᴰ.tail (one-of-out i ps h))) n) (λ h. h)

    new : is_one_of p (ps ++ (i ∷ [])) ≡ false
    new = by (is_one_of p (ps ++ (i ∷ [])))
        (λ h. ⊎_elim (λ (m : Mem p ps). true≠false (one-of_in p ps m) (not-true (is_one_of p ps) (and_left (not (is_one_of p ps)) (all_differ ps) d)))
        (λ (m : Mem p (i ∷ [])). true≠false (one-of_in i (p ∷ ps) (Memᴰ.head (sym (Memᴰ.eq_of_singleton m)))) n)
        (Memᴰ.append_cases ps (one-of-out p (ps ++ (i ∷ [])) h)))
        (λ h. h)

-- different positions below n are no more than n
pub few : (n : ℕ) (ps : List ℕ) → ((p : ℕ) → Mem p ps → p < n) → all_differ ps ≡ true → length ps ≤ count_below (λ k. is_one_of k ps) n
unfolding all_differ
few n [] w d = omega arith
few n (p ∷ ps) w d =
    let below : length ps ≤ count_below (λ k. is_one_of k ps) n = few n ps (λ x m. w x (Memᴰ.tail m)) (and_right (not (is_one_of p ps)) (all_differ ps) d) in
    let more = count-strict (λ k. is_one_of k ps) (λ k. is_one_of k (p ∷ ps)) n p (w p (Memᴰ.head refl))
    (λ k l h. one-of_in k (p ∷ ps) (Memᴰ.tail (one-of-out k ps h)))
    (not-true (is_one_of p ps) (and_left (not (is_one_of p ps)) (all_differ ps) d)) (one-of_in p (p ∷ ps) (Memᴰ.head refl)) in
    omega (arith, below, more)

-- the line of a set of n modules
pub record InOrder (n : ℕ) (l : Line) : Type 0 where
  pub within : (p : ℕ) → Mem p l.order → p < n
  pub once : all_differ l.order ≡ true
  pub front : l.head ≤ length l.order

pub in-order-room : (n : ℕ) (l : Line) → InOrder n l → length l.order ≤ n
in-order-room n l o = omega (arith, few n l.order o.within o.once, count-le (λ k. is_one_of k l.order) n)

pub in-order-empty : (n : ℕ) (h : Halt) → InOrder n (record { order = []; head = 0; halt = h })
unfolding all_differ
in-order-empty n h = record { within = λ p m. absurd (Memᴰ.not-nil m); once = refl; front = omega arith }

pub in-order-halted : (n : ℕ) (l : Line) (h : Halt) → InOrder n l → InOrder n (halted h l)
in-order-halted n l h o = record { within = o.within; once = o.once; front = o.front }

-- one more position
pub in-order-add : (n : ℕ) (l : Line) (i : ℕ) → i < n → is_one_of i l.order ≡ false → InOrder n l
    → InOrder n (record { order = l.order ++ (i ∷ []); head = l.head; halt = l.halt })
in-order-add n l i b new o = record {
  within = λ p m. ⊎_elim (λ h. o.within p h) (λ h. subst (λ (x : ℕ). x < n) (sym (Memᴰ.eq_of_singleton h)) b) (Memᴰ.append_cases l.order m);
  once = differ-last l.order i o.once new;
  front = omega (arith, o.front, length-append l.order (i ∷ []));
}

-- a position that is wanted is one of the set
pub record InSet (n : ℕ) (v : Wanted) : Type 0 where
  pub below : (i : ℕ) → v ≡ Add i → i < n

pub in-order-queued : (n : ℕ) (v : Wanted) (l : Line) → InSet n v → InOrder n l → InOrder n (queued v l)
unfolding queued queued_on queued_at
in-order-queued n v l f o = turned l.halt v f
  where
    added : (i : ℕ) → i < n → (b : Bool) → is_one_of i l.order ≡ b → InOrder n (pick_line b l (record { order = l.order ++ (i ∷ []); head = l.head; halt = l.halt }))
    added i b true e = o
    added i b false e = in-order-add n l i b e o

    turned : (h : Halt) (v₂ : Wanted) → InSet n v₂ → InOrder n (queued_on h v₂ l)
    turned Halt.Open Pass f₂ = o
    turned Halt.Open (Add i) f₂ = added i (f₂.below i refl) (is_one_of i l.order) refl
    turned Halt.Open (Stop e) f₂ = in-order-halted n l (Halt.Stop e) o
    turned Halt.Open (Refuse e) f₂ = in-order-halted n l (Halt.Refused e) o
    turned (Halt.Stop e) v₂ f₂ = o
    turned (Halt.Refused e) v₂ f₂ = o

module _ (w : Inputs) where
  locate-below : (x : Name) (i : ℕ) → locate w x ≡ Some i → i < w.count
  unfolding locate
  locate-below x i e =
      let r = found_at (map (name_at w.set) (take w.count w.starts)) x 0 i e in
      omega (arith, r.within, length-map (take w.count w.starts) (name_at w.set), length-take w.count w.starts)

  pub want_in_set : (x : Name) (static : Bool) (e : ModuleError) → InSet w.count (want w x static e)
  unfolding want want_found want_unfound
  want_in_set x static e = turned (locate w x) refl
    where
      absent : (a b c d : Bool) → InSet w.count (want_absent a b c d e)
      absent true true c d = unfold want_absent in record { below = λ i h. clash (cc) }
      absent true false c d = unfold want_absent in record { below = λ i h. clash (cc) }
      absent false b false d = unfold want_absent in record { below = λ i h. clash (cc) }
      absent false b true true = unfold want_absent in record { below = λ i h. clash (cc) }
      absent false b true false = unfold want_absent in record { below = λ i h. clash (cc) }

      passed : (b : Bool) (v : Wanted) → InSet w.count v → InSet w.count (pick_wanted b Pass v)
      passed true v f = record { below = λ i h. clash (cc) }
      passed false v f = f

      here : (i : ℕ) → i < w.count → (b : Bool) → InSet w.count (pick_wanted b (Add i) Pass)
      here i l true = record { below = λ j h. let same : i ≡ j = cc in subst (λ (z : ℕ). z < w.count) same l }
      here i l false = record { below = λ j h. clash (cc) }

      turned : (f : Found) → locate w x ≡ f → InSet w.count (want_found w x static e f)
      turned (Some i) f = here i (locate-below x i f) (holds w.permitted i)
      turned None f = passed static (want_absent w.in_round (is_met_before w x) (is_permitted (request_of w.request) x) _ e) (absent w.in_round (is_met_before w x) (is_permitted (request_of w.request) x) _)

  led : (b : Bool) {v : Wanted} → InSet w.count v → InSet w.count (pick_wanted b v Pass)
  led true h = h
  led false h = record { below = λ i k. clash (cc) }

  record_in_set : (i : Input) (b : List ℕ) (start : ℕ) → InSet w.count (want_record w i b start)
  unfolding want_record
  record_in_set Input.Set b start = led (leads (request_of w.request) (requirement_of b)) (want_in_set _ _ _)
  record_in_set Input.Request b start = want_in_set _ _ _
  record_in_set Input.Packages b start = record { below = λ i h. clash (cc) }

  in-order-pick : (b : Bool) (a l : Line) → (b ≡ true → InOrder w.count a) → (b ≡ false → InOrder w.count l) → InOrder w.count (pick_line b a l)
  in-order-pick true a l f g = f refl
  in-order-pick false a l f g = g refl

  pub in-order-row : (i : Input) (rs : List (List ℕ)) (at : ℕ) (l : Line) → InOrder w.count l → InOrder w.count (queue_in w i at rs l)
  unfolding queue_in
  in-order-row i [] at l o = o
  in-order-row i (r ∷ rs) at l o = in-order-row i rs (at + length r) _
      (in-order-pick (is_of (kind_for i) r) (queued (want_record w i (body_of r) (at + 4)) l) l (λ e. in-order-queued w.count _ l (record_in_set i (body_of r) (at + 4)) o) (λ e. o))

  -- a turn, where one waits
  pub in-order-handle : (l : Line) → l.head < length l.order → InOrder w.count l → InOrder w.count (handle_at w l)
  unfolding handle_at
  in-order-handle l b o = turned (get_or l.order l.head 0) (split_at w (take l.head l.order) (get_or l.order l.head 0))
    where
      turned : (p : ℕ) (h : Halt) → InOrder w.count (handled_at w l p h)
      turned p Halt.Open = unfold handled_at advanced_at in in-order-row Input.Set _ _ _ record { within = o.within; once = o.once; front = omega arith }
      turned p (Halt.Stop e) = unfold handled_at advanced_at in in-order-halted w.count l (Halt.Refused e) o
      turned p (Halt.Refused e) = unfold handled_at advanced_at in in-order-halted w.count l (Halt.Refused e) o

  pub goes-below : (n : ℕ) (l : Line) → InOrder n l → goes_on l ≡ true → l.head < length l.order
  unfolding goes_on
  goes-below n l o e =
      let d : eqb l.head (length l.order) ≡ false = not-true _ (and_right (is_open l.halt) (not (eqb l.head (length l.order))) e) in
      let f : l.head ≡ length l.order → ⊥ = eqb-false l.head (length l.order) d in
      omega (arith, o.front, f)

  pub in-order-run : (f : ℕ) (l : Line) → InOrder w.count l → InOrder w.count (run_at w f l)
  unfolding run_at
  in-order-run zero l o = o
  in-order-run (suc f) l o = in-order-pick (goes_on l) (run_at w f (handle_at w l)) l (λ e. in-order-run f (handle_at w l) (in-order-handle l (goes-below w.count l o e) o)) (λ e. o)

  -- n modules from position i on
  pub in-order-provide : (ps : List ℕ) (n i : ℕ) (l : Line) → i + n ≤ w.count → InOrder w.count l → InOrder w.count (provide_from w ps n i l)
  unfolding provide_from offered_at
  in-order-provide ps zero i l b o = o
  in-order-provide ps (suc n) i l b o = in-order-provide ps n (suc i) _ (omega (arith, b))
      (in-order-pick (is_provider_at w ps i) (queued (Add i) l) l
      (λ e. in-order-queued w.count (Add i) l record { below = λ j h. let same : i ≡ j = cc in omega (arith, same, b) } o) (λ e. o))

  pub in-order-rounds : (f : ℕ) (l : Line) → InOrder w.count l → InOrder w.count (rounds_at w f l)
  unfolding rounds_at provide_at round_at
  in-order-rounds zero l o = o
  in-order-rounds (suc f) l o = in-order-pick (is_done l.halt && not (eqb l.head (length (provide_at w l).order))) _ l
      (λ e. in-order-rounds f (run_at w (suc w.count - l.head) (provide_at w l)) (in-order-run _ _ (in-order-provide (take l.head l.order) w.count 0 l (omega arith) o))) (λ e. o)

  pub in-order-roots : InOrder w.count (roots_at w)
  unfolding roots_at front_at
  in-order-roots = in-order-row Input.Request _ 0 _
      (in-order-pick (mem_name java_base (request_of w.request).roots) _ _ (λ e. in-order-empty w.count Halt.Open)
      (λ e. in-order-queued w.count _ _ (want_in_set java_base false JavaBaseNotFound) (in-order-empty w.count Halt.Open)))

-- the line at the end
pub in-order-resolve : (w : Inputs) → InOrder w.count (resolve_at w)
unfolding resolve_at then_rounds first_at
in-order-resolve w =
    let l : Line = run_at w (suc w.count) (roots_at w) in
    in-order-rounds (in_rounds w l.order) (suc w.count) l (in-order-run w (suc w.count) (roots_at w) (in-order-roots w))
