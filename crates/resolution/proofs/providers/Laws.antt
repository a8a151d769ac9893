-- The providers of a round, one module of the set after the other.
use Prim.Native.Nat.{ℕ, zero, suc, ◌+◌, ◌-◌, ◌≤◌, ◌<◌}
use mathlib.Core.Path.{◌≡◌, refl, sym, ◌∙◌, ap, subst}
use mathlib.Core.Bool.{Bool, true, false, not, ◌&&◌, ◌||◌, and-false, and-or_distrib_left}
use mathlib.Core.List.{List, [], ◌∷◌, ◌++◌, map}
use native.Mathlib.Omega.{arith}
use lib.Dec.{eqb}
use lib.ListN.{length, take, drop, take-append-drop}
use lib.Seq.{take-take}
use borrow.Author.Tests.{eqb-true, eqb-false, eq-eqb}
use Rattle.records.specs.Name.{mem_name, name_of}
use Rattle.records.specs.Record.{bodies}
use Rattle.records.specs.Set.{block_at}
use Rattle.records.specs.declared.record.Kind.{Kind}
use Rattle.records.proofs.order.Laws.{drop-take}
use Rattle.records.proofs.Logic.{clash, by, or_left, or_right, true≠false}
use Rattle.resolution.specs.Lists.{Name, any}
use Rattle.resolution.specs.Row.{holds, count_below}
use Rattle.resolution.specs.Resolver.{Inputs, inputs_of, block_of, names_of, has_named, Line, line_at, is_one_of, pick_line, queued_at, queued_on, queued, is_provider_at, offered_at, provide_from, provide_at, is_done, Within, Ready, Moved}
use Rattle.resolution.specs.Filter.{asked}
use Rattle.resolution.specs.Runs.{Unbound, Binding}
use Rattle.resolution.specs.Table.{tells_at, NamesTold}
use Rattle.resolution.specs.declared.resolver.Halt.{Halt}
use Rattle.resolution.specs.declared.resolver.Phase.{Phase}
use Rattle.resolution.specs.declared.resolver.Queue.{Queue}
use Rattle.resolution.specs.declared.resolver.Wanted.TheVariants.{Add}
use Rattle.std.specs.Prelude.{Option}
use Rattle.resolution.specs.declared.table.Told.TheVariants.{Services}
use Rattle.resolution.proofs.ResolverQueue.{any_append}
use Rattle.resolution.proofs.ResolverRun.{any_same}
use Rattle.resolution.proofs.modules.Asked.{provider_asked}
use Rattle.resolution.proofs.row.Counts.{count-strict}
use Rattle.resolution.proofs.resolver.Turns.{Grown, Longer, grown-then, longer_same, longer_then, longer_queued, front_same, tail-long}

-- ---- tests of lists

any-or : {A : Type 0} (p q : A → Bool) (l : List A) → any (λ x. p x || q x) l ≡ (any p l || any q l)
unfolding any
any-or p q [] = refl
any-or p q (x ∷ l) = rw (any-or p q l) (or_cross (p x) (q x) (any p l) (any q l))
  where
    or_cross : (t u v w : Bool) → ((t || u) || (v || w)) ≡ ((t || v) || (u || w))
    or_cross true u v w = refl
    or_cross false true true w = refl
    or_cross false true false w = refl
    or_cross false false v w = refl

one-append : (i : ℕ) (a b : List ℕ) → is_one_of i (a ++ b) ≡ (is_one_of i a || is_one_of i b)
unfolding is_one_of
one-append i a b = any_append (eqb i) a b

-- a position that is in a line stays there
pub one-grown : (l l₂ : Line) (i : ℕ) → Grown l l₂ → is_one_of i l.order ≡ true → is_one_of i l₂.order ≡ true
one-grown l l₂ i g e = ap (is_one_of i) g.order ∙ one-append i l.order g.more ∙ or_left (is_one_of i l.order) (is_one_of i g.more) e

-- ---- providers of services that some modules use, and others

named-append : (w : Inputs) (k : Kind) (a b : List ℕ) (n : Name) → has_named w k (a ++ b) n ≡ (has_named w k a n || has_named w k b n)
unfolding has_named
named-append w k a b n = any_append (λ (i : ℕ). mem_name n (names_of w k i)) a b

provider_append : (w : Inputs) (a b : List ℕ) (i : ℕ) → is_provider_at w (a ++ b) i ≡ (is_provider_at w a i || is_provider_at w b i)
unfolding is_provider_at
provider_append w a b i =
    ap (λ (c : Bool). holds w.permitted i && c)
    (any_same (has_named w Kind.Uses (a ++ b)) (λ (n : Name). has_named w Kind.Uses a n || has_named w Kind.Uses b n) (names_of w Kind.Provides i) (named-append w Kind.Uses a b)
    ∙ any-or (has_named w Kind.Uses a) (has_named w Kind.Uses b) (names_of w Kind.Provides i))
    ∙ and-or_distrib_left (holds w.permitted i) (any (has_named w Kind.Uses a) (names_of w Kind.Provides i)) (any (has_named w Kind.Uses b) (names_of w Kind.Provides i))

-- of a module that provides no service that the first `from` use, the others decide
provider_rest : (w : Inputs) (ps : List ℕ) (from to i : ℕ) → from ≤ to → is_provider_at w (take from ps) i ≡ false → is_provider_at w (drop from (take to ps)) i ≡ is_provider_at w (take to ps) i
provider_rest w ps from to i k f =
    let e : take to ps ≡ take from ps ++ drop from (take to ps) = sym (take-append-drop from (take to ps)) ∙ ap (λ (l : List ℕ). l ++ drop from (take to ps)) (take-take from to ps k) in
    sym (ap (λ (l : List ℕ). is_provider_at w l i) e ∙ provider_append w (take from ps) (drop from (take to ps)) i ∙ ap (λ (b : Bool). b || is_provider_at w (drop from (take to ps)) i) f)

-- no module uses a service, and so none is a provider
pub provider_none : (w : Inputs) (i : ℕ) → is_provider_at w [] i ≡ false
unfolding is_provider_at has_named any
provider_none w i = ap (λ (b : Bool). holds w.permitted i && b) (go (names_of w Kind.Provides i)) ∙ and-false (holds w.permitted i)
  where
    go : (l : List Name) → any (has_named w Kind.Uses []) l ≡ false
    go [] = refl
    go (n ∷ l) = go l

-- ---- one module

module _ (set starts ps : List ℕ) (phase : Phase) (i : ℕ) (r : Bool) (er : r ≡ holds phase.permitted i) where
  pub bound-not : r ≡ false → false ≡ is_provider_at (inputs_of set [] starts [] phase) ps i
  unfolding is_provider_at inputs_of
  bound-not e = sym (rw (← er, e))

  pub bound_is : r ≡ true → (x : List ℕ) (b : Bool) → x ≡ block_at set starts i → b ≡ any (has_named (asked set starts) Kind.Uses ps) (map name_of (bodies Kind.Provides x))
      → b ≡ is_provider_at (inputs_of set [] starts [] phase) ps i
  unfolding inputs_of names_of block_of
  bound_is e x b ex eb =
      eb ∙ ap (λ (y : List ℕ). any (has_named (asked set starts) Kind.Uses ps) (map name_of (bodies Kind.Provides y))) ex
      ∙ sym (provider_asked (inputs_of set [] starts [] phase) ps i ∙ rw (← er, e))

pub ruleset bound_laws = (bound-not, bound_is)

-- ---- the modules of the set

-- one that is there stays out
there : (i : ℕ) (l : Line) → is_one_of i l.order ≡ true → queued (Add i) l ≡ l
unfolding queued queued_on queued_at
there i l e = go l.halt
  where
    go : (h : Halt) → queued_on h (Add i) l ≡ l
    go Halt.Open = rw e
    go (Halt.Stop x) = refl
    go (Halt.Refused x) = refl

pick_same : (b : Bool) (l k : Line) → k ≡ l → pick_line b k l ≡ l
pick_same true l k e = e
pick_same false l k e = refl

-- one that is there is not offered
offered_there : (w : Inputs) (ps : List ℕ) (i : ℕ) (l : Line) → is_one_of i l.order ≡ true → offered_at w ps i l ≡ l
unfolding offered_at
offered_there w ps i l e = pick_same (is_provider_at w ps i) l (queued (Add i) l) (there i l e)

pub longer_offered : (w : Inputs) (ps : List ℕ) (i : ℕ) (l : Line) → Longer l (offered_at w ps i l)
unfolding offered_at
longer_offered w ps i l = picked (is_provider_at w ps i)
  where
    picked : (b : Bool) → Longer l (pick_line b (queued (Add i) l) l)
    picked true = longer_queued (Add i) l
    picked false = longer_same l

one-self : (i : ℕ) → is_one_of i (i ∷ []) ≡ true
unfolding is_one_of any
one-self i = rw (eq-eqb i i refl)

-- a provider that is offered is there, where nothing ends the queue
offered_in : (w : Inputs) (ps : List ℕ) (i : ℕ) (l : Line) → is_done l.halt ≡ true → is_provider_at w ps i ≡ true → is_one_of i (offered_at w ps i l).order ≡ true
unfolding offered_at queued queued_on queued_at is_done
offered_in w ps i l d e = ap (λ (b : Bool). is_one_of i (pick_line b (queued (Add i) l) l).order) e ∙ go l.halt d
  where
    added : (b : Bool) → is_one_of i l.order ≡ b → is_one_of i (pick_line b l (record { order = l.order ++ (i ∷ []); head = l.head; halt = l.halt })).order ≡ true
    added true t = t
    added false t = one-append i l.order (i ∷ []) ∙ or_right (is_one_of i l.order) (is_one_of i (i ∷ [])) (one-self i)

    go : (h : Halt) → is_done h ≡ true → is_one_of i (queued_on h (Add i) l).order ≡ true
    go Halt.Open t = added (is_one_of i l.order) refl
    go (Halt.Stop x) t = clash (cc)
    go (Halt.Refused x) t = clash (cc)

-- ---- the module at i

module _ (set starts order : List ℕ) (phase : Phase) (to i : ℕ) (q : Queue) where
  module _ (r : Bool) (er : r ≡ is_one_of i (take q.tail order)) where
    pub due-there : r ≡ true → offered_at (inputs_of set [] starts [] phase) (take to order) i (line_at order q) ≡ line_at order q
    due-there e = offered_there (inputs_of set [] starts [] phase) (take to order) i (line_at order q) (unfold line_at in sym er ∙ e)

    pub due-is : (from : ℕ) (table : List ℕ) (s : Option ℕ) → Binding phase set starts order from to table s q → (b : Bool) → b ≡ is_provider_at (inputs_of set [] starts [] phase) (take (to - from) (drop from order)) i
        → r ≡ false → i < phase.count
        → offered_at (inputs_of set [] starts [] phase) (take to order) i (line_at order q) ≡ pick_line b (queued (Add i) (line_at order q)) (line_at order q)
    unfolding offered_at
    due-is from table s z b eb f l =
        ap (λ (c : Bool). pick_line c (queued (Add i) (line_at order q)) (line_at order q))
        (sym (eb ∙ ap (λ (ps : List ℕ). is_provider_at (inputs_of set [] starts [] phase) ps i) (sym (drop-take from to order)) ∙ provider_rest (inputs_of set [] starts [] phase) order from to i z.behind
        (by (is_provider_at (inputs_of set [] starts [] phase) (take from order) i) (λ t. true≠false (z.bound_is.each i l t) (sym er ∙ f)) (λ t. t))))

  pub offer-within : i < phase.count → Within phase.count (Add i)
  unfolding Within
  offer-within l = l

  module _ (b : Bool) (eb : offered_at (inputs_of set [] starts [] phase) (take to order) i (line_at order q) ≡ pick_line b (queued (Add i) (line_at order q)) (line_at order q)) where
    pub offer-pass : b ≡ false → Ready phase.count order q → Moved phase.count order q (offered_at (inputs_of set [] starts [] phase) (take to order) i (line_at order q))
    offer-pass e h = record { line = sym (eb ∙ ap (λ (c : Bool). pick_line c (queued (Add i) (line_at order q)) (line_at order q)) e); ready = h }

    pub offer-add : b ≡ true → (order₂ : List ℕ) (q₂ : Queue) → Moved phase.count order₂ q₂ (queued (Add i) (line_at order q))
        → Moved phase.count order₂ q₂ (offered_at (inputs_of set [] starts [] phase) (take to order) i (line_at order q))
    offer-add e order₂ q₂ m = record { line = m.line ∙ sym (eb ∙ ap (λ (c : Bool). pick_line c (queued (Add i) (line_at order q)) (line_at order q)) e); ready = m.ready }

  -- the modules whose services the table tells
  module _ (from : ℕ) (table : List ℕ) (s : Option ℕ) (z : Binding phase set starts order from to table s q) where
    pub due-ready : Ready phase.count order q
    due-ready = z.ready

    pub due-told : NamesTold Services set starts (take (to - from) (drop from order)) table s
    due-told = subst (λ (ps : List ℕ). NamesTold Services set starts ps table s) (drop-take from to order) z.told

    pub due-behind : from ≤ to
    due-behind = z.behind

    pub due-within : to ≤ length order
    due-within = z.within

pub ruleset due_laws = (due-there, due-is, due-ready, due-told, due-behind, due-within)

pub ruleset offer_laws = (offer-within, offer-pass, offer-add)

-- ---- all of them

pub longer_provided : (w : Inputs) (ps : List ℕ) (n i : ℕ) (l : Line) → Longer l (provide_from w ps n i l)
unfolding provide_from
longer_provided w ps zero i l = longer_same l
longer_provided w ps (suc n) i l =
    longer_then l (offered_at w ps i l) (provide_from w ps n (suc i) (offered_at w ps i l)) (longer_offered w ps i l) (longer_provided w ps n (suc i) (offered_at w ps i l))

-- where all are there, nothing is
pub provided-none : (w : Inputs) (ps : List ℕ) (n i : ℕ) (l : Line) → ((j : ℕ) → j < i + n → is_one_of j l.order ≡ true) → provide_from w ps n i l ≡ l
unfolding provide_from
provided-none w ps zero i l h = refl
provided-none w ps (suc n) i l h =
    ap (provide_from w ps n (suc i)) (offered_there w ps i l (h i (omega arith))) ∙ provided-none w ps n (suc i) l (λ j b. h j (omega (arith, b)))

halt-queued : (i : ℕ) (l : Line) → (queued (Add i) l).halt ≡ l.halt
unfolding queued queued_on queued_at
halt-queued i l = go l.halt
  where
    added : (b : Bool) (k : Line) → k.halt ≡ l.halt → (pick_line b l k).halt ≡ l.halt
    added true k e = refl
    added false k e = e

    go : (h : Halt) → (queued_on h (Add i) l).halt ≡ l.halt
    go Halt.Open = added (is_one_of i l.order) _ refl
    go (Halt.Stop x) = refl
    go (Halt.Refused x) = refl

halt_offered : (w : Inputs) (ps : List ℕ) (i : ℕ) (l : Line) → (offered_at w ps i l).halt ≡ l.halt
unfolding offered_at
halt_offered w ps i l = picked (is_provider_at w ps i)
  where
    picked : (b : Bool) → (pick_line b (queued (Add i) l) l).halt ≡ l.halt
    picked true = halt-queued i l
    picked false = refl

pub halt-provided : (w : Inputs) (ps : List ℕ) (n i : ℕ) (l : Line) → (provide_from w ps n i l).halt ≡ l.halt
unfolding provide_from
halt-provided w ps zero i l = refl
halt-provided w ps (suc n) i l = halt-provided w ps n (suc i) (offered_at w ps i l) ∙ halt_offered w ps i l

-- each provider is there at the end
pub provided_in : (w : Inputs) (ps : List ℕ) (n i : ℕ) (l : Line) → is_done l.halt ≡ true → (j : ℕ) → i ≤ j → j < i + n → is_provider_at w ps j ≡ true
    → is_one_of j (provide_from w ps n i l).order ≡ true
unfolding provide_from
provided_in w ps zero i l d j a b e = absurd (omega (arith, a, b))
provided_in w ps (suc n) i l d j a b e =
    go (eqb i j) refl (provided_in w ps n (suc i) (offered_at w ps i l) (ap is_done (halt_offered w ps i l) ∙ d) j)
  where
    later : (x y : ℕ) → x ≤ y → (x ≡ y → ⊥) → suc x ≤ y
    later x y t u = omega (arith, t, u)

    go : (c : Bool) → eqb i j ≡ c → (suc i ≤ j → j < suc i + n → is_provider_at w ps j ≡ true → is_one_of j (provide_from w ps n (suc i) (offered_at w ps i l)).order ≡ true)
        → is_one_of j (provide_from w ps n (suc i) (offered_at w ps i l)).order ≡ true
    go true t ih =
        let k : i ≡ j = eqb-true i j t in
        one-grown (offered_at w ps i l) (provide_from w ps n (suc i) (offered_at w ps i l)) j (longer_provided w ps n (suc i) (offered_at w ps i l)).grown
        (subst (λ (x : ℕ). is_one_of x (offered_at w ps i l).order ≡ true) k (offered_in w ps i l d (ap (is_provider_at w ps) k ∙ e)))
    go false t ih = ih (later i j a (eqb-false i j t)) (omega (arith, b)) e

provided-same : (w z : Inputs) (ps : List ℕ) → ((i : ℕ) → is_provider_at w ps i ≡ is_provider_at z ps i) → (n i : ℕ) (l : Line) → provide_from w ps n i l ≡ provide_from z ps n i l
unfolding provide_from offered_at
provided-same w z ps same zero i l = refl
provided-same w z ps same (suc n) i l =
    ap (λ (b : Bool). provide_from w ps n (suc i) (pick_line b (queued (Add i) l) l)) (same i)
    ∙ provided-same w z ps same n (suc i) (pick_line (is_provider_at z ps i) (queued (Add i) l) l)

-- only the set, its table and the row of those permitted are read
pub provide_same : (set request starts old : List ℕ) (phase : Phase) (l : Line) → provide_at (inputs_of set [] starts [] phase) l ≡ provide_at (inputs_of set request starts old phase) l
unfolding provide_at inputs_of
provide_same set request starts old phase l =
    provided-same (inputs_of set [] starts [] phase) (inputs_of set request starts old phase) (take l.head l.order)
    (λ i. provider_asked (inputs_of set [] starts [] phase) (take l.head l.order) i ∙ sym (provider_asked (inputs_of set request starts old phase) (take l.head l.order) i))
    phase.count 0 l

-- the modules below i are done; n modules were resolved before the round
module _ (set starts : List ℕ) (phase : Phase) (from : ℕ) (table : List ℕ) (s : Option ℕ) where
  abbrev w : Inputs
  w = inputs_of set [] starts [] phase

  pub record ProvideAt (order₀ : List ℕ) (q₀ : Queue) (n i : ℕ) (order : List ℕ) (q : Queue) : Type 0 where
    pub head_is : q₀.head ≡ n
    pub upto : i ≤ phase.count
    pub before : Binding phase set starts order₀ from n table s q₀
    pub ready : Ready phase.count order q
    pub grown : Grown (line_at order₀ q₀) (line_at order q)
    pub left : provide_from w (take n order₀) phase.count 0 (line_at order₀ q₀) ≡ provide_from w (take n order₀) (phase.count - i) i (line_at order q)

  pub provide_start : (order₀ : List ℕ) (q₀ : Queue) → Binding phase set starts order₀ from q₀.head table s q₀ → ProvideAt order₀ q₀ q₀.head 0 order₀ q₀
  provide_start order₀ q₀ h = record {
    head_is = refl;
    upto = omega arith;
    before = h;
    ready = h.ready;
    grown = (longer_same (line_at order₀ q₀)).grown;
    left = let e : phase.count ≡ phase.count - 0 = omega arith in ap (λ (m : ℕ). provide_from w (take q₀.head order₀) m 0 (line_at order₀ q₀)) e;
  }

  module _ (order₀ : List ℕ) (q₀ : Queue) (n i : ℕ) (order : List ℕ) (q : Queue) (h : ProvideAt order₀ q₀ n i order q) where
    front : (m : ℕ) → m ≤ n → take m order ≡ take m order₀
    front m l = front_same phase.count order₀ order q₀ q m h.before.ready h.ready h.grown (omega (arith, l, h.head_is, h.before.ready.waits))

    same_front : take n order ≡ take n order₀
    same_front = front n (omega arith)

    pub provide_binding : Binding phase set starts order from n table s q
    unfolding line_at
    provide_binding = record {
      ready = h.ready;
      told = record {
        room = h.before.told.room;
        sorted = h.before.told.sorted;
        told = λ n a x. h.before.told.told n a x ∙ ap (λ (ps : List ℕ). tells_at Services set starts (drop from ps) x) (sym same_front);
      };
      bound_is = record {
        each = λ j l e.
            one-grown (line_at order₀ q₀) (line_at order q) j h.grown
            (h.before.bound_is.each j l (ap (λ (ps : List ℕ). is_provider_at w ps j) (sym (front from h.before.behind)) ∙ e));
      };
      behind = h.before.behind;
      within = omega (arith, h.before.within, h.before.ready.long, h.ready.long);
    }

    module _ (l : i < phase.count) where
      step : provide_from w (take n order₀) phase.count 0 (line_at order₀ q₀) ≡ provide_from w (take n order₀) (phase.count - (i + 1)) (i + 1) (offered_at w (take n order₀) i (line_at order q))
      unfolding provide_from
      step =
          let e : phase.count - i ≡ suc (phase.count - (i + 1)) = omega (arith, l) in
          let s : suc i ≡ i + 1 = omega arith in
          h.left ∙ ap (λ (m : ℕ). provide_from w (take n order₀) m i (line_at order q)) e
          ∙ ap (λ (m : ℕ). provide_from w (take n order₀) (phase.count - (i + 1)) m (offered_at w (take n order₀) i (line_at order q))) s

      pub provide_turn : (order₂ : List ℕ) (q₂ : Queue) → Moved phase.count order₂ q₂ (offered_at w (take n order) i (line_at order q)) → ProvideAt order₀ q₀ n (i + 1) order₂ q₂
      provide_turn order₂ q₂ m =
          let same : offered_at w (take n order₀) i (line_at order q) ≡ line_at order₂ q₂ = ap (λ (ps : List ℕ). offered_at w ps i (line_at order q)) (sym same_front) ∙ sym m.line in
          record {
            head_is = h.head_is;
            upto = omega (arith, l);
            before = h.before;
            ready = m.ready;
            grown = grown-then (line_at order₀ q₀) (line_at order q) (line_at order₂ q₂) h.grown (subst (Grown (line_at order q)) (sym m.line) (longer_offered w (take n order) i (line_at order q)).grown);
            left = step ∙ ap (provide_from w (take n order₀) (phase.count - (i + 1)) (i + 1)) same;
          }

    pub provide_done : phase.count ≤ i → Moved phase.count order q (provide_at w (line_at order₀ q₀))
    unfolding provide_at provide_from inputs_of line_at
    provide_done l = record {
      line =
          let e : phase.count - i ≡ 0 = omega (arith, l) in
          let f : take q₀.head (take q₀.tail order₀) ≡ take n order₀ = take-take q₀.head q₀.tail order₀ h.before.ready.waits ∙ ap (λ (m : ℕ). take m order₀) h.head_is in
          sym (ap (λ (ps : List ℕ). provide_from w ps phase.count 0 (line_at order₀ q₀)) f ∙ h.left ∙ ap (λ (m : ℕ). provide_from w (take n order₀) m i (line_at order q)) e);
      ready = h.ready;
    }

pub ruleset provide_laws = (provide_start, provide_binding, provide_turn, provide_done)

-- ---- where there is something to be done

module _ (phase : Phase) (set starts order : List ℕ) (bound : ℕ) (q : Queue) (h : Unbound phase set starts order bound q) where
  pub bind-long : q.head ≤ length order
  bind-long = omega (arith, h.ready.waits, tail-long phase.count order q h.ready)

  pub bind-told : (table : List ℕ) (s : Option ℕ) → NamesTold Services set starts (take (q.head - bound) (drop bound order)) table s → Binding phase set starts order bound q.head table s q
  bind-told table s t = record { ready = h.ready; told = subst (λ (ps : List ℕ). NamesTold Services set starts ps table s) (sym (drop-take bound q.head order)) t; bound_is = h.bound_is; behind = h.behind; within = bind-long }

  pub bind-behind : bound ≤ q.head
  bind-behind = h.behind

  pub bind-short : length set ≤ 65535
  bind-short = h.short

  -- every position is there, since there is no room for another
  all_there : phase.count ≡ q.tail → (i : ℕ) → i < phase.count → is_one_of i (take q.tail order) ≡ true
  all_there e i l = by (is_one_of i (take q.tail order)) (λ t. t) (λ t. absurd (out t))
    where
      out : is_one_of i (take q.tail order) ≡ false → ⊥
      out t =
          let z : count_below (λ k. false) phase.count < count_below (λ k. not (is_one_of k (take q.tail order))) phase.count =
          count-strict (λ k. false) (λ k. not (is_one_of k (take q.tail order))) phase.count i l (λ k b f. clash (cc)) refl (rw t) in
          omega (arith, z, h.ready.room, e)

  pub bind_all : phase.count ≡ q.tail → Moved phase.count order q (provide_at (inputs_of set [] starts [] phase) (line_at order q))
  unfolding provide_at inputs_of line_at
  bind_all e = record {
    line = sym (provided-none (inputs_of set [] starts [] phase) (take q.head (take q.tail order)) phase.count 0 (line_at order q) (λ j b. all_there e j (omega (arith, b))));
    ready = h.ready;
  }

pub ruleset bind_laws = (bind-long, bind-told, bind-behind, bind-short, bind_all)
