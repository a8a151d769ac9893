-- The positional form runs as the short form does: the test of the packages, one turn, and the queue until none waits.
use mathlib.Core.Path.{◌≡◌, refl, ap, subst}
use Prim.Native.Nat.{ℕ, zero, suc, ◌+◌, ◌<◌}
use native.Mathlib.Omega.{arith}
use mathlib.Core.Bool.{Bool, true, false, ◌&&◌, ◌||◌, cond, and-false}
use mathlib.Core.Option.{Option, none, some}
use mathlib.Core.List.Memᴰ
use mathlib.Core.List.{List, [], ◌∷◌, ◌++◌, map, append_assoc, append-nil}
use lib.ListN.{length, length-append}
use lib.Seq.{take-append_seam, get_or-append_seam}
use borrow.Author.Tests.{eq-eqb, ne_eqb}
use Rattle.records.specs.Bytes.{before_bytes}
use Rattle.records.specs.Name.{mem_name}
use Rattle.records.specs.Record.{records, bodies, nth_in}
use Rattle.records.specs.Descriptor.{Descriptor, requirement_of, descriptor_of}
use Rattle.records.specs.Request.{request_of}
use Rattle.records.specs.Set.{modules}
use Rattle.records.specs.declared.error.Input.{Input}
use Rattle.records.specs.declared.error.ModuleError.{ModuleError}
use Rattle.records.specs.declared.error.ModuleError.TheVariants.{ModuleNotFound}
use Rattle.records.specs.declared.record.Kind.{Kind}
use Rattle.records.proofs.Logic.{clash, true≠false}
use Rattle.resolution.specs.declared.resolver.Halt.{Halt}
use Rattle.resolution.specs.Lists.{Mem, Name, any, keep, first}
use Rattle.resolution.specs.Loop.{Result, Step, after, done, fail, failed, go, loop, stop}
use Rattle.resolution.specs.Owner.{least, lesser, owner_in, shared}
use Rattle.resolution.specs.Positions.{module_at, is_visible}
use Rattle.resolution.specs.Resolution.{Item, Refusal, index_of, module_not_found, name_or_empty, ran_out, required, split_package}
use Rattle.resolution.specs.Resolve.{absent_of, body_start, error_of, start_in, records_at}
use Rattle.resolution.specs.Resolve as Resolve
use Rattle.resolution.specs.Resolver.{Inputs, Line, block_of, goes_on, handle_at, handled_at, has_named, is_met_before, is_open, kind_for, names_of, owner_at, position_or, queue_in, run_at, split_at, split_of, start_of, want_record, advanced_at}
use Rattle.resolution.specs.Short as Short
use Rattle.resolution.specs.Short.{Lined, Short, fault, lined, short_enqueue, short_handled, short_taken, short_tested, short_turn}
use Rattle.resolution.proofs.Lists.{keep_out, map-append}
use Rattle.resolution.proofs.Positions.{index_at, visible_in}
use Rattle.resolution.proofs.ResolverQueue.{Follows, Given, NoHalt, Within, halt_of, inputs, line_at, modules_at, queue-row, short_line, short_state, within-one}
use Rattle.resolution.proofs.Room.{waiting, waiting-falls}
use Rattle.resolution.proofs.Sets.{module_block, set-length}

-- ---- what a line stands for, and its answer

-- what resolution says: the refusal, or the positions of the modules resolved, in order
pub data Answer : Type 0 where
  refused_with : ModuleError → Answer
  positions : List ℕ → Answer

unfoldable pub answer_on : Halt → List ℕ → Answer
answer_on Halt.Open order = positions order
answer_on (Halt.Stop e) order = refused_with e
answer_on (Halt.Refused e) order = refused_with e

-- of a line at the end
unfoldable pub answer_at : Line → Answer
unfolding answer_on
answer_at l = answer_on l.halt l.order

-- the line of positions stands for this state of the short form
pub record Stands (s q : List ℕ) (in_round : Bool) (l : Line) (st : Short) : Type 0 where
  pub resolved : List ℕ
  pub queue : List ℕ
  pub absent : Option Item
  pub before : Within s resolved
  pub within : Within s queue
  pub calm : NoHalt in_round absent
  pub line_is : l ≡ line_at resolved queue (halt_of s q absent)
  pub state_is : st ≡ short_state s resolved queue absent

-- after a turn of a line where one waits
abbrev pub Turned : List ℕ → List ℕ → Bool → Line → Step Short Refusal → Type 0
Turned s q in_round l stop = ⊥
Turned s q in_round l (fail r) = l.halt ≡ Halt.Refused (error_of s q r)
Turned s q in_round l (go st) = Stands s q in_round l st

-- nothing waits, and nothing ends the queue
pub record Rests (s : List ℕ) (l : Line) (st : Short) : Type 0 where
  pub resolved : List ℕ
  pub within : Within s resolved
  pub line_is : l ≡ line_at resolved [] Halt.Open
  pub state_is : st ≡ short_state s resolved [] none

-- after a run
abbrev pub Ended : List ℕ → List ℕ → Line → Result Short Refusal → Type 0
Ended s q l (failed r) = answer_at l ≡ refused_with (error_of s q r)
Ended s q l (done st) = Rests s l st

-- ---- tests of lists that agree

pub keep_same : {A : Type 0} (f g : A → Bool) (l : List A) → ((a : A) → f a ≡ g a) → keep f l ≡ keep g l
unfolding keep
keep_same f g [] h = refl
keep_same f g (x ∷ l) h = rw (h x, keep_same f g l h)

pub any_same : {A : Type 0} (f g : A → Bool) (l : List A) → ((a : A) → f a ≡ g a) → any f l ≡ any g l
unfolding any
any_same f g [] h = refl
any_same f g (x ∷ l) h = rw (h x, any_same f g l h)

pub any_at : (s : List ℕ) (f : Descriptor → Bool) (g : ℕ → Bool) (ps : List ℕ) → Within s ps
    → ((p : ℕ) → p < length (modules s) → f (module_at (modules s) p) ≡ g p) → any f (modules_at s ps) ≡ any g ps
unfolding any
any_at s f g [] w h = refl
any_at s f g (p ∷ ps) w h = rw (h p (visible_in (modules s) p (w p (Memᴰ.head refl))), any_at s f g ps (λ x m. w x (Memᴰ.tail m)) h)

least_in : (l : List Name) (x : Name) → least l ≡ some x → Mem x l
unfolding least
least_in [] x e = clash (cc)
least_in (y ∷ l) x e = turned (least l) refl (least_in l) e
  where
    picked : (z : Name) (b : Bool) → Mem z l → some (cond b z y) ≡ some x → Mem x (y ∷ l)
    picked z true m k = let same : z ≡ x = cc in Memᴰ.tail (subst (λ (v : Name). Mem v l) same m)
    picked z false m k = let same : x ≡ y = cc in Memᴰ.head same

    turned : (o : Option Name) → least l ≡ o → ((z : Name) → least l ≡ some z → Mem z l) → lesser y o ≡ some x → Mem x (y ∷ l)
    turned none k below h = unfold lesser in (let same : x ≡ y = cc in Memᴰ.head same)
    turned (some z) k below h = unfold lesser in picked z (before_bytes z y) (below z k) h

-- ---- what the block of a module says

module _ (s q : List ℕ) (n : ℕ) (t ws : List ℕ) (g : Given s q n t ws) where
  module _ (in_round : Bool) (before : List ℕ) where
    abbrev v : Inputs
    v = inputs s q n t ws in_round before

    block-of : (p : ℕ) → p < length (modules s) → module_at (modules s) p ≡ descriptor_of (block_of v p)
    unfolding block_of
    block-of p l = module_block s n t g.good p (omega (arith, l, set-length s n t g.good))

    pub requires-of : (p : ℕ) → p < length (modules s) → (module_at (modules s) p).requires ≡ map requirement_of (bodies Kind.Requires (block_of v p))
    unfolding descriptor_of
    requires-of p l = ap (λ (m : Descriptor). m.requires) (block-of p l)

    pub packages_of : (p : ℕ) → p < length (modules s) → (module_at (modules s) p).packages ≡ names_of v Kind.Package p
    unfolding descriptor_of names_of
    packages_of p l = ap (λ (m : Descriptor). m.packages) (block-of p l)

    pub uses_of : (p : ℕ) → p < length (modules s) → (module_at (modules s) p).uses ≡ names_of v Kind.Uses p
    unfolding descriptor_of names_of
    uses_of p l = ap (λ (m : Descriptor). m.uses) (block-of p l)

    pub provides_of : (p : ℕ) → p < length (modules s) → (module_at (modules s) p).provides ≡ names_of v Kind.Provides p
    unfolding descriptor_of names_of
    provides_of p l = ap (λ (m : Descriptor). m.provides) (block-of p l)

    start-of : (p : ℕ) → start_in s p ≡ start_of v p
    unfolding start_in start_of
    start-of p = rw g.table

    records-of : (p : ℕ) → records_at s p ≡ records (block_of v p)
    unfolding records_at block_of
    records-of p = rw g.table

    -- where requirement m of the module at p stands
    required-at : (p : ℕ) (x : Name) (m : ℕ)
        → error_of s q (module_not_found x (required p m)) ≡ ModuleNotFound Input.Set (body_start (nth_in Kind.Requires m (start_of v p) (records (block_of v p))) + 3) (length x)
    unfolding error_of absent_of
    required-at p x m = rw (start-of p, records-of p)

    pub index-of : (p : ℕ) → is_visible (modules s) p ≡ true → index_of (module_at (modules s) p).name (modules s) ≡ p
    index-of p l = index_at (modules s) p l

    -- ---- the packages

    pub has_package : (ps : List ℕ) → Within s ps → (x : Name) → any (λ (m : Descriptor). mem_name x m.packages) (modules_at s ps) ≡ has_named v Kind.Package ps x
    unfolding has_named
    has_package ps w x = any_at s (λ m. mem_name x m.packages) (λ i. mem_name x (names_of v Kind.Package i)) ps w (λ p l. ap (mem_name x) (packages_of p l))

    pub has_use : (ps : List ℕ) → Within s ps → (x : Name) → any (λ (m : Descriptor). mem_name x m.uses) (modules_at s ps) ≡ has_named v Kind.Uses ps x
    unfolding has_named
    has_use ps w x = any_at s (λ m. mem_name x m.uses) (λ i. mem_name x (names_of v Kind.Uses i)) ps w (λ p l. ap (mem_name x) (uses_of p l))

    shared_at : (ps : List ℕ) (p : ℕ) → Within s ps → p < length (modules s)
        → shared (modules_at s ps) (module_at (modules s) p) ≡ keep (has_named v Kind.Package ps) (names_of v Kind.Package p)
    unfolding shared
    shared_at ps p w l = rw (packages_of p l) (keep_same _ (has_named v Kind.Package ps) (names_of v Kind.Package p) (λ x. has_package ps w x))

    owner_at_lem : (x : Name) (ps : List ℕ) → Within s ps → has_named v Kind.Package ps x ≡ true
        → index_of (name_or_empty (owner_in (modules_at s ps) x)) (modules s) ≡ position_or (owner_at v ps x)
    unfolding has_named any owner_in owner_at first
    owner_at_lem x [] w h = true≠false h refl
    owner_at_lem x (p ∷ ps) w h =
        rw (packages_of p (visible_in (modules s) p (w p (Memᴰ.head refl)))) (turned (mem_name x (names_of v Kind.Package p)) (owner_at_lem x ps (λ y m. w y (Memᴰ.tail m))) h)
      where
        turned : (b : Bool) → (has_named v Kind.Package ps x ≡ true → index_of (name_or_empty (owner_in (modules_at s ps) x)) (modules s) ≡ position_or (owner_at v ps x))
            → (b || has_named v Kind.Package ps x) ≡ true
            → index_of (name_or_empty (cond b (some (module_at (modules s) p)) (owner_in (modules_at s ps) x))) (modules s) ≡ position_or (cond b (some p) (owner_at v ps x))
        turned true below k = unfold name_or_empty position_or in index-of p (w p (Memᴰ.head refl))
        turned false below k = below k

    -- the refusal of a package with two owners
    split_at_lem : (ps : List ℕ) (p : ℕ) (x : Name) → Within s ps → is_visible (modules s) p ≡ true → least (keep (has_named v Kind.Package ps) (names_of v Kind.Package p)) ≡ some x
        → split_of v ps p (some x) ≡ Halt.Refused (error_of s q (split_package x (name_or_empty (owner_in (modules_at s ps) x)) (module_at (modules s) p).name))
    unfolding split_of error_of Resolve.split_of
    split_at_lem ps p x w l e =
        let o : has_named v Kind.Package ps x ≡ true = (keep_out (has_named v Kind.Package ps) (names_of v Kind.Package p) (least_in _ x e)).1 in
        rw (owner_at_lem x ps w o, index-of p l, start-of p, records-of p)

  -- ---- a turn

  module _ (in_round : Bool) (before : List ℕ) (old : Name → Bool)
      (past : in_round ≡ true → (x : Name) → is_met_before (inputs s q n t ws in_round before) x ≡ old x) where
    abbrev w : Inputs
    w = inputs s q n t ws in_round before

    handled-is : (ps : List ℕ) → Within s ps → (l : Line) (z : Lined) → Follows s q in_round ps l z → Turned s q in_round l (short_handled (modules_at s ps) z)
    unfolding short_handled
    handled-is ps a l (fault x o) f = f
    handled-is ps a l (lined k) f =
        record {
          resolved = ps;
          queue = f.queue;
          absent = f.absent;
          before = a;
          within = f.within;
          calm = f.calm;
          line_is = f.line_is;
          state_is = ap (λ (z : Short.Line). record { resolved = modules_at s ps; line = z }) f.short_is;
        }

    -- the requirements of the module at p, which is resolved
    requires-is : (ps : List ℕ) (p : ℕ) (qs : List ℕ) (h : Option Item) → Within s ps → is_visible (modules s) p ≡ true → Within s qs → NoHalt in_round h
        → Follows s q in_round (ps ++ (p ∷ [])) (queue_in w Input.Set (start_of w p) (records (block_of w p)) (line_at (ps ++ (p ∷ [])) qs (halt_of s q h)))
        (short_enqueue in_round old (modules s) (request_of q) (required p) (modules_at s (ps ++ (p ∷ []))) (module_at (modules s) p).requires 0 (short_line s qs h))
    unfolding bodies kind_for
    requires-is ps p qs h a l b nh =
        rw (requires-of in_round before p (visible_in (modules s) p l))
        (queue-row s q n t ws g in_round before old past Input.Set requirement_of (λ len start. ModuleNotFound Input.Set (start + 3) len) (λ c start. unfold want_record in refl) (required p)
        (records (block_of w p)) 0 (start_of w p)
        (λ x m. let y : 0 + m ≡ m = omega arith in rw y (required-at in_round before p x m))
        (ps ++ (p ∷ [])) qs h (within-one s ps p a l) b nh)

    pub turn_is : (ps : List ℕ) (p : ℕ) (qs : List ℕ) (h : Option Item) → Within s ps → Within s (p ∷ qs) → NoHalt in_round h
        → Turned s q in_round (handle_at w (line_at ps (p ∷ qs) (halt_of s q h))) (short_turn in_round old (modules s) (request_of q) (short_state s ps (p ∷ qs) h))
    unfolding handle_at handled_at split_at split_of short_turn short_taken short_tested advanced_at
    turn_is ps p qs h a b nh =
        rw (get_or-append_seam ps p qs 0, take-append_seam ps (p ∷ qs), shared_at in_round before ps p a (visible_in (modules s) p l)) (turned (least (keep (has_named w Kind.Package ps) (names_of w Kind.Package p))) refl)
      where
        l : is_visible (modules s) p ≡ true
        l = b p (Memᴰ.head refl)

        m : Descriptor
        m = module_at (modules s) p

        row_from : Line → Line
        row_from z = queue_in w Input.Set (start_of w p) (records (block_of w p)) z

        row : Lined
        row = short_enqueue in_round old (modules s) (request_of q) (required p) (modules_at s (ps ++ (p ∷ []))) m.requires 0 (short_line s qs h)

        moved : line_at (ps ++ (p ∷ [])) qs (halt_of s q h) ≡ record { order = ps ++ (p ∷ qs); head = suc (length ps); halt = halt_of s q h }
        moved =
            let e : length (ps ++ (p ∷ [])) ≡ suc (length ps) = omega (arith, length-append ps (p ∷ [])) in
            rw (append_assoc ps (p ∷ []) qs, e)

        turned : (o : Option Name) → least (keep (has_named w Kind.Package ps) (names_of w Kind.Package p)) ≡ o
            → Turned s q in_round (handled_at w (line_at ps (p ∷ qs) (halt_of s q h)) p (split_of w ps p o))
            (short_tested in_round old (modules s) (request_of q) (modules_at s ps) m (short_line s qs h) o)
        turned (some x) e = rw (split_at_lem in_round before ps p x a l e)
        turned none e =
            rw (index-of in_round before p l, ← (map-append (module_at (modules s)) ps (p ∷ [])))
            (handled-is (ps ++ (p ∷ [])) (within-one s ps p a l) (row_from (record { order = ps ++ (p ∷ qs); head = suc (length ps); halt = halt_of s q h })) row
            (subst (λ (z : Line). Follows s q in_round (ps ++ (p ∷ [])) (row_from z) row) moved (requires-is ps p qs h a l (λ x k. b x (Memᴰ.tail k)) nh)))

    -- ---- the queue, until none waits

    pub run-refused : (f : ℕ) (l : Line) (e : ModuleError) → l.halt ≡ Halt.Refused e → run_at w f l ≡ l
    unfolding run_at goes_on is_open
    run-refused zero l e h = refl
    run-refused (suc f) l e h = rw h

    none-goes : (ps : List ℕ) (h : Option Item) → goes_on (line_at ps [] (halt_of s q h)) ≡ false
    unfolding goes_on
    none-goes ps h = rw (append-nil ps, eq-eqb (length ps) (length ps) refl, and-false (is_open (halt_of s q h)))

    one-goes : (ps : List ℕ) (p : ℕ) (qs : List ℕ) (h : Option Item) → goes_on (line_at ps (p ∷ qs) (halt_of s q h)) ≡ true
    unfolding goes_on is_open halt_of
    one-goes ps p qs h = rw (ne_eqb (length ps) (length (ps ++ (p ∷ qs))) (λ e. omega (arith, e, length-append ps (p ∷ qs)))) (turned h)
      where
        turned : (o : Option Item) → (is_open (halt_of s q o) && true) ≡ true
        turned none = refl
        turned (some x) = refl

    pub run_is : (f : ℕ) (ps qs : List ℕ) (h : Option Item) → Within s ps → Within s qs → NoHalt in_round h → waiting (modules s) (short_state s ps qs h) < f
        → Ended s q (run_at w f (line_at ps qs (halt_of s q h))) (loop (short_turn in_round old (modules s) (request_of q)) ran_out f (short_state s ps qs h))
    unfolding run_at loop after
    run_is zero ps qs h a b nh l = absurd (omega arith)
    run_is (suc f) ps [] none a b nh l = unfold halt_of short_turn short_taken in
        rw (none-goes ps none) record { resolved = ps; within = a; line_is = refl; state_is = refl }
    run_is (suc f) ps [] (some e) a b nh l = unfold halt_of short_turn short_taken answer_at answer_on in rw (none-goes ps (some e))
    run_is (suc f) ps (p ∷ qs) h a b nh l =
        rw (one-goes ps p qs h) (turned (short_turn in_round old (modules s) (request_of q) st) refl (turn_is ps p qs h a b nh) (λ ps₂ qs₂ h₂. run_is f ps₂ qs₂ h₂))
      where
        st : Short
        st = short_state s ps (p ∷ qs) h

        l₂ : Line
        l₂ = handle_at w (line_at ps (p ∷ qs) (halt_of s q h))

        Below : Type 0
        Below = (ps₂ qs₂ : List ℕ) (h₂ : Option Item) → Within s ps₂ → Within s qs₂ → NoHalt in_round h₂ → waiting (modules s) (short_state s ps₂ qs₂ h₂) < f
            → Ended s q (run_at w f (line_at ps₂ qs₂ (halt_of s q h₂))) (loop (short_turn in_round old (modules s) (request_of q)) ran_out f (short_state s ps₂ qs₂ h₂))

        turned : (z : Step Short Refusal) → short_turn in_round old (modules s) (request_of q) st ≡ z → Turned s q in_round l₂ z → Below
            → Ended s q (run_at w f l₂) (after (λ u. loop (short_turn in_round old (modules s) (request_of q)) ran_out f u) st z)
        turned stop e r below = absurd r
        turned (fail a₂) e r below = unfold answer_at answer_on in rw (run-refused f l₂ (error_of s q a₂) r, r)
        turned (go u) e r below =
            let falls : waiting (modules s) u < waiting (modules s) st = waiting-falls (modules s) (request_of q) in_round old st u e in
            let less : waiting (modules s) u < f = omega (arith, falls, l) in
            rw (r.line_is, r.state_is) (below r.resolved r.queue r.absent r.before r.within r.calm (rw r.state_is at less))
