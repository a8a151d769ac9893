-- The positional form queues as the short form does: one name, and a row of records.
use mathlib.Core.Path.{◌≡◌, refl, sym, ap, ◌∙◌, subst}
use Prim.Native.Nat.{ℕ, zero, suc, ◌+◌, ◌<◌}
use native.Mathlib.Omega.{arith}
use mathlib.Core.Bool.{Bool, true, false, ◌&&◌, ◌||◌, cond, and-false, or-false, or_assoc}
use mathlib.Core.Option.{Option, none, some}
use mathlib.Core.List.Memᴰ
use mathlib.Core.List.{List, [], ◌∷◌, ◌++◌, map, append_assoc}
use mathlib.Core.Logic.{⊎_elim}
use lib.ListN.{length}
use lib.Dec.{eqb}
use Rattle.records.specs.Bytes.{same_bytes}
use Rattle.records.specs.Name.{java_base}
use Rattle.records.specs.Record.{body_of, is_of, bodies_in, nth_in}
use Rattle.records.specs.Descriptor.{Requirement, Descriptor}
use Rattle.records.specs.Request.{Request, request_of, is_permitted}
use Rattle.records.specs.Set.{modules, check_set, starts_in}
use Rattle.records.specs.Finder.{find_name}
use Rattle.records.specs.declared.error.Input.{Input}
use Rattle.records.specs.declared.error.ModuleError.{ModuleError}
use Rattle.records.specs.Finder.{Found}
use Rattle.records.specs.declared.record.Kind.{Kind}
use Rattle.records.specs.Record.{Next}
use Rattle.records.proofs.Logic.{clash, by, true≠false}
use Rattle.records.proofs.set.Blocks.{GoodSet}
use Rattle.resolution.specs.declared.resolver.Halt.{Halt}
use Rattle.resolution.specs.declared.resolver.Wanted.{Wanted}
use Rattle.resolution.specs.declared.resolver.Wanted.TheVariants.{Pass, Add}
use Rattle.resolution.specs.Lists.{Mem, Name, any}
use Rattle.resolution.specs.Positions.{module_at, is_visible}
use Rattle.resolution.specs.Resolution.{Item, QueuedBy, choose, find, has_module, index_of, java_base_not_found, module_not_found, names, leads, pass}
use Rattle.resolution.specs.Resolve.{body_start, error_of}
use Rattle.resolution.specs.Resolver.{Inputs, Line, is_met_before, is_one_of, kind_for, locate, pick_line, pick_wanted, queue_in, queued, queued_on, want, want_absent, want_found, want_record, queued_at, want_unfound}
use Rattle.resolution.specs.Row.{holds}
use Rattle.resolution.specs.Short.{Lined, Short, fault, is_met, lined, push, pushed, short_enqueue, short_next}
use Rattle.resolution.specs.Short as Short
use Rattle.resolution.proofs.Find.{find-mem}
use Rattle.resolution.proofs.Lists.{any_in, any_out, map-append, map-out}
use Rattle.resolution.proofs.Positions.{Located, at_mem, has-at, located, not_located, visible_in, located_visible}
use Rattle.resolution.proofs.Sets.{set-length}
use Rattle.std.specs.Prelude.{Some, None}

-- what the positional form reads, and that it is what the definition reads: a set that the check took, its table, and the row of
-- the positions whose modules are permitted and not hidden
pub record Given (s q : List ℕ) (n : ℕ) (t ws : List ℕ) : Type 0 where
  pub good : GoodSet s n t
  pub table : (starts_in (check_set s)) ≡ t
  pub permits : (i : ℕ) → i < n → holds ws i ≡ is_visible (modules s) i && is_permitted (request_of q) (module_at (modules s) i).name

abbrev pub inputs : List ℕ → List ℕ → ℕ → List ℕ → List ℕ → Bool → List ℕ → Inputs
inputs s q n t ws in_round before = record { set = s; request = q; starts = t; count = n; permitted = ws; in_round = in_round; before = before }

-- ---- a line of positions, and the line of modules that it stands for

abbrev pub modules_at : List ℕ → List ℕ → List Descriptor
modules_at s ps = map (module_at (modules s)) ps

-- each position is one of the set and not hidden
abbrev pub Within : List ℕ → List ℕ → Type 0
Within s ps = (p : ℕ) → Mem p ps → is_visible (modules s) p ≡ true

-- the refusal of an absent name, when it comes up
unfoldable pub halt_of : List ℕ → List ℕ → Option Item → Halt
halt_of s q none = Halt.Open
halt_of s q (some e) = Halt.Stop (error_of s q (cond (same_bytes e.name java_base) java_base_not_found (module_not_found e.name e.by)))

-- ps are resolved, qs wait
abbrev pub line_at : List ℕ → List ℕ → Halt → Line
line_at ps qs h = record { order = ps ++ qs; head = length ps; halt = h }

abbrev pub short_line : List ℕ → List ℕ → Option Item → Short.Line
short_line s qs h = record { todo = modules_at s qs; halt = h }

abbrev pub short_state : List ℕ → List ℕ → List ℕ → Option Item → Short
short_state s ps qs h = record { resolved = modules_at s ps; line = short_line s qs h }

-- in a round no absent name waits
abbrev pub NoHalt : Bool → Option Item → Type 0
NoHalt in_round h = in_round ≡ true → h ≡ none

pub within-one : (s ps : List ℕ) (i : ℕ) → Within s ps → is_visible (modules s) i ≡ true → Within s (ps ++ (i ∷ []))
within-one s ps i w l p m = ⊎_elim (λ h. w p h) (λ h. subst (λ (x : ℕ). is_visible (modules s) x ≡ true) (sym (Memᴰ.eq_of_singleton h)) l) (Memᴰ.append_cases ps m)

-- the line of positions stands for this line of modules, where those at ps are resolved
pub record Waits (s q : List ℕ) (in_round : Bool) (ps : List ℕ) (l : Line) (k : Short.Line) : Type 0 where
  pub queue : List ℕ
  pub absent : Option Item
  pub within : Within s queue
  pub calm : NoHalt in_round absent
  pub line_is : l ≡ line_at ps queue (halt_of s q absent)
  pub short_is : k ≡ short_line s queue absent

-- or it has the refusal
abbrev pub Follows : List ℕ → List ℕ → Bool → List ℕ → Line → Lined → Type 0
Follows s q in_round ps l (fault x o) = l.halt ≡ Halt.Refused (error_of s q (module_not_found x o))
Follows s q in_round ps l (lined k) = Waits s q in_round ps l k

pub any_append : {A : Type 0} (f : A → Bool) (a b : List A) → any f (a ++ b) ≡ (any f a || any f b)
unfolding any
any_append f [] b = refl
any_append f (x ∷ a) b = rw (any_append f a b) (sym (or_assoc (f x) (any f a) (any f b)))

-- where the records of one kind stand, by their numbers
nth-other : (k : Kind) (r : List ℕ) (rs : List (List ℕ)) (at m : ℕ) → is_of k r ≡ false → nth_in k m at (r ∷ rs) ≡ nth_in k m (at + length r) rs
unfolding nth_in
nth-other k r rs at zero e = rw e
nth-other k r rs at (suc m) e = rw e

nth_later : (k : Kind) (r : List ℕ) (rs : List (List ℕ)) (at m : ℕ) → is_of k r ≡ true → nth_in k (suc m) at (r ∷ rs) ≡ nth_in k m (at + length r) rs
unfolding nth_in
nth_later k r rs at m e = rw e

nth_here : (k : Kind) (r : List ℕ) (rs : List (List ℕ)) (at : ℕ) → is_of k r ≡ true → body_start (nth_in k 0 at (r ∷ rs)) ≡ at + 4
unfolding nth_in body_start
nth_here k r rs at e = rw e

-- ---- one name

module _ (s q : List ℕ) (n : ℕ) (t ws : List ℕ) (g : Given s q n t ws) where
  -- a name that is not in the set is not among the modules at some positions
  absent-at : (x : Name) (ps : List ℕ) → Within s ps → has_module (modules s) x ≡ false → has_module (modules_at s ps) x ≡ false
  unfolding has_module
  absent-at x ps w a = by (has_module (modules_at s ps) x)
      (λ h. let r = any_out (λ (m : Descriptor). same_bytes m.name x) (modules_at s ps) h in
      let y = map-out (module_at (modules s)) ps r.1 in
      true≠false (any_in (λ (m : Descriptor). same_bytes m.name x) (at_mem (modules s) y.0 (visible_in (modules s) y.0 (w y.0 y.1))) (subst (λ (m : Descriptor). same_bytes m.name x ≡ true) y.2 r.2)) a)
      (λ h. h)

  -- a name of the set is met just if its position is in the line
  met_at : (in_round : Bool) (old : Name → Bool) (x : Name) (ps qs : List ℕ) (h : Option Item) → Within s ps → Within s qs → has_module (modules s) x ≡ true
      → is_met in_round old (modules s) (modules_at s ps) (short_line s qs h) x ≡ is_one_of (index_of x (modules s)) (ps ++ qs)
  unfolding is_met is_one_of
  met_at in_round old x ps qs h a b o =
      rw (o, has-at (modules s) x o ps a, has-at (modules s) x o qs b, and-false in_round, or-false (any (eqb (index_of x (modules s))) qs))
      (sym (any_append (eqb (index_of x (modules s))) ps qs))

  queued-pass : (l : Line) → queued Pass l ≡ l
  unfolding queued queued_on queued_at
  queued-pass l = turned l.halt
    where
      turned : (h : Halt) → queued_on h Pass l ≡ l
      turned Halt.Open = refl
      turned (Halt.Stop e) = refl
      turned (Halt.Refused e) = refl

  -- one that does not lead is passed over, met or not
  passed_over : (l b c d : Bool) → choose false l b c d ≡ pass
  unfolding choose
  passed_over l true c d = refl
  passed_over l false c d = refl

  -- a name of the set, by its position
  pub queue-found : (P : Line → Lined → Type 0) (in_round : Bool) (old : Name → Bool) (x : Name) (static : Bool) (o : QueuedBy) (k : Short.Line → Lined)
      (i : ℕ) → Located x (modules s) i → (ps qs : List ℕ) (h : Option Item) → Within s ps → Within s qs
      → ((rs : List ℕ) → Within s rs → P (line_at ps rs (halt_of s q h)) (k (short_line s rs h)))
      → P (queued (pick_wanted (is_permitted (request_of q) x) (Add i) Pass) (line_at ps qs (halt_of s q h)))
      (short_next (request_of q) (modules s) (choose true in_round (is_met in_round old (modules s) (modules_at s ps) (short_line s qs h) x) (has_module (modules s) x) static) x o (short_line s qs h) k)
  unfolding short_next choose push pushed queued queued_on halt_of queued_at
  queue-found P in_round old x static o k i w ps qs h a b more =
      rw (w.observable, met_at in_round old x ps qs h a b w.observable, w.index) (turned (is_permitted (request_of q) x) (is_one_of i (ps ++ qs)) refl refl h more)
    where
      wider : map (module_at (modules s)) (qs ++ (i ∷ [])) ≡ modules_at s qs ++ (module_at (modules s) i ∷ [])
      wider = map-append (module_at (modules s)) qs (i ∷ [])

      turned : (c d : Bool) → is_permitted (request_of q) x ≡ c → is_one_of i (ps ++ qs) ≡ d → (h₂ : Option Item)
          → ((rs : List ℕ) → Within s rs → P (line_at ps rs (halt_of s q h₂)) (k (short_line s rs h₂)))
          → P (queued (pick_wanted c (Add i) Pass) (line_at ps qs (halt_of s q h₂)))
          (short_next (request_of q) (modules s) (choose true in_round d true static) x o (short_line s qs h₂) k)
      turned false true f e h₂ then = rw (queued-pass (line_at ps qs (halt_of s q h₂))) (then qs b)
      turned false false f e none then = rw f (then qs b)
      turned false false f e (some y) then = then qs b
      turned true true f e none then = rw e (then qs b)
      turned true true f e (some y) then = then qs b
      turned true false f e (some y) then = then qs b
      turned true false f e none then =
          rw (e, f, w.is, append_assoc ps qs (i ∷ []), ← wider) (then (qs ++ (i ∷ [])) (within-one s qs i b (located_visible x (modules s) i w)))

  -- a name of the set or not
  module _ (in_round : Bool) (before : List ℕ) (old : Name → Bool)
      (past : in_round ≡ true → (x : Name) → is_met_before (inputs s q n t ws in_round before) x ≡ old x) where
    abbrev w : Inputs
    w = inputs s q n t ws in_round before

    locate-is : (x : Name) → locate w x ≡ find_name (names (modules s)) x 0
    unfolding locate
    locate-is x = rw g.good.names

    pub queue-one : (P : Line → Lined → Type 0) (x : Name) (static : Bool) (o : QueuedBy) (e : ModuleError) → error_of s q (module_not_found x o) ≡ e
        → (k : Short.Line → Lined) (ps qs : List ℕ) (h : Option Item) → Within s ps → Within s qs → NoHalt in_round h
        → ((rs : List ℕ) (h₂ : Option Item) → Within s rs → NoHalt in_round h₂ → P (line_at ps rs (halt_of s q h₂)) (k (short_line s rs h₂)))
        → ((l : Line) → l.halt ≡ Halt.Refused (error_of s q (module_not_found x o)) → P l (fault x o))
        → P (queued (want w x static e) (line_at ps qs (halt_of s q h)))
        (short_next (request_of q) (modules s) (choose true in_round (is_met in_round old (modules s) (modules_at s ps) (short_line s qs h) x) (has_module (modules s) x) static) x o (short_line s qs h) k)
    unfolding want want_found want_absent short_next choose push pushed queued queued_on halt_of is_met error_of queued_at want_unfound
    queue-one P x static o e er k ps qs h a b nh more refused = turned (locate w x) refl
      where
        rq : Request
        rq = request_of q

        -- a name that is not in the set. In a round? Static? Permitted? java.base? Met before, as each form has it?
        absent : find x (modules s) ≡ none → (lt st c base m d : Bool) → in_round ≡ lt → is_permitted rq x ≡ c → same_bytes x java_base ≡ base
            → (lt ≡ true → d ≡ m) → (lt ≡ false → d ≡ false) → (h₂ : Option Item) → NoHalt in_round h₂
            → P (queued (pick_wanted st Pass (want_absent lt m c base e)) (line_at ps qs (halt_of s q h₂)))
            (short_next rq (modules s) (choose true lt d false st) x o (short_line s qs h₂) k)
        absent nf lt true c base m true el ec eb ed ef h₂ nh₂ = rw (queued-pass (line_at ps qs (halt_of s q h₂))) (more qs h₂ b nh₂)
        absent nf lt true c base m false el ec eb ed ef h₂ nh₂ = rw (queued-pass (line_at ps qs (halt_of s q h₂))) (more qs h₂ b nh₂)
        absent nf true false c base true true el ec eb ed ef h₂ nh₂ = rw (queued-pass (line_at ps qs (halt_of s q h₂))) (more qs h₂ b nh₂)
        absent nf true false c base true false el ec eb ed ef h₂ nh₂ = true≠false (ed refl) refl
        absent nf true false c base false true el ec eb ed ef h₂ nh₂ = true≠false refl (ed refl)
        absent nf true false c base false false el ec eb ed ef none nh₂ = refused _ (ap Halt.Refused (sym er))
        absent nf true false c base false false el ec eb ed ef (some y) nh₂ = clash (let z : none ≡ some y = sym (nh₂ el) in cc)
        absent nf false false c base m true el ec eb ed ef h₂ nh₂ = true≠false refl (ef refl)
        absent nf false false c base m false el ec eb ed ef (some y) nh₂ = more qs (some y) b nh₂
        absent nf false false false base m false el ec eb ed ef none nh₂ = rw ec (more qs none b nh₂)
        absent nf false false true true m false el ec eb ed ef none nh₂ =
            rw (ec, nf) (subst (λ (z : ModuleError). P (line_at ps qs (Halt.Stop z)) (k (short_line s qs (some (record { name = x; by = o }))))) (rw eb) (more qs (some (record { name = x; by = o })) b (λ r. true≠false r el)))
        absent nf false false true false m false el ec eb ed ef none nh₂ =
            rw (ec, nf) (subst (λ (z : ModuleError). P (line_at ps qs (Halt.Stop z)) (k (short_line s qs (some (record { name = x; by = o }))))) (rw eb er) (more qs (some (record { name = x; by = o })) b (λ r. true≠false r el)))

        turned : (f : Found) → locate w x ≡ f
            → P (queued (want_found w x static e f) (line_at ps qs (halt_of s q h)))
            (short_next rq (modules s) (choose true in_round (is_met in_round old (modules s) (modules_at s ps) (short_line s qs h) x) (has_module (modules s) x) static) x o (short_line s qs h) k)
        turned (Some i) f =
            let l = located x (modules s) i (sym (locate-is x) ∙ f) in
            let pm : holds ws i ≡ is_permitted rq x
            = g.permits i (omega (arith, l.within, set-length s n t g.good)) ∙ ap (λ (v : Bool). v && is_permitted rq (module_at (modules s) i).name) (located_visible x (modules s) i l) ∙ ap (is_permitted rq) (find-mem x (modules s) (module_at (modules s) i) l.is).1 in
            rw pm (queue-found P in_round old x static o k i l ps qs h a b (λ rs v. more rs h v nh))
        turned None f =
            let l = not_located x (modules s) (sym (locate-is x) ∙ f) in
            rw (absent-at x ps a l.0, absent-at x qs b l.0, l.0)
            (absent l.1 in_round static (is_permitted rq x) (same_bytes x java_base) (is_met_before w x) (in_round && old x) refl refl refl
            (λ (r : in_round ≡ true). ap (λ (z : Bool). z && old x) r ∙ sym (past r x)) (λ (r : in_round ≡ false). ap (λ (z : Bool). z && old x) r) h nh)

    -- the name of a requirement, which leads or not
    queue-led : (lead : Bool) (P : Line → Lined → Type 0) (x : Name) (static : Bool) (o : QueuedBy) (e : ModuleError) → error_of s q (module_not_found x o) ≡ e
        → (k : Short.Line → Lined) (ps qs : List ℕ) (h : Option Item) → Within s ps → Within s qs → NoHalt in_round h
        → ((rs : List ℕ) (h₂ : Option Item) → Within s rs → NoHalt in_round h₂ → P (line_at ps rs (halt_of s q h₂)) (k (short_line s rs h₂)))
        → ((l : Line) → l.halt ≡ Halt.Refused (error_of s q (module_not_found x o)) → P l (fault x o))
        → P (queued (pick_wanted lead (want w x static e) Pass) (line_at ps qs (halt_of s q h)))
        (short_next (request_of q) (modules s) (choose lead in_round (is_met in_round old (modules s) (modules_at s ps) (short_line s qs h) x) (has_module (modules s) x) static) x o (short_line s qs h) k)
    unfolding short_next
    queue-led true P x static o e er k ps qs h a b nh more refused = queue-one P x static o e er k ps qs h a b nh more refused
    queue-led false P x static o e er k ps qs h a b nh more refused =
        rw (queued-pass (line_at ps qs (halt_of s q h)), passed_over in_round (is_met in_round old (modules s) (modules_at s ps) (short_line s qs h) x) (has_module (modules s) x) static) (more qs h b nh)

    -- ---- a row of records

    queued-refused : (v : Wanted) (l : Line) (e : ModuleError) → l.halt ≡ Halt.Refused e → queued v l ≡ l
    unfolding queued queued_on queued_at
    queued-refused v l e h = subst (λ (z : Halt). queued_on z v l ≡ l) (sym h) refl

    -- after a refusal nothing changes
    row-refused : (i : Input) (rs : List (List ℕ)) (at : ℕ) (l : Line) (e : ModuleError) → l.halt ≡ Halt.Refused e → queue_in w i at rs l ≡ l
    unfolding queue_in
    row-refused i [] at l e h = refl
    row-refused i (r ∷ rs) at l e h = rw (queued-refused (want_record w i (body_of r) (at + 4)) l e h) (turned (is_of (kind_for i) r) (row-refused i rs (at + length r) l e h))
      where
        turned : (b : Bool) → queue_in w i (at + length r) rs l ≡ l → queue_in w i (at + length r) rs (pick_line b l l) ≡ l
        turned true k = k
        turned false k = k

    -- the records of the input from `at` on, where those of its kind have the numbers from j on
    module _ (i : Input) (req_of : List ℕ → Requirement) (error_at : ℕ → ℕ → ModuleError)
        (reads : (b : List ℕ) (start : ℕ) → want_record w i b start ≡ pick_wanted (leads (request_of q) (req_of b)) (want w (req_of b).name (req_of b).static (error_at (length (req_of b).name) start)) Pass)
        (by_of : ℕ → QueuedBy) where
      -- an absent name that number j + m queued is told at record m of the kind from `at` on
      abbrev Recorded : ℕ → ℕ → List (List ℕ) → Type 0
      Recorded j at rs = (x : Name) (m : ℕ) → error_of s q (module_not_found x (by_of (j + m))) ≡ error_at (length x) (body_start (nth_in (kind_for i) m at rs))

      pub queue-row : (rs : List (List ℕ)) (j at : ℕ) → Recorded j at rs → (ps qs : List ℕ) (h : Option Item) → Within s ps → Within s qs → NoHalt in_round h
          → Follows s q in_round ps (queue_in w i at rs (line_at ps qs (halt_of s q h)))
          (short_enqueue in_round old (modules s) (request_of q) by_of (modules_at s ps) (map req_of (bodies_in (kind_for i) rs)) j (short_line s qs h))
      unfolding queue_in short_enqueue bodies_in
      queue-row [] j at rd ps qs h a b nh = record { queue = qs; absent = h; within = b; calm = nh; line_is = refl; short_is = refl }
      queue-row (r ∷ rs) j at rd ps qs h a b nh = turned (is_of (kind_for i) r) refl (λ j₂ rd₂ qs₂ h₂ b₂ nh₂. queue-row rs j₂ (at + length r) rd₂ ps qs₂ h₂ a b₂ nh₂)
        where
          kind : List (List ℕ) → List Requirement
          kind l = map req_of (bodies_in (kind_for i) l)

          Below : Type 0
          Below = (j₂ : ℕ) → Recorded j₂ (at + length r) rs → (qs₂ : List ℕ) (h₂ : Option Item) → Within s qs₂ → NoHalt in_round h₂
              → Follows s q in_round ps (queue_in w i (at + length r) rs (line_at ps qs₂ (halt_of s q h₂)))
              (short_enqueue in_round old (modules s) (request_of q) by_of (modules_at s ps) (kind rs) j₂ (short_line s qs₂ h₂))

          later : is_of (kind_for i) r ≡ true → Recorded (suc j) (at + length r) rs
          later e x m =
              let y : suc j + m ≡ j + suc m = omega arith in
              rw y (rd x (suc m) ∙ ap (λ (z : Next). error_at (length x) (body_start z)) (nth_later (kind_for i) r rs at m e))

          same : is_of (kind_for i) r ≡ false → Recorded j (at + length r) rs
          same e x m = rd x m ∙ ap (λ (z : Next). error_at (length x) (body_start z)) (nth-other (kind_for i) r rs at m e)

          here : is_of (kind_for i) r ≡ true → (x : Name) → error_of s q (module_not_found x (by_of j)) ≡ error_at (length x) (at + 4)
          here e x =
              let y : j ≡ j + 0 = omega arith in
              ap (λ (z : ℕ). error_of s q (module_not_found x (by_of z))) y ∙ rd x 0 ∙ ap (error_at (length x)) (nth_here (kind_for i) r rs at e)

          turned : (d : Bool) → is_of (kind_for i) r ≡ d → Below
              → Follows s q in_round ps (queue_in w i (at + length r) rs (pick_line d (queued (want_record w i (body_of r) (at + 4)) (line_at ps qs (halt_of s q h))) (line_at ps qs (halt_of s q h))))
              (short_enqueue in_round old (modules s) (request_of q) by_of (modules_at s ps) (map req_of (cond d (body_of r ∷ bodies_in (kind_for i) rs) (bodies_in (kind_for i) rs))) j (short_line s qs h))
          turned false e below = below j (same e) qs h b nh
          turned true e below =
              let v : Requirement = req_of (body_of r) in
              rw (reads (body_of r) (at + 4))
              (queue-led (leads (request_of q) v) (λ l z. Follows s q in_round ps (queue_in w i (at + length r) rs l) z) v.name v.static (by_of j) (error_at (length v.name) (at + 4)) (here e v.name)
              (λ l₂. short_enqueue in_round old (modules s) (request_of q) by_of (modules_at s ps) (kind rs) (suc j) l₂) ps qs h a b nh
              (λ qs₂ h₂ b₂ nh₂. below (suc j) (later e) qs₂ h₂ b₂ nh₂)
              (λ l k. ap (λ (z : Line). z.halt) (row-refused i rs (at + length r) l (error_of s q (module_not_found v.name (by_of j))) k) ∙ k))
