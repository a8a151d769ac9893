-- The modules resolved and waiting are no more than those of the set, so that an array of as many positions holds them; and what
-- waits falls with each turn.
use mathlib.Core.Path.{◌≡◌, refl, sym, ap, ◌∙◌, subst}
use Prim.Native.Nat.{ℕ, suc, ◌+◌, ◌≤◌, ◌<◌}
use native.Mathlib.Omega.{arith}
use mathlib.Core.Bool.{Bool, true, false}
use mathlib.Core.Option.{Option, none, some}
use mathlib.Core.List.Memᴰ
use mathlib.Core.List.{List, [], ◌∷◌, ◌++◌, map, append_assoc, append-nil}
use mathlib.Core.Logic.{⊎_elim}
use lib.ListN.{length, length-append, length-map}
use Rattle.records.specs.Bytes.{same_bytes}
use Rattle.records.specs.Descriptor.{Descriptor, Requirement}
use Rattle.records.specs.Name.{java_base, mem_name}
use Rattle.records.specs.Request.{Request, is_permitted}
use Rattle.records.proofs.Logic.{by, or_left, or_right, true≠false}
use Rattle.resolution.specs.Lists.{Mem, Name, any}
use Rattle.resolution.specs.Loop.{go, loop}
use Rattle.resolution.specs.Owner.{least, shared}
use Rattle.resolution.specs.Resolution.{Choice, Item, QueuedBy, add, as_requirement, base, choose, find, has_module, index_of, names, pass, provider, providers, ran_out, refuse, required, root, leads}
use Rattle.resolution.specs.Short.{Line, Lined, Short, empty, fault, is_met, lined, never, push, pushed, short_base, short_enqueue, short_handled, short_next, short_taken, short_tested, short_turn}
use Rattle.resolution.proofs.Accepted.{base_permitted}
use Rattle.resolution.proofs.Enqueue.{fresh, fresh-lt}
use Rattle.resolution.proofs.Find.{find-mem, has-names}
use Rattle.resolution.proofs.Fuel.{fresh-length}
use Rattle.resolution.proofs.Lists.{any_in, any_out, map_in, map-out, mem_name_in, mem_name-out}
use Rattle.resolution.proofs.Loop.{fail≠go, loop-same, stop≠go}

-- ---- the law of queueing in the line, as that of the queue

module _ (in_round : Bool) (old : Name → Bool) (s : List Descriptor) (rq : Request) (by_of : ℕ → QueuedBy) (ms : List Descriptor) where
  pub short-enqueue-inv : (P : Line → Type 0) (rs : List Requirement) (j : ℕ) (l l₂ : Line)
      → ((r : Requirement) (i : ℕ) (k : Line) → Mem r rs → is_met in_round old s ms k r.name ≡ false → P k → P (push k (is_permitted rq r.name) (find r.name s) (record { name = r.name; by = by_of i })))
      → P l → short_enqueue in_round old s rq by_of ms rs j l ≡ lined l₂ → P l₂
  unfolding short_enqueue
  short-enqueue-inv P [] j l l₂ adds p e = let same : l ≡ l₂ = cc in subst P same p
  short-enqueue-inv P (r ∷ rs) j l l₂ adds p e = turned (is_met in_round old s ms l r.name) refl e (λ k q h. short-enqueue-inv P rs (suc j) k l₂ (λ r₂ i z m. adds r₂ i z (Memᴰ.tail m)) q h)
    where
      more : Line → Lined
      more k = short_enqueue in_round old s rq by_of ms rs (suc j) k

      Below : Type 0
      Below = (k : Line) → P k → more k ≡ lined l₂ → P l₂

      chosen : is_met in_round old s ms l r.name ≡ false → (c : Choice) → short_next rq s c r.name (by_of j) l more ≡ lined l₂ → Below → P l₂
      chosen h pass k below = below l p k
      chosen h add k below = below _ (adds r j l (Memᴰ.head refl) h p) k
      chosen h refuse k below = absurd (let z : ◌≡◌ {A = ℕ} 0 1 = cc in omega arith)

      turned : (b : Bool) → is_met in_round old s ms l r.name ≡ b
          → short_next rq s (choose (leads rq r) in_round b (has_module s r.name) r.static) r.name (by_of j) l more ≡ lined l₂ → Below → P l₂
      turned true h k below = below l p k
      turned false h k below = chosen h (choose (leads rq r) in_round false (has_module s r.name) r.static) k below

-- ---- room

-- the modules of a list, with those of the set that are not among them, are no more than so many
unfoldable pub Room : List Descriptor → ℕ → List Descriptor → Type 0
Room s most l = length l + fresh (names s) (names l) ≤ most

module _ (s : List Descriptor) (rq : Request) (most : ℕ) where
  room-one : (l : List Descriptor) (m : Descriptor) → Mem m s → mem_name m.name (names l) ≡ false → Room s most l → Room s most (l ++ (m ∷ []))
  unfolding Room
  room-one l m h n r =
      omega (
        arith,
        length-append l (m ∷ []),
        fresh-lt (names l) (names (l ++ (m ∷ []))) (map_in (λ (k : Descriptor). k.name) h) n
            (mem_name_in (map_in (λ (k : Descriptor). k.name) (Memᴰ.append_right l (Memᴰ.head refl)))) grows,
      )
    where
      grows : (x : Name) → mem_name x (names l) ≡ true → mem_name x (names (l ++ (m ∷ []))) ≡ true
      grows x k = let y = map-out (λ (z : Descriptor). z.name) l (mem_name-out x (names l) k) in
          mem_name_in (Memᴰ.cast y.2 (map_in (λ (z : Descriptor). z.name) (Memᴰ.append_left (m ∷ []) y.1)))

  not_in : (l : List Descriptor) (n : Name) → has_module l n ≡ false → mem_name n (names l) ≡ false
  not_in l n h = sym (has-names l n) ∙ h

  -- what comes to the line has room
  room-push : (in_round : Bool) (old : Name → Bool) (ms : List Descriptor) (l : Line) (n : Name) (o : QueuedBy) → is_met in_round old s ms l n ≡ false
      → Room s most (ms ++ l.todo)
      → Room s most (ms ++ (push l (is_permitted rq n) (find n s) (record { name = n; by = o })).todo)
  unfolding push is_met
  room-push in_round old ms l n o h r = turned l.halt (is_permitted rq n) (find n s) refl
    where
      fresh-name : has_module (ms ++ l.todo) n ≡ false
      fresh-name = unfold has_module in by (any (λ (z : Descriptor). same_bytes z.name n) (ms ++ l.todo))
          (λ k. let y = any_out (λ (z : Descriptor). same_bytes z.name n) (ms ++ l.todo) k in
          ⊎_elim (λ u. true≠false (or_left (any (λ (z : Descriptor). same_bytes z.name n) ms) _ (any_in (λ (z : Descriptor). same_bytes z.name n) u y.2)) h)
          (λ u. true≠false (or_right (any (λ (z : Descriptor). same_bytes z.name n) ms) _ (or_left (any (λ (z : Descriptor). same_bytes z.name n) l.todo) _ (any_in (λ (z : Descriptor). same_bytes z.name n) u y.2))) h)
          (Memᴰ.append_cases ms y.1)) (λ k. k)

      turned : (q : Option Item) (b : Bool) (f : Option Descriptor) → find n s ≡ f
          → Room s most (ms ++ (pushed q l.todo b f (record { name = n; by = o })).todo)
      turned (some x) b f e = unfold pushed in r
      turned none false f e = unfold pushed in r
      turned none true none e = unfold pushed in r
      turned none true (some m) e = unfold pushed in
          (let x = find-mem n s m e in
          subst (Room s most) (append_assoc ms l.todo (m ∷ [])) (room-one (ms ++ l.todo) m x.0 (subst (λ (z : Name). mem_name z (names (ms ++ l.todo)) ≡ false) (sym x.1) (not_in (ms ++ l.todo) n fresh-name)) r))

  -- queueing a row of requirements keeps the room
  pub room-enqueue : (in_round : Bool) (old : Name → Bool) (by_of : ℕ → QueuedBy) (ms : List Descriptor) (rs : List Requirement) (j : ℕ) (l l₂ : Line)
      → Room s most (ms ++ l.todo) → short_enqueue in_round old s rq by_of ms rs j l ≡ lined l₂ → Room s most (ms ++ l₂.todo)
  room-enqueue in_round old by_of ms rs j l l₂ r e =
      short-enqueue-inv in_round old s rq by_of ms (λ x. Room s most (ms ++ x.todo)) rs j l l₂
      (λ x i y a b c. room-push in_round old ms y x.name (by_of i) b c) r e

  -- a turn of the line keeps the room
  pub room-turn : (in_round : Bool) (old : Name → Bool) (st t : Short) → Room s most (st.resolved ++ st.line.todo)
      → short_turn in_round old s rq st ≡ go t → Room s most (t.resolved ++ t.line.todo)
  unfolding short_turn
  room-turn in_round old st t r h = taken st.resolved st.line.todo st.line.halt r h
    where
      queued : (ms : List Descriptor) (m : Descriptor) (l : Line) → Room s most (ms ++ (m ∷ l.todo)) → (z : Lined)
          → short_enqueue in_round old s rq (required (index_of m.name s)) (ms ++ (m ∷ [])) m.requires 0 l ≡ z
          → short_handled (ms ++ (m ∷ [])) z ≡ go t → Room s most (t.resolved ++ t.line.todo)
      queued ms m l g (fault n o) e k = unfold short_handled in fail≠go k
      queued ms m l g (lined l₂) e k = unfold short_handled in
          (let same : record { resolved = ms ++ (m ∷ []); line = l₂ } ≡ t = cc in
          subst (λ (z : Short). Room s most (z.resolved ++ z.line.todo)) same
          (room-enqueue in_round old (required (index_of m.name s)) (ms ++ (m ∷ [])) m.requires 0 l l₂ (subst (Room s most) (sym (append_assoc ms (m ∷ []) l.todo)) g) e))

      tested : (ms : List Descriptor) (m : Descriptor) (l : Line) → Room s most (ms ++ (m ∷ l.todo)) → (o : Option Name)
          → short_tested in_round old s rq ms m l o ≡ go t → Room s most (t.resolved ++ t.line.todo)
      tested ms m l g (some p) k = unfold short_tested in fail≠go k
      tested ms m l g none k = unfold short_tested in queued ms m l g _ refl k

      taken : (ms todo : List Descriptor) (hl : Option Item) → Room s most (ms ++ todo) → short_taken in_round old s rq ms todo hl ≡ go t
          → Room s most (t.resolved ++ t.line.todo)
      taken ms [] none g k = unfold short_taken in stop≠go k
      taken ms [] (some e) g k = unfold short_taken in fail≠go k
      taken ms (m ∷ q) hl g k = unfold short_taken in tested ms m (record { todo = q; halt = hl }) g (least (shared ms m)) k

  -- a round keeps it too, as it queues the providers
  pub room-round : (ms : List Descriptor) (l : Line) → Room s most ms
      → short_enqueue false never s rq provider ms (providers s rq ms) 0 empty ≡ lined l → Room s most (ms ++ l.todo)
  unfolding empty
  room-round ms l r e = room-enqueue false never provider ms (providers s rq ms) 0 empty l (subst (Room s most) (sym (append-nil ms)) r) e

-- at the start there is room for the whole set
pub room-none : (s : List Descriptor) → Room s (length s) []
unfolding Room
room-none s = omega (arith, fresh-length (names s) [], length-map s (λ (m : Descriptor). m.name))

-- and after java.base and the roots are queued
pub room-seeds : (s : List Descriptor) (rq : Request) (l : Line)
    → short_enqueue false never s rq root [] (map as_requirement rq.roots) 0 (short_base rq s (mem_name java_base rq.roots)) ≡ lined l → Room s (length s) l.todo
room-seeds s rq l e = room-enqueue s rq (length s) false never root [] (map as_requirement rq.roots) 0 (short_base rq s (mem_name java_base rq.roots)) l (front (mem_name java_base rq.roots)) e
  where
    front : (b : Bool) → Room s (length s) (short_base rq s b).todo
    front true = unfold short_base empty in room-none s
    front false = unfold short_base in
        (subst (λ (c : Bool). Room s (length s) (push empty c (find java_base s) (record { name = java_base; by = base })).todo) (base_permitted rq)
        (room-push s rq (length s) false never [] empty java_base base (unfold is_met empty has_module any in refl) (unfold empty in room-none s)))

-- resolved and waiting are no more than the modules of the set
pub room-length : (s : List Descriptor) (most : ℕ) (ms todo : List Descriptor) → Room s most (ms ++ todo) → length ms + length todo ≤ most
unfolding Room
room-length s most ms todo r = omega (arith, length-append ms todo)

-- what waits and what may still come: it falls with each turn
unfoldable pub waiting : List Descriptor → Short → ℕ
waiting s st = length st.line.todo + fresh (names s) (names (st.resolved ++ st.line.todo))

module _ (s : List Descriptor) (rq : Request) (in_round : Bool) (old : Name → Bool) where
  -- a turn resolves one module
  resolves : (st t : Short) → short_turn in_round old s rq st ≡ go t → (m : Descriptor) × (t.resolved ≡ st.resolved ++ (m ∷ []))
  unfolding short_turn short_taken short_tested short_handled
  resolves st t h = taken st.line.todo st.line.halt h
    where
      One : Type 0
      One = (m : Descriptor) × (t.resolved ≡ st.resolved ++ (m ∷ []))

      queued : (m : Descriptor) (z : Lined) → short_handled (st.resolved ++ (m ∷ [])) z ≡ go t → One
      queued m (fault n o) k = fail≠go k
      queued m (lined l) k = let same : t ≡ record { resolved = st.resolved ++ (m ∷ []); line = l } = cc in (m, ap (λ (z : Short). z.resolved) same)

      tested : (m : Descriptor) (l : Line) (o : Option Name) → short_tested in_round old s rq st.resolved m l o ≡ go t → One
      tested m l (some p) k = fail≠go k
      tested m l none k = queued m (short_enqueue in_round old s rq (required (index_of m.name s)) (st.resolved ++ (m ∷ [])) m.requires 0 l) k

      taken : (todo : List Descriptor) (hl : Option Item) → short_taken in_round old s rq st.resolved todo hl ≡ go t → One
      taken [] none k = stop≠go k
      taken [] (some e) k = fail≠go k
      taken (m ∷ q) hl k = tested m (record { todo = q; halt = hl }) (least (shared st.resolved m)) k

  pub waiting-falls : (st t : Short) → short_turn in_round old s rq st ≡ go t → waiting s t < waiting s st
  unfolding waiting Room
  waiting-falls st t h =
      let b : ℕ = length (st.resolved ++ st.line.todo) + fresh (names s) (names (st.resolved ++ st.line.todo)) in
      let r : length (t.resolved ++ t.line.todo) + fresh (names s) (names (t.resolved ++ t.line.todo)) ≤ b = room-turn s rq b in_round old st t (omega arith) h in
      let o = resolves st t h in
      omega (arith, length-append st.resolved st.line.todo, length-append t.resolved t.line.todo, ap length o.1, length-append st.resolved (o.0 ∷ []))

  -- the run of the line, with any fuel above what waits and may come
  pub short-same : (f g : ℕ) (st : Short) → waiting s st < f → waiting s st < g
      → loop (short_turn in_round old s rq) ran_out f st ≡ loop (short_turn in_round old s rq) ran_out g st
  short-same f g st a b = loop-same (short_turn in_round old s rq) ran_out (λ u. Unit {0}) (λ u t p e. tt) (waiting s) (λ u t p e. waiting-falls u t e) f g st tt a b
