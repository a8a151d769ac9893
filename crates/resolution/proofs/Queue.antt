-- The invariant of the queue, and that each turn keeps it.
use mathlib.Core.Path.{◌≡◌, refl, sym, ap, ◌∙◌, subst}
use Prim.Native.Nat.{ℕ}
use native.Mathlib.Omega.{arith}
use mathlib.Core.Bool.{Bool, true, false}
use mathlib.Core.Option.{Option, none, some}
use mathlib.Core.List.Memᴰ
use mathlib.Core.List.{List, [], ◌∷◌, ◌++◌}
use mathlib.Core.Logic.{◌⊎◌, inl, inr, ⊎_elim}
use Rattle.records.specs.Descriptor.{Descriptor, Requirement}
use Rattle.records.specs.Name.{java_base, mem_name}
use Rattle.records.specs.Request.{Request, is_permitted}
use Rattle.records.proofs.Logic.{true≠false}
use Rattle.resolution.specs.Closed.{Closed, Member}
use Rattle.resolution.specs.Lists.{Mem, Name, any, keep}
use Rattle.resolution.specs.Loop.{go}
use Rattle.resolution.specs.Owner.{least, lesser, shared}
use Rattle.resolution.specs.Resolution.{Enqueued, Item, QueuedBy, State, enqueue, enqueued, find, found, handled, has_module, index_of, missing, passed, required, taken, tested, turn, leads}
use Rattle.resolution.proofs.Enqueue.{Queues, add-leads, enqueue-all, enqueue-inv, enqueue-mono, item, met-cases, met-new, met-old}
use Rattle.resolution.proofs.Find.{find-mem}
use Rattle.resolution.proofs.Lists.{any_in, keep_in, mem_name_in}
use Rattle.resolution.proofs.Loop.{fail≠go, stop≠go}

abbrev pub InQueue : List Item → Name → Type 0
InQueue q n = (e : Item) × Mem e q × (e.name ≡ n)

-- every met, permitted name is resolved or queued; every queued name is met; every met, permitted, observable name is in C
pub record Front (s : List Descriptor) (rq : Request) (C : Name → Type 0) (ms : List Descriptor) (met : List Name) (q : List Item) : Type 0 where
  pub cover : (n : Name) → mem_name n met ≡ true → is_permitted rq n ≡ true → Member ms n ⊎ InQueue q n
  pub queued : (e : Item) → Mem e q → mem_name e.name met ≡ true
  pub small : (n : Name) (m : Descriptor) → mem_name n met ≡ true → is_permitted rq n ≡ true → find n s ≡ some m → C n

pub record Invariant (s : List Descriptor) (rq : Request) (C : Name → Type 0) (st : State) : Type 0 where
  pub front : Front s rq C st.resolved st.met st.queue
  pub sound : (m : Descriptor) → Mem m st.resolved
      → (find m.name s ≡ some m) × (is_permitted rq m.name ≡ true) × (mem_name m.name st.met ≡ true)
  pub base : mem_name java_base st.met ≡ true
  pub roots : (n : Name) → Mem n rq.roots → mem_name n st.met ≡ true
  pub reqs : (m : Descriptor) (r : Requirement) → Mem m st.resolved → Mem r m.requires → Queues s rq r → mem_name r.name st.met ≡ true
  pub apart : (m k : Descriptor) (p : Name) → Mem m st.resolved → Mem k st.resolved → Mem p m.packages → Mem p k.packages → m ≡ k

-- one more name in the queue
pub front-add : (s : List Descriptor) (rq : Request) (C : Name → Type 0) (ms : List Descriptor) (n : Name) (o : QueuedBy) (mt : List Name) (w : List Item)
    → ((m : Descriptor) → is_permitted rq n ≡ true → find n s ≡ some m → C n) → Front s rq C ms mt w → Front s rq C ms (n ∷ mt) (w ++ (item n o ∷ []))
front-add s rq C ms n o mt w in_c g =
    let x : Item = item n o in
    record {
      cover = λ z h p. met-cases z n mt h
          (λ c. inr (x, Memᴰ.append_right w (Memᴰ.head refl), sym c))
          (λ k. ⊎_elim (λ a. inl a) (λ b. inr (b.0, Memᴰ.append_left (x ∷ []) b.1, b.2)) (g.cover z k p));
      queued = λ a h. ⊎_elim
          (λ k. met-old a.name n mt (g.queued a k))
          (λ k. subst (λ (z : Item). mem_name z.name (n ∷ mt) ≡ true) (sym (Memᴰ.eq_of_singleton k)) (met-new n mt))
          (Memᴰ.append_cases w h);
      small = λ z k h p f. met-cases z n mt h
          (λ c. subst C (sym c) (in_c k (subst (λ (y : Name). is_permitted rq y ≡ true) c p) (subst (λ (y : Name). find y s ≡ some k) c f)))
          (λ y. g.small z k y p f);
    }

-- queueing keeps the front, where what it queues is in C
pub enqueue-front : (s : List Descriptor) (rq : Request) (C : Name → Type 0) (ms : List Descriptor) (in_round : Bool) (by_of : ℕ → QueuedBy) (rs : List Requirement) (j : ℕ) (met : List Name) (q : List Item) (met₂ : List Name) (q₂ : List Item)
    → ((r : Requirement) (m : Descriptor) → Mem r rs → leads rq r ≡ true → is_permitted rq r.name ≡ true → find r.name s ≡ some m → C r.name)
    → Front s rq C ms met q → enqueue in_round s rq by_of rs j met q ≡ enqueued met₂ q₂ → Front s rq C ms met₂ q₂
enqueue-front s rq C ms in_round by_of rs j met q met₂ q₂ in_c f e =
    enqueue-inv in_round s rq by_of (λ mt w. Front s rq C ms mt w) rs j met q met₂ q₂ (λ r i mt w m new c g. front-add s rq C ms r.name (by_of i) mt w (λ k. in_c r k m (add-leads (leads rq r) in_round (has_module s r.name) r.static c)) g) f e

-- the first of the queue is resolved
pub front-take : (s : List Descriptor) (rq : Request) (C : Name → Type 0) (ms : List Descriptor) (met : List Name) (e : Item) (q : List Item) (m : Descriptor)
    → find e.name s ≡ some m → Front s rq C ms met (e ∷ q) → Front s rq C (ms ++ (m ∷ [])) met q
front-take s rq C ms met e q m f g =
    record {
      cover = λ n h u. ⊎_elim (λ a. inl (a.0, Memᴰ.append_left (m ∷ []) a.1, a.2))
          (λ b. ⊎_elim
          (λ (c : b.0 ≡ e). inl (m, Memᴰ.append_right ms (Memᴰ.head refl), (find-mem e.name s m f).1 ∙ ap (λ (z : Item). z.name) (sym c) ∙ b.2))
          (λ x. inr (b.0, x, b.2)) (Memᴰ.cases_cons b.1))
          (g.cover n h u);
      queued = λ a h. g.queued a (Memᴰ.tail h);
      small = g.small;
    }

-- ---- what a turn does

pub data Turned (in_round : Bool) (s : List Descriptor) (rq : Request) (ms : List Descriptor) (met : List Name) (e : Item) (q : List Item) : State → Type 0 where
  skipped : is_permitted rq e.name ≡ false → Turned in_round s rq ms met e q (record { resolved = ms; met = met; queue = q })
  took : (m : Descriptor) (met₂ : List Name) (q₂ : List Item) → is_permitted rq e.name ≡ true → find e.name s ≡ some m
      → least (shared ms m) ≡ none
      → enqueue in_round s rq (required (index_of m.name s)) m.requires 0 met q ≡ enqueued met₂ q₂
      → Turned in_round s rq ms met e q (record { resolved = ms ++ (m ∷ []); met = met₂; queue = q₂ })

module _ (in_round : Bool) (s : List Descriptor) (rq : Request) (ms : List Descriptor) (met : List Name) (e : Item) (q : List Item) (t : State) where
  handled-inv : (m : Descriptor) → is_permitted rq e.name ≡ true → find e.name s ≡ some m → least (shared ms m) ≡ none
      → (r : Enqueued) → enqueue in_round s rq (required (index_of m.name s)) m.requires 0 met q ≡ r → handled (ms ++ (m ∷ [])) r ≡ go t → Turned in_round s rq ms met e q t
  unfolding handled
  handled-inv m p f l (missing n o) k h = fail≠go h
  handled-inv m p f l (enqueued met₂ q₂) k h = subst (λ (z : State). Turned in_round s rq ms met e q z) (cc) (took m met₂ q₂ p f l k)

  tested-inv : (m : Descriptor) → is_permitted rq e.name ≡ true → find e.name s ≡ some m
      → (o : Option Name) → least (shared ms m) ≡ o → tested in_round s rq ms m met q o ≡ go t → Turned in_round s rq ms met e q t
  unfolding tested
  tested-inv m p f (some x) l h = fail≠go h
  tested-inv m p f none l h = handled-inv m p f l _ refl h

  found-inv : is_permitted rq e.name ≡ true → (o : Option Descriptor) → find e.name s ≡ o → found in_round s rq e ms met q o ≡ go t
      → Turned in_round s rq ms met e q t
  unfolding found
  found-inv p none f h = fail≠go h
  found-inv p (some m) f h = tested-inv m p f (least (shared ms m)) refl h

  pub passed-inv : (b : Bool) → is_permitted rq e.name ≡ b → passed in_round s rq e ms met q b ≡ go t → Turned in_round s rq ms met e q t
  unfolding passed
  passed-inv false p h = subst (λ (z : State). Turned in_round s rq ms met e q z) (cc) (skipped p)
  passed-inv true p h = found-inv p (find e.name s) refl h

-- a test of packages that finds none
least-none : (l : List Name) → least l ≡ none → l ≡ []
unfolding least
least-none [] e = refl
least-none (x ∷ xs) e = turned (least xs) e
  where
    turned : (o : Option Name) → lesser x o ≡ none → (x ∷ xs) ≡ []
    turned none h = absurd (let z : ◌≡◌ {A = ℕ} 0 1 = cc in omega arith)
    turned (some y) h = absurd (let z : ◌≡◌ {A = ℕ} 0 1 = cc in omega arith)

pub none-shared : (ms : List Descriptor) (m k : Descriptor) (p : Name) → least (shared ms m) ≡ none → Mem k ms → Mem p m.packages
    → Mem p k.packages → ⊥
unfolding shared
none-shared ms m k p l h a b =
    let test : Name → Bool = (λ x. any (λ (o : Descriptor). mem_name x o.packages) ms) in
    let inside : Mem p (keep test m.packages) = keep_in test a (any_in (λ (o : Descriptor). mem_name p o.packages) h (mem_name_in b)) in
    Memᴰ.not-nil (subst (λ (z : List Name). Mem p z) (least-none (keep test m.packages) l) inside)

-- ---- a turn keeps the invariant

module _ (s : List Descriptor) (rq : Request) (C : Name → Type 0) (closed : Closed s rq C) (in_round : Bool) where
  keeps-turned : (ms : List Descriptor) (met : List Name) (e : Item) (q : List Item) (t : State)
      → Invariant s rq C (record { resolved = ms; met = met; queue = e ∷ q }) → Turned in_round s rq ms met e q t → Invariant s rq C t
  keeps-turned ms met e q t i (skipped p) =
      record {
        front = record {
          cover = λ n h k. ⊎_elim (λ a. inl a)
              (λ b. ⊎_elim
              (λ (c : b.0 ≡ e). true≠false k (subst (λ (z : Name). is_permitted rq z ≡ false) (ap (λ (z : Item). z.name) (sym c) ∙ b.2) p))
              (λ m. inr (b.0, m, b.2)) (Memᴰ.cases_cons b.1))
              (i.front.cover n h k);
          queued = λ a h. i.front.queued a (Memᴰ.tail h);
          small = i.front.small;
        };
        sound = i.sound;
        base = i.base;
        roots = i.roots;
        reqs = i.reqs;
        apart = i.apart;
      }
  keeps-turned ms met e q t i (took m met₂ q₂ p f l k) =
      record {
        front = enqueue-front s rq C all in_round by_of m.requires 0 met q met₂ q₂ in_c before k;
        sound = λ a h. ⊎_elim (λ x. ((i.sound a x).0, (i.sound a x).1, grow a.name (i.sound a x).2)) (λ x. subst Sound (sym (Memᴰ.eq_of_singleton x)) mine) (Memᴰ.append_cases ms h);
        base = grow java_base i.base;
        roots = λ n h. grow n (i.roots n h);
        reqs = λ a r h u v. ⊎_elim (λ x. grow r.name (i.reqs a r x u v))
            (λ x. enqueue-all in_round s rq by_of m.requires 0 met q met₂ q₂ r k (subst (λ (z : Descriptor). Mem r z.requires) (Memᴰ.eq_of_singleton x) u) v)
            (Memᴰ.append_cases ms h);
        apart = λ a b x ha hb pa pb. ⊎_elim
            (λ oa. ⊎_elim (λ ob. i.apart a b x oa ob pa pb)
            (λ nb. absurd (none-shared ms m a x l oa (at b x nb pb) pa)) (Memᴰ.append_cases ms hb))
            (λ na. ⊎_elim (λ ob. absurd (none-shared ms m b x l ob (at a x na pa) pb))
            (λ nb. Memᴰ.eq_of_singleton na ∙ sym (Memᴰ.eq_of_singleton nb)) (Memᴰ.append_cases ms hb))
            (Memᴰ.append_cases ms ha);
      }
    where
      all : List Descriptor
      all = ms ++ (m ∷ [])

      by_of : ℕ → QueuedBy
      by_of = required (index_of m.name s)

      name-is : m.name ≡ e.name
      name-is = (find-mem e.name s m f).1

      Sound : Descriptor → Type 0
      Sound a = (find a.name s ≡ some a) × (is_permitted rq a.name ≡ true) × (mem_name a.name met₂ ≡ true)

      grow : (n : Name) → mem_name n met ≡ true → mem_name n met₂ ≡ true
      grow n h = enqueue-mono in_round s rq by_of m.requires 0 met q met₂ q₂ n k h

      now : mem_name e.name met ≡ true
      now = i.front.queued e (Memᴰ.head refl)

      mine : Sound m
      mine = subst (λ (z : Name). (find z s ≡ some m) × (is_permitted rq z ≡ true) × (mem_name z met₂ ≡ true)) (sym name-is) (f, p, grow e.name now)

      at : (a : Descriptor) (x : Name) → Mem a (m ∷ []) → Mem x a.packages → Mem x m.packages
      at a x h u = subst (λ (z : Descriptor). Mem x z.packages) (Memᴰ.eq_of_singleton h) u

      in_c : (r : Requirement) (o : Descriptor) → Mem r m.requires → leads rq r ≡ true → is_permitted rq r.name ≡ true → find r.name s ≡ some o → C r.name
      in_c r o h x u v = closed.requirement e.name m r o (i.front.small e.name m now p f) f h x u v

      before : Front s rq C all met q
      before = front-take s rq C ms met e q m f i.front

  keeps-taken : (ms : List Descriptor) (met : List Name) (q : List Item) (t : State)
      → Invariant s rq C (record { resolved = ms; met = met; queue = q })
      → taken in_round s rq ms met q ≡ go t → Invariant s rq C t
  unfolding taken
  keeps-taken ms met [] t i h = stop≠go h
  keeps-taken ms met (e ∷ q) t i h = keeps-turned ms met e q t i (passed-inv in_round s rq ms met e q t (is_permitted rq e.name) refl h)

  pub keeps : (st t : State) → Invariant s rq C st → turn in_round s rq st ≡ go t → Invariant s rq C t
  unfolding turn
  keeps st t i h = keeps-taken st.resolved st.met st.queue t i h
