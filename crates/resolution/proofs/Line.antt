-- The queue of names seen as a line of modules, and that queueing a row of requirements is the same in both.
use mathlib.Core.Path.{◌≡◌, refl, sym, ap, ◌∙◌, subst}
use Prim.Native.Nat.{ℕ, suc}
use native.Mathlib.Omega.{arith}
use borrow.Author.Tests.{not-true}
use mathlib.Core.Bool.{Bool, true, false, not, ◌&&◌, ◌||◌}
use mathlib.Core.Option.{Option, none, some}
use mathlib.Core.List.Memᴰ
use mathlib.Core.List.{List, [], ◌∷◌, ◌++◌}
use mathlib.Core.Logic.{◌⊎◌, inl, inr, ⊎_elim}
use Rattle.records.specs.Bytes.{same_bytes}
use Rattle.records.specs.Descriptor.{Descriptor, Requirement}
use Rattle.records.specs.Name.{mem_name}
use Rattle.records.specs.Request.{Request, is_permitted}
use Rattle.records.proofs.Logic.{and_both, and_left, and_right, by, not_of_false, or_cases, or_left, or_right, true≠false}
use Rattle.resolution.specs.Closed.{Member}
use Rattle.resolution.specs.Lists.{Mem, Name, any}
use Rattle.resolution.specs.Resolution.{Choice, Enqueued, Item, QueuedBy, add, choose, enqueue, enqueue_next, enqueued, find, has_module, missing, pass, refuse, leads}
use Rattle.resolution.specs.Short.{Line, Lined, empty, fault, is_met, line_of, lined, push, pushed, put, short_enqueue, short_next}
use Rattle.resolution.proofs.Enqueue.{item, met-old}
use Rattle.resolution.proofs.Find.{find-mem}
use Rattle.resolution.proofs.Lists.{any_in, any_out, same→, →same}
use Rattle.resolution.proofs.Queue.{Front, InQueue, front-add}

abbrev pub Whatever : Name → Type 0
Whatever n = Unit {0}

-- a name at the front and one at the end of the line may come in either order
put-pushed : (b : Bool) (o : Option Descriptor) (x : Item) (h : Option Item) (t : List Descriptor) (c : Bool) (p : Option Descriptor) (e : Item)
    → put b o x (pushed h t c p e) ≡ push (put b o x (record { todo = t; halt = h })) c p e
unfolding put pushed push
put-pushed false o x h t c p e = refl
put-pushed true none x h t c p e = refl
put-pushed true (some m) x (some y) t c p e = refl
put-pushed true (some m) x none t false p e = refl
put-pushed true (some m) x none t true none e = refl
put-pushed true (some m) x none t true (some k) e = refl

pub put-empty : (b : Bool) (o : Option Descriptor) (e : Item) → put b o e empty ≡ push empty b o e
unfolding put push pushed empty
put-empty false o e = refl
put-empty true none e = refl
put-empty true (some m) e = refl

module _ (s : List Descriptor) (rq : Request) where
  pub line-append : (q : List Item) (e : Item) → line_of s rq (q ++ (e ∷ [])) ≡ push (line_of s rq q) (is_permitted rq e.name) (find e.name s) e
  unfolding line_of
  line-append [] e = put-empty (is_permitted rq e.name) (find e.name s) e
  line-append (x ∷ q) e =
      ap (put (is_permitted rq x.name) (find x.name s) x) (line-append q e)
      ∙ (unfold push in put-pushed (is_permitted rq x.name) (find x.name s) x (line_of s rq q).halt (line_of s rq q).todo (is_permitted rq e.name) (find e.name s) e)

  -- a module that waits was queued by its name
  pub line-from : (q : List Item) (m : Descriptor) → Mem m (line_of s rq q).todo → InQueue q m.name
  unfolding line_of empty
  line-from [] m h = absurd (Memᴰ.not-nil h)
  line-from (e ∷ q) m h = turned (is_permitted rq e.name) (find e.name s) refl h (line-from q m)
    where
      up : InQueue q m.name → InQueue (e ∷ q) m.name
      up r = (r.0, Memᴰ.tail r.1, r.2)

      turned : (b : Bool) (o : Option Descriptor) → find e.name s ≡ o → Mem m (put b o e (line_of s rq q)).todo
          → (Mem m (line_of s rq q).todo → InQueue q m.name) → InQueue (e ∷ q) m.name
      turned false o f k below = up (below k)
      turned true none f k below = absurd (Memᴰ.not-nil k)
      turned true (some x) f k below = ⊎_elim
          (λ (c : m ≡ x). (e, Memᴰ.head refl, sym (find-mem e.name s x f).1 ∙ ap (λ (z : Descriptor). z.name) (sym c)))
          (λ y. up (below y)) (Memᴰ.cases_cons k)

  -- a permitted name that is queued waits, or the line has a halt
  pub line-has : (q : List Item) (x : Item) → Mem x q → is_permitted rq x.name ≡ true
      → ((y : Item) × ((line_of s rq q).halt ≡ some y)) ⊎ (has_module (line_of s rq q).todo x.name ≡ true)
  unfolding line_of has_module any
  line-has [] x h p = absurd (Memᴰ.not-nil h)
  line-has (e ∷ q) x h p = turned (is_permitted rq e.name) (find e.name s) refl refl (line-has q x)
    where
      Goal : Bool → Option Descriptor → Type 0
      Goal b o = ((y : Item) × ((put b o e (line_of s rq q)).halt ≡ some y)) ⊎ (has_module (put b o e (line_of s rq q)).todo x.name ≡ true)

      turned : (b : Bool) (o : Option Descriptor) → is_permitted rq e.name ≡ b → find e.name s ≡ o
          → (Mem x q → is_permitted rq x.name ≡ true → ((y : Item) × ((line_of s rq q).halt ≡ some y)) ⊎ (has_module (line_of s rq q).todo x.name ≡ true)) → Goal b o
      turned false o c f below = ⊎_elim
          (λ (k : x ≡ e). true≠false p (subst (λ (z : Item). is_permitted rq z.name ≡ false) (sym k) c))
          (λ k. below k p) (Memᴰ.cases_cons h)
      turned true none c f below = inl (e, refl)
      turned true (some m) c f below = ⊎_elim
          (λ (k : x ≡ e). inr (or_left (same_bytes m.name x.name) _ (→same (ap (λ (z : Item). z.name) k ∙ sym (find-mem e.name s m f).1))))
          (λ k. ⊎_elim (λ y. inl y) (λ y. inr (or_right (same_bytes m.name x.name) _ y)) (below k p)) (Memᴰ.cases_cons h)

pushed_none : (h : Option Item) (t : List Descriptor) (b : Bool) (o : Option Descriptor) (e : Item) → (b ≡ false) ⊎ ((y : Item) × (h ≡ some y))
    → pushed h t b o e ≡ record { todo = t; halt = h }
unfolding pushed
pushed_none (some y) t b o e w = refl
pushed_none none t false o e w = refl
pushed_none none t true o e (inl w) = true≠false refl w
pushed_none none t true o e (inr w) = absurd (let z : ◌≡◌ {A = ℕ} 0 1 = (let k : none ≡ some w.0 = w.1 in cc) in omega arith)

-- what the two queueings rest on
pub record Ready (in_round : Bool) (old : Name → Bool) (s : List Descriptor) (rq : Request) (ms : List Descriptor) (met : List Name) (q : List Item) : Type 0 where
  pub front : Front s rq Whatever ms met q
  pub resolved_met : (m : Descriptor) → Mem m ms → mem_name m.name met ≡ true
  pub past : in_round ≡ true → (n : Name) → has_module s n ≡ false → mem_name n met ≡ old n

-- what is not met is neither resolved nor waiting, nor was it met before
not-met : (in_round : Bool) (old : Name → Bool) (s : List Descriptor) (rq : Request) (ms : List Descriptor) (met : List Name) (q : List Item) (n : Name)
    → Ready in_round old s rq ms met q → mem_name n met ≡ false → is_met in_round old s ms (line_of s rq q) n ≡ false
unfolding is_met
not-met in_round old s rq ms met q n r h = by (is_met in_round old s ms (line_of s rq q) n) (λ k. true≠false (met_of k) h) (λ k. k)
  where
    l : Line
    l = line_of s rq q

    third : Bool
    third = in_round && (not (has_module s n) && old n)

    met_of : is_met in_round old s ms l n ≡ true → mem_name n met ≡ true
    met_of k = or_cases (has_module ms n) (has_module l.todo n || third) k
        (λ a. unfold has_module in let x = any_out (λ (m : Descriptor). same_bytes m.name n) ms a in subst (λ (z : Name). mem_name z met ≡ true) (sym (same→ n x.0.name x.2)) (r.resolved_met x.0 x.1))
        (λ a. or_cases (has_module l.todo n) third a
        (λ b. unfold has_module in let x = any_out (λ (m : Descriptor). same_bytes m.name n) l.todo b in
        let y = line-from s rq q x.0 x.1 in
        subst (λ (z : Name). mem_name z met ≡ true) (y.2 ∙ sym (same→ n x.0.name x.2)) (r.front.queued y.0 y.1))
        (λ b. r.past (and_left in_round _ b) n (not-true (has_module s n) (and_left (not (has_module s n)) (old n) (and_right in_round _ b))) ∙ and_right (not (has_module s n)) (old n) (and_right in_round _ b)))

-- what is met, and neither resolved nor waiting, changes nothing at the end of the line
push-none : (in_round : Bool) (old : Name → Bool) (s : List Descriptor) (rq : Request) (ms : List Descriptor) (met : List Name) (q : List Item) (n : Name) (o : QueuedBy)
    → Ready in_round old s rq ms met q → mem_name n met ≡ true → is_met in_round old s ms (line_of s rq q) n ≡ false → push (line_of s rq q) (is_permitted rq n) (find n s) (item n o) ≡ line_of s rq q
unfolding push is_met
push-none in_round old s rq ms met q n o r h k = pushed_none (line_of s rq q).halt (line_of s rq q).todo (is_permitted rq n) (find n s) (item n o) (by (is_permitted rq n) (λ p. inr (halted p)) (λ p. inl p))
  where
    l : Line
    l = line_of s rq q

    third : Bool
    third = in_round && (not (has_module s n) && old n)

    Goal : Type 0
    Goal = (y : Item) × (l.halt ≡ some y)

    halted : is_permitted rq n ≡ true → Goal
    halted p = ⊎_elim
        (λ (a : Member ms n). true≠false (or_left (has_module ms n) (has_module l.todo n || third) (unfold has_module in any_in (λ (m : Descriptor). same_bytes m.name n) a.1 (→same (sym a.2)))) k)
        (λ (b : InQueue q n). ⊎_elim (λ y. y)
        (λ y. true≠false (or_right (has_module ms n) (has_module l.todo n || third) (or_left (has_module l.todo n) third (subst (λ (z : Name). has_module l.todo z ≡ true) b.2 y))) k)
        (line-has s rq q b.0 b.1 (subst (λ (z : Name). is_permitted rq z ≡ true) (sym b.2) p)))
        (r.front.cover n h p)

-- in a round, what is absent is met or not as it was before
past-met : (in_round : Bool) (old : Name → Bool) (s : List Descriptor) (rq : Request) (ms : List Descriptor) (met : List Name) (q : List Item) (n : Name)
    → Ready in_round old s rq ms met q → in_round ≡ true → has_module s n ≡ false → mem_name n met ≡ true → is_met in_round old s ms (line_of s rq q) n ≡ false → ⊥
unfolding is_met
past-met in_round old s rq ms met q n r lt ns h k =
    let o : old n ≡ true = sym (r.past lt n ns) ∙ h in
    true≠false (or_right (has_module ms n) _ (or_right (has_module (line_of s rq q).todo n) _ (and_both lt (and_both (not_of_false ns) o)))) k

unfoldable pub view : List Descriptor → Request → Enqueued → Lined
view s rq (missing n o) = fault n o
view s rq (enqueued met q) = lined (line_of s rq q)

-- what is observable, once met, changes nothing of what is absent
pub past-add : (s : List Descriptor) (old : Name → Bool) (n : Name) (met : List Name) → has_module s n ≡ true
    → ((x : Name) → has_module s x ≡ false → mem_name x met ≡ old x) → (x : Name) → has_module s x ≡ false → mem_name x (n ∷ met) ≡ old x
unfolding mem_name
past-add s old n met h past x ns =
    let e : same_bytes n x ≡ false = by (same_bytes n x) (λ k. true≠false h (subst (λ (z : Name). has_module s z ≡ false) (same→ x n k) ns)) (λ k. k) in
    rw e (past x ns)

pub round-observable : (x l b d : Bool) → l ≡ true → choose x l false b d ≡ add → b ≡ true
unfolding choose
round-observable x l true d k w = refl
round-observable false l false d k w = absurd (let z : ◌≡◌ {A = ℕ} 0 1 = cc in omega arith)
round-observable true l false true k w = absurd (let z : ◌≡◌ {A = ℕ} 0 1 = cc in omega arith)
round-observable true true false false k w = absurd (let z : ◌≡◌ {A = ℕ} 0 1 = cc in omega arith)
round-observable true false false false k w = true≠false k refl

-- what is queued keeps what the queueings rest on
ready-add : (in_round : Bool) (old : Name → Bool) (s : List Descriptor) (rq : Request) (ms : List Descriptor) (met : List Name) (q : List Item) (n : Name) (o : QueuedBy) (lead static : Bool)
    → choose lead in_round false (has_module s n) static ≡ add → Ready in_round old s rq ms met q → Ready in_round old s rq ms (n ∷ met) (q ++ (item n o ∷ []))
ready-add in_round old s rq ms met q n o lead static c r =
    record {
      front = front-add s rq Whatever ms n o met q (λ m p f. tt) r.front;
      resolved_met = λ m h. met-old m.name n met (r.resolved_met m h);
      past = λ lt. past-add s old n met (round-observable lead in_round (has_module s n) static lt c) (r.past lt);
    }

module _ (in_round : Bool) (old : Name → Bool) (s : List Descriptor) (rq : Request) (by_of : ℕ → QueuedBy) (ms : List Descriptor) where
  pub short-enqueue-view : (rs : List Requirement) (j : ℕ) (met : List Name) (q : List Item) → Ready in_round old s rq ms met q
      → short_enqueue in_round old s rq by_of ms rs j (line_of s rq q) ≡ view s rq (enqueue in_round s rq by_of rs j met q)
  unfolding short_enqueue enqueue
  short-enqueue-view [] j met q r = unfold view in refl
  short-enqueue-view (x ∷ rs) j met q r =
      turned (mem_name x.name met) (is_met in_round old s ms (line_of s rq q) x.name) refl refl (λ mt w k. short-enqueue-view rs (suc j) mt w k)
    where
      n : Name
      n = x.name

      l : Line
      l = line_of s rq q

      Below : Type 0
      Below = (mt : List Name) (w : List Item) → Ready in_round old s rq ms mt w → short_enqueue in_round old s rq by_of ms rs (suc j) (line_of s rq w) ≡ view s rq (enqueue in_round s rq by_of rs (suc j) mt w)

      left : Choice → Lined
      left c = short_next rq s c n (by_of j) l (λ l₂. short_enqueue in_round old s rq by_of ms rs (suc j) l₂)

      right : Choice → Lined
      right c = view s rq (enqueue_next c n (by_of j) met q (λ m₂ q₂. enqueue in_round s rq by_of rs (suc j) m₂ q₂))

      -- the same choice
      same : (c : Choice) → choose (leads rq x) in_round false (has_module s n) x.static ≡ c → Below → left c ≡ right c
      same pass e below = below met q r
      same add e below = rw (← (line-append s rq q (item n (by_of j)))) (below (n ∷ met) (q ++ (item n (by_of j) ∷ [])) (ready-add in_round old s rq ms met q n (by_of j) (leads rq x) x.static e r))
      same refuse e below = unfold view in refl

      -- met, and neither resolved nor waiting
      idle : (y lt ns st : Bool) → in_round ≡ lt → has_module s n ≡ ns → mem_name n met ≡ true → is_met in_round old s ms l n ≡ false → Below
          → left (choose y lt false ns st) ≡ right pass
      idle false lt ns st u v h k below = below met q r
      idle true lt true st u v h k below = rw (push-none in_round old s rq ms met q n (by_of j) r h k) (below met q r)
      idle true lt false true u v h k below = below met q r
      idle true true false false u v h k below = absurd (past-met in_round old s rq ms met q n r u v h k)
      idle true false false false u v h k below = rw (push-none in_round old s rq ms met q n (by_of j) r h k) (below met q r)

      turned : (a b : Bool) → mem_name n met ≡ a → is_met in_round old s ms l n ≡ b → Below
          → left (choose (leads rq x) in_round b (has_module s n) x.static) ≡ right (choose (leads rq x) in_round a (has_module s n) x.static)
      turned true true h k below = below met q r
      turned true false h k below = idle (leads rq x) in_round (has_module s n) x.static refl refl h k below
      turned false true h k below = true≠false k (not-met in_round old s rq ms met q n r h)
      turned false false h k below = same (choose (leads rq x) in_round false (has_module s n) x.static) refl below
