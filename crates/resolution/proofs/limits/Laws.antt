-- The names of the request's LM in order.
use Prim.Native.Nat.{ℕ, zero, suc, ◌+◌, ◌-◌, ◌^◌, ◌≤◌, ◌<◌}
use mathlib.Core.Path.{◌≡◌, refl, sym, ◌∙◌, ap, subst}
use mathlib.Core.Bool.{Bool, true, ◌||◌, or-true}
use mathlib.Core.List.{List, [], ◌∷◌, map}
use native.Mathlib.Omega.{arith}
use lib.Dec.{ltb, leb}
use lib.ListN.{length, get_or, take, drop, length-drop, length-take}
use lib.Seq.{drop-drop, take-take}
use borrow.Author.Tests.{leb-true}
use Rattle.records.specs.Bytes.{same_bytes, u16_at}
use Rattle.records.specs.Name.{java_base, printable, name_of, after_name, is_field, is_name, is_names, is_list, names_of, list_of, mem_name}
use Rattle.std.specs.Prelude.{Some, None}
use Rattle.records.specs.Order.{name_in, is_ordered, NamesInserted}
use Rattle.records.specs.Record.{bodies, next_of}
use Rattle.records.specs.Request.{limit_of, request_of, within_limit, is_permitted}
use Rattle.records.specs.declared.record.Kind.TheVariants as Kind
use Rattle.records.specs.Record.{Next}
use Rattle.records.proofs.Logic.{and_left, and_right, clash}
use Rattle.records.proofs.order.Laws.{drop-take}
use Rattle.records.proofs.order.Ordered.{from-mem}
use Rattle.records.proofs.record.Bodies.{bodies-next, bodies-end}
use Rattle.resolution.specs.Lists.{Name}
use Rattle.resolution.specs.Known.{Limited, LimitTold}
use Rattle.resolution.proofs.modules.Shared.{take-few}
use Rattle.std.specs.Prelude.{Some, None, is_some}
use Rattle.records.specs.declared.record.Span.{Span}

-- ---- names that end where their list does

first-same : (m : ℕ) (u : List ℕ) → 1 ≤ length (take m u) → get_or (take m u) 0 0 ≡ get_or u 0 0
first-same zero u l = absurd (omega (arith, l))
first-same (suc m) [] l = refl
first-same (suc m) (x ∷ u) l = refl

take-most : (m : ℕ) (u : List ℕ) → length (take m u) ≤ m
take-most m u = rw length-take (omega arith)

-- what stands behind them is not read
names_same : (k m : ℕ) (u : List ℕ) → is_names k (take m u) ≡ true → names_of k (take m u) ≡ names_of k u
unfolding names_of is_names is_name is_field name_of after_name
names_same zero m u h = refl
names_same (suc k) m u h =
    let t : List ℕ = take m u in
    let l : 1 + get_or t 0 0 ≤ length t =
    leb-true (1 + get_or t 0 0) (length t)
    (and_left (leb (1 + get_or t 0 0) (length t)) (printable (name_of t))
    (and_right (ltb 0 (get_or t 0 0)) (is_field t) (and_left (is_name t) (is_names k (after_name t)) h))) in
    let f : get_or t 0 0 ≡ get_or u 0 0 = first-same m u (omega (arith, l)) in
    let name : take (get_or t 0 0) (drop 1 t) ≡ take (get_or t 0 0) (drop 1 u) =
    ap (take (get_or t 0 0)) (drop-take 1 m u) ∙ take-take (get_or t 0 0) (m - 1) (drop 1 u) (omega (arith, l, take-most m u)) in
    let rest : drop (1 + get_or t 0 0) t ≡ take (m - (1 + get_or t 0 0)) (drop (1 + get_or t 0 0) u) = drop-take (1 + get_or t 0 0) m u in
    let more : is_names k (take (m - (1 + get_or t 0 0)) (drop (1 + get_or t 0 0) u)) ≡ true = rw rest at (and_right (is_name t) (is_names k (after_name t)) h) in
    ap (λ (x : List ℕ). x ∷ names_of k (drop (1 + get_or t 0 0) t)) name
    ∙ ap (λ (x : List ℕ). take (get_or t 0 0) (drop 1 u) ∷ names_of k x) rest
    ∙ ap (λ (x : List (List ℕ)). take (get_or t 0 0) (drop 1 u) ∷ x) (names_same k (m - (1 + get_or t 0 0)) (drop (1 + get_or t 0 0) u) more)
    ∙ ap (λ (g : ℕ). take g (drop 1 u) ∷ names_of k (drop (1 + g) u)) f

-- ---- whether there is an LM

module _ (s : List ℕ) (r : Next) (er : r ≡ next_of Kind.LimitModules s 0) where
  pub limited_told : (q : Bool) → q ≡ is_some r → Limited s q
  unfolding is_permitted request_of limit_of within_limit
  limited_told q eq = go r refl
    where
      go : (x : Next) → r ≡ x → Limited s q
      go (Some span) e = record { free = λ z. clash (let w : q ≡ true = eq ∙ ap is_some e in cc) }
      go None e = record { free = λ z x. rw (bodies-end Kind.LimitModules s 0 r er e) (or-true (same_bytes x java_base)) }

  -- ---- its names

  module _ (span : Span) (e : r ≡ Some span) (b : List ℕ) (eb : b ≡ take span.len (drop span.start s)) (t : Bool) (et : t ≡ is_list b) (k : t ≡ true) where
    long : 2 ≤ length (take span.len (drop span.start s))
    unfolding is_list
    long = rw eb at (leb-true 2 (length b) (and_left (leb 2 (length b)) (is_names (u16_at b 0) (drop 2 b)) (sym et ∙ k)))

    inside : span.start + 2 ≤ length s
    inside = omega (arith, long, take-few span.len (drop span.start s), length-drop span.start s)

    pub limits-from : length s ≤ 65535 → span.start + 2 ≤ 65535
    limits-from h = omega (arith, inside, h)

    pub limits-fits : length s ≤ 65535 → span.start + 2 < 2 ^ 64
    limits-fits h = omega (arith, inside, h)

    list-is : list_of b ≡ names_of (u16_at b 0) (drop (span.start + 2) s)
    unfolding list_of is_list
    list-is =
        let cut : drop 2 b ≡ take (span.len - 2) (drop (span.start + 2) s) = ap (drop 2) eb ∙ drop-take 2 span.len (drop span.start s) ∙ ap (take (span.len - 2)) (drop-drop 2 span.start s) in
        let good : is_names (u16_at b 0) (take (span.len - 2) (drop (span.start + 2) s)) ≡ true =
        rw cut at (and_right (leb 2 (length b)) (is_names (u16_at b 0) (drop 2 b)) (sym et ∙ k)) in
        ap (names_of (u16_at b 0)) cut ∙ names_same (u16_at b 0) (span.len - 2) (drop (span.start + 2) s) good

    pub limits-told : (n : ℕ) → n ≡ u16_at b 0 → (before table : List ℕ) (count : ℕ) → n ≤ length before → count ≤ n
        → NamesInserted s (names_of n (drop (span.start + 2) s)) before table 0 count → LimitTold s table (Some count)
    unfolding is_permitted request_of limit_of within_limit mem_name
    limits-told n en before table count w few j = record {
      room = λ m z. let q : count ≡ m = cc in omega (arith, w, few, j.long);
      sorted = λ m z. let q : count ≡ m = cc in subst (λ (i : ℕ). is_ordered (map (name_in s) (take i table)) ≡ true) q j.sorted;
      permits = λ m z. let q : count ≡ m = cc in subst (λ (i : ℕ). (x : Name) → (same_bytes x java_base || mem_name x (map (name_in s) (take i table))) ≡ is_permitted (request_of s) x) q permits;
    }
      where
        permits : (x : Name) → (same_bytes x java_base || mem_name x (map (name_in s) (take count table))) ≡ is_permitted (request_of s) x
        permits x =
            let f : bodies Kind.LimitModules s ≡ take span.len (drop span.start s) ∷ bodies Kind.LimitModules (drop span.next.at s) = bodies-next Kind.LimitModules s 0 r er span.start span.len span.next e (omega arith) in
            let m : mem_name x (map (name_in s) (take count table)) ≡ mem_name x (list_of b) =
            ap (mem_name x) j.names_are ∙ from-mem x [] (names_of n (drop (span.start + 2) s)) ∙ ap (mem_name x) (ap (λ (i : ℕ). names_of i (drop (span.start + 2) s)) en ∙ sym list-is) in
            rw (f, ← eb, m)

pub limits-unknown : (s table : List ℕ) → LimitTold s table None
limits-unknown s table = record { room = λ n z. clash (cc); sorted = λ n z. clash (cc); permits = λ n z. clash (cc) }

pub ruleset limits-laws = (limits-from, limits-fits, limits-told, limits-unknown)
