-- What each function around the resolver returns.
use mathlib.Core.Path.{◌≡◌, refl, sym, ap, ◌∙◌, subst}
use mathlib.Core.Bool.{Bool, true, false, ◌&&◌, ◌||◌, and-false, or-false}
use mathlib.Core.List.{List, ◌++◌, map}
use mathlib.Core.Option.{some}
use Prim.Native.Nat.{ℕ, ◌+◌, ◌^◌, min, ◌≤◌, ◌<◌}
use native.Mathlib.Omega.{arith}
use native.Mathlib.Numerals.{add-one}
use native.Mathlib.Nat.{zero-add}
use lib.Dec.{eqb, ltb}
use lib.ListN.{length, get_or, take, drop, replicate, length-replicate, length-drop, get_or-append, get_or-eq_default}
use lib.Seq.{take-suc, length-take-le, get_or-append-add, take_at}
use borrow.Rule.Slice.PartMut.{put_mid}
use mir.Syntax.{w64}
use mir.Val.{Fits}
use Rattle.std.proofs.lemmas.List.{take_all, take_min}
use borrow.Author.Tests.{ne_eqb, eqb-true, lt-ltb, ltb-true, ltb-false}
use Rattle.records.specs.Descriptor.{Descriptor}
use Rattle.records.specs.Request.{request_of}
use Rattle.records.specs.Set.{check_set, modules}
use Rattle.records.specs.Output.{written}
use Rattle.records.proofs.set.Blocks.{GoodSet, good-set}
use Rattle.records.proofs.Logic.{by, true≠false}
use Rattle.resolution.specs.Lists.{Mem, any}
use Rattle.resolution.specs.Resolution.{find, has_module}
use Rattle.resolution.specs.Positions.{module_at, is_visible}
use Rattle.resolution.specs.Row.{holds, one, Added}
use Rattle.resolution.specs.Graph.{ninth, unnamed_edge}
use Rattle.resolution.specs.Configuration.{word_count, with_read}
use Rattle.resolution.specs.Readability.{Members, ReadEdges}
use Rattle.resolution.specs.Resolver.{is_one_of}
use Rattle.resolution.specs.Resolve.{member_at, edge_at, unnamed_at, configuration_of}
use Rattle.resolution.specs.Configure.{MemberRow, Configured}
use Rattle.resolution.proofs.Lists.{any_out, map-out}
use Rattle.resolution.proofs.Positions.{index_at, has-at, visible_in, visible-found, visible_located}
use Rattle.resolution.proofs.Sets.{set-length}
use Rattle.resolution.proofs.Words.{words_are}
use Rattle.resolution.proofs.ConfigurationWords.{rows_are, one_bit, words-written}
use Rattle.resolution.proofs.configuration.Laws.{read-added, read-long}
use Rattle.resolution.proofs.row.Laws.{empty-zeros}
use Rattle.resolution.proofs.resolver.Ends.{one-of-end}
use Rattle.std.specs.Prelude.{Ok}

-- ---- the positions as a row

-- those before k are in the row
pub record MembersAt (order ws : List ℕ) (k : ℕ) : Type 0 where
  pub inside : k ≤ length order
  pub long : length ws ≡ 8
  pub so_far : MemberRow (take k order) ws

pub members-start : (order : List ℕ) → MembersAt order (replicate 8 0) 0
unfolding is_one_of any
members-start order = record { inside = omega arith; long = length-replicate {A = ℕ} 8 0; so_far = record { each = λ k. (empty-zeros 8).none k ∙ sym (and-false (ltb k 512)) } }

module _ (order ws : List ℕ) (k : ℕ) (h : MembersAt order ws k) where
  pub members-more : (after : List ℕ) → k < length order → after ≡ with_read ws (get_or order k 0) → MembersAt order after (k + 1)
  members-more after m e = record {
    inside = omega arith;
    long = read-long ws (get_or order k 0) after h.long e;
    so_far = record { each = λ j. by (ltb (get_or order k 0) 512) (λ y. below j (ltb-true (get_or order k 0) 512 y)) (λ y. above j (ltb-false (get_or order k 0) 512 y)) ∙ sym (more j) };
  }
    where
      p : ℕ
      p = get_or order k 0

      a : Added ws p after
      a = read-added ws p after h.long e

      more : (j : ℕ) → ltb j 512 && is_one_of j (take (k + 1) order) ≡ ltb j 512 && (is_one_of j (take k order) || eqb j p)
      more j = ap (λ (b : Bool). ltb j 512 && b)
          (ap (λ (i : ℕ). is_one_of j (take i order)) (add-one k) ∙ ap (is_one_of j) (take-suc order k 0 m) ∙ one-of-end j p (take k order))

      outer : (a b c : Bool) → (c ≡ true → a ≡ true) → ((a && b) || c) ≡ (a && (b || c))
      outer true b c g = refl
      outer false b true g = true≠false (g refl) refl
      outer false b false g = refl

      below : (j : ℕ) → p < 512 → holds after j ≡ ltb j 512 && (is_one_of j (take k order) || eqb j p)
      below j y = a.below y j ∙ ap (λ (b : Bool). b || eqb j p) (h.so_far.each j)
          ∙ outer (ltb j 512) (is_one_of j (take k order)) (eqb j p) (λ z. lt-ltb j 512 (omega (arith, eqb-true j p z)))

      inner : (a b c : Bool) → (a ≡ true → c ≡ false) → (a && b) ≡ (a && (b || c))
      inner true b c g = sym (rw (g refl) (or-false b))
      inner false b c g = refl

      above : (j : ℕ) → 512 ≤ p → holds after j ≡ ltb j 512 && (is_one_of j (take k order) || eqb j p)
      above j y = ap (λ (l : List ℕ). holds l j) (a.above y) ∙ h.so_far.each j
          ∙ inner (ltb j 512) (is_one_of j (take k order)) (eqb j p) (λ z. ne_eqb j p (λ i. absurd (omega (arith, ltb-true j 512 z))))

  pub members-end : length order ≤ k → MemberRow order ws
  members-end l = subst (λ (ps : List ℕ). MemberRow ps ws) (take_all k order l) h.so_far

-- the first n are all, where there are no more than n
pub members-of : (order ws : List ℕ) (n m k : ℕ) → m ≡ min n (length order) → MembersAt (take m order) ws k → length (take m order) ≤ k → MemberRow (take n order) ws
members-of order ws n m k e h l = subst (λ (ps : List ℕ). MemberRow ps ws) (ap (λ (i : ℕ). take i order) e ∙ take_min n order) (members-end (take m order) ws k h l)

pub ruleset members-laws = (members-start, members-more, members-of)

-- ---- the configuration

-- the row of the positions has the modules at them
module _ (s : List Descriptor) (few : length s ≤ 512) (ps ws : List ℕ) (h : MemberRow ps ws) (within : (p : ℕ) → Mem p ps → is_visible s p ≡ true) where
  none_hidden : (k : ℕ) → is_visible s k ≡ false → is_one_of k ps ≡ false
  unfolding is_one_of
  none_hidden k f = by (any (eqb k) ps)
      (λ y. let r = any_out (eqb k) ps y in true≠false (subst (λ (x : ℕ). is_visible s x ≡ true) (sym (eqb-true k r.0 r.2)) (within r.0 r.1)) f)
      (λ y. y)

  member-here : (k : ℕ) → is_visible s k ≡ true → is_one_of k ps ≡ has_module (map (module_at s) ps) (module_at s k).name
  unfolding is_one_of
  member-here k v = sym (has-at s (module_at s k).name (visible_located s k v).observable ps within ∙ ap (λ (i : ℕ). any (eqb i) ps) (index_at s k v))

  pub row-members : Members s ws (map (module_at s) ps)
  unfolding member_at
  row-members = record {
    each = λ k. h.each k ∙ by (is_visible s k)
        (λ y. rw (y, lt-ltb k 512 (omega (arith, visible_in s k y)), member-here k y))
        (λ y. rw (y, none_hidden k y) (and-false (ltb k 512)));
    sound = λ m i. let r = map-out (module_at s) ps i in
        subst (λ (x : Descriptor). find x.name s ≡ some x) (sym r.2) (visible-found s r.0 (within r.0 r.1));
  }

pub rows-length : (ws : List ℕ) → 4616 ≤ length ws → length (take 4608 (drop 8 ws)) ≡ 4608
rows-length ws h = length-take-le 4608 (drop 8 ws) (omega (arith, length-drop 8 ws))

-- each word of the rows is one of the words, and so is each of the members
rows_fit : (between rows : List ℕ) → 8 ≤ length between → ((i : ℕ) → Fits w64 (get_or (put_mid 8 4608 between rows) i 0)) → (i : ℕ) → get_or rows i 0 < 2 ^ 64
rows_fit between rows h f i = by (ltb i (length rows))
    (λ q. let l : i < length rows = ltb-true i (length rows) q in
    subst (λ (x : ℕ). x < 2 ^ 64)
    (ap (λ (x : ℕ). get_or (put_mid 8 4608 between rows) (x + i) 0) (sym (length-take-le 8 between h))
    ∙ get_or-append-add (take 8 between) (rows ++ drop 4608 (drop 8 between)) i 0 ∙ get_or-append rows (drop 4608 (drop 8 between)) 0 i l)
    (f (8 + i)).fits)
    (λ q. omega (arith, get_or-eq_default rows 0 {n = i} (ltb-false i (length rows) q)))

members-fit : (before members between rows : List ℕ) → length members ≡ 8 → between ≡ written before 0 members
    → ((i : ℕ) → Fits w64 (get_or (put_mid 8 4608 between rows) i 0)) → (i : ℕ) → get_or members i 0 < 2 ^ 64
unfolding written
members-fit before members between rows m e f i = by (ltb i 8)
    (λ q. let l : i < 8 = ltb-true i 8 q in
    subst (λ (x : ℕ). x < 2 ^ 64)
    (get_or-append (take 8 between) (rows ++ drop 4608 (drop 8 between)) 0 i (omega (arith, front))
    ∙ ap (λ (l : List ℕ). get_or l i 0) (ap (take 8) e ∙ take_at members (drop (0 + length members) before) 8 m))
    (f i).fits)
    (λ q. omega (arith, get_or-eq_default members 0 {n = i} (omega (arith, m, ltb-false i 8 q))))
  where
    front : length (take 8 between) ≡ 8
    front = ap length (ap (take 8) e ∙ take_at members (drop (0 + length members) before) 8 m) ∙ m

-- the words written are those of the modules at the positions
pub configure_is : (s q : List ℕ) (n : ℕ) (t : List ℕ) → check_set s ≡ Ok (record { count = n; starts = t })
    → (ps members rows before between : List ℕ) → word_count ≤ length before → length between ≡ length before → length members ≡ 8
    → length rows ≡ length (take 4608 (drop 8 between)) → ((i : ℕ) → Fits w64 (get_or (put_mid 8 4608 between rows) i 0))
    → MemberRow ps members → between ≡ written before 0 members → ReadEdges s q members rows
    → Configured s q n ps before (put_mid 8 4608 between rows)
unfolding configuration_of unnamed_edge
configure_is s q n t e ps members rows before between enough same lm long fits hm eb hr = record {
  is = λ ms em w.
      let g : GoodSet s n t = good-set s n t e in
      let k : length (modules s) ≡ n = set-length s n t g in
      let lr : length rows ≡ 4608 = long ∙ rows-length between (omega (arith, enough, same)) in
      let own : Members (modules s) members ms
      = subst (Members (modules s) members) (sym em)
      (row-members (modules s) (omega (arith, k, g.few)) ps members hm w) in
      let p : ℕ → Bool = member_at (modules s) ms in
      let d : ℕ → ℕ → Bool = edge_at (modules s) (request_of q) ms in
      let u : ℕ → Bool = unnamed_at (modules s) (request_of q) ms in
      ap (λ (l : List ℕ). put_mid 8 4608 l rows) eb
      ∙ words-written p d u before members rows enough lm
      (words_are p members 8 lm (members-fit before members between rows lm eb fits) (λ i _. own.each i))
      (rows_are d u 512 0 rows (omega (arith, lr)) (rows_fit between rows (omega (arith, enough, same)) fits)
      (λ a j _ _. hr.edges ms own a j ∙ ap (λ (x : ℕ). d x j) (sym (zero-add a)))
      (λ a _. one_bit (ninth rows a) (hr.small a) ∙ ap one (hr.named ms own a ∙ ap u (sym (zero-add a)))));
}

pub configure_room : (before between : List ℕ) → word_count ≤ length before → length between ≡ length before → 4616 ≤ length between
configure_room before between h e = omega (arith, e)

pub configure_front : (before : List ℕ) → word_count ≤ length before → 0 + 8 ≤ length before
configure_front before h = omega arith
