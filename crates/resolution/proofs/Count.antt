-- The number of ones in the member words is the number of modules resolved.
use mathlib.Core.Path.{◌≡◌, refl, sym, ap, ◌∙◌, subst}
use Prim.Native.Nat.{ℕ, zero, suc, ◌≤◌, ◌<◌}
use native.Mathlib.Omega.{arith}
use mathlib.Core.Bool.{Bool, true, false, ◌&&◌, ◌||◌}
use mathlib.Core.List.{List, [], ◌∷◌, ◌++◌, map}
use lib.Dec.{eqb}
use lib.ListN.{length, length-map}
use borrow.Author.Tests.{eqb-true, ne_eqb}
use Rattle.records.specs.Descriptor.{Descriptor}
use Rattle.records.specs.Request.{request_of, is_permitted}
use Rattle.records.specs.Set.{modules, check_set}
use Rattle.records.proofs.set.Blocks.{GoodSet, good-set}
use Rattle.records.proofs.Logic.{by, true≠false}
use Rattle.resolution.specs.Lists.{Mem, any}
use Rattle.resolution.specs.Loop.{done}
use Rattle.resolution.specs.Positions.{module_at, is_visible}
use Rattle.resolution.specs.Resolution.{State, has_module, resolve}
use Rattle.resolution.specs.Configuration.{member_words}
use Rattle.resolution.specs.Resolve.{configuration_of, member_at, edge_at, unnamed_at}
use Rattle.resolution.specs.Resolver.{is_one_of, resolve_at, start_on}
use Rattle.resolution.specs.Row.{count_below, holds, one, size, words}
use Rattle.resolution.proofs.Positions.{has-at, index_at, visible_in, visible_located}
use Rattle.resolution.proofs.ResolverOrder.{all_differ, few, one-of-out}
use Rattle.resolution.proofs.ResolverWhole.{Accepts, resolver_accepts}
use Rattle.resolution.proofs.Sets.{set-length}
use Rattle.resolution.proofs.ConfigurationWords.{members_are}
use Rattle.resolution.proofs.WordBits.{holds-words}
use Rattle.resolution.proofs.row.Counts.{count_none, count_same, count_suc, count-zero, one-le}
use Rattle.std.specs.Prelude.{Ok}

-- ---- how many positions are in a list

-- one position more counts at most one more
count-or : (p : ℕ) (q : ℕ → Bool) (n : ℕ) → count_below (λ k. eqb k p || q k) n ≤ suc (count_below q n)
count-or p q zero = omega (arith, count-zero (λ k. eqb k p || q k))
count-or p q (suc n) = turned (eqb n p) refl (count-or p q n)
  where
    turned : (b : Bool) → eqb n p ≡ b → count_below (λ k. eqb k p || q k) n ≤ suc (count_below q n)
        → count_below (λ k. eqb k p || q k) (suc n) ≤ suc (count_below q (suc n))
    turned true e below =
        let i : n ≡ p = eqb-true n p e in
        let same : count_below (λ k. eqb k p || q k) n ≡ count_below q n
        = count_same (λ k. eqb k p || q k) q n (λ k l. ap (λ (b : Bool). b || q k) (ne_eqb k p (λ j. absurd (omega arith)))) in
        omega (arith, count_suc (λ k. eqb k p || q k) n, count_suc q n, same, one-le (eqb n p || q n))
    turned false e below =
        omega (arith, count_suc (λ k. eqb k p || q k) n, count_suc q n, below, ap (λ (b : Bool). one (b || q n)) e)

-- no more than the list is long
count_most : (n : ℕ) (ps : List ℕ) → count_below (λ k. is_one_of k ps) n ≤ length ps
unfolding is_one_of any
count_most n [] = omega (arith, count_none (λ k. is_one_of k []) n (λ k l. refl))
count_most n (p ∷ ps) = omega (arith, count-or p (λ k. is_one_of k ps) n, count_most n ps)

-- different positions below n are as many as the list is long
count-list : (n : ℕ) (ps : List ℕ) → ((p : ℕ) → Mem p ps → p < n) → all_differ ps ≡ true → count_below (λ k. is_one_of k ps) n ≡ length ps
count-list n ps w d = omega (arith, few n ps w d, count_most n ps)

-- ---- the member words

module _ (s : List Descriptor) (ps : List ℕ) (within : (p : ℕ) → Mem p ps → is_visible s p ≡ true) where
  -- the members are the positions
  member_is : (k : ℕ) → member_at s (map (module_at s) ps) k ≡ is_one_of k ps
  unfolding member_at is_one_of
  member_is k = by (is_visible s k) (λ y. rw y (here y)) (λ y. rw y (hidden y))
    where
      here : is_visible s k ≡ true → has_module (map (module_at s) ps) (module_at s k).name ≡ is_one_of k ps
      here v = has-at s (module_at s k).name (visible_located s k v).observable ps within ∙ ap (λ (i : ℕ). any (eqb i) ps) (index_at s k v)

      hidden : is_visible s k ≡ false → false ≡ is_one_of k ps
      hidden f = sym (by (is_one_of k ps) (λ y. true≠false (within k (one-of-out k ps y)) f) (λ y. y))

  -- the words hold as many as there are positions
  size_is : length s ≤ 512 → all_differ ps ≡ true → size (words (member_at s (map (module_at s) ps)) 8) ≡ length ps
  unfolding size
  size_is long once =
      count_same (holds (words (member_at s (map (module_at s) ps)) 8)) (λ k. is_one_of k ps) 512
      (λ k l. holds-words (member_at s (map (module_at s) ps)) 8 k (omega arith) ∙ member_is k)
      ∙ count-list 512 ps (λ p m. omega (arith, visible_in s p (within p m))) once

-- ---- the whole

-- the number of ones in the member words is the number of modules resolved
pub count-resolved : (s q : List ℕ) (n : ℕ) (t : List ℕ) → check_set s ≡ Ok (record { count = n; starts = t })
    → (st : State) → resolve (modules s) (request_of q) ≡ done st → (rest : List ℕ)
    → size (member_words (configuration_of (modules s) (request_of q) st.resolved ++ rest)) ≡ length st.resolved
unfolding configuration_of
count-resolved s q n t e st h rest =
    let g : GoodSet s n t = good-set s n t e in
    let long : length (modules s) ≡ n = set-length s n t g in
    let permits : ℕ → Bool = (λ i. is_visible (modules s) i && is_permitted (request_of q) (module_at (modules s) i).name) in
    let ws : List ℕ = words permits 8 in
    let a : Accepts s n (resolve_at (start_on s q n t ws)) st.resolved
    = resolver_accepts s q n t e ws (λ i l. holds-words permits 8 i (omega (arith, g.few))) st h in
    let ps : List ℕ = (resolve_at (start_on s q n t ws)).order in
    ap size (members_are (member_at (modules s) st.resolved) (edge_at (modules s) (request_of q) st.resolved) (unnamed_at (modules s) (request_of q) st.resolved) rest)
    ∙ subst (λ (ms : List Descriptor). size (words (member_at (modules s) ms) 8) ≡ length ms) (sym a.modules_are)
    (size_is (modules s) ps a.visible (omega (arith, long, g.few)) a.once
    ∙ sym (length-map ps (module_at (modules s))))
