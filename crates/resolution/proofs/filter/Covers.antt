-- What the filter tells of the modules seen so far.
use mathlib.Core.Path.{◌≡◌, subst}
use mathlib.Core.Bool.{true, false}
use mathlib.Core.List.Memᴰ
use mathlib.Core.List.{List, [], ◌∷◌, ◌++◌, map}
use mathlib.Core.Logic.{⊎_elim}
use Prim.Native.Nat.{ℕ, ◌+◌, ◌<◌}
use native.Mathlib.Numerals.{add-one}
use lib.ListN.{length, get_or, take}
use lib.Seq.{take-suc}
use Rattle.records.specs.Bytes.{same_bytes}
use Rattle.records.specs.Set.{block_at}
use Rattle.records.proofs.bytes.Laws.{same_refl}
use Rattle.records.proofs.Logic.{by, or_left, true≠false}
use Rattle.records.specs.Name.{mem_name, name_of}
use Rattle.records.specs.Record.{bodies}
use Rattle.records.specs.declared.record.Kind.{Kind}
use Rattle.resolution.specs.Lists.{Name, Mem, any}
use Rattle.resolution.specs.Resolver.{Inputs, block_of, names_of, has_named}
use Rattle.resolution.specs.Filter.{is_marked, MarkedAll, Covers, asked}
use Rattle.resolution.proofs.Lists.{any_out}

module _ (w : Inputs) (k : Kind) where
  -- no module is seen
  pub covers-none : (words : List ℕ) → Covers w k words []
  covers-none words = record { each = λ i m. absurd (Memᴰ.not-nil m) }

  -- the names of one module more are marked
  pub covers_more : (words words₁ ps : List ℕ) (i : ℕ) → Covers w k words ps → MarkedAll words (map name_of (bodies k (block_of w i))) words₁
      → Covers w k words₁ (ps ++ (i ∷ []))
  unfolding names_of
  covers_more words words₁ ps i c m = record {
    each = λ j p n t. ⊎_elim (λ (q : Mem j ps). m.kept n (c.each j q n t)) (λ (q : Mem j (i ∷ [])). last j q n t) (Memᴰ.append_cases ps p);
  }
    where
      last : (j : ℕ) → Mem j (i ∷ []) → (n : Name) → mem_name n (names_of w k j) ≡ true → is_marked words₁ n ≡ true
      last j q n t =
          ⊎_elim (λ (e : j ≡ i). m.new n (subst (λ (x : ℕ). mem_name n (names_of w k x) ≡ true) e t)) (λ (z : Mem j []). absurd (Memᴰ.not-nil z)) (Memᴰ.cases_cons q)

  -- a name that is not marked is in none of them
  pub covers-not : (words ps : List ℕ) (n : Name) → Covers w k words ps → is_marked words n ≡ false → has_named w k ps n ≡ false
  unfolding has_named
  covers-not words ps n c f = by (has_named w k ps n) (λ t. found t) (λ h. h)
    where
      found : any (λ i. mem_name n (names_of w k i)) ps ≡ true → has_named w k ps n ≡ false
      found t = let r = any_out (λ i. mem_name n (names_of w k i)) ps t in true≠false (c.each r.0 r.1 n r.2) f

-- the code's step: the names of the block at i are marked, and i is the next position of the array
pub covers-next : (set starts : List ℕ) (k : Kind) (words words₁ order b : List ℕ) (n i : ℕ) → n < length order → i ≡ get_or order n 0 → b ≡ block_at set starts i
    → Covers (asked set starts) k words (take n order) → MarkedAll words (map name_of (bodies k b)) words₁ → Covers (asked set starts) k words₁ (take (n + 1) order)
unfolding block_of
covers-next set starts k words words₁ order b n i l ei eb c m =
    let e : take (n + 1) order ≡ take n order ++ (i ∷ []) = rw (add-one n, ei) (take-suc order n 0 l) in
    rw e (covers_more (asked set starts) k words words₁ (take n order) i c (rw eb at m))

-- the name that was marked is
pub marked-new : (words : List ℕ) (n : Name) (words₁ : List ℕ) → MarkedAll words (n ∷ []) words₁ → is_marked words₁ n ≡ true
unfolding mem_name
marked-new words n words₁ m = m.new n (or_left (same_bytes n n) false (same_refl n))
