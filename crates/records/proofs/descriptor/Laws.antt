-- What a block says of its module: what each return of the questions shows.
use Prim.Native.Nat.{ℕ, zero, suc}
use mathlib.Core.Path.{◌≡◌, refl, sym, ◌∙◌}
use mathlib.Core.List.{List, [], ◌∷◌, map}
use mathlib.Core.Bool.{Bool, true, false, cond, ◌&&◌, ◌||◌}
use mathlib.Core.Option.{Option, none, some}
use lib.ListN.{take, drop}
use Rattle.records.specs.Bytes.{same_bytes, u16_at}
use Rattle.records.specs.Name.{name_of, after_name, names_of, list_of, mem_name}
use Rattle.records.specs.Record.{bodies, begins, first_of}
use Rattle.records.specs.Descriptor.{entry_of, is_target, reaches}
use Rattle.records.specs.Record.{Next}
use Rattle.records.specs.declared.record.Kind.{Kind}
use Rattle.records.proofs.record.Search.{first_body, first_body_lem, first-nothing, is_found, found-told}
use Rattle.std.specs.Prelude.{Some, None, is_some}
use Rattle.records.specs.declared.record.Span.{Span}

-- ---- names

-- a body with this name in front is there just if the search finds one
pub mem-first : (name : List ℕ) (bs : List (List ℕ)) → mem_name name (map name_of bs) ≡ is_found (first_body (name ∷ []) bs)
unfolding mem_name is_found first_body begins
mem-first name [] = refl
mem-first name (b ∷ bs) = go (same_bytes (name_of b) name) (mem-first name bs)
  where
    go : (t : Bool) → mem_name name (map name_of bs) ≡ is_found (first_body (name ∷ []) bs)
        → (t || mem_name name (map name_of bs)) ≡ is_found (cond (t && true) (some b) (first_body (name ∷ []) bs))
    go true ih = refl
    go false ih = ih

module _ (k : Kind) (s name : List ℕ) (r : Next) (er : r ≡ first_of k (name ∷ []) s) where
  pub named_told : (q : Bool) → q ≡ is_some r → q ≡ mem_name name (map name_of (bodies k s))
  named_told q e = found-told k (name ∷ []) s r er q e ∙ sym (mem-first name (bodies k s))

-- ---- entries

-- the targets of the body that was found
unfoldable pub reaches_by : Option (List ℕ) → List ℕ → Bool
reaches_by none n = false
reaches_by (some b) n = is_target (list_of (after_name b)) n

-- the first entry of the package is that of the body that the search finds
pub reaches-first : (pkg n : List ℕ) (bs : List (List ℕ)) → reaches (map entry_of bs) pkg n ≡ reaches_by (first_body (pkg ∷ []) bs) n
unfolding reaches reaches_by first_body begins entry_of
reaches-first pkg n [] = refl
reaches-first pkg n (b ∷ bs) = go (same_bytes (name_of b) pkg) (reaches-first pkg n bs)
  where
    go : (t : Bool) → reaches (map entry_of bs) pkg n ≡ reaches_by (first_body (pkg ∷ []) bs) n
        → cond t (is_target (list_of (after_name b)) n) (reaches (map entry_of bs) pkg n) ≡ reaches_by (cond (t && true) (some b) (first_body (pkg ∷ []) bs)) n
    go true ih = refl
    go false ih = ih

target-some : (m : ℕ) (u n : List ℕ) → (m ≡ 0 → ⊥) → is_target (names_of m u) n ≡ mem_name n (names_of m u)
unfolding is_target names_of
target-some zero u n z = absurd (z refl)
target-some (suc m) u n z = refl

module _ (k : Kind) (s pkg n : List ℕ) (r : Next) (er : r ≡ first_of k (pkg ∷ []) s) where
  module _ (span : Span) (e : r ≡ Some span) (b : List ℕ) (eb : b ≡ take span.len (drop span.start s))
      (t : List ℕ) (et : t ≡ after_name b) (m : ℕ) (em : m ≡ u16_at t 0) where
    by : reaches (map entry_of (bodies k s)) pkg n ≡ is_target (list_of t) n
    unfolding reaches_by
    by = reaches-first pkg n (bodies k s) ∙ rw (first_body_lem k (pkg ∷ []) s r er span e, et, eb)

    pub reaches_all : m ≡ 0 → true ≡ reaches (map entry_of (bodies k s)) pkg n
    unfolding is_target list_of names_of
    reaches_all z = sym (by ∙ rw (← em, z))

    pub reaches_some : (q : Bool) → (m ≡ 0 → ⊥) → q ≡ mem_name n (list_of t) → q ≡ reaches (map entry_of (bodies k s)) pkg n
    unfolding list_of
    reaches_some q z eq = eq ∙ sym (by ∙ target-some (u16_at t 0) (drop 2 t) n (λ h. z (em ∙ h)))

  pub reaches-none : r ≡ None → false ≡ reaches (map entry_of (bodies k s)) pkg n
  unfolding reaches_by
  reaches-none e = sym (reaches-first pkg n (bodies k s) ∙ rw (first-nothing k (pkg ∷ []) s r er e))

pub ruleset reaches_laws = (reaches_all, reaches_some, reaches-none)
