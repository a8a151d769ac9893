-- The owner of a package: what each turn and each return shows.
use Prim.Native.Nat.{ℕ, zero, suc, ◌+◌, ◌-◌, ◌≤◌, ◌<◌}
use mathlib.Core.Path.{◌≡◌, refl, sym, ap, ◌∙◌}
use mathlib.Core.Bool.{Bool, true, false, ◌&&◌}
use mathlib.Core.List.{List}
use native.Mathlib.Omega.{arith}
use native.Mathlib.Numerals.{add-one}
use lib.ListN.{length}
use Rattle.records.specs.Name.{mem_name}
use Rattle.records.specs.Descriptor.{descriptor_of}
use Rattle.records.specs.Set.{block_at, modules, check_set, count_of}
use Rattle.records.specs.Finder.{find_name, is_at, is_first}
use Rattle.records.specs.Finder.{Found}
use Rattle.records.specs.declared.error.ModuleError.{ModuleError}
use Rattle.records.specs.declared.error.ModuleError.TheVariants.{OutputTooShort}
use Rattle.records.specs.declared.set.Checked.{Checked}
use Rattle.records.specs.Finder.{Found}
use Rattle.records.proofs.set.Blocks.{GoodSet, good-set}
use Rattle.records.proofs.sorted.Index.{indexed-none}
use Rattle.resolution.specs.Lists.{Name}
use Rattle.resolution.specs.Configuration.{member_bit}
use Rattle.resolution.specs.Resolution.{names}
use Rattle.resolution.specs.Readability.{table_names}
use Rattle.resolution.specs.Positions.{module_at, is_visible}
use Rattle.resolution.specs.Observed.{has_member}
use Rattle.resolution.specs.PackageOwner.{pick_owner, owns_at, lowest, owner_in, find_module_for_package, Owner}
use Rattle.resolution.specs.Lookup.{owns_by}
use Rattle.resolution.proofs.ConfigurationWords.{with-refused, with-few, with_enough}
use Rattle.resolution.proofs.Sets.{module_block, set-lookup, lookup-few, lookup-room, lookup-index}
use Rattle.std.specs.Prelude.{Some, None, Ok, Err}

module _ (s t : List ℕ) (n : ℕ) (members : List ℕ) (p : Name) (i : ℕ) (a : Bool) (ea : a ≡ member_bit members i) where
  module _ (y : a ≡ true) (b : List ℕ) (eb : b ≡ block_at s t i) (r : Bool) (er : r ≡ mem_name p (descriptor_of b).packages) where
    pub owns_seen : r ≡ true → (x : Name) (f : Found) (v : Bool) → x ≡ (descriptor_of b).name → f ≡ find_name (table_names s t n) x 0 → v ≡ is_at f i
        → v ≡ owns_by (table_names s t n) members p i (descriptor_of (block_at s t i))
    unfolding owns_by is_first
    owns_seen z x f v ex ef ev = ev ∙ rw (ef, ex) (sym (rw (← ea, y, ← eb, ← er, z)))

    pub owns-lacks : r ≡ false → false ≡ owns_by (table_names s t n) members p i (descriptor_of (block_at s t i))
    unfolding owns_by
    owns-lacks z = sym (rw (← ea, y, ← eb, ← er, z))

  pub owns-no : a ≡ false → false ≡ owns_by (table_names s t n) members p i (descriptor_of (block_at s t i))
  unfolding owns_by
  owns-no f = sym (rw (← ea, f))

pub ruleset owns-laws = (lookup-few, lookup-room, lookup-index, owns_seen, owns-lacks, owns-no)

-- what code finds at each position, over the modules of the set
abbrev owns_in : List ℕ → List ℕ → Name → ℕ → Bool
owns_in s ws p k = owns_by (names (modules s)) ws p k (module_at (modules s) k)

-- the check took the set; no position before i owns the package, and those from i on decide
pub record OwnerAt (s t : List ℕ) (n : ℕ) (members : List ℕ) (p : Name) (i : ℕ) : Type 0 where
  pub enough : 4616 ≤ length members
  pub good : GoodSet s n t
  pub taken : count_of (check_set s) ≡ Ok n
  pub left : lowest (owns_in s members p) 0 n ≡ lowest (owns_in s members p) i (n - i)

module _ (s : List ℕ) (p : Name) where
  pub owner-refused : (c : List ℕ) (e : ModuleError) (r : Owner) → Err e ≡ check_set s → r ≡ Err e → r ≡ find_module_for_package s c p
  unfolding find_module_for_package owner_in
  owner-refused c e r h er = er ∙ sym (ap (owner_in s c p) (with-refused c (count_of (check_set s)) e (ap count_of (sym h))))

  -- fewer words than a configuration has
  pub owner-short : (c : List ℕ) (k : Checked) → Ok k ≡ check_set s → length c < 4616 → Err (OutputTooShort 4616) ≡ find_module_for_package s c p
  unfolding find_module_for_package owner_in
  owner-short c k h l = sym (ap (owner_in s c p) (with-few c (count_of (check_set s)) k.count (ap count_of (sym h)) l))

-- what the table of the set answers
pub owner-told : (s t c : List ℕ) (p : Name) (r : Found) → t ≡ s → Ok r ≡ find_module_for_package t c p → Ok r ≡ find_module_for_package s c p
owner-told s t c p r e h = cc

pub owner-start : (s : List ℕ) (p : Name) (t members : List ℕ) (n : ℕ) → check_set s ≡ Ok (record { count = n; starts = t }) → 4616 ≤ length members → OwnerAt s t n members p 0
owner-start s p t members n e l = record {
  enough = l;
  good = good-set s n t e;
  taken = ap count_of e;
  left = let z : n ≡ n - 0 = omega arith in ap (lowest (owns_in s members p) 0) z;
}

module _ (s t : List ℕ) (n : ℕ) (members : List ℕ) (p : Name) (i : ℕ) (o : OwnerAt s t n members p i) where
  turn : i < n → lowest (owns_in s members p) 0 n
      ≡ pick_owner (owns_by (table_names s t n) members p i (descriptor_of (block_at s t i))) (Ok (Some i)) (lowest (owns_in s members p) (i + 1) (n - (i + 1)))
  unfolding lowest
  turn l =
      let z : n - i ≡ suc (n - (i + 1)) = omega arith in
      o.left ∙ rw (z, module_block s n t o.good i l, add-one i, ← o.good.names)

  pub owner-more : i < n → (r : Bool) → r ≡ owns_by (table_names s t n) members p i (descriptor_of (block_at s t i)) → r ≡ false → OwnerAt s t n members p (i + 1)
  owner-more l r er f = record { enough = o.enough; good = o.good; taken = o.taken; left = turn l ∙ rw (← er, f) }

-- code asks what the definition asks
owns-is : (s c : List ℕ) (p : Name) (k : ℕ) → owns_at (modules s) c p k ≡ owns_in s c p k
unfolding owns_at owns_by has_member is_visible
owns-is s c p k = turned (is_first (names (modules s)) (module_at (modules s) k).name k) (member_bit c k) (mem_name p (module_at (modules s) k).packages)
  where
    turned : (v h m : Bool) → (v && h) && m ≡ h && (m && v)
    turned true true true = refl
    turned true true false = refl
    turned true false m = refl
    turned false true true = refl
    turned false true false = refl
    turned false false m = refl

pub lowest-over : (q r : ℕ → Bool) → ((k : ℕ) → q k ≡ r k) → (k n : ℕ) → lowest q k n ≡ lowest r k n
unfolding lowest
lowest-over q r h k zero = refl
lowest-over q r h k (suc n) = rw (h k, lowest-over q r h (suc k) n)

module _ (s t : List ℕ) (n : ℕ) (c : List ℕ) (p : Name) (i : ℕ) (o : OwnerAt s t n c p i) where
  whole : find_module_for_package s c p ≡ lowest (owns_in s c p) 0 n
  unfolding find_module_for_package owner_in
  whole = ap (owner_in s c p) (with_enough c (count_of (check_set s)) n o.taken o.enough) ∙ (lowest-over (owns_at (modules s) c p) (owns_in s c p) (owns-is s c p) 0 n)

  pub owner_here : i < n → (r : Bool) → r ≡ owns_by (table_names s t n) c p i (descriptor_of (block_at s t i)) → r ≡ true → (Ok (Some i)) ≡ find_module_for_package s c p
  owner_here l r er f = sym (whole ∙ turn s t n c p i o l ∙ rw (← er, f))

  pub owner-none : n ≤ i → (Ok None) ≡ find_module_for_package s c p
  unfolding lowest
  owner-none l = let z : n - i ≡ 0 = omega arith in sym (whole ∙ o.left ∙ rw z)

pub ruleset owner-laws = (indexed-none, owner-refused, owner-short, owner-told, owner-start, owner_here, owner-more, owner-none)
