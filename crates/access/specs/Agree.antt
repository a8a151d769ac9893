-- Whatever is given a set reads the words of a configuration by the three tests of the crate `resolution` (`Observed`) alone: over any
-- configuration a position whose module is hidden counts as one without a module.
use Rattle.std.specs.Prelude.{◌≡◌, true, List, ltb, length, ℕ}
use Rattle.records.specs.Set.{modules}
use Rattle.resolution.specs.Configuration.{word_count, member_bit, edge_bit, unnamed_bit}
use Rattle.resolution.specs.Lists.{Name}
use Rattle.resolution.specs.Observed.{has_member, has_edge, has_unnamed_edge}
use Rattle.resolution.specs.PackageOwner.{find_module_for_package}
use Rattle.resolution.specs.Positions.{is_visible}
use Rattle.access.specs.Access.{is_reflection, check_access}
use Rattle.access.specs.CanRead.{can_read}
use Rattle.access.specs.ReadGraph.{readers_of, transitive_reads}
use Rattle.access.specs.declared.access.AccessKind.{AccessKind}

-- both are enough words or neither, and the three tests say the same of both, at every position
pub record Agree (s : List ℕ) (c₁ c₂ : List ℕ) : Type 0 where
  pub enough : ltb (length c₁) word_count ≡ ltb (length c₂) word_count
  pub members : (i : ℕ) → has_member (modules s) c₁ i ≡ has_member (modules s) c₂ i
  pub edges : (i j : ℕ) → has_edge (modules s) c₁ i j ≡ has_edge (modules s) c₂ i j
  pub unnamed : (i : ℕ) → has_unnamed_edge (modules s) c₁ i ≡ has_unnamed_edge (modules s) c₂ i

-- both are enough words or neither, and have the same bits where modules stand that are not hidden; at hidden ones, and past the modules, any bits
pub record SameVisibleBits (s : List ℕ) (c₁ c₂ : List ℕ) : Type 0 where
  pub enough : ltb (length c₁) word_count ≡ ltb (length c₂) word_count
  pub members : (i : ℕ) → is_visible (modules s) i ≡ true → member_bit c₁ i ≡ member_bit c₂ i
  pub edges : (i j : ℕ) → is_visible (modules s) i ≡ true → is_visible (modules s) j ≡ true → edge_bit c₁ i j ≡ edge_bit c₂ i j
  pub unnamed : (i : ℕ) → is_visible (modules s) i ≡ true → unnamed_bit c₁ i ≡ unnamed_bit c₂ i

-- every question has the same answer over both
pub record SameAnswers (s : List ℕ) (c₁ c₂ : List ℕ) : Type 0 where
  pub verdicts : (kind : AccessKind) (q : List ℕ) (asker target p : Name)
      → check_access (is_reflection kind) s q c₁ asker target p ≡ check_access (is_reflection kind) s q c₂ asker target p
  pub can_read_lem : (x y : Name) → can_read s c₁ x y ≡ can_read s c₂ x y
  pub readers : (y : Name) → readers_of s c₁ y ≡ readers_of s c₂ y
  pub owners : (p : Name) → find_module_for_package s c₁ p ≡ find_module_for_package s c₂ p
  pub transitive : (x : Name) → transitive_reads s c₁ x ≡ transitive_reads s c₂ x
