-- What a module block says of its module (document 01, "The set and the request").
use Rattle.std.specs.Prelude.{ℕ, ◌/◌, ◌%◌, List, [], ◌∷◌, map, Bool, true, false, cond, get_or, drop, eqb}
use Rattle.records.specs.Bytes.{same_bytes, u16_at}
use Rattle.records.specs.Name.{name_of, after_name, list_of, mem_name}
use Rattle.records.specs.Record.{bodies}
use Rattle.records.specs.declared.record.Kind.TheVariants.{Module, Requires, Exports, Opens, Uses, Provides, Package, MainClass}

-- ---- the decoded module

-- RQ: what is required, and how
pub record Requirement : Type 0 where
  pub name : List ℕ
  pub transitive : Bool
  pub static : Bool

-- EX and OP: a package, and its targets; none means unqualified
pub record Entry : Type 0 where
  pub name : List ℕ
  pub targets : List (List ℕ)

-- the implementations of PV and all versions are checked and play no part in any answer
pub record Descriptor : Type 0 where
  pub name : List ℕ
  pub is_open : Bool
  pub is_automatic : Bool
  pub requires : List Requirement
  pub exports : List Entry
  pub opens : List Entry
  pub uses : List (List ℕ)
  pub provides : List (List ℕ)
  pub packages : List (List ℕ)
  -- empty where there is none
  pub main_class : List ℕ

-- the flag of this value is set
unfoldable pub has_flag : ℕ → ℕ → Bool
has_flag bit flags = eqb (flags / bit % 2) 1

unfoldable pub requirement_of : List ℕ → Requirement
requirement_of b = record { name = name_of (drop 2 b); transitive = has_flag 0x20 (u16_at b 0); static = has_flag 0x40 (u16_at b 0) }

unfoldable pub entry_of : List ℕ → Entry
entry_of b = record { name = name_of b; targets = list_of (after_name b) }

-- the module name in the body of an MO
unfoldable pub module_name : List ℕ → List ℕ
module_name b = name_of (drop 3 b)

-- the body of a block's MO
unfoldable pub header_of : List ℕ → List ℕ
header_of block = get_or (bodies Module block) 0 []

-- what a block says
unfoldable pub descriptor_of : List ℕ → Descriptor
descriptor_of block = record {
  name = module_name (header_of block);
  is_open = has_flag 0x20 (u16_at (header_of block) 0);
  is_automatic = eqb (get_or (header_of block) 2 0) 1;
  requires = map requirement_of (bodies Requires block);
  exports = map entry_of (bodies Exports block);
  opens = map entry_of (bodies Opens block);
  uses = map name_of (bodies Uses block);
  provides = map name_of (bodies Provides block);
  packages = map name_of (bodies Package block);
  main_class = name_of (get_or (bodies MainClass block) 0 []);
}

-- ---- entries

-- unqualified, or one of the targets
unfoldable pub is_target : List (List ℕ) → List ℕ → Bool
is_target [] n = true
is_target (t ∷ ts) n = mem_name n (t ∷ ts)

-- the first entry of the package decides alone
unfoldable pub reaches : List Entry → List ℕ → List ℕ → Bool
reaches [] pkg n = false
reaches (e ∷ es) pkg n = cond (same_bytes e.name pkg) (is_target e.targets n) (reaches es pkg n)
