-- What a refusal of `resolve` says is true of the set, the request and the lent words: no "5 or 7 with no absent or shared name"
-- (document 01, "Conditions of acceptance"), no 6 with a java.base, and no 4 with enough words. proofs/Cause has the theorem,
-- `cause_true`.
use Rattle.std.specs.Prelude.{◌≡◌, true, false, List, ℕ, ◌≤◌, ◌<◌, length}
use Rattle.records.specs.Bytes.{same_bytes}
use Rattle.records.specs.Error.{number_of}
use Rattle.records.specs.Name.{java_base, mem_name}
use Rattle.records.specs.Descriptor.{Requirement}
use Rattle.records.specs.Request.{request_of, is_permitted, check_inputs}
use Rattle.records.specs.Set.{modules, count_of}
use Rattle.records.specs.declared.error.Input.{Input}
use Rattle.records.specs.declared.error.ModuleError.{ModuleError}
use Rattle.records.specs.declared.error.ModuleError.TheVariants.{OutputTooShort, ModuleNotFound, JavaBaseNotFound, SplitPackage}
use Rattle.resolution.specs.Lists.{Name, Mem}
use Rattle.resolution.specs.Absent.{part_of}
use Rattle.resolution.specs.Closed.{Closed}
use Rattle.resolution.specs.Configuration.{word_count}
use Rattle.resolution.specs.Positions.{module_at, is_visible}
use Rattle.resolution.specs.Resolution.{has_module}
use Rattle.std.specs.Prelude.{Ok, Err}

-- Below, s is the set and q the request, as bytes.

-- the check takes both: none of 1, 2 and 3 is met
pub record Taken (s q : List ℕ) : Type 0 where
  pub modules : ℕ
  pub is : count_of (check_inputs s q) ≡ Ok modules

-- 4 (U12): fewer words are lent than a configuration has
pub record ShortWords (s q ws : List ℕ) : Type 0 where
  pub taken : Taken s q
  pub short : length ws < word_count

-- the module at this position is observable and permitted, and something leads to it: it is in every closed set of demand 3
pub record Reached (s q : List ℕ) (at : ℕ) : Type 1 where
  pub visible : is_visible (modules s) at ≡ true
  pub permitted : is_permitted (request_of q) (module_at (modules s) at).name ≡ true
  pub inside : (C : Name → Type 0) → Closed (modules s) (request_of q) C → C (module_at (modules s) at).name

-- 5, a name of the request: a permitted root
pub record RootOf (q : List ℕ) (n : Name) : Type 0 where
  pub root : Mem n (request_of q).roots
  pub permitted : is_permitted (request_of q) n ≡ true

-- 5, a name of the set: a requirement, not static, of such a module
pub record RequirementOf (s q : List ℕ) (n : Name) : Type 1 where
  pub at : ℕ
  pub requirer : Reached s q at
  pub by : Requirement
  pub requires : Mem by (module_at (modules s) at).requires
  pub name : by.name ≡ n
  pub needed : by.static ≡ false

-- 5: what leads to the name, by the input that it is a part of
pub data LedTo (s q : List ℕ) (n : Name) : Input → Type 1 where
  from-root : RootOf q n → LedTo s q n Input.Request
  from-requirement : RequirementOf s q n → LedTo s q n Input.Set

-- 5: no module of the set has the name, and a root or a requirement leads to it. It is not java.base, whose absence is 6
pub record AbsentModule (s q : List ℕ) (i : Input) (n : Name) : Type 1 where
  pub taken : Taken s q
  pub absent : has_module (modules s) n ≡ false
  pub other : same_bytes n java_base ≡ false
  pub led : LedTo s q n i

-- 6: no module of the set is java.base
pub record AbsentBase (s q : List ℕ) : Type 0 where
  pub taken : Taken s q
  pub absent : has_module (modules s) java_base ≡ false

-- 7: the package p is in two different modules that are reached
pub record SharedPackage (s q : List ℕ) (p : Name) (owner second : ℕ) : Type 1 where
  pub taken : Taken s q
  pub first : Reached s q owner
  pub other : Reached s q second
  pub two : owner ≡ second → ⊥
  pub first_has : mem_name p (module_at (modules s) owner).packages ≡ true
  pub other_has : mem_name p (module_at (modules s) second).packages ≡ true

-- why `resolve` refuses with e, where ws are the lent words: 1, 2 and 3 are those of the check; 8, 9 and 10 do not occur
pub data Cause (s q ws : List ℕ) : ModuleError → Type 1 where
  is-checked : (e : ModuleError) → number_of e ≤ 3 → count_of (check_inputs s q) ≡ Err e → Cause s q ws e
  is-short : ShortWords s q ws → Cause s q ws (OutputTooShort word_count)
  is-absent : (i : Input) (at n : ℕ) → AbsentModule s q i (part_of s q i at n) → Cause s q ws (ModuleNotFound i at n)
  no-base : AbsentBase s q → Cause s q ws JavaBaseNotFound
  is_shared : (at n owner second : ℕ) → SharedPackage s q (part_of s q Input.Set at n) owner second → Cause s q ws (SplitPackage at n owner second)
