-- The bodies that are made are well-formed.
use Prim.Native.Nat.{ℕ, suc, ◌+◌, ◌<◌}
use mathlib.Core.Path.{◌≡◌}
use mathlib.Core.List.{List, [], ◌∷◌, ◌++◌}
use mathlib.Core.Bool.{true}
use native.Mathlib.Omega.{arith}
use lib.ListN.{length, length-append}
use lib.Seq.{take-append_seam, drop-append_seam}
use borrow.Author.Tests.{le-leb, lt-ltb}
use Rattle.records.specs.Bytes.{u16_at}
use Rattle.records.specs.Name.{printable, name_of, after_name, is_field, is_name, is_empty, is_names, is_list, is_version, is_name_version, is_name_list}
use Rattle.records.specs.Record.{is_module}
use Rattle.records.specs.Output.{name_bytes, no_targets}

-- a name with its length byte in front, and t behind
module _ (n t : List ℕ) where
  pub name-read : name_of (name_bytes n ++ t) ≡ n
  unfolding name_of name_bytes
  name-read = take-append_seam n t

  pub after_read : after_name (name_bytes n ++ t) ≡ t
  unfolding after_name name_bytes
  after_read = let e : 1 + length n ≡ suc (length n) = omega arith in rw (e, drop-append_seam n t)

  module _ (p : printable n ≡ true) where
    pub field-made : is_field (name_bytes n ++ t) ≡ true
    unfolding is_field name_bytes
    field-made =
        rw (le-leb (1 + length n) (suc (length (n ++ t))) (rw length-append (omega arith)), name-read) p

    pub name-made : 0 < length n → is_name (name_bytes n ++ t) ≡ true
    unfolding is_name name_bytes
    name-made l = rw (lt-ltb 0 (length n) l) field-made

module _ (n : List ℕ) (p : printable n ≡ true) (l : 0 < length n) where
  pub module_made : is_module (0 ∷ 0 ∷ 1 ∷ (name_bytes n ++ (0 ∷ []))) ≡ true
  unfolding is_module is_name_version is_version is_field is_empty after_name name_of printable
  module_made = rw (name-made n (0 ∷ []) p l, after_read n (0 ∷ []))

  pub entry-made : is_name_list (name_bytes n ++ no_targets) ≡ true
  unfolding is_name_list is_list is_names is_empty u16_at
  entry-made = rw (name-made n no_targets p l, after_read n no_targets)

  pub package_made : is_names 1 (name_bytes n ++ []) ≡ true
  unfolding is_names is_empty
  package_made = rw (name-made n [] p l, after_read n [])
