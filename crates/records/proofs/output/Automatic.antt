-- The records of an automatic module, written one after another.
use Prim.Native.Nat.{ℕ, ◌+◌, ◌≤◌}
use mathlib.Core.Path.{◌≡◌, sym, ◌∙◌, ap}
use mathlib.Core.List.{List, [], ◌∷◌, ◌++◌, map, append_assoc}
use mathlib.Core.Bool.{true}
use native.Mathlib.Omega.{arith}
use lib.ListN.{length, take, length-append}
use Rattle.records.specs.Record.{mark_for}
use Rattle.records.specs.Order.{name_in, all_short}
use Rattle.records.specs.Output.{written, Put, module_record, base_record, group_of, package_records, automatic_records, packages_size, names_in, GroupRoom, entry_records, PackagesRoom}
use Rattle.records.specs.declared.record.Kind.TheVariants.{Exports, Opens, Package}
use Rattle.records.proofs.output.Written.{put-room, put_both}
use Rattle.records.proofs.output.Records.{both_long}
use Rattle.records.proofs.output.Groups.{group_of-long, group-marked}

-- ---- lengths

-- three records for each package
groups_long : (m k l : ℕ) (ps : List (List ℕ)) → length (group_of m 2 ps) + (length (group_of k 2 ps) + length (group_of l 0 ps)) ≡ packages_size ps
unfolding group_of packages_size
groups_long m k l [] = omega arith
groups_long m k l (p ∷ ps) =
    omega (arith, groups_long m k l ps, group_of-long m 2 p ps (omega arith), group_of-long k 2 p ps (omega arith), group_of-long l 0 p ps (omega arith))

groups_are : (ps : List (List ℕ)) → package_records ps ≡ group_of 0x4558 2 ps ++ (group_of 0x4F50 2 ps ++ group_of 0x504B 0 ps)
unfolding package_records mark_for
groups_are ps = rw (group-marked Exports 2 ps, group-marked Opens 2 ps, group-marked Package 0 ps)

packages_long : (ps : List (List ℕ)) → length (package_records ps) ≡ packages_size ps
packages_long ps =
    rw (groups_are ps, length-append (group_of 0x4558 2 ps) (group_of 0x4F50 2 ps ++ group_of 0x504B 0 ps), length-append (group_of 0x4F50 2 ps) (group_of 0x504B 0 ps))
    (groups_long 0x4558 0x4F50 0x504B ps)

pub records-size : (n : List ℕ) (ps : List (List ℕ)) → length (automatic_records n ps) ≡ 26 + length n + packages_size ps
unfolding automatic_records package_records
records-size n ps =
    ap length (sym (append_assoc (module_record n) base_record (package_records ps)))
    ∙ rw (length-append (module_record n ++ base_record) (package_records ps), packages_long ps, both_long n) (omega arith)

-- ---- the three groups: the room for them, and what is written

module _ (o : List ℕ) (at : ℕ) (s t : List ℕ) (count : ℕ) (h : PackagesRoom o at s t count) where
  abbrev ps : List (List ℕ)
  ps = names_in s t count

  more : at + (length (group_of 0x4558 2 ps) + (length (group_of 0x4F50 2 ps) + length (group_of 0x504B 0 ps))) ≤ length o
  more = omega (arith, h.room, groups_long 0x4558 0x4F50 0x504B ps)

  pub exports_room : GroupRoom o at 0x4558 2 s t count
  exports_room = record { entries = h.entries; ends = omega arith; room = omega (arith, more); short = h.short }

  module _ (o₁ : List ℕ) (b : ℕ) (p : Put o at (group_of 0x4558 2 ps) o₁ b) where
    more₁ : b + (length (group_of 0x4F50 2 ps) + length (group_of 0x504B 0 ps)) ≤ length o₁
    more₁ = put-room o at (group_of 0x4558 2 ps) o₁ b (length (group_of 0x4F50 2 ps) + length (group_of 0x504B 0 ps)) more p

    pub opens-room : GroupRoom o₁ b 0x4F50 2 s t count
    opens-room = record { entries = h.entries; ends = omega arith; room = omega (arith, more₁); short = h.short }

    pub entries-put : (o₂ : List ℕ) (c : ℕ) → Put o₁ b (group_of 0x4F50 2 ps) o₂ c → Put o at (entry_records ps) o₂ c
    unfolding entry_records
    entries-put o₂ c q = put_both o at (group_of 0x4558 2 ps) o₁ b (group_of 0x4F50 2 ps) o₂ c (omega (arith, more)) p q

  module _ (o₁ : List ℕ) (b : ℕ) (p : Put o at (entry_records ps) o₁ b) where
    more₂ : at + (length (entry_records ps) + length (group_of 0x504B 0 ps)) ≤ length o
    unfolding entry_records
    more₂ = rw (length-append (group_of 0x4558 2 ps) (group_of 0x4F50 2 ps)) (omega (arith, more))

    pub package_room : GroupRoom o₁ b 0x504B 0 s t count
    package_room = record {
      entries = h.entries;
      ends = omega arith;
      room = put-room o at (entry_records ps) o₁ b (length (group_of 0x504B 0 ps)) more₂ p;
      short = h.short;
    }

    pub packages_put : (o₂ : List ℕ) (c : ℕ) → Put o₁ b (group_of 0x504B 0 ps) o₂ c → Put o at (package_records ps) o₂ c
    unfolding entry_records
    packages_put o₂ c q =
        let e : package_records ps ≡ entry_records ps ++ group_of 0x504B 0 ps =
        groups_are ps ∙ sym (append_assoc (group_of 0x4558 2 ps) (group_of 0x4F50 2 ps) (group_of 0x504B 0 ps)) in
        rw e (put_both o at (entry_records ps) o₁ b (group_of 0x504B 0 ps) o₂ c (omega (arith, more₂)) p q)

-- ---- MO and RQ, and the groups

module _ (o n s t : List ℕ) (count : ℕ) (room : length (automatic_records n (map (name_in s) (take count t))) ≤ length o) where
  size : 26 + length n + packages_size (names_in s t count) ≤ length o
  unfolding names_in
  size = omega (arith, room, records-size n (names_in s t count))

  pub head-room : 26 + length n ≤ length o
  head-room = omega (arith, size)

  module _ (o₁ : List ℕ) (a : ℕ) (p : Put o 0 (module_record n ++ base_record) o₁ a) where
    pub packages_room : count ≤ length t → all_short (map (name_in s) (take count t)) ≡ true → PackagesRoom o₁ a s t count
    unfolding names_in
    packages_room entries short = record {
      entries = entries;
      room = put-room o 0 (module_record n ++ base_record) o₁ a (packages_size (names_in s t count)) (omega (arith, size, both_long n)) p;
      short = short;
    }

    module _ (o₂ : List ℕ) (b : ℕ) (q : Put o₁ a (package_records (names_in s t count)) o₂ b) where
      whole : (module_record n ++ base_record) ++ package_records (names_in s t count) ≡ automatic_records n (map (name_in s) (take count t))
      unfolding automatic_records package_records names_in
      whole = append_assoc (module_record n) base_record (package_records (names_in s t count))

      all : Put o 0 (automatic_records n (map (name_in s) (take count t))) o₂ b
      all =
          rw whole at
          (put_both o 0 (module_record n ++ base_record) o₁ a (package_records (names_in s t count)) o₂ b (omega (arith, size, both_long n)) p q)

      pub records-place : b ≡ length (automatic_records n (map (name_in s) (take count t)))
      records-place = omega (arith, all.place)

      pub records-bytes : o₂ ≡ written o 0 (automatic_records n (map (name_in s) (take count t)))
      records-bytes = all.bytes

pub ruleset put_entries_laws = (exports_room, opens-room, entries-put)

pub ruleset put_packages_laws = (package_room, packages_put)
