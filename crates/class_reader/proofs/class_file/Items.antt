-- The records of a descriptor: their bytes, and that only a body of the Module attribute can be too long.
use Prim.Native.Nat.{ℕ, suc, ◌+◌, ◌*◌, ◌≤◌}
use mathlib.Core.Path.{◌≡◌, refl, ◌∙◌}
use mathlib.Core.List.{List, [], ◌∷◌, ◌++◌, map, append-nil}
use mathlib.Core.Bool.{true, false, cond, or-false}
use native.Mathlib.Omega.{arith}
use lib.ListN.{length, length-append}
use borrow.Author.Tests.{leb-true, le-ltb}
use Rattle.std.proofs.Common.{Option, Some, None}
use Rattle.std.specs.Option.{unwrap_or}
use Rattle.records.specs.Order.{ordered, all_names, is_short, all_short}
use Rattle.records.specs.Output.{Put, name_bytes, record_bytes}
use Rattle.records.proofs.Logic.{and_left, and_right}
use Rattle.records.proofs.order.Ordered.{ordered-all}
use Rattle.records.proofs.output.Made.{made-long}
use Rattle.records.proofs.output.Written.{written_none}
use Rattle.class_reader.specs.Entry.{kind_of, entry_end, is_entry, entry_body, entry_item, bytes_of, is_large}
use Rattle.class_reader.specs.Attribute.{module_at, module_items, package_names, package_item, package_items, main_items, descriptor_items}
use Rattle.class_reader.specs.Output.{Room}
use Rattle.class_reader.specs.Walk.{Readable}
use Rattle.class_reader.specs.declared.entry.Entry.TheVariants.{MainClass}
use Rattle.class_reader.specs.declared.attribute.Seen.{Seen}
use Rattle.class_reader.proofs.entry.Items.{bytes-append, large_append}
use Rattle.class_reader.proofs.entry.Small.{entry_small}
use Rattle.class_reader.proofs.class_file.PackageTable.{names-short}

-- ---- MC

module _ (f t : List ℕ) (s : Seen) where
  pub main-none : s.main ≡ None → 0 ≡ length (bytes_of (main_items f t s.main))
  unfolding main_items bytes_of
  main-none e = rw e

  pub main-put-none : (o : List ℕ) (at : ℕ) → s.main ≡ None → Put o at (bytes_of (main_items f t s.main)) o at
  unfolding main_items bytes_of
  main-put-none o at e =
      let p : Put o at [] o at = record { place = omega arith; bytes = rw (written_none o at) } in
      rw e p

  module _ (h : Readable f t s) where
    main-narrow : is_large (main_items f t s.main) ≡ false
    unfolding main_items is_large entry_item entry_end
    main-narrow = go s.main refl
      where
        go : (o : Option ℕ) → s.main ≡ o → is_large (main_items f t o) ≡ false
        go None e = refl
        go (Some m) e =
            let k : 4 + length (entry_body MainClass f t (m + 6)) + 130 * (m + 6) ≤ 130 * (m + 6 + 2) = entry_small MainClass f t (m + 6) (h.main_good m e) in
            rw (le-ltb 65535 (length (entry_body MainClass f t (m + 6))) (omega arith))

    module _ (m : ℕ) (e : s.main ≡ Some m) where
      main-long : 4 + length (entry_body MainClass f t (m + 6)) ≤ 260
      unfolding entry_end
      main-long =
          let k : 4 + length (entry_body MainClass f t (m + 6)) + 130 * (m + 6) ≤ 130 * (m + 6 + 2) = entry_small MainClass f t (m + 6) (h.main_good m e) in
          omega arith

      pub main-place : length f ≤ 65535 → m + 6 ≤ 65541
      main-place l = omega (arith, h.main_low m e)

      pub main-entry : is_entry MainClass f t (m + 6) ≡ true
      main-entry = h.main_good m e

      main-bytes : bytes_of (main_items f t s.main) ≡ record_bytes (kind_of MainClass) (entry_body MainClass f t (m + 6))
      unfolding main_items bytes_of entry_item
      main-bytes = rw e (append-nil (record_bytes (kind_of MainClass) (entry_body MainClass f t (m + 6))))

      module _ (o : Option ℕ) (eo : o ≡ cond (is_entry MainClass f t (m + 6)) (Some (4 + length (entry_body MainClass f t (m + 6)))) None) (r : ℕ)
          (er : r ≡ unwrap_or o 0) where
        told : r ≡ 4 + length (entry_body MainClass f t (m + 6))
        told = er ∙ rw (eo, main-entry)

        pub main-sized : r ≡ length (bytes_of (main_items f t s.main))
        main-sized = rw main-bytes (omega (arith, told, made-long (kind_of MainClass) (entry_body MainClass f t (m + 6))))

        pub main_low : r ≤ 260
        main_low = omega (arith, told, main-long)

      pub main-room : (o : List ℕ) (at : ℕ) → at + length (bytes_of (main_items f t s.main)) ≤ length o
          → Room o at (entry_item MainClass f t (m + 6) ∷ [])
      unfolding main_items
      main-room o at l = record { room = rw e at l; fits = rw e at main-narrow }

      pub main-put : (o : List ℕ) (at : ℕ) (o₁ : List ℕ) (r : ℕ)
          → Put o at (record_bytes (kind_of MainClass) (entry_body MainClass f t (m + 6))) o₁ r → Put o at (bytes_of (main_items f t s.main)) o₁ r
      main-put o at o₁ r p = rw main-bytes p

pub ruleset main-size-laws = (main-none, main-place, main-sized, main_low)

pub ruleset put-main-laws = (main-put-none, main-place, main-entry, main-room, main-put)

-- ---- PK

package_narrow : (ns : List (List ℕ)) → all_names is_short ns ≡ true → is_large (map package_item ns) ≡ false
unfolding all_names is_short is_large package_item name_bytes
package_narrow [] h = refl
package_narrow (n ∷ ns) h =
    let l : length n ≤ 255 = leb-true (length n) 255 (and_left (is_short n) (all_names is_short ns) h) in
    rw (le-ltb 65535 (suc (length n)) (omega arith)) (package_narrow ns (and_right (is_short n) (all_names is_short ns) h))

packages_narrow : (f t : List ℕ) (s : Seen) → Readable f t s → is_large (package_items f t s.packages) ≡ false
unfolding package_items all_short
packages_narrow f t s h =
    package_narrow (ordered (package_names f t s.packages)) (ordered-all is_short (package_names f t s.packages) (names-short f t s h))

-- ---- all

module _ (f t : List ℕ) (s : Seen) where
  pub descriptor_bytes : bytes_of (descriptor_items f t s)
      ≡ bytes_of (module_items f t (module_at s)) ++ (bytes_of (package_items f t s.packages) ++ bytes_of (main_items f t s.main))
  unfolding descriptor_items
  descriptor_bytes =
      bytes-append (module_items f t (module_at s)) (package_items f t s.packages ++ main_items f t s.main)
      ∙ rw (bytes-append (package_items f t s.packages) (main_items f t s.main))

  pub descriptor_long : length (bytes_of (descriptor_items f t s))
      ≡ length (bytes_of (module_items f t (module_at s)))
      + (length (bytes_of (package_items f t s.packages)) + length (bytes_of (main_items f t s.main)))
  descriptor_long = rw descriptor_bytes (simp length-append)

  pub descriptor_narrow : Readable f t s → is_large (descriptor_items f t s) ≡ is_large (module_items f t (module_at s))
  unfolding descriptor_items
  descriptor_narrow h =
      large_append (module_items f t (module_at s)) (package_items f t s.packages ++ main_items f t s.main)
      ∙ rw (large_append (package_items f t s.packages) (main_items f t s.main), packages_narrow f t s h, main-narrow f t s h) (or-false (is_large (module_items f t (module_at s))))
