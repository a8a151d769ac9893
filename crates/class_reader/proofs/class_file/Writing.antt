-- What each return of the functions that write the records of a descriptor shows.
use Prim.Native.Nat.{ℕ, ◌+◌, ◌≤◌, ◌<◌}
use mathlib.Core.Path.{◌≡◌, refl, sym, ◌∙◌}
use mathlib.Core.List.{List, map}
use mathlib.Core.Bool.{Bool, true, false, cond}
use Rattle.std.proofs.Common.{Option, Some, None}
use Rattle.std.specs.Option.{unwrap_or}
use native.Mathlib.Omega.{arith}
use lib.ListN.{length}
use borrow.Author.Tests.{lt-ltb, le-ltb}
use Rattle.records.specs.Jar.{pick_written, fitted, output_after}
use Rattle.records.specs.Order.{name_in}
use Rattle.records.specs.Output.{Put}
use Rattle.records.proofs.Logic.{clash}
use Rattle.records.specs.declared.error.ModuleError.TheVariants.{TooLarge, OutputTooShort}
use Rattle.records.specs.Jar.{Written}
use Rattle.records.proofs.output.Written.{second-room, third-room, put_three}
use Rattle.class_reader.specs.Entry.{bytes_of, is_large}
use Rattle.class_reader.specs.Attribute.{module_at, module_items, package_item, package_items, main_items, descriptor_items}
use Rattle.class_reader.specs.ClassFile.{sized}
use Rattle.class_reader.specs.Measure.{adding}
use Rattle.class_reader.specs.Output.{Room}
use Rattle.class_reader.specs.Reader.{Sized, Ordered, ItemsFitted, ItemsRead}
use Rattle.class_reader.specs.Walk.{Light, module_size, Readable}
use Rattle.class_reader.specs.declared.attribute.Seen.{Seen}
use Rattle.class_reader.proofs.measure.Module.{measure_module_lem}
use Rattle.class_reader.proofs.class_file.Items.{descriptor_bytes, descriptor_long, descriptor_narrow}
use Rattle.std.specs.Prelude.{Ok, Err}

-- the names of the table are the packages
packages_are : (f t : List ℕ) (s : Seen) (table : List ℕ) → Ordered f t s table → map package_item (map (name_in f) table) ≡ package_items f t s.packages
unfolding package_items
packages_are f t s table p = rw p.names_are

-- ---- the records one behind the other

module _ (f t : List ℕ) (s : Seen) (h : Readable f t s) (o : List ℕ) (at : ℕ) (k : Room o at (descriptor_items f t s)) where
  pub module_room : (d : ℕ) → d ≡ unwrap_or s.descriptor 0 → Room o at (module_items f t (d + 6))
  module_room d ed = rw ed (record { room = omega (arith, k.room, descriptor_long f t s); fits = sym (descriptor_narrow f t s h) ∙ k.fits })

  module _ (table : List ℕ) (p : Ordered f t s table) where
    all_room : at + (length (bytes_of (module_items f t (module_at s))) + (length (bytes_of (map package_item (map (name_in f) table))) + length (bytes_of (main_items f t s.main)))) ≤ length o
    all_room = rw (packages_are f t s table p) (omega (arith, k.room, descriptor_long f t s))

    module _ (d : ℕ) (ed : d ≡ unwrap_or s.descriptor 0) (o₁ : List ℕ) (a : ℕ) (put : Put o at (bytes_of (module_items f t (d + 6))) o₁ a) where
      q : Put o at (bytes_of (module_items f t (module_at s))) o₁ a
      q = rw ed at put

      pub packages_room : a + length (bytes_of (map package_item (map (name_in f) table))) ≤ length o₁
      packages_room =
          second-room o at (bytes_of (module_items f t (module_at s))) (bytes_of (map package_item (map (name_in f) table))) (bytes_of (main_items f t s.main)) all_room o₁ a q

      module _ (o₂ : List ℕ) (b : ℕ) (u : Put o₁ a (bytes_of (map package_item (map (name_in f) table))) o₂ b) where
        pub main-behind : b + length (bytes_of (main_items f t s.main)) ≤ length o₂
        main-behind =
            third-room o at (bytes_of (module_items f t (module_at s))) (bytes_of (map package_item (map (name_in f) table))) (bytes_of (main_items f t s.main)) all_room o₁ a q o₂ b u

        pub items-put : (o₃ : List ℕ) (r : ℕ) → Put o₂ b (bytes_of (main_items f t s.main)) o₃ r → Put o at (bytes_of (descriptor_items f t s)) o₃ r
        items-put o₃ r v =
            rw (descriptor_bytes f t s, ← packages_are f t s table p)
            (put_three o at (bytes_of (module_items f t (module_at s))) (bytes_of (map package_item (map (name_in f) table))) (bytes_of (main_items f t s.main)) all_room o₁ a q o₂ b u o₃ r v)

pub ruleset items-laws = (module_room, packages_room, main-behind, items-put)

-- ---- in an output that may be too short

module _ (f t : List ℕ) (s : Seen) (h : Readable f t s) (table : List ℕ) (p : Ordered f t s table) (size : ℕ) (z : Sized f t s size)
    (n : ℕ) (en : n ≡ length (bytes_of (map package_item (map (name_in f) table)))) (m : ℕ) (em : m ≡ length (bytes_of (main_items f t s.main))) where
  long : size + n + m ≡ length (bytes_of (descriptor_items f t s))
  long =
      let e : n ≡ length (bytes_of (package_items f t s.packages)) = en ∙ rw (packages_are f t s table p) in
      omega (arith, z.sum, em, descriptor_long f t s)

  pub fitted_short : (o : List ℕ) → length o < size + n + m → ItemsFitted (descriptor_items f t s) o o (Err (OutputTooShort (size + n + m)))
  unfolding fitted output_after
  fitted_short o l = record {
    answer = rw long (sym (rw (lt-ltb (length o) (length (bytes_of (descriptor_items f t s))) (rw long at l))));
    output = refl;
  }

  pub fitted-room : (o : List ℕ) → size + n + m ≤ length o → Room o 0 (descriptor_items f t s)
  fitted-room o l = record { room = omega (arith, long); fits = descriptor_narrow f t s h ∙ z.narrow }

  pub fitted-bytes : (o o₁ : List ℕ) (r : ℕ) → size + n + m ≤ length o → Put o 0 (bytes_of (descriptor_items f t s)) o₁ r
      → ItemsFitted (descriptor_items f t s) o o₁ (Ok (size + n + m))
  unfolding fitted output_after
  fitted-bytes o o₁ r l q = record {
    answer = rw long (sym (rw (le-ltb (length o) (length (bytes_of (descriptor_items f t s))) (rw long at l))));
    output = q.bytes;
  }

pub ruleset fitted-laws = (fitted_short, fitted-room, fitted-bytes)

-- ---- where a body may be too long

module _ (f t : List ℕ) (s : Seen) (h : Readable f t s) (size : Option ℕ) (em : size ≡ module_size f t s) where
  measured : size ≡ cond (is_large (module_items f t (module_at s))) None (Some (0 + length (bytes_of (module_items f t (module_at s)))))
  unfolding adding
  measured = em ∙ rw (measure_module_lem f t (module_at s), h.module_good, h.tables_are_good)

  narrow : is_large (descriptor_items f t s) ≡ is_large (module_items f t (module_at s))
  narrow = descriptor_narrow f t s h

  pub read_large : (o : List ℕ) → size ≡ None → ItemsRead (descriptor_items f t s) o o (Err (TooLarge 0))
  unfolding sized output_after
  read_large o e = record { answer = sym (rw narrow (go (is_large (module_items f t (module_at s))) (sym measured ∙ e))); output = refl }
    where
      go : (b : Bool) → cond b None (Some (0 + length (bytes_of (module_items f t (module_at s))))) ≡ None
          → pick_written b (Err (TooLarge 0)) (fitted (length o) (bytes_of (descriptor_items f t s))) ≡ Err (TooLarge 0)
      go true q = refl
      go false q = clash (cc)

  module _ (n : ℕ) (e : size ≡ Some n) where
    module_narrow : is_large (module_items f t (module_at s)) ≡ false
    module_narrow = go (is_large (module_items f t (module_at s))) (sym measured ∙ e)
      where
        go : (b : Bool) → cond b None (Some (0 + length (bytes_of (module_items f t (module_at s))))) ≡ Some n → b ≡ false
        go true q = clash (cc)
        go false q = refl

    size_is : n ≡ length (bytes_of (module_items f t (module_at s)))
    size_is =
        let q : Some (0 + length (bytes_of (module_items f t (module_at s)))) ≡ Some n = rw module_narrow at (sym measured ∙ e) in
        let v : 0 + length (bytes_of (module_items f t (module_at s))) ≡ n = cc in
        omega arith

    pub read-sized : Light size → Sized f t s n
    unfolding Light
    read-sized k = record { sum = size_is; low = k n e; narrow = module_narrow }

    pub read-fitted : (o o₁ : List ℕ) (r : Written) → ItemsFitted (descriptor_items f t s) o o₁ r → ItemsRead (descriptor_items f t s) o o₁ r
    unfolding sized
    read-fitted o o₁ r i = record { answer = i.answer ∙ sym (rw (narrow, module_narrow)); output = i.output }

pub ruleset descriptor_laws = (read_large, read-sized, read-fitted)
