-- What the check of a set gives its table.
use Rattle.std.specs.Prelude.{◌≡◌, ℕ, List, Ok, refl}
use Rattle.records.specs.Set.{check_set}
use Rattle.records.specs.Sorted.{IndexedSet}
use Rattle.records.specs.declared.set.Checked.{Checked}
use Rattle.resolution.specs.Lookup.{Lookup}
use Rattle.resolution.proofs.Sets.{set-lookup}

module _ (s : List ℕ) (k : Checked) (e : check_set s ≡ Ok k) where
  pub table_checked : check_set s ≡ Ok (record { count = k.count; starts = k.starts })
  table_checked = e

  pub table_lookup : (index : List ℕ) → IndexedSet s (Ok k) index → Lookup s k.starts k.count index
  table_lookup index x = set-lookup s k.count k.starts e index (x.names k refl)
