-- The table of the request's roots.
use Prim.Native.Nat.{ℕ, ◌+◌, ◌-◌, ◌*◌, ◌≤◌}
use mathlib.Core.Path.{◌≡◌, refl, ◌∙◌, ap}
use mathlib.Core.Bool.{true}
use mathlib.Core.List.{List, [], map}
use native.Mathlib.Omega.{arith}
use lib.ListN.{length, take, drop}
use lib.Seq.{take-length}
use Rattle.records.specs.Name.{mem_name, name_of}
use Rattle.records.specs.Order.{name_in, is_ordered, NamesInserted}
use Rattle.records.specs.Record.{bodies}
use Rattle.records.specs.Request.{request_of}
use Rattle.records.specs.declared.record.Kind.TheVariants as Kind
use Rattle.records.proofs.order.Ordered.{from-mem}
use Rattle.resolution.specs.Known.{RootsTold}

pub none-sorted : (s table : List ℕ) → is_ordered (map (name_in s) (take 0 table)) ≡ true
unfolding is_ordered
none-sorted s table = refl

pub roots-told : (s before table : List ℕ) (r : ℕ) → length s ≤ 65535 → 16384 ≤ length before
    → NamesInserted s (map name_of (bodies Kind.Root (drop 0 (take (length s) s)))) before table 0 r → 4 * r ≤ 4 * 0 + (length s - 0) → RootsTold s table r
unfolding mem_name request_of
roots-told s before table r h l j few = record {
  room = omega (arith, h, l, few, j.long);
  sorted = j.sorted;
  told = λ x. ap (mem_name x) j.names_are ∙ from-mem x [] (map name_of (bodies Kind.Root (take (length s) s))) ∙ ap (λ (b : List ℕ). mem_name x (map name_of (bodies Kind.Root b))) (take-length s);
}

pub ruleset roots-laws = (none-sorted, roots-told)
