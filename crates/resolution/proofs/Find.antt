-- Lookup by name.
use mathlib.Core.Path.{◌≡◌, refl, sym, ap}
use mathlib.Core.Bool.{Bool, true, ◌||◌}
use mathlib.Core.Option.{some}
use mathlib.Core.List.{List, [], ◌∷◌}
use Rattle.records.specs.Bytes.{same_bytes}
use Rattle.records.specs.Descriptor.{Descriptor}
use Rattle.records.specs.Name.{mem_name}
use Rattle.resolution.specs.Lists.{Mem, Name, any}
use Rattle.resolution.specs.Resolution.{find, has_module, names}
use Rattle.resolution.proofs.Lists.{any_in, any_out, first_in, first_out, same→, →same}

pub find-mem : (n : Name) (s : List Descriptor) (m : Descriptor) → find n s ≡ some m → Mem m s × (m.name ≡ n)
unfolding find
find-mem n s m e = let r = first_out (λ (k : Descriptor). same_bytes k.name n) s e in (r.0, sym (same→ n m.name r.1))

pub find_in : (n : Name) (s : List Descriptor) (m : Descriptor) → Mem m s → m.name ≡ n → (k : Descriptor) × (find n s ≡ some k)
unfolding find
find_in n s m h e = first_in (λ (k : Descriptor). same_bytes k.name n) h (→same (sym e))

pub has-find : (n : Name) (s : List Descriptor) (m : Descriptor) → find n s ≡ some m → has_module s n ≡ true
unfolding has_module
has-find n s m e = let r = find-mem n s m e in any_in (λ (k : Descriptor). same_bytes k.name n) r.0 (→same (sym r.1))

pub has_some : (n : Name) (s : List Descriptor) → has_module s n ≡ true → (m : Descriptor) × (find n s ≡ some m)
unfolding has_module
has_some n s h = let r = any_out (λ (k : Descriptor). same_bytes k.name n) s h in find_in n s r.0 r.1 (sym (same→ n r.0.name r.2))

-- the same test, of the names
pub has-names : (s : List Descriptor) (n : Name) → has_module s n ≡ mem_name n (names s)
unfolding has_module any mem_name
has-names [] n = refl
has-names (m ∷ ms) n = ap (λ (b : Bool). same_bytes m.name n || b) (has-names ms n)
