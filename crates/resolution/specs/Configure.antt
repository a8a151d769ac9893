-- What each step from the resolved positions to the configuration leaves.
use Rattle.std.specs.Prelude.{◌≡◌, Bool, true, false, ◌&&◌, List, map, ◌++◌, ℕ, ◌≤◌, ◌<◌, ltb, drop}
use Rattle.records.specs.Descriptor.{Descriptor}
use Rattle.records.specs.Request.{request_of, is_permitted}
use Rattle.records.specs.Set.{modules}
use Rattle.records.specs.Finder.{find_name, is_at}
use Rattle.resolution.specs.Lists.{Name, Mem, any}
use Rattle.resolution.specs.Positions.{module_at, is_visible}
use Rattle.resolution.specs.Row.{holds}
use Rattle.resolution.specs.Configuration.{word_count}
use Rattle.resolution.specs.Resolver.{is_one_of}
use Rattle.resolution.specs.Resolve.{configuration_of}

-- among the names l of the set's modules, one of the names ns finds position i
unfoldable pub is_found_by : List Name → List Name → ℕ → Bool
unfolding find_name is_at any
is_found_by l ns i = any (λ (x : Name). is_at (find_name l x 0) i) ns

-- ws holds those of the positions ps that are below 512, and no other
pub record MemberRow (ps ws : List ℕ) : Type 0 where
  pub each : (k : ℕ) → holds ws k ≡ ltb k 512 && is_one_of k ps

-- the words are those of the modules at the positions ps, and beyond them as they were
pub record Configured (s q : List ℕ) (count : ℕ) (ps before after : List ℕ) : Type 0 where
  pub is : (ms : List Descriptor) → ms ≡ map (module_at (modules s)) ps → ((p : ℕ) → Mem p ps → is_visible (modules s) p ≡ true)
      → after ≡ configuration_of (modules s) (request_of q) ms ++ drop word_count before

-- of the first `count` modules of the set s, ws holds those that the request q permits and that are not hidden
pub record PermittedRow (s q : List ℕ) (count : ℕ) (ws : List ℕ) : Type 0 where
  pub past : (i : ℕ) → count ≤ i → holds ws i ≡ false
  pub each : (i : ℕ) → i < count → holds ws i ≡ is_visible (modules s) i && is_permitted (request_of q) (module_at (modules s) i).name
