-- `collect_transitive_reads`, which calls itself: the marks are carried by value, and the fuel is any number above that of the
-- names not marked.
use Rattle.std.specs.Prelude.{ℕ, zero, suc, Bool, true, false, List, [], ◌∷◌}
use Rattle.records.specs.Name.{mem_name}
use Rattle.resolution.specs.Lists.{Name}

-- one name after another, with the marks that the one before left
unfoldable pub each : (Name → List Name → List Name) → List Name → List Name → List Name
each g [] marks = marks
each g (n ∷ ns) marks = each g ns (g n marks)

-- a name that is marked is passed over; another is marked, and what its steps lead to is visited
unfoldable pub visited : (Name → List Name → List Name) → (Name → List Name) → Name → List Name → Bool → List Name
unfolding each
visited g onward n marks true = marks
visited g onward n marks false = each g (onward n) (n ∷ marks)

unfoldable pub visit : (Name → List Name) → ℕ → Name → List Name → List Name
unfolding visited mem_name
visit onward zero n marks = marks
visit onward (suc f) n marks = visited (λ x l. visit onward f x l) onward n marks (mem_name n marks)
