-- What the code keeps from turn to turn: the queue with its array, and the tables of names.
use Rattle.std.specs.Prelude.{◌≡◌, true, false, not, ◌&&◌, Option, List, [], ℕ, ◌≤◌, ◌<◌, eqb, length, take, drop}
use Rattle.records.specs.declared.record.Kind.TheVariants as Kind
use Rattle.resolution.specs.Resolver.{inputs_of, is_one_of, is_provider_at, Line, line_at, is_open, Ready}
use Rattle.resolution.specs.Filter.{Covers, asked}
use Rattle.resolution.specs.Table.{NamesTold}
use Rattle.resolution.specs.declared.resolver.Phase.{Phase}
use Rattle.resolution.specs.declared.resolver.Queue.{Queue}
use Rattle.resolution.specs.declared.table.Told.TheVariants.{Services}

-- the packages of the modules resolved are marked
pub record Running (count : ℕ) (set starts order packages : List ℕ) (q : Queue) : Type 0 where
  pub ready : Ready count order q
  pub short : length set ≤ 65535
  pub wide : length packages ≡ 1024
  pub covers : Covers (asked set starts) Kind.Package packages (take q.head order)

-- the array and the queue are this line
pub record Ran (count : ℕ) (set starts order packages : List ℕ) (q : Queue) (l : Line) : Type 0 where
  pub line : line_at order q ≡ l
  pub running : Running count set starts order packages q

-- the providers of services that the first `bound` modules use are in the queue
pub record Bound (phase : Phase) (set starts order : List ℕ) (bound : ℕ) (q : Queue) : Type 0 where
  pub each : (i : ℕ) → i < phase.count → is_provider_at (inputs_of set [] starts [] phase) (take bound order) i ≡ true → is_one_of i (take q.tail order) ≡ true

-- before the providers of a round are queued
pub record Unbound (phase : Phase) (set starts order : List ℕ) (bound : ℕ) (q : Queue) : Type 0 where
  pub short : length set ≤ 65535
  pub ready : Ready phase.count order q
  pub bound_is : Bound phase set starts order bound q
  pub behind : bound ≤ q.head

-- while they are queued
pub record Binding (phase : Phase) (set starts order : List ℕ) (from to : ℕ) (table : List ℕ) (s : Option ℕ) (q : Queue) : Type 0 where
  pub ready : Ready phase.count order q
  pub told : NamesTold Services set starts (drop from (take to order)) table s
  pub bound_is : Bound phase set starts order from q
  pub behind : from ≤ to
  pub within : to ≤ length order

-- between two rounds: the last was made with the first `bound` modules
pub record Between (phase : Phase) (set starts order packages : List ℕ) (bound : ℕ) (q : Queue) : Type 0 where
  pub running : Running phase.count set starts order packages q
  pub bound_is : Bound phase set starts order bound q
  pub behind : bound ≤ q.head

-- after a round: the array and the queue are this line, and the queue goes no further
pub record Rounded (phase : Phase) (set starts order packages : List ℕ) (bound : ℕ) (q : Queue) (l : Line) : Type 0 where
  pub line : line_at order q ≡ l
  pub between : Between phase set starts order packages bound q
  pub off : (is_open q.halt && not (eqb q.head q.tail)) ≡ false
